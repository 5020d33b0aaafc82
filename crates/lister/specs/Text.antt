-- How much room lines take, and a listing in lent bytes.
use Rattle.std.specs.Prelude.{◌≡◌, List, ℕ, ◌+◌, ◌*◌, ◌≤◌, take, drop}
use Rattle.rules.specs.Limits.{command_limit, term_limit}

-- bytes of the longest lines of a refused command, of an entry, of the totals and of a file that is not loaded:
-- "R 8191 255", "I 65535 65535 65535", "T 4294967295 4294967295 1024", "F 4294967295 4294967295"
abbrev pub refusal_bytes : ℕ
refusal_bytes = 11

abbrev pub entry_bytes : ℕ
entry_bytes = 20

abbrev pub total_bytes : ℕ
total_bytes = 29

abbrev pub fault_bytes : ℕ
fault_bytes = 24

-- bytes that are enough for the listing of every file
abbrev pub listing_bytes : ℕ
listing_bytes = command_limit * refusal_bytes + term_limit * entry_bytes + total_bytes

-- A text stands in front, and the rest is as it was.
pub record Listed (text before after : List ℕ) (next : ℕ) : Type 0 where
  pub inside : next ≤ listing_bytes
  pub front : take next after ≡ text
  pub rest : drop next after ≡ drop next before
