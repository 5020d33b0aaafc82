-- The term of a record at a place of the file, and what learning it leaves.
use Rattle.std.specs.Prelude.{◌≡◌, List, ℕ, suc, ◌+◌, ◌<◌, ◌≤◌, length, get_or, take, drop}
use Rattle.rules.specs.declared.Term.{Term}
use Rattle.rules.specs.Term.{parts_of}
use Rattle.rules.specs.Record.{section_of, body_length, term_section}
use Rattle.rules.specs.Load.{term_at}
use Rattle.rules.specs.Learning.{Knowledge, opened}

-- the kind byte at a place
abbrev pub kind_there : List ℕ → ℕ → ℕ
kind_there bs at = get_or bs at 0

-- the term of the record at a place
unfoldable pub term_there : List ℕ → ℕ → Term
term_there bs at = term_at (kind_there bs at) (take (body_length (kind_there bs at)) (drop (at + 1) bs))

-- a whole term record stands at a place
pub record TermRecord (bs : List ℕ) (at : ℕ) : Type 0 where
  pub first : at < length bs
  pub is_term : section_of (kind_there bs at) ≡ term_section
  pub rest : at + 1 + body_length (kind_there bs at) ≤ length bs

-- the parts of each term, by the place of its record
unfoldable pub parts_there : List ℕ → (ℕ → ℕ) → ℕ → List ℕ
parts_there bs place u = parts_of (term_there bs (place u))

-- party p learns t, by the terms' records
unfoldable pub learn_there : List ℕ → (ℕ → ℕ) → ℕ → ℕ → Knowledge → Knowledge
learn_there bs place p t known = opened (parts_there bs place) p (suc t) t known
