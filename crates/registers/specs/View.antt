-- What the registers of every party's TPM show, and how the lent bytes hold it: two bytes each, high byte first, party
-- p's from byte 48p (request 6 of document 02).
use Rattle.std.specs.Prelude.{cond, ◌&&◌, List, ℕ, ◌+◌, ◌*◌, eqb, ltb}
use Rattle.rules.specs.Limits.{party_limit, register_count, register_width, empty_field}
use Rattle.rules.specs.Record.{word}

-- where a register of a party stands
abbrev pub register_at : ℕ → ℕ → ℕ
register_at p i = register_width * p + 2 * i

-- what the bytes show; a register or a party that there is not shows nothing
unfoldable pub registers_in : List ℕ → ℕ → ℕ → ℕ
registers_in bs p i = cond (ltb p party_limit && ltb i register_count) (word bs (register_at p i)) empty_field

-- one register replaced
unfoldable pub shown_at : (ℕ → ℕ → ℕ) → ℕ → ℕ → ℕ → ℕ → ℕ → ℕ
shown_at registers p i r q j = cond (eqb q p && eqb j i) r (registers q j)
