-- What registers show while they are filled, before the first command.
use Rattle.std.specs.Prelude.{cond, ◌&&◌, List, ℕ, eqb, ltb, drop}
use Rattle.rules.specs.Limits.{device, empty_field}
use Rattle.rules.specs.File.{File, is_role}
use Rattle.rules.specs.State.{starting_at}
use Rattle.loaded.specs.Loaded.{Holds}

-- a file that loads, into whatever state
abbrev pub Loads : List ℕ → Type 0
Loads bs = (s : List ℕ) × Holds bs s

-- a register of each device among the first n parties replaced
unfoldable pub shown_by_devices : File → (ℕ → ℕ → ℕ) → ℕ → ℕ → ℕ → ℕ → ℕ → ℕ
shown_by_devices f registers n i r q j = cond (ltb q n && is_role f device q && eqb j i) r (registers q j)

-- what registers show by the terms from n on
unfoldable pub start_from : File → ℕ → ℕ → ℕ → ℕ
start_from f n p i = cond (is_role f device p) (starting_at (drop n f.terms) i n) empty_field
