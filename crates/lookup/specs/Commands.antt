-- The commands of a file, by the bytes alone.
use Rattle.std.specs.Prelude.{cond, List, [], ◌∷◌, ◌≡◌, ℕ, zero, suc, ◌≤◌, eqb, ltb, length}
use Rattle.rules.specs.Record.{section_of, command_section}
use Rattle.rules.specs.File.{Command}
use Rattle.learning.specs.There.{kind_there}
use Rattle.reader.specs.Place.{next_place, RecordAt}
use Rattle.lookup.specs.There.{command_there}

-- n commands, whose records stand one after the other from a place on
unfoldable pub commands_there : List ℕ → ℕ → ℕ → List Command
commands_there bs at zero = []
commands_there bs at (suc n) = command_there bs at ∷ commands_there bs (next_place bs at) n

-- the place of the first command's record from a place on, or the file's end; the first number bounds how many records
-- are passed
unfoldable pub commands_from : ℕ → List ℕ → ℕ → ℕ
commands_from zero bs at = length bs
commands_from (suc n) bs at =
    let later = commands_from n bs (next_place bs at) in
    cond (ltb at (length bs)) (cond (eqb (section_of (kind_there bs at)) command_section) at later) (length bs)

-- the commands whose records stand from a place on, at most n of them, up to the file's end: what a loop over commands
-- has left
unfoldable pub commands_left : List ℕ → ℕ → ℕ → List Command
commands_left bs at zero = []
commands_left bs at (suc n) = cond (ltb at (length bs)) (command_there bs at ∷ commands_left bs (next_place bs at) n) []

-- a whole command's record stands at a place, and something is known of the command
pub record CommandAt (P : Command → Type 0) (bs : List ℕ) (at : ℕ) : Type 0 where
  pub whole : RecordAt bs at
  pub is_command : section_of (kind_there bs at) ≡ command_section
  pub known : P (command_there bs at)

-- the records of m commands stand from a place on, and then the file ends
unfoldable pub Stand : (Command → Type 0) → List ℕ → ℕ → ℕ → Type 0
Stand P bs at zero = length bs ≤ at
Stand P bs at (suc m) = CommandAt P bs at × Stand P bs (next_place bs at) m

-- commands' records alone stand from a place on
abbrev pub Commands : (Command → Type 0) → List ℕ → ℕ → Type 0
Commands P bs at = (m : ℕ) × Stand P bs at m
