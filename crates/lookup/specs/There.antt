-- The command of a record, by the bytes alone.
use Rattle.std.specs.Prelude.{List, ℕ, ◌+◌, take, drop}
use Rattle.rules.specs.Record.{body_length}
use Rattle.rules.specs.File.{Command}
use Rattle.rules.specs.Load.{command_at}
use Rattle.learning.specs.There.{kind_there}

-- the command whose record stands at a place
unfoldable pub command_there : List ℕ → ℕ → Command
command_there bs at = command_at (kind_there bs at) (take (body_length (kind_there bs at)) (drop (at + 1) bs))
