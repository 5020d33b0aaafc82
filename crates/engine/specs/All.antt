-- "Runs all commands": a call above Run runs command_limit of them, and no file that loads has more.
use Rattle.std.specs.Prelude.{◌≡◌, List, length, ℕ}
use Rattle.rules.specs.Limits.{command_limit}
use Rattle.rules.specs.File.{File}
use Rattle.rules.specs.Load.{loaded, load}
use Rattle.rules.specs.Run.{reached, outcomes_of}

abbrev pub AllCommands : Type 0
AllCommands =
    (bytes : List ℕ) (f : File) → load bytes ≡ loaded f
    → (reached f command_limit ≡ reached f (length f.commands)) × (outcomes_of f command_limit ≡ outcomes_of f (length f.commands))
