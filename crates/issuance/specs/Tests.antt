-- What an issue asks of an entry of a certificate.
use Rattle.std.specs.Prelude.{not, List, [], ◌∷◌, ℕ, ◌+◌, leb}
use Rattle.rules.specs.declared.Entry.{Entry}
use Rattle.rules.specs.Limits.{depth_limit}
use Rattle.rules.specs.Refusals.{Test, need}
use Rattle.rules.specs.declared.Subject.{Subject}
use Rattle.rules.specs.File.{File}
use Rattle.rules.specs.State.{listed, depth_of}
use Rattle.rules.specs.Desk.{all_end_at}

-- of an IAK certificate, by its Subject and its EK
unfoldable pub iak_entry_tests : File → List Entry → ℕ → Subject → ℕ → List Test
iak_entry_tests f ledger r wanted ek =
    need 28 (not (listed ledger r))
    ∷ need 31 (all_end_at f ledger wanted ek ledger)
    ∷ []

-- of one below its parent's
unfoldable pub entry_tests : List Entry → ℕ → ℕ → List Test
entry_tests ledger r parent =
    need 28 (not (listed ledger r))
    ∷ need 29 (leb (depth_of ledger parent + 1) depth_limit)
    ∷ []
