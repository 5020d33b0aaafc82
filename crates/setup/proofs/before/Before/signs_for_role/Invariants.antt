use Rattle.std.proofs.Common.{◌≡◌, false}
use Rattle.tables.specs.Columns.{tables_in}
use Rattle.setup.specs.Allowed.{signs_there}
use Rattle.setup.proofs.before.Before.signs_for_role.Given as goal

-- none of the parties passed
abbrev pub invariant-loop-p : goal.invariant-loop-p
invariant-loop-p l = signs_there l.self.file.now (tables_in l.self.tables.now).signer l.role l.key l.p ≡ false
