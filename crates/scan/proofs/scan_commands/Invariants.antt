use mathlib.Core.Path.{◌≡◌}
use mathlib.Core.List.{List}
use Prim.Native.Nat.{ℕ, ◌-◌, ◌<◌}
use lib.ListN.{length, drop}
use Rattle.tables.specs.Columns.{tables_in}
use Rattle.checks.proofs.Fields.{Walk}
use Rattle.scan.specs.Describes.{Stands}
use Rattle.scan.proofs.Commands.{Begun}
use Rattle.scan.proofs.scan_commands.Given as goal

abbrev pub invariant-commands : goal.invariant-commands
invariant-commands l = record {
  stands : (state links : List ℕ) → Stands l.file state links l.tables l.fn.before.tally l.fn.before.first → Stands l.file state links l.tables l.n l.at;
  begun : l.at < length l.file → Begun l.file l.n l.at;
  parties : l.n.parties ≡ l.declared.1.0;
  terms : l.n.terms ≡ l.declared.1.1.0;
}

abbrev pub decreases-commands : goal.decreases-commands
decreases-commands l = length l.file - l.at

abbrev pub invariant-loop-operand : goal.invariant-loop-operand
invariant-loop-operand l = record { walk : Walk (tables_in l.declared.0.now).terms l.declared.1.0 l.declared.1.1.0 l.kind l.body (drop l.operand-index l.operand-items) l.offset }
