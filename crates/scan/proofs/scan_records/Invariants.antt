use mathlib.Core.Path.{◌≡◌}
use Prim.Native.Nat.{◌-◌}
use lib.ListN.{length, drop}
use Rattle.tables.specs.Columns.{tables_in}
use Rattle.checks.proofs.Fields.{Walk}
use Rattle.lookup.specs.Commands.{commands_from}
use Rattle.scan.specs.Describes.{Stands}
use Rattle.scan.proofs.scan_records.Given as goal

abbrev pub invariant-records : goal.invariant-records
invariant-records l = record {
  stands : Stands l.file l.state l.links l.tables l.n l.at;
  size : length l.state ≡ length l.initial.state;
  first : commands_from (length l.file) l.file l.at ≡ commands_from (length l.file) l.file 0;
}

abbrev pub decreases-records : goal.decreases-records
decreases-records l = length l.file - l.at

abbrev pub invariant-loop-field : goal.invariant-loop-field
invariant-loop-field l = record { walk : Walk (tables_in l.declared.tables.now).terms l.declared.parties l.declared.terms l.kind l.body (drop l.field-index l.field-items) l.offset }
