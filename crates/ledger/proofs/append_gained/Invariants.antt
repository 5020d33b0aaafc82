use Rattle.std.proofs.Common.{◌≡◌, length}
use Rattle.ledger.specs.Placed.{puts}
use Rattle.ledger.proofs.Placed.{least}
use Rattle.ledger.proofs.append_gained.Given as goal

abbrev pub invariant-loop-i : goal.invariant-loop-i
invariant-loop-i l = l.ledger ≡ puts l.fn.ledger l.from l.gained.items (least l.i (length l.gained.items))
