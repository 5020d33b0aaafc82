use Rattle.std.proofs.Common.{◌≡◌}
use Rattle.ledger.specs.Placed.{cleared}
use Rattle.ledger.proofs.clear.Given as goal

abbrev pub invariant-loop-at : goal.invariant-loop-at
invariant-loop-at l = l.ledger ≡ cleared l.fn.ledger l.at
