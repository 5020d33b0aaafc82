use Prim.Native.Nat.{◌<◌}
use Rattle.decimal.proofs.Spelling.{Spelling}
use Rattle.decimal.proofs.decimal_into.Given as goal

abbrev pub invariant-loop-n : goal.invariant-loop-n
invariant-loop-n l = (0 < l.n) × Spelling l.fn.out l.at l.x l.out l.left l.n l.next
