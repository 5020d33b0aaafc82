use Rattle.decimal.proofs.Spelling.{Counting}
use Rattle.decimal.proofs.digit_count.Given as goal

abbrev pub invariant-loop-n : goal.invariant-loop-n
invariant-loop-n l = Counting l.x l.n
