use Rattle.std.proofs.Common.{◌≡◌, drop}
use Rattle.rules.specs.Desk.{certificates_of, any_twice}
use Rattle.together.specs.Pairs.{pairs_of}
use Rattle.together.proofs.any_twice.Given as goal

abbrev pub invariant-loop-i : goal.invariant-loop-i
invariant-loop-i l = any_twice (certificates_of (pairs_of l.pairs)) ≡ any_twice (certificates_of (pairs_of (drop l.i l.pairs)))
