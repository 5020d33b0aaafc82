use Rattle.std.proofs.Common.{◌≡◌, ◌≤◌, length}
use Rattle.rules.specs.Load.{pairs_at}
use Rattle.together.specs.Pairs.{pairs_of}
use Rattle.together.proofs.pairs_at.Given as goal

abbrev pub invariant-loop-j : goal.invariant-loop-j
invariant-loop-j l = (pairs_of l.pairs.items ≡ pairs_at l.j l.file l.first) × (length l.pairs.items ≤ l.j)
