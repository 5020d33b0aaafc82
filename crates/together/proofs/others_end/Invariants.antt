use Rattle.std.proofs.Common.{◌≡◌, drop}
use Rattle.theorems.specs.Judging.{others_end}
use Rattle.theorems.proofs.Loading.{PairsFormed}
use Rattle.state.specs.View.{view}
use Rattle.loaded.specs.Loaded.{file_in}
use Rattle.together.specs.Pairs.{pairs_of, PairsRequested}
use Rattle.together.proofs.others_end.Given as goal

abbrev pub invariant-loop-x : goal.invariant-loop-x
invariant-loop-x l =
    PairsFormed (file_in l.loaded.file.now) (pairs_of (drop l.x-index l.pairs))
    × PairsRequested (file_in l.loaded.file.now) (view l.state).request (pairs_of (drop l.x-index l.pairs))
    × (others_end (file_in l.loaded.file.now) (view l.state).request l.wanted l.ek (pairs_of l.pairs) ≡ others_end (file_in l.loaded.file.now) (view l.state).request l.wanted l.ek (pairs_of (drop l.x-index l.pairs)))
