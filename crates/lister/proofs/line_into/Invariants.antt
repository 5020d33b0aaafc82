use lib.ListN.{drop}
use Rattle.rules.specs.Listing.{line, numbers}
use Rattle.decimal.proofs.Writing.{Rest}
use Rattle.lister.proofs.line_into.Given as goal

abbrev pub invariant-loop-x : goal.invariant-loop-x
invariant-loop-x l = Rest l.fn.out l.at (line l.letter l.numbers) l.out l.next (numbers (drop l.x-index l.numbers))
