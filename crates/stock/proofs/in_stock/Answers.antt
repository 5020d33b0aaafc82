use Rattle.std.proofs.Common.{arith}
use Rattle.rules.specs.Stock.{in_stock}
use Rattle.stock.proofs.Counting.{number_here}
use Rattle.stock.proofs.in_stock.Goals as goal

pub returns-then-knowers_of-eq1 : goal.returns-then-knowers_of-eq1
unfolding in_stock
returns-then-knowers_of-eq1 c ledger =
    grind (arith, number_here c.requires.0, c.if-knows.branch)
