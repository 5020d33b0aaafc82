use Rattle.std.proofs.Common.{arith}
use Rattle.std.proofs.lemmas.Grind.{common_steps}
use Rattle.rules.specs.Lent.{in_numbers}
use Rattle.asking.proofs.answer.Goals as goal

pub returns-in_ok-boards-in-Stock : goal.returns-in_ok-boards-in-Stock
unfolding in_numbers
returns-in_ok-boards-in-Stock c ledger = grind (arith, common_steps, c.boards_left.ensures ledger)

pub returns-in_err-boards-in-Stock : goal.returns-in_err-boards-in-Stock
unfolding in_numbers
returns-in_err-boards-in-Stock c ledger = grind (arith, common_steps, c.boards_left.ensures ledger)
