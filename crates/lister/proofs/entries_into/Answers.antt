use Rattle.std.proofs.Common.{arith}
use Rattle.lister.proofs.Parts.{lines_start, lines_next}
use Rattle.lister.proofs.entries_into.Goals as goal

pub loop-i-init : goal.loop-i-init
loop-i-init c = lines_start _ _ _ _

pub loop-i-preserved : goal.loop-i-preserved
loop-i-preserved c = lines_next c.loop-i.invariant (omega (arith, c.loop-i-test.true)) c.requires.0 c.read_one.ensures c.ledger_line-next.ensures.written c.ledger_line-next.ensures.upper_bound
