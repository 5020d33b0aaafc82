use Rattle.std.proofs.Common.{arith}
use Rattle.command_loop.proofs.Keeping.{keeps_start, keeps_next, keeps_ends}
use Rattle.command_loop.proofs.run_commands.Goals as goal

pub loop-p-init : goal.loop-p-init
loop-p-init c = keeps_start _ _ _ _ _ _ _ _ c.requires c.start-p.ensures

pub loop-p-preserved : goal.loop-p-preserved
loop-p-preserved c = keeps_next c.requires c.loop-p.invariant (omega (arith, c.loop-p-test.true)) _ _ c.turn_within-turned.ensures _ c.append_gained.ensures

pub returns : goal.returns
returns c = keeps_ends c.requires c.loop-p.invariant (omega (arith, c.loop-p-test.false))
