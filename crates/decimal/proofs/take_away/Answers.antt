use native.Mathlib.Omega.{arith}
use Rattle.decimal.proofs.Taking.{taking_few, taking_next}
use Rattle.decimal.proofs.take_away.Goals as goal

pub overflow_add-times : goal.overflow_add-times
overflow_add-times c = omega (arith, taking_few _ _ _ _ c.loop-left.invariant c.requires)

pub loop-left-preserved : goal.loop-left-preserved
loop-left-preserved c = taking_next _ _ _ _ c.loop-left.invariant (omega (arith, c.loop-left-test.true))

pub returns : goal.returns
returns c =
    let w = c.loop-left.invariant in
    record { whole = w; digit = taking_few _ _ _ _ w c.requires; less = omega (arith, c.loop-left-test.false) }
