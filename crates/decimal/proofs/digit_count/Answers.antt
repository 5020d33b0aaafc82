use mathlib.Core.Path.{◌≡◌}
use native.Mathlib.Omega.{arith}
use Rattle.decimal.proofs.Spelling.{counting_end}
use Rattle.decimal.proofs.digit_count.Goals as goal

pub returns-then-x-power_of_ten : goal.returns-then-x-power_of_ten
returns-then-x-power_of_ten c = counting_end _ _ c.loop-n.invariant (omega arith) (omega (arith, c.if-x-power_of_ten.true, c.power_of_ten.ensures))

pub returns : goal.returns
returns c =
    let e : c.loop-n.n ≡ 20 = omega arith in
    counting_end _ 20 (rw e at c.loop-n.invariant) (omega arith) (omega arith)
