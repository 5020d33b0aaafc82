use native.Mathlib.Omega.{arith}
use Rattle.decimal.proofs.Spelling.{decimal_short, spelling_start, spelling_below, spelling_digit, spelling_room, spelling_next, spelling_last}
use Rattle.decimal.proofs.decimal_into.Goals as goal

pub loop-n-init : goal.loop-n-init
loop-n-init c =
    let e = c.digit_count-n.ensures in
    (omega (arith, decimal_short c.args.x (omega arith)), spelling_start _ _ _ _ (omega arith) e)

pub take_away-taken-requires : goal.take_away-taken-requires
take_away-taken-requires c =
    let w = c.loop-n.invariant in
    omega (arith, spelling_below w.1 w.0, c.power_of_ten.ensures)

pub loop-n-preserved : goal.loop-n-preserved
loop-n-preserved c =
    let w = c.loop-n.invariant in
    let p = c.power_of_ten.ensures in
    let t = c.take_away-taken.ensures in
    (omega arith, spelling_next w.1 w.0 p t c.byte_into-next.ensures)

pub overflow_cast-left : goal.overflow_cast-left
overflow_cast-left c =
    let w = c.loop-n.invariant in
    omega (arith, spelling_digit w.1 w.0 (omega arith))

pub overflow_add-left : goal.overflow_add-left
overflow_add-left c =
    let w = c.loop-n.invariant in
    omega (arith, spelling_digit w.1 w.0 (omega arith))

pub returns : goal.returns
returns c =
    let w = c.loop-n.invariant in
    spelling_last w.1 w.0 (omega arith) c.byte_into.ensures
