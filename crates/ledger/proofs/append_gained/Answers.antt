-- A place that is used gets its entry; the walk over those that are not leaves the ledger as it is. Assumes nothing.
use mathlib.Core.Path.{sym, ap, ◌∙◌}
use native.Mathlib.Omega.{arith}
use Rattle.std.proofs.Common.{length}
use Rattle.ledger.specs.Placed.{puts}
use Rattle.ledger.proofs.Placed.{least_none, least_all, puts_next, puts_past}
use Rattle.ledger.proofs.append_gained.Goals as goal
use Rattle.ledger.proofs.append_gained.Goals.{then-i-count, else-i-count}

pub loop-i-init : goal.loop-i-init
loop-i-init c = sym (least_none c.args.ledger.now c.args.from c.args.gained.now.items)

pub loop-i-preserved : goal.loop-i-preserved
loop-i-preserved c =
    let gs = c.args.gained.now.items in
    elim c.if-i-count.branch [
      | then-i-count w ↦ w.ledger-is ∙ w.append.ensures
          ∙ (rw (w.as_slice.ensures.value, c.loop-i.invariant) (puts_next c.args.ledger.now c.args.from gs c.loop-i.i (length gs) (omega (arith, w.if-i-count.true, c.len-count.ensures.value))))
      | else-i-count w ↦ w.ledger-is ∙ c.loop-i.invariant ∙ puts_past c.args.ledger.now c.args.from gs c.loop-i.i (length gs) (omega (arith, w.if-i-count.false, c.len-count.ensures.value))
    ]

pub returns : goal.returns
returns c = c.loop-i.invariant ∙ ap (puts c.args.ledger.now c.args.from c.args.gained.now.items) (least_all c.loop-i.i (length c.args.gained.now.items) (omega (arith, c.loop-i-test.false, c.len-count.ensures.fits, c.len-count.ensures.value)))
