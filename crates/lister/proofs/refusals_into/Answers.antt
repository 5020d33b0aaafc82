use mathlib.Core.Path.{refl, subst, ◌∙◌}
use Prim.Native.Nat.{ℕ, ◌<◌}
use lib.Seq.{get_or-take, length-take-le}
use Rattle.std.proofs.Common.{arith}
use Rattle.decimal.specs.Text.{Written}
use Rattle.lister.specs.Parts.{outcome_line}
use Rattle.decimal.proofs.Writing.{written_length}
use Rattle.lister.proofs.Parts.{refusals_start, refusals_next}
use Rattle.lister.proofs.refusals_into.Goals as goal

pub loop-i-init : goal.loop-i-init
loop-i-init c = record { within = omega arith; near = omega arith; size = refl; written = refusals_start _ _ c.args.outcomes.now }

pub loop-i-preserved : goal.loop-i-preserved
loop-i-preserved c =
    let l = c.loop-i in
    let w = c.outcome_line-next.ensures in
    let v = l.invariant in
    let n = length-take-le c.args.n c.args.outcomes.now c.requires.0 in
    let i : l.i < c.args.n = omega (arith, c.loop-i-test.true, n) in
    let x = subst (λ (k : ℕ). Written l.out l.next (outcome_line l.i k) c.outcome_line-next.new.out c.outcome_line-next.result) (get_or-take c.args.n c.args.outcomes.now l.i 0 i) w.written in
    record {
      within = omega (arith, i);
      near = omega (arith, w.upper_bound, v.near);
      size = written_length w.written ∙ v.size;
      written = refusals_next _ _ _ l.i (omega (arith, i, c.requires.0)) v.written x;
    }
