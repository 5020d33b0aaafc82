use mathlib.Core.Path.{refl, sym, ap, ◌∙◌}
use Rattle.together.specs.Pairs.{pairs_of}
use Rattle.together.specs.Ready.{returning_at}
use Rattle.together.proofs.Pairs.{pairs_from, pairs_past}
use Rattle.together.proofs.Issuing.{issuing_start, issuing_as, pair_ready, pair_adds, issuing_filled, issuing_ends}
use Rattle.together.proofs.effect.Goals as goal

pub loop-pair-init : goal.loop-pair-init
loop-pair-init c w = issuing_as (sym (ap pairs_of c.as_slice-pairs.ensures.value ∙ c.pairs_at-read.ensures)) (sym c.new-gained.ensures) (issuing_start w)

pub effect_issue_iak-e-requires : goal.effect_issue_iak-e-requires
effect_issue_iak-e-requires c =
    let v = issuing_as (pairs_from _ _ (record { credential = 0; certificate = 0 }) c.loop-pair-test.true) refl (c.loop-pair.invariant c.requires) in
    rw c.len.ensures.value (v.holds, pair_ready v)

pub push-requires : goal.push-requires
push-requires c =
    let v = issuing_as (pairs_from _ _ (record { credential = 0; certificate = 0 }) c.loop-pair-test.true) refl (c.loop-pair.invariant c.requires) in
    pair_adds v

pub loop-pair-preserved : goal.loop-pair-preserved
loop-pair-preserved c w =
    let v = issuing_as (pairs_from _ _ (record { credential = 0; certificate = 0 }) c.loop-pair-test.true) refl (c.loop-pair.invariant w) in
    issuing_filled v (rw c.len.ensures.value at (c.effect_issue_iak-e.ensures (returning_at c.args.file.now c.args.at))) c.push.ensures.items c.effect_issue_iak-e.auto.state

pub returns : goal.returns
returns c = issuing_ends c.requires (λ w. issuing_as (pairs_past _ _ c.loop-pair-test.false) refl (c.loop-pair.invariant w))
