use mathlib.Core.Path.{◌≡◌, sym, ap, subst, ◌∙◌}
use Rattle.std.proofs.Common.{arith, rules}
use Rattle.theorems.proofs.Loading.{PairsFormed}
use Rattle.state.specs.View.{view}
use Rattle.loaded.specs.Loaded.{file_in}
use Rattle.loaded.proofs.Standing.{kind_declared}
use Rattle.together.specs.Pairs.{PairsRequested}
use Rattle.together.proofs.Pairs.{pairs_from, pairs_past, ends_stop, ends_same, ends_other, ends_none}
use Rattle.together.proofs.others_end.Goals as goal
use Rattle.together.proofs.others_end.Goals.{else-eq-via-then-eq+else-ek_asked-ek, else-eq-via-else-eq}

pub ek_asked-requires : goal.ek_asked-requires
ek_asked-requires c =
    let f = file_in c.args.loaded.now.file.now in
    let e = pairs_from c.args.pairs.now c.loop-x.x-index (record { credential = 0; certificate = 0 }) c.loop-x-test.true in
    let formed = subst (PairsFormed f) e c.loop-x.invariant.0 in
    let requested = subst (PairsRequested f (view c.args.state.now).request) e c.loop-x.invariant.1 in
    (c.requires.0, kind_declared _ formed.0 (λ q. omega arith), requested.0)

pub returns-then-ek_asked-ek : goal.returns-then-ek_asked-ek
returns-then-ek_asked-ek c =
    let e = pairs_from c.args.pairs.now c.loop-x.x-index (record { credential = 0; certificate = 0 }) c.loop-x-test.true in
    let q : c.certificate.result.subject ≡ c.args.wanted = search rules in
    sym (c.loop-x.invariant.2 ∙ ends_stop _ _ _ _ _ _ e (sym c.certificate.ensures.subject ∙ q) (λ h. c.if-ek_asked-ek.true (c.ek_asked.ensures ∙ h)))

pub loop-x-preserved : goal.loop-x-preserved
loop-x-preserved c =
    let f = file_in c.args.loaded.now.file.now in
    let e = pairs_from c.args.pairs.now c.loop-x.x-index (record { credential = 0; certificate = 0 }) c.loop-x-test.true in
    let formed = subst (PairsFormed f) e c.loop-x.invariant.0 in
    let requested = subst (PairsRequested f (view c.args.state.now).request) e c.loop-x.invariant.1 in (
      formed.2,
      requested.1,
      elim c.else-eq.branch [
        | else-eq-via-then-eq+else-ek_asked-ek w ↦ c.loop-x.invariant.2 ∙ ends_same _ _ _ _ _ _ e (sym w.ek_asked.ensures ∙ w.if-ek_asked-ek.false)
        | else-eq-via-else-eq w ↦
            let n : c.certificate.result.subject ≡ c.args.wanted → ⊥ = search rules in
            c.loop-x.invariant.2 ∙ ends_other _ _ _ _ _ _ e (λ h. n (c.certificate.ensures.subject ∙ h))
      ],
    )

pub returns : goal.returns
returns c = sym (c.loop-x.invariant.2 ∙ ends_none _ _ _ _ (pairs_past _ _ c.loop-x-test.false))
