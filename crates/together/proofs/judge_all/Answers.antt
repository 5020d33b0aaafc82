use mathlib.Core.Path.{◌≡◌, refl, sym, subst, subst⁻¹, ◌∙◌}
use mathlib.Core.List.{List}
use Prim.Native.Nat.{ℕ}
use Rattle.std.proofs.Common.{rules, length, take}
use Rattle.rules.specs.Codes.{number_in}
use Rattle.rules.specs.File.{IakPair}
use Rattle.theorems.proofs.Together.{PairsAccepted}
use Rattle.state.specs.View.{view}
use Rattle.state.proofs.Exact.{state_of}
use Rattle.loaded.specs.Loaded.{file_in}
use Rattle.together.specs.Pairs.{PairsRequested}
use Rattle.together.specs.Ready.{desk_at, returning_at}
use Rattle.together.proofs.Pairs.{pairs_around, pairs_next, pairs_all, requested_more}
use Rattle.together.proofs.Deciding.{formed_here, accepted_next, refused_here, all_accepted}
use Rattle.together.proofs.judge_all.Goals as goal

pub judge-requires : goal.judge-requires
judge-requires c =
    let around = pairs_around c.args.pairs.now c.loop-i.i (record { credential = 0; certificate = 0 }) c.loop-i-test.true in
    let formed = formed_here c.requires _ _ _ around in
    record { decided = c.requires.decided; formed = formed.0; requested = c.loop-i.invariant.0; credential = formed.1.0; certificate = formed.1.1 }

pub returns-in_err-judge : goal.returns-in_err-judge
returns-in_err-judge c n ledger k =
    let around = pairs_around c.args.pairs.now c.loop-i.i (record { credential = 0; certificate = 0 }) c.loop-i-test.true in
    let e : number_in c.from_residual.result ≡ number_in c.judge.result = search rules in
    e ∙ refused_here c.requires k _ _ _ around (c.loop-i.invariant.1 n ledger k) (c.judge.ensures.judged n ledger k) (search rules)

pub loop-i-preserved : goal.loop-i-preserved
loop-i-preserved c =
    let around = pairs_around c.args.pairs.now c.loop-i.i (record { credential = 0; certificate = 0 }) c.loop-i-test.true in
    let next = pairs_next c.args.pairs.now c.loop-i.i (record { credential = 0; certificate = 0 }) c.loop-i-test.true in
    let f = file_in c.args.loaded.now.file.now in (
      subst⁻¹ (PairsRequested f (view c.args.state.now).request) next (requested_more _ _ _ _ c.loop-i.invariant.0 c.in_ok-judge.ensures.requested),
      (λ entries ledger k. subst⁻¹ (PairsAccepted f (state_of (view c.args.state.now) ledger) (desk_at c.args.loaded.now.file.now c.args.at) (returning_at c.args.loaded.now.file.now c.args.at)) next
          (accepted_next c.requires k _ _ _ around (c.loop-i.invariant.1 entries ledger k) (c.in_ok-judge.ensures.judged entries ledger k) refl)),
    )

pub returns : goal.returns
returns c n ledger k =
    let f = file_in c.args.loaded.now.file.now in
    all_accepted c.requires ledger
    (subst (PairsAccepted f (state_of (view c.args.state.now) ledger) (desk_at c.args.loaded.now.file.now c.args.at) (returning_at c.args.loaded.now.file.now c.args.at)) (pairs_all _ _ c.loop-i-test.false) (c.loop-i.invariant.1 n ledger k))
