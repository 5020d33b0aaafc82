-- What a 43 decides, pair by pair.
--     judged-cond     what a pair is judged by
--     accepted-next, refused-here, all-accepted     the outcome: at the first pair that is refused, and where none is
-- Assumes nothing.
use Rattle.tables.specs.declared.columns.Tables.{Tables}
use mathlib.Core.Path.{◌≡◌, refl, sym, ap, subst, subst⁻¹, ◌∙◌}
use mathlib.Core.Bool.{Bool, true, false, cond}
use mathlib.Core.List.{List, [], ◌∷◌, ◌++◌}
use Prim.Native.Nat.{ℕ, zero, suc, ◌+◌}
use native.Mathlib.Omega.{arith}
use lib.Dec.{eqb}
use borrow.Author.Tests.{ne_eqb}
use lib.ListN.{length}
use Rattle.std.specs.Prelude.{Result, Ok, Err, OnOk}
use Rattle.rules.specs.declared.Refusal.{Refusal}
use Rattle.rules.specs.declared.Entry.{Entry}
use Rattle.rules.specs.Limits.{pair_count}
use Rattle.rules.specs.File.{File, IakPair, issue_iak, issue_iaks, subject}
use Rattle.rules.specs.Load.{first, refuse_unless, pairs_at}
use Rattle.rules.specs.State.{State}
use Rattle.rules.specs.Desk.{ek_of, certificates_of, is_among, any_twice, issue_iaks_effect}
use Rattle.rules.specs.Run.{outcome}
use Rattle.theorems.specs.TogetherLaws.{singles, first_refused}
use Rattle.theorems.specs.Judging.{credentials_of, others_end, judged}
use Rattle.theorems.proofs.Together.{PairsAccepted, in_turn_lem, accepted_more, refused_at, none_refused_at}
use Rattle.theorems.proofs.Loading.{PairsFormed}
use Rattle.theorems.proofs.Judging.{judged_pair}
use Rattle.state.specs.View.{view}
use Rattle.state.proofs.Exact.{state_of}
use Rattle.loaded.specs.Loaded.{file_in}
use Rattle.loaded.specs.Entries.{Ledgered}
use Rattle.loaded.proofs.Standing.{checked_here}
use Rattle.together.specs.Ready.{desk_at, returning_at, together_at, TogetherDecided, PairsJudged}
use Rattle.together.proofs.Pairs.{formed_both, apart_at}

-- what a pair is judged by, as tests in their order
pub judged_cond : (f : File) (s : State) (p q : ℕ) (before : List IakPair) (x : IakPair) → judged f s p q before x
    ≡ cond (is_among x.credential (credentials_of before)) 25
    (cond (eqb (outcome f s (issue_iak p q x.credential x.certificate)) 0) (cond (others_end f s.request (subject f x.certificate) (ek_of f (s.request x.credential)) before) 0 31)
    (outcome f s (issue_iak p q x.credential x.certificate)))
unfolding judged first refuse_unless
judged_cond f s p q before x = ap (cond (is_among x.credential (credentials_of before)) 25) (go (outcome f s (issue_iak p q x.credential x.certificate)) (others_end f s.request (subject f x.certificate) (ek_of f (s.request x.credential)) before))
  where
    go : (m : ℕ) (b : Bool) → first m (refuse_unless 31 b) ≡ cond (eqb m 0) (cond b 0 31) m
    go zero b = refl
    go (suc m) b = ap (λ (e : Bool). cond e (cond b 0 31) (suc m)) (sym (ne_eqb (suc m) 0 (λ z. omega arith)))

module _ {bs s : List ℕ} {tables : Tables} {at : ℕ} {all : List IakPair} (v : PairsJudged bs s tables at all) where
  abbrev w : TogetherDecided bs s tables at
  w = v.decided

  formed_all : PairsFormed (file_in bs) all
  formed_all = subst⁻¹ (PairsFormed (file_in bs)) v.read w.here.wellformed.2

  outcome_all : (ledger : List Entry) → outcome (file_in bs) (state_of (view s) ledger) (together_at bs at) ≡ first_refused (file_in bs) (state_of (view s) ledger) (singles (desk_at bs at) (returning_at bs at) all)
  outcome_all ledger = ap (λ (xs : List IakPair). outcome (file_in bs) (state_of (view s) ledger) (issue_iaks (desk_at bs at) (returning_at bs at) xs)) (sym v.read) ∙ in_turn_lem (file_in bs) (state_of (view s) ledger) (desk_at bs at) (returning_at bs at) all v.role v.some v.apart

  pub formed_here : (before : List IakPair) (own : IakPair) (beyond : List IakPair) → all ≡ before ++ (own ∷ beyond) → PairsFormed (file_in bs) before × PairsFormed (file_in bs) (own ∷ beyond)
  formed_here before own beyond split = formed_both (file_in bs) before (own ∷ beyond) (subst (PairsFormed (file_in bs)) split formed_all)

  module _ {entries : ℕ} {ledger : List Entry} (k : Ledgered bs s tables entries ledger) where
    abbrev S : State
    S = state_of (view s) ledger

    module _ (before : List IakPair) (own : IakPair) (beyond : List IakPair) (split : all ≡ before ++ (own ∷ beyond)) (a : PairsAccepted (file_in bs) S (desk_at bs at) (returning_at bs at) before)
        {x : ℕ} (d : x ≡ judged (file_in bs) S (desk_at bs at) (returning_at bs at) before own) where
      -- the outcome of the pair after those before it
      after_those : outcome (file_in bs) (issue_iaks_effect (file_in bs) S (desk_at bs at) (returning_at bs at) before) (issue_iak (desk_at bs at) (returning_at bs at) own.credential own.certificate) ≡ x
      after_those =
          let formed = formed_here before own beyond split in
          judged_pair (file_in bs) (checked_here w.here.holds) S k.sound (desk_at bs at) (returning_at bs at) w.here.wellformed.0 w.here.wellformed.1 before formed.0 a own
          formed.1.0
          (apart_at before own beyond (ap (λ (xs : List IakPair). any_twice (certificates_of xs)) (sym split) ∙ v.apart)) v.role
          ∙ sym d

      pub accepted_next : x ≡ 0 → PairsAccepted (file_in bs) S (desk_at bs at) (returning_at bs at) (before ++ (own ∷ []))
      accepted_next z = accepted_more (file_in bs) (desk_at bs at) (returning_at bs at) before S own a (after_those ∙ z)

      pub refused_here : (x ≡ 0 → ⊥) → x ≡ outcome (file_in bs) S (together_at bs at)
      refused_here n = sym (outcome_all ledger ∙ some_refused x refl)
        where
          some_refused : (m : ℕ) → x ≡ m → first_refused (file_in bs) S (singles (desk_at bs at) (returning_at bs at) all) ≡ x
          some_refused zero q = absurd (n q)
          some_refused (suc m) q =
              ap (λ (xs : List IakPair). first_refused (file_in bs) S (singles (desk_at bs at) (returning_at bs at) xs)) split
              ∙ refused_at (file_in bs) (desk_at bs at) (returning_at bs at) before S own _ m a (after_those ∙ q) ∙ sym q

  pub all_accepted : (ledger : List Entry) → PairsAccepted (file_in bs) (state_of (view s) ledger) (desk_at bs at) (returning_at bs at) all → 0 ≡ outcome (file_in bs) (state_of (view s) ledger) (together_at bs at)
  all_accepted ledger a =
      sym (outcome_all ledger ∙ none_refused_at (file_in bs) (desk_at bs at) (returning_at bs at) all (state_of (view s) ledger) a)

-- what holds whatever is answered
pub always : (r : Result Unit Refusal) {P : Type 0} → P → OnOk r P
always (Ok a) p = p
always (Err e) p = tt
