-- The pairs of a 43 (request 4 of document 02).
--     PairsAccepted, pairs-accepted     a 43 is accepted where each pair is, after those before it
--     refused-13, refused-32, in-turn   its outcome, by its pairs
--     all-issued, in_order              what an accepted one leaves
--     together-laws                     the laws of specs/TogetherLaws.antt
-- Assumes nothing.
use mathlib.Core.Path.{◌≡◌, refl, sym, ap, subst, ◌∙◌}
use mathlib.Core.Logic.{◌⊎◌, inl, inr}
use mathlib.Core.Bool.{Bool, true, false, cond, not, ◌||◌}
use mathlib.Core.List.{List, [], ◌∷◌, ◌++◌, append_assoc, append-nil}
use Prim.Native.Nat.{ℕ, zero, suc}
use native.Mathlib.Omega.{arith}
use lib.Dec.{eqb}
use lib.ListN.{length, replicate}
use borrow.Author.Tests.{eq-eqb, ne_eqb}
use Rattle.rules.specs.declared.Entry.{Entry}
use Rattle.rules.specs.Limits.{oem_desk}
use Rattle.rules.specs.Refusals.{Test, order, applies, first_of, refusal_of}
use Rattle.rules.specs.File.{File, IakPair, Command, issue_iak, issue_iaks, is_role}
use Rattle.rules.specs.Load.{first}
use Rattle.rules.specs.State.{State, learnt, closing, entered}
use Rattle.rules.specs.Desk.{called_for, issue_iak_tests, issue_iak_effect, pair_tests, certificates_of, any_twice, issue_iaks_tests, issue_iaks_effect}
use Rattle.rules.specs.Run.{tests_of, effect_of, outcome, after, run, outcomes}
use Rattle.theorems.specs.TogetherLaws.{singles, first_refused, certificates_in, TogetherLaws}
use Rattle.theorems.proofs.Passing.{Passed, passed, passed_both, passed_first, none_fails, passes_first, applies_both}
use Rattle.theorems.proofs.Running.{after_accepted, after_refused, tests_ordered}

-- the 3F of a pair, and what it leaves
abbrev pub single : ℕ → ℕ → IakPair → Command
single p q x = issue_iak p q x.credential x.certificate

abbrev pub with_pair : File → State → ℕ → ℕ → IakPair → State
with_pair f s p q x = issue_iak_effect f s p q x.credential x.certificate

abbrev pub PairsAccepted : File → State → ℕ → ℕ → List IakPair → Type 0
PairsAccepted f s p q [] = Unit {0}
PairsAccepted f s p q (x ∷ xs) = (outcome f s (single p q x) ≡ 0) × PairsAccepted f (with_pair f s p q x) p q xs

abbrev tests_of_pair : File → State → ℕ → ℕ → IakPair → List Test
tests_of_pair f s p q x = issue_iak_tests f s p q x.credential x.certificate

-- tests that pass refuse nothing
none_refused : (xs : List Test) → Passed xs → refusal_of xs ≡ 0
unfolding refusal_of
none_refused xs h = ap (first_of order) (sym (append-nil xs)) ∙ passed_first order xs [] h ∙ none_fails order

iak_passed : (f : File) (s : State) (p q : ℕ) (x : IakPair) → outcome f s (single p q x) ≡ 0 → Passed (tests_of_pair f s p q x)
unfolding outcome tests_of
iak_passed f s p q x e = passed (tests_of_pair f s p q x) (tests_ordered f s (single p q x)) e

-- the tests of the pairs after the first
module _ (f : File) (s : State) (p q : ℕ) (x : IakPair) (xs : List IakPair) where
  pairs_go : outcome f s (single p q x) ≡ 0 → pair_tests f s p q (x ∷ xs) ≡ tests_of_pair f s p q x ++ pair_tests f (with_pair f s p q x) p q xs
  unfolding pair_tests outcome tests_of
  pairs_go e = rw (eq-eqb (refusal_of (tests_of_pair f s p q x)) 0 e) refl

  pairs_stop : (outcome f s (single p q x) ≡ 0 → ⊥) → pair_tests f s p q (x ∷ xs) ≡ tests_of_pair f s p q x
  unfolding pair_tests outcome tests_of
  pairs_stop n = rw (ne_eqb (refusal_of (tests_of_pair f s p q x)) 0 n) (append-nil (tests_of_pair f s p q x))

  first_passed : Passed (pair_tests f s p q (x ∷ xs)) → Passed (tests_of_pair f s p q x)
  unfolding pair_tests
  first_passed h = (passed_both (tests_of_pair f s p q x) _ h).0

  accepted_pair : outcome f s (single p q x) ≡ 0 → after f s (single p q x) ≡ with_pair f s p q x
  unfolding effect_of
  accepted_pair e = after_accepted f s (single p q x) e

  refusal_of_lem : refusal_of (tests_of_pair f s p q x) ≡ outcome f s (single p q x)
  unfolding outcome tests_of
  refusal_of_lem = refl

no_pair_lem : (f : File) (s : State) (p q : ℕ) → refusal_of (pair_tests f s p q []) ≡ 0
unfolding pair_tests refusal_of
no_pair_lem f s p q = none_fails order

after_passed : (xs ys : List Test) → Passed xs → refusal_of (xs ++ ys) ≡ refusal_of ys
unfolding refusal_of
after_passed xs ys h = passed_first order xs ys h

module _ (f : File) (p q : ℕ) where
  all_accepted : (xs : List IakPair) (s : State) → Passed (pair_tests f s p q xs) → PairsAccepted f s p q xs
  unfolding outcome tests_of
  all_accepted [] s h = tt
  all_accepted (x ∷ xs) s h =
      let z = none_refused (tests_of_pair f s p q x) (first_passed f s p q x xs h) in
      (z, all_accepted xs (with_pair f s p q x) (passed_both (tests_of_pair f s p q x) _ (subst Passed (pairs_go f s p q x xs z) h)).1)

  -- the first that fails
  pairs_in_turn : (xs : List IakPair) (s : State) → refusal_of (pair_tests f s p q xs) ≡ first_refused f s (singles p q xs)
  unfolding first_refused singles first
  pairs_in_turn [] s = no_pair_lem f s p q
  pairs_in_turn (x ∷ xs) s = go (outcome f s (single p q x)) refl (pairs_in_turn xs (with_pair f s p q x))
    where
      go : (n : ℕ) → outcome f s (single p q x) ≡ n → refusal_of (pair_tests f (with_pair f s p q x) p q xs) ≡ first_refused f (with_pair f s p q x) (singles p q xs)
          → refusal_of (pair_tests f s p q (x ∷ xs)) ≡ first (outcome f s (single p q x)) (first_refused f (after f s (single p q x)) (singles p q xs))
      go zero e more =
          ap refusal_of (pairs_go f s p q x xs e) ∙ after_passed (tests_of_pair f s p q x) _ (iak_passed f s p q x e) ∙ more
          ∙ sym (ap (λ (t : State). first_refused f t (singles p q xs)) (accepted_pair f s p q x xs e))
          ∙ sym (ap (λ (m : ℕ). first m (first_refused f (after f s (single p q x)) (singles p q xs))) e)
      go (suc n) e more =
          ap refusal_of (pairs_stop f s p q x xs (λ z. let y = sym e ∙ z in omega arith)) ∙ refusal_of_lem f s p q x xs
          ∙ e ∙ sym (ap (λ (m : ℕ). first m (first_refused f (after f s (single p q x)) (singles p q xs))) e)

pub pairs_accepted : (f : File) (s : State) (p q : ℕ) (xs : List IakPair) → outcome f s (issue_iaks p q xs) ≡ 0 → PairsAccepted f s p q xs
unfolding outcome tests_of issue_iaks_tests
pairs_accepted f s p q xs e = all_accepted f p q xs s (passed (issue_iaks_tests f s p q xs) (tests_ordered f s (issue_iaks p q xs)) e).1.1.1

module _ (f : File) (s : State) (p q : ℕ) (xs : List IakPair) where
  pub refused_13 : is_role f oem_desk p ≡ false → outcome f s (issue_iaks p q xs) ≡ 13
  unfolding outcome tests_of issue_iaks_tests refusal_of first_of applies
  refused_13 e = rw e refl

  module _ (role : is_role f oem_desk p ≡ true) where
    pub in_turn_lem : (length xs ≡ 0 → ⊥) → any_twice (certificates_of xs) ≡ false → outcome f s (issue_iaks p q xs) ≡ first_refused f s (singles p q xs)
    unfolding outcome tests_of issue_iaks_tests refusal_of
    in_turn_lem n t =
        passes_first order _ _ role ∙ passes_first order _ _ (ap not (ne_eqb (length xs) 0 n)) ∙ passes_first order _ _ (ap not t) ∙ pairs_in_turn f p q xs s

-- the role was asked for already
iak_13 : (f : File) (s : State) (p q : ℕ) (x : IakPair) → is_role f oem_desk p ≡ true → applies 13 (tests_of_pair f s p q x) ≡ false
unfolding issue_iak_tests called_for applies
iak_13 f s p q x e = rw e refl

nothing_13 : applies 13 [] ≡ false
unfolding applies
nothing_13 = refl

pairs_13 : (f : File) (p q : ℕ) (xs : List IakPair) (s : State) → is_role f oem_desk p ≡ true → applies 13 (pair_tests f s p q xs) ≡ false
unfolding pair_tests
pairs_13 f p q [] s e = nothing_13
pairs_13 f p q (x ∷ xs) s e =
    applies_both 13 (tests_of_pair f s p q x) _ (iak_13 f s p q x e) (go (eqb (refusal_of (tests_of_pair f s p q x)) 0) _ (pairs_13 f p q xs (with_pair f s p q x) e))
  where
    go : (b : Bool) (ys : List Test) → applies 13 ys ≡ false → applies 13 (cond b ys []) ≡ false
    go true ys h = h
    go false ys h = nothing_13

pub refused_32 : (f : File) (s : State) (p q : ℕ) (xs : List IakPair) → is_role f oem_desk p ≡ true → (length xs ≡ 0) ⊎ (any_twice (certificates_of xs) ≡ true) → outcome f s (issue_iaks p q xs) ≡ 32
unfolding outcome tests_of issue_iaks_tests refusal_of first_of applies
refused_32 f s p q xs e (inl z) = rw (e, pairs_13 f p q xs s e, eq-eqb (length xs) 0 z) refl
refused_32 f s p q xs e (inr t) = rw (e, pairs_13 f p q xs s e, t) (go (eqb (length xs) 0) _)
  where
    go : (b : Bool) (m : ℕ) → cond (not (not b) || true) 32 m ≡ 32
    go true m = refl
    go false m = refl

-- pairs one by one: one more that is accepted; the first that is refused; none that is
module _ (f : File) (p q : ℕ) where
  pub accepted_more :
      (xs : List IakPair) (s : State) (y : IakPair) → PairsAccepted f s p q xs → outcome f (issue_iaks_effect f s p q xs) (single p q y) ≡ 0 → PairsAccepted f s p q (xs ++ (y ∷ []))
  unfolding issue_iaks_effect
  accepted_more [] s y a e = (e, tt)
  accepted_more (x ∷ xs) s y a e = (a.0, accepted_more xs (with_pair f s p q x) y a.1 e)

  pub refused_at :
      (xs : List IakPair) (s : State) (y : IakPair) (ys : List IakPair) (n : ℕ) → PairsAccepted f s p q xs → outcome f (issue_iaks_effect f s p q xs) (single p q y) ≡ suc n
      → first_refused f s (singles p q (xs ++ (y ∷ ys))) ≡ suc n
  unfolding issue_iaks_effect first_refused singles first
  refused_at [] s y ys n a e = ap (λ (m : ℕ). first m (first_refused f (after f s (single p q y)) (singles p q ys))) e
  refused_at (x ∷ xs) s y ys n a e =
      ap (λ (m : ℕ). first m (first_refused f (after f s (single p q x)) (singles p q (xs ++ (y ∷ ys))))) a.0
      ∙ ap (λ (t : State). first_refused f t (singles p q (xs ++ (y ∷ ys)))) (accepted_pair f s p q x xs a.0)
      ∙ refused_at xs (with_pair f s p q x) y ys n a.1 e

  pub none_refused_at : (xs : List IakPair) (s : State) → PairsAccepted f s p q xs → first_refused f s (singles p q xs) ≡ 0
  unfolding first_refused singles first
  none_refused_at [] s a = refl
  none_refused_at (x ∷ xs) s a =
      ap (λ (m : ℕ). first m (first_refused f (after f s (single p q x)) (singles p q xs))) a.0
      ∙ ap (λ (t : State). first_refused f t (singles p q xs)) (accepted_pair f s p q x xs a.0)
      ∙ none_refused_at xs (with_pair f s p q x) a.1

-- an accepted 43 leaves what its 3Fs leave
pairs_run : (f : File) (p q : ℕ) (xs : List IakPair) (s : State) → PairsAccepted f s p q xs → (issue_iaks_effect f s p q xs ≡ run f (singles p q xs) s) × (outcomes f (singles p q xs) s ≡ replicate (length xs) 0)
unfolding issue_iaks_effect run outcomes singles
pairs_run f p q [] s a = (refl, refl)
pairs_run f p q (x ∷ xs) s a =
    let w = pairs_run f p q xs (with_pair f s p q x) a.1 in
    let e = accepted_pair f s p q x xs a.0 in
    (w.0 ∙ ap (run f (singles p q xs)) (sym e), ap (λ (t : State). outcome f s (single p q x) ∷ outcomes f (singles p q xs) t) e ∙ ap (λ (n : ℕ). n ∷ outcomes f (singles p q xs) (with_pair f s p q x)) a.0 ∙ ap (λ (ns : List ℕ). 0 ∷ ns) w.1)

pub all_issued : (f : File) (s : State) (p q : ℕ) (xs : List IakPair) → outcome f s (issue_iaks p q xs) ≡ 0 → (after f s (issue_iaks p q xs) ≡ run f (singles p q xs) s) × (outcomes f (singles p q xs) s ≡ replicate (length xs) 0)
unfolding effect_of
all_issued f s p q xs e =
    let w = pairs_run f p q xs s (pairs_accepted f s p q xs e) in
    (after_accepted f s (issue_iaks p q xs) e ∙ w.0, w.1)

certificates_more : (l more : List Entry) → certificates_in (l ++ more) ≡ certificates_in l ++ certificates_in more
unfolding certificates_in
certificates_more [] more = refl
certificates_more (e ∷ l) more = ap (λ (ts : List ℕ). e.certificate ∷ ts) (certificates_more l more)

pairs_order : (f : File) (p q : ℕ) (xs : List IakPair) (s : State) → certificates_in (issue_iaks_effect f s p q xs).ledger ≡ certificates_in s.ledger ++ certificates_of xs
unfolding issue_iaks_effect issue_iak_effect entered closing learnt certificates_in certificates_of
pairs_order f p q [] s = sym (append-nil (certificates_in s.ledger))
pairs_order f p q (x ∷ xs) s =
    pairs_order f p q xs (with_pair f s p q x)
    ∙ ap (λ (ts : List ℕ). ts ++ certificates_of xs) (certificates_more s.ledger _)
    ∙ append_assoc (certificates_in s.ledger) (x.certificate ∷ []) (certificates_of xs)

pub in_order_lem : (f : File) (s : State) (p q : ℕ) (xs : List IakPair) → outcome f s (issue_iaks p q xs) ≡ 0 → certificates_in (after f s (issue_iaks p q xs)).ledger ≡ certificates_in s.ledger ++ certificates_of xs
unfolding effect_of
in_order_lem f s p q xs e = ap (λ (x : State). certificates_in x.ledger) (after_accepted f s (issue_iaks p q xs) e) ∙ pairs_order f p q xs s

pub together_laws : TogetherLaws
together_laws = record { role_first = refused_13; pairs_next = refused_32; in_turn = in_turn_lem; all = all_issued; or_none = λ f s p q xs. after_refused f s (issue_iaks p q xs); in_order = in_order_lem }
