-- What learning does to the terms that each party knows: they stay known, the term and everything in it comes to be known, and nothing else.
-- Assumes nothing.
use mathlib.Core.Bool.{Bool, true, false, cond, ◌&&◌, ◌||◌, false≢true}
use mathlib.Core.Logic.{◌⊎◌, inl, inr, ⊎_elim}
use mathlib.Core.List.Memᴰ
use mathlib.Core.List.{List, [], ◌∷◌, Memᴰ}
use mathlib.Core.Path.{◌≡◌, refl, sym, subst}
use Prim.Native.Nat.{ℕ, zero, suc, ◌<◌}
use native.Mathlib.Omega.{arith}
use native.Mathlib.Nat.{le_refl}
use native.Mathlib.Decide.{ℕ_discrete}
use lib.Dec.{eqb}
use borrow.Author.Tests.{eqb-true, eq-eqb}
use Rattle.rules.specs.File.{File, Setup, learns, holds, signs_with, parts}
use Rattle.rules.specs.Learning.{Knowledge, grant, each, opened, learn}
use Rattle.rules.specs.State.{nothing, taught}
use Rattle.theorems.specs.Residency.{Inside, itself, in_part}
use Rattle.theorems.proofs.Booleans.{or_right}

-- each part is a lower term
abbrev pub Lower : File → Type 0
Lower f = (t u : ℕ) → Memᴰ u (parts f t) → u < t

-- who knows a term knows its parts
abbrev pub Closed : File → Knowledge → Type 0
Closed f known = (q t u : ℕ) → known q t ≡ true → Memᴰ u (parts f t) → known q u ≡ true

or_cases : (a b c : Bool) → ((a && b) || c) ≡ true → (c ≡ true) ⊎ ((a ≡ true) × (b ≡ true))
or_cases true true c e = inr (refl, refl)
or_cases true false c e = inl e
or_cases false b c e = inl e

pub grant_own : (known : Knowledge) (p t : ℕ) → grant known p t p t ≡ true
unfolding grant
grant_own known p t = rw (eq-eqb p p refl, eq-eqb t t refl)

pub grant_kept : (known : Knowledge) (p t q u : ℕ) → known q u ≡ true → grant known p t q u ≡ true
unfolding grant
grant_kept known p t q u = or_right (eqb q p && eqb u t) (known q u)

pub grant_only : (known : Knowledge) (p t q u : ℕ) → grant known p t q u ≡ true → (known q u ≡ true) ⊎ ((q ≡ p) × (u ≡ t))
unfolding grant
grant_only known p t q u h = ⊎_elim inl (λ w. inr (eqb-true q p w.0, eqb-true u t w.1)) (or_cases (eqb q p) (eqb u t) (known q u) h)

-- a test's two arms
arms : {A : Type 0} (P : A → Type 0) (b : Bool) (x y : A) → (b ≡ true → P x) → P y → P (cond b x y)
arms P true x y f g = f refl
arms P false x y f g = g

-- what each step keeps
each_keeps : (I : Knowledge → Type 0) (act : ℕ → Knowledge → Knowledge) (us : List ℕ)
    → ((a : ℕ) → Memᴰ a us → (k : Knowledge) → I k → I (act a k)) → (k : Knowledge) → I k → I (each act us k)
unfolding each
each_keeps I act [] keeps k h = h
each_keeps I act (u ∷ us) keeps k h = each_keeps I act us (λ a m. keeps a (Memᴰ.tail m)) (act u k) (keeps u (Memᴰ.head refl) k h)

module _ (f : File) (p : ℕ) where
  kept : (n t : ℕ) (k : Knowledge) (q u : ℕ) → k q u ≡ true → opened (parts f) p n t k q u ≡ true
  unfolding opened
  kept zero t k q u h = h
  kept (suc n) t k q u h =
      arms (λ (k' : Knowledge). k' q u ≡ true) (k p t) k _ (λ e. h)
      (each_keeps (λ k'. k' q u ≡ true) (opened (parts f) p n) (parts f t) (λ a m k'. kept n a k' q u) (grant k p t) (grant_kept k p t q u h))

  own : (n t : ℕ) → t < n → (k : Knowledge) → opened (parts f) p n t k p t ≡ true
  unfolding opened
  own zero t i k = absurd (omega arith)
  own (suc n) t i k =
      arms (λ (k' : Knowledge). k' p t ≡ true) (k p t) k _ (λ e. e)
      (each_keeps (λ k'. k' p t ≡ true) (opened (parts f) p n) (parts f t) (λ a m k'. kept n a k' p t) (grant k p t) (grant_own k p t))

  only : (n t : ℕ) (k : Knowledge) (q u : ℕ) → opened (parts f) p n t k q u ≡ true → (k q u ≡ true) ⊎ ((q ≡ p) × Inside f t u)
  unfolding opened
  only zero t k q u = inl
  only (suc n) t k q u =
      arms Only (k p t) k _ (λ e. inl)
      (each_keeps Only (opened (parts f) p n) (parts f t)
      (λ a m k' h i. ⊎_elim h (λ w. inr (w.0, in_part m w.1)) (only n a k' q u i)) (grant k p t)
      (λ i. ⊎_elim inl (λ w. inr (w.0, subst (Inside f t) (sym w.1) itself)) (grant_only k p t q u i)))
    where
      Only : Knowledge → Type 0
      Only k' = k' q u ≡ true → (k q u ≡ true) ⊎ ((q ≡ p) × Inside f t u)

  -- outside E, who knows a term knows its parts
  abbrev ClosedBut : (ℕ → ℕ → Type 0) → Knowledge → Type 0
  ClosedBut E k = (q t u : ℕ) → (E q t → ⊥) → k q t ≡ true → Memᴰ u (parts f t) → k q u ≡ true

  abbrev Or : (ℕ → ℕ → Type 0) → ℕ → ℕ → ℕ → Type 0
  Or E t q v = E q v ⊎ ((q ≡ p) × (v ≡ t))

  grant_closed : (E : ℕ → ℕ → Type 0) (t : ℕ) (k : Knowledge) → ClosedBut E k → ClosedBut (Or E t) (grant k p t)
  grant_closed E t k c q v u out h m =
      grant_kept k p t q u (c q v u (λ e. out (inl e)) (⊎_elim (λ i. i) (λ w. absurd (out (inr w))) (grant_only k p t q v h)) m)

  -- each of some terms is known once each is opened
  each_known : (n : ℕ) (us : List ℕ) → ((a : ℕ) → Memᴰ a us → a < n) → (k : Knowledge) (u : ℕ) → Memᴰ u us
      → each (opened (parts f) p n) us k p u ≡ true
  unfolding each
  each_known n [] low k u m = absurd (Memᴰ.not-nil m)
  each_known n (a ∷ us) low k u m =
      ⊎_elim
      (λ e. each_keeps (λ k'. k' p u ≡ true) (opened (parts f) p n) us (λ b m k'. kept n b k' p u) (opened (parts f) p n a k) (rw e (own n a (low a (Memᴰ.head refl)) k)))
      (each_known n us (λ b m. low b (Memᴰ.tail m)) (opened (parts f) p n a k) u)
      (Memᴰ.cases_cons m)

  closed_but : Lower f → (n t : ℕ) → t < n → (E : ℕ → ℕ → Type 0) (k : Knowledge) → ClosedBut E k → ClosedBut E (opened (parts f) p n t k)
  unfolding opened
  closed_but low zero t i E k c = c
  closed_but low (suc n) t i E k c =
      arms (ClosedBut E) (k p t) k _ (λ e. c)
      (λ q v u out h m. go q v u out h m
      (each_keeps (ClosedBut (Or E t)) (opened (parts f) p n) (parts f t)
      (λ a m. closed_but low n a (omega (arith, low t a m)) (Or E t)) (grant k p t) (grant_closed E t k c))
      (each_known n (parts f t) (λ a m. omega (arith, low t a m)) (grant k p t))
      (ℕ_discrete q p) (ℕ_discrete v t))
    where
      K : Knowledge
      K = each (opened (parts f) p n) (parts f t) (grant k p t)

      go : (q v u : ℕ) → (E q v → ⊥) → K q v ≡ true → Memᴰ u (parts f v) → ClosedBut (Or E t) K
          → ((u : ℕ) → Memᴰ u (parts f t) → K p u ≡ true) → Dec (q ≡ p) → Dec (v ≡ t) → K q u ≡ true
      go q v u out h m c' mine (yes e) (yes d) = rw e (mine u (rw d at m))
      go q v u out h m c' mine (yes e) (no d) = c' q v u (⊎_elim out (λ w. d w.1)) h m
      go q v u out h m c' mine (no e) d = c' q v u (⊎_elim out (λ w. e w.0)) h m

pub learn_kept : (f : File) (p t : ℕ) (known : Knowledge) (q u : ℕ) → known q u ≡ true → learn f p t known q u ≡ true
unfolding learn
learn_kept f p t = kept f p (suc t) t

pub learn_own : (f : File) (p t : ℕ) (known : Knowledge) → learn f p t known p t ≡ true
unfolding learn
learn_own f p t = own f p (suc t) t (le_refl (suc t))

-- "A term already known needs no second opening."
pub learn_known : (f : File) (p t : ℕ) (known : Knowledge) → known p t ≡ true → learn f p t known ≡ known
unfolding learn opened
learn_known f p t known e = rw e

pub learn_only : (f : File) (p t : ℕ) (known : Knowledge) (q u : ℕ) → learn f p t known q u ≡ true → (known q u ≡ true) ⊎ ((q ≡ p) × Inside f t u)
unfolding learn
learn_only f p t = only f p (suc t) t

pub learn_closed : (f : File) → Lower f → (p t : ℕ) (known : Knowledge) → Closed f known → Closed f (learn f p t known)
unfolding learn
learn_closed f low p t known c q v u =
    closed_but f p low (suc t) t (le_refl (suc t)) (λ q v. ⊥) known (λ q v u out. c q v u) q v u (λ e. e)

pub inside_known : (f : File) (known : Knowledge) → Closed f known → (p t u : ℕ) → known p t ≡ true → Inside f t u → known p u ≡ true
inside_known f known c p t u h itself = h
inside_known f known c p t u h (in_part {u = v} m i) = inside_known f known c p v u (c p t v h m) i

pub learn_inside : (f : File) → Lower f → (p t : ℕ) (known : Knowledge) → Closed f known → (u : ℕ) → Inside f t u → learn f p t known p u ≡ true
learn_inside f low p t known c u = inside_known f (learn f p t known) (learn_closed f low p t known c) p t u (learn_own f p t known)

-- what the 20 records taught
pub taught_own : (f : File) (xs : List Setup) (p t : ℕ) → Memᴰ (learns p t) xs → taught f xs p t ≡ true
unfolding taught
taught_own f [] p t m = absurd (Memᴰ.not-nil m)
taught_own f (learns q u ∷ xs) p t m =
    ⊎_elim (λ e. let a : p ≡ q = cc in let b : t ≡ u = cc in rw (a, b) (learn_own f q u (taught f xs)))
    (λ m. learn_kept f q u (taught f xs) p t (taught_own f xs p t m)) (Memᴰ.cases_cons m)
taught_own f (holds q k ∷ xs) p t m = ⊎_elim (λ e. let z : ◌≡◌ {A = ℕ} 0 1 = cc in absurd (omega arith)) (taught_own f xs p t) (Memᴰ.cases_cons m)
taught_own f (signs_with q k ∷ xs) p t m = ⊎_elim (λ e. let z : ◌≡◌ {A = ℕ} 0 1 = cc in absurd (omega arith)) (taught_own f xs p t) (Memᴰ.cases_cons m)

pub taught_closed : (f : File) → Lower f → (xs : List Setup) → Closed f (taught f xs)
unfolding taught nothing
taught_closed f low [] = λ q t u h m. absurd (false≢true h)
taught_closed f low (learns q t ∷ xs) = learn_closed f low q t (taught f xs) (taught_closed f low xs)
taught_closed f low (holds q k ∷ xs) = taught_closed f low xs
taught_closed f low (signs_with q k ∷ xs) = taught_closed f low xs

abbrev Source : File → List Setup → ℕ → ℕ → Type 0
Source f xs p u = (t : ℕ) × (Memᴰ (learns p t) xs) × Inside f t u

further : (f : File) (x : Setup) (xs : List Setup) (p u : ℕ) → Source f xs p u → Source f (x ∷ xs) p u
further f x xs p u w = (w.0, Memᴰ.tail w.1, w.2)

pub taught_only : (f : File) (xs : List Setup) (p u : ℕ) → taught f xs p u ≡ true → (t : ℕ) × (Memᴰ (learns p t) xs) × Inside f t u
unfolding taught nothing
taught_only f [] p u h = absurd (false≢true h)
taught_only f (learns q t ∷ xs) p u h =
    ⊎_elim (λ i. further f (learns q t) xs p u (taught_only f xs p u i)) (λ w. (t, Memᴰ.head (rw w.0), w.1)) (learn_only f q t (taught f xs) p u h)
taught_only f (holds q k ∷ xs) p u h = further f (holds q k) xs p u (taught_only f xs p u h)
taught_only f (signs_with q k ∷ xs) p u h = further f (signs_with q k) xs p u (taught_only f xs p u h)
