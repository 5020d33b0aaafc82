-- What a search found, with one number more or by a test that agrees; numbers below n + 1; a column with one number
-- replaced.
use mathlib.Core.Path.{◌≡◌, refl, sym, ◌∙◌, subst}
use mathlib.Core.Bool.{Bool, true, false}
use mathlib.Core.List.{List}
use Prim.Native.Nat.{ℕ, zero, suc, ◌+◌, ◌<◌, ◌≤◌}
use native.Mathlib.Omega.{arith}
use lib.Dec.{eqb}
use borrow.Author.Tests.{eqb-true, eqb-false, eq-eqb, ne_eqb}
use Rattle.rules.specs.State.{put}
use Rattle.std.specs.Prelude.{Option, None, Some}
use Rattle.index.specs.declared.Vacancy.{Vacancy}
use Rattle.index.specs.Tree.{Found}
use Rattle.index.specs.Indexed.{same_by, half_by, other_half, Vacant}

-- below n + 1: n, or below n
pub at_most : {P : ℕ → Type 0} (n : ℕ) → P n → ((t : ℕ) → t < n → P t) → (t : ℕ) → t < n + 1 → P t
at_most {P} n h k t l = go (eqb t n) refl
  where
    go : (b : Bool) → eqb t n ≡ b → P t
    go true d = subst P (sym (eqb-true t n d)) h
    go false d = let q = eqb-false t n d in k t (omega arith)

pub put_same : (column : ℕ → ℕ) (t x : ℕ) → put column t x t ≡ x
unfolding put
put_same column t x = rw (eq-eqb t t refl)

pub put_other : (column : ℕ → ℕ) (t x u : ℕ) → (u ≡ t → ⊥) → put column t x u ≡ column u
unfolding put
put_other column t x u d = rw (ne_eqb u t d)

-- what was found is one of the first n
pub found_most : {test : ℕ → Bool} {n r : ℕ} → Found test n r → r ≤ n
found_most {r = zero} f = omega arith
found_most {r = suc t} f = let w = f.one t refl in omega arith

-- one number more, which does not pass
pub found_more : {test : ℕ → Bool} {n r : ℕ} → Found test n r → test n ≡ false → Found test (n + 1) r
found_more {test} {n} f e = record { one = λ t q. let w = f.one t q in (omega arith, w.1); none = λ z. at_most {P = λ t. test t ≡ false} n e (f.none z) }

pub found_same : {test test' : ℕ → Bool} {n r : ℕ} → ((t : ℕ) → t < n → test t ≡ test' t) → Found test n r → Found test' n r
found_same h f = record { one = λ t q. let w = f.one t q in (w.0, sym (h t w.0) ∙ w.1); none = λ z t l. sym (h t l) ∙ f.none z t l }

-- by kinds and keys that agree
module _ {kinds kinds' keys keys' : ℕ → ℕ} {n : ℕ} (h : (t : ℕ) → t < n → kinds t ≡ kinds' t) (k : (t : ℕ) → t < n → keys t ≡ keys' t) where
  pub same_agrees : (kind key t : ℕ) → t < n → same_by kinds keys kind key t ≡ same_by kinds' keys' kind key t
  unfolding same_by
  same_agrees kind key t l = rw (h t l, k t l) refl

  half_agrees : (o : Option ℕ) (key t : ℕ) → t < n → half_by kinds keys o key t ≡ half_by kinds' keys' o key t
  unfolding half_by
  half_agrees None key t l = refl
  half_agrees (Some kind) key t l = same_agrees kind key t l

  pub vacant_same : {links : List ℕ} {kind key : ℕ} {v : Vacancy} → Vacant kinds keys links kind key n v → Vacant kinds' keys' links kind key n v
  vacant_same {kind = kind} {key = key} f = record {
    none = λ t l. sym (same_agrees kind key t l) ∙ f.none t l;
    half = found_same (half_agrees (other_half kind) key) f.half;
    free = f.free;
  }
