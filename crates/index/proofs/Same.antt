-- A number of a kind and a key.
use mathlib.Core.Path.{◌≡◌, refl, sym, ap}
use mathlib.Core.Bool.{Bool, true, false, and-false}
use Prim.Native.Nat.{ℕ}
use lib.Dec.{eqb}
use borrow.Author.Tests.{eqb-true, eqb-false, eq-eqb, ne_eqb}
use Rattle.theorems.proofs.Booleans.{and_true}
use Rattle.std.specs.Prelude.{Option, None, Some}
use Rattle.std.specs.Option.{option_eq}
use Rattle.index.specs.Indexed.{same_by, half_by}

pub not_true : (b : Bool) → (b ≡ true → ⊥) → b ≡ false
not_true true n = absurd (n refl)
not_true false n = refl

module _ (kinds keys : ℕ → ℕ) (kind key t : ℕ) where
  pub same_true : kinds t ≡ kind → keys t ≡ key → same_by kinds keys kind key t ≡ true
  unfolding same_by
  same_true a b = rw (eq-eqb _ _ a, eq-eqb _ _ b)

  pub same_kind : same_by kinds keys kind key t ≡ true → kinds t ≡ kind
  unfolding same_by
  same_kind e = eqb-true _ _ (and_true (eqb (kinds t) kind) (eqb (keys t) key) e).0

  pub same_key : same_by kinds keys kind key t ≡ true → keys t ≡ key
  unfolding same_by
  same_key e = eqb-true _ _ (and_true (eqb (kinds t) kind) (eqb (keys t) key) e).1

  pub other_kind : (kinds t ≡ kind → ⊥) → same_by kinds keys kind key t ≡ false
  unfolding same_by
  other_kind n = rw (ne_eqb _ _ n)

  pub other_key_lem : (keys t ≡ key → ⊥) → same_by kinds keys kind key t ≡ false
  unfolding same_by
  other_key_lem n = rw (ne_eqb _ _ n) (and-false (eqb (kinds t) kind))

-- of the kind of another half
module _ (kinds keys : ℕ → ℕ) (second : Option ℕ) (key t : ℕ) where
  pub half_true : second ≡ Some (kinds t) → keys t ≡ key → half_by kinds keys second key t ≡ true
  unfolding half_by
  half_true d e = rw d (same_true kinds keys (kinds t) key t refl e)

  pub half_other_kind : (second ≡ Some (kinds t) → ⊥) → half_by kinds keys second key t ≡ false
  unfolding half_by
  half_other_kind n = go second n
    where
      go : (o : Option ℕ) → (o ≡ Some (kinds t) → ⊥) → half_by kinds keys o key t ≡ false
      go None n = refl
      go (Some k) n = other_kind kinds keys k key t (λ e. n (ap Some (sym e)))

  pub half_other_key : (keys t ≡ key → ⊥) → half_by kinds keys second key t ≡ false
  unfolding half_by
  half_other_key n = go second
    where
      go : (o : Option ℕ) → half_by kinds keys o key t ≡ false
      go None = refl
      go (Some k) = other_key_lem kinds keys k key t n

half_is : (kinds keys : ℕ → ℕ) (o : Option ℕ) (key t : ℕ) → half_by kinds keys o key t ≡ true → (o ≡ Some (kinds t)) × (keys t ≡ key)
unfolding half_by
half_is kinds keys None key t e = cc
half_is kinds keys (Some k) key t e = (ap Some (sym (same_kind kinds keys k key t e)), same_key kinds keys k key t e)

pub half_kind : (kinds keys : ℕ → ℕ) (o : Option ℕ) (key t : ℕ) → half_by kinds keys o key t ≡ true → o ≡ Some (kinds t)
half_kind kinds keys o key t e = (half_is kinds keys o key t e).0

pub half_key : (kinds keys : ℕ → ℕ) (o : Option ℕ) (key t : ℕ) → half_by kinds keys o key t ≡ true → keys t ≡ key
half_key kinds keys o key t e = (half_is kinds keys o key t e).1

-- what a test for an option with a number tells
pub option_told : (o : Option ℕ) (k : ℕ) → option_eq eqb o (Some k) ≡ true → o ≡ Some k
option_told None k e = cc
option_told (Some n) k e = ap Some (eqb-true n k e)

pub option_untold : (o : Option ℕ) (k : ℕ) → option_eq eqb o (Some k) ≡ false → o ≡ Some k → ⊥
option_untold None k e q = cc
option_untold (Some n) k e q = eqb-false n k e (cc)
