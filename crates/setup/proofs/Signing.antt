-- The parties of a role that a search for a signing key has passed.
--     signs-found     one of them has the key
--     signs-other-key, signs-other-role    one party more has not
-- Assumes nothing.
use mathlib.Core.Bool.{Bool, true, false, ◌&&◌, and-false, or-true}
use mathlib.Core.Path.{◌≡◌, refl}
use mathlib.Core.List.{List}
use Prim.Native.Nat.{ℕ, zero, suc, ◌+◌, ◌<◌}
use native.Mathlib.Omega.{arith}
use native.Mathlib.Numerals.{add-one}
use lib.Dec.{eqb}
use borrow.Author.Tests.{eqb-true, eqb-false, eq-eqb, ne_eqb}
use Rattle.std.specs.Prelude.{Option, None, Some}
use Rattle.std.specs.Option.{option_eq}
use Rattle.tables.specs.Columns.{one_more}
use Rattle.checks.specs.There.{role_there}
use Rattle.setup.specs.Allowed.{signs_there}

module _ (bs : List ℕ) (signers : ℕ → ℕ) (role k : ℕ) where
  pub signs_found : (p n : ℕ) → p < n → signers p ≡ k + 1 → role_there bs p ≡ role → signs_there bs signers role k n ≡ true
  unfolding signs_there
  signs_found p zero h d e = absurd (omega arith)
  signs_found p (suc n) h d e = go (λ l. signs_found p n l d e) (eqb p n) refl
    where
      go : (p < n → signs_there bs signers role k n ≡ true) → (b : Bool) → eqb p n ≡ b → signs_there bs signers role k (suc n) ≡ true
      go more true f = rw (← eqb-true p n f, eq-eqb (signers p) (k + 1) d, eq-eqb (role_there bs p) role e) refl
      go more false f =
          let m = eqb-false p n f in
          let l : p < n = omega arith in
          rw (more l) (or-true (eqb (signers n) (k + 1) && eqb (role_there bs n) role))

  pub signs_other_key : (p : ℕ) → (signers p ≡ k + 1 → ⊥) → signs_there bs signers role k p ≡ false → signs_there bs signers role k (p + 1) ≡ false
  unfolding signs_there
  signs_other_key p d e = rw (add-one, ne_eqb (signers p) (k + 1) d, e)

  pub signs_other_role : (p : ℕ) → (role_there bs p ≡ role → ⊥) → signs_there bs signers role k p ≡ false → signs_there bs signers role k (p + 1) ≡ false
  unfolding signs_there
  signs_other_role p d e = rw (add-one, ne_eqb (role_there bs p) role d, e, and-false)

-- an option that is not this key does not stand for it
pub other_key : (o : Option ℕ) (k s : ℕ) → one_more o ≡ s → option_eq eqb o (Some k) ≡ false → s ≡ k + 1 → ⊥
other_key None k s e t h = omega (arith, e, h)
other_key (Some n) k s e t h = eqb-false n k t (omega (arith, e, h))
