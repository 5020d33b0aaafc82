-- Tests of terms whose numbers were read from a record.
--     of-read       one test: what the code answers of the number that it read
--     either-read   one test, unless another holds
--     unless, free  the same, by whether the other holds
--     both_read     the chain of a role and two known terms
--     right-read    the chain of a check, by what it checks
--     or-first, or-second, or-rest, and_first, and_second     tests one after the other
-- Assumes nothing.
use mathlib.Core.Path.{◌≡◌, refl, sym, ap, ◌∙◌}
use mathlib.Core.Bool.{Bool, true, false, not, ◌&&◌, ◌||◌}
use mathlib.Core.List.{[], ◌∷◌}
use Prim.Native.Nat.{ℕ}
use Rattle.rules.specs.Refusals.{need}
use Rattle.theorems.specs.Chain.{chain}

pub of_read : (test : ℕ → Bool) {t u : ℕ} {x b : Bool} → t ≡ u → x ≡ test t → x ≡ b → test u ≡ b
of_read test e q w = ap test (sym e) ∙ sym q ∙ w

pub both_read :
    (role : Bool) (knows : ℕ → Bool) {t t' u u' : ℕ} → t ≡ t' → u ≡ u'
    → chain (need 13 role ∷ need 14 (knows t) ∷ need 14 (knows u) ∷ []) ≡ chain (need 13 role ∷ need 14 (knows t') ∷ need 14 (knows u') ∷ [])
both_read role knows e q = rw (e, q) refl

pub or_first : {a : Bool} (b : Bool) → a ≡ true → true ≡ (a || b)
or_first b e = rw e refl

pub or_second : {a b x : Bool} → a ≡ false → x ≡ b → x ≡ (a || b)
or_second e q = rw e q

pub and_first : {a : Bool} (b : Bool) → a ≡ false → false ≡ (a && b)
and_first b e = rw e refl

pub and_second : {a b x : Bool} → a ≡ true → x ≡ b → x ≡ (a && b)
and_second e q = rw e q

pub either_read : (test : ℕ → Bool) {a a' : Bool} {t u : ℕ} {x b : Bool} → a ≡ a' → t ≡ u → x ≡ (a || test t) → x ≡ b → (a' || test u) ≡ b
either_read test {a} {u = u} d e q w = ap (λ (y : Bool). y || test u) (sym d) ∙ ap (λ (v : ℕ). a || test v) (sym e) ∙ sym q ∙ w

pub unless : {a b x : Bool} → a ≡ true → b ≡ x → (not a || b) ≡ x
unless e q = rw e q

pub free : {a : Bool} (b : Bool) → a ≡ false → (not a || b) ≡ true
free b e = rw e refl

pub right_read :
    (role t u : Bool) {b b' : Bool} → b ≡ b'
    → chain (need 13 role ∷ need 14 t ∷ need 14 u ∷ need 18 b ∷ []) ≡ chain (need 13 role ∷ need 14 t ∷ need 14 u ∷ need 18 b' ∷ [])
right_read role t u e = rw e refl

pub or_rest : {a x : Bool} (b c : Bool) → a ≡ false → x ≡ (b || c) → x ≡ (a || b || c)
or_rest b c e q = rw e q
