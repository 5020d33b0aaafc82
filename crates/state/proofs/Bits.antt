-- The bits of a byte: after a bit is set, and all of them.
--     shifted                 what the machine makes of `1u8 << p`
--     bit-small               a bit is below 2
--     bit-same, bit-other     bit p of `x or 2^p` is 1; another bit is x's
--     other-bits              a bit other than p is 1 where a byte or 2^p is not 2^p
--     count_bits              the ones of a byte are its bits that are 1
-- Assumes nothing.
use mathlib.Core.Bool.{Bool, true, false, not}
use mathlib.Core.Path.{◌≡◌, refl, ap, sym, ◌∙◌}
use mathlib.Core.List.{List, [], ◌∷◌}
use Prim.Native.Nat.{ℕ, zero, suc, ◌*◌, ◌/◌, ◌%◌, ◌^◌, ◌<◌}
use native.Mathlib.Omega.{arith}
use native.Mathlib.Nat.{one-mul, mod-eq_of_lt, div-eq_of_lt, div-one, div_self, pow-suc, mul-mod_left}
use native.Mathlib.Numerals.{one-add}
use lib.Pow.{pow-lt, pow_pos, shl-shr, shr-shr}
use lib.Count.{ones_in, ones}
use lib.Bits.{bit_or, or_shr, or_mod, or_zero_r}
use lib.Dec.{eqb}
use borrow.Author.Tests.{eqb-true, eqb-false}
use Rattle.rules.specs.Desk.{knowers}
use Rattle.state.specs.View.{bit, in_other}

pub shifted : (p : ℕ) → p < 8 → 1 * 2 ^ p % 256 ≡ 2 ^ p
shifted p h = rw one-mul (mod-eq_of_lt (pow-lt h))

pub bit_small : (x p : ℕ) → bit x p < 2
unfolding bit
bit_small x p = omega arith

-- a bit of `a or b` is the or of the bits
bit_or_lem : (a b p : ℕ) → bit (bit_or a b) p ≡ bit_or (bit a p) (bit b p)
unfolding bit
bit_or_lem a b p = ap (λ (n : ℕ). n % 2) (or_shr a b p) ∙ or_mod (a / 2 ^ p) (b / 2 ^ p) 1

or_one : (b : ℕ) → b < 2 → bit_or b 1 ≡ 1
or_one zero h = refl
or_one (suc zero) h = refl
or_one (suc (suc b)) h = absurd (omega arith)

bit_own : (p : ℕ) → bit (2 ^ p) p ≡ 1
unfolding bit
bit_own p = ap (λ (n : ℕ). n % 2) (div_self (pow_pos p))

bit_away : (p q : ℕ) → (p ≡ q → ⊥) → bit (2 ^ p) q ≡ 0
unfolding bit
bit_away zero zero n = absurd (n refl)
bit_away zero (suc q) n = ap (λ (m : ℕ). m % 2) (div-eq_of_lt (pow-lt {i = 0} {j = suc q} (omega arith)))
bit_away (suc p) zero n = rw (div-one, pow-suc) (mul-mod_left (2 ^ p) 2)
bit_away (suc p) (suc q) n =
    ap (λ (m : ℕ). m % 2) (ap (λ (k : ℕ). 2 ^ suc p / 2 ^ k) (sym (one-add q)) ∙ sym (shr-shr (2 ^ suc p) 1 q) ∙ ap (λ (m : ℕ). m / 2 ^ q) (ap (λ (m : ℕ). m / 2) (pow-suc 2 p) ∙ shl-shr (2 ^ p) 1))
    ∙ bit_away p q (λ e. n (ap suc e))

pub bit_same : (x p : ℕ) → bit (bit_or x (2 ^ p)) p ≡ 1
bit_same x p = bit_or_lem x (2 ^ p) p ∙ rw bit_own (or_one (bit x p) (bit_small x p))

pub bit_other : (x p q : ℕ) → (p ≡ q → ⊥) → bit (bit_or x (2 ^ p)) q ≡ bit x q
bit_other x p q n = bit_or_lem x (2 ^ p) q ∙ rw (bit_away p q n) (or_zero_r (bit x q))

-- the values at the numbers below n; two functions that agree where they were computed
abbrev values : {A : Type 0} → (ℕ → A) → ℕ → List A
values f zero = []
values f (suc n) = f n ∷ values f n

agree : {A : Type 0} (f g : ℕ → A) (n : ℕ) → values f n ≡ values g n → (k : ℕ) → k < n → f k ≡ g k
agree f g zero e k h = absurd (omega arith)
agree {A} f g (suc n) e k h = go (agree f g n (cc) k) (eqb k n) refl
  where
    go : (k < n → f k ≡ g k) → (t : Bool) → eqb k n ≡ t → f k ≡ g k
    go less true d = rw (eqb-true k n d) (cc)
    go less false d = let m = eqb-false k n d in less (omega arith)

-- the bits of a byte, as one party's each
abbrev party_bits : ℕ → ℕ → ℕ → Bool
party_bits b p t = eqb (bit b p) 1

pub other_bits : (b p t : ℕ) → b < 256 → p < 8 → not (eqb (bit_or b (2 ^ p)) (2 ^ p)) ≡ in_other (party_bits b) p t 8
unfolding in_other bit
other_bits b p t h l =
    let f : ℕ → ℕ → Bool = λ p b. not (eqb (bit_or b (2 ^ p)) (2 ^ p)) in
    let g : ℕ → ℕ → Bool = λ p b. in_other (party_bits b) p t 8 in
    agree (f p) (g p) 256 (agree (λ p. values (f p) 256) (λ p. values (g p) 256) 8 refl p l) b h

pub count_bits : (b t : ℕ) → b < 256 → ones b ≡ knowers (party_bits b) t 8
unfolding ones ones_in knowers bit
count_bits b t h = agree ones (λ b. knowers (party_bits b) t 8) 256 refl b h
