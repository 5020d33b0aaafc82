-- Where the state bytes hold who knows a term: the first byte of its row, a bit a party.
-- Assumes nothing.
use mathlib.Core.Path.{◌≡◌, refl, sym, ap, subst, ◌∙◌}
use mathlib.Core.Bool.{Bool, true, false, cond}
use mathlib.Core.List.{List, [], ◌∷◌, ◌++◌}
use Prim.Native.Nat.{ℕ, zero, suc, ◌+◌, ◌*◌, ◌-◌, ◌/◌, ◌%◌, ◌^◌, ◌<◌}
use native.Mathlib.Omega.{arith}
use native.Mathlib.Decide.{ℕ_discrete}
use native.Mathlib.Nat.{mod-eq_of_lt, pow-suc}
use lib.Pow.{high, low, field, mod-mod-pow}
use lib.ListN.{length, get_or}
use lib.Seq.{get_or-append-add}
use Rattle.rules.specs.Limits.{row_width, party_limit}
use Rattle.rules.specs.State.{State}
use Rattle.rules.specs.Lent.{bits, row, rows}

bits_below : (n : ℕ) (test : ℕ → Bool) → bits n test < 2 ^ n
unfolding bits
bits_below zero test = omega arith
bits_below (suc n) test = go (test n) (bits_below n test)
  where
    go : (b : Bool) → bits n test < 2 ^ n → bits n test + cond b (2 ^ n) 0 < 2 ^ suc n
    go true h = omega (arith, pow-suc 2 n)
    go false h = omega (arith, pow-suc 2 n)

-- a bit below the lowest n that two numbers share
same_bit : (x y n p : ℕ) → p < n → x % 2 ^ n ≡ y % 2 ^ n → x / 2 ^ p % 2 ≡ y / 2 ^ p % 2
same_bit x y n p h e = sym (field x 1 p) ∙ ap (λ (m : ℕ). m / 2 ^ p) shared ∙ field y 1 p
  where
    split : (n - (1 + p)) + (1 + p) ≡ n
    split = omega arith

    lower : (z : ℕ) → z % 2 ^ n % 2 ^ (1 + p) ≡ z % 2 ^ (1 + p)
    lower z = ap (λ (m : ℕ). z % 2 ^ m % 2 ^ (1 + p)) (sym split) ∙ mod-mod-pow z (n - (1 + p)) (1 + p)

    shared : x % 2 ^ (1 + p) ≡ y % 2 ^ (1 + p)
    shared = sym (lower x) ∙ ap (λ (m : ℕ). m % 2 ^ (1 + p)) e ∙ lower y

-- a bit of a byte of bits
pub bit_of : (n : ℕ) (test : ℕ → Bool) (p : ℕ) → p < n → bits n test / 2 ^ p % 2 ≡ cond (test p) 1 0
unfolding bits
bit_of zero test p h = absurd (omega arith)
bit_of (suc n) test p h = go (ℕ_discrete p n) (bit_of n test p)
  where
    top : (b : Bool) (x w : ℕ) → x + cond b w 0 ≡ cond b 1 0 * w + x
    top true x w = omega arith
    top false x w = omega arith

    small : (b : Bool) → cond b 1 0 % 2 ≡ cond b 1 0
    small true = refl
    small false = refl

    split : bits n test + cond (test n) (2 ^ n) 0 ≡ cond (test n) 1 0 * 2 ^ n + bits n test
    split = top (test n) (bits n test) (2 ^ n)

    last : (bits n test + cond (test n) (2 ^ n) 0) / 2 ^ n % 2 ≡ cond (test n) 1 0
    last = ap (λ (x : ℕ). x / 2 ^ n % 2) split ∙ ap (λ (x : ℕ). x % 2) (high (cond (test n) 1 0) n (bits_below n test)) ∙ small (test n)

    go : Dec (p ≡ n) → (p < n → bits n test / 2 ^ p % 2 ≡ cond (test p) 1 0) → (bits n test + cond (test n) (2 ^ n) 0) / 2 ^ p % 2 ≡ cond (test p) 1 0
    go (yes e) below = subst (λ (q : ℕ). (bits n test + cond (test n) (2 ^ n) 0) / 2 ^ q % 2 ≡ cond (test q) 1 0) (sym e) last
    go (no d) below =
        same_bit (bits n test + cond (test n) (2 ^ n) 0) (bits n test) n p (omega arith)
        (ap (λ (x : ℕ). x % 2 ^ n) split ∙ low (cond (test n) 1 0) n (bits_below n test) ∙ sym (mod-eq_of_lt (bits_below n test)))
        ∙ below (omega arith)

-- the first byte of a row
pub known_byte : (s : State) (t k : ℕ) (places : List ℕ) → k < length places → get_or (rows s t places) (row_width * k) 0 ≡ bits party_limit (λ p. s.knows p (t + k))
unfolding rows row
known_byte s t k [] h = absurd (omega arith)
known_byte s t zero (place ∷ places) h = ap (λ (u : ℕ). bits party_limit (λ p. s.knows p u)) (let e : t ≡ t + 0 = omega arith in e)
known_byte s t (suc k) (place ∷ places) h =
    let e : row_width * suc k ≡ length (row s t place) + row_width * k = omega arith in
    let u : suc t + k ≡ t + suc k = omega arith in
    ap (λ (j : ℕ). get_or (row s t place ++ rows s (suc t) places) j 0) e
    ∙ get_or-append-add (row s t place) (rows s (suc t) places) (row_width * k) 0
    ∙ known_byte s (suc t) k places (omega arith)
    ∙ ap (λ (v : ℕ). bits party_limit (λ p. s.knows p v)) u

pub rows_length : (s : State) (t : ℕ) (places : List ℕ) → length (rows s t places) ≡ row_width * length places
unfolding rows row
rows_length s t [] = refl
rows_length s t (place ∷ places) = omega (arith, rows_length s (suc t) places)
