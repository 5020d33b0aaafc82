-- The laws of decimal digits, and that they determine them.
--     decimal-laws     what the listing prints for a number of 64 bits
--     determined, decimal-only     digits without a 0 in front by the number that they give
--     read_below, numeral-most, numeral-least     how large a number is, and how many digits it has
--     first_taken     the first digit by how often its power of ten can be taken away
-- Assumes nothing.
use mathlib.Core.Bool.{Bool, true, false, cond}
use mathlib.Core.Path.{◌≡◌, refl, sym, ap, ◌∙◌}
use mathlib.Core.List.{List, [], ◌∷◌}
use Prim.Native.Nat.{ℕ, zero, suc, ◌+◌, ◌-◌, ◌*◌, ◌/◌, ◌%◌, ◌^◌, ◌<◌, ◌≤◌}
use native.Mathlib.Nat.{pow-suc, add-mul, mul_assoc, mul_comm, one-mul, le_antisymm, mul-le-mul_right, pow-le-pow_right, mul-add-div_right, div-eq_of_lt}
use native.Mathlib.Omega.{arith}
use lib.Dec.{ltb}
use lib.ListN.{length}
use borrow.Author.Tests.{ltb-true, ltb-false, lt-ltb}
use Rattle.rules.specs.Listing.{digits, decimal}
use Rattle.theorems.specs.Residency.{All}
use Rattle.theorems.specs.Decimal.{zero_digit, Digit, read_back, NoZeroInFront, Numeral, DecimalLaws, DigitsDetermined, DecimalOnly}

-- digits give less than one more digit would
pub read_below : (bs : List ℕ) → All Digit bs → read_back bs < 10 ^ length bs
unfolding read_back
read_below [] h = omega arith
read_below (b ∷ bs) h =
    let r = read_below bs h.1 in
    let p = pow-suc 10 (length bs) in
    let m = mul-le-mul_right {m = b - zero_digit} {n = 9} (10 ^ length bs) (omega (arith, h.0)) in
    omega arith

-- two digits and more, with no 0 in front, give at least the power of ten of the first
read_from : (bs : List ℕ) → Numeral bs → 1 < length bs → 10 ^ (length bs - 1) ≤ read_back bs
unfolding read_back
read_from [] n h = absurd (omega arith)
read_from (b ∷ []) n h = absurd (omega arith)
read_from (b ∷ c ∷ bs) n h =
    let d = n.each.0 in
    let e : b ≡ zero_digit → ⊥ = λ z. absurd (omega (arith, ap length (n.front z))) in
    let m = mul-le-mul_right {m = 1} {n = b - zero_digit} (10 ^ length (c ∷ bs)) (omega arith) in
    let o = one-mul (10 ^ length (c ∷ bs)) in
    let l : length (b ∷ c ∷ bs) - 1 ≡ length (c ∷ bs) = omega arith in
    omega (arith, ap (λ (n : ℕ). 10 ^ n) l)

some_digit : (bs : List ℕ) → Numeral bs → 0 < length bs
some_digit [] n = absurd n.front
some_digit (b ∷ bs) n = omega arith

-- below a power of ten there are no more digits than the power has zeros
pub numeral_most : (bs : List ℕ) (n : ℕ) → Numeral bs → 0 < n → read_back bs < 10 ^ n → length bs ≤ n
numeral_most bs n u h k =
    let more : n < length bs → ⊥ = λ l. omega (arith, read_from bs u (omega arith), pow-le-pow_right {n = 10} (omega arith) {i = n} {j = length bs - 1} (omega arith)) in
    omega arith

-- and from the power before it on no fewer
pub numeral_least : (bs : List ℕ) (n : ℕ) → Numeral bs → (1 < n → 10 ^ (n - 1) ≤ read_back bs) → n ≤ length bs
numeral_least bs n u h =
    let s = some_digit bs u in
    let fewer : length bs < n → ⊥ = λ l. omega (arith, read_below bs u.each, h (omega arith), pow-le-pow_right {n = 10} (omega arith) {i = length bs} {j = n - 1} (omega arith)) in
    omega arith

-- what a power is taken from, by how often it is taken away and what is left
taken_once : (p a b r s : ℕ) → r < p → s < p → a * p + r ≡ b * p + s → (a ≡ b) × (r ≡ s)
taken_once p a b r s h k e =
    let z : 0 < p = omega arith in
    let q : a ≡ b = omega (arith, mul-add-div_right z a r, mul-add-div_right z b s, div-eq_of_lt h, div-eq_of_lt k, ap (λ (n : ℕ). n / p) e) in
    (q, omega (arith, e, ap (λ (n : ℕ). n * p) q))

-- the first digit is how often its power of ten can be taken away, and the others give what is left
pub first_taken :
    (b : ℕ) (bs : List ℕ) (times left : ℕ) → All Digit (b ∷ bs)
    → read_back (b ∷ bs) ≡ times * 10 ^ length bs + left → left < 10 ^ length bs → (b ≡ zero_digit + times) × (read_back bs ≡ left)
unfolding read_back
first_taken b bs times left h e k =
    let d = h.0 in
    let t = taken_once (10 ^ length bs) (b - zero_digit) times (read_back bs) left (read_below bs h.1) k e in
    (omega (arith, t.0), t.1)

same_digits : (bs cs : List ℕ) → All Digit bs → All Digit cs → length bs ≡ length cs → read_back bs ≡ read_back cs → bs ≡ cs
unfolding read_back
same_digits [] [] h k l e = refl
same_digits [] (c ∷ cs) h k l e = absurd (omega arith)
same_digits (b ∷ bs) [] h k l e = absurd (omega arith)
same_digits (b ∷ bs) (c ∷ cs) h k l e =
    let m : length bs ≡ length cs = omega arith in
    let g = ap (λ (n : ℕ). (b - zero_digit) * 10 ^ n) m in
    let p = ap (λ (n : ℕ). 10 ^ n) m in
    let t = first_taken c cs (b - zero_digit) (read_back bs) k (omega arith) (omega (arith, read_below bs h.1)) in
    let d = h.0 in
    let x : b ≡ c = omega (arith, t.0) in
    let y = same_digits bs cs h.1 k.1 m (sym t.1) in
    ap (λ (n : ℕ). n ∷ bs) x ∙ ap (λ (l : List ℕ). c ∷ l) y

pub determined : DigitsDetermined
determined bs cs u v e =
    let x = some_digit bs u in
    let y = some_digit cs v in
    let r = read_below bs u.each in
    let s = read_below cs v.each in
    same_digits bs cs u.each v.each
    (le_antisymm (numeral_most bs (length cs) u y (omega arith)) (numeral_most cs (length bs) v x (omega arith)))
    e

-- a digit behind others
tens : (a d q : ℕ) → a * (q * 10) + d * q ≡ (a * 10 + d) * q
tens a d q =
    ap (λ (k : ℕ). a * k + d * q) (mul_comm q 10)
    ∙ sym (ap (λ (k : ℕ). k + d * q) (mul_assoc a 10 q))
    ∙ sym (add-mul (a * 10) d q)

-- What the rules' way leaves: the digits of x in front of those that are there.
record Formed (n x : ℕ) (more bs : List ℕ) : Type 0 where
  each : All Digit bs
  front : NoZeroInFront bs
  gives : read_back bs ≡ x * 10 ^ length more + read_back more
  few : length bs ≤ suc n + length more

module _ (n x : ℕ) (more : List ℕ) (a : All Digit more) where
  formed_last : x < 10 → (x ≡ 0 → more ≡ []) → Formed n x more ((48 + x) ∷ more)
  unfolding read_back
  formed_last l z =
      let s : 48 + x - 48 ≡ x = omega arith in
      record {
        each = ((omega arith, omega arith), a);
        front = λ i. z (omega arith);
        gives = ap (λ (k : ℕ). k * 10 ^ length more + read_back more) s;
        few = omega arith;
      }

  formed_more : (bs : List ℕ) → Formed n (x / 10) ((48 + x % 10) ∷ more) bs → Formed (suc n) x more bs
  unfolding read_back
  formed_more bs f =
      let s : 48 + x % 10 - 48 ≡ x % 10 = omega arith in
      let t = tens (x / 10) (x % 10) (10 ^ length more) in
      let u : x / 10 * 10 + x % 10 ≡ x = omega arith in
      let v = ap (λ (k : ℕ). k * 10 ^ length more) u in
      let w = ap (λ (k : ℕ). k * 10 ^ length more) s in
      let y = ap (λ (k : ℕ). x / 10 * k) (pow-suc 10 (length more)) in
      record {
        each = f.each;
        front = f.front;
        gives = omega (arith, f.gives);
        few = omega (arith, f.few);
      }

formed : (n x : ℕ) (more : List ℕ) → x < 10 ^ suc n → All Digit more → (x ≡ 0 → more ≡ []) → Formed n x more (digits (suc n) x more)
unfolding digits
formed zero x more h a z = rw (lt-ltb x 10 h) (formed_last zero x more a h z)
formed (suc n) x more h a z =
    go (ltb x 10) refl
    (λ l. formed n (x / 10) ((48 + x % 10) ∷ more) (omega (arith, pow-suc 10 (suc n))) ((omega arith, omega arith), a) (λ i. absurd (omega arith)))
  where
    go : (b : Bool) → ltb x 10 ≡ b
        → (10 ≤ x → Formed n (x / 10) ((48 + x % 10) ∷ more) (digits (suc n) (x / 10) ((48 + x % 10) ∷ more)))
        → Formed (suc n) x more (cond b ((48 + x) ∷ more) (digits (suc n) (x / 10) ((48 + x % 10) ∷ more)))
    go true e f = formed_last (suc n) x more a (ltb-true x 10 e) z
    go false e f = formed_more n x more a _ (f (ltb-false x 10 e))

pub decimal_laws : DecimalLaws
unfolding decimal read_back
decimal_laws x h =
    let f = formed 19 x [] (omega arith) tt (λ z. refl) in
    record {
      numeral = record { each = f.each; front = f.front };
      gives = omega (arith, f.gives);
      few = omega (arith, f.few);
    }

pub decimal_only : DecimalOnly
decimal_only x bs h d =
    let l = decimal_laws x h in
    determined bs (decimal x) d.numeral l.numeral (d.gives ∙ sym l.gives)
