-- Digits written from the first to the last, as powers of ten are taken away.
--     decimal-width, decimal-count, decimal-short     how many digits there are
--     Counting, counting-next, counting-end     how many digits there are, counted up
--     Spelling     the digits still to be written, and what they give
--     spelling-start, spelling-below, spelling-digit, spelling-room, spelling-next, spelling-last
-- Assumes nothing.
use mathlib.Core.Path.{◌≡◌, refl, sym, ap, ◌∙◌}
use mathlib.Core.List.{List, [], ◌∷◌}
use Prim.Native.Nat.{ℕ, suc, ◌+◌, ◌-◌, ◌*◌, ◌^◌, ◌<◌, ◌≤◌}
use native.Mathlib.Nat.{mul-one, pow-suc}
use native.Mathlib.Omega.{arith}
use lib.ListN.{length, set}
use lib.Seq.{sets}
use Rattle.rules.specs.Listing.{decimal}
use Rattle.theorems.specs.Residency.{All}
use Rattle.theorems.specs.Decimal.{digit_limit, Digit, read_back}
use Rattle.theorems.proofs.Decimal.{decimal_laws, numeral_most, numeral_least, read_below, first_taken}
use Rattle.decimal.specs.Text.{Room, Written, TakenAway}
use Rattle.decimal.proofs.Writing.{written_length}

-- at most k digits for a number below 10 ^ k
pub decimal_width : (k x : ℕ) → 0 < k → x < 2 ^ 64 → x < 10 ^ k → length (decimal x) ≤ k
decimal_width k x z h l =
    let d = decimal_laws x h in
    numeral_most (decimal x) k d.numeral z (omega (arith, d.gives))

-- as many as the powers of ten that are not above it, and one
pub decimal_count : (n x : ℕ) → 0 < n → x < 2 ^ 64 → (1 < n → 10 ^ (n - 1) ≤ x) → x < 10 ^ n → n ≡ length (decimal x)
decimal_count n x z h f l =
    let d = decimal_laws x h in
    omega (arith, decimal_width n x z h l, numeral_least (decimal x) n d.numeral (λ m. omega (arith, f m, d.gives)))

pub decimal_short : (x : ℕ) → x < 2 ^ 64 → (0 < length (decimal x)) × (length (decimal x) ≤ digit_limit)
decimal_short x h =
    let d = decimal_laws x h in
    (omega (arith, numeral_least (decimal x) 1 d.numeral (λ m. absurd (omega arith))), d.few)

-- A number has at least n digits, and n is at most the limit.
pub record Counting (x n : ℕ) : Type 0 where
  pub some : 0 < n
  pub most : n ≤ digit_limit
  pub reached : 1 < n → 10 ^ (n - 1) ≤ x

pub counting_next : (x n : ℕ) → Counting x n → n < digit_limit → 10 ^ n ≤ x → Counting x (n + 1)
counting_next x n w h l =
    let e : n + 1 - 1 ≡ n = omega arith in
    record { some = omega arith; most = omega arith; reached = λ k. omega (arith, ap (λ (i : ℕ). 10 ^ i) e) }

pub counting_end : (x n : ℕ) → Counting x n → x < 2 ^ 64 → x < 10 ^ n → n ≡ length (decimal x)
counting_end x n w h l = decimal_count n x w.some h w.reached l

-- Where x is written from a place on: n digits are still to be written, and they give what is left.
pub record Spelling (out₀ : List ℕ) (at x : ℕ) (out : List ℕ) (left n next : ℕ) : Type 0 where
  pub rest : List ℕ
  pub each : All Digit rest
  pub gives : read_back rest ≡ left
  pub count : length rest ≡ n
  pub most : n ≤ digit_limit
  pub size : length out ≡ length out₀
  pub bytes : sets out next rest ≡ sets out₀ at (decimal x)
  pub place : next + n ≡ at + length (decimal x)

pub spelling_start : (out : List ℕ) (at x n : ℕ) → x < 2 ^ 64 → n ≡ length (decimal x) → Spelling out at x out x n at
spelling_start out at x n h e =
    let d = decimal_laws x h in
    record {
      rest = decimal x;
      each = d.numeral.each;
      gives = d.gives;
      count = sym e;
      most = omega (arith, d.few);
      size = refl;
      bytes = refl;
      place = omega arith;
    }

module _ {out₀ : List ℕ} {at x : ℕ} {out : List ℕ} {left n next : ℕ} (s : Spelling out₀ at x out left n next) (some : 0 < n) where
  -- what is left is below ten times the power of the first of them
  pub spelling_below : left < 10 * 10 ^ (n - 1)
  spelling_below =
      let e : length s.rest ≡ suc (n - 1) = omega (arith, s.count) in
      omega (arith, read_below s.rest s.each, s.gives, ap (λ (k : ℕ). 10 ^ k) e, pow-suc 10 (n - 1))

  pub spelling_digit : n ≡ 1 → left < 10
  spelling_digit e =
      let z : n - 1 ≡ 0 = omega arith in
      omega (arith, spelling_below, ap (λ (k : ℕ). 10 ^ k) z)

  pub spelling_room : Room out₀ at (decimal x) → next < length out
  spelling_room h = omega (arith, h.fits, s.place, s.size)

  module _ {out' : List ℕ} {next' : ℕ} where
    -- the first of the digits is written
    pub spelling_next :
        {times rest power : ℕ} → power ≡ 10 ^ (n - 1) → TakenAway left power times rest
        → Written out next ((48 + times) ∷ []) out' next' → Spelling out₀ at x out' rest (n - 1) next'
    unfolding read_back
    spelling_next {times} {rest} {power} h t w = go s.rest s.each s.gives s.count s.bytes
      where
        go : (bs : List ℕ) → All Digit bs → read_back bs ≡ left → length bs ≡ n → sets out next bs ≡ sets out₀ at (decimal x) → Spelling out₀ at x out' rest (n - 1) next'
        go [] a g c b = absurd (omega arith)
        go (d ∷ bs) a g c b =
            let m : length bs ≡ n - 1 = omega arith in
            let p : power ≡ 10 ^ length bs = h ∙ sym (ap (λ (k : ℕ). 10 ^ k) m) in
            let q = ap (λ (k : ℕ). times * k) p in
            let f = first_taken d bs times rest a (omega (arith, t.whole)) (omega (arith, t.less)) in
            let k : next' ≡ suc next = omega (arith, w.place) in
            record {
              rest = bs;
              each = a.1;
              gives = f.1;
              count = m;
              most = omega (arith, s.most);
              size = written_length w ∙ s.size;
              bytes =
                  ap (λ (o : List ℕ). sets o next' bs) w.bytes
                  ∙ ap (λ (i : ℕ). sets (set out next (48 + times)) i bs) k
                  ∙ sym (ap (λ (e : ℕ). sets (set out next e) (suc next) bs) f.0)
                  ∙ b;
              place = omega (arith, s.place);
            }

    -- the last of them is what is left
    pub spelling_last : n ≡ 1 → Written out next ((48 + left) ∷ []) out' next' → Written out₀ at (decimal x) out' next'
    spelling_last e w =
        let z : n - 1 ≡ 0 = omega arith in
        let t : TakenAway left 1 left 0 = record { whole = omega (arith, mul-one left); digit = spelling_digit e; less = omega arith } in
        let r = spelling_next (sym (ap (λ (k : ℕ). 10 ^ k) z)) t w in
        record { bytes = go r.rest (omega (arith, r.count)) r.bytes; place = omega (arith, r.place) }
      where
        go : (bs : List ℕ) → length bs ≡ 0 → sets out' next' bs ≡ sets out₀ at (decimal x) → out' ≡ sets out₀ at (decimal x)
        go [] c b = b
        go (d ∷ bs) c b = absurd (omega arith)
