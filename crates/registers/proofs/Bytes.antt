-- What a store to two bytes does to what registers show; and that the bytes are the rules' bytes of what they show.
--     register-place, shown-there   where a register stands, and what it shows
--     shown-put                     a store to a register's bytes
--     exact                         the bytes are those of what they show
-- Assumes nothing.
use mathlib.Core.Bool.{Bool, true, false, cond, ◌&&◌}
use mathlib.Core.Path.{◌≡◌, refl, ap, ap₂, sym, ◌∙◌}
use mathlib.Core.List.{List, ◌∷◌, ◌++◌}
use Prim.Native.Nat.{ℕ, zero, suc, ◌+◌, ◌*◌, ◌/◌, ◌%◌, ◌<◌, ◌≤◌}
use native.Mathlib.Omega.{arith}
use lib.Dec.{eqb, ltb}
use lib.ListN.{length, get_or, set, take, drop, length-set}
use lib.Seq.{get_or-set_same, get_or-set_other, drop-cons, drop-drop, take-add, take_all}
use borrow.Author.Tests.{eqb-true, eqb-false, ltb-true, ltb-false, lt-ltb}
use Rattle.rules.specs.Limits.{party_limit, register_count, register_width, register_bytes, empty_field}
use Rattle.rules.specs.Record.{word}
use Rattle.rules.specs.Lent.{high, low, register_row, register_rows}
use Rattle.state.specs.View.{word_put}
use Rattle.registers.specs.View.{register_at, registers_in, shown_at}

-- a register that there is
pub shown_there : (s : List ℕ) (p i : ℕ) → p < party_limit → i < register_count → registers_in s p i ≡ word s (register_at p i)
unfolding registers_in
shown_there s p i h l = rw (lt-ltb p party_limit h, lt-ltb i register_count l)

word_kept : (s : List ℕ) (a x i : ℕ) → (i ≡ a → ⊥) → (i + 1 ≡ a → ⊥) → word (set s a x) i ≡ word s i
unfolding word
word_kept s a x i n m = ap₂ (λ (h l : ℕ). h * 256 + l) (get_or-set_other s a i x 0 n) (get_or-set_other s a (i + 1) x 0 m)

module _ (s : List ℕ) (a x : ℕ) where
  pair_kept : (j : ℕ) → (j ≡ a → ⊥) → (j ≡ a + 1 → ⊥) → (j + 1 ≡ a → ⊥) → word (word_put s a x) j ≡ word s j
  pair_kept j n m n' = word_kept (set s a (x / 256 % 256)) (a + 1) (x % 256) j m (λ e. n (omega arith)) ∙ word_kept s a (x / 256 % 256) j n n'

  pair_same : x < 65536 → a + 1 < length s → word (word_put s a x) a ≡ x
  unfolding word
  pair_same b r =
      let h : get_or (word_put s a x) a 0 ≡ x / 256 % 256 = get_or-set_other (set s a (x / 256 % 256)) (a + 1) a (x % 256) 0 (omega arith) ∙ get_or-set_same s a (x / 256 % 256) 0 (omega arith) in
      let l : get_or (word_put s a x) (a + 1) 0 ≡ x % 256 = get_or-set_same (set s a (x / 256 % 256)) (a + 1) (x % 256) 0 (rw length-set r) in
      let e : x / 256 % 256 * 256 + x % 256 ≡ x = omega arith in
      ap₂ (λ (m n : ℕ). m * 256 + n) h l ∙ e

module _ (s : List ℕ) (room : length s ≡ register_bytes) (p i r : ℕ) (h : p < party_limit) (l : i < register_count) (b : r < 65536) where
  put_go : (q j : ℕ) (a c d e : Bool) → ltb q party_limit ≡ a → ltb j register_count ≡ c → eqb q p ≡ d → eqb j i ≡ e
      → cond (a && c) (word (word_put s (register_at p i) r) (register_at q j)) empty_field ≡ cond (d && e) r (cond (a && c) (word s (register_at q j)) empty_field)
  put_go q j true true true true w x y z = rw (eqb-true q p y, eqb-true j i z) (pair_same s (register_at p i) r b (omega arith))
  put_go q j true true true false w x y z =
      let n = eqb-false j i z in
      let m = ltb-true j register_count x in
      let o = eqb-true q p y in
      pair_kept s (register_at p i) r (register_at q j) (λ t. n (omega arith)) (omega arith) (omega arith)
  put_go q j true true false e w x y z =
      let n = eqb-false q p y in
      let m = ltb-true j register_count x in
      let o = ltb-true q party_limit w in
      pair_kept s (register_at p i) r (register_at q j) (λ t. n (omega arith)) (omega arith) (omega arith)
  put_go q j true false true true w x y z = let n = ltb-false j register_count x in let o = eqb-true j i z in absurd (omega arith)
  put_go q j true false true false w x y z = refl
  put_go q j true false false e w x y z = refl
  put_go q j false c true e w x y z = let n = ltb-false q party_limit w in let o = eqb-true q p y in absurd (omega arith)
  put_go q j false c false e w x y z = refl

  pub shown_put : registers_in (word_put s (register_at p i) r) ≡ shown_at (registers_in s) p i r
  unfolding registers_in shown_at
  shown_put = λ k q j. put_go q j (ltb q party_limit) (ltb j register_count) (eqb q p) (eqb j i) refl refl refl refl k

-- the bytes are those of what they show, as the rules write them
module _ (s : List ℕ) (room : length s ≡ register_bytes) (bytes : (i : ℕ) → get_or s i 0 < 256) where
  high_word : (i : ℕ) → high (word s i) ≡ get_or s i 0
  unfolding high word
  high_word i = omega (arith, bytes i, bytes (i + 1))

  low_word : (i : ℕ) → low (word s i) ≡ get_or s (suc i) 0
  unfolding low word
  low_word i = let e : i + 1 ≡ suc i = omega arith in rw e (omega (arith, bytes i, bytes (suc i)))

  two : (a n : ℕ) → a + 2 * suc n ≤ length s → take (2 * suc n) (drop a s) ≡ get_or s a 0 ∷ get_or s (suc a) 0 ∷ take (2 * n) (drop (suc (suc a)) s)
  two a n h =
      let l : 2 * suc n ≡ suc (suc (2 * n)) = omega arith in
      rw (l, drop-cons s a 0 (omega arith), drop-cons s (suc a) 0 (omega arith)) refl

  row_from : (p i n : ℕ) → p < party_limit → i + n ≤ register_count → register_row (registers_in s p) i n ≡ take (2 * n) (drop (register_at p i) s)
  unfolding register_row
  row_from p i zero h l = refl
  row_from p i (suc n) h l =
      let a = register_at p i in
      let w : registers_in s p i ≡ word s a = shown_there s p i h (omega arith) in
      let e : register_at p (suc i) ≡ suc (suc a) = omega arith in
      let rest = row_from p (suc i) n h (omega arith) ∙ ap (λ (k : ℕ). take (2 * n) (drop k s)) e in
      (λ k. (ap high w ∙ high_word a) k ∷ (ap low w ∙ low_word a) k ∷ rest k) ∙ sym (two a n (omega arith))

  rows_from : (p n : ℕ) → p + n ≤ party_limit → register_rows (registers_in s) p n ≡ take (register_width * n) (drop (register_width * p) s)
  unfolding register_rows
  rows_from p zero h = refl
  rows_from p (suc n) h =
      let z : register_at p 0 ≡ register_width * p = omega arith in
      let e : register_width * p + register_width ≡ register_width * suc p = omega arith in
      let m : register_width * suc n ≡ register_width + register_width * n = omega arith in
      let first = row_from p 0 register_count (omega arith) (omega arith) ∙ ap (λ (k : ℕ). take register_width (drop k s)) z in
      let rest = rows_from (suc p) n (omega arith) in
      ap₂ ◌++◌ first (rest ∙ ap (λ (k : ℕ). take (register_width * n) (drop k s)) (sym e) ∙ ap (take (register_width * n)) (sym (drop-drop register_width (register_width * p) s)))
      ∙ sym (take-add register_width (register_width * n) (drop (register_width * p) s))
      ∙ ap (λ (k : ℕ). take k (drop (register_width * p) s)) (sym m)

  pub exact : register_rows (registers_in s) 0 party_limit ≡ s
  exact = rows_from 0 party_limit (omega arith) ∙ take_all register_bytes s (omega arith)
