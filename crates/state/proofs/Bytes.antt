-- What a store to a byte of the state does to its columns.
--     view_known, -table, -mark, -desk, -request, -place     a store to the byte or bytes of a column is one to the column
--     cleared                                                one more zero byte
-- Assumes nothing.
use mathlib.Core.Bool.{Bool, true, false, cond, ◌&&◌, ◌||◌}
use mathlib.Core.Path.{◌≡◌, refl, ap, ap₂, sym, ◌∙◌}
use mathlib.Core.List.{List}
use Prim.Native.Nat.{ℕ, ◌+◌, ◌*◌, ◌/◌, ◌%◌, ◌^◌, ◌<◌}
use native.Mathlib.Omega.{arith}
use lib.ListN.{length, get_or, set, length-set}
use lib.Seq.{get_or-set_same, get_or-set_other}
use lib.Bits.{bit_or}
use lib.Dec.{eqb}
use borrow.Author.Tests.{eqb-true, eqb-false}
use Rattle.rules.specs.Record.{word}
use Rattle.rules.specs.Learning.{Knowledge, grant}
use Rattle.rules.specs.State.{put}
use Rattle.state.specs.View.{view, with_knows, with_table, with_mark, with_desk, with_request, with_place, word_put, bit}
use Rattle.state.proofs.Bits.{bit_same, bit_other}

-- the knowledge that bit p of the bytes at an offset holds
abbrev column : List ℕ → ℕ → Knowledge
column s o = λ q u. eqb (bit (get_or s (8 * u + o) 0) q) 1

-- the bytes with bit p of term t set, at an offset
abbrev marked : List ℕ → ℕ → ℕ → ℕ → List ℕ
marked s o p t = set s (8 * t + o) (bit_or (get_or s (8 * t + o) 0) (2 ^ p))

granted : (s : List ℕ) (o p t : ℕ) → 8 * t + o < length s → (q u : ℕ) → column (marked s o p t) o q u ≡ grant (column s o) p t q u
unfolding grant
granted s o p t h q u = go (eqb q p) (eqb u t) refl refl
  where
    other : (u ≡ t → ⊥) → column (marked s o p t) o q u ≡ column s o q u
    other n = ap (λ (x : ℕ). eqb (bit x q) 1) (get_or-set_other s (8 * t + o) (8 * u + o) _ 0 (λ e. n (omega arith)))

    same : u ≡ t → column (marked s o p t) o q u ≡ eqb (bit (bit_or (get_or s (8 * t + o) 0) (2 ^ p)) q) 1
    same e = rw e (ap (λ (x : ℕ). eqb (bit x q) 1) (get_or-set_same s (8 * t + o) _ 0 h))

    go : (a b : Bool) → eqb q p ≡ a → eqb u t ≡ b → column (marked s o p t) o q u ≡ (a && b) || column s o q u
    go true true e d =
        same (eqb-true u t d)
        ∙ rw (eqb-true q p e) (ap (λ (x : ℕ). eqb x 1) (bit_same (get_or s (8 * t + o) 0) p))
    go false true e d =
        let n = eqb-false q p e in
        same (eqb-true u t d)
        ∙ ap (λ (x : ℕ). eqb x 1) (bit_other (get_or s (8 * t + o) 0) p q (λ f. n (sym f)))
        ∙ ap (λ (x : ℕ). eqb (bit (get_or s (8 * x + o) 0) q) 1) (sym (eqb-true u t d))
    go true false e d = other (eqb-false u t d)
    go false false e d = other (eqb-false u t d)

-- a column of two bytes that a store does not touch
word_kept : (s : List ℕ) (a x i : ℕ) → (i ≡ a → ⊥) → (i + 1 ≡ a → ⊥) → word (set s a x) i ≡ word s i
unfolding word
word_kept s a x i n m = ap₂ (λ (h l : ℕ). h * 256 + l) (get_or-set_other s a i x 0 n) (get_or-set_other s a (i + 1) x 0 m)

-- a store to the byte of term t at an offset, in that column of bytes
byte_put : (s : List ℕ) (o t x : ℕ) → 8 * t + o < length s → (u : ℕ) → get_or (set s (8 * t + o) x) (8 * u + o) 0 ≡ put (λ v. get_or s (8 * v + o) 0) t x u
unfolding put
byte_put s o t x h u = go (eqb u t) refl
  where
    go : (d : Bool) → eqb u t ≡ d → get_or (set s (8 * t + o) x) (8 * u + o) 0 ≡ cond d x (get_or s (8 * u + o) 0)
    go true e = rw (eqb-true u t e) (get_or-set_same s (8 * t + o) x 0 h)
    go false e = let n = eqb-false u t e in get_or-set_other s (8 * t + o) (8 * u + o) x 0 (λ q. n (omega arith))

pub view_known : (s : List ℕ) (p t : ℕ) → 8 * t + 0 < length s → view (marked s 0 p t) ≡ with_knows (view s) (grant (view s).knows p t)
view_known s p t h = let x = bit_or (get_or s (8 * t + 0) 0) (2 ^ p) in λ i. record {
  knows = λ q u. granted s 0 p t h q u i;
  table = λ q u. eqb (bit (get_or-set_other s (8 * t + 0) (8 * u + 1) x 0 (omega arith) i) q) 1;
  mark = λ u. get_or-set_other s (8 * t + 0) (8 * u + 2) x 0 (omega arith) i;
  desk = λ u. get_or-set_other s (8 * t + 0) (8 * u + 3) x 0 (omega arith) i;
  request = λ u. word_kept s (8 * t + 0) x (8 * u + 4) (omega arith) (omega arith) i;
  place = λ u. word_kept s (8 * t + 0) x (8 * u + 6) (omega arith) (omega arith) i;
}

pub view_table : (s : List ℕ) (p t : ℕ) → 8 * t + 1 < length s → view (marked s 1 p t) ≡ with_table (view s) (grant (view s).table p t)
view_table s p t h = let x = bit_or (get_or s (8 * t + 1) 0) (2 ^ p) in λ i. record {
  knows = λ q u. eqb (bit (get_or-set_other s (8 * t + 1) (8 * u + 0) x 0 (omega arith) i) q) 1;
  table = λ q u. granted s 1 p t h q u i;
  mark = λ u. get_or-set_other s (8 * t + 1) (8 * u + 2) x 0 (omega arith) i;
  desk = λ u. get_or-set_other s (8 * t + 1) (8 * u + 3) x 0 (omega arith) i;
  request = λ u. word_kept s (8 * t + 1) x (8 * u + 4) (omega arith) (omega arith) i;
  place = λ u. word_kept s (8 * t + 1) x (8 * u + 6) (omega arith) (omega arith) i;
}

pub view_mark : (s : List ℕ) (t x : ℕ) → 8 * t + 2 < length s → view (set s (8 * t + 2) x) ≡ with_mark (view s) (put (view s).mark t x)
view_mark s t x h = λ i. record {
  knows = λ q u. eqb (bit (get_or-set_other s (8 * t + 2) (8 * u + 0) x 0 (omega arith) i) q) 1;
  table = λ q u. eqb (bit (get_or-set_other s (8 * t + 2) (8 * u + 1) x 0 (omega arith) i) q) 1;
  mark = λ u. byte_put s 2 t x h u i;
  desk = λ u. get_or-set_other s (8 * t + 2) (8 * u + 3) x 0 (omega arith) i;
  request = λ u. word_kept s (8 * t + 2) x (8 * u + 4) (omega arith) (omega arith) i;
  place = λ u. word_kept s (8 * t + 2) x (8 * u + 6) (omega arith) (omega arith) i;
}

pub view_desk : (s : List ℕ) (t x : ℕ) → 8 * t + 3 < length s → view (set s (8 * t + 3) x) ≡ with_desk (view s) (put (view s).desk t x)
view_desk s t x h = λ i. record {
  knows = λ q u. eqb (bit (get_or-set_other s (8 * t + 3) (8 * u + 0) x 0 (omega arith) i) q) 1;
  table = λ q u. eqb (bit (get_or-set_other s (8 * t + 3) (8 * u + 1) x 0 (omega arith) i) q) 1;
  mark = λ u. get_or-set_other s (8 * t + 3) (8 * u + 2) x 0 (omega arith) i;
  desk = λ u. byte_put s 3 t x h u i;
  request = λ u. word_kept s (8 * t + 3) x (8 * u + 4) (omega arith) (omega arith) i;
  place = λ u. word_kept s (8 * t + 3) x (8 * u + 6) (omega arith) (omega arith) i;
}

-- a number in two bytes, from a place on
module _ (s : List ℕ) (a x : ℕ) where
  byte_kept : (j : ℕ) → (j ≡ a → ⊥) → (j ≡ a + 1 → ⊥) → get_or (word_put s a x) j 0 ≡ get_or s j 0
  byte_kept j n m = get_or-set_other (set s a (x / 256 % 256)) (a + 1) j (x % 256) 0 m ∙ get_or-set_other s a j (x / 256 % 256) 0 n

  pair_kept : (j : ℕ) → (j ≡ a → ⊥) → (j ≡ a + 1 → ⊥) → (j + 1 ≡ a → ⊥) → word (word_put s a x) j ≡ word s j
  pair_kept j n m n' = word_kept (set s a (x / 256 % 256)) (a + 1) (x % 256) j m (λ e. n (omega arith)) ∙ word_kept s a (x / 256 % 256) j n n'

  pair_same : x < 65536 → a + 1 < length s → word (word_put s a x) a ≡ x
  unfolding word
  pair_same b r =
      let h : get_or (word_put s a x) a 0 ≡ x / 256 % 256 = get_or-set_other (set s a (x / 256 % 256)) (a + 1) a (x % 256) 0 (omega arith) ∙ get_or-set_same s a (x / 256 % 256) 0 (omega arith) in
      let l : get_or (word_put s a x) (a + 1) 0 ≡ x % 256 = get_or-set_same (set s a (x / 256 % 256)) (a + 1) (x % 256) 0 (rw length-set r) in
      let e : x / 256 % 256 * 256 + x % 256 ≡ x = omega arith in
      ap₂ (λ (m n : ℕ). m * 256 + n) h l ∙ e

-- the same for term t at an offset, in that column of words
word_put_lem : (s : List ℕ) (o t x : ℕ) → x < 65536 → 8 * t + o + 1 < length s → (u : ℕ) → word (word_put s (8 * t + o) x) (8 * u + o) ≡ put (λ v. word s (8 * v + o)) t x u
unfolding put
word_put_lem s o t x b r u = go (eqb u t) refl
  where
    go : (d : Bool) → eqb u t ≡ d → word (word_put s (8 * t + o) x) (8 * u + o) ≡ cond d x (word s (8 * u + o))
    go true e = rw (eqb-true u t e) (pair_same s (8 * t + o) x b r)
    go false e =
        let n = eqb-false u t e in
        pair_kept s (8 * t + o) x (8 * u + o) (λ q. n (omega arith)) (omega arith) (omega arith)

pub view_request : (s : List ℕ) (t x : ℕ) → x < 65536 → 8 * t + 4 + 1 < length s → view (word_put s (8 * t + 4) x) ≡ with_request (view s) (put (view s).request t x)
view_request s t x b r = λ i. record {
  knows = λ q u. eqb (bit (byte_kept s (8 * t + 4) x (8 * u + 0) (omega arith) (omega arith) i) q) 1;
  table = λ q u. eqb (bit (byte_kept s (8 * t + 4) x (8 * u + 1) (omega arith) (omega arith) i) q) 1;
  mark = λ u. byte_kept s (8 * t + 4) x (8 * u + 2) (omega arith) (omega arith) i;
  desk = λ u. byte_kept s (8 * t + 4) x (8 * u + 3) (omega arith) (omega arith) i;
  request = λ u. word_put_lem s 4 t x b r u i;
  place = λ u. pair_kept s (8 * t + 4) x (8 * u + 6) (omega arith) (omega arith) (omega arith) i;
}

pub view_place : (s : List ℕ) (t x : ℕ) → x < 65536 → 8 * t + 6 + 1 < length s → view (word_put s (8 * t + 6) x) ≡ with_place (view s) (put (view s).place t x)
view_place s t x b r = λ i. record {
  knows = λ q u. eqb (bit (byte_kept s (8 * t + 6) x (8 * u + 0) (omega arith) (omega arith) i) q) 1;
  table = λ q u. eqb (bit (byte_kept s (8 * t + 6) x (8 * u + 1) (omega arith) (omega arith) i) q) 1;
  mark = λ u. byte_kept s (8 * t + 6) x (8 * u + 2) (omega arith) (omega arith) i;
  desk = λ u. byte_kept s (8 * t + 6) x (8 * u + 3) (omega arith) (omega arith) i;
  request = λ u. pair_kept s (8 * t + 6) x (8 * u + 4) (omega arith) (omega arith) (omega arith) i;
  place = λ u. word_put_lem s 6 t x b r u i;
}
