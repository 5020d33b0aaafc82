-- Text written piece by piece.
--     written_none     no text
--     written_then     one text after another
--     written_length     the bytes are as many as before
--     Rest     what is still to be written of a text
--     rest_start, rest_room, rest_next, rest_end     a text written piece by piece
-- Assumes nothing.
use mathlib.Core.Path.{◌≡◌, refl, ap, sym, ◌∙◌}
use mathlib.Core.List.{List, [], ◌∷◌, ◌++◌}
use Prim.Native.Nat.{ℕ, suc, ◌+◌}
use native.Mathlib.Omega.{arith}
use lib.ListN.{length, set, length-append}
use lib.Seq.{sets, length-sets}
use Rattle.decimal.specs.Text.{Room, Written}

sets_append : (s t l : List ℕ) (i : ℕ) → sets l i (s ++ t) ≡ sets (sets l i s) (i + length s) t
sets_append [] t l i = let e : i ≡ i + 0 = omega arith in ap (λ (k : ℕ). sets l k t) e
sets_append (x ∷ s) t l i =
    let e : suc i + length s ≡ i + suc (length s) = omega arith in
    sets_append s t (set l i x) (suc i) ∙ ap (λ (k : ℕ). sets (sets (set l i x) (suc i) s) k t) e

pub written_none : (l : List ℕ) (i : ℕ) → Written l i [] l i
written_none l i = record { bytes = refl; place = omega arith }

pub written_then : {a b c : List ℕ} {i j k : ℕ} {s t : List ℕ} → Written a i s b j → Written b j t c k → Written a i (s ++ t) c k
written_then {a} {b} {c} {i} {j} {k} {s} {t} v w = record {
  bytes =
      w.bytes
      ∙ ap (λ (l : List ℕ). sets l j t) v.bytes
      ∙ ap (λ (m : ℕ). sets (sets a i s) m t) v.place
      ∙ sym (sets_append s t a i);
  place = omega (arith, v.place, w.place, length-append s t);
}

pub written_length : {a b : List ℕ} {i j : ℕ} {s : List ℕ} → Written a i s b j → length b ≡ length a
written_length {a} {i = i} {s = s} w = ap length w.bytes ∙ length-sets a i s

-- Where a text is written from a place on: the rest of it still is, from another place on.
pub record Rest (out₀ : List ℕ) (at : ℕ) (text out : List ℕ) (next : ℕ) (rest : List ℕ) : Type 0 where
  pub bytes : sets out next rest ≡ sets out₀ at text
  pub place : next + length rest ≡ at + length text
  pub size : length out ≡ length out₀

pub rest_start : {a b : List ℕ} {i j : ℕ} (s t : List ℕ) → Written a i s b j → Rest a i (s ++ t) b j t
rest_start {a} {b} {i} {j} s t w = record {
  bytes = ap (λ (l : List ℕ). sets l j t) w.bytes ∙ ap (λ (m : ℕ). sets (sets a i s) m t) w.place ∙ sym (sets_append s t a i);
  place = omega (arith, w.place, length-append s t);
  size = written_length w;
}

module _ {a text b : List ℕ} {i j : ℕ} where
  pub rest_room : (s t : List ℕ) → Rest a i text b j (s ++ t) → Room a i text → Room b j s
  rest_room s t w r = record { fits = omega (arith, r.fits, w.place, w.size, length-append s t) }

  module _ {c : List ℕ} {k : ℕ} where
    pub rest_next : (s t : List ℕ) → Rest a i text b j (s ++ t) → Written b j s c k → Rest a i text c k t
    rest_next s t w v =
        let e = rest_start s t v in
        record { bytes = e.bytes ∙ w.bytes; place = omega (arith, e.place, w.place); size = e.size ∙ w.size }

    pub rest_end : (s : List ℕ) → Rest a i text b j s → Written b j s c k → Written a i text c k
    rest_end s w v = record { bytes = v.bytes ∙ w.bytes; place = omega (arith, v.place, w.place) }
