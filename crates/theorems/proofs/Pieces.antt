-- The pieces of a file from a place on, one record at a time, and what loading makes of them.
-- Assumes nothing.
use mathlib.Core.Path.{◌≡◌, refl, sym, ap, ◌∙◌}
use mathlib.Core.Bool.{Bool, true}
use mathlib.Core.List.{List, [], ◌∷◌}
use Prim.Native.Nat.{ℕ, zero, suc, ◌+◌, ◌-◌, ◌<◌, ◌≤◌}
use native.Mathlib.Omega.{arith}
use native.Mathlib.Numerals.{add-one}
use lib.Dec.{eqb, ltb}
use lib.ListN.{length, get_or, take, drop, length-take, length-drop, drop_of_length-le}
use lib.Seq.{drop-cons, drop-drop}
use borrow.Author.Tests.{eq-eqb, ne_eqb, lt-ltb, le-leb}
use Rattle.rules.specs.Limits.{file_limit}
use Rattle.rules.specs.Record.{section_of, body_length, Piece, whole, cut, pieces}
use Rattle.rules.specs.File.{File}
use Rattle.rules.specs.Load.{loaded, refused, record_fault, enter, settle, step, feed, empty_file, load}

-- enough fuel is enough
fuel : (n m at : ℕ) (bs : List ℕ) → length bs ≤ n → length bs ≤ m → pieces n at bs ≡ pieces m at bs
unfolding pieces
fuel zero zero at bs p q = refl
fuel zero (suc m) at [] p q = refl
fuel zero (suc m) at (k ∷ bs) p q = absurd (omega arith)
fuel (suc n) zero at [] p q = refl
fuel (suc n) zero at (k ∷ bs) p q = absurd (omega arith)
fuel (suc n) (suc m) at [] p q = refl
fuel (suc n) (suc m) at (k ∷ bs) p q =
    rw (fuel n m (at + 1 + body_length k) (drop (body_length k) bs) (simp length-drop (omega arith)) (simp length-drop (omega arith)))

-- the pieces of a file from a place on
unfoldable pub from : List ℕ → ℕ → List Piece
from bs at = pieces (length bs) at (drop at bs)

pub from_end : (bs : List ℕ) (at : ℕ) → length bs ≤ at → from bs at ≡ []
unfolding from pieces
from_end bs at h = rw (drop_of_length-le bs h) (none (length bs))
  where
    none : (n : ℕ) → pieces n at [] ≡ []
    none zero = refl
    none (suc n) = refl

-- the body of the record at a place
unfoldable pub body_at : List ℕ → ℕ → List ℕ
body_at bs at = take (body_length (get_or bs at 0)) (drop (at + 1) bs)

pub body_length_lem : (bs : List ℕ) (at : ℕ) → at + 1 + body_length (get_or bs at 0) ≤ length bs → length (body_at bs at) ≡ body_length (get_or bs at 0)
unfolding body_at
body_length_lem bs at l = simp (length-take, length-drop) (omega arith)

module _ (bs : List ℕ) (at : ℕ) (h : at < length bs) where
  abbrev k : ℕ
  k = get_or bs at 0

  dropped : drop at bs ≡ k ∷ drop (at + 1) bs
  dropped = drop-cons bs at 0 h ∙ ap (λ (i : ℕ). k ∷ drop i bs) (sym (add-one at))

  moved : drop (body_length k) (drop (at + 1) bs) ≡ drop (at + 1 + body_length k) bs
  moved = drop-drop (body_length k) (at + 1) bs

  rest : (n : ℕ) → length bs ≡ suc n → pieces n (at + 1 + body_length k) (drop (body_length k) (drop (at + 1) bs)) ≡ pieces (suc n) (at + 1 + body_length k) (drop (at + 1 + body_length k) bs)
  rest n e =
      ap (pieces n (at + 1 + body_length k)) moved
      ∙ fuel n (suc n) (at + 1 + body_length k) (drop (at + 1 + body_length k) bs) (simp length-drop (omega arith)) (simp length-drop (omega arith))

  cut_go : (n : ℕ) → length bs ≡ n
      → pieces n at (drop at bs)
      ≡ cut (ltb 0 (section_of k)) (eqb (length (take (body_length k) (drop (at + 1) bs))) (body_length k)) at k (take (body_length k) (drop (at + 1) bs)) (pieces n (at + 1 + body_length k) (drop (at + 1 + body_length k) bs))
  unfolding pieces
  cut_go zero e = absurd (omega arith)
  cut_go (suc n) e =
      ap (pieces (suc n) at) dropped
      ∙ ap (cut (ltb 0 (section_of k)) (eqb (length (take (body_length k) (drop (at + 1) bs))) (body_length k)) at k (take (body_length k) (drop (at + 1) bs))) (rest n e)

  from_cut : from bs at ≡ cut (ltb 0 (section_of k)) (eqb (length (body_at bs at)) (body_length k)) at k (body_at bs at) (from bs (at + 1 + body_length k))
  unfolding from body_at
  from_cut = cut_go (length bs) refl

-- What loading makes of the pieces from a place on.
-- a refusal stays
feed_refused : (r at : ℕ) (xs : List Piece) → feed (refused r at) xs ≡ refused r at
unfolding feed step
feed_refused r at [] = refl
feed_refused r at (x ∷ xs) = feed_refused r at xs

-- loading the file is feeding its pieces from the start on
pub load_from : (bs : List ℕ) → length bs ≤ file_limit → load bs ≡ feed (loaded empty_file) (from bs 0)
unfolding load from
load_from bs h = rw (le-leb (length bs) file_limit h)

pub feed_end : (bs : List ℕ) (at : ℕ) (f : File) → length bs ≤ at → feed (loaded f) (from bs at) ≡ loaded f
unfolding feed
feed_end bs at f h = rw (from_end bs at h)

module _ (bs : List ℕ) (at : ℕ) (h : at < length bs) (f : File) where
  -- an unknown kind
  pub feed_unknown : section_of (get_or bs at 0) ≡ 0 → feed (loaded f) (from bs at) ≡ refused 3 at
  unfolding feed step cut
  feed_unknown e = rw (from_cut bs at h, e)

  -- a body cut short
  pub feed_short : 0 < section_of (get_or bs at 0) → length bs - (at + 1) < body_length (get_or bs at 0) → feed (loaded f) (from bs at) ≡ refused 4 at
  unfolding feed step cut body_at
  feed_short s l = rw (from_cut bs at h, lt-ltb 0 (section_of (get_or bs at 0)) s, ne_eqb (length (take (body_length (get_or bs at 0)) (drop (at + 1) bs))) (body_length (get_or bs at 0)) (simp (length-take, length-drop) (omega arith)))

  -- a whole record is the next piece
  from_whole : 0 < section_of (get_or bs at 0) → at + 1 + body_length (get_or bs at 0) ≤ length bs → from bs at ≡ whole at (get_or bs at 0) (body_at bs at) ∷ from bs (at + 1 + body_length (get_or bs at 0))
  unfolding cut
  from_whole s l =
      from_cut bs at h
      ∙ ap (λ (b : Bool). cut b (eqb (length (body_at bs at)) (body_length (get_or bs at 0))) at (get_or bs at 0) (body_at bs at) (from bs (at + 1 + body_length (get_or bs at 0)))) (lt-ltb 0 (section_of (get_or bs at 0)) s)
      ∙ ap (λ (b : Bool). cut true b at (get_or bs at 0) (body_at bs at) (from bs (at + 1 + body_length (get_or bs at 0)))) (eq-eqb (length (body_at bs at)) (body_length (get_or bs at 0)) (body_length_lem bs at l))

  feed_whole : 0 < section_of (get_or bs at 0) → at + 1 + body_length (get_or bs at 0) ≤ length bs
      → feed (loaded f) (from bs at) ≡ feed (settle (record_fault f (get_or bs at 0) (body_at bs at)) at (enter f at (get_or bs at 0) (body_at bs at))) (from bs (at + 1 + body_length (get_or bs at 0)))
  unfolding feed step
  feed_whole s l = ap (feed (loaded f)) (from_whole s l)

  -- a whole record that is refused
  pub feed_refusal : 0 < section_of (get_or bs at 0) → at + 1 + body_length (get_or bs at 0) ≤ length bs → (r : ℕ) → record_fault f (get_or bs at 0) (body_at bs at) ≡ suc r → feed (loaded f) (from bs at) ≡ refused (suc r) at
  unfolding settle
  feed_refusal s l r e =
      feed_whole s l
      ∙ ap (λ (x : ℕ). feed (settle x at (enter f at (get_or bs at 0) (body_at bs at))) (from bs (at + 1 + body_length (get_or bs at 0)))) e
      ∙ feed_refused (suc r) at (from bs (at + 1 + body_length (get_or bs at 0)))

  -- a whole record that is taken
  pub feed_taken : 0 < section_of (get_or bs at 0) → at + 1 + body_length (get_or bs at 0) ≤ length bs → record_fault f (get_or bs at 0) (body_at bs at) ≡ 0
      → feed (loaded f) (from bs at) ≡ feed (loaded (enter f at (get_or bs at 0) (body_at bs at))) (from bs (at + 1 + body_length (get_or bs at 0)))
  unfolding settle
  feed_taken s l e =
      feed_whole s l
      ∙ ap (λ (x : ℕ). feed (settle x at (enter f at (get_or bs at 0) (body_at bs at))) (from bs (at + 1 + body_length (get_or bs at 0)))) e
