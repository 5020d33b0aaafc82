-- The pairs of a 43 as they are read, and lists of them.
--     read-none, read-empty, read-filled     one pair more
--     credential-among, certificate-among    a term in one field of the pairs
--     requested-more, formed-both            what holds of pairs before others
--     apart_at                               no pair before another has its certificate where no two are alike
-- Assumes nothing.
use mathlib.Core.Path.{◌≡◌, refl, sym, ap, subst, ◌∙◌}
use mathlib.Core.Bool.{Bool, true, false, cond, not, ◌&&◌, ◌||◌, false≢true}
use mathlib.Core.List.{List, [], ◌∷◌, ◌++◌, map, append-nil}
use Prim.Native.Nat.{ℕ, zero, suc, ◌+◌, ◌-◌, ◌*◌, ◌<◌, ◌≤◌}
use native.Mathlib.Omega.{arith}
use lib.Dec.{eqb}
use lib.ListN.{length, get_or, take, drop}
use borrow.Author.Tests.{eq-eqb, ne_eqb, eqb-true}
use Rattle.std.proofs.lemmas.List.{map_push, map_more, map-append, drop_more, drop_all, take_all, take-append-drop, length-drop}
use Rattle.std.specs.List.{list_any}
use Rattle.rules.specs.Limits.{pair_width}
use Rattle.rules.specs.declared.Subject.{Subject}
use Rattle.rules.specs.Term.{same_subject}
use Rattle.rules.specs.Record.{word}
use Rattle.rules.specs.File.{File, IakPair, subject}
use Rattle.rules.specs.Load.{empty_pair, pairs_at}
use Rattle.rules.specs.Desk.{ek_of, certificates_of, is_among, any_twice}
use Rattle.theorems.specs.Judging.{credentials_of, others_end}
use Rattle.theorems.proofs.Terms.{same_subject_lem, subject_same}
use Rattle.theorems.proofs.Booleans.{or_right}
use Rattle.theorems.proofs.Loading.{PairsFormed}
use Rattle.requests.specs.Formed.{Requested}
use Rattle.together.specs.declared.Pair.{Pair}
use Rattle.together.specs.Pairs.{pair_of, pairs_of, PairsRequested}

-- some pairs before others
abbrev own_at : List ℕ → ℕ → IakPair
own_at bs i = record { credential = word bs i; certificate = word bs (i + 2) }

pairs_split : (bs : List ℕ) (m n i : ℕ) → pairs_at (m + n) bs i ≡ pairs_at m bs i ++ pairs_at n bs (i + pair_width * m)
unfolding pairs_at
pairs_split bs zero n i = let a : 0 + n ≡ n = omega arith in let b : i ≡ i + pair_width * 0 = omega arith in ap (λ (k : ℕ). pairs_at k bs i) a ∙ ap (pairs_at n bs) b
pairs_split bs (suc m) n i =
    let a : suc m + n ≡ suc (m + n) = omega arith in
    let b : i + pair_width + pair_width * m ≡ i + pair_width * suc m = omega arith in
    ap (λ (k : ℕ). pairs_at k bs i) a ∙ go (empty_pair bs i) (pairs_split bs m n (i + pair_width) ∙ ap (λ (k : ℕ). pairs_at m bs (i + pair_width) ++ pairs_at n bs k) b)
  where
    go : (b : Bool) → pairs_at (m + n) bs (i + pair_width) ≡ pairs_at m bs (i + pair_width) ++ pairs_at n bs (i + pair_width * suc m)
        → cond b (pairs_at (m + n) bs (i + pair_width)) (own_at bs i ∷ pairs_at (m + n) bs (i + pair_width)) ≡ cond b (pairs_at m bs (i + pair_width)) (own_at bs i ∷ pairs_at m bs (i + pair_width)) ++ pairs_at n bs (i + pair_width * suc m)
    go true more = more
    go false more = ap (λ (xs : List IakPair). own_at bs i ∷ xs) more

one_empty : (bs : List ℕ) (i : ℕ) → empty_pair bs i ≡ true → pairs_at 1 bs i ≡ []
unfolding pairs_at
one_empty bs i e = ap (λ (b : Bool). cond b [] (own_at bs i ∷ [])) e

one_filled : (bs : List ℕ) (i : ℕ) → empty_pair bs i ≡ false → pairs_at 1 bs i ≡ own_at bs i ∷ []
unfolding pairs_at
one_filled bs i e = ap (λ (b : Bool). cond b [] (own_at bs i ∷ [])) e

-- the pairs read so far, and one more
pub read_none : (bs : List ℕ) (i : ℕ) → [] ≡ pairs_at 0 bs i
unfolding pairs_at
read_none bs i = refl

module _ (bs : List ℕ) (first j : ℕ) (xs : List Pair) (e : pairs_of xs ≡ pairs_at j bs first) where
  pub read_empty : empty_pair bs (first + pair_width * j) ≡ true → pairs_of xs ≡ pairs_at (j + 1) bs first
  read_empty h = sym (pairs_split bs j 1 first ∙ ap (λ (ys : List IakPair). pairs_at j bs first ++ ys) (one_empty bs (first + pair_width * j) h) ∙ append-nil (pairs_at j bs first) ∙ sym e)

  pub read_filled : empty_pair bs (first + pair_width * j) ≡ false → (x : Pair) → x.credential ≡ word bs (first + pair_width * j) → x.certificate ≡ word bs (first + pair_width * j + 2) → pairs_of (xs ++ (x ∷ [])) ≡ pairs_at (j + 1) bs first
  read_filled h x c r =
      map_push pair_of xs x ∙ ap (λ (ys : List IakPair). ys ++ (pair_of x ∷ [])) e ∙ (λ i. pairs_at j bs first ++ (record { credential = c i; certificate = r i } ∷ []))
      ∙ sym (pairs_split bs j 1 first ∙ ap (λ (ys : List IakPair). pairs_at j bs first ++ ys) (one_filled bs (first + pair_width * j) h))

-- the pairs before one, that one, and those after it
module _ (xs : List Pair) (i : ℕ) where
  module _ (d : Pair) (l : i < length xs) where
    pub pairs_from : pairs_of (drop i xs) ≡ pair_of (get_or xs i d) ∷ pairs_of (drop (i + 1) xs)
    pairs_from = ap pairs_of (drop_more xs i d l)

    pub pairs_next : pairs_of (take (i + 1) xs) ≡ pairs_of (take i xs) ++ (pair_of (get_or xs i d) ∷ [])
    pairs_next = map_more pair_of xs i d l

    pub pairs_around : pairs_of xs ≡ pairs_of (take i xs) ++ (pair_of (get_or xs i d) ∷ pairs_of (drop (i + 1) xs))
    pairs_around = ap pairs_of (sym (take-append-drop i xs)) ∙ map-append pair_of (take i xs) (drop i xs) ∙ ap (λ (ys : List IakPair). pairs_of (take i xs) ++ ys) pairs_from

  pub pairs_past : length xs ≤ i → pairs_of (drop i xs) ≡ []
  pairs_past l = ap pairs_of (drop_all i xs l)

  pub pairs_all : length xs ≤ i → pairs_of (take i xs) ≡ pairs_of xs
  pairs_all l = ap pairs_of (take_all i xs l)

-- all that follow are the rest
pub tail_all : (xs : List Pair) (i : ℕ) → take (length xs - i) (drop i xs) ≡ drop i xs
tail_all xs i = take_all (length xs - i) (drop i xs) (omega (arith, length-drop i xs))

-- a term in one field of the pairs
pub credential_among : (c : ℕ) (xs : List Pair) → list_any (λ (x : Pair). eqb c x.credential) xs ≡ is_among c (credentials_of (pairs_of xs))
unfolding is_among credentials_of
credential_among c [] = refl
credential_among c (x ∷ xs) = ap (λ (b : Bool). eqb c x.credential || b) (credential_among c xs)

pub certificate_among : (r : ℕ) (xs : List Pair) → list_any (λ (x : Pair). eqb r x.certificate) xs ≡ is_among r (certificates_of (pairs_of xs))
unfolding is_among certificates_of
certificate_among r [] = refl
certificate_among r (x ∷ xs) = ap (λ (b : Bool). eqb r x.certificate || b) (certificate_among r xs)

-- what holds of pairs before others
pub formed_both : (f : File) (xs ys : List IakPair) → PairsFormed f (xs ++ ys) → PairsFormed f xs × PairsFormed f ys
formed_both f [] ys w = (tt, w)
formed_both f (x ∷ xs) ys w = let v = formed_both f xs ys w.2 in ((w.0, w.1, v.0), v.1)

pub requested_more : (f : File) (request : ℕ → ℕ) (xs : List IakPair) (y : IakPair) → PairsRequested f request xs → Requested f (request y.credential) → PairsRequested f request (xs ++ (y ∷ []))
requested_more f request [] y r h = (h, tt)
requested_more f request (x ∷ xs) y r h = (r.0, requested_more f request xs y r.1 h)

-- a certificate of two pairs
among_at : (t : ℕ) (xs : List IakPair) (y : IakPair) (ys : List IakPair) → t ≡ y.certificate → is_among t (certificates_of (xs ++ (y ∷ ys))) ≡ true
unfolding is_among certificates_of
among_at t [] y ys e = rw (eq-eqb t y.certificate e) refl
among_at t (x ∷ xs) y ys e = or_right (eqb t x.certificate) _ (among_at t xs y ys e)

twice_at : (xs : List IakPair) (y : IakPair) (ys : List IakPair) → is_among y.certificate (certificates_of xs) ≡ true → any_twice (certificates_of (xs ++ (y ∷ ys))) ≡ true
unfolding is_among any_twice certificates_of
twice_at [] y ys h = absurd (false≢true h)
twice_at (x ∷ xs) y ys h = go (eqb y.certificate x.certificate) refl h (twice_at xs y ys)
  where
    go : (b : Bool) → eqb y.certificate x.certificate ≡ b → (b || is_among y.certificate (certificates_of xs)) ≡ true
        → (is_among y.certificate (certificates_of xs) ≡ true → any_twice (certificates_of (xs ++ (y ∷ ys))) ≡ true)
        → (is_among x.certificate (certificates_of (xs ++ (y ∷ ys))) || any_twice (certificates_of (xs ++ (y ∷ ys)))) ≡ true
    go true e h more = ap (λ (b : Bool). b || any_twice (certificates_of (xs ++ (y ∷ ys)))) (among_at x.certificate xs y ys (sym (eqb-true _ _ e)))
    go false e h more = or_right (is_among x.certificate (certificates_of (xs ++ (y ∷ ys)))) _ (more h)

-- and none before the pair has its certificate where no two are alike
pub apart_at : (xs : List IakPair) (y : IakPair) (ys : List IakPair) → any_twice (certificates_of (xs ++ (y ∷ ys))) ≡ false → is_among y.certificate (certificates_of xs) ≡ false
apart_at xs y ys h = go (is_among y.certificate (certificates_of xs)) refl
  where
    go : (b : Bool) → is_among y.certificate (certificates_of xs) ≡ b → b ≡ false
    go true e = absurd (false≢true (sym h ∙ twice_at xs y ys e))
    go false e = refl

-- two of one certificate, pair by pair
module _ {xs : List IakPair} where
  pub twice_first : (x : IakPair) (ys : List IakPair) → xs ≡ x ∷ ys → {b : Bool} → is_among x.certificate (certificates_of ys) ≡ b → any_twice (certificates_of xs) ≡ (b || any_twice (certificates_of ys))
  unfolding any_twice certificates_of
  twice_first x ys e h = ap (λ (zs : List IakPair). any_twice (certificates_of zs)) e ∙ ap (λ (b : Bool). b || any_twice (certificates_of ys)) h

  pub twice_none : xs ≡ [] → any_twice (certificates_of xs) ≡ false
  unfolding any_twice certificates_of
  twice_none e = ap (λ (zs : List IakPair). any_twice (certificates_of zs)) e

-- the EKs, pair by pair
module _ (f : File) (request : ℕ → ℕ) (wanted : Subject) (ek : ℕ) {xs : List IakPair} where
  ends_first : (x : IakPair) (ys : List IakPair) → xs ≡ x ∷ ys → {a b : Bool} → same_subject (subject f x.certificate) wanted ≡ a → eqb (ek_of f (request x.credential)) ek ≡ b
      → others_end f request wanted ek xs ≡ ((not a || b) && others_end f request wanted ek ys)
  unfolding others_end
  ends_first x ys e h k = ap (others_end f request wanted ek) e ∙ (λ i. (not (h i) || k i) && others_end f request wanted ek ys)

  pub ends_stop : (x : IakPair) (ys : List IakPair) → xs ≡ x ∷ ys → subject f x.certificate ≡ wanted → (ek_of f (request x.credential) ≡ ek → ⊥) → others_end f request wanted ek xs ≡ false
  ends_stop x ys e h n = ends_first x ys e (subject_same _ _ h) (ne_eqb _ _ n)

  pub ends_same : (x : IakPair) (ys : List IakPair) → xs ≡ x ∷ ys → ek_of f (request x.credential) ≡ ek → others_end f request wanted ek xs ≡ others_end f request wanted ek ys
  ends_same x ys e h = ends_first x ys e refl (eq-eqb _ _ h) ∙ or_true (not (same_subject (subject f x.certificate) wanted))
    where
      or_true : (a : Bool) → ((a || true) && others_end f request wanted ek ys) ≡ others_end f request wanted ek ys
      or_true true = refl
      or_true false = refl

  pub ends_other : (x : IakPair) (ys : List IakPair) → xs ≡ x ∷ ys → (subject f x.certificate ≡ wanted → ⊥) → others_end f request wanted ek xs ≡ others_end f request wanted ek ys
  ends_other x ys e n = go (same_subject (subject f x.certificate) wanted) refl
    where
      go : (a : Bool) → same_subject (subject f x.certificate) wanted ≡ a → others_end f request wanted ek xs ≡ others_end f request wanted ek ys
      go true h = absurd (n (same_subject_lem _ _ h))
      go false h = ends_first x ys e h refl

  pub ends_none : xs ≡ [] → others_end f request wanted ek xs ≡ true
  unfolding others_end
  ends_none e = ap (others_end f request wanted ek) e
