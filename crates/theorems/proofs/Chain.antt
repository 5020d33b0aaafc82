-- Tests in the order of their refusals: the outcome is the refusal of the first that fails.
--     in_order                                  of a list of tests that stand in the order of their refusals
--     chain-none, chain-passes, chain-fails     no test, one test
--     chain_first, chain-rest                   a list of tests before others
--     stops, passed                             a part that refuses; a test of a chain that answers 0
-- Assumes nothing.
use mathlib.Core.Path.{◌≡◌, refl, sym, ap, ◌∙◌}
use mathlib.Core.Bool.{Bool, true, false, cond, not, ◌&&◌, ◌||◌, false≢true}
use mathlib.Core.List.{List, [], ◌∷◌, ◌++◌}
use Prim.Native.Nat.{ℕ, zero, suc, ◌<◌}
use native.Mathlib.Omega.{arith}
use lib.Dec.{eqb}
use borrow.Author.Tests.{eqb-true, eq-eqb, not-true}
use Rattle.rules.specs.Refusals.{Test, need, order, applies, first_of, refusal_of}
use Rattle.theorems.proofs.Booleans.{and_true, or_right}
use Rattle.theorems.proofs.Passing.{among, ordered, absent, none_fails, passes_first}
use Rattle.theorems.specs.Chain.{chain}

-- the numbers of a list from n on
abbrev from : ℕ → List ℕ → List ℕ
from n [] = []
from n (k ∷ ks) = cond (eqb k n) (k ∷ ks) (from n ks)

-- the tests stand in the order of their refusals: each one's is of the list, and no later one's stands before it there
abbrev pub follows : List ℕ → List Test → Bool
follows ns [] = true
follows ns (x ∷ xs) = among x.refusal ns && follows (from x.refusal ns) xs

-- a list with no number twice
abbrev distinct : List ℕ → Bool
distinct [] = true
distinct (n ∷ ns) = not (among n ns) && distinct ns

fails_here : (x : Test) (xs : List Test) → x.passes ≡ false → applies x.refusal (x ∷ xs) ≡ true
unfolding applies
fails_here x xs e = rw (e, eq-eqb x.refusal x.refusal refl) refl

-- what stands from a number on stands in the list
from_among : (ns : List ℕ) (n k : ℕ) → among k (from n ns) ≡ true → among k ns ≡ true
from_among [] n k a = a
from_among (m ∷ ns) n k a = go (eqb m n) a (from_among ns n k)
  where
    go : (b : Bool) → among k (cond b (m ∷ ns) (from n ns)) ≡ true → (among k (from n ns) ≡ true → among k ns ≡ true) → (eqb m k || among k ns) ≡ true
    go true a more = a
    go false a more = or_right (eqb m k) (among k ns) (more a)

from_distinct : (ns : List ℕ) (n : ℕ) → distinct ns ≡ true → distinct (from n ns) ≡ true
from_distinct [] n d = refl
from_distinct (m ∷ ns) n d = go (eqb m n) (from_distinct ns n (and_true (not (among m ns)) (distinct ns) d).1)
  where
    go : (b : Bool) → distinct (from n ns) ≡ true → distinct (cond b (m ∷ ns) (from n ns)) ≡ true
    go true more = d
    go false more = more

-- the tests' refusals are all in the list
follows_ordered : (ns ms : List ℕ) (xs : List Test) → ((k : ℕ) → among k ms ≡ true → among k ns ≡ true) → follows ms xs ≡ true → ordered ns xs ≡ true
follows_ordered ns ms [] i f = refl
follows_ordered ns ms (x ∷ xs) i f =
    let w = and_true (among x.refusal ms) (follows (from x.refusal ms) xs) f in
    rw (i x.refusal w.0, follows_ordered ns (from x.refusal ms) xs (λ k a. i k (from_among ms x.refusal k a)) w.1) refl

-- numbers before one that all tests stand behind apply nowhere
skips : (ns : List ℕ) (n : ℕ) (xs : List Test) → distinct ns ≡ true → ordered (from n ns) xs ≡ true → among n ns ≡ true → first_of ns xs ≡ first_of (from n ns) xs
unfolding first_of
skips [] n xs d o a = refl
skips (m ∷ ns) n xs d o a = go (eqb m n) o a (skips ns n xs w.1)
  where
    w : (not (among m ns) ≡ true) × (distinct ns ≡ true)
    w = and_true (not (among m ns)) (distinct ns) d

    go : (b : Bool) → ordered (cond b (m ∷ ns) (from n ns)) xs ≡ true → (b || among n ns) ≡ true
        → (ordered (from n ns) xs ≡ true → among n ns ≡ true → first_of ns xs ≡ first_of (from n ns) xs)
        → cond (applies m xs) m (first_of ns xs) ≡ first_of (cond b (m ∷ ns) (from n ns)) xs
    go true o a more = refl
    go false o a more =
        rw (absent ns xs m (ordered_more ns (from n ns) xs (λ k. from_among ns n k) o) (not-true (among m ns) w.0)) (more o a)
      where
        ordered_more : (ns ms : List ℕ) (xs : List Test) → ((k : ℕ) → among k ms ≡ true → among k ns ≡ true) → ordered ms xs ≡ true → ordered ns xs ≡ true
        ordered_more ns ms [] i o = refl
        ordered_more ns ms (x ∷ xs) i o =
            let v = and_true (among x.refusal ms) (ordered ms xs) o in
            rw (i x.refusal v.0, ordered_more ns ms xs i v.1) refl

-- the first test fails, and the others' refusals do not stand before its own
fails_first : (ns : List ℕ) (x : Test) (xs : List Test) → distinct ns ≡ true → among x.refusal ns ≡ true → x.passes ≡ false → ordered (from x.refusal ns) xs ≡ true → first_of ns (x ∷ xs) ≡ x.refusal
unfolding first_of
fails_first ns x xs d a e o = skips ns x.refusal (x ∷ xs) d (rw (from_own ns a, o) refl) a ∙ here ns a
  where
    from_own : (ns : List ℕ) → among x.refusal ns ≡ true → among x.refusal (from x.refusal ns) ≡ true
    from_own [] a = a
    from_own (m ∷ ns) a = go (eqb m x.refusal) refl (from_own ns) a
      where
        go : (b : Bool) → eqb m x.refusal ≡ b → (among x.refusal ns ≡ true → among x.refusal (from x.refusal ns) ≡ true) → (b || among x.refusal ns) ≡ true
            → among x.refusal (cond b (m ∷ ns) (from x.refusal ns)) ≡ true
        go true q more a = rw q refl
        go false q more a = more a

    here : (ns : List ℕ) → among x.refusal ns ≡ true → first_of (from x.refusal ns) (x ∷ xs) ≡ x.refusal
    here [] a = absurd (false≢true a)
    here (m ∷ ns) a = go (eqb m x.refusal) refl (here ns) a
      where
        go : (b : Bool) → eqb m x.refusal ≡ b → (among x.refusal ns ≡ true → first_of (from x.refusal ns) (x ∷ xs) ≡ x.refusal) → (b || among x.refusal ns) ≡ true
            → first_of (cond b (m ∷ ns) (from x.refusal ns)) (x ∷ xs) ≡ x.refusal
        go true q more a = let s = eqb-true m x.refusal q in rw (s, fails_here x xs e) refl
        go false q more a = more a

chained : (ns : List ℕ) (xs : List Test) → distinct ns ≡ true → follows ns xs ≡ true → first_of ns xs ≡ chain xs
unfolding chain
chained ns [] d f = none_fails ns
chained ns (x ∷ xs) d f = go x.passes refl (chained (from x.refusal ns) xs (from_distinct ns x.refusal d) w.1)
  where
    w : (among x.refusal ns ≡ true) × (follows (from x.refusal ns) xs ≡ true)
    w = and_true (among x.refusal ns) (follows (from x.refusal ns) xs) f

    behind : ordered (from x.refusal ns) xs ≡ true
    behind = follows_ordered (from x.refusal ns) (from x.refusal ns) xs (λ k a. a) w.1

    go : (b : Bool) → x.passes ≡ b → first_of (from x.refusal ns) xs ≡ chain xs → first_of ns (x ∷ xs) ≡ cond x.passes (chain xs) x.refusal
    go true e more = passes_first ns x xs e ∙ skips ns x.refusal xs d behind w.0 ∙ more ∙ sym (ap (λ (b : Bool). cond b (chain xs) x.refusal) e)
    go false e more = fails_first ns x xs d w.0 e behind ∙ sym (ap (λ (b : Bool). cond b (chain xs) x.refusal) e)

pub in_order_lem : (xs : List Test) → follows order xs ≡ true → refusal_of xs ≡ chain xs
unfolding refusal_of
in_order_lem xs f = chained order xs refl f

pub chain_none : chain [] ≡ 0
unfolding chain
chain_none = refl

module _ (n : ℕ) (b : Bool) (xs : List Test) where
  pub chain_passes : b ≡ true → chain (need n b ∷ xs) ≡ chain xs
  unfolding chain
  chain_passes e = rw e refl

  pub chain_fails : b ≡ false → chain (need n b ∷ xs) ≡ n
  unfolding chain
  chain_fails e = rw e refl

-- tests before others, none of which has the refusal 0
pub chain_rest : (xs ys : List Test) → ordered order xs ≡ true → chain xs ≡ 0 → chain (xs ++ ys) ≡ chain ys
unfolding chain
chain_rest [] ys o e = refl
chain_rest (x ∷ xs) ys o e = go x.passes refl e (chain_rest xs ys w.1)
  where
    w : (among x.refusal order ≡ true) × (ordered order xs ≡ true)
    w = and_true (among x.refusal order) (ordered order xs) o

    go : (b : Bool) → x.passes ≡ b → cond x.passes (chain xs) x.refusal ≡ 0 → (chain xs ≡ 0 → chain (xs ++ ys) ≡ chain ys) → cond x.passes (chain (xs ++ ys)) x.refusal ≡ chain ys
    go true q e more = rw q (more (rw q at e))
    go false q e more = let z : x.refusal ≡ 0 = rw q at e in absurd (false≢true (ap (λ (n : ℕ). among n order) (sym z) ∙ w.0))

pub chain_first : (n : ℕ) (xs ys : List Test) → chain xs ≡ suc n → chain (xs ++ ys) ≡ suc n
unfolding chain
chain_first n [] ys e = absurd (omega arith)
chain_first n (x ∷ xs) ys e = go x.passes refl e (λ q. chain_first n xs ys q)
  where
    go : (b : Bool) → x.passes ≡ b → cond x.passes (chain xs) x.refusal ≡ suc n → (chain xs ≡ suc n → chain (xs ++ ys) ≡ suc n) → cond x.passes (chain (xs ++ ys)) x.refusal ≡ suc n
    go true q e more = rw q (more (rw q at e))
    go false q e more = rw q (rw q at e)

pub stops : (xs ys : List Test) (x : ℕ) → x ≡ chain xs → (x ≡ 0 → ⊥) → chain (xs ++ ys) ≡ x
stops xs ys zero e n = absurd (n refl)
stops xs ys (suc m) e n = chain_first m xs ys (sym e)

pub passed : (n : ℕ) (b : Bool) (xs : List Test) → 0 < n → chain (need n b ∷ xs) ≡ 0 → (b ≡ true) × (chain xs ≡ 0)
passed n true xs l e = (refl, sym (chain_passes n true xs refl) ∙ e)
passed n false xs l e = let w = sym (chain_fails n false xs refl) ∙ e in absurd (omega arith)
