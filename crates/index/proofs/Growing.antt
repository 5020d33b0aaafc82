-- The tree with one number more, at the free entry of its key.
use mathlib.Core.Path.{◌≡◌, refl, sym, ◌∙◌, ap, subst}
use mathlib.Core.Bool.{Bool, true, false}
use mathlib.Core.List.{List}
use Prim.Native.Nat.{ℕ, zero, suc, ◌+◌, ◌*◌, ◌<◌, ◌≤◌}
use native.Mathlib.Omega.{arith}
use native.Mathlib.Numerals.{add-one}
use lib.Dec.{eqb}
use lib.ListN.{get_or, set, length-set}
use lib.Seq.{get_or-set_same, get_or-set_other}
use borrow.Author.Tests.{eqb-true, eqb-false}
use Rattle.rules.specs.Limits.{term_limit}
use Rattle.index.specs.Tree.{bucket_count, bucket_of, below, Met, here, under, Way, root, down, Tree, Free}
use Rattle.index.proofs.Walk.{no_entry_lem}

-- the entries that hold a number stay
abbrev Kept : List ℕ → List ℕ → Type 0
Kept links links' = (i t : ℕ) → get_or links i 0 ≡ suc t → get_or links' i 0 ≡ suc t

-- what is met from an entry is met where it stays
from_kept : (links : List ℕ) {links' : List ℕ} {u rest : ℕ} (i : ℕ) → Kept links links' → Met links' u (get_or links i 0) rest → Met links' u (get_or links' i 0) rest
from_kept links {links'} {u} {rest} i k m = go (get_or links i 0) refl m
  where
    go : (e : ℕ) → get_or links i 0 ≡ e → Met links' u e rest → Met links' u (get_or links' i 0) rest
    go zero w m = absurd (no_entry_lem refl m)
    go (suc v) w m = subst (λ (e : ℕ). Met links' u e rest) (sym (k i v w)) m

met_kept : {links links' : List ℕ} {u e rest : ℕ} → Kept links links' → Met links u e rest → Met links' u e rest
met_kept k (here q) = here q
met_kept {links = links} {rest = rest} k (under t q m) = under t q (from_kept links (below t rest) k (met_kept k m))

-- the way of a key is met from its root
way_met : {links links' : List ℕ} {key at rest m u : ℕ} → Kept links links' → Way links key at rest m → Met links' u (get_or links' at 0) rest → Met links' u (get_or links' (bucket_of key) 0) key
way_met k root m = m
way_met k (down {at = at} t e w) m = way_met k w (under t (k at t e) m)

-- and stays among the entries
pub way_inside : {links : List ℕ} {n key at rest m : ℕ} → Tree links n → Way links key at rest m → at < bucket_count + 2 * n
way_inside {n = n} {key = key} h root = omega arith
way_inside h (down {at = at} {rest = rest} t e w) = omega (arith, h.most at)

module _ {links : List ℕ} {n : ℕ} (h : Tree links n) (few : n < term_limit) {key at : ℕ} (f : Free links key at) where
  inside : at < bucket_count + 2 * n
  inside = way_inside h f.way

  abbrev grown : List ℕ
  grown = set links at (n + 1)

  there : get_or grown at 0 ≡ n + 1
  there = get_or-set_same links at (n + 1) 0 (omega (arith, inside, h.size))

  other : (i : ℕ) → (i ≡ at → ⊥) → get_or grown i 0 ≡ get_or links i 0
  other i = get_or-set_other links at i (n + 1) 0

  -- by whether an entry is the free one
  by : (P : ℕ → Type 0) (i : ℕ) → (i ≡ at → P (n + 1)) → ((i ≡ at → ⊥) → P (get_or links i 0)) → P (get_or grown i 0)
  by P i a b = go (eqb i at) refl
    where
      go : (t : Bool) → eqb i at ≡ t → P (get_or grown i 0)
      go true e = let q = eqb-true i at e in subst P (sym (ap (λ (j : ℕ). get_or grown j 0) q ∙ there)) (a q)
      go false e = let q = eqb-false i at e in subst P (sym (other i q)) (b q)

  kept : Kept links grown
  kept i t e = other i (λ q. omega (arith, f.empty, e, ap (λ (j : ℕ). get_or links j 0) q)) ∙ e

  pub grown_tree : Tree grown (n + 1)
  grown_tree = record {
    size = length-set links at (n + 1) ∙ h.size;
    most = λ i. by (λ e. e ≤ n + 1) i (λ q. omega arith) (λ q. omega (arith, h.most i));
    later = λ t rest.
        by (λ e. (e ≡ 0 → ⊥) → suc t < e) (below t rest)
        (λ q z. omega (arith, inside)) (λ q. h.later t rest);
    once = λ i j t.
        by (λ e. e ≡ suc t → get_or grown j 0 ≡ suc t → i ≡ j) i
        (λ q a. by (λ e. e ≡ suc t → i ≡ j) j (λ p b. q ∙ sym p) (λ p b. absurd (omega (arith, h.most j))))
        (λ q a. by (λ e. e ≡ suc t → i ≡ j) j (λ p b. absurd (omega (arith, h.most i))) (λ p b. h.once i j t a b));
  }

  pub grown_met : Met grown n (get_or grown (bucket_of key) 0) key
  grown_met = way_met kept f.way (here (there ∙ add-one n))

  -- what was met is met
  pub still_met : {u : ℕ} (y : ℕ) → Met links u (get_or links (bucket_of y) 0) y → Met grown u (get_or grown (bucket_of y) 0) y
  still_met y m = from_kept links (bucket_of y) kept (met_kept kept m)
