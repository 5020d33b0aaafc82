-- Whether the private half of a key passes a test, by the number of that half.
use mathlib.Core.Path.{◌≡◌, refl, sym, ◌∙◌, subst}
use mathlib.Core.Bool.{Bool, true, false, false≢true}
use mathlib.Core.List.{List, [], ◌∷◌}
use Prim.Native.Nat.{ℕ, zero, suc, ◌+◌, ◌<◌}
use native.Mathlib.Omega.{arith}
use native.Mathlib.Nat.{add-zero, zero-add}
use lib.ListN.{length, get_or}
use Rattle.rules.specs.declared.Term.{Term}
use Rattle.rules.specs.declared.Term.TheVariants.{Hash}
use Rattle.rules.specs.File.{File, term, paired, some_term, half_in}
use Rattle.theorems.proofs.Booleans.{or_left, or_right}
use Rattle.theorems.proofs.LoadingTerms.{alike_refl}
use Rattle.theorems.proofs.Terms.{pair_kinds, pair_term, private_declared, half_found}
use Rattle.learning.specs.There.{term_there}
use Rattle.index.specs.Indexed.{pair_there, Halves, Unlike, passes}
use Rattle.index.proofs.Same.{not_true}

-- a search through terms finds one that passes; the number is that of the list's first term
term_finds : (test : ℕ → Term → Bool) (ts : List Term) (i j : ℕ) → j < length ts → test (i + j) (get_or ts j (Hash 0)) ≡ true → some_term test ts i ≡ true
unfolding some_term
term_finds test [] i j l e = absurd (omega arith)
term_finds test (t ∷ ts) i zero l e = or_left _ _ (rw add-zero at e)
term_finds test (t ∷ ts) i (suc j) l e =
    let s : i + suc j ≡ suc i + j = omega arith in
    or_right (test i t) _ (term_finds test ts (suc i) j (omega arith) (subst (λ (m : ℕ). test m (get_or ts j (Hash 0)) ≡ true) s e))

pub half_finds : (f : File) (test : ℕ → Bool) (k j : ℕ) → j < length f.terms → paired f k j ≡ true → test j ≡ true → half_in f test k ≡ true
unfolding half_in paired term
half_finds f test k j l e p = term_finds _ f.terms 0 j l (rw (zero-add, e, p) refl)

module _
    (f : File) (bs : List ℕ) (place half : ℕ → ℕ) {n : ℕ} (count : length f.terms ≡ n) (same : (t : ℕ) → t < n → term_there bs (place t) ≡ term f t)
    (h : Halves bs place half n) (d : Unlike bs place n) (test : ℕ → Bool) (k : ℕ) (l : k < n) where
  pair_same : (t : ℕ) → t < n → pair_there bs place k t ≡ paired f k t
  unfolding paired
  pair_same t m = rw (same k l, same t m) refl

  -- a half is one of the terms
  half_below : (j : ℕ) → paired f k j ≡ true → j < n
  half_below j p = omega (arith, private_declared f j (pair_kinds f k j p).1)

  by : (r : ℕ) → half k ≡ r → half_in f test k ≡ passes test r
  unfolding passes
  by zero z =
      not_true (half_in f test k)
      (λ e.
      let (j, p, _) = half_found f test k e in
      let m = half_below j p in
      false≢true (sym ((h k l).none z j m) ∙ pair_same j m ∙ p))
  by (suc u) q = go (test u) refl
    where
      w : (u < n) × (pair_there bs place k u ≡ true)
      w = (h k l).one u q

      p : paired f k u ≡ true
      p = sym (pair_same u w.0) ∙ w.1

      go : (b : Bool) → test u ≡ b → half_in f test k ≡ b
      go true e = half_finds f test k u (omega (arith, w.0)) p e
      go false e =
          not_true (half_in f test k)
          (λ a.
          let (j, r, s) = half_found f test k a in
          let m = half_below j r in
          let t : term_there bs (place j) ≡ term_there bs (place u) = same j m ∙ pair_term f k j u r p ∙ sym (same u w.0) in
          let x : j ≡ u = d j u m w.0 (rw t (alike_refl (term_there bs (place u)))) in
          false≢true (sym e ∙ subst (λ (v : ℕ). test v ≡ true) x s))

  -- whether some half passes is whether the one that is noted does
  pub half_follows : half_in f test k ≡ passes test (half k)
  half_follows = by (half k) refl
