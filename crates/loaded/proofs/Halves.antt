-- Private halves by the table: what a look-up asks, and what it answers of the rules' search.
-- Assumes nothing.
use Rattle.tables.specs.declared.columns.Tables.{Tables}
use mathlib.Core.Path.{◌≡◌, refl, sym, ap, subst, ◌∙◌}
use mathlib.Core.Bool.{Bool, true, false, false≢true}
use mathlib.Core.List.{List}
use Prim.Native.Nat.{ℕ, zero, suc, ◌+◌, ◌<◌, ◌≤◌}
use native.Mathlib.Omega.{arith}
use lib.Dec.{eqb}
use lib.ListN.{length}
use borrow.Author.Tests.{eqb-true, eqb-false, eq-eqb, ne_eqb}
use Rattle.rules.specs.Limits.{party_limit, term_limit, state_bytes}
use Rattle.rules.specs.File.{File, paired, half_in}
use Rattle.theorems.proofs.Terms.{half_found}
use Rattle.tables.specs.Columns.{tables_in}
use Rattle.index.specs.Indexed.{passes}
use Rattle.index.proofs.Halves.{half_finds}
use Rattle.loaded.specs.Loaded.{file_in, Holds, Finds}
use Rattle.loaded.proofs.Standing.{checked_here}

module _ {bs s : List ℕ} {tables : Tables} {k : ℕ} (h : Holds bs s) (d : Finds bs tables) (l : k < length (file_in bs).terms) where
  pub half_asked : {p : ℕ} → p < length (file_in bs).roles → (state_bytes ≤ length s) × (p < party_limit) × (k < term_limit) × ((tables_in tables).half k ≤ term_limit)
  half_asked {p} m =
      let few = (checked_here h).few_terms in
      let declared = d.declared k in
      (omega (arith, h.room), omega (arith, h.parties), omega arith, omega arith)

  -- of a key whose number was read
  pub half_read : (test : ℕ → Bool) {j : ℕ} {x b : Bool} → j ≡ k → x ≡ passes test ((tables_in tables).half j) → x ≡ b → half_in (file_in bs) test k ≡ b
  half_read test e q w = d.half test k l ∙ ap (λ (i : ℕ). passes test ((tables_in tables).half i)) (sym e) ∙ sym q ∙ w

-- a pair, as a search for the one number
pair_found : (f : File) (k j : ℕ) → j < length f.terms → paired f k j ≡ half_in f (λ (i : ℕ). eqb i j) k
pair_found f k j l = go (paired f k j) refl (half_in f (λ (i : ℕ). eqb i j) k) refl
  where
    go : (a : Bool) → paired f k j ≡ a → (b : Bool) → half_in f (λ (i : ℕ). eqb i j) k ≡ b → a ≡ b
    go true e true q = refl
    go false e false q = refl
    go true e false q = absurd (false≢true (sym q ∙ half_finds f (λ (i : ℕ). eqb i j) k j l e (eq-eqb j j refl)))
    go false e true q =
        let (i, p, s) = half_found f (λ (i : ℕ). eqb i j) k q in
        absurd (false≢true (sym e ∙ subst (λ (v : ℕ). paired f k v ≡ true) (eqb-true i j s) p))

number_passes : (h j : ℕ) → passes (λ (i : ℕ). eqb i j) h ≡ eqb h (j + 1)
unfolding passes
number_passes zero j = sym (ne_eqb 0 (j + 1) (λ q. omega arith))
number_passes (suc t) j = go (eqb t j) refl
  where
    go : (b : Bool) → eqb t j ≡ b → b ≡ eqb (suc t) (j + 1)
    go true e = let q = eqb-true t j e in sym (eq-eqb (suc t) (j + 1) (omega arith))
    go false e = let n = eqb-false t j e in sym (ne_eqb (suc t) (j + 1) (λ q. n (omega arith)))

-- a pair, by the table
pub paired_half : {bs : List ℕ} {tables : Tables} {k j : ℕ} → Finds bs tables → k < length (file_in bs).terms → j < length (file_in bs).terms → paired (file_in bs) k j ≡ eqb ((tables_in tables).half k) (j + 1)
paired_half {bs} {tables} {k} {j} d l m = pair_found (file_in bs) k j m ∙ d.half (λ (i : ℕ). eqb i j) k l ∙ number_passes ((tables_in tables).half k) j

-- of a private key whose number was read
pub pair_read :
    {bs : List ℕ} {tables : Tables} {k j i : ℕ} {x b : Bool} → Finds bs tables → k < length (file_in bs).terms → j < length (file_in bs).terms → i ≡ j → x ≡ eqb ((tables_in tables).half k) (i + 1) → x ≡ b
    → paired (file_in bs) k j ≡ b
pair_read {bs} {tables} {k} d l m e q w = paired_half d l m ∙ ap (λ (n : ℕ). eqb ((tables_in tables).half k) (n + 1)) (sym e) ∙ sym q ∙ w
