-- Parts of a desk command's tests, one after the other.
--     part                 a part, and what follows where it passes
--     refuses              no refusal is 0
--     form_part, attest_part, proof_part, endorsement_part, parentage_part, called_part, number_part    the parts
-- Assumes nothing.
use mathlib.Core.Path.{◌≡◌, refl}
use mathlib.Core.Bool.{Bool, true, false, cond}
use mathlib.Core.List.{List, ◌++◌}
use Prim.Native.Nat.{ℕ, ◌<◌}
use native.Mathlib.Omega.{arith}
use lib.Dec.{eqb}
use borrow.Author.Tests.{eqb-true, eqb-false}
use Rattle.rules.specs.declared.Family.{Family}
use Rattle.rules.specs.declared.Refusal.{Refusal}
use Rattle.rules.specs.declared.Subject.{Subject}
use Rattle.rules.specs.Codes.{number_of}
use Rattle.rules.specs.Refusals.{Test, order}
use Rattle.rules.specs.File.{File}
use Rattle.rules.specs.State.{State}
use Rattle.rules.specs.Desk.{form_tests, proof_tests, number_tests}
use Rattle.theorems.specs.Chain.{chain}
use Rattle.theorems.proofs.Passing.{ordered}
use Rattle.theorems.proofs.Chain.{chain_rest, stops}
use Rattle.requests.specs.Tests.{endorsement_tests, called_tests, attest_tests, parentage_tests}

-- the first number, or the second where the first is 0
abbrev pub first : ℕ → ℕ → ℕ
first x y = cond (eqb x 0) y x

part : (xs ys : List Test) → ordered order xs ≡ true → chain (xs ++ ys) ≡ first (chain xs) (chain ys)
part xs ys o = go (eqb (chain xs) 0) refl
  where
    go : (b : Bool) → eqb (chain xs) 0 ≡ b → chain (xs ++ ys) ≡ cond b (chain ys) (chain xs)
    go true e = chain_rest xs ys o (eqb-true _ _ e)
    go false e = stops xs ys (chain xs) refl (eqb-false _ _ e)

module _ (f : File) (ys : List Test) where
  pub form_part : (k q : ℕ) → chain (form_tests f k q ++ ys) ≡ first (chain (form_tests f k q)) (chain ys)
  unfolding form_tests
  form_part k q = part _ ys refl

  pub attest_part : (t : ℕ) → chain (attest_tests f t ++ ys) ≡ first (chain (attest_tests f t)) (chain ys)
  unfolding attest_tests
  attest_part t = part _ ys refl

  pub proof_part : (q key : ℕ) → chain (proof_tests f q key ++ ys) ≡ first (chain (proof_tests f q key)) (chain ys)
  unfolding proof_tests
  proof_part q key = part _ ys refl

  pub endorsement_part : (n : Subject) (h i k : ℕ) → chain (endorsement_tests f n h i k ++ ys) ≡ first (chain (endorsement_tests f n h i k)) (chain ys)
  unfolding endorsement_tests
  endorsement_part n h i k = part _ ys refl

  pub number_part : (s : State) (p n : ℕ) → chain (number_tests s p n ++ ys) ≡ first (chain (number_tests s p n)) (chain ys)
  unfolding number_tests
  number_part s p n = part _ ys refl

  pub parentage_part : (family : Family) (t k c d : ℕ) → chain (parentage_tests f family t k c d ++ ys) ≡ first (chain (parentage_tests f family t k c d)) (chain ys)
  unfolding parentage_tests
  parentage_part family t k c d = part _ ys refl

  pub called_part : (desk r key : ℕ) (wanted : Subject) → chain (called_tests f desk r key wanted ++ ys) ≡ first (chain (called_tests f desk r key wanted)) (chain ys)
  unfolding called_tests
  called_part desk r key wanted = part _ ys refl

pub refuses : (e : Refusal) → 0 < number_of e
refuses e = grind arith
