-- A table of powers of ten.
-- Assumes nothing.
use mathlib.Core.Bool.{Bool, true, ◌&&◌}
use mathlib.Core.Path.{◌≡◌, refl, ap, ◌∙◌}
use mathlib.Core.List.{List, [], ◌∷◌}
use Prim.Native.Nat.{ℕ, zero, suc, ◌+◌, ◌^◌, ◌<◌}
use native.Mathlib.Omega.{arith}
use lib.Dec.{eqb}
use lib.ListN.{length, get_or}
use borrow.Author.Tests.{eqb-true}
use Rattle.theorems.proofs.Booleans.{and_true}

-- each is the power by its place, the first the one of i
abbrev pub powers_from : ℕ → List ℕ → Bool
powers_from i [] = true
powers_from i (x ∷ xs) = eqb x (10 ^ i) && powers_from (suc i) xs

pub power_at : (xs : List ℕ) (i k : ℕ) → powers_from i xs ≡ true → k < length xs → get_or xs k 0 ≡ 10 ^ (i + k)
power_at [] i k t h = absurd (omega arith)
power_at (x ∷ xs) i zero t h =
    let e : i ≡ i + zero = omega arith in
    eqb-true x (10 ^ i) (and_true _ _ t).0 ∙ ap (λ (n : ℕ). 10 ^ n) e
power_at (x ∷ xs) i (suc k) t h =
    let e : suc i + k ≡ i + suc k = omega arith in
    power_at xs (suc i) k (and_true _ _ t).1 (omega arith) ∙ ap (λ (n : ℕ). 10 ^ n) e

pub power_of : (xs : List ℕ) (k : ℕ) → powers_from 0 xs ≡ true → k < length xs → get_or xs k 0 ≡ 10 ^ k
power_of xs k t h = let e : 0 + k ≡ k = omega arith in power_at xs 0 k t h ∙ ap (λ (n : ℕ). 10 ^ n) e

abbrev pub powers : List ℕ
powers =
    1 ∷ 10 ∷ 100 ∷ 1000 ∷ 10000 ∷ 100000 ∷ 1000000 ∷ 10000000 ∷ 100000000 ∷ 1000000000
    ∷ 10000000000 ∷ 100000000000 ∷ 1000000000000 ∷ 10000000000000 ∷ 100000000000000
    ∷ 1000000000000000 ∷ 10000000000000000 ∷ 100000000000000000 ∷ 1000000000000000000
    ∷ 10000000000000000000 ∷ []

pub power_is : (k : ℕ) → k < 20 → get_or powers k 0 ≡ 10 ^ k
power_is k h = power_of powers k refl h
