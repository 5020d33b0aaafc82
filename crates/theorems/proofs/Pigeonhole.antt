-- Different numbers below n are at most n many.
-- Assumes nothing.
use mathlib.Core.Path.{◌≡◌, sym, ◌∙◌}
use Prim.Native.Nat.{ℕ, zero, suc, ◌<◌, ◌≤◌}
use native.Mathlib.Omega.{arith}
use native.Mathlib.Decide.{ℕ_discrete}

-- the first m + 1 values of g are below n + 1 and differ: the first m, with the last in the place of n, are below n and differ
module _ (n m : ℕ) (g : ℕ → ℕ) (low : (i : ℕ) → i < suc m → g i < suc n) (one : (i j : ℕ) → i < suc m → j < suc m → g i ≡ g j → i ≡ j) where
  abbrev other : (i : ℕ) → Dec (g i ≡ n) → ℕ
  other i (yes e) = g m
  other i (no d) = g i

  not_last : (i j : ℕ) → i < m → j ≡ m → g i ≡ g j → ⊥
  not_last i j h e s = let z = one i j (omega arith) (omega arith) s in omega arith

  other_low : (i : ℕ) → i < m → (d : Dec (g i ≡ n)) → other i d < n
  other_low i h (yes e) =
      let a = low m (omega arith) in
      let b : g m ≡ n → ⊥ = λ x. not_last i m h (omega arith) (e ∙ sym x) in
      omega arith
  other_low i h (no d) = let a = low i (omega arith) in omega arith

  other_one : (i j : ℕ) → i < m → j < m → (d : Dec (g i ≡ n)) (e : Dec (g j ≡ n)) → other i d ≡ other j e → i ≡ j
  other_one i j h k (yes d) (yes e) s = one i j (omega arith) (omega arith) (d ∙ sym e)
  other_one i j h k (yes d) (no e) s = absurd (not_last j m k (omega arith) (sym s))
  other_one i j h k (no d) (yes e) s = absurd (not_last i m h (omega arith) s)
  other_one i j h k (no d) (no e) s = one i j (omega arith) (omega arith) s

pub pigeonhole : (n m : ℕ) (g : ℕ → ℕ) → ((i : ℕ) → i < m → g i < n) → ((i j : ℕ) → i < m → j < m → g i ≡ g j → i ≡ j) → m ≤ n
pigeonhole n zero g low one = omega arith
pigeonhole zero (suc m) g low one = let z = low 0 (omega arith) in absurd (omega arith)
pigeonhole (suc n) (suc m) g low one =
    let h =
    pigeonhole n m (λ i. other n m g low one i (ℕ_discrete (g i) n)) (λ i l. other_low n m g low one i l (ℕ_discrete (g i) n))
    (λ i j k l. other_one n m g low one i j k l (ℕ_discrete (g i) n) (ℕ_discrete (g j) n)) in
    omega arith
