-- A term that one party alone knows, by the count of those that know it.
-- Assumes nothing.
use mathlib.Core.Path.{◌≡◌, sym, subst, ◌∙◌}
use mathlib.Core.Bool.{true}
use Prim.Native.Nat.{ℕ, zero, suc, ◌+◌, ◌<◌, ◌≤◌}
use native.Mathlib.Omega.{arith}
use native.Mathlib.Decide.{ℕ_discrete}
use Rattle.rules.specs.Learning.{Knowledge}
use Rattle.rules.specs.Desk.{knowers}

module _ (known : Knowledge) (t : ℕ) where
  -- the next party counts where it knows the term
  next : (n : ℕ) → known n t ≡ true → knowers known t (suc n) ≡ knowers known t n + 1
  unfolding knowers
  next n k = rw k

  more : (n : ℕ) → knowers known t n ≤ knowers known t (suc n)
  unfolding knowers
  more n = omega arith

  pub some : (n p : ℕ) → p < n → known p t ≡ true → 1 ≤ knowers known t n
  some zero p l k = absurd (omega arith)
  some (suc n) p l k = go (ℕ_discrete p n) (some n p)
    where
      go : Dec (p ≡ n) → (p < n → known p t ≡ true → 1 ≤ knowers known t n) → 1 ≤ knowers known t (suc n)
      go (yes e) more' = omega (arith, next n (subst (λ (q : ℕ). known q t ≡ true) e k))
      go (no d) more' = let h = more' (omega arith) k in omega (arith, more n)

  pub sole : (n p q : ℕ) → p < n → q < n → known p t ≡ true → known q t ≡ true → knowers known t n ≡ 1 → p ≡ q
  sole zero p q lp lq kp kq e = absurd (omega arith)
  sole (suc n) p q lp lq kp kq e = go (ℕ_discrete p n) (ℕ_discrete q n) (sole n p q)
    where
      go : Dec (p ≡ n) → Dec (q ≡ n) → (p < n → q < n → known p t ≡ true → known q t ≡ true → knowers known t n ≡ 1 → p ≡ q) → p ≡ q
      go (yes a) (yes b) below = a ∙ sym b
      go (yes a) (no b) below =
          let h = some n q (omega arith) kq in
          absurd (omega (arith, next n (subst (λ (x : ℕ). known x t ≡ true) a kp)))
      go (no a) (yes b) below =
          let h = some n p (omega arith) kp in
          absurd (omega (arith, next n (subst (λ (x : ℕ). known x t ≡ true) b kq)))
      go (no a) (no b) below =
          let h = some n p (omega arith) kp in
          let u : knowers known t n ≡ 1 = omega (arith, more n) in
          below (omega arith) (omega arith) kp kq u
