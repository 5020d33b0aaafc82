-- The last arm of a match on a run of numbers.
-- Assumes nothing.
use mathlib.Core.Path.{◌≡◌}
use Prim.Native.Nat.{ℕ, zero, suc, ◌+◌, ◌≤◌}
use native.Mathlib.Omega.{arith}

-- none of the n numbers from m on
abbrev pub NoneFrom : ℕ → ℕ → ℕ → Type 0
NoneFrom k m zero = Unit
NoneFrom k m (suc n) = NoneFrom k m n × (k ≡ m + n → ⊥)

past_none : (k m n : ℕ) → NoneFrom k m n → m ≤ k → m + n ≤ k
past_none k m zero r h = omega arith
past_none k m (suc n) r h =
    let l : m + n ≤ k = past_none k m n r.0 h in
    let d : k ≡ m + n → ⊥ = r.1 in
    omega arith

-- a number of the run that is none of the others is the last
pub last_arm : (k m n : ℕ) → NoneFrom k m n → m ≤ k → k ≤ m + n → k ≡ m + n
last_arm k m n r l h = omega (arith, past_none k m n r l)
