-- A power taken away as often as it can be.
-- Assumes nothing.
use mathlib.Core.Path.{◌≡◌}
use Prim.Native.Nat.{ℕ, ◌+◌, ◌-◌, ◌*◌, ◌<◌, ◌≤◌}
use native.Mathlib.Nat.{add-mul, one-mul, lt_of_mul-lt-mul_right}
use native.Mathlib.Omega.{arith}

module _ (x power times left : ℕ) (h : x ≡ times * power + left) where
  pub taking_few : x < 10 * power → times < 10
  taking_few l = lt_of_mul-lt-mul_right power (omega arith)

  pub taking_next : power ≤ left → x ≡ (times + 1) * power + (left - power)
  taking_next l = omega (arith, add-mul times 1 power, one-mul power)
