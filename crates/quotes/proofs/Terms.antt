-- What 44 and 45 decide and leave, as the command that was read at a place.
-- Assumes nothing.
use mathlib.Core.Path.{◌≡◌, subst⁻¹}
use mathlib.Core.List.{List}
use Rattle.std.proofs.Common.{Result}
use Prim.Native.Nat.{ℕ}
use Rattle.rules.specs.declared.Refusal.{Refusal}
use Rattle.rules.specs.File.{Command}
use Rattle.theorems.proofs.Loading.{Wellformed}
use Rattle.lookup.specs.There.{command_there}
use Rattle.lookup.specs.Commands.{CommandAt}
use Rattle.loaded.specs.Loaded.{file_in, DecidesBeside, LeavesBeside}

module _ {bs : List ℕ} {at : ℕ} (w : CommandAt (Wellformed (file_in bs)) bs at) where
  pub decided_as_beside :
      (s : List ℕ) (registers : ℕ → ℕ → ℕ) (x : Result Unit Refusal) {c : Command} → command_there bs at ≡ c → DecidesBeside bs s registers c x
      → DecidesBeside bs s registers (command_there bs at) x
  decided_as_beside s registers x e d = subst⁻¹ (λ (c : Command). DecidesBeside bs s registers c x) e d

  pub left_as_beside :
      {s s' : List ℕ} {registers registers' : ℕ → ℕ → ℕ} {c : Command} → command_there bs at ≡ c → LeavesBeside bs s s' registers registers' c
      → LeavesBeside bs s s' registers registers' (command_there bs at)
  left_as_beside {s} {s'} {registers} {registers'} e l = subst⁻¹ (LeavesBeside bs s s' registers registers') e l
