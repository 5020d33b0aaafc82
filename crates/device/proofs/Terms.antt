-- What a device command decides and leaves, as the command that was read.
--     self_issue_left, send_left   3D, 3C: what its party, or the other party, learns
--     decided_as, left_as          by the record at a place
-- Assumes nothing.
use mathlib.Core.Path.{◌≡◌, subst⁻¹}
use mathlib.Core.List.{List}
use Rattle.std.proofs.Common.{Result}
use Prim.Native.Nat.{ℕ}
use Rattle.rules.specs.declared.Refusal.{Refusal}
use Rattle.rules.specs.File.{Command, send, self_issue}
use Rattle.rules.specs.Run.{effect_of}
use Rattle.theorems.proofs.Loading.{Wellformed}
use Rattle.lookup.specs.There.{command_there}
use Rattle.lookup.specs.Commands.{CommandAt}
use Rattle.loaded.specs.Loaded.{file_in, Holds, Learns, Decides, Leaves}

module _ {bs s s' : List ℕ} {p r : ℕ} (w : Learns bs s s' p r) where
  pub self_issue_left : Leaves bs s s' (self_issue p r)
  unfolding effect_of
  self_issue_left = record { columns = w.columns; places = w.places }

  -- the sender is another party
  pub send_left : (q : ℕ) → Leaves bs s s' (send q p r)
  unfolding effect_of
  send_left q = record { columns = w.columns; places = w.places }

-- by the record at a place
module _ {bs : List ℕ} {at : ℕ} (w : CommandAt (Wellformed (file_in bs)) bs at) where
  pub decided_as : {s : List ℕ} (x : Result Unit Refusal) {c : Command} → Holds bs s → command_there bs at ≡ c → Decides bs s c x → Decides bs s (command_there bs at) x
  decided_as {s} x h e d = subst⁻¹ (λ (c : Command). Decides bs s c x) e d

  pub left_as : {s s' : List ℕ} {c : Command} → command_there bs at ≡ c → Leaves bs s s' c → Leaves bs s s' (command_there bs at)
  left_as {s} {s'} e l = subst⁻¹ (Leaves bs s s') e l
