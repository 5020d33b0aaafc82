-- What 44 and 45 leave, and where their records end.
--     extend-left, quote-left              the register shows r; the party learns r
--     record_ends, extend_ends, is_quote   the records; the other kind
--     extend_leaves, quote_leaves          by the command that stands there
--     extends, quotes                      what a record of each kind says
-- Assumes nothing.
use mathlib.Core.Path.{◌≡◌, refl, ap, subst⁻¹}
use mathlib.Core.List.{List}
use Prim.Native.Nat.{ℕ, ◌+◌, ◌<◌, ◌≤◌}
use native.Mathlib.Omega.{arith}
use lib.ListN.{length, get_or}
use Rattle.rules.specs.Record.{word, section_of, fields_of, body_length, width, widths}
use Rattle.rules.specs.File.{extend, quote}
use Rattle.rules.specs.State.{learnt, showing}
use Rattle.rules.specs.Run.{effect_of}
use Rattle.theorems.proofs.Loading.{Wellformed}
use Rattle.theorems.proofs.Beside.{beside}
use Rattle.state.specs.View.{view}
use Rattle.state.proofs.Exact.{state_of}
use Rattle.learning.specs.There.{kind_there}
use Rattle.lookup.specs.There.{command_there}
use Rattle.lookup.specs.Commands.{CommandAt}
use Rattle.lookup.proofs.Left.{command_range}
use Rattle.lookup.proofs.Fields.{command_ends, four_bytes, one_read, two_read, extend_there, quote_there}
use Rattle.registers.specs.View.{shown_at}
use Rattle.loaded.specs.Loaded.{file_in, Learns, LeavesBeside}

-- 44: the register shows r
pub extend_left : {bs s : List ℕ} {registers registers' : ℕ → ℕ → ℕ} {p i r : ℕ} → registers' ≡ shown_at registers p i r → LeavesBeside bs s s registers registers' (extend p i r)
unfolding effect_of showing shown_at
extend_left {bs} {s} e = record { columns = λ ledger. ap (λ (x : ℕ → ℕ → ℕ). beside x (state_of (view s) ledger)) e; places = refl }

-- 45: the party learns r
pub quote_left : {bs s s' : List ℕ} {p r : ℕ} → Learns bs s s' p r → (registers : ℕ → ℕ → ℕ) → LeavesBeside bs s s' registers registers (quote p r)
unfolding effect_of learnt
quote_left w registers = record { columns = λ ledger. ap (beside registers) (w.columns ledger); places = w.places }

module _ {bs : List ℕ} {at : ℕ} (w : CommandAt (Wellformed (file_in bs)) bs at) where
  -- where its record ends; the kind stands on both sides for a tactic to find the place by
  pub record_ends : kind_there bs at + (at + 3) < kind_there bs at + length bs
  record_ends = let l = four_bytes w in omega arith

  pub extend_ends : kind_there bs at ≡ 0x44 → kind_there bs at + (at + 4) < kind_there bs at + length bs
  unfolding body_length widths width fields_of section_of
  extend_ends e = let l = command_ends bs at 0x44 e w.whole in omega arith

  -- the other of the two kinds
  pub is_quote : 0x44 ≤ kind_there bs at → (kind_there bs at ≡ 0x44 → ⊥) → kind_there bs at ≡ 0x45
  is_quote l n = omega (arith, (command_range _ w.is_command).1)

  -- what it leaves, by the command that stands there
  pub extend_leaves : {s : List ℕ} {registers registers' : ℕ → ℕ → ℕ} {r : ℕ} → kind_there bs at ≡ 0x44 → r ≡ word bs (at + 3) → registers' ≡ shown_at registers (get_or bs (at + 1) 0) (get_or bs (at + 2) 0) r
      → LeavesBeside bs s s registers registers' (command_there bs at)
  extend_leaves {s} {registers} {registers'} k e q = subst⁻¹ (LeavesBeside bs s s registers registers') (two_read extend (extend_there bs at k) refl e) (extend_left q)

  pub quote_leaves : {s s' : List ℕ} (registers : ℕ → ℕ → ℕ) {r : ℕ} → kind_there bs at ≡ 0x45 → r ≡ word bs (at + 2) → Learns bs s s' (get_or bs (at + 1) 0) r → LeavesBeside bs s s' registers registers (command_there bs at)
  quote_leaves {s} {s'} registers k e q = subst⁻¹ (LeavesBeside bs s s' registers registers) (one_read quote (quote_there bs at k) e) (quote_left q registers)

pub ruleset extends = (record_ends, extend_ends, extend_there)

pub ruleset quotes = (record_ends, quote_there)
