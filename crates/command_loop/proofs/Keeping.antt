-- The loop over commands on the lent ledger: the relation that it keeps.
--     Keeps            what is left to do is what was to do
--     keeps_start      before the loop
--     keeps_ready, keeps_fits, keeps_less, keeps_next      at a turn
--     keeps_ends       after the loop
-- Assumes nothing.
use Rattle.tables.specs.declared.columns.Tables.{Tables}
use mathlib.Core.Path.{◌≡◌, refl, subst⁻¹, ◌∙◌}
use mathlib.Core.List.{List}
use Prim.Native.Nat.{ℕ, ◌+◌, ◌<◌, ◌≤◌}
use native.Mathlib.Omega.{arith}
use lib.ListN.{length, drop}
use Rattle.rules.specs.declared.Entry.{Entry}
use Rattle.rules.specs.Limits.{state_bytes, register_bytes}
use Rattle.ledger.specs.Placed.{puts}
use Rattle.turns.specs.declared.Begun.{Begun}
use Rattle.turns.specs.declared.Progress.{Progress}
use Rattle.turns.specs.declared.Turned.{Turned}
use Rattle.turns.specs.Turns.{starts, TurnReady, Turns}
use Rattle.turns.proofs.Turns.{Values as Parts, Going, going_start, going_ready, going_few, going_fits, going_next, going_ends}
use Rattle.command_loop.specs.Recorded.{within, CommandsReady, Recorded}
use Rattle.command_loop.proofs.Entries.{gained_onto}

-- what the lent places and the loop's local hold between turns
pub record Values : Type 0 where
  pub state : List ℕ
  pub registers : List ℕ
  pub tables : Tables
  pub outcomes : List ℕ
  pub ledger : List Entry
  pub progress : Progress

-- in the first parts
abbrev pub parts : Values → Parts
parts v = record { memory = within v.state v.registers; tables = v.tables; outcomes = v.outcomes; ledger = v.ledger; progress = v.progress }

pub record Keeps (bs s₀ : List ℕ) (old : List Entry) (out₀ g₀ : List ℕ) (b : Begun) (n : ℕ) (v : Values) : Type 0 where
  pub runs : Going bs (within s₀ g₀) out₀ b.first n old (parts v)
  pub beyond : drop state_bytes v.state ≡ drop state_bytes s₀
  pub beyond_registers : drop register_bytes v.registers ≡ drop register_bytes g₀

module _ (bs s out g : List ℕ) (tables : Tables) (old : List Entry) (b : Begun) (n : ℕ) (w : CommandsReady bs s old out g tables b) where
  abbrev from : Progress → Values
  from p = record { state = s; registers = g; tables = tables; outcomes = out; ledger = old; progress = p }

  pub keeps_start : {p : Progress} → p ≡ starts bs b.first n → Keeps bs s old out g b n (from p)
  keeps_start {p} e =
      subst⁻¹ (λ (q : Progress). Keeps bs s old out g b n (from q)) e (record { runs = going_start bs (within s g) tables out b.first n old w.ready; beyond = refl; beyond_registers = refl })

module _ {bs s₀ : List ℕ} {old : List Entry} {out₀ g₀ : List ℕ} {tables₀ : Tables} {b : Begun} {n : ℕ} (w₀ : CommandsReady bs s₀ old out₀ g₀ tables₀ b) {v : Values} (w : Keeps bs s₀ old out₀ g₀ b n v) where
  pub keeps_ends : v.progress.left ≡ 0 → Recorded bs s₀ old out₀ g₀ b n v.state v.ledger v.outcomes v.registers v.tables v.progress
  keeps_ends z = record { runs = going_ends w.runs z; beyond = w.beyond; beyond_registers = w.beyond_registers }

  pub keeps_ready : length v.state ≡ length s₀ → length v.registers ≡ length g₀
      → (state_bytes ≤ length v.state) × (register_bytes ≤ length v.registers) × TurnReady bs (within v.state v.registers) v.tables v.outcomes v.progress
  keeps_ready len room = (omega (arith, len, w₀.room), omega (arith, room, w₀.registers), going_ready w.runs w₀.ready.short w₀.ready.places)

  module _ (more : 0 < v.progress.left) (s g : List ℕ) {tables : Tables} {out : List ℕ} {r : Turned}
      (told : Turns bs (within v.state v.registers) v.tables v.outcomes v.progress (within s g) tables out r × (drop state_bytes s ≡ drop state_bytes v.state) × (drop register_bytes g ≡ drop register_bytes v.registers)) where
    pub keeps_fits : v.progress.issued + length r.gained.items ≤ length v.ledger
    keeps_fits = going_fits w.runs told.0 w₀.long

    pub keeps_less : r.progress.left < v.progress.left
    keeps_less = told.0.less more

    pub keeps_next : (z : List Entry) → z ≡ puts v.ledger v.progress.issued r.gained.items (length r.gained.items) → Keeps bs s₀ old out₀ g₀ b n (record { state = s; registers = g; tables = tables; outcomes = out; ledger = z; progress = r.progress })
    keeps_next z put = record {
      runs =
          going_next w.runs told.0 z
          (gained_onto w.runs.entries old r.gained.items v.progress.issued w.runs.stands.enters.count (going_few w.runs told.0) w₀.long w.runs.placed put);
      beyond = told.1 ∙ w.beyond;
      beyond_registers = told.2 ∙ w.beyond_registers;
    }
