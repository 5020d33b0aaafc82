-- What the loop over commands on the lent ledger needs, and what it leaves: in buffers of any length.
use Rattle.tables.specs.declared.columns.Tables.{Tables}
use Rattle.std.specs.Prelude.{◌≡◌, List, ℕ, ◌≤◌, length, take, drop}
use Rattle.rules.specs.declared.Entry.{Entry}
use Rattle.rules.specs.Limits.{term_limit, state_bytes, register_bytes}
use Rattle.commands.specs.Standing.{Memory, memory}
use Rattle.turns.specs.declared.Begun.{Begun}
use Rattle.turns.specs.declared.Progress.{Progress}
use Rattle.turns.specs.Turns.{RunReady, Executes}

-- the first parts of a state and registers
abbrev pub within : List ℕ → List ℕ → Memory
within s g = memory (take state_bytes s) (take register_bytes g)

pub record CommandsReady (bs s : List ℕ) (ledger : List Entry) (out g : List ℕ) (tables : Tables) (b : Begun) : Type 0 where
  pub ready : RunReady bs (within s g) tables out b.first
  pub room : state_bytes ≤ length s
  pub registers : register_bytes ≤ length g
  pub long : term_limit ≤ length ledger

pub record Recorded (bs s : List ℕ) (ledger : List Entry) (out g : List ℕ) (b : Begun) (n : ℕ) (s' : List ℕ) (ledger' : List Entry) (out' g' : List ℕ) (tables' : Tables) (p : Progress) : Type 0 where
  pub runs : Executes bs (within s g) out b.first n ledger (within s' g') tables' out' ledger' p
  pub beyond : drop state_bytes s' ≡ drop state_bytes s
  pub beyond_registers : drop register_bytes g' ≡ drop register_bytes g
