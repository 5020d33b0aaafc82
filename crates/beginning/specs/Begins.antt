-- What stands before the first command, in buffers of any length.
use Rattle.std.specs.Prelude.{◌≡◌, true, List, ℕ, ◌≤◌, length, take, drop, replicate}
use Rattle.tables.specs.declared.columns.Tables.{Tables}
use Rattle.rules.specs.declared.Entry.{Entry}
use Rattle.rules.specs.declared.Refused.{Refused}
use Rattle.rules.specs.Codes.{number_of}
use Rattle.rules.specs.Limits.{file_limit, term_limit, command_limit, state_bytes, register_bytes}
use Rattle.rules.specs.State.{start_registers}
use Rattle.rules.specs.Lent.{Lent, refusal, long_enough, run_answer, run_leaves}
use Rattle.state.proofs.Exact.{Bytes}
use Rattle.scan.specs.declared.Scanned.{Scanned}
use Rattle.loader.specs.Tabled.{Filled}
use Rattle.loaded.specs.Loaded.{file_in}
use Rattle.ledger.specs.Placed.{cleared}
use Rattle.registers.specs.View.{registers_in}
use Rattle.turns.specs.declared.Begun.{Begun}

-- the buffers lent to a run
abbrev pub lent_with : List ℕ → List Entry → List ℕ → List ℕ → Lent
lent_with state ledger outcomes registers = record { state = state; ledger = ledger; outcomes = outcomes; registers = registers }

-- what loading found
abbrev pub begun_by : Scanned → Begun
begun_by r = record { parties = r.tally.parties; terms = r.tally.terms; first = r.first }

-- a file that loads: it fills the first part of the state and the tables; the first places of the ledger and of the outcomes are
-- cleared; the registers show what they start with; nothing changes beyond
pub record Begins (bs : List ℕ) (lent after : Lent) (tables : Tables) (b : Begun) : Type 0 where
  pub enough : long_enough lent ≡ true
  pub short : length bs ≤ file_limit
  pub scanned : Scanned
  pub filled : Filled bs (take state_bytes after.state) tables scanned
  pub begun : b ≡ begun_by scanned
  pub ledger : after.ledger ≡ cleared lent.ledger term_limit
  pub outcomes : take command_limit after.outcomes ≡ replicate command_limit 0
  pub registers : registers_in (take register_bytes after.registers) ≡ start_registers (file_in bs)
  pub bytes : Bytes (take state_bytes after.state)
  pub registers_bytes : Bytes (take register_bytes after.registers)
  pub beyond : drop state_bytes after.state ≡ drop state_bytes lent.state
  pub beyond_outcomes : drop command_limit after.outcomes ≡ drop command_limit lent.outcomes
  pub beyond_registers : drop register_bytes after.registers ≡ drop register_bytes lent.registers

-- a refusal: its number and place are those of a run of however many commands, and the buffers are left as by it: 1 and 2 leave all
-- untouched, 3 to 12 the first parts zero
pub record Refuses (bs : List ℕ) (lent after : Lent) (e : Refused) : Type 0 where
  pub answer : (n : ℕ) → run_answer bs n lent ≡ refusal (number_of e.refusal) e.place
  pub buffers : (n : ℕ) → after ≡ run_leaves bs n lent
