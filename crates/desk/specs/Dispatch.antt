-- A desk command by its record's place: what it is decided and done by, and what an accepted one leaves.
use Rattle.tables.specs.declared.columns.Tables.{Tables}
use Rattle.std.specs.Prelude.{List, ℕ, ◌<◌}
use Rattle.rules.specs.declared.Entry.{Entry}
use Rattle.theorems.proofs.Loading.{Wellformed}
use Rattle.learning.specs.There.{kind_there}
use Rattle.lookup.specs.There.{command_there}
use Rattle.lookup.specs.Commands.{CommandAt}
use Rattle.loaded.specs.Loaded.{file_in, Holds, Finds}
use Rattle.loaded.specs.Entries.{Ledgered, Accepts}
use Rattle.requests.specs.Formed.{OpenRequested}
use Rattle.issuance.specs.Issues.{ParentsEntered}

-- the tables hold some ledger
abbrev pub SomeLedger : List ℕ → List ℕ → Tables → Type 0
SomeLedger bs s tables = (n : ℕ) × (ledger : List Entry) × Ledgered bs s tables n ledger

-- what an accepted desk command is done by
pub record DeskEffectReady (bs s : List ℕ) (tables : Tables) (n at : ℕ) : Type 0 where
  pub holds : Holds bs s
  pub finds : Finds bs tables
  pub command : CommandAt (Wellformed (file_in bs)) bs at
  pub is_desk : (0x3D < kind_there bs at) × (kind_there bs at < 0x44)
  pub opened : OpenRequested bs s
  pub parents : ParentsEntered bs s tables
  pub accepts : Accepts bs s tables n (command_there bs at)
  pub ledgered : Ledgered bs s tables n accepts.ledger
