-- What stands while a file's commands run: the rules' state in the lent bytes, and what every command keeps.
use Rattle.tables.specs.declared.columns.Tables.{Tables}
use Rattle.std.specs.Prelude.{◌≡◌, Bool, true, false, ◌&&◌, List, ◌++◌, ℕ, ◌+◌, ◌≤◌, ltb, length, Result}
use Rattle.rules.specs.declared.Entry.{Entry}
use Rattle.rules.specs.declared.Refusal.{Refusal}
use Rattle.rules.specs.Codes.{number_in}
use Rattle.rules.specs.Limits.{register_bytes}
use Rattle.rules.specs.File.{File}
use Rattle.rules.specs.Run.{outcome, after}
use Rattle.rules.specs.State.{State, credential_open}
use Rattle.theorems.proofs.Loading.{Wellformed}
use Rattle.theorems.proofs.Beside.{beside}
use Rattle.theorems.proofs.Invariant.{Invariant}
use Rattle.state.specs.View.{view}
use Rattle.state.proofs.Exact.{state_of}
use Rattle.tables.specs.Columns.{tables_in}
use Rattle.loaded.specs.Loaded.{file_in, Holds, Finds}
use Rattle.loaded.specs.Entries.{Enters, Boarded}
use Rattle.registers.specs.View.{registers_in}
use Rattle.learning.specs.There.{kind_there}
use Rattle.lookup.specs.There.{command_there}
use Rattle.lookup.specs.Commands.{CommandAt}
use Rattle.requests.specs.Formed.{Requested}

-- what commands change in the lent bytes: the state, and the registers of every party's TPM
pub record Memory : Type 0 where
  pub state : List ℕ
  pub registers : List ℕ

abbrev pub memory : List ℕ → List ℕ → Memory
memory state registers = record { state = state; registers = registers }

-- the rules' state in them, with a ledger
abbrev pub state_in : Memory → List Entry → State
state_in m ledger = beside (registers_in m.registers) (state_of (view m.state) ledger)

-- the kinds of desk commands, 3E to 43
abbrev pub desk_kind : ℕ → Bool
desk_kind kind = ltb 0x3D kind && ltb kind 0x44

-- nothing is said of a term
pub record Blank (x : State) (t : ℕ) : Type 0 where
  pub knows : (p : ℕ) → x.knows p t ≡ false
  pub table : (p : ℕ) → x.table p t ≡ false
  pub mark : x.mark t ≡ 0
  pub desk : x.desk t ≡ 0
  pub request : x.request t ≡ 0

-- what every command keeps: what demand 3 is proved by; an open credential's request has the form that its challenge
-- asked for; nothing is said of a term that is not declared
pub record Kept (f : File) (x : State) : Type 0 where
  pub sound : Invariant f x
  pub requested : (c : ℕ) → x.mark c ≡ credential_open → Requested f (x.request c)
  pub blank : (t : ℕ) → length f.terms ≤ t → Blank x t

-- bytes and tables between commands, of a ledger of n entries
pub record Stands (bs : List ℕ) (m : Memory) (tables : Tables) (n : ℕ) (ledger : List Entry) : Type 0 where
  pub holds : Holds bs m.state
  pub finds : Finds bs tables
  pub enters : Enters tables n ledger
  pub boards : Boarded (file_in bs) (tables_in tables).boards ledger
  pub kept : Kept (file_in bs) (state_in m ledger)
  pub registers : length m.registers ≡ register_bytes

-- some ledger
abbrev pub SomeStands : List ℕ → Memory → Tables → ℕ → Type 0
SomeStands bs m tables n = (ledger : List Entry) × Stands bs m tables n ledger

-- of some number of entries
abbrev pub AnyStands : List ℕ → Memory → Tables → Type 0
AnyStands bs m tables = (n : ℕ) × SomeStands bs m tables n

-- what a command does: its outcome, what is left, with a ledger of k entries then, and that it stands
pub record Does (bs : List ℕ) (m : Memory) (at : ℕ) (ledger : List Entry) (m' : Memory) (tables' : Tables) (x k : ℕ) (ledger' : List Entry) : Type 0 where
  pub decided : x ≡ outcome (file_in bs) (state_in m ledger) (command_there bs at)
  pub left : state_in m' ledger' ≡ after (file_in bs) (state_in m ledger) (command_there bs at)
  pub stands : Stands bs m' tables' k ledger'
  pub places : (view m'.state).place ≡ (view m.state).place

-- what is decided, whatever the ledger: the rules' outcome; a device command, or a refused one, is done, and the ledger
-- gains nothing; a desk command has changed nothing
pub record Decided (bs : List ℕ) (m : Memory) (tables : Tables) (at : ℕ) (m' : Memory) (x : Result Unit Refusal) : Type 0 where
  pub decided : (n : ℕ) (ledger : List Entry) → Stands bs m tables n ledger → number_in x ≡ outcome (file_in bs) (state_in m ledger) (command_there bs at)
  pub done : (number_in x ≡ 0 → desk_kind (kind_there bs at) ≡ false) → (n : ℕ) (ledger : List Entry) → Stands bs m tables n ledger → Does bs m at ledger m' tables (number_in x) n ledger
  pub same : desk_kind (kind_there bs at) ≡ true → m' ≡ m

-- a desk command that is accepted, whatever the ledger
pub record DeskAccepted (bs : List ℕ) (m : Memory) (tables : Tables) (n at : ℕ) : Type 0 where
  pub stands : SomeStands bs m tables n
  pub here : CommandAt (Wellformed (file_in bs)) bs at
  pub is_desk : desk_kind (kind_there bs at) ≡ true
  pub accepted : (ledger : List Entry) → Stands bs m tables n ledger → 0 ≡ outcome (file_in bs) (state_in m ledger) (command_there bs at)

-- what it does: the ledger gains some entries; no register moves
pub record DeskDoes (bs : List ℕ) (m : Memory) (tables : Tables) (n at : ℕ) (s' : List ℕ) (tables' : Tables) (gained : List Entry) : Type 0 where
  pub does : (ledger : List Entry) → Stands bs m tables n ledger → Does bs m at ledger (memory s' m.registers) tables' 0 (n + length gained) (ledger ++ gained)

-- of some registers, and whatever they are: what is lent to a desk command has none
abbrev pub AnyAccepted : List ℕ → List ℕ → Tables → ℕ → ℕ → Type 0
AnyAccepted bs s tables n at = (registers : List ℕ) × DeskAccepted bs (memory s registers) tables n at

abbrev pub AllDone : List ℕ → List ℕ → Tables → ℕ → ℕ → List ℕ → Tables → List Entry → Type 0
AllDone bs s tables n at s' tables' gained = (registers : List ℕ) → DeskAccepted bs (memory s registers) tables n at → DeskDoes bs (memory s registers) tables n at s' tables' gained
