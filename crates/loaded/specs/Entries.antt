-- The ledger while commands run: the tables' columns of its entries' places and depths, and what finds them by their Subject.
use Rattle.tables.specs.declared.columns.Tables.{Tables}
use Rattle.std.specs.Prelude.{◌≡◌, cond, List, [], ◌∷◌, ◌++◌, ℕ, suc, ◌+◌, ◌-◌, ◌<◌, ◌≤◌, eqb, length, Result}
use Rattle.std.proofs.Math.Option.{some}
use Rattle.std.proofs.Math.ListN.{get_elem?}
use Rattle.rules.specs.declared.Entry.{Entry}
use Rattle.rules.specs.declared.Refusal.{Refusal}
use Rattle.rules.specs.Codes.{number_in}
use Rattle.rules.specs.Limits.{term_limit}
use Rattle.rules.specs.declared.Subject.TheVariants.{Device}
use Rattle.rules.specs.File.{File, Command, subject}
use Rattle.rules.specs.State.{depth_of}
use Rattle.rules.specs.Desk.{end_ek}
use Rattle.rules.specs.Run.{outcome, effect_of}
use Rattle.theorems.proofs.Invariant.{Invariant}
use Rattle.state.specs.View.{view}
use Rattle.state.proofs.Exact.{state_of}
use Rattle.tables.specs.Columns.{Boards, TableColumns, tables_in}
use Rattle.boards.specs.Linked.{Falls, entry_of}
use Rattle.loaded.specs.Loaded.{file_in}

-- one more than the place of a certificate's entry, or 0; the first number is the place of the list's first entry
unfoldable pub entry_from : ℕ → List Entry → ℕ → ℕ
entry_from i [] c = 0
entry_from i (e ∷ es) c = cond (eqb e.certificate c) (suc i) (entry_from (suc i) es c)

-- the tables hold, of a ledger of n entries, the place and the depth of each certificate's; no list of a bucket goes beyond them
pub record Enters (tables : Tables) (n : ℕ) (ledger : List Entry) : Type 0 where
  pub few : n ≤ term_limit
  pub count : length ledger ≡ n
  pub place : (c : ℕ) → (tables_in tables).entry c ≡ entry_from 0 ledger c
  pub depth : (c : ℕ) → (tables_in tables).depth c ≡ depth_of ledger c
  pub falls : Falls (tables_in tables).boards n

abbrev pub Entered : Tables → Type 0
Entered tables = (n : ℕ) × (ledger : List Entry) × Enters tables n ledger

-- the tables have the EK at the end of each entry's path; each entry's Subject finds an entry, and what a serial number finds is one with
-- that Subject
pub record Boarded (f : File) (b : Boards) (ledger : List Entry) : Type 0 where
  pub ek : (i : ℕ) (e : Entry) → get_elem? ledger i ≡ some e → b.ek i ≡ end_ek f ledger e
  pub found : (i : ℕ) (e : Entry) → get_elem? ledger i ≡ some e → (m : ℕ) × (subject f e.certificate ≡ Device m) × (0 < entry_of b m)
  pub right : (m : ℕ) → 0 < entry_of b m → (e : Entry) × (get_elem? ledger (entry_of b m - 1) ≡ some e) × (subject f e.certificate ≡ Device m)

-- the tables hold a ledger, and what demand 3 is proved by holds of the state with it
pub record Ledgered (bs s : List ℕ) (tables : Tables) (n : ℕ) (ledger : List Entry) : Type 0 where
  pub enters : Enters tables n ledger
  pub boards : Boarded (file_in bs) (tables_in tables).boards ledger
  pub sound : Invariant (file_in bs) (state_of (view s) ledger)

-- the outcome of a command that looks at the tables of the ledger
abbrev pub DecidesListed : List ℕ → List ℕ → Tables → Command → Result Unit Refusal → Type 0
DecidesListed bs s tables c x = (n : ℕ) (ledger : List Entry) → Ledgered bs s tables n ledger → number_in x ≡ outcome (file_in bs) (state_of (view s) ledger) c

-- an accepted command that issues, with room for its entry
pub record Accepts (bs s : List ℕ) (tables : Tables) (n : ℕ) (c : Command) : Type 0 where
  pub ledger : List Entry
  pub enters : Enters tables n ledger
  pub accepted : outcome (file_in bs) (state_of (view s) ledger) c ≡ 0
  pub more : n < term_limit

-- the other columns of the tables are as they were
pub record SameKeys (v w : TableColumns) : Type 0 where
  pub signer : w.signer ≡ v.signer
  pub half : w.half ≡ v.half
  pub terms : w.terms ≡ v.terms

-- a ledger that a command is accepted on
pub record AcceptedOn (bs s : List ℕ) (tables : Tables) (n : ℕ) (c : Command) (old : List Entry) : Type 0 where
  pub ledgered : Ledgered bs s tables n old
  pub accepted : outcome (file_in bs) (state_of (view s) old) c ≡ 0

-- what an accepted desk command leaves of one: the columns and the ledger of the rules' state, which the tables hold, where it gains some entries
pub record LeavesOn (bs s : List ℕ) (tables : Tables) (n : ℕ) (c : Command) (s' : List ℕ) (tables' : Tables) (gained : List Entry) (old : List Entry) : Type 0 where
  pub columns : state_of (view s') (old ++ gained) ≡ effect_of (file_in bs) (state_of (view s) old) c
  pub enters : Enters tables' (n + length gained) (old ++ gained)
  pub boards : Boarded (file_in bs) (tables_in tables').boards (old ++ gained)

-- of any
pub record DeskLeaves (bs s : List ℕ) (tables : Tables) (n : ℕ) (c : Command) (s' : List ℕ) (tables' : Tables) (gained : List Entry) : Type 0 where
  pub on : (old : List Entry) → AcceptedOn bs s tables n c old → LeavesOn bs s tables n c s' tables' gained old
  pub places : (view s').place ≡ (view s).place
  pub keys : SameKeys (tables_in tables) (tables_in tables')
