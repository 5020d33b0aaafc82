-- What a turn of the loop over commands needs, and what it leaves; what the loop needs and leaves.
use Rattle.tables.specs.declared.columns.Tables.{Tables}
use Rattle.std.specs.Prelude.{◌≡◌, cond, List, [], ◌++◌, ℕ, ◌+◌, ◌*◌, ◌-◌, ◌<◌, ◌≤◌, eqb, ltb, length, drop}
use Rattle.std.proofs.lemmas.List.Edits.{sets}
use Rattle.rules.specs.declared.Entry.{Entry}
use Rattle.rules.specs.Limits.{file_limit, term_limit, pair_count, command_limit}
use Rattle.rules.specs.File.{File, Command}
use Rattle.rules.specs.State.{State}
use Rattle.rules.specs.Run.{run, outcomes, zeros, others}
use Rattle.theorems.proofs.Loading.{Wellformed}
use Rattle.state.specs.View.{view}
use Rattle.state.proofs.Exact.{Bytes}
use Rattle.lookup.specs.Commands.{commands_left, Commands}
use Rattle.loaded.specs.Loaded.{file_in}
use Rattle.commands.specs.Standing.{Memory, state_in, Stands, SomeStands}
use Rattle.turns.specs.declared.Progress.{Progress}
use Rattle.turns.specs.declared.Turned.{Turned}

-- one outcome more, in a file of so many bytes
abbrev pub stepped : ℕ → Progress → ℕ → ℕ → ℕ → Progress
stepped bytes p outcome count next = record {
  left = cond (ltb next bytes) (p.left - 1) 0;
  at = next;
  done = p.done + 1;
  accepted = p.accepted + cond (eqb outcome 0) 1 0;
  refused = p.refused + cond (eqb outcome 0) 0 1;
  issued = p.issued + count;
}

pub record StepReady (p : Progress) (count : ℕ) : Type 0 where
  pub more : 0 < p.left
  pub small : p.done < command_limit
  pub counted : p.accepted + p.refused ≡ p.done
  pub few : p.issued ≤ term_limit
  pub gained : count ≤ pair_count

-- how far a run is between commands: commands alone stand from the next one's place on, and at the end of the file none
-- is left
pub record Underway (bs : List ℕ) (p : Progress) : Type 0 where
  pub commands : Commands (Wellformed (file_in bs)) bs p.at
  pub inside : 0 < p.left → p.at < length bs
  -- a command has four bytes at least, so there is room for its outcome
  pub paced : 4 * p.done ≤ p.at
  pub counted : p.accepted + p.refused ≡ p.done

-- what a run comes to: the state, the outcomes and the totals
pub record Result : Type 0 where
  pub state : State
  pub outcomes : List ℕ
  pub accepted : ℕ
  pub refused : ℕ

-- by some commands from a state on, after i of which a were accepted and b refused
abbrev pub results : File → List Command → State → List ℕ → ℕ → ℕ → ℕ → Result
results f cs x out i a b = record { state = run f cs x; outcomes = sets out i (outcomes f cs x); accepted = a + zeros (outcomes f cs x); refused = b + others (outcomes f cs x) }

-- a moment between commands: what is held, the ledger, and how far the run is
pub record Moment : Type 0 where
  pub memory : Memory
  pub outcomes : List ℕ
  pub ledger : List Entry
  pub progress : Progress

-- what the run comes to from a moment on, by the commands left
abbrev pub result : List ℕ → Moment → Result
result bs v = results (file_in bs) (commands_left bs v.progress.at v.progress.left) (state_in v.memory v.ledger) v.outcomes v.progress.done v.progress.accepted v.progress.refused

-- one moment leads to another: from there on the run comes to the same
pub record Leads (bs : List ℕ) (u v : Moment) : Type 0 where
  pub same : result bs v ≡ result bs u
  pub places : (view v.memory.state).place ≡ (view u.memory.state).place

-- the state and the registers are bytes
pub record InBytes (m : Memory) : Type 0 where
  pub state : Bytes m.state
  pub registers : Bytes m.registers

-- before a turn: room for an outcome of each command
pub record TurnReady (bs : List ℕ) (m : Memory) (tables : Tables) (out : List ℕ) (p : Progress) : Type 0 where
  pub stands : SomeStands bs m tables p.issued
  pub underway : Underway bs p
  pub short : length bs ≤ file_limit
  pub places : command_limit ≤ length out

-- what a turn leaves, whatever the ledger, which gains some entries: a later moment, and fewer commands are left
pub record Turns (bs : List ℕ) (m : Memory) (tables : Tables) (out : List ℕ) (p : Progress) (m' : Memory) (tables' : Tables) (out' : List ℕ) (r : Turned) : Type 0 where
  pub bytes : InBytes m'
  pub underway : Underway bs r.progress
  pub less : 0 < p.left → r.progress.left < p.left
  pub stands : (ledger : List Entry) → Stands bs m tables p.issued ledger → Stands bs m' tables' r.progress.issued (ledger ++ r.gained.items)
  pub leads : (ledger : List Entry) → Stands bs m tables p.issued ledger
      → Leads bs (record { memory = m; outcomes = out; ledger = ledger; progress = p }) (record { memory = m'; outcomes = out'; ledger = ledger ++ r.gained.items; progress = r.progress })

-- before the loop: no entry yet, room for an outcome of each command, and commands alone from the first one's place on
pub record RunReady (bs : List ℕ) (m : Memory) (tables : Tables) (out : List ℕ) (first : ℕ) : Type 0 where
  pub stands : Stands bs m tables 0 []
  pub bytes : InBytes m
  pub short : length bs ≤ file_limit
  pub places : command_limit ≤ length out
  pub commands : Commands (Wellformed (file_in bs)) bs first

-- at most n commands from a place on
abbrev pub starts : List ℕ → ℕ → ℕ → Progress
starts bs first n = record { left = cond (ltb first (length bs)) n 0; at = first; done = 0; accepted = 0; refused = 0; issued = 0 }

-- the outcomes of at most n commands from a place on
abbrev pub given : List ℕ → ℕ → ℕ → State → List ℕ
given bs first n x = outcomes (file_in bs) (commands_left bs first n) x

-- a ledger with entries at its first places
abbrev pub onto : List Entry → List Entry → List Entry
onto es l = es ++ drop (length es) l

-- after the loop: the rules' state after these commands, with a ledger of some entries, which stand at the first places
-- of the lent one; their outcomes and the totals; what stands between commands
pub record Executes (bs : List ℕ) (m : Memory) (out : List ℕ) (first n : ℕ) (old : List Entry) (m' : Memory) (tables' : Tables) (out' : List ℕ) (new : List Entry) (p : Progress) : Type 0 where
  pub entries : List Entry
  pub ledger : new ≡ onto entries old
  pub state : state_in m' entries ≡ run (file_in bs) (commands_left bs first n) (state_in m [])
  pub outcomes : out' ≡ sets out 0 (given bs first n (state_in m []))
  pub accepted : p.accepted ≡ zeros (given bs first n (state_in m []))
  pub refused : p.refused ≡ others (given bs first n (state_in m []))
  pub stands : Stands bs m' tables' p.issued entries
  pub bytes : InBytes m'
  pub places : (view m'.state).place ≡ (view m.state).place
