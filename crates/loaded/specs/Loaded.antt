-- A loaded file in bytes: what the file's bytes, the state's bytes and the tables hold, and what a command decides and leaves there.
use Rattle.tables.specs.declared.columns.Tables.{Tables}
use Rattle.std.specs.Prelude.{◌≡◌, Bool, ◌&&◌, ◌||◌, cond, List, ℕ, ◌+◌, ◌*◌, ◌<◌, ◌≤◌, eqb, length, Result}
use Rattle.rules.specs.declared.Entry.{Entry}
use Rattle.rules.specs.declared.Refusal.{Refusal}
use Rattle.rules.specs.declared.Signers.{Signers}
use Rattle.rules.specs.declared.Subject.{Subject}
use Rattle.rules.specs.declared.Subject.TheVariants.{Tpm, Device}
use Rattle.rules.specs.Codes.{number_in}
use Rattle.rules.specs.Limits.{row_width, party_limit, term_limit, state_bytes, tpm_maker, oem_desk, owner_desk}
use Rattle.rules.specs.File.{File, Command, term, kind, field, role_of, is_role, half_in, signs_for}
use Rattle.rules.specs.Load.{Load, loaded, refused, load, empty_file}
use Rattle.rules.specs.State.{learnt}
use Rattle.rules.specs.Run.{outcome, effect_of}
use Rattle.state.specs.View.{view}
use Rattle.state.proofs.Exact.{state_of}
use Rattle.theorems.proofs.Beside.{beside}
use Rattle.tables.specs.Columns.{field_words, tables_in, field_of}
use Rattle.learning.specs.There.{term_there, TermRecord}
use Rattle.checks.specs.There.{role_there, TermsThere}
use Rattle.index.specs.Indexed.{passes}

unfoldable pub file_of : Load → File
file_of (loaded f) = f
file_of (refused number place) = empty_file

-- the file that some bytes declare; an empty one where they do not load
unfoldable pub file_in : List ℕ → File
file_in bs = file_of (load bs)

-- The bytes load; roles and terms are found where they stand. Commands change none of it.
pub record Holds (bs s : List ℕ) : Type 0 where
  pub loads : load bs ≡ loaded (file_in bs)
  pub room : length s ≡ state_bytes
  pub parties : length (file_in bs).roles ≤ party_limit
  pub parties_whole : 2 * length (file_in bs).roles ≤ length bs
  pub role : (p : ℕ) → p < length (file_in bs).roles → role_there bs p ≡ role_of (file_in bs) p
  pub there : TermsThere bs s (length (file_in bs).terms)
  pub term_is : (t : ℕ) → t < length (file_in bs).terms → term_there bs ((view s).place t) ≡ term (file_in bs) t

-- The tables find the signing keys and the private halves, and have each term's kind and fields.
pub record Finds (bs : List ℕ) (tables : Tables) : Type 0 where
  pub signer : (p k : ℕ) → p < party_limit → signs_for (file_in bs) p k ≡ eqb ((tables_in tables).signer p) (k + 1)
  pub half : (test : ℕ → Bool) (k : ℕ) → k < length (file_in bs).terms → half_in (file_in bs) test k ≡ passes test ((tables_in tables).half k)
  pub declared : (k : ℕ) → (tables_in tables).half k ≤ length (file_in bs).terms
  pub kind_is : (t : ℕ) → t < length (file_in bs).terms → (tables_in tables).terms.kind t ≡ kind (file_in bs) t
  pub field_is : (t i : ℕ) → t < length (file_in bs).terms → i < field_words → field_of (tables_in tables).terms t i ≡ field (file_in bs) t i
  pub few : length (file_in bs).terms ≤ term_limit

-- What the code keeps of a loaded file: the bytes load, the roles are found where they stand, and the tables.
pub record Reads (bs : List ℕ) (tables : Tables) : Type 0 where
  pub loads : load bs ≡ loaded (file_in bs)
  pub few_parties : length (file_in bs).roles ≤ party_limit
  pub parties_whole : 2 * length (file_in bs).roles ≤ length bs
  pub role : (p : ℕ) → p < length (file_in bs).roles → role_there bs p ≡ role_of (file_in bs) p
  pub finds : Finds bs tables

-- a term of the file, by the place of its record
pub record TermHere (bs s : List ℕ) (t : ℕ) : Type 0 where
  pub row : row_width * t + row_width ≤ length s
  pub whole : TermRecord bs ((view s).place t)
  pub same : term_there bs ((view s).place t) ≡ term (file_in bs) t

-- a Subject by its two fields
unfoldable pub subject_by : ℕ → ℕ → Subject
subject_by tag number = cond (eqb tag 0) (Tpm number) (Device number)

-- a party is one who may sign
abbrev pub has_some : File → Signers → ℕ → Bool
has_some f who p = (who.maker && is_role f tpm_maker p) || ((who.oem && is_role f oem_desk p) || (who.owner && is_role f owner_desk p))

-- a party has learnt a term: the columns of the rules' state, the places as they were
pub record Learns (bs s s' : List ℕ) (p t : ℕ) : Type 0 where
  pub columns : (ledger : List Entry) → state_of (view s') ledger ≡ learnt (file_in bs) (state_of (view s) ledger) p t
  pub places : (view s').place ≡ (view s).place

-- the outcome of a command that looks at no ledger
abbrev pub Decides : List ℕ → List ℕ → Command → Result Unit Refusal → Type 0
Decides bs s c x = (ledger : List Entry) → number_in x ≡ outcome (file_in bs) (state_of (view s) ledger) c

-- what an accepted command leaves that enters nothing in the ledger: the columns of the rules' state, the places as they were
pub record Leaves (bs s s' : List ℕ) (c : Command) : Type 0 where
  pub columns : (ledger : List Entry) → state_of (view s') ledger ≡ effect_of (file_in bs) (state_of (view s) ledger) c
  pub places : (view s').place ≡ (view s).place

-- the same of a command that may look at registers: what it decides, and what it leaves in them too
abbrev pub DecidesBeside : List ℕ → List ℕ → (ℕ → ℕ → ℕ) → Command → Result Unit Refusal → Type 0
DecidesBeside bs s registers c x = (ledger : List Entry) → number_in x ≡ outcome (file_in bs) (beside registers (state_of (view s) ledger)) c

pub record LeavesBeside (bs s s' : List ℕ) (registers registers' : ℕ → ℕ → ℕ) (c : Command) : Type 0 where
  pub columns : (ledger : List Entry) → beside registers' (state_of (view s') ledger) ≡ effect_of (file_in bs) (beside registers (state_of (view s) ledger)) c
  pub places : (view s').place ≡ (view s).place
