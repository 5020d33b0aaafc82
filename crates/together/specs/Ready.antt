-- A 43 by its record's place: what it is decided and done by.
use Rattle.tables.specs.declared.columns.Tables.{Tables}
use Rattle.std.specs.Prelude.{◌≡◌, true, false, List, ◌++◌, ℕ, ◌+◌, ◌*◌, ◌<◌, ◌≤◌, length, get_or}
use Rattle.rules.specs.declared.Entry.{Entry}
use Rattle.rules.specs.Limits.{oem_desk, pair_count, pair_width}
use Rattle.rules.specs.Term.{credential_kind, certificate_kind}
use Rattle.rules.specs.File.{IakPair, Command, kind, is_role, issue_iaks}
use Rattle.rules.specs.Load.{pairs_at}
use Rattle.rules.specs.State.{State}
use Rattle.rules.specs.Desk.{certificates_of, any_twice, issue_iaks_effect}
use Rattle.rules.specs.Run.{outcome}
use Rattle.theorems.proofs.Loading.{PairsFormed, Wellformed}
use Rattle.theorems.proofs.Together.{PairsAccepted}
use Rattle.state.specs.View.{view}
use Rattle.state.proofs.Exact.{state_of}
use Rattle.tables.specs.Columns.{tables_in}
use Rattle.loaded.specs.Loaded.{file_in, Holds, Finds}
use Rattle.loaded.specs.Entries.{Ledgered, SameKeys}
use Rattle.requests.specs.Formed.{OpenRequested}
use Rattle.together.specs.Pairs.{PairsRequested}

-- the 43 whose record stands at a place: its desk, its returning party and its pairs
abbrev pub desk_at : List ℕ → ℕ → ℕ
desk_at bs at = get_or bs (at + 1) 0

abbrev pub returning_at : List ℕ → ℕ → ℕ
returning_at bs at = get_or bs (at + 2) 0

abbrev pub together_at : List ℕ → ℕ → Command
together_at bs at = issue_iaks (desk_at bs at) (returning_at bs at) (pairs_at pair_count bs (at + 3))

pub record TogetherHere (bs s : List ℕ) (at : ℕ) : Type 0 where
  pub holds : Holds bs s
  pub whole : at + 3 + pair_width * pair_count ≤ length bs
  pub wellformed : Wellformed (file_in bs) (together_at bs at)
  pub opened : OpenRequested bs s

pub record TogetherDecided (bs s : List ℕ) (tables : Tables) (at : ℕ) : Type 0 where
  pub here : TogetherHere bs s at
  pub finds : Finds bs tables
  pub entries : ℕ
  pub ledger : List Entry
  pub ledgered : Ledgered bs s tables entries ledger

-- what a pair is judged by after those before it
pub record JudgeReady (bs s : List ℕ) (tables : Tables) (at : ℕ) (before : List IakPair) (x : IakPair) : Type 0 where
  pub decided : TogetherDecided bs s tables at
  pub formed : PairsFormed (file_in bs) before
  pub requested : PairsRequested (file_in bs) (view s).request before
  pub credential : kind (file_in bs) x.credential ≡ credential_kind
  pub certificate : kind (file_in bs) x.certificate ≡ certificate_kind

-- what its pairs are judged by: an OEM desk's, at least one, and no two with one certificate
pub record PairsJudged (bs s : List ℕ) (tables : Tables) (at : ℕ) (xs : List IakPair) : Type 0 where
  pub decided : TogetherDecided bs s tables at
  pub read : xs ≡ pairs_at pair_count bs (at + 3)
  pub role : is_role (file_in bs) oem_desk (desk_at bs at) ≡ true
  pub some : length xs ≡ 0 → ⊥
  pub apart : any_twice (certificates_of xs) ≡ false

-- an accepted one
pub record TogetherDone (bs s : List ℕ) (tables : Tables) (n at : ℕ) : Type 0 where
  pub here : TogetherHere bs s at
  pub finds : Finds bs tables
  pub ledger : List Entry
  pub ledgered : Ledgered bs s tables n ledger
  pub accepted : outcome (file_in bs) (state_of (view s) ledger) (together_at bs at) ≡ 0

-- While its pairs are issued: what is left of them leaves all that the command leaves, and each is accepted after those before it. The ledger
-- had n entries, and gains some.
pub record Issuing (bs s₀ : List ℕ) (tables₀ : Tables) (p q : ℕ) (all : State) (xs : List IakPair) (s : List ℕ) (tables : Tables) (n : ℕ) (old gained : List Entry) : Type 0 where
  pub holds : Holds bs s
  pub places : (view s).place ≡ (view s₀).place
  pub keys : SameKeys (tables_in tables₀) (tables_in tables)
  pub finds : Finds bs tables
  pub few : length gained + length xs ≤ pair_count
  pub ledgered : Ledgered bs s tables (n + length gained) (old ++ gained)
  pub left : issue_iaks_effect (file_in bs) (state_of (view s) (old ++ gained)) p q xs ≡ all
  pub accepted : PairsAccepted (file_in bs) (state_of (view s) (old ++ gained)) p q xs
  pub desk : p < length (file_in bs).roles
  pub returning : q < length (file_in bs).roles
  pub formed : PairsFormed (file_in bs) xs
  pub opened : OpenRequested bs s
