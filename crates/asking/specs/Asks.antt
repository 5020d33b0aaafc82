-- What is asked after a run: what it needs of what the run left, and what is answered.
use Rattle.std.specs.Prelude.{◌≡◌, List, [], ◌∷◌, ℕ, ◌^◌, ◌<◌, ◌≤◌, length, take, Result, Ok, Err}
use Rattle.rules.specs.declared.Entry.{Entry}
use Rattle.rules.specs.declared.Question.{Question}
use Rattle.rules.specs.declared.Question.TheVariants.{Totals, Stock}
use Rattle.rules.specs.declared.Told.{Told}
use Rattle.rules.specs.declared.Refused.{Refused}
use Rattle.rules.specs.Codes.{number_of}
use Rattle.rules.specs.Limits.{state_bytes}
use Rattle.rules.specs.File.{File}
use Rattle.rules.specs.State.{State}
use Rattle.rules.specs.Lent.{Answer, success, refusal}
use Rattle.rules.specs.Stock.{boards_left}
use Rattle.rules.specs.Questions.{ask_in_numbers}
use Rattle.state.specs.View.{view}
use Rattle.state.proofs.Exact.{state_of}
use Rattle.loaded.specs.Loaded.{file_in, Holds}
use Rattle.engine.specs.declared.Finished.{Finished}

-- what is told of a file that was run, by its totals and the state after it
abbrev pub told_of : Question → ℕ → ℕ → ℕ → File → State → Answer
told_of (Totals n) accepted refused issued f s = success (accepted ∷ refused ∷ issued ∷ [])
told_of (Stock party iaks) accepted refused issued f s = boards_left party iaks f s

-- what a run leaves to ask of: a loaded file in bytes, how many parties and terms it declares, and small numbers
pub record Askable (bs s : List ℕ) (r : Finished) : Type 0 where
  pub room : state_bytes ≤ length s
  pub holds : Holds bs (take state_bytes s)
  pub parties_are : r.begun.parties ≡ length (file_in bs).roles
  pub terms_are : r.begun.terms ≡ length (file_in bs).terms
  pub few : (r.progress.accepted < 2 ^ 32) × ((r.progress.refused < 2 ^ 32) × (r.progress.issued < 2 ^ 32))

-- what is told where there is a run, else the run's refusal
abbrev pub told_by : Result Finished Refused → Question → File → State → Answer
told_by (Ok r) question f s = told_of question r.progress.accepted r.progress.refused r.progress.issued f s
told_by (Err r) question f s = refusal (number_of r.refusal) r.place

-- that is answered
abbrev pub Answers : Result Finished Refused → Question → List ℕ → List ℕ → Result Told Refused → Type 0
Answers r question bs s x = (ledger : List Entry) → ask_in_numbers x ≡ told_by r question (file_in bs) (state_of (view (take state_bytes s)) ledger)
