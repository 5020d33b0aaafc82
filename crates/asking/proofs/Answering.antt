-- A question asked after a run, by what the run left.
--     askable     what a run leaves can be asked
--     ask_ran     the whole promise
-- Assumes nothing.
use Rattle.std.proofs.Common.{rules, arith, ◌≡◌, refl, sym, ap, subst, ◌∙◌, cond, List, [], ℕ, zero, suc, ◌+◌, length, IfOk, Result, Ok, Err}
use Rattle.tables.specs.declared.columns.Tables.{Tables}
use Rattle.rules.specs.declared.Question.{Question}
use Rattle.rules.specs.declared.Question.TheVariants.{Totals, Stock}
use Rattle.rules.specs.declared.Told.{Told}
use Rattle.rules.specs.declared.Refused.{Refused}
use Rattle.rules.specs.Codes.{number_of}
use Rattle.rules.specs.Limits.{command_limit}
use Rattle.rules.specs.Run.{reached}
use Rattle.rules.specs.File.{File}
use Rattle.rules.specs.State.{State}
use Rattle.rules.specs.Lent.{in_numbers, refusal, Lent, Called, run_answer}
use Rattle.rules.specs.Stock.{in_stock, stock_among, stock, boards_left, stock_answer}
use Rattle.rules.specs.Questions.{ask_in_numbers, count_of, answer_of, leaves_of}
use Rattle.theorems.proofs.Beside.{beside}
use Rattle.theorems.proofs.Asking.{refused_first_lem, asked_loaded, left_as_run_lem}
use Rattle.loaded.specs.Loaded.{file_in}
use Rattle.engine.specs.declared.Finished.{Finished}
use Rattle.engine.specs.Raw.{ran_in, Ran, Stood}
use Rattle.asking.specs.Asks.{Askable, Answers}

-- what a run leaves can be asked
pub askable : {bs : List ℕ} {n : ℕ} {lent after : Lent} (tables : Tables) (r : Result Finished Refused) → Ran bs n lent after r → IfOk r (Stood bs n lent after tables) → IfOk r (Askable bs after.state)
askable tables (Ok r) run w = record { room = w.room; holds = w.stands.holds; parties_are = w.parties_are; terms_are = w.terms_are; few = (omega (arith, w.few), (omega (arith, w.few), omega (arith, w.stands.enters.few))) }
askable tables (Err r) run w = search rules

-- the stock is the same beside any registers
module _ (f : File) (registers : ℕ → ℕ → ℕ) (x : State) where
  stock_beside : (desk n : ℕ) → stock_among f x desk n ≡ stock_among f (beside registers x) desk n
  unfolding stock_among in_stock
  stock_beside desk zero = refl
  stock_beside desk (suc t) = ap (λ (k : ℕ). k + cond (in_stock f x desk t) 1 0) (stock_beside desk t)

  boards_beside : (party iaks : ℕ) → boards_left party iaks f x ≡ boards_left party iaks f (beside registers x)
  unfolding boards_left stock
  boards_beside party iaks = rw (stock_beside party (length f.terms)) refl

module _ (bs : List ℕ) (lent : Lent) where
  -- the run's refusal is the answer
  refused_by : (question : Question) (number place : ℕ) → refusal number place ≡ run_answer bs (count_of question) lent → refusal number place ≡ answer_of question bs lent
  unfolding count_of answer_of stock_answer
  refused_by (Totals n) number place q = q
  refused_by (Stock party iaks) number place q = sym (refused_first_lem (boards_left party iaks) bs command_limit lent number place (sym q))

  -- what is told of what the run left is the answer
  ran_by : (question : Question) {after : Lent} {tables : Tables} (r : Finished) (x : Result Told Refused) → ran_in (Ok r) ≡ run_answer bs (count_of question) lent
      → Stood bs (count_of question) lent after tables r → Answers (Ok r) question bs after.state x → ask_in_numbers x ≡ answer_of question bs lent
  unfolding count_of answer_of stock_answer in_numbers
  ran_by (Totals n) r x q left h = h [] ∙ q
  ran_by (Stock party iaks) r x q left h =
      h (reached (file_in bs) command_limit).ledger
      ∙ boards_beside (file_in bs) _ _ party iaks
      ∙ ap (boards_left party iaks (file_in bs)) left.state
      ∙ sym (asked_loaded (boards_left party iaks) command_limit bs lent left.enough (file_in bs) left.stands.holds.loads)

-- the whole: the answer and the buffers
module _ (bs : List ℕ) (question : Question) (lent after : Lent) (tables : Tables) (x : Result Told Refused) where
  answered_by : (r : Result Finished Refused) → ran_in r ≡ run_answer bs (count_of question) lent → IfOk r (Stood bs (count_of question) lent after tables) → Answers r question bs after.state x
      → ask_in_numbers x ≡ answer_of question bs lent
  unfolding in_numbers
  answered_by (Ok r) q left h = ran_by bs lent question r x q left h
  answered_by (Err r) q left h = h [] ∙ refused_by bs lent question (number_of r.refusal) r.place q

  asked_of : (r : Result Finished Refused) → Ran bs (count_of question) lent after r → IfOk r (Stood bs (count_of question) lent after tables) → Answers r question bs after.state x
      → Called (answer_of question bs) (leaves_of question bs) lent after (ask_in_numbers x)
  asked_of r run left h = (answered_by r run.answer left h, run.buffers ∙ sym (left_as_run_lem question bs lent))

  pub ask_ran : (n : ℕ) → n ≡ count_of question → (r : Result Finished Refused) → Ran bs n lent after r → IfOk r (Stood bs n lent after tables) → Answers r question bs after.state x
      → Called (answer_of question bs) (leaves_of question bs) lent after (ask_in_numbers x)
  ask_ran n e r run left h = asked_of r (subst (λ (m : ℕ). Ran bs m lent after r) e run) (subst (λ (m : ℕ). IfOk r (Stood bs m lent after tables)) e left) h
