-- Laws of the calls above Run, whatever is asked.
use Rattle.std.specs.Prelude.{◌≡◌, List, [], ◌∷◌, ℕ}
use Rattle.rules.specs.declared.Question.{Question}
use Rattle.rules.specs.File.{File}
use Rattle.rules.specs.Load.{loaded, load}
use Rattle.rules.specs.State.{State}
use Rattle.rules.specs.Run.{reached}
use Rattle.rules.specs.Lent.{Answer, success, refusal, Lent, run_answer, run_leaves, ask_answer}
use Rattle.rules.specs.Questions.{count_of, leaves_of}

-- Run's refusal is the call's, whatever is asked
abbrev pub RefusedFirst : Type 0
RefusedFirst =
    (question : File → State → Answer) (bytes : List ℕ) (n : ℕ) (lent : Lent) (number place : ℕ)
    → run_answer bytes n lent ≡ refusal number place → ask_answer question bytes n lent ≡ refusal number place

-- where Run has totals, the file loads, and the answer is by it and by the state after its first n commands
abbrev pub AskedAfter : Type 0
AskedAfter =
    (question : File → State → Answer) (bytes : List ℕ) (n : ℕ) (lent : Lent) (accepted refusals issued : ℕ)
    → run_answer bytes n lent ≡ success (accepted ∷ refusals ∷ issued ∷ []) → (f : File) × (load bytes ≡ loaded f) × (ask_answer question bytes n lent ≡ question f (reached f n))

-- what a question leaves in every lent place is what Run leaves of the commands that it is asked after, also where it is refused
abbrev pub LeftAsRun : Type 0
LeftAsRun = (question : Question) (bytes : List ℕ) (lent : Lent) → leaves_of question bytes lent ≡ run_leaves bytes (count_of question) lent

pub record AskLaws : Type 0 where
  pub refused_first : RefusedFirst
  pub asked_after : AskedAfter
  pub left_as_run : LeftAsRun
