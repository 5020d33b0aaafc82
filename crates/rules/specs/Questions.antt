-- The calls that are lent Run's buffers alone, as one: what is asked, after how many commands, and what is answered and left.
use Rattle.std.specs.Prelude.{List, [], ◌∷◌, ℕ, Result}
use Rattle.rules.specs.declared.Question.{Question}
use Rattle.rules.specs.declared.Question.TheVariants.{Totals, Stock}
use Rattle.rules.specs.declared.Told.{Told}
use Rattle.rules.specs.declared.Told.TheVariants as told
use Rattle.rules.specs.declared.Refused.{Refused}
use Rattle.rules.specs.Limits.{command_limit}
use Rattle.rules.specs.Lent.{Answer, Lent, in_numbers, run_answer, run_leaves}
use Rattle.rules.specs.Stock.{stock_answer, stock_leaves}

-- what an answer of the code is in numbers
abbrev pub values_of : Told → List ℕ
values_of (told.Totals x) = x.accepted ∷ x.refused ∷ x.issued ∷ []
values_of (told.Boards x) = x.boards ∷ x.rest ∷ []

abbrev pub ask_in_numbers : Result Told Refused → Answer
ask_in_numbers = in_numbers values_of

-- how many commands are run first: "all commands unless said"
unfoldable pub count_of : Question → ℕ
count_of (Totals n) = n
count_of (Stock party iaks) = command_limit

-- what is answered: Run's totals; boards left (request 12)
unfoldable pub answer_of : Question → List ℕ → Lent → Answer
answer_of (Totals n) bs lent = run_answer bs n lent
answer_of (Stock party iaks) bs lent = stock_answer bs lent party iaks

-- the buffers after it
unfoldable pub leaves_of : Question → List ℕ → Lent → Lent
leaves_of (Totals n) bs lent = run_leaves bs n lent
leaves_of (Stock party iaks) bs lent = stock_leaves bs lent party iaks
