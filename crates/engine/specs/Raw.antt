-- What a run answers and leaves by the rules, and what calls above it start from.
use Rattle.std.specs.Prelude.{◌≡◌, true, List, [], ◌∷◌, ℕ, ◌+◌, ◌≤◌, length, Result}
use Rattle.tables.specs.declared.columns.Tables.{Tables}
use Rattle.rules.specs.declared.Refused.{Refused}
use Rattle.rules.specs.Limits.{term_limit, command_limit, state_bytes}
use Rattle.rules.specs.Run.{reached, accepted, refusals, issued}
use Rattle.rules.specs.Lent.{Answer, in_numbers, Lent, no_entry, first_part, long_enough, run_answer, run_leaves}
use Rattle.lookup.specs.Commands.{commands_from}
use Rattle.loaded.specs.Loaded.{file_in}
use Rattle.commands.specs.Standing.{state_in, Stands}
use Rattle.command_loop.specs.Recorded.{within}
use Rattle.engine.specs.declared.Finished.{Finished}

-- the answer of a run in numbers
abbrev pub ran_in : Result Finished Refused → Answer
ran_in = in_numbers (λ r. r.progress.accepted ∷ r.progress.refused ∷ r.progress.issued ∷ [])

-- what the rules say
pub record Ran (bs : List ℕ) (n : ℕ) (lent after : Lent) (r : Result Finished Refused) : Type 0 where
  pub answer : ran_in r ≡ run_answer bs n lent
  pub buffers : after ≡ run_leaves bs n lent

-- after a run that is not refused: what stands between commands, with the ledger of the rules, how many parties and terms the file declares, and the place of its first command
pub record Stood (bs : List ℕ) (n : ℕ) (lent after : Lent) (tables : Tables) (r : Finished) : Type 0 where
  pub stands : Stands bs (within after.state after.registers) tables r.progress.issued (reached (file_in bs) n).ledger
  pub state : state_in (within after.state after.registers) (reached (file_in bs) n).ledger ≡ reached (file_in bs) n
  pub parties_are : r.begun.parties ≡ length (file_in bs).roles
  pub terms_are : r.begun.terms ≡ length (file_in bs).terms
  pub first_is : r.begun.first ≡ commands_from (length bs) bs 0
  pub enough : long_enough lent ≡ true
  pub ledger : after.ledger ≡ first_part term_limit no_entry (reached (file_in bs) n).ledger lent.ledger
  pub long : term_limit ≤ length lent.ledger
  pub room : state_bytes ≤ length after.state
  pub accepted : r.progress.accepted ≡ accepted (file_in bs) n
  pub refused : r.progress.refused ≡ refusals (file_in bs) n
  pub issued : r.progress.issued ≡ issued (file_in bs) n
  pub few : r.progress.accepted + r.progress.refused ≤ command_limit
