-- Boards left in the stock of numbers (request 12 of document 02).
use Rattle.std.specs.Prelude.{Bool, cond, not, ◌&&◌, List, [], ◌∷◌, ℕ, zero, suc, ◌+◌, ◌/◌, ◌%◌, eqb, length}
use Rattle.rules.specs.Limits.{oem_desk, party_limit, command_limit}
use Rattle.rules.specs.Term.{number_kind}
use Rattle.rules.specs.File.{File, is_role, is_kind}
use Rattle.rules.specs.State.{State, number_used}
use Rattle.rules.specs.Desk.{knowers}
use Rattle.rules.specs.Lent.{Answer, success, refusal, Lent, run_leaves, ask_answer}

-- "the unused numbers that this desk alone knows"
unfoldable pub in_stock : File → State → ℕ → ℕ → Bool
in_stock f s desk t = is_kind f number_kind t && s.knows desk t && eqb (knowers s.knows t party_limit) 1 && not (eqb (s.mark t) number_used)

-- how many of the first n terms are
unfoldable pub stock_among : File → State → ℕ → ℕ → ℕ
stock_among f s desk zero = 0
stock_among f s desk (suc t) = stock_among f s desk t + cond (in_stock f s desk t) 1 0

-- "The stock is counted"
unfoldable pub stock : File → State → ℕ → ℕ
stock f s desk = stock_among f s desk (length f.terms)

-- "whole boards and how many numbers are left over"; 39 when the IAKs per board are 0 or the party is no OEM desk; an undeclared party has no role
unfoldable pub boards_left : ℕ → ℕ → File → State → Answer
boards_left party iaks f s =
    cond (is_role f oem_desk party && not (eqb iaks 0)) (success (stock f s party / iaks ∷ stock f s party % iaks ∷ [])) (refusal 39 0)

-- The call's answer for a file, buffers, a party and the IAKs per board: all commands are run, and no file has more than command_limit.
unfoldable pub stock_answer : List ℕ → Lent → ℕ → ℕ → Answer
stock_answer bs lent party iaks = ask_answer (boards_left party iaks) bs command_limit lent

-- the buffers after it: as Run leaves them, also at 39
unfoldable pub stock_leaves : List ℕ → Lent → ℕ → ℕ → Lent
stock_leaves bs lent party iaks = run_leaves bs command_limit lent
