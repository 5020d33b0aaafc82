-- The laws of Subjects, by what every state keeps.
-- Assumes nothing.
use mathlib.Core.Path.{◌≡◌, refl, sym, ◌∙◌}
use mathlib.Core.Bool.{true, false≢true}
use mathlib.Core.List.{List, [], ◌∷◌}
use Prim.Native.Nat.{ℕ, zero, suc}
use native.Mathlib.Omega.{arith}
use Rattle.rules.specs.declared.Family.{Family}
use Rattle.rules.specs.File.{File, issue, subject}
use Rattle.rules.specs.State.{State, parent_of, end_of}
use Rattle.rules.specs.Desk.{form_tests, proof_tests, called_for, issue_tests}
use Rattle.rules.specs.Run.{tests_of, outcome, reached}
use Rattle.rules.specs.Lent.{steps}
use Rattle.theorems.specs.SubjectLaws.{EndsLast, NotOnRequest, SubjectLaws}
use Rattle.theorems.proofs.Loading.{checked}
use Rattle.theorems.proofs.Passing.{ordered, applied, absent}
use Rattle.theorems.proofs.Ends.{by_entry, by_none}
use Rattle.theorems.proofs.Reaching.{reached_invariant}
use Rattle.theorems.proofs.Demand3.{ends_endorsed_lem}

ends_last_lem : EndsLast
unfolding steps end_of
ends_last_lem ledger zero t = refl
ends_last_lem ledger (suc n) t = ends_last_lem ledger n (parent_of ledger t)

-- the numbers that a 40, 41 or 42 asks under are others
abbrev issue_numbers : List ℕ
issue_numbers = 13 ∷ 14 ∷ 19 ∷ 20 ∷ 21 ∷ 23 ∷ 27 ∷ 28 ∷ 29 ∷ []

issue_numbers_lem : (f : File) (s : State) (family : Family) (p q r : ℕ) → ordered issue_numbers (tests_of f s (issue family p q r)) ≡ true
unfolding tests_of issue_tests form_tests proof_tests called_for
issue_numbers_lem f s family p q r = refl

not_on_request_lem : NotOnRequest
unfolding outcome
not_on_request_lem f s family p q r e =
    false≢true
    (sym (absent issue_numbers (tests_of f s (issue family p q r)) 31 (issue_numbers_lem f s family p q r) refl)
    ∙ applied (tests_of f s (issue family p q r)) 31 (omega arith) e)

pub subject_laws : SubjectLaws
subject_laws = record {
  one_ek = λ bytes f loads n. (reached_invariant f (checked bytes f loads) n).one_ek;
  any_entry_tells = λ bytes f loads n i e h ek. by_entry f (reached f n).ledger (subject f e.certificate) ek (reached_invariant f (checked bytes f loads) n).one_ek i e h refl;
  no_entry_allows = λ bytes f loads n x none ek. by_none f (reached f n).ledger x ek none;
  ends_endorsed = λ bytes f loads n. ends_endorsed_lem f (checked bytes f loads) n;
  ends_last = ends_last_lem;
  not_on_request = not_on_request_lem;
}
