-- The outcome of the issue of an IAK certificate, by the results of its parts.
--     iak_outcome     the outcome
-- Assumes nothing.
use mathlib.Core.Path.{◌≡◌, refl, ap, ◌∙◌}
use mathlib.Core.Bool.{Bool, true, false, cond}
use mathlib.Core.List.{◌∷◌, ◌++◌}
use Prim.Native.Nat.{ℕ}
use native.Mathlib.Omega.{arith}
use lib.Dec.{eqb}
use borrow.Author.Tests.{eqb-true}
use Rattle.rules.specs.declared.Subject.{Subject}
use Rattle.rules.specs.Limits.{device, oem_desk}
use Rattle.rules.specs.Refusals.{need}
use Rattle.rules.specs.File.{File, issue_iak, is_role, credential_number, idevid_certificate, idevid_key, certified_key, left_of, subject}
use Rattle.rules.specs.State.{State, credential_open}
use Rattle.rules.specs.Desk.{request_body, iak_of, ek_of, ek_certificate_of, called_for, issue_iak_tests}
use Rattle.rules.specs.Run.{tests_of, outcome}
use Rattle.theorems.specs.Chain.{chain}
use Rattle.theorems.proofs.Chain.{in_order_lem, passed}
use Rattle.theorems.proofs.Terms.{same_subject_lem}
use Rattle.requests.specs.Tests.{called_tests}
use Rattle.requests.proofs.Passing.{first, called_part, refuses}
use Rattle.requests.proofs.Within.{within}
use Rattle.issuance.specs.Tests.{iak_entry_tests}

-- a certificate that is called for has the Subject
called_subject : (f : File) (desk r key : ℕ) (wanted : Subject) → chain (called_tests f desk r key wanted) ≡ 0 → subject f r ≡ wanted
unfolding called_tests
called_subject f desk r key wanted e =
    let a = passed 27 _ _ (omega arith) e in
    same_subject_lem _ _ (passed 27 _ _ (omega arith) a.1).0

-- so that its entry may be asked of by either
by_wanted : (f : File) (x y : ℕ) (t : Subject → ℕ) (r : ℕ) (wanted : Subject) → (x ≡ 0 → subject f r ≡ wanted) → first x (t (subject f r)) ≡ first x (t wanted)
by_wanted f x y t r wanted h = go (eqb x 0) refl
  where
    go : (b : Bool) → eqb x 0 ≡ b → cond b (t (subject f r)) x ≡ cond b (t wanted) x
    go true e = ap t (h (eqb-true x 0 e))
    go false e = refl

-- the body of the request that a credential was opened with, and the EK in it
abbrev pub body_at : File → State → ℕ → ℕ
body_at f s c = left_of f (s.request c)

abbrev pub ek_at : File → State → ℕ → ℕ
ek_at f s c = certified_key f (idevid_certificate f (body_at f s c))

module _ (f : File) (s : State) (p q c r : ℕ) where
  chained :
      outcome f s (issue_iak p q c r)
      ≡ chain (need 13 (is_role f oem_desk p) ∷ need 25 (eqb (s.mark c) credential_open) ∷ need 25 (eqb (s.desk c) p) ∷ need 26 (is_role f device q) ∷ need 26 (s.knows q (credential_number f c))
      ∷ (called_tests f p r (idevid_key f (body_at f s c)) (subject f (body_at f s c)) ++ iak_entry_tests f s.ledger r (subject f r) (ek_at f s c)))
  unfolding outcome tests_of issue_iak_tests called_for called_tests iak_entry_tests iak_of ek_of ek_certificate_of request_body
  chained = in_order_lem _ refl

  pub iak_outcome :
      outcome f s (issue_iak p q c r)
      ≡ cond (is_role f oem_desk p) (cond (eqb (s.mark c) credential_open) (cond (eqb (s.desk c) p) (cond (is_role f device q) (cond (s.knows q (credential_number f c))
      (first (chain (called_tests f p r (idevid_key f (body_at f s c)) (subject f (body_at f s c)))) (chain (iak_entry_tests f s.ledger r (subject f (body_at f s c)) (ek_at f s c)))) 26) 26) 25) 25) 13
  unfolding chain
  iak_outcome =
      chained
      ∙ ap (λ (x : ℕ). cond (is_role f oem_desk p) (cond (eqb (s.mark c) credential_open) (cond (eqb (s.desk c) p) (cond (is_role f device q) (cond (s.knows q (credential_number f c)) x 26) 26) 25) 25) 13)
      (called_part f _ p r _ _ ∙ by_wanted f _ 0 (λ (x : Subject). chain (iak_entry_tests f s.ledger r x (ek_at f s c))) r (subject f (body_at f s c)) (called_subject f p r _ _))

pub ruleset iak_issues = (iak_outcome, refuses, within)
