-- The outcome of an issue on an 18 request (40, 41, 42), by the results of its parts.
--     request_outcome     the outcome
-- Assumes nothing.
use mathlib.Core.Path.{◌≡◌, refl, ◌∙◌}
use mathlib.Core.Bool.{cond}
use mathlib.Core.List.{◌∷◌, ◌++◌}
use Prim.Native.Nat.{ℕ}
use Rattle.rules.specs.declared.Family.{Family}
use Rattle.rules.specs.Families.{signing_role}
use Rattle.rules.specs.Refusals.{need}
use Rattle.rules.specs.Term.{ldevid_request_kind}
use Rattle.rules.specs.File.{File, issue, is_role, message, signing_key, attested_key, ldevid_message, ldevid_certificate, certified_key, signer, left_of, subject}
use Rattle.rules.specs.State.{State}
use Rattle.rules.specs.Desk.{request_body, form_tests, proof_tests, called_for, attest_signature_of, new_key_of, parent_certificate_of, issue_tests}
use Rattle.rules.specs.Run.{tests_of, outcome}
use Rattle.theorems.specs.Chain.{chain}
use Rattle.theorems.proofs.Chain.{in_order_lem}
use Rattle.requests.specs.Tests.{called_tests, attest_tests, parentage_tests}
use Rattle.requests.proofs.Passing.{first, form_part, attest_part, proof_part, parentage_part, called_part, refuses}
use Rattle.requests.proofs.Within.{within}
use Rattle.issuance.specs.Tests.{entry_tests}

-- the signature over the attest, the new key and the parent's certificate
abbrev pub signature_at : File → ℕ → ℕ
signature_at f q = ldevid_message f (left_of f q)

abbrev pub new_at : File → ℕ → ℕ
new_at f q = attested_key f (message f (signature_at f q))

abbrev pub parent_at : File → ℕ → ℕ
parent_at f q = ldevid_certificate f (left_of f q)

module _ (f : File) (s : State) (family : Family) (p q r : ℕ) where
  chained :
      outcome f s (issue family p q r)
      ≡ chain (need 13 (is_role f (signing_role family) p) ∷ need 14 (s.knows p q) ∷ (form_tests f ldevid_request_kind q
      ++ (attest_tests f (signature_at f q)
      ++ (proof_tests f q (new_at f q)
      ++ (parentage_tests f family (signing_key f (signature_at f q)) (new_at f q) (certified_key f (parent_at f q)) (signer f (parent_at f q))
      ++ (called_tests f p r (new_at f q) (subject f (parent_at f q)) ++ entry_tests s.ledger r (parent_at f q)))))))
  unfolding outcome tests_of issue_tests form_tests attest_tests proof_tests parentage_tests called_for called_tests entry_tests request_body attest_signature_of new_key_of parent_certificate_of
  chained = in_order_lem _ refl

  pub request_outcome :
      outcome f s (issue family p q r)
      ≡ cond (is_role f (signing_role family) p) (cond (s.knows p q) (first (chain (form_tests f ldevid_request_kind q)) (first (chain (attest_tests f (signature_at f q)))
      (first (chain (proof_tests f q (new_at f q)))
      (first (chain (parentage_tests f family (signing_key f (signature_at f q)) (new_at f q) (certified_key f (parent_at f q)) (signer f (parent_at f q))))
      (first (chain (called_tests f p r (new_at f q) (subject f (parent_at f q)))) (chain (entry_tests s.ledger r (parent_at f q)))))))) 14) 13
  unfolding chain
  request_outcome = chained ∙ simp (form_part, attest_part, proof_part, parentage_part, called_part)

pub ruleset issues = (request_outcome, refuses, within)
