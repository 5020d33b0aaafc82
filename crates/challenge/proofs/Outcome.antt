-- The outcome of a challenge, part by part, and what an accepted one leaves.
--     challenged         the outcome, by the results of the parts
--     challenge_left     what is left
-- Assumes nothing.
use mathlib.Core.Path.{◌≡◌, refl, ap, ◌∙◌}
use mathlib.Core.Bool.{cond}
use mathlib.Core.List.{List, ◌∷◌, ◌++◌}
use Prim.Native.Nat.{ℕ}
use Rattle.rules.specs.Limits.{oem_desk}
use Rattle.rules.specs.Refusals.{need}
use Rattle.rules.specs.Term.{idevid_request_kind, is_device_subject}
use Rattle.rules.specs.File.{File, challenge, is_role, credential_term, credential_number, credential_key, idevid_certificate, idevid_key, certified_key, signer, left_of, subject}
use Rattle.rules.specs.State.{State, number_used, credential_open, put, learnt, opening}
use Rattle.rules.specs.Desk.{request_body, form_tests, proof_tests, number_tests, iak_of, ek_certificate_of, ek_of, challenge_tests, challenge_effect}
use Rattle.rules.specs.Run.{tests_of, outcome, effect_of}
use Rattle.state.specs.View.{Columns, view, with_mark, with_desk, with_request}
use Rattle.state.proofs.Exact.{state_of}
use Rattle.theorems.specs.Chain.{chain}
use Rattle.theorems.proofs.Chain.{in_order_lem}
use Rattle.loaded.specs.Loaded.{file_in, Learns, Leaves}
use Rattle.requests.specs.Tests.{endorsement_tests, credential_tests}
use Rattle.requests.proofs.Passing.{first, form_part, proof_part, endorsement_part, number_part, refuses}
use Rattle.requests.proofs.Within.{within}

-- the IAK of a request, the certificate of the EK and the EK
abbrev pub iak_at : File → ℕ → ℕ
iak_at f q = idevid_key f (left_of f q)

abbrev pub certificate_at : File → ℕ → ℕ
certificate_at f q = idevid_certificate f (left_of f q)

abbrev pub ek_at : File → ℕ → ℕ
ek_at f q = certified_key f (certificate_at f q)

module _ (f : File) (s : State) (p q r : ℕ) where
  chained :
      outcome f s (challenge p q r)
      ≡ chain (need 13 (is_role f oem_desk p) ∷ need 14 (s.knows p q) ∷ (form_tests f idevid_request_kind q
      ++ (need 19 (is_device_subject (subject f (left_of f q))) ∷ (proof_tests f q (iak_at f q)
      ++ (endorsement_tests f (subject f (certificate_at f q)) (signer f (certificate_at f q)) (iak_at f q) (ek_at f q)
      ++ (number_tests s p (credential_number f r) ++ credential_tests f (credential_term f r) (credential_key f r) (iak_at f q) (ek_at f q)))))))
  unfolding outcome tests_of challenge_tests form_tests proof_tests number_tests endorsement_tests credential_tests request_body iak_of ek_certificate_of ek_of
  chained = in_order_lem _ refl

  pub challenged :
      outcome f s (challenge p q r)
      ≡ cond (is_role f oem_desk p) (cond (s.knows p q) (first (chain (form_tests f idevid_request_kind q))
      (cond (is_device_subject (subject f (left_of f q))) (first (chain (proof_tests f q (iak_at f q)))
      (first (chain (endorsement_tests f (subject f (certificate_at f q)) (signer f (certificate_at f q)) (iak_at f q) (ek_at f q)))
      (first (chain (number_tests s p (credential_number f r))) (chain (credential_tests f (credential_term f r) (credential_key f r) (iak_at f q) (ek_at f q)))))) 19)) 14) 13
  unfolding chain
  challenged = chained ∙ simp (form_part, proof_part, endorsement_part, number_part)

-- the columns of an opened credential
abbrev opened_with : Columns → ℕ → ℕ → ℕ → ℕ → Columns
opened_with v number credential request desk = record {
  knows = v.knows;
  table = v.table;
  mark = put (put v.mark number number_used) credential credential_open;
  desk = put v.desk credential desk;
  request = put v.request credential request;
  place = v.place;
}

pub challenge_left :
    {bs s s₁ s₅ : List ℕ} {v₂ v₃ v₄ : Columns} {p q r number : ℕ} → number ≡ credential_number (file_in bs) r → Learns bs s s₁ p r
    → v₂ ≡ with_mark (view s₁) (put (view s₁).mark number number_used) → v₃ ≡ with_mark v₂ (put v₂.mark r credential_open) → v₄ ≡ with_desk v₃ (put v₃.desk r p) → view s₅ ≡ with_request v₄ (put v₄.request r q)
    → Leaves bs s s₅ (challenge p q r)
unfolding effect_of challenge_effect opening
challenge_left {bs} {s} {s₁} {s₅} {v₂} {v₃} {v₄} {p} {q} {r} {number} n w a b c d =
    let marked = b ∙ ap (λ (v : Columns). with_mark v (put v.mark r credential_open)) a in
    let taken = c ∙ ap (λ (v : Columns). with_desk v (put v.desk r p)) marked in
    let opened : view s₅ ≡ opened_with (view s₁) number r q p = d ∙ ap (λ (v : Columns). with_request v (put v.request r q)) taken in
    record {
      columns = λ ledger.
          ap (λ (v : Columns). state_of v ledger) opened
          ∙ ap (λ (x : State). opening x number r q p) (w.columns ledger)
          ∙ ap (λ (m : ℕ). opening (learnt (file_in bs) (state_of (view s) ledger) p r) m r q p) n;
      places = ap (λ (v : Columns). v.place) opened ∙ w.places;
    }

-- what a decision and an effect close by
pub ruleset challenges = (challenged, refuses, within)
