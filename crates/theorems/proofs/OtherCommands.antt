-- The rules read a file's parties, terms and set-up, not its commands: with other commands in the file each command does the same.
--     start-same                              what the set-up leaves
--     outcome-same, effect-same, after_same   a command's outcome, its effect, and what it leaves
--     run-same, outcomes-same                 what a list of commands leaves, and its outcomes
--     boards-same                             the boards left in a stock of numbers
-- Assumes nothing.
use mathlib.Core.Path.{◌≡◌, refl, ap}
use mathlib.Core.Bool.{Bool, cond, not, ◌||◌, ◌&&◌}
use mathlib.Core.List.{List, [], ◌∷◌}
use Prim.Native.Nat.{ℕ, zero, suc, ◌+◌, ◌/◌, ◌%◌}
use lib.Dec.{eqb}
use lib.ListN.{length}
use Rattle.rules.specs.declared.Entry.{Entry}
use Rattle.rules.specs.declared.Family.{Family}
use Rattle.rules.specs.declared.Signers.{Signers}
use Rattle.rules.specs.declared.Subject.{Subject}
use Rattle.rules.specs.Limits.{tpm_maker, oem_desk, owner_desk}
use Rattle.rules.specs.Term.{same_subject}
use Rattle.rules.specs.File.{File, Setup, learns, holds, signs_with, Command, hash, sign, certify, make_credential, activate_credential, make_idevid_request, make_ldevid_request, make_pair, check_hash, check_signature, check_certificate, check_attributes, send, self_issue, challenge, issue_iak, issue, issue_iaks, extend, quote, IakPair, role_of, is_role, term, kind, is_kind, parts, field, hashed_term, message, signing_key, attested_key, credential_term, credential_number, credential_key, idevid_certificate, idevid_key, ldevid_message, ldevid_certificate, certified_key, signer, left_of, right_of, register_of, quoted_value, quote_number, subject, attributes, paired, half_in, some_setup, is_signing_key_for, holds_key, signs_for, signs_for_role, signs_for_some}
use Rattle.rules.specs.Learning.{Knowledge, learn}
use Rattle.rules.specs.State.{State, taught, start_registers, start, learnt}
use Rattle.rules.specs.Device.{device_role, key_has, holds_half, hash_tests, hash_effect, sign_tests, certify_tests, make_credential_tests, activate_credential_tests, both_known_tests, may_be_sent_by_desk, may_send, send_tests, self_issue_tests, check_role, check_tests, extend_tests, quote_tests, no_ticket}
use Rattle.rules.specs.Desk.{request_body, request_signature, form_tests, proof_tests, iak_of, ek_certificate_of, ek_of, challenge_tests, challenge_effect, called_for, end_ek, all_end_at, issue_iak_tests, issue_iak_effect, attest_signature_of, new_key_of, parent_certificate_of, issue_tests, issue_effect, pair_tests, issue_iaks_tests, issue_iaks_effect}
use Rattle.rules.specs.Run.{tests_of, effect_of, outcome, after, run, outcomes}
use Rattle.rules.specs.Lent.{success, refusal}
use Rattle.rules.specs.Stock.{in_stock, stock_among, stock, boards_left}

-- a file with another section and other commands
abbrev pub Other : File → ℕ → List Command → File
Other f section cs = record { section = section; roles = f.roles; terms = f.terms; places = f.places; setup = f.setup; commands = cs }

module _ (f : File) (section : ℕ) (cs : List Command) where
  abbrev g : File
  g = Other f section cs

  learnt_same : (s : State) (p t : ℕ) → learnt g s p t ≡ learnt f s p t
  unfolding learnt learn parts term
  learnt_same s p t = refl

  taught_same : (xs : List Setup) → taught g xs ≡ taught f xs
  unfolding taught learn parts term
  taught_same [] = refl
  taught_same (learns q u ∷ xs) = ap (learn f q u) (taught_same xs)
  taught_same (holds q k ∷ xs) = taught_same xs
  taught_same (signs_with q k ∷ xs) = taught_same xs

  pub start_same : start g ≡ start f
  unfolding start holds_key start_registers is_role role_of
  start_same = ap (λ (known : Knowledge). record { knows = known; table = holds_key f; mark = λ t. 0; desk = λ t. 0; request = λ t. 0; registers = start_registers f; ledger = [] }) (taught_same f.setup)

  signing_same : (role k : ℕ) (xs : List Setup) → some_setup (is_signing_key_for g role k) xs ≡ some_setup (is_signing_key_for f role k) xs
  unfolding some_setup is_signing_key_for is_role role_of
  signing_same role k [] = refl
  signing_same role k (learns q t ∷ xs) = signing_same role k xs
  signing_same role k (holds q t ∷ xs) = signing_same role k xs
  signing_same role k (signs_with q t ∷ xs) = ap (λ (b : Bool). (is_role f role q && eqb t k) || b) (signing_same role k xs)

  role_same : (role k : ℕ) → signs_for_role g role k ≡ signs_for_role f role k
  unfolding signs_for_role
  role_same role k = signing_same role k f.setup

  some_same : (who : Signers) (k : ℕ) → signs_for_some g who k ≡ signs_for_some f who k
  unfolding signs_for_some
  some_same who k = rw (role_same tpm_maker k, role_same oem_desk k, role_same owner_desk k)

  ends_same : (l : List Entry) (x : Subject) (ek : ℕ) (es : List Entry) → all_end_at g l x ek es ≡ all_end_at f l x ek es
  unfolding all_end_at end_ek certified_key field subject term
  ends_same l x ek [] = refl
  ends_same l x ek (e ∷ es) = ap (λ (b : Bool). (not (same_subject (subject f e.certificate) x) || eqb (end_ek f l e) ek) && b) (ends_same l x ek es)

  challenge_same : (s : State) (p q r : ℕ) → challenge_tests g s p q r ≡ challenge_tests f s p q r
  unfolding challenge_tests is_role role_of is_kind kind iak_of ek_certificate_of ek_of request_body idevid_key idevid_certificate certified_key signer left_of subject attributes credential_number credential_term credential_key hashed_term form_tests request_signature right_of message proof_tests signing_key paired field term
  challenge_same s p q r = rw (role_same tpm_maker (signer f (ek_certificate_of f q)))

  iak_same : (s : State) (p q c r : ℕ) → issue_iak_tests g s p q c r ≡ issue_iak_tests f s p q c r
  unfolding issue_iak_tests is_role role_of credential_number iak_of ek_certificate_of ek_of request_body idevid_key idevid_certificate certified_key left_of subject called_for signer signs_for field term
  iak_same s p q c r = rw (ends_same s.ledger (subject f r) (ek_of f (s.request c)) s.ledger)

  iak_effect_same : (s : State) (p q c r : ℕ) → issue_iak_effect g s p q c r ≡ issue_iak_effect f s p q c r
  unfolding issue_iak_effect learnt learn parts ek_certificate_of request_body idevid_certificate left_of field term
  iak_effect_same s p q c r = refl

  issue_same : (s : State) (family : Family) (p q r : ℕ) → issue_tests g s family p q r ≡ issue_tests f s family p q r
  unfolding issue_tests is_role role_of is_kind kind attest_signature_of new_key_of parent_certificate_of request_body request_signature ldevid_message ldevid_certificate attested_key message signing_key paired certified_key signer left_of right_of subject attributes form_tests proof_tests called_for hashed_term signs_for field term
  issue_same s family p q r = rw (some_same family.signers (signer f (parent_certificate_of f q)))

  pairs_same : (s : State) (p q : ℕ) (xs : List IakPair) → pair_tests g s p q xs ≡ pair_tests f s p q xs
  unfolding pair_tests
  pairs_same s p q [] = refl
  pairs_same s p q (x ∷ xs) =
      rw (iak_same s p q x.credential x.certificate, iak_effect_same s p q x.credential x.certificate, pairs_same (issue_iak_effect f s p q x.credential x.certificate) p q xs)

  pairs_effect_same : (s : State) (p q : ℕ) (xs : List IakPair) → issue_iaks_effect g s p q xs ≡ issue_iaks_effect f s p q xs
  unfolding issue_iaks_effect
  pairs_effect_same s p q [] = refl
  pairs_effect_same s p q (x ∷ xs) =
      rw (iak_effect_same s p q x.credential x.certificate, pairs_effect_same (issue_iak_effect f s p q x.credential x.certificate) p q xs)

  tests_same : (s : State) (c : Command) → tests_of g s c ≡ tests_of f s c
  unfolding tests_of device_role key_has holds_half half_in hash_tests sign_tests certify_tests make_credential_tests activate_credential_tests both_known_tests may_be_sent_by_desk may_send send_tests self_issue_tests check_role check_tests extend_tests quote_tests issue_iaks_tests is_role role_of is_kind kind hashed_term message signing_key attested_key credential_term credential_number credential_key idevid_certificate idevid_key ldevid_message ldevid_certificate certified_key signer left_of right_of register_of quoted_value quote_number attributes paired field term
  tests_same s (hash p r) = refl
  tests_same s (sign p r) = refl
  tests_same s (certify p r) = refl
  tests_same s (make_credential p r) = refl
  tests_same s (activate_credential p r) = refl
  tests_same s (make_idevid_request p r) = refl
  tests_same s (make_ldevid_request p r) = refl
  tests_same s (make_pair p r) = refl
  tests_same s (check_hash p h t) = refl
  tests_same s (check_signature p t k) = refl
  tests_same s (check_certificate p c k) = refl
  tests_same s (check_attributes p k a) = refl
  tests_same s (send p q t) = refl
  tests_same s (self_issue p r) = refl
  tests_same s (challenge p q r) = challenge_same s p q r
  tests_same s (issue_iak p q c r) = iak_same s p q c r
  tests_same s (issue family p q r) = issue_same s family p q r
  tests_same s (issue_iaks p q xs) = rw (pairs_same s p q xs)
  tests_same s (extend p i r) = refl
  tests_same s (quote p r) = refl

  pub effect_same : (s : State) (c : Command) → effect_of g s c ≡ effect_of f s c
  unfolding effect_of no_ticket hash_effect challenge_effect issue_effect learnt learn parts is_kind kind hashed_term credential_number parent_certificate_of request_body ldevid_certificate left_of field term
  effect_same s (hash p r) = refl
  effect_same s (sign p r) = refl
  effect_same s (certify p r) = refl
  effect_same s (make_credential p r) = refl
  effect_same s (activate_credential p r) = refl
  effect_same s (make_idevid_request p r) = refl
  effect_same s (make_ldevid_request p r) = refl
  effect_same s (make_pair p r) = refl
  effect_same s (check_hash p h t) = refl
  effect_same s (check_signature p t k) = refl
  effect_same s (check_certificate p c k) = refl
  effect_same s (check_attributes p k a) = refl
  effect_same s (send p q t) = refl
  effect_same s (self_issue p r) = refl
  effect_same s (challenge p q r) = refl
  effect_same s (issue_iak p q c r) = iak_effect_same s p q c r
  effect_same s (issue family p q r) = refl
  effect_same s (issue_iaks p q xs) = pairs_effect_same s p q xs
  effect_same s (extend p i r) = refl
  effect_same s (quote p r) = refl

  pub outcome_same : (s : State) (c : Command) → outcome g s c ≡ outcome f s c
  unfolding outcome
  outcome_same s c = rw (tests_same s c)

  pub after_same : (s : State) (c : Command) → after g s c ≡ after f s c
  unfolding after
  after_same s c = rw (outcome_same s c, effect_same s c)

  pub run_same : (xs : List Command) (s : State) → run g xs s ≡ run f xs s
  unfolding run
  run_same [] s = refl
  run_same (c ∷ xs) s = rw (after_same s c, run_same xs (after f s c))

  pub outcomes_same : (xs : List Command) (s : State) → outcomes g xs s ≡ outcomes f xs s
  unfolding outcomes
  outcomes_same [] s = refl
  outcomes_same (c ∷ xs) s = rw (outcome_same s c, after_same s c, outcomes_same xs (after f s c))

  stock_same : (s : State) (desk n : ℕ) → stock_among g s desk n ≡ stock_among f s desk n
  unfolding stock_among in_stock is_kind kind term
  stock_same s desk zero = refl
  stock_same s desk (suc n) = ap (λ (m : ℕ). m + cond (in_stock f s desk n) 1 0) (stock_same s desk n)

  pub boards_same : (party iaks : ℕ) (s : State) → boards_left party iaks g s ≡ boards_left party iaks f s
  unfolding boards_left stock is_role role_of
  boards_same party iaks s =
      ap (λ (m : ℕ). cond (is_role f oem_desk party && not (eqb iaks 0)) (success (m / iaks ∷ m % iaks ∷ [])) (refusal 39 0)) (stock_same s party (length f.terms))
