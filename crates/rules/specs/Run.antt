-- Commands and runs (document 01, "Run and Path"): outcomes, the state after the first n commands, the totals.
use Rattle.std.specs.Prelude.{cond, List, [], ◌∷◌, ℕ, ◌+◌, eqb, length, take}
use Rattle.rules.specs.Refusals.{Test, refusal_of}
use Rattle.rules.specs.Attributes.{same_attributes}
use Rattle.rules.specs.File.{File, Command, hash, sign, certify, make_credential, activate_credential, make_idevid_request, make_ldevid_request, make_pair, check_hash, check_signature, check_certificate, check_attributes, send, self_issue, challenge, issue_iak, issue, issue_iaks, extend, quote, hashed_term, signing_key, credential_number, idevid_certificate, idevid_key, ldevid_message, ldevid_certificate, left_of, right_of, signer, attributes, paired}
use Rattle.rules.specs.Load.{commands_of}
use Rattle.rules.specs.State.{State, start, learnt, showing}
use Rattle.rules.specs.Device.{hash_tests, hash_effect, sign_tests, certify_tests, make_credential_tests, activate_credential_tests, both_known_tests, send_tests, self_issue_tests, check_tests, extend_tests, quote_tests}
use Rattle.rules.specs.Desk.{challenge_tests, challenge_effect, issue_iak_tests, issue_iak_effect, issue_tests, issue_effect, issue_iaks_tests, issue_iaks_effect}

-- what a command has to pass
unfoldable pub tests_of : File → State → Command → List Test
tests_of f s (hash p r) = hash_tests f s p r
tests_of f s (sign p r) = sign_tests f s p r
tests_of f s (certify p r) = certify_tests f s p r
tests_of f s (make_credential p r) = make_credential_tests f s p r
tests_of f s (activate_credential p r) = activate_credential_tests f s p r
tests_of f s (make_idevid_request p r) = both_known_tests f s p (idevid_certificate f r) (idevid_key f r)
tests_of f s (make_ldevid_request p r) = both_known_tests f s p (ldevid_message f r) (ldevid_certificate f r)
tests_of f s (make_pair p r) = both_known_tests f s p (left_of f r) (right_of f r)
tests_of f s (check_hash p h t) = check_tests f s p h t (eqb (hashed_term f h) t)
tests_of f s (check_signature p t k) = check_tests f s p t k (paired f k (signing_key f t))
tests_of f s (check_certificate p c k) = check_tests f s p c k (paired f k (signer f c))
tests_of f s (check_attributes p k a) = check_tests f s p k k (same_attributes (attributes f k) (record { bits = a }))
tests_of f s (send p q t) = send_tests f s p t
tests_of f s (self_issue p r) = self_issue_tests f s p r
tests_of f s (challenge p q r) = challenge_tests f s p q r
tests_of f s (issue_iak p q c r) = issue_iak_tests f s p q c r
tests_of f s (issue family p q r) = issue_tests f s family p q r
tests_of f s (issue_iaks p q xs) = issue_iaks_tests f s p q xs
tests_of f s (extend p i r) = extend_tests f s p i r
tests_of f s (quote p r) = quote_tests f s p r

-- what an accepted command leaves: "The party learns r unless said."
unfoldable pub effect_of : File → State → Command → State
effect_of f s (hash p r) = hash_effect f s p r
effect_of f s (sign p r) = learnt f s p r
effect_of f s (certify p r) = learnt f s p r
effect_of f s (make_credential p r) = learnt f s p r
effect_of f s (activate_credential p r) = learnt f s p (credential_number f r)
effect_of f s (make_idevid_request p r) = learnt f s p r
effect_of f s (make_ldevid_request p r) = learnt f s p r
effect_of f s (make_pair p r) = learnt f s p r
effect_of f s (check_hash p h t) = s
effect_of f s (check_signature p t k) = s
effect_of f s (check_certificate p c k) = s
effect_of f s (check_attributes p k a) = s
effect_of f s (send p q t) = learnt f s q t
effect_of f s (self_issue p r) = learnt f s p r
effect_of f s (challenge p q r) = challenge_effect f s p q r
effect_of f s (issue_iak p q c r) = issue_iak_effect f s p q c r
effect_of f s (issue family p q r) = issue_effect f s p q r
effect_of f s (issue_iaks p q xs) = issue_iaks_effect f s p q xs
effect_of f s (extend p i r) = showing s p i r
effect_of f s (quote p r) = learnt f s p r

-- a command's outcome: 0, or the refusal
unfoldable pub outcome : File → State → Command → ℕ
outcome f s c = refusal_of (tests_of f s c)

-- what a command leaves: a refused one changes nothing
unfoldable pub after : File → State → Command → State
after f s c = cond (eqb (outcome f s c) 0) (effect_of f s c) s

-- the state after a list of commands
unfoldable pub run : File → List Command → State → State
run f [] s = s
run f (c ∷ cs) s = run f cs (after f s c)

-- the outcomes of a list of commands
unfoldable pub outcomes : File → List Command → State → List ℕ
outcomes f [] s = []
outcomes f (c ∷ cs) s = outcome f s c ∷ outcomes f cs (after f s c)

-- "executes the first n commands, or all if fewer"
unfoldable pub first_commands : File → ℕ → List Command
first_commands f n = take n (commands_of f)

unfoldable pub reached : File → ℕ → State
reached f n = run f (first_commands f n) (start f)

unfoldable pub outcomes_of : File → ℕ → List ℕ
outcomes_of f n = outcomes f (first_commands f n) (start f)

-- how many outcomes are 0
unfoldable pub zeros : List ℕ → ℕ
zeros [] = 0
zeros (x ∷ xs) = cond (eqb x 0) 1 0 + zeros xs

unfoldable pub others : List ℕ → ℕ
others [] = 0
others (x ∷ xs) = cond (eqb x 0) 0 1 + others xs

-- the results of a run
unfoldable pub accepted : File → ℕ → ℕ
accepted f n = zeros (outcomes_of f n)

unfoldable pub refusals : File → ℕ → ℕ
refusals f n = others (outcomes_of f n)

unfoldable pub issued : File → ℕ → ℕ
issued f n = length (reached f n).ledger
