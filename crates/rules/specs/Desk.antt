-- Desk commands (document 01, "Desk commands"): what each asks, and what it changes.
use Rattle.std.specs.Prelude.{Bool, true, false, cond, not, ◌&&◌, ◌||◌, List, [], ◌∷◌, ◌++◌, ℕ, zero, suc, ◌+◌, eqb, leb, length}
use Rattle.rules.specs.declared.Entry.{Entry}
use Rattle.rules.specs.declared.Family.{Family}
use Rattle.rules.specs.declared.Subject.{Subject}
use Rattle.rules.specs.Limits.{device, tpm_maker, oem_desk, party_limit, depth_limit}
use Rattle.rules.specs.Refusals.{Test, need, refusal_of}
use Rattle.rules.specs.Families.{signing_role}
use Rattle.rules.specs.Attributes.{same_attributes, iak_attributes, ek_attributes}
use Rattle.rules.specs.Term.{hash_kind, signature_kind, attest_kind, idevid_request_kind, ldevid_request_kind, pair_kind, same_subject, is_device_subject, is_tpm_subject}
use Rattle.rules.specs.File.{File, IakPair, is_role, is_kind, hashed_term, message, signing_key, attested_key, credential_term, credential_number, credential_key, idevid_certificate, idevid_key, ldevid_message, ldevid_certificate, certified_key, signer, left_of, right_of, subject, attributes, paired, signs_for, signs_for_role, signs_for_some}
use Rattle.rules.specs.Learning.{Knowledge}
use Rattle.rules.specs.State.{State, number_used, credential_open, listed, depth_of, end_of, learnt, opening, closing, entered}

-- A request is a pair of its body, a 17 or an 18, and a signature over the body's hash.
unfoldable pub request_body : File → ℕ → ℕ
request_body f q = left_of f q

unfoldable pub request_signature : File → ℕ → ℕ
request_signature f q = right_of f q

unfoldable pub form_tests : File → ℕ → ℕ → List Test
form_tests f body_kind q =
    need 19 (is_kind f pair_kind q)
    ∷ need 19 (is_kind f body_kind (request_body f q))
    ∷ need 19 (is_kind f signature_kind (request_signature f q))
    ∷ need 19 (is_kind f hash_kind (message f (request_signature f q)))
    ∷ []

-- "The 12 hashes that 17; the 13's key pairs with the 17's key"
unfoldable pub proof_tests : File → ℕ → ℕ → List Test
proof_tests f q key =
    need 20 (eqb (hashed_term f (message f (request_signature f q))) (request_body f q))
    ∷ need 20 (paired f key (signing_key f (request_signature f q)))
    ∷ []

-- how many of the first n parties know a term
unfoldable pub knowers : Knowledge → ℕ → ℕ → ℕ
knowers known t zero = 0
knowers known t (suc p) = knowers known t p + cond (known p t) 1 0

-- "The number is known to that desk and to exactly one party in all, and unused"
unfoldable pub number_tests : State → ℕ → ℕ → List Test
number_tests s desk number =
    need 24 (s.knows desk number)
    ∷ need 24 (eqb (knowers s.knows number party_limit) 1)
    ∷ need 24 (not (eqb (s.mark number) number_used))
    ∷ []

-- The IAK, the EK certificate and the EK of a request for an IAK certificate.
unfoldable pub iak_of : File → ℕ → ℕ
iak_of f q = idevid_key f (request_body f q)

unfoldable pub ek_certificate_of : File → ℕ → ℕ
ek_certificate_of f q = idevid_certificate f (request_body f q)

unfoldable pub ek_of : File → ℕ → ℕ
ek_of f q = certified_key f (ek_certificate_of f q)

-- 3E (OEM desk p, request q, credential r)
unfoldable pub challenge_tests : File → State → ℕ → ℕ → ℕ → List Test
challenge_tests f s p q r =
    (need 13 (is_role f oem_desk p) ∷ need 14 (s.knows p q) ∷ [])
    ++ (form_tests f idevid_request_kind q
    ++ ((need 19 (is_device_subject (subject f (request_body f q))) ∷ [])
    ++ (proof_tests f q (iak_of f q)
    ++ ((need 21 (is_tpm_subject (subject f (ek_certificate_of f q)))
    ∷ need 21 (signs_for_role f tpm_maker (signer f (ek_certificate_of f q)))
    ∷ need 23 (same_attributes (attributes f (iak_of f q)) iak_attributes)
    ∷ need 23 (same_attributes (attributes f (ek_of f q)) ek_attributes)
    ∷ [])
    ++ (number_tests s p (credential_number f r)
    ++ (need 27 (is_kind f hash_kind (credential_term f r))
    ∷ need 27 (eqb (hashed_term f (credential_term f r)) (iak_of f q))
    ∷ need 27 (eqb (credential_key f r) (ek_of f q))
    ∷ []))))))

unfoldable pub challenge_effect : File → State → ℕ → ℕ → ℕ → State
challenge_effect f s p q r = opening (learnt f s p r) (credential_number f r) r q p

-- "r is (key, Subject, the desk's key)"
unfoldable pub called_for : File → ℕ → ℕ → ℕ → ℕ → List Test
called_for f desk r key subject_from =
    need 27 (eqb (certified_key f r) key)
    ∷ need 27 (same_subject (subject f r) (subject f subject_from))
    ∷ need 27 (signs_for f desk (signer f r))
    ∷ []

-- the EK at the end of an entry's path
unfoldable pub end_ek : File → List Entry → Entry → ℕ
end_ek f ledger e = certified_key f (end_of ledger e.depth e.certificate)

-- "every ledger entry with its Subject has a path that ends at the same EK key" (request 3 of document 02): each of some entries of the ledger
unfoldable pub all_end_at : File → List Entry → Subject → ℕ → List Entry → Bool
all_end_at f ledger x ek [] = true
all_end_at f ledger x ek (e ∷ es) = (not (same_subject (subject f e.certificate) x) || eqb (end_ek f ledger e) ek) && all_end_at f ledger x ek es

-- 3F (OEM desk p, returning party q, credential c, certificate r)
unfoldable pub issue_iak_tests : File → State → ℕ → ℕ → ℕ → ℕ → List Test
issue_iak_tests f s p q c r =
    (need 13 (is_role f oem_desk p)
    ∷ need 25 (eqb (s.mark c) credential_open)
    ∷ need 25 (eqb (s.desk c) p)
    ∷ need 26 (is_role f device q)
    ∷ need 26 (s.knows q (credential_number f c))
    ∷ [])
    ++ (called_for f p r (iak_of f (s.request c)) (request_body f (s.request c))
    ++ (need 28 (not (listed s.ledger r)) ∷ need 31 (all_end_at f s.ledger (subject f r) (ek_of f (s.request c)) s.ledger) ∷ []))

unfoldable pub issue_iak_effect : File → State → ℕ → ℕ → ℕ → ℕ → State
issue_iak_effect f s p q c r = entered (closing (learnt f s p r) c) (record { certificate = r; parent = ek_certificate_of f (s.request c); depth = 1 })

-- The attest's signature, the new key (of a 40: the LAK) and the parent certificate of an 18 request.
unfoldable pub attest_signature_of : File → ℕ → ℕ
attest_signature_of f q = ldevid_message f (request_body f q)

unfoldable pub new_key_of : File → ℕ → ℕ
new_key_of f q = attested_key f (message f (attest_signature_of f q))

unfoldable pub parent_certificate_of : File → ℕ → ℕ
parent_certificate_of f q = ldevid_certificate f (request_body f q)

-- 40, 41, 42 (desk p, request q, certificate r): what differs is the family. That the parent "is in the ledger" is no test: whatever
-- commands came before, it is wherever the tests up to 21 pass (request 5 of document 02).
unfoldable pub issue_tests : File → State → Family → ℕ → ℕ → ℕ → List Test
issue_tests f s family p q r =
    (need 13 (is_role f (signing_role family) p) ∷ need 14 (s.knows p q) ∷ [])
    ++ (form_tests f ldevid_request_kind q
    ++ ((need 19 (is_kind f signature_kind (attest_signature_of f q))
    ∷ need 19 (is_kind f attest_kind (message f (attest_signature_of f q)))
    ∷ [])
    ++ (proof_tests f q (new_key_of f q)
    ++ ((need 20 (paired f (certified_key f (parent_certificate_of f q)) (signing_key f (attest_signature_of f q)))
    ∷ need 21 (signs_for_some f family.signers (signer f (parent_certificate_of f q)))
    ∷ need 23 (same_attributes (attributes f (new_key_of f q)) family.key)
    ∷ need 23 (same_attributes (attributes f (certified_key f (parent_certificate_of f q))) family.parent)
    ∷ [])
    ++ (called_for f p r (new_key_of f q) (parent_certificate_of f q)
    ++ (need 28 (not (listed s.ledger r))
    ∷ need 29 (leb (depth_of s.ledger (parent_certificate_of f q) + 1) depth_limit)
    ∷ []))))))

unfoldable pub issue_effect : File → State → ℕ → ℕ → ℕ → State
issue_effect f s p q r =
    entered (learnt f s p r)
    (record { certificate = r; parent = parent_certificate_of f q; depth = depth_of s.ledger (parent_certificate_of f q) + 1 })

-- 43 (OEM desk p, returning party q, pairs; request 4 of document 02): "Each pair is judged by the rules of 3F, as if the pairs before it had
-- been issued", up to the first that fails
unfoldable pub pair_tests : File → State → ℕ → ℕ → List IakPair → List Test
pair_tests f s p q [] = []
pair_tests f s p q (x ∷ xs) =
    let tests = issue_iak_tests f s p q x.credential x.certificate in
    tests ++ cond (eqb (refusal_of tests) 0) (pair_tests f (issue_iak_effect f s p q x.credential x.certificate) p q xs) []

unfoldable pub certificates_of : List IakPair → List ℕ
certificates_of [] = []
certificates_of (x ∷ xs) = x.certificate ∷ certificates_of xs

unfoldable pub is_among : ℕ → List ℕ → Bool
is_among t [] = false
is_among t (u ∷ us) = eqb t u || is_among t us

-- two are alike: no two terms of a file are (9), so that they are one term
unfoldable pub any_twice : List ℕ → Bool
any_twice [] = false
any_twice (t ∷ ts) = is_among t ts || any_twice ts

unfoldable pub issue_iaks_tests : File → State → ℕ → ℕ → List IakPair → List Test
issue_iaks_tests f s p q xs =
    need 13 (is_role f oem_desk p)
    ∷ need 32 (not (eqb (length xs) 0))
    ∷ need 32 (not (any_twice (certificates_of xs)))
    ∷ pair_tests f s p q xs

-- "All are issued in order"
unfoldable pub issue_iaks_effect : File → State → ℕ → ℕ → List IakPair → State
issue_iaks_effect f s p q [] = s
issue_iaks_effect f s p q (x ∷ xs) = issue_iaks_effect f (issue_iak_effect f s p q x.credential x.certificate) p q xs
