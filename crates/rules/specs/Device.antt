-- Device commands and checks (document 01, "Device commands", "Checks and listing"): what each asks, and what it changes.
use Rattle.std.specs.Prelude.{Bool, cond, not, ◌&&◌, ◌||◌, List, [], ◌∷◌, ℕ, eqb}
use Rattle.rules.specs.Limits.{device, oem_desk, owner_desk}
use Rattle.rules.specs.Refusals.{Test, need}
use Rattle.rules.specs.Attributes as flag
use Rattle.rules.specs.Attributes.{has}
use Rattle.rules.specs.Term.{public_key_kind, hash_kind, attest_kind, credential_kind, certificate_kind, quote_kind}
use Rattle.rules.specs.File.{File, is_role, is_kind, hashed_term, message, signing_key, attested_key, credential_term, credential_number, credential_key, certified_key, signer, left_of, right_of, register_of, quoted_value, quote_number, attributes, half_in}
use Rattle.rules.specs.State.{State, learnt, ticketed}

-- "Device commands (role 0)"
unfoldable pub device_role : File → ℕ → Test
device_role f p = need 13 (is_role f device p)

-- a key, by number, has an attribute
unfoldable pub key_has : File → ℕ → ℕ → Bool
key_has f k flag = has (attributes f k) flag

-- the party's TPM holds the private half of a public key
unfoldable pub holds_half : File → State → ℕ → ℕ → Bool
holds_half f s p k = half_in f (s.table p) k

-- 30: "content known"
unfoldable pub hash_tests : File → State → ℕ → ℕ → List Test
hash_tests f s p r = device_role f p ∷ need 14 (s.knows p (hashed_term f r)) ∷ []

-- "unless the content is a 14"; "Hashing a 1C gives no ticket" (request 6 of document 02)
unfoldable pub no_ticket : File → ℕ → Bool
no_ticket f t = is_kind f attest_kind t || is_kind f quote_kind t

-- "r also enters the TPM table"
unfoldable pub hash_effect : File → State → ℕ → ℕ → State
hash_effect f s p r = cond (no_ticket f (hashed_term f r)) (learnt f s p r) (ticketed (learnt f s p r) p r)

-- 31: "key held, Sign set. Restricted: the message is a 12 in this TPM's table. Otherwise it is known."
unfoldable pub sign_tests : File → State → ℕ → ℕ → List Test
sign_tests f s p r =
    device_role f p
    ∷ need 14 (key_has f (signing_key f r) flag.restricted || s.knows p (message f r))
    ∷ need 15 (s.table p (signing_key f r))
    ∷ need 16 (key_has f (signing_key f r) flag.sign)
    ∷ need 17 (not (key_has f (signing_key f r) flag.restricted) || is_kind f hash_kind (message f r))
    ∷ need 17 (not (key_has f (signing_key f r) flag.restricted) || s.table p (message f r))
    ∷ []

-- 32: "the signing key is held, with Sign; so is the attested key's private half"
unfoldable pub certify_tests : File → State → ℕ → ℕ → List Test
certify_tests f s p r =
    device_role f p
    ∷ need 15 (s.table p (signing_key f r))
    ∷ need 15 (holds_half f s p (attested_key f (message f r)))
    ∷ need 16 (key_has f (signing_key f r) flag.sign)
    ∷ []

-- 33: "all three known"
unfoldable pub make_credential_tests : File → State → ℕ → ℕ → List Test
make_credential_tests f s p r =
    device_role f p
    ∷ need 14 (s.knows p (credential_term f r))
    ∷ need 14 (s.knows p (credential_number f r))
    ∷ need 14 (s.knows p (credential_key f r))
    ∷ []

-- 34: "r known, its key's private half held, Restricted and Decrypt; its first term is the hash of a public key whose private half is held (no such hash: 15)"
unfoldable pub activate_credential_tests : File → State → ℕ → ℕ → List Test
activate_credential_tests f s p r =
    device_role f p
    ∷ need 14 (s.knows p r)
    ∷ need 15 (holds_half f s p (credential_key f r))
    ∷ need 15 (is_kind f hash_kind (credential_term f r))
    ∷ need 15 (is_kind f public_key_kind (hashed_term f (credential_term f r)))
    ∷ need 15 (holds_half f s p (hashed_term f (credential_term f r)))
    ∷ need 16 (key_has f (credential_key f r) flag.restricted)
    ∷ need 16 (key_has f (credential_key f r) flag.decrypt)
    ∷ []

-- 35, 36, 37: "its parts known"
unfoldable pub both_known_tests : File → State → ℕ → ℕ → ℕ → List Test
both_known_tests f s p t u = device_role f p ∷ need 14 (s.knows p t) ∷ need 14 (s.knows p u) ∷ []

-- "Desks may send too, but only 10, 15, 19."
unfoldable pub may_be_sent_by_desk : File → ℕ → Bool
may_be_sent_by_desk f t = is_kind f public_key_kind t || is_kind f credential_kind t || is_kind f certificate_kind t

unfoldable pub may_send : File → ℕ → ℕ → Bool
may_send f p t = is_role f device p || ((is_role f oem_desk p || is_role f owner_desk p) && may_be_sent_by_desk f t)

-- 3C: "t known"
unfoldable pub send_tests : File → State → ℕ → ℕ → List Test
send_tests f s p t = need 13 (may_send f p t) ∷ need 14 (s.knows p t) ∷ []

-- 3D: "signer held, Sign, not Restricted; public key known"
unfoldable pub self_issue_tests : File → State → ℕ → ℕ → List Test
self_issue_tests f s p r =
    device_role f p
    ∷ need 14 (s.knows p (certified_key f r))
    ∷ need 15 (s.table p (signer f r))
    ∷ need 16 (key_has f (signer f r) flag.sign)
    ∷ need 16 (not (key_has f (signer f r) flag.restricted))
    ∷ []

-- Checks, 38 to 3B: "Role 0, 2, 3; both terms known"
unfoldable pub check_role : File → ℕ → Test
check_role f p = need 13 (is_role f device p || is_role f oem_desk p || is_role f owner_desk p)

unfoldable pub check_tests : File → State → ℕ → ℕ → ℕ → Bool → List Test
check_tests f s p t u true-check = check_role f p ∷ need 14 (s.knows p t) ∷ need 14 (s.knows p u) ∷ need 18 true-check ∷ []

-- 44 (party, register, r a 12 over a pair of old value and t; request 6 of document 02): "needs t known and teaches the
-- party nothing"
unfoldable pub extend_tests : File → State → ℕ → ℕ → ℕ → List Test
extend_tests f s p i r =
    device_role f p
    ∷ need 14 (s.knows p (right_of f (hashed_term f r)))
    ∷ need 33 (eqb (s.registers p i) (left_of f (hashed_term f r)))
    ∷ []

-- 45 (party, r a 13 over a 1C): "needs the number known, the key held, Sign and Restricted"
unfoldable pub quote_tests : File → State → ℕ → ℕ → List Test
quote_tests f s p r =
    device_role f p
    ∷ need 14 (s.knows p (quote_number f (message f r)))
    ∷ need 15 (s.table p (signing_key f r))
    ∷ need 16 (key_has f (signing_key f r) flag.sign)
    ∷ need 16 (key_has f (signing_key f r) flag.restricted)
    ∷ need 33 (eqb (s.registers p (register_of f (message f r))) (quoted_value f (message f r)))
    ∷ []
