-- What a scenario file declares, and what its terms name.
use Rattle.std.specs.Prelude.{Bool, false, ◌&&◌, ◌||◌, not, List, [], ◌∷◌, ℕ, suc, eqb, get_or}
use Rattle.rules.specs.declared.Attributes.{Attributes}
use Rattle.rules.specs.declared.Family.{Family}
use Rattle.rules.specs.declared.Signers.{Signers}
use Rattle.rules.specs.declared.Subject.{Subject}
use Rattle.rules.specs.declared.Term.{Term}
use Rattle.rules.specs.declared.Term.TheVariants.{Hash}
use Rattle.rules.specs.Limits.{role_count, tpm_maker, oem_desk, owner_desk}
use Rattle.rules.specs.Term.{kind_of, fields_in, subject_of, attributes_of, key_pair, parts_of, names_of}

-- A set-up record: 20 (party, t), 21 (party, private key), 22 (party, private key).
pub data Setup : Type 0 where
  learns holds signs_with : ℕ → ℕ → Setup

-- A pair of a 43: a credential, and the certificate to issue for it.
pub record IakPair : Type 0 where
  pub credential : ℕ
  pub certificate : ℕ

-- A command, 30 to 45, with its fields in the order of its body; 40, 41 and 42 are one with the family of the
-- certificate. The pairs of a 43 are those that are not empty.
pub data Command : Type 0 where
  hash sign certify make_credential activate_credential make_idevid_request make_ldevid_request make_pair : ℕ → ℕ → Command
  check_hash check_signature check_certificate check_attributes send : ℕ → ℕ → ℕ → Command
  self_issue : ℕ → ℕ → Command
  challenge : ℕ → ℕ → ℕ → Command
  issue_iak : ℕ → ℕ → ℕ → ℕ → Command
  issue : Family → ℕ → ℕ → ℕ → Command
  issue_iaks : ℕ → ℕ → List IakPair → Command
  extend : ℕ → ℕ → ℕ → Command
  quote : ℕ → ℕ → Command

-- What the records so far declare. Section: that of the last record. Set-up records and commands: the latest first.
pub record File : Type 0 where
  pub section : ℕ
  pub roles : List ℕ
  pub terms : List Term
  pub places : List ℕ
  pub setup : List Setup
  pub commands : List Command

-- the role of a party; no role where it is not declared
unfoldable pub role_of : File → ℕ → ℕ
role_of f p = get_or f.roles p role_count

unfoldable pub is_role : File → ℕ → ℕ → Bool
is_role f role p = eqb (role_of f p) role

-- the term of a number; one that names nothing known where it is not declared
unfoldable pub term : File → ℕ → Term
term f t = get_or f.terms t (Hash 0)

unfoldable pub kind : File → ℕ → ℕ
kind f t = kind_of (term f t)

unfoldable pub is_kind : File → ℕ → ℕ → Bool
is_kind f k t = eqb (kind f t) k

unfoldable pub parts : File → ℕ → List ℕ
parts f t = parts_of (term f t)

unfoldable pub names : File → ℕ → List ℕ
names f t = names_of (term f t)

unfoldable pub field : File → ℕ → ℕ → ℕ
field f t i = get_or (fields_in (term f t)) i 0

-- What the fields of a term name, by its kind.
-- 12: what it hashes
unfoldable pub hashed_term : File → ℕ → ℕ
hashed_term f t = field f t 0

-- 13: its message and the private key that signed it
unfoldable pub message : File → ℕ → ℕ
message f t = field f t 0

unfoldable pub signing_key : File → ℕ → ℕ
signing_key f t = field f t 1

-- 14: the attested public key
unfoldable pub attested_key : File → ℕ → ℕ
attested_key f t = field f t 0

-- 15: its first term, its number and its public key
unfoldable pub credential_term : File → ℕ → ℕ
credential_term f t = field f t 0

unfoldable pub credential_number : File → ℕ → ℕ
credential_number f t = field f t 1

unfoldable pub credential_key : File → ℕ → ℕ
credential_key f t = field f t 2

-- 17: after its Subject the certificate and the public key
unfoldable pub idevid_certificate : File → ℕ → ℕ
idevid_certificate f t = field f t 2

unfoldable pub idevid_key : File → ℕ → ℕ
idevid_key f t = field f t 3

-- 18: its message and the certificate
unfoldable pub ldevid_message : File → ℕ → ℕ
ldevid_message f t = field f t 0

unfoldable pub ldevid_certificate : File → ℕ → ℕ
ldevid_certificate f t = field f t 1

-- 19: the public key that it certifies and, after its Subject, the signer's private key
unfoldable pub certified_key : File → ℕ → ℕ
certified_key f t = field f t 0

unfoldable pub signer : File → ℕ → ℕ
signer f t = field f t 3

-- 1A: its two terms
unfoldable pub left_of : File → ℕ → ℕ
left_of f t = field f t 0

unfoldable pub right_of : File → ℕ → ℕ
right_of f t = field f t 1

-- 1B: its register; 1C: its register, its value and its number
unfoldable pub register_of : File → ℕ → ℕ
register_of f t = field f t 0

unfoldable pub quoted_value : File → ℕ → ℕ
quoted_value f t = field f t 1

unfoldable pub quote_number : File → ℕ → ℕ
quote_number f t = field f t 2

unfoldable pub subject : File → ℕ → Subject
subject f t = subject_of (term f t)

unfoldable pub attributes : File → ℕ → Attributes
attributes f t = attributes_of (term f t)

-- a public and a private key, by number, are a pair
unfoldable pub paired : File → ℕ → ℕ → Bool
paired f k j = key_pair (term f k) (term f j)

-- some term, taken with its number, passes a test; the number is that of the list's first term
unfoldable pub some_term : (ℕ → Term → Bool) → List Term → ℕ → Bool
some_term test [] i = false
some_term test (t ∷ ts) i = test i t || some_term test ts (suc i)

-- the private half of the public key k is among the terms that pass the test
unfoldable pub half_in : File → (ℕ → Bool) → ℕ → Bool
half_in f test k = some_term (λ j t. key_pair (term f k) t && test j) f.terms 0

-- some set-up record passes a test
unfoldable pub some_setup : (Setup → Bool) → List Setup → Bool
some_setup test [] = false
some_setup test (x ∷ xs) = test x || some_setup test xs

unfoldable pub is_hold : ℕ → ℕ → Setup → Bool
is_hold p k (learns q t) = false
is_hold p k (holds q t) = eqb q p && eqb t k
is_hold p k (signs_with q t) = false

-- another party's 21 of the key
unfoldable pub is_other_hold : ℕ → ℕ → Setup → Bool
is_other_hold p k (learns q t) = false
is_other_hold p k (holds q t) = not (eqb q p) && eqb t k
is_other_hold p k (signs_with q t) = false

unfoldable pub is_signing_key : ℕ → ℕ → Setup → Bool
is_signing_key p k (learns q t) = false
is_signing_key p k (holds q t) = false
is_signing_key p k (signs_with q t) = eqb q p && eqb t k

-- a 22 of the party
unfoldable pub is_signer : ℕ → Setup → Bool
is_signer p (learns q t) = false
is_signer p (holds q t) = false
is_signer p (signs_with q t) = eqb q p

-- a 22 that gives the key to a party of a role
unfoldable pub is_signing_key_for : File → ℕ → ℕ → Setup → Bool
is_signing_key_for f role k (learns q t) = false
is_signing_key_for f role k (holds q t) = false
is_signing_key_for f role k (signs_with q t) = is_role f role q && eqb t k

-- a 21 gave the key to the party's TPM
unfoldable pub holds_key : File → ℕ → ℕ → Bool
holds_key f p k = some_setup (is_hold p k) f.setup

-- a 22 made the key the party's signing key
unfoldable pub signs_for : File → ℕ → ℕ → Bool
signs_for f p k = some_setup (is_signing_key p k) f.setup

-- the key is the signing key of a party of the role
unfoldable pub signs_for_role : File → ℕ → ℕ → Bool
signs_for_role f role k = some_setup (is_signing_key_for f role k) f.setup

-- the key is that of one who may sign
unfoldable pub signs_for_some : File → Signers → ℕ → Bool
signs_for_some f who k =
    (who.maker && signs_for_role f tpm_maker k)
    || ((who.oem && signs_for_role f oem_desk k)
    || (who.owner && signs_for_role f owner_desk k))
