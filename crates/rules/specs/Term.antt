-- Terms (document 01, "Terms"): kinds, fields, when two are alike, pairs of keys, parts.
use Rattle.std.specs.Prelude.{Bool, true, false, ◌&&◌, ◌||◌, List, [], ◌∷◌, ℕ, eqb}
use Rattle.rules.specs.declared.Attributes.{Attributes}
use Rattle.rules.specs.declared.Subject.{Subject}
use Rattle.rules.specs.declared.Subject.TheVariants.{Tpm, Device}
use Rattle.rules.specs.declared.Term.{Term}
use Rattle.rules.specs.declared.Term.TheVariants.{PublicKey, PrivateKey, Hash, Signature, Attest, Credential, Number, IdevidRequest, LdevidRequest, Certificate, Pair, Register, Quote}
use Rattle.rules.specs.Attributes.{no_attributes}

-- kinds of terms
abbrev pub public_key_kind : ℕ
public_key_kind = 0x10

abbrev pub private_key_kind : ℕ
private_key_kind = 0x11

abbrev pub hash_kind : ℕ
hash_kind = 0x12

abbrev pub signature_kind : ℕ
signature_kind = 0x13

abbrev pub attest_kind : ℕ
attest_kind = 0x14

abbrev pub credential_kind : ℕ
credential_kind = 0x15

abbrev pub number_kind : ℕ
number_kind = 0x16

abbrev pub idevid_request_kind : ℕ
idevid_request_kind = 0x17

abbrev pub ldevid_request_kind : ℕ
ldevid_request_kind = 0x18

abbrev pub certificate_kind : ℕ
certificate_kind = 0x19

abbrev pub pair_kind : ℕ
pair_kind = 0x1A

abbrev pub register_kind : ℕ
register_kind = 0x1B

abbrev pub quote_kind : ℕ
quote_kind = 0x1C

unfoldable pub kind_of : Term → ℕ
kind_of (PublicKey id a) = public_key_kind
kind_of (PrivateKey id a) = private_key_kind
kind_of (Hash t) = hash_kind
kind_of (Signature t k) = signature_kind
kind_of (Attest k) = attest_kind
kind_of (Credential t n k) = credential_kind
kind_of (Number id) = number_kind
kind_of (IdevidRequest s c k) = idevid_request_kind
kind_of (LdevidRequest t c) = ldevid_request_kind
kind_of (Certificate k s p) = certificate_kind
kind_of (Pair t u) = pair_kind
kind_of (Register i) = register_kind
kind_of (Quote i t n) = quote_kind

-- "A Subject is one of two things, a TPM or a device: a byte 0 or 1, then a two-byte number."
unfoldable pub subject_fields : Subject → List ℕ → List ℕ
subject_fields (Tpm n) more = 0 ∷ n ∷ more
subject_fields (Device n) more = 1 ∷ n ∷ more

-- the fields of a term in the order of its body
unfoldable pub fields_in : Term → List ℕ
fields_in (PublicKey id a) = id ∷ a.bits ∷ []
fields_in (PrivateKey id a) = id ∷ a.bits ∷ []
fields_in (Hash t) = t ∷ []
fields_in (Signature t k) = t ∷ k ∷ []
fields_in (Attest k) = k ∷ []
fields_in (Credential t n k) = t ∷ n ∷ k ∷ []
fields_in (Number id) = id ∷ []
fields_in (IdevidRequest s c k) = subject_fields s (c ∷ k ∷ [])
fields_in (LdevidRequest t c) = t ∷ c ∷ []
fields_in (Certificate k s p) = k ∷ subject_fields s (p ∷ [])
fields_in (Pair t u) = t ∷ u ∷ []
fields_in (Register i) = i ∷ []
fields_in (Quote i t n) = i ∷ t ∷ n ∷ []

-- the Subject of a request or a certificate
unfoldable pub subject_of : Term → Subject
subject_of (PublicKey id a) = Tpm 0
subject_of (PrivateKey id a) = Tpm 0
subject_of (Hash t) = Tpm 0
subject_of (Signature t k) = Tpm 0
subject_of (Attest k) = Tpm 0
subject_of (Credential t n k) = Tpm 0
subject_of (Number id) = Tpm 0
subject_of (IdevidRequest s c k) = s
subject_of (LdevidRequest t c) = Tpm 0
subject_of (Certificate k s p) = s
subject_of (Pair t u) = Tpm 0
subject_of (Register i) = Tpm 0
subject_of (Quote i t n) = Tpm 0

-- the attributes of a key
unfoldable pub attributes_of : Term → Attributes
attributes_of (PublicKey id a) = a
attributes_of (PrivateKey id a) = a
attributes_of (Hash t) = no_attributes
attributes_of (Signature t k) = no_attributes
attributes_of (Attest k) = no_attributes
attributes_of (Credential t n k) = no_attributes
attributes_of (Number id) = no_attributes
attributes_of (IdevidRequest s c k) = no_attributes
attributes_of (LdevidRequest t c) = no_attributes
attributes_of (Certificate k s p) = no_attributes
attributes_of (Pair t u) = no_attributes
attributes_of (Register i) = no_attributes
attributes_of (Quote i t n) = no_attributes

unfoldable pub same_subject : Subject → Subject → Bool
same_subject (Tpm m) (Tpm n) = eqb m n
same_subject (Tpm m) (Device n) = false
same_subject (Device m) (Tpm n) = false
same_subject (Device m) (Device n) = eqb m n

unfoldable pub is_device_subject : Subject → Bool
is_device_subject (Tpm n) = false
is_device_subject (Device n) = true

unfoldable pub is_tpm_subject : Subject → Bool
is_tpm_subject (Tpm n) = true
is_tpm_subject (Device n) = false

unfoldable pub same_list : List ℕ → List ℕ → Bool
same_list [] [] = true
same_list [] (y ∷ ys) = false
same_list (x ∷ xs) [] = false
same_list (x ∷ xs) (y ∷ ys) = eqb x y && same_list xs ys

-- alike: the same kind and the same fields
unfoldable pub alike : Term → Term → Bool
alike a b = eqb (kind_of a) (kind_of b) && same_list (fields_in a) (fields_in b)

unfoldable pub any_alike : Term → List Term → Bool
any_alike t [] = false
any_alike t (u ∷ us) = alike t u || any_alike t us

-- "Keys are a pair if id and attributes both agree": a public key, then a private one.
unfoldable pub key_pair : Term → Term → Bool
key_pair a b = eqb (kind_of a) public_key_kind && eqb (kind_of b) private_key_kind && same_list (fields_in a) (fields_in b)

-- "Parts: 13 has its message; 14 and 19 the public key; 17 certificate and key; 18 and 1A both; others none."; a 1C has
-- value and number (request 6 of document 02)
unfoldable pub parts_of : Term → List ℕ
parts_of (PublicKey id a) = []
parts_of (PrivateKey id a) = []
parts_of (Hash t) = []
parts_of (Signature t k) = t ∷ []
parts_of (Attest k) = k ∷ []
parts_of (Credential t n k) = []
parts_of (Number id) = []
parts_of (IdevidRequest s c k) = c ∷ k ∷ []
parts_of (LdevidRequest t c) = t ∷ c ∷ []
parts_of (Certificate k s p) = k ∷ []
parts_of (Pair t u) = t ∷ u ∷ []
parts_of (Register i) = []
parts_of (Quote i t n) = t ∷ n ∷ []

-- the terms that a term names, in the order of its body
unfoldable pub names_of : Term → List ℕ
names_of (PublicKey id a) = []
names_of (PrivateKey id a) = []
names_of (Hash t) = t ∷ []
names_of (Signature t k) = t ∷ k ∷ []
names_of (Attest k) = k ∷ []
names_of (Credential t n k) = t ∷ n ∷ k ∷ []
names_of (Number id) = []
names_of (IdevidRequest s c k) = c ∷ k ∷ []
names_of (LdevidRequest t c) = t ∷ c ∷ []
names_of (Certificate k s p) = k ∷ p ∷ []
names_of (Pair t u) = t ∷ u ∷ []
names_of (Register i) = []
names_of (Quote i t n) = t ∷ n ∷ []
