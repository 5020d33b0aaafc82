-- The bytes of a scenario file's records, each by a function of its fields (document 01, "The scenario file" to "Checks and listing").
-- Attributes: 0A hex a desk's or TPM maker's key, an IDevID or LDevID; 0B hex an IAK or LAK; 0D hex an EK.
use mathlib.Core.List.{List, [], ◌∷◌, ◌++◌}
use Prim.Native.Nat.{ℕ, ◌/◌, ◌%◌}

abbrev pub Bytes : Type 0
Bytes = List ℕ

-- a file is its records, one after another
abbrev pub written : List Bytes → Bytes
written [] = []
written (x ∷ xs) = x ++ written xs

-- two-byte numbers, high byte first
abbrev pub words : List ℕ → Bytes
words [] = []
words (x ∷ xs) = x / 256 ∷ x % 256 ∷ words xs

-- 01 party, by role
abbrev pub a_device : Bytes
a_device = 0x01 ∷ 0 ∷ []

abbrev pub a_tpm_maker : Bytes
a_tpm_maker = 0x01 ∷ 1 ∷ []

abbrev pub an_oem_desk : Bytes
an_oem_desk = 0x01 ∷ 2 ∷ []

abbrev pub an_owner_desk : Bytes
an_owner_desk = 0x01 ∷ 3 ∷ []

-- Subjects
abbrev pub tpm : ℕ → Bytes
tpm n = 0 ∷ words (n ∷ [])

abbrev pub device : ℕ → Bytes
device n = 1 ∷ words (n ∷ [])

-- Terms, 10 to 1A.
-- id, attributes
abbrev pub public_key : ℕ → ℕ → Bytes
public_key id attributes = 0x10 ∷ (words (id ∷ []) ++ (attributes ∷ []))

-- id, attributes
abbrev pub private_key : ℕ → ℕ → Bytes
private_key id attributes = 0x11 ∷ (words (id ∷ []) ++ (attributes ∷ []))

-- content
abbrev pub hash : ℕ → Bytes
hash t = 0x12 ∷ words (t ∷ [])

-- message, private key
abbrev pub signature : ℕ → ℕ → Bytes
signature t key = 0x13 ∷ words (t ∷ key ∷ [])

-- public key
abbrev pub attest : ℕ → Bytes
attest key = 0x14 ∷ words (key ∷ [])

-- first term, number, public key
abbrev pub credential : ℕ → ℕ → ℕ → Bytes
credential t number key = 0x15 ∷ words (t ∷ number ∷ key ∷ [])

-- id
abbrev pub number : ℕ → Bytes
number id = 0x16 ∷ words (id ∷ [])

-- Subject, certificate, public key
abbrev pub idevid_request : Bytes → ℕ → ℕ → Bytes
idevid_request subject certificate key = 0x17 ∷ (subject ++ words (certificate ∷ key ∷ []))

-- message, certificate
abbrev pub ldevid_request : ℕ → ℕ → Bytes
ldevid_request t certificate = 0x18 ∷ words (t ∷ certificate ∷ [])

-- public key, Subject, signer's private key
abbrev pub certificate : ℕ → Bytes → ℕ → Bytes
certificate key subject signer = 0x19 ∷ (words (key ∷ []) ++ subject ++ words (signer ∷ []))

-- two terms
abbrev pub pair : ℕ → ℕ → Bytes
pair t u = 0x1A ∷ words (t ∷ u ∷ [])

-- register
abbrev pub register : ℕ → Bytes
register i = 0x1B ∷ i ∷ []

-- register, value, number
abbrev pub quote_body : ℕ → ℕ → ℕ → Bytes
quote_body i value number = 0x1C ∷ i ∷ words (value ∷ number ∷ [])

-- Set-up, 20 to 22: party, term.
abbrev pub learns : ℕ → ℕ → Bytes
learns p t = 0x20 ∷ p ∷ words (t ∷ [])

abbrev pub holds : ℕ → ℕ → Bytes
holds p key = 0x21 ∷ p ∷ words (key ∷ [])

abbrev pub signs_with : ℕ → ℕ → Bytes
signs_with p key = 0x22 ∷ p ∷ words (key ∷ [])

-- Device commands, 30 to 37 and 3D: party, result.
abbrev pub make_hash : ℕ → ℕ → Bytes
make_hash p r = 0x30 ∷ p ∷ words (r ∷ [])

abbrev pub sign : ℕ → ℕ → Bytes
sign p r = 0x31 ∷ p ∷ words (r ∷ [])

abbrev pub certify : ℕ → ℕ → Bytes
certify p r = 0x32 ∷ p ∷ words (r ∷ [])

abbrev pub make_credential : ℕ → ℕ → Bytes
make_credential p r = 0x33 ∷ p ∷ words (r ∷ [])

abbrev pub activate_credential : ℕ → ℕ → Bytes
activate_credential p r = 0x34 ∷ p ∷ words (r ∷ [])

abbrev pub make_idevid_request : ℕ → ℕ → Bytes
make_idevid_request p r = 0x35 ∷ p ∷ words (r ∷ [])

abbrev pub make_ldevid_request : ℕ → ℕ → Bytes
make_ldevid_request p r = 0x36 ∷ p ∷ words (r ∷ [])

abbrev pub make_pair : ℕ → ℕ → Bytes
make_pair p r = 0x37 ∷ p ∷ words (r ∷ [])

-- 3C: party, receiving party, term
abbrev pub send : ℕ → ℕ → ℕ → Bytes
send p receiver t = 0x3C ∷ p ∷ receiver ∷ words (t ∷ [])

-- 3E: OEM desk, request, credential
abbrev pub challenge : ℕ → ℕ → ℕ → Bytes
challenge desk request r = 0x3E ∷ desk ∷ words (request ∷ r ∷ [])

-- 3F: OEM desk, returning party, credential, certificate
abbrev pub issue_iak : ℕ → ℕ → ℕ → ℕ → Bytes
issue_iak desk returning opened r = 0x3F ∷ desk ∷ returning ∷ words (opened ∷ r ∷ [])

-- 40, 41, 42: desk, request, certificate
abbrev pub issue : ℕ → ℕ → ℕ → ℕ → Bytes
issue kind desk request r = kind ∷ desk ∷ words (request ∷ r ∷ [])

-- 43: OEM desk, returning party, four pairs of a credential and a certificate, one after another
abbrev pub issue_iaks : ℕ → ℕ → List ℕ → Bytes
issue_iaks desk returning pairs = 0x43 ∷ desk ∷ returning ∷ words pairs

-- an empty pair
abbrev pub no_pair : List ℕ
no_pair = 0xFFFF ∷ 0xFFFF ∷ []

-- 44: party, register, hash
abbrev pub extend : ℕ → ℕ → ℕ → Bytes
extend p i r = 0x44 ∷ p ∷ i ∷ words (r ∷ [])

-- 45: party, signature of a quote body
abbrev pub quote : ℕ → ℕ → Bytes
quote p r = 0x45 ∷ p ∷ words (r ∷ [])
