-- Loading (document 01, "The scenario file", "Terms", "Set-up"): refusals 2 to 12, in the order that "When the desk says no" gives.
use Rattle.std.specs.Prelude.{Bool, cond, not, ◌&&◌, ◌||◌, List, [], ◌∷◌, ◌++◌, reverse, ℕ, zero, suc, ◌+◌, eqb, ltb, leb, get_or, length}
use Rattle.rules.specs.declared.Subject.{Subject}
use Rattle.rules.specs.declared.Subject.TheVariants.{Tpm, Device}
use Rattle.rules.specs.declared.Term.{Term}
use Rattle.rules.specs.declared.Term.TheVariants.{PublicKey, PrivateKey, Hash, Signature, Attest, Credential, Number, IdevidRequest, LdevidRequest, Certificate, Pair, Register, Quote}
use Rattle.rules.specs.Limits.{file_limit, party_limit, term_limit, pair_count, pair_width, empty_field, register_count, role_count, device, tpm_maker}
use Rattle.rules.specs.Attributes.{attributes_limit, fixed_tpm, has, same_attributes, desk_key_attributes}
use Rattle.rules.specs.Term.{public_key_kind, private_key_kind, hash_kind, signature_kind, attest_kind, credential_kind, number_kind, idevid_request_kind, ldevid_request_kind, certificate_kind, pair_kind, register_kind, quote_kind, any_alike, is_tpm_subject}
use Rattle.rules.specs.Families.{family_of}
use Rattle.rules.specs.declared.Field.{Field}
use Rattle.rules.specs.declared.Field.TheVariants.{RoleField, IdentifierField, AttributesField, SubjectField, PartyField, AnyTerm, TermOf, SignedAttest, IakPairField, RegisterField, HashedPair, SignedQuote}
use Rattle.rules.specs.Record.{width, fields_of, section_of, party_section, term_section, setup_section, word, Piece, whole, fault, pieces}
use Rattle.rules.specs.File.{Setup, learns, holds, signs_with, Command, hash, sign, certify, make_credential, activate_credential, make_idevid_request, make_ldevid_request, make_pair, check_hash, check_signature, check_certificate, check_attributes, send, self_issue, challenge, issue_iak, issue, issue_iaks, extend, quote, IakPair, File, is_role, is_kind, hashed_term, message, subject, attributes, signer, some_setup, is_other_hold, is_signer, holds_key, signs_for_role}

-- the first of two refusals, where 0 is none
unfoldable pub first : ℕ → ℕ → ℕ
first zero b = b
first (suc a) b = suc a

unfoldable pub refuse_unless : ℕ → Bool → ℕ
refuse_unless n ok = cond ok 0 n

unfoldable pub subject_at : List ℕ → ℕ → Subject
subject_at bs i = cond (eqb (get_or bs i 0) 0) (Tpm (word bs (i + 1))) (Device (word bs (i + 1)))

-- the term of a kind with a body
unfoldable pub term_at : ℕ → List ℕ → Term
term_at k bs =
    cond (eqb k public_key_kind) (PublicKey (word bs 0) (record { bits = get_or bs 2 0 }))
    (cond (eqb k private_key_kind) (PrivateKey (word bs 0) (record { bits = get_or bs 2 0 }))
    (cond (eqb k hash_kind) (Hash (word bs 0))
    (cond (eqb k signature_kind) (Signature (word bs 0) (word bs 2))
    (cond (eqb k attest_kind) (Attest (word bs 0))
    (cond (eqb k credential_kind) (Credential (word bs 0) (word bs 2) (word bs 4))
    (cond (eqb k number_kind) (Number (word bs 0))
    (cond (eqb k idevid_request_kind) (IdevidRequest (subject_at bs 0) (word bs 3) (word bs 5))
    (cond (eqb k ldevid_request_kind) (LdevidRequest (word bs 0) (word bs 2))
    (cond (eqb k certificate_kind) (Certificate (word bs 0) (subject_at bs 2) (word bs 5))
    (cond (eqb k pair_kind) (Pair (word bs 0) (word bs 2))
    (cond (eqb k register_kind) (Register (get_or bs 0 0))
    (Quote (get_or bs 0 0) (word bs 1) (word bs 3)))))))))))))

-- the set-up record of a kind with a body
unfoldable pub setup_at : ℕ → List ℕ → Setup
setup_at k bs =
    cond (eqb k 0x20) (learns (get_or bs 0 0) (word bs 1))
    (cond (eqb k 0x21) (holds (get_or bs 0 0) (word bs 1))
    (signs_with (get_or bs 0 0) (word bs 1)))

-- "a pair of two FFFF hex is empty": the pair at a place of a 43's body (request 4 of document 02)
unfoldable pub empty_pair : List ℕ → ℕ → Bool
empty_pair bs i = eqb (word bs i) empty_field && eqb (word bs (i + 2)) empty_field

-- n pairs from a place on, without the empty ones
unfoldable pub pairs_at : ℕ → List ℕ → ℕ → List IakPair
pairs_at zero bs i = []
pairs_at (suc n) bs i =
    let more = pairs_at n bs (i + pair_width) in
    cond (empty_pair bs i) more (record { credential = word bs i; certificate = word bs (i + 2) } ∷ more)

-- the command of a kind with a body
unfoldable pub command_at : ℕ → List ℕ → Command
command_at k bs =
    cond (eqb k 0x30) (hash (get_or bs 0 0) (word bs 1))
    (cond (eqb k 0x31) (sign (get_or bs 0 0) (word bs 1))
    (cond (eqb k 0x32) (certify (get_or bs 0 0) (word bs 1))
    (cond (eqb k 0x33) (make_credential (get_or bs 0 0) (word bs 1))
    (cond (eqb k 0x34) (activate_credential (get_or bs 0 0) (word bs 1))
    (cond (eqb k 0x35) (make_idevid_request (get_or bs 0 0) (word bs 1))
    (cond (eqb k 0x36) (make_ldevid_request (get_or bs 0 0) (word bs 1))
    (cond (eqb k 0x37) (make_pair (get_or bs 0 0) (word bs 1))
    (cond (eqb k 0x38) (check_hash (get_or bs 0 0) (word bs 1) (word bs 3))
    (cond (eqb k 0x39) (check_signature (get_or bs 0 0) (word bs 1) (word bs 3))
    (cond (eqb k 0x3A) (check_certificate (get_or bs 0 0) (word bs 1) (word bs 3))
    (cond (eqb k 0x3B) (check_attributes (get_or bs 0 0) (word bs 1) (get_or bs 3 0))
    (cond (eqb k 0x3C) (send (get_or bs 0 0) (get_or bs 1 0) (word bs 2))
    (cond (eqb k 0x3D) (self_issue (get_or bs 0 0) (word bs 1))
    (cond (eqb k 0x3E) (challenge (get_or bs 0 0) (word bs 1) (word bs 3))
    (cond (eqb k 0x3F) (issue_iak (get_or bs 0 0) (get_or bs 1 0) (word bs 2) (word bs 4))
    (cond (eqb k 0x43) (issue_iaks (get_or bs 0 0) (get_or bs 1 0) (pairs_at pair_count bs 2))
    (cond (eqb k 0x44) (extend (get_or bs 0 0) (get_or bs 1 0) (word bs 2))
    (cond (eqb k 0x45) (quote (get_or bs 0 0) (word bs 1))
    (issue (family_of k) (get_or bs 0 0) (word bs 1) (word bs 3))))))))))))))))))))

-- 5: a section goes before one that has begun
unfoldable pub section_fault : File → ℕ → ℕ
section_fault f k = refuse_unless 5 (leb f.section (section_of k))

-- 6: one party or term too many
unfoldable pub count_fault : File → ℕ → ℕ
count_fault f k =
    cond (eqb (section_of k) party_section) (refuse_unless 6 (ltb (length f.roles) party_limit))
    (cond (eqb (section_of k) term_section) (refuse_unless 6 (ltb (length f.terms) term_limit))
    0)

-- 7: a term number that is not declared; of a term's own fields, one that is not lower
unfoldable pub declared_fault : File → ℕ → ℕ
declared_fault f t = refuse_unless 7 (ltb t (length f.terms))

-- 7, 8: a term number that is not declared, or not of a kind
abbrev pub kind_fault : File → ℕ → ℕ → ℕ
kind_fault f k t = first (declared_fault f t) (refuse_unless 8 (is_kind f k t))

-- a term of one kind over a term of another
abbrev pub over_fault : File → ℕ → ℕ → ℕ → ℕ → ℕ
over_fault f outer t inner u = first (declared_fault f t) (first (refuse_unless 8 (is_kind f outer t)) (refuse_unless 8 (is_kind f inner u)))

-- 7, 8: what is wrong with a field at a place of a body
unfoldable pub field_fault : File → Field → ℕ → List ℕ → ℕ
field_fault f RoleField i bs = refuse_unless 7 (ltb (get_or bs i 0) role_count)
field_fault f IdentifierField i bs = 0
field_fault f AttributesField i bs = refuse_unless 7 (ltb (get_or bs i 0) attributes_limit)
field_fault f SubjectField i bs = refuse_unless 7 (ltb (get_or bs i 0) 2)
field_fault f PartyField i bs = refuse_unless 7 (ltb (get_or bs i 0) (length f.roles))
field_fault f AnyTerm i bs = declared_fault f (word bs i)
field_fault f (TermOf k) i bs = kind_fault f k (word bs i)
field_fault f SignedAttest i bs = over_fault f signature_kind (word bs i) attest_kind (message f (word bs i))
field_fault f IakPairField i bs = cond (empty_pair bs i) 0 (first (kind_fault f credential_kind (word bs i)) (kind_fault f certificate_kind (word bs (i + 2))))
field_fault f RegisterField i bs = refuse_unless 7 (ltb (get_or bs i 0) register_count)
field_fault f HashedPair i bs = over_fault f hash_kind (word bs i) pair_kind (hashed_term f (word bs i))
field_fault f SignedQuote i bs = over_fault f signature_kind (word bs i) quote_kind (message f (word bs i))

-- the fields in their order
unfoldable pub fields_fault : File → List Field → ℕ → List ℕ → ℕ
fields_fault f [] i bs = 0
fields_fault f (x ∷ xs) i bs = first (field_fault f x i bs) (fields_fault f xs (i + width x) bs)

-- 9: a term alike an earlier one
unfoldable pub alike_fault : File → ℕ → List ℕ → ℕ
alike_fault f k bs = cond (eqb (section_of k) term_section) (refuse_unless 9 (not (any_alike (term_at k bs) f.terms))) 0

-- 20: "a 10, a 16, or a 19 with TPM Subject whose signer an earlier 22 gave to a TPM maker"
unfoldable pub may_learn : File → ℕ → Bool
may_learn f t =
    is_kind f public_key_kind t
    || is_kind f number_kind t
    || (is_kind f certificate_kind t && is_tpm_subject (subject f t) && signs_for_role f tpm_maker (signer f t))

-- 21: "a FixedTPM key is held by one TPM only"
unfoldable pub may_hold : File → ℕ → ℕ → Bool
may_hold f p k = not (has (attributes f k) fixed_tpm) || not (some_setup (is_other_hold p k) f.setup)

-- 22: "the signing key of a party not of role 0, one each, attributes 0A hex, already held by it"
unfoldable pub may_sign : File → ℕ → ℕ → Bool
may_sign f p k =
    not (is_role f device p)
    && not (some_setup (is_signer p) f.setup)
    && same_attributes (attributes f k) desk_key_attributes
    && holds_key f p k

-- 10, 11, 12: a set-up record that is not allowed
unfoldable pub allowed_fault : File → Setup → ℕ
allowed_fault f (learns p t) = refuse_unless 10 (may_learn f t)
allowed_fault f (holds p k) = refuse_unless 11 (may_hold f p k)
allowed_fault f (signs_with p k) = refuse_unless 12 (may_sign f p k)

unfoldable pub setup_fault : File → ℕ → List ℕ → ℕ
setup_fault f k bs = cond (eqb (section_of k) setup_section) (allowed_fault f (setup_at k bs)) 0

-- "At one record 3 to 6 go in number order, then the fields in theirs, 7 before 8 at each, then 9 to 12." (3 and 4 end the pieces.)
unfoldable pub record_fault : File → ℕ → List ℕ → ℕ
record_fault f k bs =
    first (section_fault f k)
    (first (count_fault f k)
    (first (fields_fault f (fields_of k) 0 bs)
    (first (alike_fault f k bs)
    (setup_fault f k bs))))

unfoldable pub with_party : File → ℕ → File
with_party f role = record { section = party_section; roles = f.roles ++ (role ∷ []); terms = f.terms; places = f.places; setup = f.setup; commands = f.commands }

unfoldable pub with_term : File → Term → ℕ → File
with_term f t at = record { section = term_section; roles = f.roles; terms = f.terms ++ (t ∷ []); places = f.places ++ (at ∷ []); setup = f.setup; commands = f.commands }

unfoldable pub with_setup : File → Setup → File
with_setup f x = record { section = setup_section; roles = f.roles; terms = f.terms; places = f.places; setup = x ∷ f.setup; commands = f.commands }

unfoldable pub with_command : File → ℕ → Command → File
with_command f section c = record { section = section; roles = f.roles; terms = f.terms; places = f.places; setup = f.setup; commands = c ∷ f.commands }

-- the file with one record more
unfoldable pub enter : File → ℕ → ℕ → List ℕ → File
enter f at k bs =
    cond (eqb (section_of k) party_section) (with_party f (get_or bs 0 0))
    (cond (eqb (section_of k) term_section) (with_term f (term_at k bs) at)
    (cond (eqb (section_of k) setup_section) (with_setup f (setup_at k bs))
    (with_command f (section_of k) (command_at k bs))))

-- What loading gives: the file, or the refusal with its place.
pub data Load : Type 0 where
  loaded : File → Load
  refused : ℕ → ℕ → Load

unfoldable pub settle : ℕ → ℕ → File → Load
settle zero at f = loaded f
settle (suc r) at f = refused (suc r) at

unfoldable pub step : Load → Piece → Load
step (refused r at) x = refused r at
step (loaded f) (fault r at) = refused r at
step (loaded f) (whole at k bs) = settle (record_fault f k bs) at (enter f at k bs)

unfoldable pub feed : Load → List Piece → Load
feed l [] = l
feed l (x ∷ xs) = feed (step l x) xs

unfoldable pub empty_file : File
empty_file = record { section = 0; roles = []; terms = []; places = []; setup = []; commands = [] }

unfoldable pub load : List ℕ → Load
load bs = cond (leb (length bs) file_limit) (feed (loaded empty_file) (pieces (length bs) 0 bs)) (refused 2 0)

-- the commands in file order
unfoldable pub commands_of : File → List Command
commands_of f = reverse f.commands
