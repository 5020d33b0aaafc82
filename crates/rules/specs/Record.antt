-- Records (document 01, "The scenario file"): kinds, sections, the fields of each kind's body, and how a file is cut into records.
use Rattle.std.specs.Prelude.{Bool, true, false, cond, ◌&&◌, List, [], ◌∷◌, ℕ, zero, suc, ◌+◌, ◌*◌, ◌-◌, eqb, ltb, leb, get_or, length, take, drop, replicate}
use Rattle.rules.specs.declared.Field.{Field}
use Rattle.rules.specs.declared.Field.TheVariants.{RoleField, IdentifierField, AttributesField, SubjectField, PartyField, AnyTerm, TermOf, SignedAttest, IakPairField, RegisterField, HashedPair, SignedQuote}
use Rattle.rules.specs.Limits.{pair_count, pair_width}
use Rattle.rules.specs.Term.{public_key_kind, private_key_kind, hash_kind, signature_kind, credential_kind, number_kind, idevid_request_kind, ldevid_request_kind, certificate_kind, pair_kind}

-- the bytes of a field
unfoldable pub width : Field → ℕ
width RoleField = 1
width IdentifierField = 2
width AttributesField = 1
width SubjectField = 3
width PartyField = 1
width AnyTerm = 2
width (TermOf k) = 2
width SignedAttest = 2
width IakPairField = pair_width
width RegisterField = 1
width HashedPair = 2
width SignedQuote = 2

unfoldable pub widths : List Field → ℕ
widths [] = 0
widths (f ∷ fs) = width f + widths fs

-- sections in their order; 0 is no section
abbrev pub party_section : ℕ
party_section = 1

abbrev pub term_section : ℕ
term_section = 2

abbrev pub setup_section : ℕ
setup_section = 3

abbrev pub command_section : ℕ
command_section = 4

-- the last kind of the last section; the kinds from 00 to it
abbrev pub last_kind : ℕ
last_kind = 0x45

abbrev pub kind_count : ℕ
kind_count = last_kind + 1

-- the section of a kind: 01, 10 to 1C, 20 to 22, 30 to 45
unfoldable pub section_of : ℕ → ℕ
section_of k =
    cond (eqb k 0x01) party_section
    (cond (leb 0x10 k && leb k 0x1C) term_section
    (cond (leb 0x20 k && leb k 0x22) setup_section
    (cond (leb 0x30 k && leb k last_kind) command_section
    0)))

-- 10 to 1C
term_rows : List (List Field)
term_rows =
    (IdentifierField ∷ AttributesField ∷ [])
    ∷ (IdentifierField ∷ AttributesField ∷ [])
    ∷ (AnyTerm ∷ [])
    ∷ (AnyTerm ∷ TermOf private_key_kind ∷ [])
    ∷ (TermOf public_key_kind ∷ [])
    ∷ (AnyTerm ∷ TermOf number_kind ∷ TermOf public_key_kind ∷ [])
    ∷ (IdentifierField ∷ [])
    ∷ (SubjectField ∷ TermOf certificate_kind ∷ TermOf public_key_kind ∷ [])
    ∷ (AnyTerm ∷ TermOf certificate_kind ∷ [])
    ∷ (TermOf public_key_kind ∷ SubjectField ∷ TermOf private_key_kind ∷ [])
    ∷ (AnyTerm ∷ AnyTerm ∷ [])
    ∷ (RegisterField ∷ [])
    ∷ (RegisterField ∷ AnyTerm ∷ TermOf number_kind ∷ [])
    ∷ []

-- 20 to 22
setup_rows : List (List Field)
setup_rows = (PartyField ∷ AnyTerm ∷ []) ∷ (PartyField ∷ TermOf private_key_kind ∷ []) ∷ (PartyField ∷ TermOf private_key_kind ∷ []) ∷ []

-- 30 to 45
command_rows : List (List Field)
command_rows =
    (PartyField ∷ TermOf hash_kind ∷ [])
    ∷ (PartyField ∷ TermOf signature_kind ∷ [])
    ∷ (PartyField ∷ SignedAttest ∷ [])
    ∷ (PartyField ∷ TermOf credential_kind ∷ [])
    ∷ (PartyField ∷ TermOf credential_kind ∷ [])
    ∷ (PartyField ∷ TermOf idevid_request_kind ∷ [])
    ∷ (PartyField ∷ TermOf ldevid_request_kind ∷ [])
    ∷ (PartyField ∷ TermOf pair_kind ∷ [])
    ∷ (PartyField ∷ TermOf hash_kind ∷ AnyTerm ∷ [])
    ∷ (PartyField ∷ TermOf signature_kind ∷ TermOf public_key_kind ∷ [])
    ∷ (PartyField ∷ TermOf certificate_kind ∷ TermOf public_key_kind ∷ [])
    ∷ (PartyField ∷ TermOf public_key_kind ∷ AttributesField ∷ [])
    ∷ (PartyField ∷ PartyField ∷ AnyTerm ∷ [])
    ∷ (PartyField ∷ TermOf certificate_kind ∷ [])
    ∷ (PartyField ∷ AnyTerm ∷ TermOf credential_kind ∷ [])
    ∷ (PartyField ∷ PartyField ∷ TermOf credential_kind ∷ TermOf certificate_kind ∷ [])
    ∷ (PartyField ∷ AnyTerm ∷ TermOf certificate_kind ∷ [])
    ∷ (PartyField ∷ AnyTerm ∷ TermOf certificate_kind ∷ [])
    ∷ (PartyField ∷ AnyTerm ∷ TermOf certificate_kind ∷ [])
    ∷ (PartyField ∷ PartyField ∷ replicate pair_count IakPairField)
    ∷ (PartyField ∷ RegisterField ∷ HashedPair ∷ [])
    ∷ (PartyField ∷ SignedQuote ∷ [])
    ∷ []

-- the fields of a kind's body
unfoldable pub fields_of : ℕ → List Field
unfolding term_rows setup_rows command_rows
fields_of k =
    cond (eqb (section_of k) party_section) (RoleField ∷ [])
    (cond (eqb (section_of k) term_section) (get_or term_rows (k - 0x10) [])
    (cond (eqb (section_of k) setup_section) (get_or setup_rows (k - 0x20) [])
    (cond (eqb (section_of k) command_section) (get_or command_rows (k - 0x30) [])
    [])))

-- "the kind byte alone decides how long the body is"
unfoldable pub body_length : ℕ → ℕ
body_length k = widths (fields_of k)

-- two bytes, high byte first
unfoldable pub word : List ℕ → ℕ → ℕ
word bs i = get_or bs i 0 * 256 + get_or bs (i + 1) 0

-- A piece of the file: a whole record with its place, kind and body, or what ends the file inside a record, with its place.
pub data Piece : Type 0 where
  whole : ℕ → ℕ → List ℕ → Piece
  fault : ℕ → ℕ → Piece

unfoldable pub cut : Bool → Bool → ℕ → ℕ → List ℕ → List Piece → List Piece
cut false enough at k body more = fault 3 at ∷ []
cut true false at k body more = fault 4 at ∷ []
cut true true at k body more = whole at k body ∷ more

-- the pieces of the bytes that begin at a place; the first number bounds how many
unfoldable pub pieces : ℕ → ℕ → List ℕ → List Piece
pieces zero at bs = []
pieces (suc n) at [] = []
pieces (suc n) at (k ∷ bs) =
    cut (ltb 0 (section_of k)) (eqb (length (take (body_length k) bs)) (body_length k)) at k (take (body_length k) bs)
    (pieces n (at + 1 + body_length k) (drop (body_length k) bs))
