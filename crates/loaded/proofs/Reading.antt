-- What a loaded file's bytes and tables say of it, as its methods answer.
--     role_read, role_room       the role of a party
--     kind_read, field_read      the kind and the fields of a term
--     key_bits, other_bits       its attributes
--     noted_request, noted_certificate   an IDevID request and a certificate, where their four fields are noted
--     request_term, certificate_term     the same of a loaded file
--     idevid_found, certificate_found    a term of the kind has its constructor
--     idevid_subject to certificate_signer     the fields of a request and of a certificate, by its constructor
--     half_read, half_declared, pair_read      the private half of a key
--     signs_read, signs_declared               the signing key of a party, which is declared
--     role_signs, none_signs     a signing key of a party of a role
--     passes_none, passes_some, some_is        the code's Option and one more than a number
-- Assumes nothing.
use Rattle.tables.specs.declared.columns.Tables.{Tables}
use mathlib.Core.Path.{◌≡◌, refl, sym, ap, ◌∙◌}
use mathlib.Core.Bool.{Bool, true, false, ◌&&◌}
use mathlib.Core.List.{List, [], ◌∷◌}
use Rattle.std.proofs.Common.{Option, None, Some}
use Rattle.std.specs.Option.{option_eq}
use Prim.Native.Nat.{ℕ, suc, ◌+◌, ◌*◌, ◌<◌, ◌≤◌}
use native.Mathlib.Omega.{arith}
use native.Mathlib.Numerals.{add-one}
use lib.Dec.{eqb}
use lib.ListN.{length, get_or}
use borrow.Author.Tests.{eqb-true, eqb-false, eq-eqb, ne_eqb}
use Rattle.rules.specs.declared.Subject.{Subject}
use Rattle.rules.specs.declared.Subject.TheVariants.{Tpm, Device}
use Rattle.rules.specs.declared.Term.{Term}
use Rattle.rules.specs.declared.Term.TheVariants.{PublicKey, PrivateKey, Hash, Signature, Attest, Credential, Number, IdevidRequest, LdevidRequest, Certificate, Pair, Register, Quote}
use Rattle.rules.specs.Limits.{party_limit, term_limit}
use Rattle.rules.specs.Term.{idevid_request_kind, certificate_kind, kind_of, fields_in, subject_fields, attributes_of, subject_of}
use Rattle.rules.specs.File.{File, is_role, role_of, is_kind, kind, term, field, subject, attributes, paired, half_in, signs_for, signs_for_role, is_signing_key, is_signing_key_for, idevid_certificate, idevid_key, certified_key, signer}
use Rattle.tables.specs.Columns.{Terms, field_words, one_more, tables_in, field_of}
use Rattle.checks.specs.There.{role_there}
use Rattle.index.specs.Indexed.{passes}
use Rattle.theorems.proofs.Terms.{setup_finds, signs_given, signs_role_given}
use Rattle.loaded.specs.Loaded.{file_in, Reads, subject_by}
use Rattle.loaded.proofs.Standing.{kind_declared, checked_reads}
use Rattle.loaded.proofs.Declared.{idevid_key_declared}
use Rattle.loaded.proofs.Halves.{paired_half}

module _ {bs : List ℕ} {tables : Tables} (r : Reads bs tables) where
  pub role_read : (p : ℕ) → p < length (file_in bs).roles → role_of (file_in bs) p ≡ role_there bs p
  role_read p l = sym (r.role p l)

  -- roles of declared parties stand in the file
  pub role_room : (p : ℕ) → p < length (file_in bs).roles → 2 * p + 1 < length bs
  role_room p l = omega (arith, r.parties_whole)

  pub kind_read : (t k : ℕ) → t < length (file_in bs).terms → is_kind (file_in bs) k t ≡ eqb ((tables_in tables).terms.kind t) k
  unfolding is_kind
  kind_read t k l = ap (λ (x : ℕ). eqb x k) (sym (r.finds.kind_is t l))

  pub field_read : (t i : ℕ) → t < length (file_in bs).terms → i < field_words → field (file_in bs) t i ≡ field_of (tables_in tables).terms t i
  field_read t i l m = sym (r.finds.field_is t i l m)

  pub few_read : (t : ℕ) → t < length (file_in bs).terms → t < term_limit
  few_read t l = omega (arith, r.finds.few)

  -- the private half of a key
  pub half_read : (test : ℕ → Bool) (k : ℕ) → k < length (file_in bs).terms → half_in (file_in bs) test k ≡ passes test ((tables_in tables).half k)
  half_read = r.finds.half

  pub half_declared : (k : ℕ) → (tables_in tables).half k ≤ length (file_in bs).terms
  half_declared = r.finds.declared

  pub pair_read : (k j : ℕ) → k < length (file_in bs).terms → j < length (file_in bs).terms → paired (file_in bs) k j ≡ eqb ((tables_in tables).half k) (j + 1)
  pair_read k j l m = paired_half r.finds l m

  -- signing keys
  pub signs_read : (p k : ℕ) → p < party_limit → signs_for (file_in bs) p k ≡ eqb ((tables_in tables).signer p) (k + 1)
  signs_read = r.finds.signer

  -- only of parties that are declared
  pub signs_declared : (p k : ℕ) → signs_for (file_in bs) p k ≡ true → p < length (file_in bs).roles
  signs_declared p k e = let c = checked_reads r in c.holds_party p k (c.signs_held p k (signs_given (file_in bs) p k e))

  pub role_signs : (role k p : ℕ) → signs_for (file_in bs) p k ≡ true → is_role (file_in bs) role p ≡ true → signs_for_role (file_in bs) role k ≡ true
  unfolding signs_for_role is_signing_key_for
  role_signs role k p s e = setup_finds _ (rw (e, eq-eqb k k refl) refl) (signs_given (file_in bs) p k s)

  pub none_signs : (role k : ℕ) → ((p : ℕ) → p < party_limit → (signs_for (file_in bs) p k && is_role (file_in bs) role p) ≡ false) → signs_for_role (file_in bs) role k ≡ false
  unfolding signs_for is_signing_key is_role
  none_signs role k n = go (signs_for_role (file_in bs) role k) refl
    where
      go : (b : Bool) → signs_for_role (file_in bs) role k ≡ b → b ≡ false
      go false e = refl
      go true e =
          let (p, m, q) = signs_role_given (file_in bs) role k e in
          let s : signs_for (file_in bs) p k ≡ true = setup_finds (is_signing_key p k) (rw (eq-eqb p p refl, eq-eqb k k refl) refl) m in
          let l = signs_declared p k s in
          let few = r.few_parties in
          let t : (signs_for (file_in bs) p k && is_role (file_in bs) role p) ≡ true = rw (s, eq-eqb (role_of (file_in bs) p) role q) refl in
          sym t ∙ n p (omega arith)

-- the attributes of a key, its second field
bits_of_key : (x : Term) → kind_of x ≤ 0x11 → (attributes_of x).bits ≡ get_or (fields_in x) 1 0
unfolding kind_of fields_in attributes_of
bits_of_key (PublicKey id a) h = refl
bits_of_key (PrivateKey id a) h = refl
bits_of_key (Hash t) h = absurd (omega arith)
bits_of_key (Signature t k) h = absurd (omega arith)
bits_of_key (Attest k) h = absurd (omega arith)
bits_of_key (Credential t n k) h = absurd (omega arith)
bits_of_key (Number id) h = absurd (omega arith)
bits_of_key (IdevidRequest s c k) h = absurd (omega arith)
bits_of_key (LdevidRequest t c) h = absurd (omega arith)
bits_of_key (Certificate k s p) h = absurd (omega arith)
bits_of_key (Pair t u) h = absurd (omega arith)
bits_of_key (Register i) h = absurd (omega arith)
bits_of_key (Quote i t n) h = absurd (omega arith)

bits_of_other : (x : Term) → 0x11 < kind_of x → (attributes_of x).bits ≡ 0
unfolding kind_of attributes_of
bits_of_other (PublicKey id a) h = absurd (omega arith)
bits_of_other (PrivateKey id a) h = absurd (omega arith)
bits_of_other (Hash t) h = refl
bits_of_other (Signature t k) h = refl
bits_of_other (Attest k) h = refl
bits_of_other (Credential t n k) h = refl
bits_of_other (Number id) h = refl
bits_of_other (IdevidRequest s c k) h = refl
bits_of_other (LdevidRequest t c) h = refl
bits_of_other (Certificate k s p) h = refl
bits_of_other (Pair t u) h = refl
bits_of_other (Register i) h = refl
bits_of_other (Quote i t n) h = refl

-- an IDevID request and a certificate, by their four fields
request_fields :
    (x : Term) → kind_of x ≡ idevid_request_kind
    → IdevidRequest (subject_by (get_or (fields_in x) 0 0) (get_or (fields_in x) 1 0)) (get_or (fields_in x) 2 0) (get_or (fields_in x) 3 0) ≡ x
unfolding kind_of fields_in subject_fields subject_by
request_fields (PublicKey id a) e = absurd (omega arith)
request_fields (PrivateKey id a) e = absurd (omega arith)
request_fields (Hash t) e = absurd (omega arith)
request_fields (Signature t k) e = absurd (omega arith)
request_fields (Attest k) e = absurd (omega arith)
request_fields (Credential t n k) e = absurd (omega arith)
request_fields (Number id) e = absurd (omega arith)
request_fields (IdevidRequest (Tpm n) c k) e = refl
request_fields (IdevidRequest (Device n) c k) e = refl
request_fields (LdevidRequest t c) e = absurd (omega arith)
request_fields (Certificate k s p) e = absurd (omega arith)
request_fields (Pair t u) e = absurd (omega arith)
request_fields (Register i) e = absurd (omega arith)
request_fields (Quote i t n) e = absurd (omega arith)

certificate_fields :
    (x : Term) → kind_of x ≡ certificate_kind
    → Certificate (get_or (fields_in x) 0 0) (subject_by (get_or (fields_in x) 1 0) (get_or (fields_in x) 2 0)) (get_or (fields_in x) 3 0) ≡ x
unfolding kind_of fields_in subject_fields subject_by
certificate_fields (PublicKey id a) e = absurd (omega arith)
certificate_fields (PrivateKey id a) e = absurd (omega arith)
certificate_fields (Hash t) e = absurd (omega arith)
certificate_fields (Signature t k) e = absurd (omega arith)
certificate_fields (Attest k) e = absurd (omega arith)
certificate_fields (Credential t n k) e = absurd (omega arith)
certificate_fields (Number id) e = absurd (omega arith)
certificate_fields (IdevidRequest s c k) e = absurd (omega arith)
certificate_fields (LdevidRequest t c) e = absurd (omega arith)
certificate_fields (Certificate k (Tpm n) p) e = refl
certificate_fields (Certificate k (Device n) p) e = refl
certificate_fields (Pair t u) e = absurd (omega arith)
certificate_fields (Register i) e = absurd (omega arith)
certificate_fields (Quote i t n) e = absurd (omega arith)

-- of a file, where the four fields of this one term are noted
module _ (f : File) (t : ℕ) (v : Terms) (noted : (i : ℕ) → i < field_words → field_of v t i ≡ field f t i) {a b c d : ℕ} {s : Subject} where
  pub noted_request : kind f t ≡ idevid_request_kind → a ≡ field_of v t 0 → b ≡ field_of v t 1 → s ≡ subject_by a b → c ≡ field_of v t 2 → d ≡ field_of v t 3 → IdevidRequest s c d ≡ term f t
  unfolding kind field
  noted_request k p q e u w = rw (e, p, q, u, w, noted 0 (omega arith), noted 1 (omega arith), noted 2 (omega arith), noted 3 (omega arith)) (request_fields (term f t) k)

  pub noted_certificate : kind f t ≡ certificate_kind → a ≡ field_of v t 0 → b ≡ field_of v t 1 → c ≡ field_of v t 2 → s ≡ subject_by b c → d ≡ field_of v t 3 → Certificate a s d ≡ term f t
  unfolding kind field
  noted_certificate k p q u e w = rw (e, p, q, u, w, noted 0 (omega arith), noted 1 (omega arith), noted 2 (omega arith), noted 3 (omega arith)) (certificate_fields (term f t) k)

-- a term of one of these kinds has no other constructor
one_certificate : (x : Term) → kind_of x ≡ certificate_kind → ((k : ℕ) (s : Subject) (p : ℕ) → x ≡ Certificate k s p → ⊥) → ⊥
unfolding kind_of
one_certificate (PublicKey id a) q none = omega arith
one_certificate (PrivateKey id a) q none = omega arith
one_certificate (Hash t) q none = omega arith
one_certificate (Signature t k) q none = omega arith
one_certificate (Attest k) q none = omega arith
one_certificate (Credential t n k) q none = omega arith
one_certificate (Number id) q none = omega arith
one_certificate (IdevidRequest s c k) q none = omega arith
one_certificate (LdevidRequest t c) q none = omega arith
one_certificate (Certificate k s p) q none = none k s p refl
one_certificate (Pair t u) q none = omega arith
one_certificate (Register i) q none = omega arith
one_certificate (Quote i t n) q none = omega arith

one_idevid : (x : Term) → kind_of x ≡ idevid_request_kind → ((s : Subject) (c k : ℕ) → x ≡ IdevidRequest s c k → ⊥) → ⊥
unfolding kind_of
one_idevid (PublicKey id a) q none = omega arith
one_idevid (PrivateKey id a) q none = omega arith
one_idevid (Hash t) q none = omega arith
one_idevid (Signature t k) q none = omega arith
one_idevid (Attest k) q none = omega arith
one_idevid (Credential t n k) q none = omega arith
one_idevid (Number id) q none = omega arith
one_idevid (IdevidRequest s c k) q none = none s c k refl
one_idevid (LdevidRequest t c) q none = omega arith
one_idevid (Certificate k s p) q none = omega arith
one_idevid (Pair t u) q none = omega arith
one_idevid (Register i) q none = omega arith
one_idevid (Quote i t n) q none = omega arith

pub certificate_found : (f : File) (t : ℕ) {x : Term} → x ≡ term f t → kind f t ≡ certificate_kind → ((k : ℕ) (s : Subject) (p : ℕ) → x ≡ Certificate k s p → ⊥) → ⊥
unfolding kind
certificate_found f t {x} e q none = one_certificate x (ap kind_of e ∙ q) none

pub idevid_found : (f : File) (t : ℕ) {x : Term} → x ≡ term f t → kind f t ≡ idevid_request_kind → ((s : Subject) (c k : ℕ) → x ≡ IdevidRequest s c k → ⊥) → ⊥
unfolding kind
idevid_found f t {x} e q none = one_idevid x (ap kind_of e ∙ q) none

-- the fields after a Subject
after : (s : Subject) (more : List ℕ) (i : ℕ) → get_or (subject_fields s more) (suc (suc i)) 0 ≡ get_or more i 0
unfolding subject_fields
after (Tpm n) more i = refl
after (Device n) more i = refl

module _ (f : File) (t : ℕ) {a b : ℕ} {s : Subject} where
  pub idevid_subject : term f t ≡ IdevidRequest s a b → subject f t ≡ s
  unfolding subject subject_of
  idevid_subject e = ap subject_of e

  pub idevid_certificate_lem : term f t ≡ IdevidRequest s a b → idevid_certificate f t ≡ a
  unfolding idevid_certificate field fields_in
  idevid_certificate_lem e = ap (λ (x : Term). get_or (fields_in x) 2 0) e ∙ after s (a ∷ b ∷ []) 0

  pub idevid_key_lem : term f t ≡ IdevidRequest s a b → idevid_key f t ≡ b
  unfolding idevid_key field fields_in
  idevid_key_lem e = ap (λ (x : Term). get_or (fields_in x) 3 0) e ∙ after s (a ∷ b ∷ []) 1

  pub certificate_key : term f t ≡ Certificate a s b → certified_key f t ≡ a
  unfolding certified_key field fields_in
  certificate_key e = ap (λ (x : Term). get_or (fields_in x) 0 0) e

  pub certificate_subject : term f t ≡ Certificate a s b → subject f t ≡ s
  unfolding subject subject_of
  certificate_subject e = ap subject_of e

  pub certificate_signer : term f t ≡ Certificate a s b → signer f t ≡ b
  unfolding signer field fields_in
  certificate_signer e = ap (λ (x : Term). get_or (fields_in x) 3 0) e ∙ after s (b ∷ []) 0

module _ {bs : List ℕ} {tables : Tables} (r : Reads bs tables) (t : ℕ) where
  pub key_bits : t < length (file_in bs).terms → (tables_in tables).terms.kind t ≤ 0x11 → (attributes (file_in bs) t).bits ≡ field_of (tables_in tables).terms t 1
  unfolding attributes kind field
  key_bits l h = bits_of_key (term (file_in bs) t) (omega (arith, r.finds.kind_is t l)) ∙ sym (r.finds.field_is t 1 l (omega arith))

  pub other_bits : t < length (file_in bs).terms → 0x11 < (tables_in tables).terms.kind t → (attributes (file_in bs) t).bits ≡ 0
  unfolding attributes kind
  other_bits l h = bits_of_other (term (file_in bs) t) (omega (arith, r.finds.kind_is t l))

  pub request_declared : kind (file_in bs) t ≡ idevid_request_kind → t < length (file_in bs).terms
  request_declared e = kind_declared bs e (λ z. omega arith)

  pub request_key : kind (file_in bs) t ≡ idevid_request_kind → idevid_key (file_in bs) t < length (file_in bs).terms
  request_key e = idevid_key_declared (checked_reads r) (request_declared e) e

  pub certificate_declared : kind (file_in bs) t ≡ certificate_kind → t < length (file_in bs).terms
  certificate_declared e = kind_declared bs e (λ z. omega arith)

  pub request_term : {a b c d : ℕ} {s : Subject} → kind (file_in bs) t ≡ idevid_request_kind → a ≡ field_of (tables_in tables).terms t 0 → b ≡ field_of (tables_in tables).terms t 1 → s ≡ subject_by a b → c ≡ field_of (tables_in tables).terms t 2 → d ≡ field_of (tables_in tables).terms t 3 → IdevidRequest s c d ≡ term (file_in bs) t
  request_term k = noted_request (file_in bs) t (tables_in tables).terms (λ i m. r.finds.field_is t i (request_declared k) m) k

  pub certificate_term : {a b c d : ℕ} {s : Subject} → kind (file_in bs) t ≡ certificate_kind → a ≡ field_of (tables_in tables).terms t 0 → b ≡ field_of (tables_in tables).terms t 1 → c ≡ field_of (tables_in tables).terms t 2 → s ≡ subject_by b c → d ≡ field_of (tables_in tables).terms t 3 → Certificate a s d ≡ term (file_in bs) t
  certificate_term k = noted_certificate (file_in bs) t (tables_in tables).terms (λ i m. r.finds.field_is t i (certificate_declared k) m) k

-- whether the term of an entry passes
pub passes_none : (test : ℕ → Bool) → passes test 0 ≡ false
unfolding passes
passes_none test = refl

pub passes_some : (test : ℕ → Bool) (n : ℕ) → passes test (n + 1) ≡ test n
unfolding passes
passes_some test n = rw add-one refl

-- whether there is one, and which
pub some_is : (o : Option ℕ) (n : ℕ) → option_eq eqb o (Some n) ≡ eqb (one_more o) (n + 1)
some_is None n = sym (ne_eqb 0 (n + 1) (λ q. omega arith))
some_is (Some m) n = go (eqb m n) refl
  where
    go : (b : Bool) → eqb m n ≡ b → b ≡ eqb (m + 1) (n + 1)
    go true e = let q = eqb-true m n e in sym (eq-eqb (m + 1) (n + 1) (omega arith))
    go false e = let q = eqb-false m n e in sym (ne_eqb (m + 1) (n + 1) (λ z. q (omega arith)))

pub ruleset halves = (half_read, half_declared, few_read, passes_none, passes_some)
