-- The term of a record by the words where they stand.
--     byte_at, word_at                 what stands in a body, by where it stands in the file
--     inside                           where the body of a record ends in the file
--     public-key-there, private-key-there, certificate-there   the term of a record
--     signer-there                     the field behind a Subject
--     tpm-byte                         the byte of a Subject
--     certificate-tpm                  whether a 19 is a TPM's
--     key-attributes, no-attributes    the attributes of keys; other terms have none
-- Assumes nothing.
use mathlib.Core.Path.{◌≡◌, refl, ap₂, subst}
use mathlib.Core.Bool.{Bool, true, false, cond}
use mathlib.Core.List.{List, [], ◌∷◌}
use Prim.Native.Nat.{ℕ, suc, ◌+◌, ◌*◌, ◌-◌, ◌<◌, ◌≤◌}
use native.Mathlib.Omega.{arith}
use lib.Dec.{eqb}
use lib.ListN.{length, get_or, take, drop}
use lib.Seq.{get_or-take, get_or-drop}
use borrow.Author.Tests.{eqb-true, eqb-false}
use Rattle.rules.specs.declared.Subject.{Subject}
use Rattle.rules.specs.declared.Subject.TheVariants.{Tpm, Device}
use Rattle.rules.specs.declared.Term.TheVariants.{PublicKey, PrivateKey, Certificate}
use Rattle.rules.specs.Term.{public_key_kind, private_key_kind, certificate_kind, subject_fields, fields_in, subject_of, is_tpm_subject, attributes_of}
use Rattle.rules.specs.Attributes.{no_attributes}
use Rattle.rules.specs.Record.{section_of, fields_of, body_length, width, widths, word}
use Rattle.rules.specs.Load.{term_at, subject_at}
use Rattle.records.proofs.EachKind.{agree}
use Rattle.records.proofs.Lengths.{term_kinds_lem}
use Rattle.learning.specs.There.{kind_there, term_there, TermRecord}

-- the bytes of the bodies of terms, by kind
abbrev pub body_bytes : ℕ → ℕ
body_bytes k = get_or (3 ∷ 3 ∷ 2 ∷ 4 ∷ 2 ∷ 6 ∷ 2 ∷ 7 ∷ 4 ∷ 7 ∷ 4 ∷ 1 ∷ 5 ∷ []) (k - public_key_kind) 0

-- the byte of a Subject tells a TPM from a device
module _ (bs : List ℕ) (i : ℕ) where
  pub tpm_byte : is_tpm_subject (subject_at bs i) ≡ eqb (get_or bs i 0) 0
  unfolding subject_at is_tpm_subject
  tpm_byte = go (eqb (get_or bs i 0) 0)
    where
      go : (t : Bool) → is_tpm_subject (cond t (Tpm (word bs (i + 1))) (Device (word bs (i + 1)))) ≡ t
      go true = refl
      go false = refl

-- the fields behind a Subject
behind : (s : Subject) (xs : List ℕ) (i : ℕ) → get_or (subject_fields s xs) (suc (suc i)) 0 ≡ get_or xs i 0
unfolding subject_fields
behind (Tpm n) xs i = refl
behind (Device n) xs i = refl

module _ (bs : List ℕ) (at : ℕ) where
  -- what stands in the first n bytes of a body
  pub byte_at : (n i : ℕ) → i < n → get_or (take n (drop (at + 1) bs)) i 0 ≡ get_or bs (at + suc i) 0
  byte_at n i h = let e : at + 1 + i ≡ at + suc i = omega arith in rw (get_or-take n (drop (at + 1) bs) i 0 h, get_or-drop (at + 1) bs i 0, e)

  pub word_at : (n i : ℕ) → i + 1 < n → word (take n (drop (at + 1) bs)) i ≡ word bs (at + suc i)
  unfolding word
  word_at n i h =
      let e : at + suc (i + 1) ≡ at + suc i + 1 = omega arith in
      ap₂ (λ (m l : ℕ). m * 256 + l) (byte_at n i (omega arith)) (rw e at (byte_at n (i + 1) h))

  subject_at_lem : (n i : ℕ) → i + 2 < n → subject_at (take n (drop (at + 1) bs)) i ≡ subject_at bs (at + suc i)
  unfolding subject_at
  subject_at_lem n i h =
      let e : at + suc (i + 1) ≡ at + suc i + 1 = omega arith in
      ap₂ (λ (b m : ℕ). cond (eqb b 0) (Tpm m) (Device m)) (byte_at n i (omega arith)) (rw e at (word_at n (i + 1) (omega arith)))

  -- where the body of a record ends
  pub inside : (k : ℕ) → kind_there bs at ≡ k → TermRecord bs at → at + 1 + body_bytes k ≤ length bs
  unfolding body_length widths width fields_of section_of
  inside k e r =
      let h = term_kinds_lem (kind_there bs at) r.is_term in
      let l : body_length (kind_there bs at) ≡ body_bytes (kind_there bs at) = agree body_length body_bytes 0x10 13 refl (kind_there bs at) h.0 (omega (arith, h.1)) in
      subst (λ (k : ℕ). at + 1 + body_bytes k ≤ length bs) e (omega (arith, r.rest, l))

  -- 10 (identifier, attributes)
  pub public_key_there : kind_there bs at ≡ public_key_kind → term_there bs at ≡ PublicKey (word bs (at + 1)) (record { bits = get_or bs (at + 3) 0 })
  unfolding term_there term_at body_length widths width fields_of section_of
  public_key_there e = rw e (λ x. PublicKey (word_at 3 0 (omega arith) x) (record { bits = byte_at 3 2 (omega arith) x }))

  -- 11 (identifier, attributes)
  pub private_key_there : kind_there bs at ≡ private_key_kind → term_there bs at ≡ PrivateKey (word bs (at + 1)) (record { bits = get_or bs (at + 3) 0 })
  unfolding term_there term_at body_length widths width fields_of section_of
  private_key_there e = rw e (λ x. PrivateKey (word_at 3 0 (omega arith) x) (record { bits = byte_at 3 2 (omega arith) x }))

  -- 19 (public key, Subject, private key)
  pub certificate_there : kind_there bs at ≡ certificate_kind → term_there bs at ≡ Certificate (word bs (at + 1)) (subject_at bs (at + 3)) (word bs (at + 6))
  unfolding term_there term_at body_length widths width fields_of section_of
  certificate_there e = rw e (λ x. Certificate (word_at 7 0 (omega arith) x) (subject_at_lem 7 2 (omega arith) x) (word_at 7 5 (omega arith) x))

  -- the field behind the Subject of a 19
  pub signer_there : kind_there bs at ≡ certificate_kind → get_or (fields_in (term_there bs at)) 3 0 ≡ word bs (at + 6)
  unfolding fields_in
  signer_there e = rw (certificate_there e) (behind (subject_at bs (at + 3)) _ 0)

  -- whose it is
  pub certificate_tpm : kind_there bs at ≡ certificate_kind → is_tpm_subject (subject_of (term_there bs at)) ≡ eqb (get_or bs (at + 3) 0) 0
  unfolding subject_of
  certificate_tpm e = rw (certificate_there e) (tpm_byte bs (at + 3))

  -- the attributes of a key, and that other terms have none
  pub key_attributes_lem : TermRecord bs at → kind_there bs at ≤ private_key_kind → (attributes_of (term_there bs at) ≡ record { bits = get_or bs (at + 3) 0 }) × (at + 3 < length bs)
  unfolding attributes_of
  key_attributes_lem r l = go (eqb (kind_there bs at) public_key_kind) refl
    where
      go : (t : Bool) → eqb (kind_there bs at) public_key_kind ≡ t → (attributes_of (term_there bs at) ≡ record { bits = get_or bs (at + 3) 0 }) × (at + 3 < length bs)
      go true e = (rw (public_key_there (eqb-true _ _ e)), omega (arith, inside public_key_kind (eqb-true _ _ e) r))
      go false e =
          let n = eqb-false (kind_there bs at) public_key_kind e in
          let p : kind_there bs at ≡ private_key_kind = omega (arith, (term_kinds_lem (kind_there bs at) r.is_term).0) in
          (rw (private_key_there p), omega (arith, inside private_key_kind p r))

  pub no_attributes_lem : TermRecord bs at → private_key_kind < kind_there bs at → attributes_of (term_there bs at) ≡ no_attributes
  unfolding term_there term_at attributes_of
  no_attributes_lem r l =
      let b : List ℕ = take (body_length (kind_there bs at)) (drop (at + 1) bs) in
      agree (λ k. attributes_of (term_at k b)) (λ k. no_attributes) 0x12 11 refl (kind_there bs at) (omega arith) (omega (arith, (term_kinds_lem (kind_there bs at) r.is_term).1))
