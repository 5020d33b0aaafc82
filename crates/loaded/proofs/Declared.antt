-- The terms that a declared term names are declared.
-- Assumes nothing.
use mathlib.Core.Path.{◌≡◌, refl, ap, subst⁻¹}
use mathlib.Core.Bool.{cond}
use mathlib.Core.List.{List, [], ◌∷◌, map, Memᴰ}
use Prim.Native.Nat.{ℕ, ◌<◌}
use native.Mathlib.Omega.{arith}
use lib.Dec.{eqb}
use lib.ListN.{length, get_or}
use Rattle.rules.specs.declared.Subject.TheVariants.{Tpm, Device}
use Rattle.rules.specs.declared.Term.{Term}
use Rattle.rules.specs.declared.Term.TheVariants.{PublicKey, PrivateKey, Hash, Signature, Attest, Credential, Number, IdevidRequest, LdevidRequest, Certificate, Pair, Register, Quote}
use Rattle.rules.specs.Term.{hash_kind, signature_kind, attest_kind, credential_kind, idevid_request_kind, ldevid_request_kind, certificate_kind, pair_kind, quote_kind, kind_of, fields_in, subject_fields, names_of}
use Rattle.rules.specs.File.{File, term, kind, names, field, hashed_term, message, signing_key, attested_key, credential_term, credential_number, credential_key, idevid_certificate, idevid_key, ldevid_message, ldevid_certificate, certified_key, signer, left_of, right_of, quoted_value, quote_number}
use Rattle.theorems.proofs.Loading.{Checked}

-- the fields that name terms, by the kind
abbrev names_at : ℕ → List ℕ
names_at k =
    cond (eqb k hash_kind) (0 ∷ [])
    (cond (eqb k signature_kind) (0 ∷ 1 ∷ [])
    (cond (eqb k attest_kind) (0 ∷ [])
    (cond (eqb k credential_kind) (0 ∷ 1 ∷ 2 ∷ [])
    (cond (eqb k idevid_request_kind) (2 ∷ 3 ∷ [])
    (cond (eqb k ldevid_request_kind) (0 ∷ 1 ∷ [])
    (cond (eqb k certificate_kind) (0 ∷ 3 ∷ [])
    (cond (eqb k pair_kind) (0 ∷ 1 ∷ [])
    (cond (eqb k quote_kind) (1 ∷ 2 ∷ []) []))))))))

abbrev named : Term → ℕ → ℕ
named x i = get_or (fields_in x) i 0

names_are : (x : Term) → names_of x ≡ map (named x) (names_at (kind_of x))
unfolding kind_of fields_in subject_fields names_of
names_are (PublicKey id a) = refl
names_are (PrivateKey id a) = refl
names_are (Hash t) = refl
names_are (Signature t k) = refl
names_are (Attest k) = refl
names_are (Credential t n k) = refl
names_are (Number id) = refl
names_are (IdevidRequest (Tpm n) c k) = refl
names_are (IdevidRequest (Device n) c k) = refl
names_are (LdevidRequest t c) = refl
names_are (Certificate k (Tpm n) p) = refl
names_are (Certificate k (Device n) p) = refl
names_are (Pair t u) = refl
names_are (Register i) = refl
names_are (Quote i t n) = refl

in_map : (g : ℕ → ℕ) {i : ℕ} {is : List ℕ} → Memᴰ i is → Memᴰ (g i) (map g is)
in_map g (Memᴰ.head e) = Memᴰ.head (ap g e)
in_map g (Memᴰ.tail m) = Memᴰ.tail (in_map g m)

module _ {f : File} {t : ℕ} (w : Checked f) (l : t < length f.terms) where
  field_declared : (k i : ℕ) → kind f t ≡ k → Memᴰ i (names_at k) → field f t i < length f.terms
  unfolding kind field names
  field_declared k i e m =
      let lower = w.names_lower t (field f t i) l (subst⁻¹ (Memᴰ (field f t i)) (names_are (term f t)) (in_map (named (term f t)) (subst⁻¹ (λ (j : ℕ). Memᴰ i (names_at j)) e m))) in
      omega arith

  pub hashed_declared : kind f t ≡ hash_kind → hashed_term f t < length f.terms
  unfolding hashed_term
  hashed_declared e = field_declared hash_kind 0 e (Memᴰ.head refl)

  pub message_declared : kind f t ≡ signature_kind → message f t < length f.terms
  unfolding message
  message_declared e = field_declared signature_kind 0 e (Memᴰ.head refl)

  pub signing_key_declared : kind f t ≡ signature_kind → signing_key f t < length f.terms
  unfolding signing_key
  signing_key_declared e = field_declared signature_kind 1 e (Memᴰ.tail (Memᴰ.head refl))

  pub attested_key_declared : kind f t ≡ attest_kind → attested_key f t < length f.terms
  unfolding attested_key
  attested_key_declared e = field_declared attest_kind 0 e (Memᴰ.head refl)

  pub credential_term_declared : kind f t ≡ credential_kind → credential_term f t < length f.terms
  unfolding credential_term
  credential_term_declared e = field_declared credential_kind 0 e (Memᴰ.head refl)

  pub credential_number_declared : kind f t ≡ credential_kind → credential_number f t < length f.terms
  unfolding credential_number
  credential_number_declared e = field_declared credential_kind 1 e (Memᴰ.tail (Memᴰ.head refl))

  pub credential_key_declared : kind f t ≡ credential_kind → credential_key f t < length f.terms
  unfolding credential_key
  credential_key_declared e = field_declared credential_kind 2 e (Memᴰ.tail (Memᴰ.tail (Memᴰ.head refl)))

  pub idevid_certificate_declared : kind f t ≡ idevid_request_kind → idevid_certificate f t < length f.terms
  unfolding idevid_certificate
  idevid_certificate_declared e = field_declared idevid_request_kind 2 e (Memᴰ.head refl)

  pub idevid_key_declared : kind f t ≡ idevid_request_kind → idevid_key f t < length f.terms
  unfolding idevid_key
  idevid_key_declared e = field_declared idevid_request_kind 3 e (Memᴰ.tail (Memᴰ.head refl))

  pub ldevid_message_declared : kind f t ≡ ldevid_request_kind → ldevid_message f t < length f.terms
  unfolding ldevid_message
  ldevid_message_declared e = field_declared ldevid_request_kind 0 e (Memᴰ.head refl)

  pub ldevid_certificate_declared : kind f t ≡ ldevid_request_kind → ldevid_certificate f t < length f.terms
  unfolding ldevid_certificate
  ldevid_certificate_declared e = field_declared ldevid_request_kind 1 e (Memᴰ.tail (Memᴰ.head refl))

  pub certified_key_declared : kind f t ≡ certificate_kind → certified_key f t < length f.terms
  unfolding certified_key
  certified_key_declared e = field_declared certificate_kind 0 e (Memᴰ.head refl)

  pub signer_declared : kind f t ≡ certificate_kind → signer f t < length f.terms
  unfolding signer
  signer_declared e = field_declared certificate_kind 3 e (Memᴰ.tail (Memᴰ.head refl))

  pub left_declared : kind f t ≡ pair_kind → left_of f t < length f.terms
  unfolding left_of
  left_declared e = field_declared pair_kind 0 e (Memᴰ.head refl)

  pub right_declared : kind f t ≡ pair_kind → right_of f t < length f.terms
  unfolding right_of
  right_declared e = field_declared pair_kind 1 e (Memᴰ.tail (Memᴰ.head refl))

  pub quoted_value_declared : kind f t ≡ quote_kind → quoted_value f t < length f.terms
  unfolding quoted_value
  quoted_value_declared e = field_declared quote_kind 1 e (Memᴰ.head refl)

  pub quote_number_declared : kind f t ≡ quote_kind → quote_number f t < length f.terms
  unfolding quote_number
  quote_number_declared e = field_declared quote_kind 2 e (Memᴰ.tail (Memᴰ.head refl))
