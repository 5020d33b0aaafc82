-- The terms that a declared term names are declared, by its kind: what methods of a loaded file and reads of the state ask for.
--     here      all of these
--     kinds     the kinds of those that loading checks
-- Assumes nothing.
use mathlib.Core.Path.{◌≡◌}
use mathlib.Core.List.{List}
use Prim.Native.Nat.{ℕ, ◌+◌, ◌<◌}
use native.Mathlib.Omega.{arith}
use lib.ListN.{length}
use Rattle.rules.specs.Limits.{register_count}
use Rattle.rules.specs.Term.{public_key_kind, private_key_kind, number_kind, attest_kind, certificate_kind, credential_kind, hash_kind, idevid_request_kind, ldevid_request_kind, pair_kind, quote_kind, signature_kind}
use Rattle.rules.specs.File.{kind, register_of, hashed_term, message, signing_key, attested_key, credential_term, credential_number, credential_key, idevid_certificate, idevid_key, ldevid_message, ldevid_certificate, certified_key, signer, left_of, right_of, quoted_value, quote_number}
use Rattle.loaded.specs.Loaded.{file_in, Holds}
use Rattle.loaded.proofs.Standing.{checked_here, kind_declared}
use Rattle.loaded.proofs.Declared as named

module _ {bs s : List ℕ} (h : Holds bs s) (t : ℕ) where
  -- a term of another kind than 12; its kind stands on both sides for a tactic to find the term by
  pub declared_here : {k : ℕ} → kind (file_in bs) t ≡ k → (k ≡ hash_kind → ⊥) → kind (file_in bs) t + t < kind (file_in bs) t + length (file_in bs).terms
  declared_here e n = let l = kind_declared bs e n in omega arith

  pub hashed_here : t < length (file_in bs).terms → kind (file_in bs) t ≡ hash_kind → hashed_term (file_in bs) t < length (file_in bs).terms
  hashed_here l e = named.hashed_declared (checked_here h) l e

  pub message_here : kind (file_in bs) t ≡ signature_kind → message (file_in bs) t < length (file_in bs).terms
  message_here e = named.message_declared (checked_here h) (kind_declared bs e (λ z. omega arith)) e

  pub signing_key_here : kind (file_in bs) t ≡ signature_kind → signing_key (file_in bs) t < length (file_in bs).terms
  signing_key_here e = named.signing_key_declared (checked_here h) (kind_declared bs e (λ z. omega arith)) e

  pub attested_key_here : kind (file_in bs) t ≡ attest_kind → attested_key (file_in bs) t < length (file_in bs).terms
  attested_key_here e = named.attested_key_declared (checked_here h) (kind_declared bs e (λ z. omega arith)) e

  pub credential_term_here : kind (file_in bs) t ≡ credential_kind → credential_term (file_in bs) t < length (file_in bs).terms
  credential_term_here e = named.credential_term_declared (checked_here h) (kind_declared bs e (λ z. omega arith)) e

  pub credential_number_here : kind (file_in bs) t ≡ credential_kind → credential_number (file_in bs) t < length (file_in bs).terms
  credential_number_here e = named.credential_number_declared (checked_here h) (kind_declared bs e (λ z. omega arith)) e

  pub credential_key_here : kind (file_in bs) t ≡ credential_kind → credential_key (file_in bs) t < length (file_in bs).terms
  credential_key_here e = named.credential_key_declared (checked_here h) (kind_declared bs e (λ z. omega arith)) e

  pub idevid_certificate_here : kind (file_in bs) t ≡ idevid_request_kind → idevid_certificate (file_in bs) t < length (file_in bs).terms
  idevid_certificate_here e = named.idevid_certificate_declared (checked_here h) (kind_declared bs e (λ z. omega arith)) e

  pub idevid_key_here : kind (file_in bs) t ≡ idevid_request_kind → idevid_key (file_in bs) t < length (file_in bs).terms
  idevid_key_here e = named.idevid_key_declared (checked_here h) (kind_declared bs e (λ z. omega arith)) e

  pub ldevid_message_here : kind (file_in bs) t ≡ ldevid_request_kind → ldevid_message (file_in bs) t < length (file_in bs).terms
  ldevid_message_here e = named.ldevid_message_declared (checked_here h) (kind_declared bs e (λ z. omega arith)) e

  pub ldevid_certificate_here : kind (file_in bs) t ≡ ldevid_request_kind → ldevid_certificate (file_in bs) t < length (file_in bs).terms
  ldevid_certificate_here e = named.ldevid_certificate_declared (checked_here h) (kind_declared bs e (λ z. omega arith)) e

  pub certified_key_here : kind (file_in bs) t ≡ certificate_kind → certified_key (file_in bs) t < length (file_in bs).terms
  certified_key_here e = named.certified_key_declared (checked_here h) (kind_declared bs e (λ z. omega arith)) e

  pub signer_here : kind (file_in bs) t ≡ certificate_kind → signer (file_in bs) t < length (file_in bs).terms
  signer_here e = named.signer_declared (checked_here h) (kind_declared bs e (λ z. omega arith)) e

  pub left_here : kind (file_in bs) t ≡ pair_kind → left_of (file_in bs) t < length (file_in bs).terms
  left_here e = named.left_declared (checked_here h) (kind_declared bs e (λ z. omega arith)) e

  pub right_here : kind (file_in bs) t ≡ pair_kind → right_of (file_in bs) t < length (file_in bs).terms
  right_here e = named.right_declared (checked_here h) (kind_declared bs e (λ z. omega arith)) e

  pub quoted_value_here : kind (file_in bs) t ≡ quote_kind → quoted_value (file_in bs) t < length (file_in bs).terms
  quoted_value_here e = named.quoted_value_declared (checked_here h) (kind_declared bs e (λ z. omega arith)) e

  pub quote_number_here : kind (file_in bs) t ≡ quote_kind → quote_number (file_in bs) t < length (file_in bs).terms
  quote_number_here e = named.quote_number_declared (checked_here h) (kind_declared bs e (λ z. omega arith)) e

  -- the register of a quote body is one of a TPM's
  pub register_here : kind (file_in bs) t ≡ quote_kind → register_of (file_in bs) t < register_count
  register_here = (checked_here h).quote_register t

  -- the kinds of those that loading checks
  pub credential_number_kind_here : kind (file_in bs) t ≡ credential_kind → kind (file_in bs) (credential_number (file_in bs) t) ≡ number_kind
  credential_number_kind_here = (checked_here h).credential_number_kind t

  pub attested_key_kind_here : kind (file_in bs) t ≡ attest_kind → kind (file_in bs) (attested_key (file_in bs) t) ≡ public_key_kind
  attested_key_kind_here = (checked_here h).attested_key_kind t

  pub certified_key_kind_here : kind (file_in bs) t ≡ certificate_kind → kind (file_in bs) (certified_key (file_in bs) t) ≡ public_key_kind
  certified_key_kind_here = (checked_here h).certified_key_kind t

  pub idevid_certificate_kind_here : kind (file_in bs) t ≡ idevid_request_kind → kind (file_in bs) (idevid_certificate (file_in bs) t) ≡ certificate_kind
  idevid_certificate_kind_here = (checked_here h).idevid_certificate_kind t

  pub ldevid_certificate_kind_here : kind (file_in bs) t ≡ ldevid_request_kind → kind (file_in bs) (ldevid_certificate (file_in bs) t) ≡ certificate_kind
  ldevid_certificate_kind_here = (checked_here h).ldevid_certificate_kind t

  pub signer_kind_here : kind (file_in bs) t ≡ certificate_kind → kind (file_in bs) (signer (file_in bs) t) ≡ private_key_kind
  signer_kind_here = (checked_here h).signer_kind t

  pub signing_key_kind_here : kind (file_in bs) t ≡ signature_kind → kind (file_in bs) (signing_key (file_in bs) t) ≡ private_key_kind
  signing_key_kind_here = (checked_here h).signing_key_kind t

  pub quote_number_kind_here : kind (file_in bs) t ≡ quote_kind → kind (file_in bs) (quote_number (file_in bs) t) ≡ number_kind
  quote_number_kind_here = (checked_here h).quote_number_kind t

pub ruleset kinds = (credential_number_kind_here, attested_key_kind_here, certified_key_kind_here, idevid_certificate_kind_here, ldevid_certificate_kind_here, signer_kind_here, signing_key_kind_here, quote_number_kind_here)

pub ruleset here = (declared_here, hashed_here, message_here, signing_key_here, attested_key_here, credential_term_here, credential_number_here, credential_key_here, idevid_certificate_here, idevid_key_here, ldevid_message_here, ldevid_certificate_here, certified_key_here, signer_here, left_here, right_here, quoted_value_here, quote_number_here, register_here)
