-- What the terms of a loaded file name is declared, by what was read of them.
--     is_kind_kind_lem     a term that is of a kind has it
--     within               what a pair, a signature, a request and a certificate name
-- Assumes nothing.
use mathlib.Core.Path.{◌≡◌}
use mathlib.Core.Bool.{true}
use Prim.Native.Nat.{ℕ, ◌<◌}
use native.Mathlib.Omega.{arith}
use lib.ListN.{length}
use borrow.Author.Tests.{eqb-true}
use Rattle.rules.specs.Limits.{term_limit}
use Rattle.rules.specs.Term.{signature_kind, attest_kind, credential_kind, idevid_request_kind, ldevid_request_kind, certificate_kind, pair_kind}
use Rattle.rules.specs.File.{File, kind, is_kind, message, signing_key, attested_key, ldevid_message, ldevid_certificate, credential_term, credential_number, idevid_certificate, idevid_key, certified_key, signer, left_of, right_of}
use Rattle.loaded.specs.declared.file.Loaded.{Loaded}
use Rattle.loaded.specs.Loaded.{file_in}
use Rattle.loaded.proofs.Standing.{kind_declared, checked_reads}
use Rattle.loaded.proofs.Declared.{left_declared, right_declared, message_declared, signing_key_declared, attested_key_declared, ldevid_message_declared, credential_term_declared, credential_number_declared, idevid_key_declared, certified_key_declared, signer_declared}

pub is_kind_kind_lem : (f : File) (t : ℕ) {k : ℕ} → is_kind f k t ≡ true → kind f t ≡ k
unfolding is_kind
is_kind_kind_lem f t {k} e = eqb-true (kind f t) k e

module _ (x : Loaded) (t : ℕ) where
  module _ (l : t < length (file_in x.file.now).terms) where
    pub few_within : t < term_limit
    few_within = let few = x.reads.finds.few in omega arith

    pub left_within : is_kind (file_in x.file.now) pair_kind t ≡ true → left_of (file_in x.file.now) t < length (file_in x.file.now).terms
    left_within e = left_declared (checked_reads x.reads) l (is_kind_kind_lem _ t e)

    pub right_within : is_kind (file_in x.file.now) pair_kind t ≡ true → right_of (file_in x.file.now) t < length (file_in x.file.now).terms
    right_within e = right_declared (checked_reads x.reads) l (is_kind_kind_lem _ t e)

    pub message_within : is_kind (file_in x.file.now) signature_kind t ≡ true → message (file_in x.file.now) t < length (file_in x.file.now).terms
    message_within e = message_declared (checked_reads x.reads) l (is_kind_kind_lem _ t e)

    pub signing_key_within : is_kind (file_in x.file.now) signature_kind t ≡ true → signing_key (file_in x.file.now) t < length (file_in x.file.now).terms
    signing_key_within e = signing_key_declared (checked_reads x.reads) l (is_kind_kind_lem _ t e)

  pub certified_key_within : kind (file_in x.file.now) t ≡ certificate_kind → certified_key (file_in x.file.now) t < length (file_in x.file.now).terms
  certified_key_within e = certified_key_declared (checked_reads x.reads) (kind_declared x.file.now e (λ q. omega arith)) e

  pub idevid_key_within : kind (file_in x.file.now) t ≡ idevid_request_kind → idevid_key (file_in x.file.now) t < length (file_in x.file.now).terms
  idevid_key_within e = idevid_key_declared (checked_reads x.reads) (kind_declared x.file.now e (λ q. omega arith)) e

  pub ldevid_request_within : kind (file_in x.file.now) t ≡ ldevid_request_kind → t < length (file_in x.file.now).terms
  ldevid_request_within e = kind_declared x.file.now e (λ q. omega arith)

  pub ldevid_message_within : kind (file_in x.file.now) t ≡ ldevid_request_kind → ldevid_message (file_in x.file.now) t < length (file_in x.file.now).terms
  ldevid_message_within e = ldevid_message_declared (checked_reads x.reads) (kind_declared x.file.now e (λ q. omega arith)) e

  pub ldevid_certificate_is : kind (file_in x.file.now) t ≡ ldevid_request_kind → kind (file_in x.file.now) (ldevid_certificate (file_in x.file.now) t) ≡ certificate_kind
  ldevid_certificate_is e = (checked_reads x.reads).ldevid_certificate_kind t e

  pub attested_key_within : is_kind (file_in x.file.now) attest_kind t ≡ true → attested_key (file_in x.file.now) t < length (file_in x.file.now).terms
  attested_key_within e =
      let k = is_kind_kind_lem _ t e in
      attested_key_declared (checked_reads x.reads) (kind_declared x.file.now k (λ q. omega arith)) k

  pub certificate_few : kind (file_in x.file.now) t ≡ certificate_kind → t < term_limit
  certificate_few e = let few = x.reads.finds.few in let l = kind_declared x.file.now e (λ q. omega arith) in omega arith

  pub idevid_certificate_is : kind (file_in x.file.now) t ≡ idevid_request_kind → kind (file_in x.file.now) (idevid_certificate (file_in x.file.now) t) ≡ certificate_kind
  idevid_certificate_is e = (checked_reads x.reads).idevid_certificate_kind t e

  pub credential_within : kind (file_in x.file.now) t ≡ credential_kind → t < length (file_in x.file.now).terms
  credential_within e = kind_declared x.file.now e (λ q. omega arith)

  pub credential_term_within : kind (file_in x.file.now) t ≡ credential_kind → credential_term (file_in x.file.now) t < length (file_in x.file.now).terms
  credential_term_within e = credential_term_declared (checked_reads x.reads) (kind_declared x.file.now e (λ q. omega arith)) e

  pub credential_number_within : kind (file_in x.file.now) t ≡ credential_kind → credential_number (file_in x.file.now) t < length (file_in x.file.now).terms
  credential_number_within e = credential_number_declared (checked_reads x.reads) (kind_declared x.file.now e (λ q. omega arith)) e

  pub signer_within : kind (file_in x.file.now) t ≡ certificate_kind → signer (file_in x.file.now) t < length (file_in x.file.now).terms
  signer_within e = signer_declared (checked_reads x.reads) (kind_declared x.file.now e (λ q. omega arith)) e

pub ruleset within = (few_within, is_kind_kind_lem, left_within, right_within, message_within, signing_key_within, signer_within, certified_key_within, idevid_key_within, idevid_certificate_is, credential_within, credential_term_within, credential_number_within, ldevid_request_within, ldevid_message_within, ldevid_certificate_is, attested_key_within, certificate_few)
