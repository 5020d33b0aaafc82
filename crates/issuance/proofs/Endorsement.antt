-- The certificate of the EK in a request that a challenge was accepted for.
--     request_body_in, endorsement_kind     its body is declared, and the certificate is one
--     ek_few                                the number of its key
-- Assumes nothing.
use mathlib.Core.Path.{◌≡◌}
use mathlib.Core.List.{List}
use Prim.Native.Nat.{ℕ, ◌<◌}
use native.Mathlib.Omega.{arith}
use Rattle.rules.specs.Limits.{term_limit}
use Rattle.rules.specs.Term.{certificate_kind}
use Rattle.rules.specs.File.{kind, certified_key, idevid_certificate, left_of}
use Rattle.loaded.specs.Loaded.{file_in, Holds}
use Rattle.loaded.proofs.Standing.{checked_here, kind_declared}
use Rattle.loaded.proofs.Declared.{certified_key_declared}
use Rattle.requests.specs.Formed.{Requested}

module _ {bs s : List ℕ} {q : ℕ} (h : Holds bs s) (r : Requested (file_in bs) q) where
  pub endorsement_kind : kind (file_in bs) (idevid_certificate (file_in bs) (left_of (file_in bs) q)) ≡ certificate_kind
  endorsement_kind = (checked_here h).idevid_certificate_kind (left_of (file_in bs) q) r.body

  pub endorsement_few : idevid_certificate (file_in bs) (left_of (file_in bs) q) < term_limit
  endorsement_few = let few = (checked_here h).few_terms in let l = kind_declared bs endorsement_kind (λ e. omega arith) in omega arith

  pub ek_few : certified_key (file_in bs) (idevid_certificate (file_in bs) (left_of (file_in bs) q)) < term_limit
  ek_few = omega (arith, (checked_here h).few_terms, certified_key_declared (checked_here h) (kind_declared bs endorsement_kind (λ e. omega arith)) endorsement_kind)
