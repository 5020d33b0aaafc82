-- The outcome of each device command is the refusal of the first of its tests that fails.
-- Assumes nothing.
use mathlib.Core.Path.{◌≡◌, refl}
use Prim.Native.Nat.{ℕ}
use lib.Dec.{eqb}
use Rattle.rules.specs.Attributes.{same_attributes}
use Rattle.rules.specs.File.{File, hash, sign, certify, activate_credential, check_hash, check_signature, check_certificate, check_attributes, make_credential, make_idevid_request, make_ldevid_request, make_pair, send, self_issue, hashed_term, idevid_certificate, idevid_key, ldevid_message, ldevid_certificate, left_of, right_of, signer, signing_key, attributes, paired}
use Rattle.rules.specs.State.{State}
use Rattle.rules.specs.Device.{device_role, hash_tests, make_credential_tests, both_known_tests, send_tests, self_issue_tests, sign_tests, certify_tests, activate_credential_tests, check_role, check_tests}
use Rattle.rules.specs.Run.{tests_of, outcome}
use Rattle.theorems.specs.Chain.{chain}
use Rattle.theorems.proofs.Chain.{in_order_lem}

module _ (f : File) (s : State) where
  pub hash_outcome : (p r : ℕ) → outcome f s (hash p r) ≡ chain (hash_tests f s p r)
  unfolding outcome tests_of hash_tests device_role
  hash_outcome p r = in_order_lem (hash_tests f s p r) refl

  pub sign_outcome : (p r : ℕ) → outcome f s (sign p r) ≡ chain (sign_tests f s p r)
  unfolding outcome tests_of sign_tests device_role
  sign_outcome p r = in_order_lem (sign_tests f s p r) refl

  pub certify_outcome : (p r : ℕ) → outcome f s (certify p r) ≡ chain (certify_tests f s p r)
  unfolding outcome tests_of certify_tests device_role
  certify_outcome p r = in_order_lem (certify_tests f s p r) refl

  pub make_credential_outcome : (p r : ℕ) → outcome f s (make_credential p r) ≡ chain (make_credential_tests f s p r)
  unfolding outcome tests_of make_credential_tests device_role
  make_credential_outcome p r = in_order_lem (make_credential_tests f s p r) refl

  pub activate_outcome : (p r : ℕ) → outcome f s (activate_credential p r) ≡ chain (activate_credential_tests f s p r)
  unfolding outcome tests_of activate_credential_tests device_role
  activate_outcome p r = in_order_lem (activate_credential_tests f s p r) refl

  pub idevid_request_outcome : (p r : ℕ) → outcome f s (make_idevid_request p r) ≡ chain (both_known_tests f s p (idevid_certificate f r) (idevid_key f r))
  unfolding outcome tests_of both_known_tests device_role
  idevid_request_outcome p r = in_order_lem (both_known_tests f s p (idevid_certificate f r) (idevid_key f r)) refl

  pub ldevid_request_outcome : (p r : ℕ) → outcome f s (make_ldevid_request p r) ≡ chain (both_known_tests f s p (ldevid_message f r) (ldevid_certificate f r))
  unfolding outcome tests_of both_known_tests device_role
  ldevid_request_outcome p r = in_order_lem (both_known_tests f s p (ldevid_message f r) (ldevid_certificate f r)) refl

  pub pair_outcome : (p r : ℕ) → outcome f s (make_pair p r) ≡ chain (both_known_tests f s p (left_of f r) (right_of f r))
  unfolding outcome tests_of both_known_tests device_role
  pair_outcome p r = in_order_lem (both_known_tests f s p (left_of f r) (right_of f r)) refl

  pub check_hash_outcome : (p h t : ℕ) → outcome f s (check_hash p h t) ≡ chain (check_tests f s p h t (eqb (hashed_term f h) t))
  unfolding outcome tests_of check_tests check_role
  check_hash_outcome p h t = in_order_lem (check_tests f s p h t (eqb (hashed_term f h) t)) refl

  pub check_signature_outcome : (p t k : ℕ) → outcome f s (check_signature p t k) ≡ chain (check_tests f s p t k (paired f k (signing_key f t)))
  unfolding outcome tests_of check_tests check_role
  check_signature_outcome p t k = in_order_lem (check_tests f s p t k (paired f k (signing_key f t))) refl

  pub check_certificate_outcome : (p c k : ℕ) → outcome f s (check_certificate p c k) ≡ chain (check_tests f s p c k (paired f k (signer f c)))
  unfolding outcome tests_of check_tests check_role
  check_certificate_outcome p c k = in_order_lem (check_tests f s p c k (paired f k (signer f c))) refl

  pub check_attributes_outcome : (p k a : ℕ) → outcome f s (check_attributes p k a) ≡ chain (check_tests f s p k k (same_attributes (attributes f k) (record { bits = a })))
  unfolding outcome tests_of check_tests check_role
  check_attributes_outcome p k a = in_order_lem (check_tests f s p k k (same_attributes (attributes f k) (record { bits = a }))) refl

  pub send_outcome : (p q t : ℕ) → outcome f s (send p q t) ≡ chain (send_tests f s p t)
  unfolding outcome tests_of send_tests
  send_outcome p q t = in_order_lem (send_tests f s p t) refl

  pub self_issue_outcome : (p r : ℕ) → outcome f s (self_issue p r) ≡ chain (self_issue_tests f s p r)
  unfolding outcome tests_of self_issue_tests device_role
  self_issue_outcome p r = in_order_lem (self_issue_tests f s p r) refl
