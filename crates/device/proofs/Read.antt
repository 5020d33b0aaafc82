-- A device command by its record in the file: where its fields stand, and what is known of it.
-- Assumes nothing.
use mathlib.Core.Path.{◌≡◌, refl}
use mathlib.Core.Bool.{true}
use mathlib.Core.List.{List}
use Prim.Native.Nat.{ℕ, ◌+◌, ◌<◌, ◌≤◌}
use native.Mathlib.Omega.{arith}
use lib.Dec.{leb}
use lib.ListN.{length, get_or, take, drop}
use borrow.Author.Tests.{leb-true}
use Rattle.rules.specs.Record.{section_of, fields_of, body_length, width, widths, word}
use Rattle.rules.specs.File.{hash, sign, certify, make_credential, activate_credential, make_idevid_request, make_ldevid_request, make_pair, check_hash, check_signature, check_certificate, check_attributes, send, self_issue}
use Rattle.rules.specs.Load.{command_at}
use Rattle.theorems.proofs.Loading.{Wellformed}
use Rattle.theorems.proofs.LoadingFields.{each}
use Rattle.records.proofs.EachKind.{agree}
use Rattle.learning.specs.There.{kind_there}
use Rattle.learning.proofs.Words.{byte_at, word_at}
use Rattle.lookup.specs.There.{command_there}
use Rattle.lookup.specs.Commands.{CommandAt}
use Rattle.lookup.proofs.Left.{command_range}
use Rattle.lookup.proofs.Fields.{hash_there, sign_there, certify_there, make_credential_there, activate_there, idevid_request_there, ldevid_request_there, pair_there_lem, check_hash_there, check_signature_there, check_certificate_there, check_attributes_there, send_there, self_issue_there, command_ends, three_bytes, four_bytes, known_as}
use Rattle.loaded.specs.Loaded.{file_in}
use Rattle.loaded.proofs.Standing.{kind_declared}

module _ {bs : List ℕ} {at : ℕ} (w : CommandAt (Wellformed (file_in bs)) bs at) where
  pub range : 0x30 ≤ kind_there bs at
  range = (command_range _ w.is_command).0

  pub four : at + 3 < length bs
  four = four_bytes w

  pub five : 0x38 ≤ kind_there bs at → kind_there bs at ≤ 0x3C → at + 4 < length bs
  unfolding body_length widths width fields_of section_of
  five l h =
      omega (arith, command_ends bs at (kind_there bs at) refl w.whole, leb-true 4 (body_length (kind_there bs at)) (agree (λ k. leb 4 (body_length k)) (λ k. true) 0x38 5 refl (kind_there bs at) l (omega arith)))

  pub six : 0x38 ≤ kind_there bs at → kind_there bs at < 0x3B → at + 5 < length bs
  unfolding body_length widths width fields_of section_of
  six l h = omega (arith, command_ends bs at (kind_there bs at) refl w.whole, agree body_length (λ k. 5) 0x38 3 refl (kind_there bs at) l h)

  pub hash_known : kind_there bs at ≡ 0x30 → Wellformed (file_in bs) (hash (get_or bs (at + 1) 0) (word bs (at + 2)))
  hash_known e = known_as w (hash_there bs at e)

  pub sign_known : kind_there bs at ≡ 0x31 → Wellformed (file_in bs) (sign (get_or bs (at + 1) 0) (word bs (at + 2)))
  sign_known e = known_as w (sign_there bs at e)

  pub certify_known : kind_there bs at ≡ 0x32 → Wellformed (file_in bs) (certify (get_or bs (at + 1) 0) (word bs (at + 2)))
  certify_known e = known_as w (certify_there bs at e)

  pub make_credential_known : kind_there bs at ≡ 0x33 → Wellformed (file_in bs) (make_credential (get_or bs (at + 1) 0) (word bs (at + 2)))
  make_credential_known e = known_as w (make_credential_there bs at e)

  pub activate_known : kind_there bs at ≡ 0x34 → Wellformed (file_in bs) (activate_credential (get_or bs (at + 1) 0) (word bs (at + 2)))
  activate_known e = known_as w (activate_there bs at e)

  pub idevid_request_known : kind_there bs at ≡ 0x35 → Wellformed (file_in bs) (make_idevid_request (get_or bs (at + 1) 0) (word bs (at + 2)))
  idevid_request_known e = known_as w (idevid_request_there bs at e)

  pub ldevid_request_known : kind_there bs at ≡ 0x36 → Wellformed (file_in bs) (make_ldevid_request (get_or bs (at + 1) 0) (word bs (at + 2)))
  ldevid_request_known e = known_as w (ldevid_request_there bs at e)

  pub pair_known : kind_there bs at ≡ 0x37 → Wellformed (file_in bs) (make_pair (get_or bs (at + 1) 0) (word bs (at + 2)))
  pair_known e = known_as w (pair_there_lem bs at e)

  pub check_hash_known : kind_there bs at ≡ 0x38 → Wellformed (file_in bs) (check_hash (get_or bs (at + 1) 0) (word bs (at + 2)) (word bs (at + 4)))
  check_hash_known e = known_as w (check_hash_there bs at e)

  pub check_signature_known : kind_there bs at ≡ 0x39 → Wellformed (file_in bs) (check_signature (get_or bs (at + 1) 0) (word bs (at + 2)) (word bs (at + 4)))
  check_signature_known e = known_as w (check_signature_there bs at e)

  pub check_certificate_known : kind_there bs at ≡ 0x3A → Wellformed (file_in bs) (check_certificate (get_or bs (at + 1) 0) (word bs (at + 2)) (word bs (at + 4)))
  check_certificate_known e = known_as w (check_certificate_there bs at e)

  pub check_attributes_known : kind_there bs at ≡ 0x3B → Wellformed (file_in bs) (check_attributes (get_or bs (at + 1) 0) (word bs (at + 2)) (get_or bs (at + 4) 0))
  check_attributes_known e = known_as w (check_attributes_there bs at e)

  pub send_known : kind_there bs at ≡ 0x3C → Wellformed (file_in bs) (send (get_or bs (at + 1) 0) (get_or bs (at + 2) 0) (word bs (at + 3)))
  send_known e = known_as w (send_there bs at e)

  pub self_issue_known : kind_there bs at ≡ 0x3D → Wellformed (file_in bs) (self_issue (get_or bs (at + 1) 0) (word bs (at + 2)))
  self_issue_known e = known_as w (self_issue_there bs at e)

  -- 30 to 3B and 3D: a party and a term
  pub party_known : kind_there bs at < 0x3E → (kind_there bs at ≡ 0x3C → ⊥) → (get_or bs (at + 1) 0 < length (file_in bs).roles) × (word bs (at + 2) < length (file_in bs).terms)
  unfolding command_there command_at
  party_known l n =
      let size = body_length (kind_there bs at) in
      let b = take size (drop (at + 1) bs) in
      let g =
      each (λ k. (k ≡ 0x3C → ⊥) → Wellformed (file_in bs) (command_at k b) → (get_or b 0 0 < length (file_in bs).roles) × (word b 1 < length (file_in bs).terms)) 14 0x30
      ((λ z g. (g.0, g.2)), ((λ z g. (g.0, kind_declared bs g.1 (λ q. omega arith))), ((λ z g. (g.0, kind_declared bs g.1 (λ q. omega arith))), ((λ z g. (g.0, kind_declared bs g.1 (λ q. omega arith))), ((λ z g. (g.0, kind_declared bs g.1 (λ q. omega arith))), ((λ z g. (g.0, kind_declared bs g.1 (λ q. omega arith))), ((λ z g. (g.0, kind_declared bs g.1 (λ q. omega arith))), ((λ z g. (g.0, kind_declared bs g.1 (λ q. omega arith))), ((λ z g. (g.0, g.2)), ((λ z g. (g.0, kind_declared bs g.1 (λ q. omega arith))), ((λ z g. (g.0, kind_declared bs g.1 (λ q. omega arith))), ((λ z g. (g.0, kind_declared bs g.1 (λ q. omega arith))), ((λ z g. absurd (z refl)), ((λ z g. (g.0, kind_declared bs g.1 (λ q. omega arith))), tt))))))))))))))
      (kind_there bs at) range (omega arith) n w.known in
      rw (byte_at bs at size 0 (omega (arith, three_bytes w)), word_at bs at size 1 (omega (arith, three_bytes w))) at g

pub ruleset read = (range, four, five, six, party_known, hash_known, sign_known, certify_known, make_credential_known, activate_known, idevid_request_known, ldevid_request_known, pair_known, check_hash_known, check_signature_known, check_certificate_known, check_attributes_known, send_known, self_issue_known, hash_there, sign_there, certify_there, make_credential_there, activate_there, idevid_request_there, ldevid_request_there, pair_there_lem, check_hash_there, check_signature_there, check_certificate_there, check_attributes_there, send_there, self_issue_there)
