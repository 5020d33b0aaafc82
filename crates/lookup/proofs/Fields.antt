-- The command of a record by the bytes where they stand.
--     hash-there to issue-iak-there   the command of a record, one law a kind
--     issue-length, issue-there       that of the kinds 40, 41 and 42, by their family
--     issue-iaks-there                that of kind 43, with the pairs where they stand
--     extend-there, quote-there       those of kinds 44 and 45
--     command-ends                    where the record of a command ends in the file
--     three-bytes, four_bytes         its body has three bytes at least, its record four
--     one-read, two-read, known_as    the command by numbers that were read, and what is known of it
-- Assumes nothing.
use mathlib.Core.Path.{◌≡◌, refl, sym, ap, ap₂, subst, ◌∙◌}
use mathlib.Core.List.{List}
use Prim.Native.Nat.{ℕ, zero, suc, ◌+◌, ◌*◌, ◌<◌, ◌≤◌}
use native.Mathlib.Omega.{arith}
use lib.ListN.{length, get_or, take, drop}
use Rattle.rules.specs.Limits.{pair_count, pair_width}
use Rattle.rules.specs.Families.{request_families, family_of}
use Rattle.rules.specs.Record.{section_of, fields_of, body_length, width, widths, word}
use Rattle.rules.specs.File.{Command, hash, sign, certify, make_credential, activate_credential, make_idevid_request, make_ldevid_request, make_pair, check_hash, check_signature, check_certificate, check_attributes, send, self_issue, challenge, issue_iak, issue, issue_iaks, extend, quote}
use Rattle.rules.specs.Load.{command_at, empty_pair, pairs_at}
use Rattle.records.proofs.EachKind.{agree}
use Rattle.learning.specs.There.{kind_there}
use Rattle.learning.proofs.Words.{byte_at, word_at}
use Rattle.reader.specs.Place.{next_place, RecordAt}
use Rattle.lookup.specs.There.{command_there}
use Rattle.lookup.specs.Commands.{CommandAt}
use Rattle.lookup.proofs.Left.{command_long}

pub issue_length : (k : ℕ) → 0x40 ≤ k → k < 0x40 + length request_families → body_length k ≡ 5
unfolding body_length widths width fields_of section_of
issue_length = agree body_length (λ k. 5) 0x40 (length request_families) refl

issue_made : (b : List ℕ) (k : ℕ) → 0x40 ≤ k → k < 0x40 + length request_families → command_at k b ≡ issue (family_of k) (get_or b 0 0) (word b 1) (word b 3)
unfolding command_at
issue_made b = agree (λ k. command_at k b) (λ k. issue (family_of k) (get_or b 0 0) (word b 1) (word b 3)) 0x40 (length request_families) refl

-- the pairs in a body of m bytes are those in the file
pairs_same : (bs : List ℕ) (at m n i : ℕ) → i + n * pair_width ≤ m → pairs_at n (take m (drop (at + 1) bs)) i ≡ pairs_at n bs (at + suc i)
unfolding pairs_at empty_pair
pairs_same bs at m zero i h = refl
pairs_same bs at m (suc n) i h =
    let e : at + suc (i + 2) ≡ at + suc i + 2 = omega arith in
    let l : at + suc (i + pair_width) ≡ at + suc i + pair_width = omega arith in
    rw (word_at bs at m i (omega arith), word_at bs at m (i + 2) (omega arith), pairs_same bs at m n (i + pair_width) (omega arith), e, l) refl

module _ (bs : List ℕ) (at : ℕ) where
  -- a record that stands in the file ends in it
  pub command_ends : (k : ℕ) → kind_there bs at ≡ k → RecordAt bs at → at + 1 + body_length k ≤ length bs
  unfolding next_place
  command_ends k e w = rw e at w.whole

  -- the command of a kind with a body of n bytes
  of_kind : (k n : ℕ) → body_length k ≡ n → kind_there bs at ≡ k → command_there bs at ≡ command_at k (take n (drop (at + 1) bs))
  unfolding command_there
  of_kind k n l e = rw (e, l)

  -- a party and a term
  one_term : (k : ℕ) (make : ℕ → ℕ → Command) → body_length k ≡ 3 → ((b : List ℕ) → command_at k b ≡ make (get_or b 0 0) (word b 1)) → kind_there bs at ≡ k → command_there bs at ≡ make (get_or bs (at + 1) 0) (word bs (at + 2))
  one_term k make l f e = of_kind k 3 l e ∙ f _ ∙ ap₂ make (byte_at bs at 3 0 (omega arith)) (word_at bs at 3 1 (omega arith))

  -- a party and two terms
  two_terms : (k : ℕ) (make : ℕ → ℕ → ℕ → Command) → body_length k ≡ 5 → ((b : List ℕ) → command_at k b ≡ make (get_or b 0 0) (word b 1) (word b 3)) → kind_there bs at ≡ k → command_there bs at ≡ make (get_or bs (at + 1) 0) (word bs (at + 2)) (word bs (at + 4))
  two_terms k make l f e = of_kind k 5 l e ∙ f _ ∙ (λ x. make (byte_at bs at 5 0 (omega arith) x) (word_at bs at 5 1 (omega arith) x) (word_at bs at 5 3 (omega arith) x))

  pub hash_there : kind_there bs at ≡ 0x30 → command_there bs at ≡ hash (get_or bs (at + 1) 0) (word bs (at + 2))
  unfolding command_at body_length widths width fields_of section_of
  hash_there = one_term 0x30 hash refl (λ b. refl)

  pub sign_there : kind_there bs at ≡ 0x31 → command_there bs at ≡ sign (get_or bs (at + 1) 0) (word bs (at + 2))
  unfolding command_at body_length widths width fields_of section_of
  sign_there = one_term 0x31 sign refl (λ b. refl)

  pub certify_there : kind_there bs at ≡ 0x32 → command_there bs at ≡ certify (get_or bs (at + 1) 0) (word bs (at + 2))
  unfolding command_at body_length widths width fields_of section_of
  certify_there = one_term 0x32 certify refl (λ b. refl)

  pub make_credential_there : kind_there bs at ≡ 0x33 → command_there bs at ≡ make_credential (get_or bs (at + 1) 0) (word bs (at + 2))
  unfolding command_at body_length widths width fields_of section_of
  make_credential_there = one_term 0x33 make_credential refl (λ b. refl)

  pub activate_there : kind_there bs at ≡ 0x34 → command_there bs at ≡ activate_credential (get_or bs (at + 1) 0) (word bs (at + 2))
  unfolding command_at body_length widths width fields_of section_of
  activate_there = one_term 0x34 activate_credential refl (λ b. refl)

  pub idevid_request_there : kind_there bs at ≡ 0x35 → command_there bs at ≡ make_idevid_request (get_or bs (at + 1) 0) (word bs (at + 2))
  unfolding command_at body_length widths width fields_of section_of
  idevid_request_there = one_term 0x35 make_idevid_request refl (λ b. refl)

  pub ldevid_request_there : kind_there bs at ≡ 0x36 → command_there bs at ≡ make_ldevid_request (get_or bs (at + 1) 0) (word bs (at + 2))
  unfolding command_at body_length widths width fields_of section_of
  ldevid_request_there = one_term 0x36 make_ldevid_request refl (λ b. refl)

  pub pair_there_lem : kind_there bs at ≡ 0x37 → command_there bs at ≡ make_pair (get_or bs (at + 1) 0) (word bs (at + 2))
  unfolding command_at body_length widths width fields_of section_of
  pair_there_lem = one_term 0x37 make_pair refl (λ b. refl)

  pub check_hash_there : kind_there bs at ≡ 0x38 → command_there bs at ≡ check_hash (get_or bs (at + 1) 0) (word bs (at + 2)) (word bs (at + 4))
  unfolding command_at body_length widths width fields_of section_of
  check_hash_there = two_terms 0x38 check_hash refl (λ b. refl)

  pub check_signature_there : kind_there bs at ≡ 0x39 → command_there bs at ≡ check_signature (get_or bs (at + 1) 0) (word bs (at + 2)) (word bs (at + 4))
  unfolding command_at body_length widths width fields_of section_of
  check_signature_there = two_terms 0x39 check_signature refl (λ b. refl)

  pub check_certificate_there : kind_there bs at ≡ 0x3A → command_there bs at ≡ check_certificate (get_or bs (at + 1) 0) (word bs (at + 2)) (word bs (at + 4))
  unfolding command_at body_length widths width fields_of section_of
  check_certificate_there = two_terms 0x3A check_certificate refl (λ b. refl)

  pub check_attributes_there : kind_there bs at ≡ 0x3B → command_there bs at ≡ check_attributes (get_or bs (at + 1) 0) (word bs (at + 2)) (get_or bs (at + 4) 0)
  unfolding command_at body_length widths width fields_of section_of
  check_attributes_there e = of_kind 0x3B 4 refl e ∙ (λ x. check_attributes (byte_at bs at 4 0 (omega arith) x) (word_at bs at 4 1 (omega arith) x) (byte_at bs at 4 3 (omega arith) x))

  pub send_there : kind_there bs at ≡ 0x3C → command_there bs at ≡ send (get_or bs (at + 1) 0) (get_or bs (at + 2) 0) (word bs (at + 3))
  unfolding command_at body_length widths width fields_of section_of
  send_there e = of_kind 0x3C 4 refl e ∙ (λ x. send (byte_at bs at 4 0 (omega arith) x) (byte_at bs at 4 1 (omega arith) x) (word_at bs at 4 2 (omega arith) x))

  pub self_issue_there : kind_there bs at ≡ 0x3D → command_there bs at ≡ self_issue (get_or bs (at + 1) 0) (word bs (at + 2))
  unfolding command_at body_length widths width fields_of section_of
  self_issue_there = one_term 0x3D self_issue refl (λ b. refl)

  pub challenge_there : kind_there bs at ≡ 0x3E → command_there bs at ≡ challenge (get_or bs (at + 1) 0) (word bs (at + 2)) (word bs (at + 4))
  unfolding command_at body_length widths width fields_of section_of
  challenge_there = two_terms 0x3E challenge refl (λ b. refl)

  pub issue_iak_there : kind_there bs at ≡ 0x3F → command_there bs at ≡ issue_iak (get_or bs (at + 1) 0) (get_or bs (at + 2) 0) (word bs (at + 3)) (word bs (at + 5))
  unfolding command_at body_length widths width fields_of section_of
  issue_iak_there e = of_kind 0x3F 6 refl e ∙ (λ x. issue_iak (byte_at bs at 6 0 (omega arith) x) (byte_at bs at 6 1 (omega arith) x) (word_at bs at 6 2 (omega arith) x) (word_at bs at 6 4 (omega arith) x))

  -- 40 on, as many kinds as there are families that are issued on a request
  pub issue_there : 0x40 ≤ kind_there bs at → kind_there bs at < 0x40 + length request_families → command_there bs at ≡ issue (family_of (kind_there bs at)) (get_or bs (at + 1) 0) (word bs (at + 2)) (word bs (at + 4))
  issue_there l h =
      two_terms (kind_there bs at) (issue (family_of (kind_there bs at))) (issue_length (kind_there bs at) l h) (λ b. issue_made b (kind_there bs at) l h) refl

  pub issue_iaks_there : kind_there bs at ≡ 0x43 → command_there bs at ≡ issue_iaks (get_or bs (at + 1) 0) (get_or bs (at + 2) 0) (pairs_at pair_count bs (at + 3))
  unfolding command_at body_length widths width fields_of section_of
  issue_iaks_there e = of_kind 0x43 18 refl e ∙ (λ x. issue_iaks (byte_at bs at 18 0 (omega arith) x) (byte_at bs at 18 1 (omega arith) x) (pairs_same bs at 18 pair_count 2 (omega arith) x))

  pub extend_there : kind_there bs at ≡ 0x44 → command_there bs at ≡ extend (get_or bs (at + 1) 0) (get_or bs (at + 2) 0) (word bs (at + 3))
  unfolding command_at body_length widths width fields_of section_of
  extend_there e = of_kind 0x44 4 refl e ∙ (λ x. extend (byte_at bs at 4 0 (omega arith) x) (byte_at bs at 4 1 (omega arith) x) (word_at bs at 4 2 (omega arith) x))

  pub quote_there : kind_there bs at ≡ 0x45 → command_there bs at ≡ quote (get_or bs (at + 1) 0) (word bs (at + 2))
  unfolding command_at body_length widths width fields_of section_of
  quote_there = one_term 0x45 quote refl (λ b. refl)

-- a command by numbers that were read
pub one_read : (make : ℕ → ℕ → Command) {c : Command} {p m r : ℕ} → c ≡ make p m → r ≡ m → c ≡ make p r
one_read make {p = p} e h = e ∙ ap (make p) (sym h)

pub two_read : (make : ℕ → ℕ → ℕ → Command) {c : Command} {p m n r t : ℕ} → c ≡ make p m n → r ≡ m → t ≡ n → c ≡ make p r t
two_read make {p = p} e h i = e ∙ ap₂ (make p) (sym h) (sym i)

module _ {P : Command → Type 0} {bs : List ℕ} {at : ℕ} (w : CommandAt P bs at) where
  pub three_bytes : 2 < body_length (kind_there bs at)
  unfolding next_place
  three_bytes = omega (arith, command_long bs at w.is_command)

  pub four_bytes : at + 3 < length bs
  four_bytes = omega (arith, command_long bs at w.is_command, w.whole.whole)

  pub known_as : {c : Command} → command_there bs at ≡ c → P c
  known_as e = subst P e w.known
