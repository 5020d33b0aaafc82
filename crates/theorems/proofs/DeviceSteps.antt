-- Each accepted device command is a step.
-- Assumes nothing.
use mathlib.Core.Path.{◌≡◌, refl, sym, ap, subst, subst⁻¹, ◌∙◌}
use mathlib.Core.Logic.{◌⊎◌, inl, inr, ⊎_elim}
use mathlib.Core.Bool.{Bool, true, false, cond, not, ◌&&◌, ◌||◌}
use mathlib.Core.List.{[], ◌∷◌, Memᴰ}
use Prim.Native.Nat.{ℕ, ◌<◌}
use lib.Dec.{T, T_not, eqb, eqb_refl}
use borrow.Author.Tests.{eqb-true}
use lib.ListN.{length}
use Rattle.rules.specs.declared.Attributes.{Attributes}
use Rattle.rules.specs.Limits.{device, tpm_maker, oem_desk, owner_desk}
use Rattle.rules.specs.Attributes as flag
use Rattle.rules.specs.Attributes.{has, desk_key_attributes}
use Rattle.rules.specs.Term.{public_key_kind, private_key_kind, hash_kind, signature_kind, attest_kind, credential_kind, number_kind, idevid_request_kind, ldevid_request_kind, certificate_kind, pair_kind}
use Rattle.rules.specs.File.{File, holds, signs_with, hash, sign, certify, make_credential, activate_credential, make_idevid_request, make_ldevid_request, make_pair, send, self_issue, extend, quote, role_of, is_kind, is_role, kind, parts, attributes, message, signing_key, certified_key, signer, hashed_term, attested_key, credential_term, credential_number, credential_key, idevid_certificate, idevid_key, ldevid_message, ldevid_certificate, left_of, right_of, register_of, quoted_value, quote_number}
use Rattle.rules.specs.State.{State, number_used, listed, learnt, ticketed, showing}
use Rattle.rules.specs.Device.{device_role, key_has, holds_half, no_ticket, hash_effect, sign_tests, certify_tests, make_credential_tests, activate_credential_tests, both_known_tests, may_be_sent_by_desk, may_send, send_tests, self_issue_tests, extend_tests, quote_tests}
use Rattle.rules.specs.Run.{tests_of, effect_of, outcome}
use Rattle.theorems.specs.Residency.{Inside, Held, Endorsement}
use Rattle.theorems.proofs.Passing.{Passed, passed}
use Rattle.theorems.proofs.Inside.{inside_none, inside_one, inside_two}
use Rattle.theorems.proofs.Learning.{grant_kept, grant_only, learn_kept, learn_known, inside_known}
use Rattle.theorems.proofs.Loading.{Checked, Wellformed}
use Rattle.theorems.proofs.Terms.{is_kind_kind, is_role_role, pair_kinds, half_found, parts_public_key, parts_hash, parts_credential, parts_number, parts_signature, parts_attest, parts_idevid_request, parts_ldevid_request, parts_certificate, parts_pair, parts_register, parts_quote}
use Rattle.theorems.proofs.Invariant.{KnownToDevice, Attested, Good, Shown, Invariant, Fresh, Grows, Step, good_grows}
use Rattle.theorems.proofs.Registers.{extend_passed, quote_passed}
use Rattle.theorems.proofs.Booleans.{and_true, or_true, not_both}

pub desk_fixed : has desk_key_attributes flag.fixed_tpm ≡ true
unfolding has
desk_fixed = refl

-- a signing key is held by its party alone
pub signer_alone : (f : File) → Checked f → (p m k : ℕ) → Memᴰ (signs_with m k) f.setup → Memᴰ (holds p k) f.setup → p ≡ m
signer_alone f ck p m k g h =
    ck.holds_once p m k h (ck.signs_held m k g)
    (subst⁻¹ (λ (a : Attributes). has a flag.fixed_tpm ≡ true) (ck.signs_attributes m k g) desk_fixed)

-- kinds of which a state says nothing
abbrev pub is_plain : ℕ → Bool
is_plain k =
    not (eqb k private_key_kind) && (not (eqb k signature_kind) && (not (eqb k credential_kind) && (not (eqb k number_kind) && not (eqb k certificate_kind))))

pub differ : (f : File) (u : ℕ) {a : ℕ} (b : ℕ) → kind f u ≡ a → T (not (eqb a b)) → kind f u ≡ b → ⊥
differ f u {a} b h t e = T_not (eqb a b) t (subst (λ (x : ℕ). T (eqb a x)) (sym h ∙ e) (eqb_refl a))

-- a number
pub number_good : (f : File) (s : State) (n : ℕ) → kind f n ≡ number_kind → Good f s n
number_good f s n k = record {
  not_private = differ f n private_key_kind k tt;
  attested = λ e. absurd (differ f n signature_kind k tt e);
  endorsed = λ e. absurd (differ f n certificate_kind k tt e);
  issued = λ e. absurd (differ f n certificate_kind k tt e);
  numbered = λ e. absurd (differ f n credential_kind k tt e);
}

-- a certificate
pub certificate_good : (f : File) (s : State) (r : ℕ) → kind f r ≡ certificate_kind
    → ((m : ℕ) → Memᴰ (signs_with m (signer f r)) f.setup → role_of f m ≡ tpm_maker → Endorsement f r)
    → ((m : ℕ) → Memᴰ (signs_with m (signer f r)) f.setup → (role_of f m ≡ tpm_maker → ⊥) → listed s.ledger r ≡ true)
    → Good f s r
certificate_good f s r h a b = record {
  not_private = differ f r private_key_kind h tt;
  attested = λ e. absurd (differ f r signature_kind h tt e);
  endorsed = λ e. a;
  issued = λ e. b;
  numbered = λ e. absurd (differ f r credential_kind h tt e);
}

-- a term of a plain kind
plain_not : (f : File) (u : ℕ) {k : ℕ} (b : ℕ) → kind f u ≡ k → T (is_plain k) → T (not (is_plain b)) → kind f u ≡ b → ⊥
plain_not f u {k} b h t n e = T_not (is_plain b) n (subst (λ (x : ℕ). T (is_plain x)) (sym h ∙ e) t)

pub good_plain : {f : File} {s : State} {u k : ℕ} → kind f u ≡ k → T (is_plain k) → Good f s u
good_plain {f} {s} {u} h t = record {
  not_private = plain_not f u private_key_kind h t tt;
  attested = λ e. absurd (plain_not f u signature_kind h t tt e);
  endorsed = λ e. absurd (plain_not f u certificate_kind h t tt e);
  issued = λ e. absurd (plain_not f u certificate_kind h t tt e);
  numbered = λ e. absurd (plain_not f u credential_kind h t tt e);
}

pub fresh_plain : {f : File} {s s' : State} {q u k : ℕ} → kind f u ≡ k → T (is_plain k) → Fresh f s s' q u
fresh_plain {f} {s} {s'} {q} {u} h t = record {
  good = good_plain h t;
  number = λ e. absurd (plain_not f u number_kind h t tt e);
  credential = λ e. absurd (plain_not f u credential_kind h t tt e);
}

pub learnt_grows : (f : File) (s : State) (p t : ℕ) → Grows f s (learnt f s p t)
unfolding learnt
learnt_grows f s p t = record { knows = λ q u h. learn_kept f p t s.knows q u h; table = λ q k h. h; used = λ n k h. h; listed = λ c h. h }

module _ (f : File) (ck : Checked f) (s : State) (inv : Invariant f s) where
  -- the half that a search of the TPM's table found is held
  pub held_half : (p k : ℕ) → holds_half f s p k ≡ true → Held f p k
  unfolding holds_half
  held_half p k h =
      let w = half_found f (s.table p) k h in
      record { half = w.0; pairs = w.1; given = inv.held p w.0 (pair_kinds f k w.0 w.1).1 w.2 }

  -- a term that somebody who may tell it knew
  pub fresh_told : (s' : State) → Grows f s s' → (q u p : ℕ) → s.knows p u ≡ true → (role_of f p ≡ device) ⊎ (kind f u ≡ number_kind → ⊥) → Fresh f s s' q u
  fresh_told s' g q u p k w = record {
    good = good_grows f ck s s' g u (inv.good p u k);
    number = λ e. ⊎_elim (λ d. inr (inl (record { party = p; is_device = d; knows = k }))) (λ n. absurd (n e)) w;
    credential = λ e. inl (p, k);
  }

  -- all that is in a term that a device knows
  fresh_inside : (s' : State) → Grows f s s' → (q t u p : ℕ) → s.knows p t ≡ true → role_of f p ≡ device → Inside f t u → Fresh f s s' q u
  fresh_inside s' g q t u p k d i = fresh_told s' g q u p (inside_known f s.knows inv.closed p t u k i) (inl d)

  -- a public key has nothing in it
  pub fresh_key : (s' : State) (q t u : ℕ) → kind f t ≡ public_key_kind → Inside f t u → Fresh f s s' q u
  fresh_key s' q t u h i = subst⁻¹ (Fresh f s s' q) (inside_none f t u (parts_public_key f t h) i) (fresh_plain h tt)

  -- a party learns a term, and nothing else changes
  learn_step : (p t : ℕ) → p < length f.roles → ((u : ℕ) → Inside f t u → Fresh f s (learnt f s p t) p u) → Step f s (learnt f s p t)
  unfolding learnt
  learn_step p t d fresh = record {
    learner = p;
    lesson = t;
    declared = d;
    learnt = refl;
    fresh = fresh;
    table_only = λ q k h. inl h;
    grows = learnt_grows f s p t;
    opened = λ c k h. inl (h, refl, refl);
    ledger = inl refl;
    shows = λ q j. inl refl;
  }

  -- 30
  hash_fresh : (s' : State) (p r : ℕ) → kind f r ≡ hash_kind → (u : ℕ) → Inside f r u → Fresh f s s' p u
  hash_fresh s' p r h u i = subst⁻¹ (Fresh f s s' p) (inside_none f r u (parts_hash f r h) i) (fresh_plain h tt)

  ticket_step : (p r : ℕ) → p < length f.roles → kind f r ≡ hash_kind → Step f s (ticketed (learnt f s p r) p r)
  unfolding ticketed learnt
  ticket_step p r d h = record {
    learner = p;
    lesson = r;
    declared = d;
    learnt = refl;
    fresh = hash_fresh (ticketed (learnt f s p r) p r) p r h;
    table_only = λ q k e. ⊎_elim inl (λ w. inr (ap (kind f) w.1 ∙ h)) (grant_only s.table p r q k e);
    grows = record {
      knows = λ q u e. learn_kept f p r s.knows q u e;
      table = λ q k e. grant_kept s.table p r q k e;
      used = λ n k e. e;
      listed = λ c e. e;
    };
    opened = λ c k e. inl (e, refl, refl);
    ledger = inl refl;
    shows = λ q j. inl refl;
  }

  either_step : (b : Bool) (s₁ s₂ : State) → Step f s s₁ → Step f s s₂ → Step f s (cond b s₁ s₂)
  either_step true s₁ s₂ x y = x
  either_step false s₁ s₂ x y = y

  pub hash_step : (p r : ℕ) → Wellformed f (hash p r) → Step f s (effect_of f s (hash p r))
  unfolding effect_of hash_effect
  hash_step p r w =
      either_step (no_ticket f (hashed_term f r)) (learnt f s p r) (ticketed (learnt f s p r) p r)
      (learn_step p r w.0 (hash_fresh (learnt f s p r) p r w.1)) (ticket_step p r w.0 w.1)

  -- 31
  sign_passed : (p r : ℕ) → outcome f s (sign p r) ≡ 0 → Passed (sign_tests f s p r)
  unfolding outcome tests_of sign_tests device_role
  sign_passed p r e = passed (sign_tests f s p r) refl e

  -- a signature that is not an attest's by a Restricted key
  signature_good : (s' : State) (r : ℕ) → kind f r ≡ signature_kind → (kind f (message f r) ≡ attest_kind → has (attributes f (signing_key f r)) flag.restricted ≡ true → Attested f s' r) → Good f s' r
  signature_good s' r h a = record {
    not_private = differ f r private_key_kind h tt;
    attested = λ e. a;
    endorsed = λ e. absurd (differ f r certificate_kind h tt e);
    issued = λ e. absurd (differ f r certificate_kind h tt e);
    numbered = λ e. absurd (differ f r credential_kind h tt e);
  }

  signature_fresh : (s' : State) (q r : ℕ) → kind f r ≡ signature_kind → Good f s' r → Fresh f s s' q r
  signature_fresh s' q r h g = record {
    good = g;
    number = λ e. absurd (differ f r number_kind h tt e);
    credential = λ e. absurd (differ f r credential_kind h tt e);
  }

  pub sign_step : (p r : ℕ) → Wellformed f (sign p r) → outcome f s (sign p r) ≡ 0 → Step f s (effect_of f s (sign p r))
  unfolding effect_of sign_tests device_role key_has
  sign_step p r w e = learn_step p r w.0 fresh
    where
      s' : State
      s' = learnt f s p r

      h : Passed (sign_tests f s p r)
      h = sign_passed p r e

      is_device : role_of f p ≡ device
      is_device = is_role_role f device p h.0

      -- the message under a Restricted key
      hashed : has (attributes f (signing_key f r)) flag.restricted ≡ true → kind f (message f r) ≡ hash_kind
      hashed b =
          ⊎_elim (λ n. absurd (not_both _ n b)) (is_kind_kind f hash_kind (message f r))
          (or_true (not (has (attributes f (signing_key f r)) flag.restricted)) (is_kind f hash_kind (message f r)) h.1.1.1.1.0)

      own : Fresh f s s' p r
      own = signature_fresh s' p r w.1 (signature_good s' r w.1 (λ a b. absurd (differ f (message f r) attest_kind (hashed b) tt a)))

      fresh : (u : ℕ) → Inside f r u → Fresh f s s' p u
      fresh u i =
          ⊎_elim (λ q. subst⁻¹ (Fresh f s s' p) q own)
          (λ j. ⊎_elim (λ b. hash_fresh s' p (message f r) (hashed b) u j) (λ k. fresh_inside s' (learnt_grows f s p r) p (message f r) u p k is_device j)
          (or_true (has (attributes f (signing_key f r)) flag.restricted) (s.knows p (message f r)) h.1.0))
          (inside_one f r u (message f r) (parts_signature f r w.1) i)

  -- 32
  certify_passed : (p r : ℕ) → outcome f s (certify p r) ≡ 0 → Passed (certify_tests f s p r)
  unfolding outcome tests_of certify_tests device_role
  certify_passed p r e = passed (certify_tests f s p r) refl e

  pub certify_step : (p r : ℕ) → Wellformed f (certify p r) → outcome f s (certify p r) ≡ 0 → Step f s (effect_of f s (certify p r))
  unfolding effect_of certify_tests device_role learnt
  certify_step p r w e = learn_step p r w.0 fresh
    where
      s' : State
      s' = learnt f s p r

      h : Passed (certify_tests f s p r)
      h = certify_passed p r e

      own : Fresh f s s' p r
      own =
          signature_fresh s' p r w.1
          (signature_good s' r w.1
          (λ a b. record {
            tpm = p;
            is_device = is_role_role f device p h.0;
            signing = h.1.0;
            attested = held_half p (attested_key f (message f r)) h.1.1.0;
          }))

      fresh : (u : ℕ) → Inside f r u → Fresh f s s' p u
      fresh u i =
          ⊎_elim (λ q. subst⁻¹ (Fresh f s s' p) q own)
          (λ j. ⊎_elim (λ q. subst⁻¹ (Fresh f s s' p) q (fresh_plain w.2 tt))
          (λ k. fresh_key s' p (attested_key f (message f r)) u (ck.attested_key_kind (message f r) w.2) k)
          (inside_one f (message f r) u (attested_key f (message f r)) (parts_attest f (message f r) w.2) j))
          (inside_one f r u (message f r) (parts_signature f r w.1) i)

  -- 33
  make_credential_passed : (p r : ℕ) → outcome f s (make_credential p r) ≡ 0 → Passed (make_credential_tests f s p r)
  unfolding outcome tests_of make_credential_tests device_role
  make_credential_passed p r e = passed (make_credential_tests f s p r) refl e

  pub credential_good : (s' : State) (r : ℕ) → kind f r ≡ credential_kind → (s'.mark (credential_number f r) ≡ number_used) ⊎ KnownToDevice f s' (credential_number f r) → Good f s' r
  credential_good s' r h a = record {
    not_private = differ f r private_key_kind h tt;
    attested = λ e. absurd (differ f r signature_kind h tt e);
    endorsed = λ e. absurd (differ f r certificate_kind h tt e);
    issued = λ e. absurd (differ f r certificate_kind h tt e);
    numbered = λ e. a;
  }

  pub make_credential_step : (p r : ℕ) → Wellformed f (make_credential p r) → outcome f s (make_credential p r) ≡ 0 → Step f s (effect_of f s (make_credential p r))
  unfolding effect_of make_credential_tests device_role
  make_credential_step p r w e = learn_step p r w.0 fresh
    where
      s' : State
      s' = learnt f s p r

      h : Passed (make_credential_tests f s p r)
      h = make_credential_passed p r e

      is_device : role_of f p ≡ device
      is_device = is_role_role f device p h.0

      own : Fresh f s s' p r
      own = record {
        good = credential_good s' r w.1 (inr (record { party = p; is_device = is_device; knows = (learnt_grows f s p r).knows p (credential_number f r) h.1.1.0 }));
        number = λ e. absurd (differ f r number_kind w.1 tt e);
        credential = λ e. inr (inl (record { party = p; is_device = is_device; knows = h.1.1.0 }));
      }

      fresh : (u : ℕ) → Inside f r u → Fresh f s s' p u
      fresh u i = subst⁻¹ (Fresh f s s' p) (inside_none f r u (parts_credential f r w.1) i) own

  -- 34
  activate_credential_passed : (p r : ℕ) → outcome f s (activate_credential p r) ≡ 0 → Passed (activate_credential_tests f s p r)
  unfolding outcome tests_of activate_credential_tests device_role
  activate_credential_passed p r e = passed (activate_credential_tests f s p r) refl e

  pub activate_credential_step : (p r : ℕ) → Wellformed f (activate_credential p r) → outcome f s (activate_credential p r) ≡ 0 → Step f s (effect_of f s (activate_credential p r))
  unfolding effect_of activate_credential_tests device_role
  activate_credential_step p r w e = learn_step p n w.0 fresh
    where
      n : ℕ
      n = credential_number f r

      s' : State
      s' = learnt f s p n

      h : Passed (activate_credential_tests f s p r)
      h = activate_credential_passed p r e

      k : kind f n ≡ number_kind
      k = ck.credential_number_kind r w.1

      own : Fresh f s s' p n
      own = record {
        good = number_good f s' n k;
        number =
            λ e. inr (inr (record {
              party = p;
              is_device = is_role_role f device p h.0;
              credential = r;
              knows = h.1.0;
              is_credential = w.1;
              number = refl;
              name = held_half p (hashed_term f (credential_term f r)) h.1.1.1.1.1.0;
              key = held_half p (credential_key f r) h.1.1.0;
            }));
        credential = λ e. absurd (differ f n credential_kind k tt e);
      }

      fresh : (u : ℕ) → Inside f n u → Fresh f s s' p u
      fresh u i = subst⁻¹ (Fresh f s s' p) (inside_none f n u (parts_number f n k) i) own

  -- 35, 36, 37
  joined_step : (p r a b k : ℕ) → p < length f.roles → kind f r ≡ k → T (is_plain k) → parts f r ≡ a ∷ b ∷ [] → Passed (both_known_tests f s p a b) → Step f s (learnt f s p r)
  unfolding both_known_tests device_role
  joined_step p r a b k d h t e w = learn_step p r d fresh
    where
      s' : State
      s' = learnt f s p r

      fresh : (u : ℕ) → Inside f r u → Fresh f s s' p u
      fresh u i =
          ⊎_elim (λ q. subst⁻¹ (Fresh f s s' p) q (fresh_plain h t))
          (⊎_elim (fresh_inside s' (learnt_grows f s p r) p a u p w.1.0 (is_role_role f device p w.0))
          (fresh_inside s' (learnt_grows f s p r) p b u p w.1.1.0 (is_role_role f device p w.0)))
          (inside_two f r u a b e i)

  pub make_idevid_request_step : (p r : ℕ) → Wellformed f (make_idevid_request p r) → outcome f s (make_idevid_request p r) ≡ 0 → Step f s (effect_of f s (make_idevid_request p r))
  unfolding effect_of outcome tests_of both_known_tests device_role
  make_idevid_request_step p r w e =
      joined_step p r (idevid_certificate f r) (idevid_key f r) idevid_request_kind w.0 w.1 tt (parts_idevid_request f r w.1)
      (passed (both_known_tests f s p (idevid_certificate f r) (idevid_key f r)) refl e)

  pub make_ldevid_request_step : (p r : ℕ) → Wellformed f (make_ldevid_request p r) → outcome f s (make_ldevid_request p r) ≡ 0 → Step f s (effect_of f s (make_ldevid_request p r))
  unfolding effect_of outcome tests_of both_known_tests device_role
  make_ldevid_request_step p r w e =
      joined_step p r (ldevid_message f r) (ldevid_certificate f r) ldevid_request_kind w.0 w.1 tt (parts_ldevid_request f r w.1)
      (passed (both_known_tests f s p (ldevid_message f r) (ldevid_certificate f r)) refl e)

  pub make_pair_step : (p r : ℕ) → Wellformed f (make_pair p r) → outcome f s (make_pair p r) ≡ 0 → Step f s (effect_of f s (make_pair p r))
  unfolding effect_of outcome tests_of both_known_tests device_role
  make_pair_step p r w e =
      joined_step p r (left_of f r) (right_of f r) pair_kind w.0 w.1 tt (parts_pair f r w.1)
      (passed (both_known_tests f s p (left_of f r) (right_of f r)) refl e)

  -- 3C
  send_passed : (p q t : ℕ) → outcome f s (send p q t) ≡ 0 → Passed (send_tests f s p t)
  unfolding outcome tests_of send_tests
  send_passed p q t e = passed (send_tests f s p t) refl e

  -- nothing in a 10, a 15 or a 19 is a number
  desk_term : (t u : ℕ) → may_be_sent_by_desk f t ≡ true → Inside f t u → kind f u ≡ number_kind → ⊥
  unfolding may_be_sent_by_desk
  desk_term t u m i n =
      ⊎_elim
      (λ x. ⊎_elim (λ y. only (parts_public_key f t (is_kind_kind f public_key_kind t y)) (is_kind_kind f public_key_kind t y) tt)
      (λ y. only (parts_credential f t (is_kind_kind f credential_kind t y)) (is_kind_kind f credential_kind t y) tt)
      (or_true (is_kind f public_key_kind t) (is_kind f credential_kind t) x))
      (λ x. certificate (is_kind_kind f certificate_kind t x))
      (or_true (is_kind f public_key_kind t || is_kind f credential_kind t) (is_kind f certificate_kind t) m)
    where
      only : {k : ℕ} → parts f t ≡ [] → kind f t ≡ k → T (not (eqb k number_kind)) → ⊥
      only e k d = differ f t number_kind k d (ap (kind f) (sym (inside_none f t u e i)) ∙ n)

      certificate : kind f t ≡ certificate_kind → ⊥
      certificate k =
          ⊎_elim (λ q. differ f t number_kind k tt (ap (kind f) (sym q) ∙ n))
          (λ j. differ f (certified_key f t) number_kind (ck.certified_key_kind t k) tt
          (ap (kind f) (sym (inside_none f (certified_key f t) u (parts_public_key f (certified_key f t) (ck.certified_key_kind t k)) j)) ∙ n))
          (inside_one f t u (certified_key f t) (parts_certificate f t k) i)

  pub send_step : (p q t : ℕ) → Wellformed f (send p q t) → outcome f s (send p q t) ≡ 0 → Step f s (effect_of f s (send p q t))
  unfolding effect_of send_tests may_send
  send_step p q t w e = learn_step q t w.1 fresh
    where
      s' : State
      s' = learnt f s q t

      h : Passed (send_tests f s p t)
      h = send_passed p q t e

      teller : (u : ℕ) → Inside f t u → (role_of f p ≡ device) ⊎ (kind f u ≡ number_kind → ⊥)
      teller u i =
          ⊎_elim (λ d. inl (is_role_role f device p d)) (λ m. inr (desk_term t u (and_true (is_role f oem_desk p || is_role f owner_desk p) (may_be_sent_by_desk f t) m).1 i))
          (or_true (is_role f device p) ((is_role f oem_desk p || is_role f owner_desk p) && may_be_sent_by_desk f t) h.0)

      fresh : (u : ℕ) → Inside f t u → Fresh f s s' q u
      fresh u i = fresh_told s' (learnt_grows f s q t) q u p (inside_known f s.knows inv.closed p t u h.1.0 i) (teller u i)

  -- 3D
  self_issue_passed : (p r : ℕ) → outcome f s (self_issue p r) ≡ 0 → Passed (self_issue_tests f s p r)
  unfolding outcome tests_of self_issue_tests device_role
  self_issue_passed p r e = passed (self_issue_tests f s p r) refl e

  -- a device signs with the signing key of nobody
  no_device_signer : (p m k : ℕ) → role_of f p ≡ device → s.table p k ≡ true → Memᴰ (signs_with m k) f.setup → ⊥
  no_device_signer p m k d h g =
      ck.signs_role m k g
      (ap (role_of f) (sym (signer_alone f ck p m k g (inv.held p k (ck.holds_kind m k (ck.signs_held m k g)) h))) ∙ d)

  pub certificate_fresh : (s' : State) (q r : ℕ) → kind f r ≡ certificate_kind
      → ((m : ℕ) → Memᴰ (signs_with m (signer f r)) f.setup → role_of f m ≡ tpm_maker → ⊥)
      → ((m : ℕ) → Memᴰ (signs_with m (signer f r)) f.setup → (role_of f m ≡ tpm_maker → ⊥) → listed s'.ledger r ≡ true)
      → (u : ℕ) → Inside f r u → Fresh f s s' q u
  certificate_fresh s' q r h a b u i =
      ⊎_elim (λ e. subst⁻¹ (Fresh f s s' q) e own) (fresh_key s' q (certified_key f r) u (ck.certified_key_kind r h))
      (inside_one f r u (certified_key f r) (parts_certificate f r h) i)
    where
      own : Fresh f s s' q r
      own = record {
        good = certificate_good f s' r h (λ m g d. absurd (a m g d)) b;
        number = λ e. absurd (differ f r number_kind h tt e);
        credential = λ e. absurd (differ f r credential_kind h tt e);
      }

  pub self_issue_step : (p r : ℕ) → Wellformed f (self_issue p r) → outcome f s (self_issue p r) ≡ 0 → Step f s (effect_of f s (self_issue p r))
  unfolding effect_of self_issue_tests device_role
  self_issue_step p r w e =
      learn_step p r w.0
      (certificate_fresh (learnt f s p r) p r w.1 (λ m g d. nobody m g) (λ m g d. absurd (nobody m g)))
    where
      h : Passed (self_issue_tests f s p r)
      h = self_issue_passed p r e

      nobody : (m : ℕ) → Memᴰ (signs_with m (signer f r)) f.setup → ⊥
      nobody m g = no_device_signer p m (signer f r) (is_role_role f device p h.0) h.1.1.0 g

  -- 44: nobody learns anything; the register shows a hash
  pub extend_step : (p i r : ℕ) → Wellformed f (extend p i r) → outcome f s (extend p i r) ≡ 0 → Step f s (effect_of f s (extend p i r))
  unfolding effect_of extend_tests device_role showing
  extend_step p i r w e = record {
    learner = p;
    lesson = t;
    declared = w.0;
    learnt = sym (learn_known f p t s.knows h.1.0);
    fresh = λ u j. fresh_inside (showing s p i r) same p t u p h.1.0 (is_role_role f device p h.0) j;
    table_only = λ q k x. inl x;
    grows = same;
    opened = λ c k x. inl (x, refl, refl);
    ledger = inl refl;
    shows = λ q j. go q j (eqb q p && eqb j i);
  }
    where
      t : ℕ
      t = right_of f (hashed_term f r)

      h : Passed (extend_tests f s p i r)
      h = extend_passed f s p i r e

      same : Grows f s (showing s p i r)
      same = record { knows = λ q u x. x; table = λ q k x. x; used = λ n k x. x; listed = λ c x. x }

      go : (q j : ℕ) (b : Bool) → (cond b r (s.registers q j) ≡ s.registers q j) ⊎ (kind f (cond b r (s.registers q j)) ≡ hash_kind)
      go q j true = inr w.1
      go q j false = inl refl

  -- 45: what is in the quote body is what the register shows, which is no more than a 1B or a 12, and a number that the
  -- device knows
  shown_fresh : (s' : State) (q t u : ℕ) → Shown f t → Inside f t u → Fresh f s s' q u
  shown_fresh s' q t u x i =
      ⊎_elim (λ k. subst⁻¹ (Fresh f s s' q) (inside_none f t u (parts_register f t k) i) (fresh_plain k tt)) (λ k. hash_fresh s' q t k u i) x

  pub quote_step : (p r : ℕ) → Wellformed f (quote p r) → outcome f s (quote p r) ≡ 0 → Step f s (effect_of f s (quote p r))
  unfolding effect_of quote_tests device_role
  quote_step p r w e = learn_step p r w.0 fresh
    where
      s' : State
      s' = learnt f s p r

      b : ℕ
      b = message f r

      h : Passed (quote_tests f s p r)
      h = quote_passed f s p r e

      k : kind f (quote_number f b) ≡ number_kind
      k = ck.quote_number_kind b w.2

      own : Fresh f s s' p r
      own = signature_fresh s' p r w.1 (signature_good s' r w.1 (λ a c. absurd (differ f b attest_kind w.2 tt a)))

      value : Shown f (quoted_value f b)
      value = subst (Shown f) (eqb-true _ _ h.1.1.1.1.1.0) (inv.shown p (register_of f b))

      number : Fresh f s s' p (quote_number f b)
      number = record {
        good = number_good f s' (quote_number f b) k;
        number = λ x. inl h.1.0;
        credential = λ x. absurd (differ f (quote_number f b) credential_kind k tt x);
      }

      fresh : (u : ℕ) → Inside f r u → Fresh f s s' p u
      fresh u i =
          ⊎_elim (λ q. subst⁻¹ (Fresh f s s' p) q own)
          (λ j. ⊎_elim (λ q. subst⁻¹ (Fresh f s s' p) q (fresh_plain w.2 tt))
          (⊎_elim (shown_fresh s' p (quoted_value f b) u value)
          (λ j. subst⁻¹ (Fresh f s s' p) (inside_none f (quote_number f b) u (parts_number f (quote_number f b) k) j) number))
          (inside_two f b u (quoted_value f b) (quote_number f b) (parts_quote f b w.2) j))
          (inside_one f r u b (parts_signature f r w.1) i)
