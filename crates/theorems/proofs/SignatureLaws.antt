-- Who made a signature that somebody knows, by going back through the commands.
--     Origin          where a signature in a lesson comes from: it was known, or the command made it
--     origin          of each command
--     made            of any number of commands
-- Assumes nothing.
use mathlib.Core.Path.{◌≡◌, refl, sym, ap, subst, subst⁻¹, ◌∙◌}
use mathlib.Core.Logic.{◌⊎◌, inl, inr, ⊎_elim}
use mathlib.Core.Bool.{true, not}
use mathlib.Core.List.{[], ◌∷◌, Memᴰ}
use Prim.Native.Nat.{ℕ, zero, suc, ◌<◌, ◌≤◌}
use native.Mathlib.Omega.{arith}
use native.Mathlib.Nat.{le_refl}
use lib.Dec.{T, eqb}
use borrow.Author.Tests.{eqb-true}
use Rattle.rules.specs.Limits.{device}
use Rattle.rules.specs.Attributes as flag
use Rattle.rules.specs.Attributes.{has}
use Rattle.rules.specs.Term.{public_key_kind, hash_kind, signature_kind, attest_kind, certificate_kind, quote_kind}
use Rattle.rules.specs.File.{File, learns, Command, hash, sign, certify, make_credential, activate_credential, make_idevid_request, make_ldevid_request, make_pair, check_hash, check_signature, check_certificate, check_attributes, send, self_issue, challenge, issue_iak, issue, issue_iaks, extend, quote, role_of, kind, is_kind, parts, attributes, message, signing_key, attested_key, certified_key, credential_number, idevid_certificate, idevid_key, ldevid_message, ldevid_certificate, left_of, right_of, register_of, quoted_value, quote_number}
use Rattle.rules.specs.State.{State}
use Rattle.rules.specs.Device.{device_role, key_has, sign_tests, certify_tests, both_known_tests, send_tests, quote_tests}
use Rattle.rules.specs.Run.{tests_of, outcome, reached}
use Rattle.theorems.specs.Residency.{Inside, Teaches, Known, by_setup, by_command}
use Rattle.theorems.proofs.Booleans.{or_true, not_both}
use Rattle.theorems.proofs.Passing.{Passed, passed}
use Rattle.theorems.proofs.Learning.{inside_known}
use Rattle.theorems.proofs.Inside.{inside_none, inside_one, inside_two}
use Rattle.theorems.proofs.Loading.{Checked, Wellformed, checked}
use Rattle.theorems.proofs.Terms.{is_kind_kind, is_role_role, parts_public_key, parts_hash, parts_credential, parts_number, parts_signature, parts_attest, parts_idevid_request, parts_ldevid_request, parts_certificate, parts_pair, parts_register, parts_quote}
use Rattle.theorems.proofs.Running.{command_member}
use Rattle.theorems.proofs.Registers.{quote_passed}
use Rattle.theorems.proofs.Invariant.{Shown, Invariant}
use Rattle.theorems.proofs.Reaching.{reached_invariant}
use Rattle.theorems.proofs.DeviceSteps.{differ, held_half}
use Rattle.theorems.proofs.Judging.{formed_certificate}
use Rattle.theorems.proofs.History.{bits_known}
use Rattle.theorems.specs.QuoteLaws.{Restricted}
use Rattle.theorems.specs.SignatureLaws.{Making, by_sign, by_certify, by_quote, Made, SignatureMade, FixedMaker, OtherMade, SignatureLaws}

-- what the command that makes a signature was, in the state that it met
record Maker (f : File) (s : State) (c : Command) (u : ℕ) : Type 0 where
  party : ℕ
  is_device : role_of f party ≡ device
  held : s.table party (signing_key f u) ≡ true
  may_sign : has (attributes f (signing_key f u)) flag.sign ≡ true
  making : Making f s u party c

-- a signature in what a command teaches was known to somebody, or the command makes it
abbrev Origin : File → State → Command → ℕ → Type 0
Origin f s c u = ((p : ℕ) × (s.knows p u ≡ true)) ⊎ Maker f s c u

module _ (f : File) (ck : Checked f) (s : State) (inv : Invariant f s) (u : ℕ) (is_signature : kind f u ≡ signature_kind) where
  -- a term of another kind with nothing in it, or with a public key in it
  not_alone : {k : ℕ} (t : ℕ) → kind f t ≡ k → T (not (eqb k signature_kind)) → parts f t ≡ [] → Inside f t u → ⊥
  not_alone t h d e i = differ f t signature_kind h d (ap (kind f) (sym (inside_none f t u e i)) ∙ is_signature)

  not_itself : {k : ℕ} (t : ℕ) → kind f t ≡ k → T (not (eqb k signature_kind)) → u ≡ t → ⊥
  not_itself t h d e = differ f t signature_kind h d (ap (kind f) (sym e) ∙ is_signature)

  not_key : (t : ℕ) → kind f t ≡ public_key_kind → Inside f t u → ⊥
  not_key t h i = not_alone t h tt (parts_public_key f t h) i

  not_certificate : (t : ℕ) → kind f t ≡ certificate_kind → Inside f t u → ⊥
  not_certificate t h i =
      ⊎_elim (not_itself t h tt) (not_key (certified_key f t) (ck.certified_key_kind t h)) (inside_one f t u (certified_key f t) (parts_certificate f t h) i)

  not_attest : (t : ℕ) → kind f t ≡ attest_kind → Inside f t u → ⊥
  not_attest t h i =
      ⊎_elim (not_itself t h tt) (not_key (attested_key f t) (ck.attested_key_kind t h)) (inside_one f t u (attested_key f t) (parts_attest f t h) i)

  -- one in a term that was known
  known_in : {c : Command} (p t : ℕ) → s.knows p t ≡ true → Inside f t u → Origin f s c u
  known_in p t k i = inl (p, inside_known f s.knows inv.closed p t u k i)

  -- 31
  sign_origin : (p r : ℕ) → Wellformed f (sign p r) → outcome f s (sign p r) ≡ 0 → Inside f r u → Origin f s (sign p r) u
  unfolding outcome tests_of sign_tests device_role key_has
  sign_origin p r w e i =
      ⊎_elim
      (λ q. inr (subst⁻¹ (λ (x : ℕ). Maker f s (sign p r) x) q (record {
        party = p;
        is_device = is_role_role f device p h.0;
        held = h.1.1.0;
        may_sign = h.1.1.1.0;
        making = by_sign (λ b. (hashed b, ticket b));
      })))
      (λ j. ⊎_elim (λ b. absurd (not_alone (message f r) (hashed b) tt (parts_hash f (message f r) (hashed b)) j)) (λ k. known_in p (message f r) k j)
      (or_true (has (attributes f (signing_key f r)) flag.restricted) (s.knows p (message f r)) h.1.0))
      (inside_one f r u (message f r) (parts_signature f r w.1) i)
    where
      h : Passed (sign_tests f s p r)
      h = passed (sign_tests f s p r) refl e

      hashed : Restricted f r → kind f (message f r) ≡ hash_kind
      hashed b =
          ⊎_elim (λ n. absurd (not_both _ n b)) (is_kind_kind f hash_kind (message f r))
          (or_true (not (has (attributes f (signing_key f r)) flag.restricted)) (is_kind f hash_kind (message f r)) h.1.1.1.1.0)

      ticket : Restricted f r → s.table p (message f r) ≡ true
      ticket b =
          ⊎_elim (λ n. absurd (not_both _ n b)) (λ y. y)
          (or_true (not (has (attributes f (signing_key f r)) flag.restricted)) (s.table p (message f r)) h.1.1.1.1.1.0)

  -- 32
  certify_origin : (p r : ℕ) → Wellformed f (certify p r) → outcome f s (certify p r) ≡ 0 → Inside f r u → Origin f s (certify p r) u
  unfolding outcome tests_of certify_tests device_role key_has
  certify_origin p r w e i =
      let h = passed (certify_tests f s p r) refl e in
      ⊎_elim
      (λ q. inr (subst⁻¹ (λ (x : ℕ). Maker f s (certify p r) x) q (record {
        party = p;
        is_device = is_role_role f device p h.0;
        held = h.1.0;
        may_sign = h.1.1.1.0;
        making = by_certify w.2 (held_half f ck s inv p (attested_key f (message f r)) h.1.1.0);
      })))
      (λ j. absurd (not_attest (message f r) w.2 j))
      (inside_one f r u (message f r) (parts_signature f r w.1) i)

  -- 45: neither a number nor what a register shows is a signature or has one in it
  not_shown : (t : ℕ) → Shown f t → Inside f t u → ⊥
  not_shown t x i = ⊎_elim (λ k. not_alone t k tt (parts_register f t k) i) (λ k. not_alone t k tt (parts_hash f t k) i) x

  quote_origin : (p r : ℕ) → Wellformed f (quote p r) → outcome f s (quote p r) ≡ 0 → Inside f r u → Origin f s (quote p r) u
  unfolding quote_tests device_role key_has
  quote_origin p r w e i =
      let h = quote_passed f s p r e in
      let b = message f r in
      let v : s.registers p (register_of f b) ≡ quoted_value f b = eqb-true _ _ h.1.1.1.1.1.0 in
      let k = ck.quote_number_kind b w.2 in
      ⊎_elim
      (λ q. inr (subst⁻¹ (λ (x : ℕ). Maker f s (quote p r) x) q (record {
        party = p;
        is_device = is_role_role f device p h.0;
        held = h.1.1.0;
        may_sign = h.1.1.1.0;
        making = by_quote w.2 v;
      })))
      (λ j. absurd (⊎_elim (not_itself b w.2 tt)
      (⊎_elim (not_shown (quoted_value f b) (subst (Shown f) v (inv.shown p (register_of f b)))) (not_alone (quote_number f b) k tt (parts_number f (quote_number f b) k)))
      (inside_two f b u (quoted_value f b) (quote_number f b) (parts_quote f b w.2) j)))
      (inside_one f r u b (parts_signature f r w.1) i)

  -- 35, 36, 37
  joined_origin : {c : Command} {k : ℕ} (p r a b : ℕ) → kind f r ≡ k → T (not (eqb k signature_kind)) → parts f r ≡ a ∷ b ∷ [] → Passed (both_known_tests f s p a b) → Inside f r u → Origin f s c u
  unfolding both_known_tests device_role
  joined_origin p r a b h d e w i =
      ⊎_elim (λ q. absurd (not_itself r h d q)) (⊎_elim (known_in p a w.1.0) (known_in p b w.1.1.0)) (inside_two f r u a b e i)

  -- what is in a term is what is in another that equals it
  at : {t r : ℕ} → t ≡ r → Inside f t u → Inside f r u
  at e i = subst (λ (x : ℕ). Inside f x u) e i

  origin : (c : Command) → Wellformed f c → outcome f s c ≡ 0 → (q t : ℕ) → Teaches f c q t → Inside f t u → Origin f s c u
  unfolding outcome tests_of both_known_tests device_role send_tests
  origin (hash p r) w e q t g i = absurd (not_alone r w.1 tt (parts_hash f r w.1) (at g.1 i))
  origin (sign p r) w e q t g i = sign_origin p r w e (at g.1 i)
  origin (certify p r) w e q t g i = certify_origin p r w e (at g.1 i)
  origin (make_credential p r) w e q t g i = absurd (not_alone r w.1 tt (parts_credential f r w.1) (at g.1 i))
  origin (activate_credential p r) w e q t g i =
      let k = ck.credential_number_kind r w.1 in
      absurd (not_alone (credential_number f r) k tt (parts_number f (credential_number f r) k) (at g.1 i))
  origin (make_idevid_request p r) w e q t g i =
      joined_origin p r (idevid_certificate f r) (idevid_key f r) w.1 tt (parts_idevid_request f r w.1) (passed (both_known_tests f s p (idevid_certificate f r) (idevid_key f r)) refl e) (at g.1 i)
  origin (make_ldevid_request p r) w e q t g i =
      joined_origin p r (ldevid_message f r) (ldevid_certificate f r) w.1 tt (parts_ldevid_request f r w.1) (passed (both_known_tests f s p (ldevid_message f r) (ldevid_certificate f r)) refl e) (at g.1 i)
  origin (make_pair p r) w e q t g i =
      joined_origin p r (left_of f r) (right_of f r) w.1 tt (parts_pair f r w.1) (passed (both_known_tests f s p (left_of f r) (right_of f r)) refl e) (at g.1 i)
  origin (check_hash p h x) w e q t g i = absurd g
  origin (check_signature p x k) w e q t g i = absurd g
  origin (check_certificate p c k) w e q t g i = absurd g
  origin (check_attributes p k a) w e q t g i = absurd g
  origin (send p r x) w e q t g i = known_in p x (passed (send_tests f s p x) refl e).1.0 (at g.1 i)
  origin (self_issue p r) w e q t g i = absurd (not_certificate r w.1 (at g.1 i))
  origin (challenge p x r) w e q t g i = absurd (not_alone r w.1 tt (parts_credential f r w.1) (at g.1 i))
  origin (issue_iak p x c r) w e q t g i = absurd (not_certificate r w.3 (at g.1 i))
  origin (issue family p x r) w e q t g i = absurd (not_certificate r w.1 (at g.1 i))
  origin (issue_iaks p x xs) w e q t g i = absurd (not_certificate t (formed_certificate f xs w.2 t g.1) i)
  origin (extend p j r) w e q t g i = absurd g
  origin (quote p r) w e q t g i = quote_origin p r w e (at g.1 i)

module _ (f : File) (ck : Checked f) (u : ℕ) (is_signature : kind f u ≡ signature_kind) where
  made_later : (i n : ℕ) → i ≤ n → Made f i u → Made f n u
  made_later i n l m = record {
    ordinal = m.ordinal;
    before = let b = m.before in omega arith;
    command = m.command;
    accepted = m.accepted;
    party = m.party;
    is_device = m.is_device;
    held = m.held;
    may_sign = m.may_sign;
    making = m.making;
  }

  -- a 20 gives none
  not_given : (p t : ℕ) → Memᴰ (learns p t) f.setup → Inside f t u → ⊥
  not_given p t m i =
      ⊎_elim (λ k. not_key f ck (reached f 0) inv u is_signature t k i)
      (⊎_elim (λ k. not_alone f ck (reached f 0) inv u is_signature t k tt (parts_number f t k) i)
      (λ w. not_certificate f ck (reached f 0) inv u is_signature t w.0 i))
      (ck.learns_allowed p t m)
    where
      inv : Invariant f (reached f 0)
      inv = reached_invariant f ck 0

  -- the first number bounds how many commands there are to go back through
  made : (k n p : ℕ) → n < k → Known f n p u → Made f n u
  made zero n p l h = absurd (omega arith)
  made (suc k) n p l (by_setup t m i) = absurd (not_given p t m i)
  made (suc k) n p l (by_command i c t b a g x) =
      go (origin f ck (reached f i) (reached_invariant f ck i) u is_signature c (ck.wellformed c (command_member f i c a.here)) a.zero_outcome p t g x) (made k i)
    where
      go : Origin f (reached f i) c u → ((q : ℕ) → i < k → Known f i q u → Made f i u) → Made f n u
      go (inl w) earlier = made_later i n (omega arith) (earlier w.0 (omega arith) (bits_known f i w.0 u w.1))
      go (inr m) earlier = record {
        ordinal = i;
        before = b;
        command = c;
        accepted = a;
        party = m.party;
        is_device = m.is_device;
        held = (reached_invariant f ck i).held m.party (signing_key f u) (ck.signing_key_kind u is_signature) m.held;
        may_sign = m.may_sign;
        making = m.making;
      }

pub signature_made_lem : SignatureMade
signature_made_lem bytes f loads n p u h k = made f (checked bytes f loads) u k (suc n) n p (le_refl (suc n)) h

pub fixed_maker_lem : FixedMaker
fixed_maker_lem bytes f loads n u x m q g = (checked bytes f loads).holds_once q m.party (signing_key f u) g m.held x

-- what a command may make of a Restricted key's
abbrev Kinds : File → ℕ → Type 0
Kinds f u = (kind f (message f u) ≡ hash_kind) ⊎ ((kind f (message f u) ≡ attest_kind) ⊎ (kind f (message f u) ≡ quote_kind))

restricted_making : {f : File} {s : State} {u p : ℕ} {c : Command} → Restricted f u → Making f s u p c → Kinds f u
restricted_making b (by_sign h) = inl (h b).0
restricted_making b (by_certify k h) = inr (inl k)
restricted_making b (by_quote k h) = inr (inr k)

other_made_lem : OtherMade
other_made_lem bytes f loads n p u h k b x y z = ⊎_elim x (⊎_elim y z) (restricted_making b (signature_made_lem bytes f loads n p u h k).making)

pub signature_laws : SignatureLaws
signature_laws = record { signature_made = signature_made_lem; fixed_maker = fixed_maker_lem; other_made = other_made_lem }
