-- Each accepted desk command is a step.
-- Assumes nothing.
use mathlib.Core.Path.{◌≡◌, refl, sym, ap, subst, subst⁻¹, ◌∙◌}
use mathlib.Core.Logic.{◌⊎◌, inl, inr, ⊎_elim}
use mathlib.Core.Bool.{true}
use mathlib.Core.List.{[], ◌∷◌, ◌++◌, Memᴰ}
use mathlib.Core.Option.{some}
use Prim.Native.Nat.{ℕ, ◌+◌, ◌<◌}
use native.Mathlib.Omega.{arith}
use native.Mathlib.Decide.{ℕ_discrete}
use lib.Dec.{eqb}
use lib.ListN.{length, get_elem?}
use borrow.Author.Tests.{eq-eqb, ne_eqb, eqb-true, leb-true}
use Rattle.rules.specs.declared.Attributes.{Attributes}
use Rattle.rules.specs.declared.Entry.{Entry}
use Rattle.rules.specs.declared.Family.{Family}
use Rattle.rules.specs.Limits.{device, tpm_maker, oem_desk, party_limit, depth_limit}
use Rattle.rules.specs.Attributes as flag
use Rattle.rules.specs.Attributes.{has, iak_attributes, ek_attributes}
use Rattle.rules.specs.Families.{signing_role, iak_family}
use Rattle.rules.specs.Term.{signature_kind, attest_kind, credential_kind, number_kind, idevid_request_kind, ldevid_request_kind, pair_kind}
use Rattle.rules.specs.File.{File, signs_with, challenge, issue_iak, issue, role_of, kind, attributes, subject, message, signing_key, certified_key, signer, credential_number, idevid_certificate, idevid_key, ldevid_message, ldevid_certificate, left_of, paired, signs_for_some}
use Rattle.rules.specs.State.{State, number_used, credential_open, credential_closed, listed, depth_of, put, learnt, opening, closing, entered}
use Rattle.rules.specs.Desk.{request_body, form_tests, proof_tests, number_tests, iak_of, ek_certificate_of, ek_of, challenge_tests, challenge_effect, called_for, end_ek, issue_iak_tests, issue_iak_effect, attest_signature_of, new_key_of, parent_certificate_of, issue_tests, issue_effect}
use Rattle.rules.specs.Run.{tests_of, effect_of, outcome}
use Rattle.theorems.specs.Residency.{Inside, Held, Endorsement, OfFamily}
use Rattle.theorems.proofs.Passing.{Passed, passed}
use Rattle.theorems.proofs.Inside.{inside_none, first_part_lem}
use Rattle.theorems.proofs.Learning.{learn_kept, learn_own, learn_only}
use Rattle.theorems.proofs.Loading.{Checked, Wellformed}
use Rattle.theorems.proofs.Terms.{is_kind_kind, is_role_role, same_attributes_lem, same_subject_lem, device_subject_lem, pair_kinds, pair_attributes, parts_credential, parts_idevid_request, parts_ldevid_request, signs_given, signs_role_given}
use Rattle.theorems.proofs.FamilyRows.{RequestRow, request_row}
use Rattle.theorems.proofs.Ledgers.{Listing, at_kept, at_below, listed_kept, listed_last, listed_found}
use Rattle.theorems.proofs.Ends.{new_one, new_below, ends_each}
use Rattle.theorems.proofs.Knowers.{sole}
use Rattle.theorems.proofs.Invariant.{DeviceHolds, KnownToDevice, Attested, Secret, Open, EntryGood, Invariant, descends, Fresh, Gained, Step}
use Rattle.theorems.proofs.Requests.{left_known, parent_listed}
use Rattle.theorems.proofs.DeviceSteps.{differ, credential_good, certificate_fresh, signer_alone}
use Rattle.theorems.proofs.Booleans.{not_both}

pub put_same : (column : ℕ → ℕ) (t x : ℕ) → put column t x t ≡ x
unfolding put
put_same column t x = rw (eq-eqb t t refl)

pub put_other : (column : ℕ → ℕ) (t x u : ℕ) → (u ≡ t → ⊥) → put column t x u ≡ column u
unfolding put
put_other column t x u n = rw (ne_eqb u t n)

iak_fixed : has iak_attributes flag.fixed_tpm ≡ true
unfolding has
iak_fixed = refl

module _ (f : File) (ck : Checked f) (s : State) (inv : Invariant f s) where
  -- a credential is no number
  pub unequal : (c n : ℕ) → kind f c ≡ credential_kind → kind f n ≡ number_kind → c ≡ n → ⊥
  unequal c n h k e = differ f c number_kind h tt (ap (kind f) e ∙ k)

  -- 3E
  pub challenge_passed : (p q r : ℕ) → outcome f s (challenge p q r) ≡ 0 → Passed (challenge_tests f s p q r)
  unfolding outcome tests_of challenge_tests form_tests proof_tests number_tests
  challenge_passed p q r e = passed (challenge_tests f s p q r) refl e

  module _ (p q r : ℕ) (w : Wellformed f (challenge p q r)) (e : outcome f s (challenge p q r) ≡ 0) where
    next_state : State
    next_state = challenge_effect f s p q r

    tests : Passed (challenge_tests f s p q r)
    tests = challenge_passed p q r e

    pub is_number : kind f (credential_number f r) ≡ number_kind
    is_number = ck.credential_number_kind r w.1

    desk_role : role_of f p ≡ oem_desk
    unfolding challenge_tests form_tests proof_tests number_tests
    desk_role = is_role_role f oem_desk p tests.0

    used_now : next_state.mark (credential_number f r) ≡ number_used
    unfolding next_state challenge_effect opening learnt
    used_now =
        put_other (put s.mark (credential_number f r) number_used) r credential_open (credential_number f r) (λ x. unequal r (credential_number f r) w.1 is_number (sym x))
        ∙ put_same s.mark (credential_number f r) number_used

    pub used_after : (challenge_effect f s p q r).mark (credential_number f r) ≡ number_used
    unfolding next_state
    used_after = used_now

    used_kept : (n : ℕ) → kind f n ≡ number_kind → s.mark n ≡ number_used → next_state.mark n ≡ number_used
    unfolding next_state challenge_effect opening learnt
    used_kept n k h =
        put_other (put s.mark (credential_number f r) number_used) r credential_open n (λ x. unequal r n w.1 k (sym x)) ∙ go (ℕ_discrete n (credential_number f r))
      where
        go : Dec (n ≡ credential_number f r) → put s.mark (credential_number f r) number_used n ≡ number_used
        go (yes x) = ap (put s.mark (credential_number f r) number_used) x ∙ put_same s.mark (credential_number f r) number_used
        go (no x) = put_other s.mark (credential_number f r) number_used n x ∙ h

    pub unused : s.mark (credential_number f r) ≡ number_used → ⊥
    unfolding challenge_tests form_tests proof_tests number_tests
    unused h =
        not_both (eqb (s.mark (credential_number f r)) number_used) tests.1.1.1.1.1.1.1.1.1.1.1.1.1.1.1.0
        (eq-eqb (s.mark (credential_number f r)) number_used h)

    -- the desk alone knows the number
    pub alone_before : (x : ℕ) → s.knows x (credential_number f r) ≡ true → x ≡ p
    unfolding challenge_tests form_tests proof_tests number_tests
    alone_before x h =
        sole s.knows (credential_number f r) party_limit x p (few x h) (few p known) h known
        (eqb-true _ 1 tests.1.1.1.1.1.1.1.1.1.1.1.1.1.1.0)
      where
        known : s.knows p (credential_number f r) ≡ true
        known = tests.1.1.1.1.1.1.1.1.1.1.1.1.1.0

        few : (y : ℕ) → s.knows y (credential_number f r) ≡ true → y < party_limit
        few y k = let a = inv.party y (credential_number f r) k in let b = ck.parties in omega arith

    no_device_knows : KnownToDevice f s (credential_number f r) → ⊥
    no_device_knows k =
        let z : oem_desk ≡ device = sym desk_role ∙ ap (role_of f) (sym (alone_before k.party k.knows)) ∙ k.is_device in
        omega arith

    inside_r : (u : ℕ) → Inside f r u → u ≡ r
    inside_r u i = inside_none f r u (parts_credential f r w.1) i

    knows_after : (x u : ℕ) → next_state.knows x u ≡ true → (s.knows x u ≡ true) ⊎ ((x ≡ p) × Inside f r u)
    unfolding next_state challenge_effect opening learnt
    knows_after x u h = learn_only f p r s.knows x u h

    secret : Secret f next_state r p
    secret = record {
      alone = λ x h. ⊎_elim (λ k. alone_before x k) (λ k. k.0) (knows_after x (credential_number f r) h);
      only =
          λ x y h k n.
          ⊎_elim
          (λ b. ⊎_elim (λ u. absurd (unused (mark-N y n u))) (λ d. absurd (no_device_knows (device-N y n d))) ((inv.good x y b).numbered k))
          (λ b. inside_r y b.1) (knows_after x y h);
    }
      where
        mark-N : (y : ℕ) → credential_number f y ≡ credential_number f r → s.mark (credential_number f y) ≡ number_used → s.mark (credential_number f r) ≡ number_used
        mark-N y n u = subst (λ (m : ℕ). s.mark m ≡ number_used) n u

        device-N : (y : ℕ) → credential_number f y ≡ credential_number f r → KnownToDevice f s (credential_number f y) → KnownToDevice f s (credential_number f r)
        device-N y n d = subst (KnownToDevice f s) n d

    -- the request's body and its certificate are known to the desk
    certificate_known : s.knows p (ek_certificate_of f q) ≡ true
    unfolding challenge_tests form_tests proof_tests number_tests ek_certificate_of request_body
    certificate_known =
        inv.closed p (left_of f q) (idevid_certificate f (left_of f q)) (left_known f ck s inv p q (is_kind_kind f pair_kind q tests.1.1.0) tests.1.0)
        (first_part_lem f (left_of f q) (idevid_certificate f (left_of f q)) (idevid_key f (left_of f q) ∷ [])
        (parts_idevid_request f (left_of f q) (is_kind_kind f idevid_request_kind (left_of f q) tests.1.1.1.0)))

    endorsement : Endorsement f (ek_certificate_of f q)
    unfolding challenge_tests form_tests proof_tests number_tests ek_certificate_of request_body
    endorsement =
        let g = signs_role_given f tpm_maker (signer f (ek_certificate_of f q)) tests.1.1.1.1.1.1.1.1.1.1.0 in
        (inv.good p (ek_certificate_of f q) certificate_known).endorsed
        (ck.idevid_certificate_kind (left_of f q) (is_kind_kind f idevid_request_kind (left_of f q) tests.1.1.1.0)) g.0 g.1 g.2

    pub challenge_ek : attributes f (ek_of f q) ≡ ek_attributes
    unfolding challenge_tests form_tests proof_tests number_tests
    challenge_ek = same_attributes_lem _ _ tests.1.1.1.1.1.1.1.1.1.1.1.1.0

    opened_r : Open f next_state r p q
    unfolding challenge_tests form_tests proof_tests number_tests
    opened_r = record {
      used = used_now;
      desk_role = desk_role;
      device_subject = tests.1.1.1.1.1.1.0;
      iak = same_attributes_lem _ _ tests.1.1.1.1.1.1.1.1.1.1.1.0;
      ek = challenge_ek;
      endorsement = endorsement;
      maker = tests.1.1.1.1.1.1.1.1.1.1.0;
      name = eqb-true _ _ tests.1.1.1.1.1.1.1.1.1.1.1.1.1.1.1.1.1.0;
      key = eqb-true _ _ tests.1.1.1.1.1.1.1.1.1.1.1.1.1.1.1.1.1.1.0;
      challenge = inr secret;
    }

    opened_next : (c : ℕ) → kind f c ≡ credential_kind → next_state.mark c ≡ credential_open
        → ((s.mark c ≡ credential_open) × (s.desk c ≡ next_state.desk c) × (s.request c ≡ next_state.request c)) ⊎ Open f next_state c (next_state.desk c) (next_state.request c)
    unfolding next_state challenge_effect opening learnt
    opened_next c k h = go (ℕ_discrete c r)
      where
        S : State
        S = challenge_effect f s p q r

        go : Dec (c ≡ r) → ((s.mark c ≡ credential_open) × (s.desk c ≡ S.desk c) × (s.request c ≡ S.request c)) ⊎ Open f S c (S.desk c) (S.request c)
        go (yes x) =
            inr
            (subst⁻¹ (λ (y : ℕ). Open f S y (S.desk y) (S.request y)) x
            (subst⁻¹ (λ (d : ℕ). Open f S r d (S.request r)) (put_same s.desk r p)
            (subst⁻¹ (λ (m : ℕ). Open f S r p m) (put_same s.request r q) opened_r)))
        go (no x) =
            inl (
              sym (put_other (put s.mark (credential_number f r) number_used) r credential_open c x ∙ put_other s.mark (credential_number f r) number_used c (unequal c (credential_number f r) k is_number)) ∙ h,
              sym (put_other s.desk r p c x),
              sym (put_other s.request r q c x),
            )

    fresh_r : Fresh f s next_state p r
    fresh_r = record {
      good = credential_good f ck s inv next_state r w.1 (inl used_now);
      number = λ x. absurd (differ f r number_kind w.1 tt x);
      credential = λ x. inr (inr unused);
    }

    pub challenge_step : Step f s (effect_of f s (challenge p q r))
    unfolding effect_of next_state challenge_effect opening learnt
    challenge_step = record {
      learner = p;
      lesson = r;
      declared = w.0;
      learnt = refl;
      fresh = λ u i. subst⁻¹ (Fresh f s next_state p) (inside_r u i) fresh_r;
      table_only = λ x k h. inl h;
      grows = record { knows = λ x u h. learn_kept f p r s.knows x u h; table = λ x k h. h; used = used_kept; listed = λ c h. h };
      opened = opened_next;
      ledger = inl refl;
      shows = λ q j. inl refl;
    }

  -- what a desk's signature on a certificate shuts out: the signing key of a TPM maker
  desk_no_maker : (p r role : ℕ) → Memᴰ (signs_with p (signer f r)) f.setup → role_of f p ≡ role → (role ≡ tpm_maker → ⊥)
      → (m : ℕ) → Memᴰ (signs_with m (signer f r)) f.setup → role_of f m ≡ tpm_maker → ⊥
  desk_no_maker p r role g h n m k d =
      n (sym h ∙ ap (role_of f) (signer_alone f ck p m (signer f r) k (ck.signs_held p (signer f r) g)) ∙ d)

  -- 3F
  pub issue_iak_passed : (p q c r : ℕ) → outcome f s (issue_iak p q c r) ≡ 0 → Passed (issue_iak_tests f s p q c r)
  unfolding outcome tests_of issue_iak_tests called_for
  issue_iak_passed p q c r e = passed (issue_iak_tests f s p q c r) refl e

  module _ (p q c r : ℕ) (w : Wellformed f (issue_iak p q c r)) (e : outcome f s (issue_iak p q c r) ≡ 0) where
    iak_state : State
    iak_state = issue_iak_effect f s p q c r

    abbrev iak_entry : Entry
    iak_entry = record { certificate = r; parent = ek_certificate_of f (s.request c); depth = 1 }

    iak_tests : Passed (issue_iak_tests f s p q c r)
    iak_tests = issue_iak_passed p q c r e

    iak_role : role_of f p ≡ oem_desk
    unfolding issue_iak_tests called_for
    iak_role = is_role_role f oem_desk p iak_tests.0

    iak_key : Memᴰ (signs_with p (signer f r)) f.setup
    unfolding issue_iak_tests called_for
    iak_key = signs_given f p (signer f r) iak_tests.1.1.1.1.1.1.1.0

    was_open : Open f s c (s.desk c) (s.request c)
    unfolding issue_iak_tests called_for
    was_open = inv.opened c w.2 (eqb-true (s.mark c) credential_open iak_tests.1.0)

    -- a device returned the number, so that the challenge is met
    met : DeviceHolds f (iak_of f (s.request c)) (ek_of f (s.request c))
    unfolding issue_iak_tests called_for
    met = ⊎_elim (λ d. d) (λ x. absurd (no x)) was_open.challenge
      where
        no : Secret f s c (s.desk c) → ⊥
        no x =
            let z : oem_desk ≡ device = sym was_open.desk_role ∙ ap (role_of f) (sym (x.alone q iak_tests.1.1.1.1.0)) ∙ is_role_role f device q iak_tests.1.1.1.0 in
            omega arith

    iak_certified : certified_key f r ≡ iak_of f (s.request c)
    unfolding issue_iak_tests called_for
    iak_certified = eqb-true _ _ iak_tests.1.1.1.1.1.0

    iak_subject : subject f r ≡ subject f (request_body f (s.request c))
    unfolding issue_iak_tests called_for
    iak_subject = same_subject_lem _ _ iak_tests.1.1.1.1.1.1.0

    iak_attributed : attributes f (certified_key f r) ≡ iak_attributes
    iak_attributed = ap (attributes f) iak_certified ∙ was_open.iak

    pub issue_iak_family : OfFamily f iak_family iak_entry
    unfolding ek_of signs_for_some
    issue_iak_family = record {
      row = Memᴰ.head refl;
      signed = record { is_certificate = w.3; desk = p; desk_key = iak_key; desk_role = iak_role };
      key_attributes = iak_attributed;
      parent_signed = rw was_open.maker refl;
      parent_attributes = was_open.ek;
    }

    iak_good : EntryGood f iak_state (length s.ledger) iak_entry
    unfolding issue_iak_family iak_state issue_iak_effect entered closing learnt ek_of
    iak_good = record {
      family = iak_family;
      of_family = issue_iak_family;
      fixed = subst⁻¹ (λ (a : Attributes). has a flag.fixed_tpm ≡ true) iak_attributed iak_fixed;
      known = learn_own f p r s.knows;
      least = omega arith;
      most = omega arith;
      earlier = inl (refl, was_open.endorsement, (let d = device_subject_lem _ was_open.device_subject in (d.0, iak_subject ∙ d.1)));
      held = record { tpm = met.tpm; is_device = met.is_device; first = subst⁻¹ (Held f met.tpm) iak_certified met.first; second = met.second };
    }

    iak_new : listed s.ledger r ≡ true → ⊥
    unfolding issue_iak_tests called_for
    iak_new h = not_both (listed s.ledger r) iak_tests.1.1.1.1.1.1.1.1.0 h

    -- the new entry's path ends at the EK, as do those of its Subject
    iak_ek : (i : ℕ) (x : Entry) → get_elem? s.ledger i ≡ some x → subject f x.certificate ≡ subject f r → end_ek f s.ledger x ≡ end_ek f (s.ledger ++ (iak_entry ∷ [])) iak_entry
    unfolding issue_iak_tests called_for end_ek ek_of
    iak_ek i x h q =
        ends_each f s.ledger (subject f r) (ek_of f (s.request c)) s.ledger iak_tests.1.1.1.1.1.1.1.1.1.0 i x h q
        ∙ ap (certified_key f) (sym (new_one s.ledger iak_entry iak_new refl))

    iak_gained : Gained f s iak_state
    unfolding iak_state issue_iak_effect entered closing learnt issue_iak_tests called_for
    iak_gained = record {
      entry = iak_entry;
      appended = refl;
      new = iak_new;
      entry_good = iak_good;
      same_ek = iak_ek;
    }

    iak_opened : (x : ℕ) → kind f x ≡ credential_kind → iak_state.mark x ≡ credential_open
        → ((s.mark x ≡ credential_open) × (s.desk x ≡ iak_state.desk x) × (s.request x ≡ iak_state.request x)) ⊎ Open f iak_state x (iak_state.desk x) (iak_state.request x)
    unfolding iak_state issue_iak_effect entered closing learnt
    iak_opened x k h = inl (sym (put_other s.mark c credential_closed x (another (ℕ_discrete x c))) ∙ h, refl, refl)
      where
        another : Dec (x ≡ c) → x ≡ c → ⊥
        another (no n) = n
        another (yes y) = λ v. let z : credential_closed ≡ credential_open = sym (ap (put s.mark c credential_closed) y ∙ put_same s.mark c credential_closed) ∙ h in omega arith

    pub issue_iak_step : Step f s (effect_of f s (issue_iak p q c r))
    unfolding effect_of iak_state issue_iak_effect entered closing learnt
    issue_iak_step = record {
      learner = p;
      lesson = r;
      declared = w.0;
      learnt = refl;
      fresh =
          certificate_fresh f ck s inv iak_state p r w.3 (desk_no_maker p r oem_desk iak_key iak_role (omega arith))
          (λ m g d. listed_last s.ledger iak_entry);
      table_only = λ x k h. inl h;
      grows = record {
        knows = λ x u h. learn_kept f p r s.knows x u h;
        table = λ x k h. h;
        used = λ n k h. put_other s.mark c credential_closed n (λ x. unequal c n w.2 k (sym x)) ∙ h;
        listed = λ x h. listed_kept s.ledger (iak_entry ∷ []) x h;
      };
      opened = iak_opened;
      ledger = inr iak_gained;
      shows = λ q j. inl refl;
    }

  -- 40, 41, 42
  pub issue_passed : (family : Family) (p q r : ℕ) → outcome f s (issue family p q r) ≡ 0 → Passed (issue_tests f s family p q r)
  unfolding outcome tests_of issue_tests form_tests proof_tests called_for
  issue_passed family p q r e = passed (issue_tests f s family p q r) refl e

  module _ (family : Family) (p q r : ℕ) (w : Wellformed f (issue family p q r)) (e : outcome f s (issue family p q r) ≡ 0) where
    row : RequestRow family
    row = request_row family w.3

    issued_state : State
    issued_state = issue_effect f s p q r

    abbrev new_entry : Entry
    new_entry = record { certificate = r; parent = parent_certificate_of f q; depth = depth_of s.ledger (parent_certificate_of f q) + 1 }

    issue_tested : Passed (issue_tests f s family p q r)
    issue_tested = issue_passed family p q r e

    issuer_role : role_of f p ≡ signing_role family
    unfolding issue_tests form_tests proof_tests called_for
    issuer_role = is_role_role f (signing_role family) p issue_tested.0

    issuer_key : Memᴰ (signs_with p (signer f r)) f.setup
    unfolding issue_tests form_tests proof_tests called_for
    issuer_key = signs_given f p (signer f r) issue_tested.1.1.1.1.1.1.1.1.1.1.1.1.1.1.1.1.0

    new_certified : certified_key f r ≡ new_key_of f q
    unfolding issue_tests form_tests proof_tests called_for
    new_certified = eqb-true _ _ issue_tested.1.1.1.1.1.1.1.1.1.1.1.1.1.1.0

    new_subject : subject f r ≡ subject f (parent_certificate_of f q)
    unfolding issue_tests form_tests proof_tests called_for
    new_subject = same_subject_lem _ _ issue_tested.1.1.1.1.1.1.1.1.1.1.1.1.1.1.1.0

    new_attributed : attributes f (certified_key f r) ≡ family.key
    unfolding issue_tests form_tests proof_tests called_for
    new_attributed = ap (attributes f) new_certified ∙ same_attributes_lem _ _ issue_tested.1.1.1.1.1.1.1.1.1.1.1.1.0

    parent_attributed : attributes f (certified_key f (parent_certificate_of f q)) ≡ family.parent
    unfolding issue_tests form_tests proof_tests called_for
    parent_attributed = same_attributes_lem _ _ issue_tested.1.1.1.1.1.1.1.1.1.1.1.1.1.0

    -- the attest's signature is known to the desk
    signature_known : s.knows p (attest_signature_of f q) ≡ true
    unfolding issue_tests form_tests proof_tests called_for attest_signature_of request_body
    signature_known =
        inv.closed p (left_of f q) (ldevid_message f (left_of f q)) (left_known f ck s inv p q (is_kind_kind f pair_kind q issue_tested.1.1.0) issue_tested.1.0)
        (first_part_lem f (left_of f q) (ldevid_message f (left_of f q)) (ldevid_certificate f (left_of f q) ∷ [])
        (parts_ldevid_request f (left_of f q) (is_kind_kind f ldevid_request_kind (left_of f q) issue_tested.1.1.1.0)))

    pairs_with_parent : paired f (certified_key f (parent_certificate_of f q)) (signing_key f (attest_signature_of f q)) ≡ true
    unfolding issue_tests form_tests proof_tests called_for
    pairs_with_parent = issue_tested.1.1.1.1.1.1.1.1.1.1.0

    attested : Attested f s (attest_signature_of f q)
    unfolding issue_tests form_tests proof_tests called_for
    attested =
        (inv.good p (attest_signature_of f q) signature_known).attested
        (is_kind_kind f signature_kind (attest_signature_of f q) issue_tested.1.1.1.1.1.1.0)
        (is_kind_kind f attest_kind (message f (attest_signature_of f q)) issue_tested.1.1.1.1.1.1.1.0)
        (subst⁻¹ (λ (a : Attributes). has a flag.restricted ≡ true)
        (sym (pair_attributes f (certified_key f (parent_certificate_of f q)) (signing_key f (attest_signature_of f q)) pairs_with_parent)
        ∙ parent_attributed) row.restricted)

    new_held : DeviceHolds f (certified_key f r) (certified_key f (parent_certificate_of f q))
    unfolding new_key_of
    new_held = record {
      tpm = attested.tpm;
      is_device = attested.is_device;
      first = subst⁻¹ (Held f attested.tpm) new_certified attested.attested;
      second = record {
        half = signing_key f (attest_signature_of f q);
        pairs = pairs_with_parent;
        given =
            inv.held attested.tpm (signing_key f (attest_signature_of f q))
            (pair_kinds f (certified_key f (parent_certificate_of f q)) (signing_key f (attest_signature_of f q)) pairs_with_parent).1 attested.signing;
      };
    }

    -- past 21 the certificate in the request is a desk's, and so it is listed
    parent_listing : Listing s.ledger (parent_certificate_of f q)
    unfolding issue_tests form_tests proof_tests called_for request_body
    parent_listing =
        listed_found s.ledger (parent_certificate_of f q)
        (parent_listed f ck s inv p q
        (record {
          known = issue_tested.1.0;
          pair = is_kind_kind f pair_kind q issue_tested.1.1.0;
          body = is_kind_kind f ldevid_request_kind (left_of f q) issue_tested.1.1.1.0;
          family = family;
          row = w.3;
          signed = issue_tested.1.1.1.1.1.1.1.1.1.1.1.0;
        }))

    pub issue_family : OfFamily f family new_entry
    unfolding issue_tests form_tests proof_tests called_for
    issue_family = record {
      row = Memᴰ.tail w.3;
      signed = record { is_certificate = w.1; desk = p; desk_key = issuer_key; desk_role = issuer_role };
      key_attributes = new_attributed;
      parent_signed = issue_tested.1.1.1.1.1.1.1.1.1.1.1.0;
      parent_attributes = parent_attributed;
    }

    new_good : EntryGood f issued_state (length s.ledger) new_entry
    unfolding issue_family issued_state issue_effect entered learnt issue_tests form_tests proof_tests called_for
    new_good = record {
      family = family;
      of_family = issue_family;
      fixed = subst⁻¹ (λ (a : Attributes). has a flag.fixed_tpm ≡ true) new_attributed row.fixed;
      known = learn_own f p r s.knows;
      least = omega arith;
      most = leb-true _ depth_limit issue_tested.1.1.1.1.1.1.1.1.1.1.1.1.1.1.1.1.1.1.0;
      earlier =
          inr (
            parent_listing.place,
            parent_listing.entry,
            at_below s.ledger parent_listing.place parent_listing.entry parent_listing.here,
            at_kept s.ledger (new_entry ∷ []) parent_listing.place parent_listing.entry parent_listing.here,
            parent_listing.same,
            (let d = parent_listing.depth in omega arith),
            new_subject,
          );
      held = new_held;
    }

    new_new : listed s.ledger r ≡ true → ⊥
    unfolding issue_tests form_tests proof_tests called_for
    new_new h = not_both (listed s.ledger r) issue_tested.1.1.1.1.1.1.1.1.1.1.1.1.1.1.1.1.1.0 h

    -- the new entry's path ends where its parent's does
    new_end : end_ek f s.ledger parent_listing.entry ≡ end_ek f (s.ledger ++ (new_entry ∷ [])) new_entry
    unfolding end_ek
    new_end =
        let w = parent_listing in
        ap (certified_key f) (sym (new_below s.ledger new_entry new_new inv.once (descends f s inv) w.place w.entry w.here w.same (let d = w.depth in omega arith)))

    new_ek : (i : ℕ) (x : Entry) → get_elem? s.ledger i ≡ some x → subject f x.certificate ≡ subject f r → end_ek f s.ledger x ≡ end_ek f (s.ledger ++ (new_entry ∷ [])) new_entry
    new_ek i x h q =
        inv.one_ek i parent_listing.place x parent_listing.entry h parent_listing.here (q ∙ new_subject ∙ ap (subject f) (sym parent_listing.same))
        ∙ new_end

    new_gained : Gained f s issued_state
    unfolding issued_state issue_effect entered learnt issue_tests form_tests proof_tests called_for
    new_gained = record {
      entry = new_entry;
      appended = refl;
      new = new_new;
      entry_good = new_good;
      same_ek = new_ek;
    }

    pub issue_step : Step f s (effect_of f s (issue family p q r))
    unfolding effect_of issued_state issue_effect entered learnt
    issue_step = record {
      learner = p;
      lesson = r;
      declared = w.0;
      learnt = refl;
      fresh =
          certificate_fresh f ck s inv issued_state p r w.1 (desk_no_maker p r (signing_role family) issuer_key issuer_role row.desk)
          (λ m g d. listed_last s.ledger new_entry);
      table_only = λ x k h. inl h;
      grows = record {
        knows = λ x u h. learn_kept f p r s.knows x u h;
        table = λ x k h. h;
        used = λ n k h. h;
        listed = λ x h. listed_kept s.ledger (new_entry ∷ []) x h;
      };
      opened = λ c k h. inl (h, refl, refl);
      ledger = inr new_gained;
      shows = λ q j. inl refl;
    }
