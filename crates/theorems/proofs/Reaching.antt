-- Each command is a step or changes nothing, and so the invariant holds of every state that the first n commands leave.
-- Assumes nothing.
use mathlib.Core.Path.{◌≡◌, refl, ap, subst⁻¹, ◌∙◌}
use mathlib.Core.Logic.{inl, inr, ⊎_elim}
use mathlib.Core.Bool.{true}
use mathlib.Core.List.{List, [], ◌∷◌, Memᴰ}
use mathlib.Core.Option.{Option, none, some}
use Prim.Native.Nat.{ℕ, zero, suc, ◌<◌}
use native.Mathlib.Omega.{arith}
use native.Mathlib.Decide.{ℕ_discrete}
use lib.ListN.{length, get_elem?, get_or-eq_default}
use Rattle.rules.specs.declared.Term.TheVariants.{Hash}
use Rattle.rules.specs.Limits.{tpm_maker, empty_field}
use Rattle.rules.specs.Term.{certificate_kind, kind_of}
use Rattle.rules.specs.File.{File, learns, signs_with, Command, hash, sign, certify, make_credential, activate_credential, make_idevid_request, make_ldevid_request, make_pair, check_hash, check_signature, check_certificate, check_attributes, send, self_issue, challenge, issue_iak, issue, issue_iaks, extend, quote, IakPair, role_of, term, kind, certified_key, signer, signs_for_role}
use Rattle.rules.specs.Load.{commands_of}
use Rattle.rules.specs.State.{State, start_registers, start}
use Rattle.rules.specs.Desk.{issue_iak_effect, issue_iaks_effect}
use Rattle.rules.specs.Run.{effect_of, outcome, after, reached}
use Rattle.theorems.specs.Residency.{Inside}
use Rattle.theorems.proofs.Inside.{inside_none, inside_one}
use Rattle.theorems.proofs.Learning.{taught_closed, taught_only}
use Rattle.theorems.proofs.Loading.{Checked, PairsFormed, Wellformed}
use Rattle.theorems.proofs.Terms.{parts_public_key, parts_number, parts_certificate, holds_given, signs_role_given}
use Rattle.theorems.proofs.Running.{after_accepted, after_refused, reached_none, reached_next, reached_end, command_member}
use Rattle.theorems.proofs.Registers.{start_shows}
use Rattle.theorems.proofs.Invariant.{Good, Shown, Invariant, Step, invariant_next}
use Rattle.theorems.proofs.Together.{PairsAccepted, pairs_accepted}
use Rattle.theorems.proofs.DeviceSteps.{good_plain, number_good, certificate_good, signer_alone, hash_step, sign_step, certify_step, make_credential_step, activate_credential_step, make_idevid_request_step, make_ldevid_request_step, make_pair_step, send_step, self_issue_step, extend_step, quote_step}
use Rattle.theorems.proofs.DeskSteps.{challenge_step, issue_iak_step, issue_step}

-- some steps, one after the other
pub data Steps (f : File) : State → State → Type 0 where
  still : {s : State} → Steps f s s
  further : {s t u : State} → Step f s t → Steps f t u → Steps f s u

one : {f : File} {s t : State} → Step f s t → Steps f s t
one st = further st still

module _ (f : File) (ck : Checked f) where
  -- a certificate that a 20 gave is signed by a TPM maker
  given_good : (p t : ℕ) → Memᴰ (learns p t) f.setup → kind f t ≡ certificate_kind → signs_for_role f tpm_maker (signer f t) ≡ true → Good f (start f) t
  given_good p t g k h =
      certificate_good f (start f) t k (λ m x r. record { is_certificate = k; party = p; given = g })
      (λ m x n. absurd (n (ap (role_of f) (signer_alone f ck m w.0 (signer f t) w.1 (ck.signs_held m (signer f t) x)) ∙ w.2)))
    where
      w : (q : ℕ) × (Memᴰ (signs_with q (signer f t)) f.setup) × (role_of f q ≡ tpm_maker)
      w = signs_role_given f tpm_maker (signer f t) h

  start_inside : (p t u : ℕ) → Memᴰ (learns p t) f.setup → Inside f t u → Good f (start f) u
  start_inside p t u g i =
      ⊎_elim (λ k. subst⁻¹ (Good f (start f)) (inside_none f t u (parts_public_key f t k) i) (good_plain k tt))
      (⊎_elim (λ k. subst⁻¹ (Good f (start f)) (inside_none f t u (parts_number f t k) i) (number_good f (start f) t k))
      (λ w. ⊎_elim (λ e. subst⁻¹ (Good f (start f)) e (given_good p t g w.0 w.2))
      (λ j. subst⁻¹ (Good f (start f)) (inside_none f (certified_key f t) u (parts_public_key f (certified_key f t) (ck.certified_key_kind t w.0)) j)
      (good_plain (ck.certified_key_kind t w.0) tt))
      (inside_one f t u (certified_key f t) (parts_certificate f t w.0) i)))
      (ck.learns_allowed p t g)

  -- an empty register: no term has its number, and what is not declared counts as a 12
  pub empty_shown : Shown f empty_field
  unfolding kind term kind_of
  empty_shown = inr (ap kind_of (get_or-eq_default f.terms (Hash 0) {n = empty_field} (omega (arith, ck.few_terms))))

  -- a register starts with its 1B, or empty
  start_shown : (p i : ℕ) → Shown f (start_registers f p i)
  start_shown p i = ⊎_elim (λ e. subst⁻¹ (Shown f) e empty_shown) (λ w. inl w.1.0) (start_shows f i p)

  pub start_invariant : Invariant f (start f)
  unfolding start
  start_invariant = record {
    closed = taught_closed f ck.lower f.setup;
    party = λ p t h. let w = taught_only f f.setup p t h in ck.learns_party p w.0 w.1;
    held = λ p k e h. holds_given f p k h;
    good = λ p u h. let w = taught_only f f.setup p u h in start_inside p w.0 u w.1 w.2;
    opened = λ c k h. absurd (omega arith);
    entries = λ i e h. absurd (let z : ◌≡◌ {A = ℕ} 0 1 = cc in omega arith);
    once = λ i j e g h. absurd (let z : ◌≡◌ {A = ℕ} 0 1 = cc in omega arith);
    one_ek = λ i j e g h. absurd (let z : ◌≡◌ {A = ℕ} 0 1 = cc in omega arith);
    shown = start_shown;
  }

  steps_invariant : {s t : State} → Steps f s t → Invariant f s → Invariant f t
  steps_invariant still inv = inv
  steps_invariant (further {s} {t} st more) inv = steps_invariant more (invariant_next f ck s t inv st)

  -- the pairs of a 43, each after those before it
  pairs_steps :
      (p q : ℕ) (xs : List IakPair) (s : State) → Invariant f s → p < length f.roles → q < length f.roles → PairsFormed f xs → PairsAccepted f s p q xs
      → Steps f s (issue_iaks_effect f s p q xs)
  unfolding issue_iaks_effect effect_of
  pairs_steps p q [] s inv l m w a = still
  pairs_steps p q (x ∷ xs) s inv l m w a =
      let st = issue_iak_step f ck s inv p q x.credential x.certificate (l, m, w.0, w.1) a.0 in
      further st (pairs_steps p q xs (issue_iak_effect f s p q x.credential x.certificate) (invariant_next f ck s _ inv st) l m w.2 a.1)

  module _ (s : State) (inv : Invariant f s) where
    -- an accepted command is a step, or changes nothing; a 43 is a step for each pair
    effect_steps : (c : Command) → Wellformed f c → outcome f s c ≡ 0 → Steps f s (effect_of f s c)
    unfolding effect_of
    effect_steps (hash p r) w e = one (hash_step f ck s inv p r w)
    effect_steps (sign p r) w e = one (sign_step f ck s inv p r w e)
    effect_steps (certify p r) w e = one (certify_step f ck s inv p r w e)
    effect_steps (make_credential p r) w e = one (make_credential_step f ck s inv p r w e)
    effect_steps (activate_credential p r) w e = one (activate_credential_step f ck s inv p r w e)
    effect_steps (make_idevid_request p r) w e = one (make_idevid_request_step f ck s inv p r w e)
    effect_steps (make_ldevid_request p r) w e = one (make_ldevid_request_step f ck s inv p r w e)
    effect_steps (make_pair p r) w e = one (make_pair_step f ck s inv p r w e)
    effect_steps (check_hash p h t) w e = still
    effect_steps (check_signature p t k) w e = still
    effect_steps (check_certificate p c k) w e = still
    effect_steps (check_attributes p k a) w e = still
    effect_steps (send p q t) w e = one (send_step f ck s inv p q t w e)
    effect_steps (self_issue p r) w e = one (self_issue_step f ck s inv p r w e)
    effect_steps (challenge p q r) w e = one (challenge_step f ck s inv p q r w e)
    effect_steps (issue_iak p q c r) w e = one (issue_iak_step f ck s inv p q c r w e)
    effect_steps (issue family p q r) w e = one (issue_step f ck s inv family p q r w e)
    effect_steps (issue_iaks p q xs) w e = pairs_steps p q xs s inv w.0 w.1 w.2 (pairs_accepted f s p q xs e)
    effect_steps (extend p i r) w e = one (extend_step f ck s inv p i r w e)
    effect_steps (quote p r) w e = one (quote_step f ck s inv p r w e)

    pub after_steps : (c : Command) → Wellformed f c → Steps f s (after f s c)
    after_steps c w = go (ℕ_discrete (outcome f s c) 0)
      where
        go : Dec (outcome f s c ≡ 0) → Steps f s (after f s c)
        go (yes e) = subst⁻¹ (Steps f s) (after_accepted f s c e) (effect_steps c w e)
        go (no n) = subst⁻¹ (Steps f s) (after_refused f s c n) still

    -- whatever the command, the invariant stays
    pub after_invariant : (c : Command) → Wellformed f c → Invariant f (after f s c)
    after_invariant c w = steps_invariant (after_steps c w) inv

  -- one command more is some steps
  reached_next_steps : (n : ℕ) → Invariant f (reached f n) → Steps f (reached f n) (reached f (suc n))
  reached_next_steps n inv = go (get_elem? (commands_of f) n) refl
    where
      go : (o : Option Command) → get_elem? (commands_of f) n ≡ o → Steps f (reached f n) (reached f (suc n))
      go none e = subst⁻¹ (Steps f (reached f n)) (reached_end f n e) still
      go (some c) e = subst⁻¹ (Steps f (reached f n)) (reached_next f n c e) (after_steps (reached f n) inv c (ck.wellformed c (command_member f n c e)))

  pub reached_invariant : (n : ℕ) → Invariant f (reached f n)
  reached_invariant zero = subst⁻¹ (Invariant f) (reached_none f) start_invariant
  reached_invariant (suc n) =
      let inv = reached_invariant n in
      steps_invariant (reached_next_steps n inv) inv

  pub reached_steps : (n : ℕ) → Steps f (reached f n) (reached f (suc n))
  reached_steps n = reached_next_steps n (reached_invariant n)
