-- What every command keeps.
--     kept-start     it holds of what the set-up leaves
--     kept-after     a command keeps it
-- Assumes nothing.
use mathlib.Core.Path.{◌≡◌, refl, sym, ap, subst⁻¹, ◌∙◌}
use mathlib.Core.Logic.{⊎_elim}
use mathlib.Core.Bool.{Bool, true, false, false≢true, cond}
use mathlib.Core.List.{List, [], ◌∷◌}
use Prim.Native.Nat.{ℕ, ◌<◌, ◌≤◌}
use native.Mathlib.Omega.{arith}
use native.Mathlib.Decide.{ℕ_discrete}
use lib.ListN.{length}
use Rattle.rules.specs.declared.Entry.{Entry}
use Rattle.rules.specs.Term.{hash_kind, signature_kind, credential_kind, idevid_request_kind, certificate_kind, pair_kind}
use Rattle.rules.specs.File.{File, Command, hash, sign, certify, make_credential, activate_credential, make_idevid_request, make_ldevid_request, make_pair, check_hash, check_signature, check_certificate, check_attributes, send, self_issue, challenge, issue_iak, issue, issue_iaks, extend, quote, IakPair, kind, hashed_term, credential_number}
use Rattle.rules.specs.Learning.{Knowledge, grant, learn}
use Rattle.rules.specs.State.{State, start, number_used, credential_open, credential_closed, put, learnt, ticketed, opening, closing, entered, showing}
use Rattle.rules.specs.Device.{no_ticket, hash_effect}
use Rattle.rules.specs.Desk.{request_body, request_signature, form_tests, proof_tests, number_tests, challenge_tests, challenge_effect, issue_iak_effect, issue_effect, issue_iaks_effect}
use Rattle.rules.specs.Run.{tests_of, effect_of, outcome, after}
use Rattle.theorems.proofs.Learning.{grant_only, learn_only}
use Rattle.theorems.proofs.Loading.{Checked, PairsFormed, Wellformed}
use Rattle.theorems.proofs.Terms.{is_kind_kind, declared}
use Rattle.theorems.proofs.Passing.{Passed, passed}
use Rattle.theorems.proofs.Running.{after_accepted, after_refused}
use Rattle.theorems.proofs.DeskSteps.{put_same, put_other}
use Rattle.theorems.proofs.Reaching.{start_invariant, after_invariant}
use Rattle.loader.proofs.Final.{never_true, inside_lower, unknown, unheld}
use Rattle.requests.specs.Formed.{Requested}
use Rattle.commands.specs.Standing.{Blank, Kept}

-- what is kept beside the invariant
record Rest (f : File) (x : State) : Type 0 where
  requested : (c : ℕ) → x.mark c ≡ credential_open → Requested f (x.request c)
  blank : (t : ℕ) → length f.terms ≤ t → Blank x t

put_apart : (column : ℕ → ℕ) (t x u : ℕ) → t < u → put column t x u ≡ column u
put_apart column t x u l = put_other column t x u (λ e. omega arith)

module _ {f : File} (ck : Checked f) where
  learn_apart : (p t : ℕ) (known : Knowledge) (q u : ℕ) → t < length f.terms → length f.terms ≤ u → known q u ≡ false → learn f p t known q u ≡ false
  learn_apart p t known q u l m e =
      never_true (learn f p t known q u)
      (λ h. ⊎_elim (λ i. false≢true (sym e ∙ i)) (λ w. omega (arith, inside_lower f ck.lower w.1)) (learn_only f p t known q u h))

  learnt_rest : {x : State} (p : ℕ) {t : ℕ} → t < length f.terms → Rest f x → Rest f (learnt f x p t)
  unfolding learnt
  learnt_rest {x} p {t} l k = record {
    requested = k.requested;
    blank =
        λ u m.
        let b = k.blank u m in
        record { knows = λ q. learn_apart p t x.knows q u l m (b.knows q); table = b.table; mark = b.mark; desk = b.desk; request = b.request };
  }

grant_apart : (known : Knowledge) (p t q u : ℕ) → t < u → known q u ≡ false → grant known p t q u ≡ false
grant_apart known p t q u l e = never_true (grant known p t q u) (λ h. ⊎_elim (λ i. false≢true (sym e ∙ i)) (λ w. omega (arith, w.1)) (grant_only known p t q u h))

module _ {f : File} {x : State} (k : Rest f x) where
  ticketed_rest : (p : ℕ) {h : ℕ} → h < length f.terms → Rest f (ticketed x p h)
  unfolding ticketed
  ticketed_rest p {h} l = record {
    requested = k.requested;
    blank =
        λ u m.
        let b = k.blank u m in
        record { knows = b.knows; table = λ q. grant_apart x.table p h q u (omega arith) (b.table q); mark = b.mark; desk = b.desk; request = b.request };
  }

  entered_rest : (e : Entry) → Rest f (entered x e)
  unfolding entered
  entered_rest e = record {
    requested = k.requested;
    blank = λ u m. let b = k.blank u m in record { knows = b.knows; table = b.table; mark = b.mark; desk = b.desk; request = b.request };
  }

  showing_rest : (p i r : ℕ) → Rest f (showing x p i r)
  unfolding showing
  showing_rest p i r = record {
    requested = k.requested;
    blank = λ u m. let b = k.blank u m in record { knows = b.knows; table = b.table; mark = b.mark; desk = b.desk; request = b.request };
  }

  closing_rest : {c : ℕ} → c < length f.terms → Rest f (closing x c)
  unfolding closing
  closing_rest {c} l = record {
    requested = λ d h. k.requested d (still_open d h (ℕ_discrete d c));
    blank =
        λ u m.
        let b = k.blank u m in
        record { knows = b.knows; table = b.table; mark = put_apart x.mark c credential_closed u (omega arith) ∙ b.mark; desk = b.desk; request = b.request };
  }
    where
      still_open : (d : ℕ) → put x.mark c credential_closed d ≡ credential_open → Dec (d ≡ c) → x.mark d ≡ credential_open
      still_open d h (yes e) = absurd (let z : credential_closed ≡ credential_open = sym (ap (put x.mark c credential_closed) e ∙ put_same x.mark c credential_closed) ∙ h in omega arith)
      still_open d h (no n) = sym (put_other x.mark c credential_closed d n) ∙ h

  opening_rest : {number c q : ℕ} (p : ℕ) → number < length f.terms → c < length f.terms → Requested f q → Rest f (opening x number c q p)
  unfolding opening
  opening_rest {number} {c} {q} p l m w = record {
    requested = λ d h. opened d h (ℕ_discrete d c);
    blank =
        λ u i.
        let b = k.blank u i in
        record {
          knows = b.knows;
          table = b.table;
          mark = put_apart marked c credential_open u (omega arith) ∙ put_apart x.mark number number_used u (omega arith) ∙ b.mark;
          desk = put_apart x.desk c p u (omega arith) ∙ b.desk;
          request = put_apart x.request c q u (omega arith) ∙ b.request;
        };
  }
    where
      marked : ℕ → ℕ
      marked = put x.mark number number_used

      was_open_lem : (d : ℕ) → marked d ≡ credential_open → Dec (d ≡ number) → x.mark d ≡ credential_open
      was_open_lem d h (yes e) = absurd (let z : number_used ≡ credential_open = sym (ap marked e ∙ put_same x.mark number number_used) ∙ h in omega arith)
      was_open_lem d h (no n) = sym (put_other x.mark number number_used d n) ∙ h

      opened : (d : ℕ) → put marked c credential_open d ≡ credential_open → Dec (d ≡ c) → Requested f (put x.request c q d)
      opened d h (yes e) = subst⁻¹ (Requested f) (ap (put x.request c q) e ∙ put_same x.request c q) w
      opened d h (no n) =
          subst⁻¹ (Requested f) (put_other x.request c q d n)
          (k.requested d (was_open_lem d (sym (put_other marked c credential_open d n) ∙ h) (ℕ_discrete d number)))

-- the request of an accepted 3E has its form
challenge_requested : (f : File) (x : State) (p q r : ℕ) → q < length f.terms → outcome f x (challenge p q r) ≡ 0 → Requested f q
unfolding outcome tests_of challenge_tests form_tests proof_tests number_tests request_body request_signature
challenge_requested f x p q r l e =
    let w : Passed (challenge_tests f x p q r) = passed (challenge_tests f x p q r) refl e in
    record {
      declared = l;
      formed = record { pair = is_kind_kind f pair_kind q w.1.1.0; signature = is_kind_kind f signature_kind _ w.1.1.1.1.0; hash = is_kind_kind f hash_kind _ w.1.1.1.1.1.0 };
      body = is_kind_kind f idevid_request_kind _ w.1.1.1.0;
    }

-- 3F, and the pairs of a 43
iak_rest : {f : File} → Checked f → (x : State) → Rest f x → (p q c r : ℕ) → kind f c ≡ credential_kind → kind f r ≡ certificate_kind → Rest f (issue_iak_effect f x p q c r)
unfolding issue_iak_effect
iak_rest {f} ck x k p q c r h l = entered_rest (closing_rest (learnt_rest ck p (declared f r (λ z. omega (arith, l))) k) (declared f c (λ z. omega (arith, h)))) _

pairs_rest : {f : File} → Checked f → (p q : ℕ) (xs : List IakPair) (x : State) → Rest f x → PairsFormed f xs → Rest f (issue_iaks_effect f x p q xs)
unfolding issue_iaks_effect
pairs_rest ck p q [] x k w = k
pairs_rest {f} ck p q (y ∷ xs) x k w = pairs_rest ck p q xs (issue_iak_effect f x p q y.credential y.certificate) (iak_rest ck x k p q y.credential y.certificate w.0 w.1) w.2

module _ {f : File} (ck : Checked f) (x : State) (k : Rest f x) where
  effect_rest : (c : Command) → Wellformed f c → outcome f x c ≡ 0 → Rest f (effect_of f x c)
  unfolding effect_of hash_effect challenge_effect issue_effect
  effect_rest (hash p r) w e = either (no_ticket f (hashed_term f r))
    where
      either : (b : Bool) → Rest f (cond b (learnt f x p r) (ticketed (learnt f x p r) p r))
      either true = learnt_rest ck p w.2 k
      either false = ticketed_rest (learnt_rest ck p w.2 k) p w.2
  effect_rest (sign p r) w e = learnt_rest ck p (declared f r (λ z. omega (arith, w.1))) k
  effect_rest (certify p r) w e = learnt_rest ck p (declared f r (λ z. omega (arith, w.1))) k
  effect_rest (make_credential p r) w e = learnt_rest ck p (declared f r (λ z. omega (arith, w.1))) k
  effect_rest (activate_credential p r) w e = learnt_rest ck p (declared f (credential_number f r) (λ z. omega (arith, ck.credential_number_kind r w.1))) k
  effect_rest (make_idevid_request p r) w e = learnt_rest ck p (declared f r (λ z. omega (arith, w.1))) k
  effect_rest (make_ldevid_request p r) w e = learnt_rest ck p (declared f r (λ z. omega (arith, w.1))) k
  effect_rest (make_pair p r) w e = learnt_rest ck p (declared f r (λ z. omega (arith, w.1))) k
  effect_rest (check_hash p h t) w e = k
  effect_rest (check_signature p t j) w e = k
  effect_rest (check_certificate p c j) w e = k
  effect_rest (check_attributes p j a) w e = k
  effect_rest (send p q t) w e = learnt_rest ck q w.2 k
  effect_rest (self_issue p r) w e = learnt_rest ck p (declared f r (λ z. omega (arith, w.1))) k
  effect_rest (challenge p q r) w e =
      let l = declared f r (λ z. omega (arith, w.1)) in
      opening_rest (learnt_rest ck p l k) p (declared f (credential_number f r) (λ z. omega (arith, ck.credential_number_kind r w.1))) l (challenge_requested f x p q r w.2 e)
  effect_rest (issue_iak p q c r) w e = iak_rest ck x k p q c r w.2 w.3
  effect_rest (issue family p q r) w e = entered_rest (learnt_rest ck p (declared f r (λ z. omega (arith, w.1))) k) _
  effect_rest (issue_iaks p q xs) w e = pairs_rest ck p q xs x k w.2
  effect_rest (extend p i r) w e = showing_rest k p i r
  effect_rest (quote p r) w e = learnt_rest ck p (declared f r (λ z. omega (arith, w.1))) k

  after_rest : (c : Command) → Wellformed f c → Rest f (after f x c)
  after_rest c w = go (ℕ_discrete (outcome f x c) 0)
    where
      go : Dec (outcome f x c ≡ 0) → Rest f (after f x c)
      go (yes e) = subst⁻¹ (Rest f) (after_accepted f x c e) (effect_rest c w e)
      go (no n) = subst⁻¹ (Rest f) (after_refused f x c n) k

pub kept_start : {f : File} → Checked f → Kept f (start f)
unfolding start
kept_start {f} ck = record {
  sound = start_invariant f ck;
  requested = λ c h. absurd (omega arith);
  blank = λ t l. record { knows = λ p. unknown f ck p t l; table = λ p. unheld f ck p t l; mark = refl; desk = refl; request = refl };
}

pub kept_after : {f : File} → Checked f → (x : State) (c : Command) → Wellformed f c → Kept f x → Kept f (after f x c)
kept_after {f} ck x c w k =
    let r = after_rest ck x (record { requested = k.requested; blank = k.blank }) c w in
    record { sound = after_invariant f ck x k.sound c w; requested = r.requested; blank = r.blank }
