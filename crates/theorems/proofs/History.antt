-- What the first n commands did: whom they taught what, which 3E opened a credential, which command entered a certificate.
-- Assumes nothing.
use mathlib.Core.Path.{◌≡◌, refl, sym, ap, subst, subst⁻¹, ◌∙◌}
use mathlib.Core.Logic.{◌⊎◌, inl, inr, ⊎_elim}
use mathlib.Core.Bool.{Bool, true, false, cond}
use mathlib.Core.List.Memᴰ
use mathlib.Core.List.{List, [], ◌∷◌, ◌++◌, append_assoc, append-nil, Memᴰ}
use mathlib.Core.Option.{Option, none, some}
use Prim.Native.Nat.{ℕ, zero, suc, ◌+◌, ◌-◌, ◌<◌, ◌≤◌}
use native.Mathlib.Omega.{arith}
use native.Mathlib.Nat.{le_refl}
use native.Mathlib.Decide.{ℕ_discrete}
use lib.ListN.{length, get_elem?}
use borrow.Author.Tests.{eqb-true}
use Rattle.rules.specs.declared.Entry.{Entry}
use Rattle.rules.specs.declared.Family.{Family}
use Rattle.rules.specs.Families.{iak_family}
use Rattle.rules.specs.Term.{credential_kind, number_kind}
use Rattle.rules.specs.File.{File, Command, hash, sign, certify, make_credential, activate_credential, make_idevid_request, make_ldevid_request, make_pair, check_hash, check_signature, check_certificate, check_attributes, send, self_issue, challenge, issue_iak, issue, issue_iaks, extend, quote, IakPair, kind, hashed_term, credential_number}
use Rattle.rules.specs.Load.{commands_of}
use Rattle.rules.specs.Learning.{Knowledge, each, learn}
use Rattle.rules.specs.State.{State, start, number_used, credential_open, credential_closed, put, learnt, ticketed, opening, closing, entered, showing}
use Rattle.rules.specs.Device.{no_ticket, hash_effect}
use Rattle.rules.specs.Desk.{challenge_effect, issue_iak_tests, called_for, issue_iak_effect, issue_effect, issue_iaks_effect, certificates_of, ek_certificate_of, parent_certificate_of}
use Rattle.rules.specs.Run.{effect_of, outcome, reached}
use Rattle.theorems.specs.Residency.{Inside, Teaches, Accepted, Known, by_setup, by_command, EntryAt, Parent, of_iak, of_pair, on_request, OfFamily}
use Rattle.theorems.proofs.Learning.{Closed, learn_kept, learn_only, learn_closed, learn_inside, taught_own, taught_closed, taught_only, inside_known}
use Rattle.theorems.proofs.Loading.{Checked, PairsFormed, Wellformed}
use Rattle.theorems.proofs.Running.{after_accepted, after_refused, reached_none, reached_next, reached_end, command_member}
use Rattle.theorems.proofs.Ledgers.{at_either}
use Rattle.theorems.proofs.Invariant.{Invariant, invariant_next}
use Rattle.theorems.proofs.DeskSteps.{put_same, put_other, issue_iak_passed, issue_iak_family, issue_iak_step, issue_family}
use Rattle.theorems.proofs.Together.{with_pair, PairsAccepted, pairs_accepted}
use Rattle.theorems.proofs.Reaching.{reached_invariant}

-- what a command does to knowledge: a party learns some terms one after the other, none where it teaches nobody
pub record Lesson (f : File) (s : State) (c : Command) : Type 0 where
  pub learner : ℕ
  pub terms : List ℕ
  pub teaches : (t : ℕ) → Memᴰ t terms → Teaches f c learner t
  pub knows : (effect_of f s c).knows ≡ each (learn f learner) terms s.knows
  pub only : (q t : ℕ) → Teaches f c q t → (q ≡ learner) × Memᴰ t terms

-- terms learned one after the other
module _ (f : File) (p : ℕ) where
  pub each_kept : (us : List ℕ) (known : Knowledge) (q u : ℕ) → known q u ≡ true → each (learn f p) us known q u ≡ true
  unfolding each
  each_kept [] known q u h = h
  each_kept (t ∷ us) known q u h = each_kept us (learn f p t known) q u (learn_kept f p t known q u h)

  pub each_only : (us : List ℕ) (known : Knowledge) (q u : ℕ) → each (learn f p) us known q u ≡ true
      → (known q u ≡ true) ⊎ ((q ≡ p) × ((t : ℕ) × Memᴰ t us × Inside f t u))
  unfolding each
  each_only [] known q u h = inl h
  each_only (t ∷ us) known q u h =
      ⊎_elim (λ k. ⊎_elim inl (λ w. inr (w.0, (t, Memᴰ.head refl, w.1))) (learn_only f p t known q u k))
      (λ w. inr (w.0, (w.1.0, Memᴰ.tail w.1.1, w.1.2))) (each_only us (learn f p t known) q u h)

  each_inside : Checked f → (us : List ℕ) (known : Knowledge) → Closed f known → (t u : ℕ) → Memᴰ t us → Inside f t u → each (learn f p) us known p u ≡ true
  unfolding each
  each_inside ck [] known c t u m i = elim m [ ]
  each_inside ck (v ∷ us) known c t u m i =
      ⊎_elim (λ e. each_kept us (learn f p v known) p u (learn_inside f ck.lower p v known c u (subst (λ (w : ℕ). Inside f w u) e i)))
      (λ n. each_inside ck us (learn f p v known) (learn_closed f ck.lower p v known c) t u n i) (Memᴰ.cases_cons m)

hash_knows : (f : File) (s : State) (p r : ℕ) (b : Bool) → (cond b (learnt f s p r) (ticketed (learnt f s p r) p r)).knows ≡ learn f p r s.knows
unfolding learnt ticketed
hash_knows f s p r true = refl
hash_knows f s p r false = refl

-- one term
lesson_one : (f : File) (s : State) (c : Command) (p r : ℕ) → Teaches f c p r → (effect_of f s c).knows ≡ learn f p r s.knows → ((q t : ℕ) → Teaches f c q t → (q ≡ p) × (t ≡ r)) → Lesson f s c
unfolding each
lesson_one f s c p r h e o = record {
  learner = p;
  terms = r ∷ [];
  teaches = λ t m. ⊎_elim (λ i. subst⁻¹ (Teaches f c p) i h) (λ n. elim n [ ]) (Memᴰ.cases_cons m);
  knows = e;
  only = λ q t g. let w = o q t g in (w.0, Memᴰ.head w.1);
}

-- none
silent : (f : File) (s : State) (c : Command) → (effect_of f s c).knows ≡ s.knows → ((q t : ℕ) → Teaches f c q t → ⊥) → Lesson f s c
unfolding each
silent f s c e n = record { learner = 0; terms = []; teaches = λ t m. elim m [ ]; knows = e; only = λ q t h. absurd (n q t h) }

-- those of a 43
pub pairs_knows : (f : File) (p q : ℕ) (xs : List IakPair) (s : State) → (issue_iaks_effect f s p q xs).knows ≡ each (learn f p) (certificates_of xs) s.knows
unfolding issue_iaks_effect issue_iak_effect entered closing learnt each certificates_of
pairs_knows f p q [] s = refl
pairs_knows f p q (x ∷ xs) s = pairs_knows f p q xs (with_pair f s p q x)

lesson : (f : File) (s : State) (c : Command) → Lesson f s c
unfolding effect_of hash_effect learnt challenge_effect opening issue_iak_effect issue_effect entered closing showing
lesson f s (hash p r) = lesson_one f s (hash p r) p r (refl, refl) (hash_knows f s p r (no_ticket f (hashed_term f r))) (λ q t h. h)
lesson f s (sign p r) = lesson_one f s (sign p r) p r (refl, refl) refl (λ q t h. h)
lesson f s (certify p r) = lesson_one f s (certify p r) p r (refl, refl) refl (λ q t h. h)
lesson f s (make_credential p r) = lesson_one f s (make_credential p r) p r (refl, refl) refl (λ q t h. h)
lesson f s (activate_credential p r) = lesson_one f s (activate_credential p r) p (credential_number f r) (refl, refl) refl (λ q t h. h)
lesson f s (make_idevid_request p r) = lesson_one f s (make_idevid_request p r) p r (refl, refl) refl (λ q t h. h)
lesson f s (make_ldevid_request p r) = lesson_one f s (make_ldevid_request p r) p r (refl, refl) refl (λ q t h. h)
lesson f s (make_pair p r) = lesson_one f s (make_pair p r) p r (refl, refl) refl (λ q t h. h)
lesson f s (check_hash p h t) = silent f s (check_hash p h t) refl (λ q t h. h)
lesson f s (check_signature p t k) = silent f s (check_signature p t k) refl (λ q t h. h)
lesson f s (check_certificate p c k) = silent f s (check_certificate p c k) refl (λ q t h. h)
lesson f s (check_attributes p k a) = silent f s (check_attributes p k a) refl (λ q t h. h)
lesson f s (send p r t) = lesson_one f s (send p r t) r t (refl, refl) refl (λ q t h. h)
lesson f s (self_issue p r) = lesson_one f s (self_issue p r) p r (refl, refl) refl (λ q t h. h)
lesson f s (challenge p q r) = lesson_one f s (challenge p q r) p r (refl, refl) refl (λ q t h. h)
lesson f s (issue_iak p q c r) = lesson_one f s (issue_iak p q c r) p r (refl, refl) refl (λ q t h. h)
lesson f s (issue family p q r) = lesson_one f s (issue family p q r) p r (refl, refl) refl (λ q t h. h)
lesson f s (issue_iaks p q xs) = record { learner = p; terms = certificates_of xs; teaches = λ t m. (refl, m); knows = pairs_knows f p q xs s; only = λ q t h. h }
lesson f s (extend p i r) = silent f s (extend p i r) refl (λ q t h. h)
lesson f s (quote p r) = lesson_one f s (quote p r) p r (refl, refl) refl (λ q t h. h)

-- what becomes of the state at the command of ordinal n
pub data Next (f : File) (n : ℕ) : Type 0 where
  over : reached f (suc n) ≡ reached f n → Next f n
  taken : (c : Command) → Accepted f n c → reached f (suc n) ≡ effect_of f (reached f n) c → Next f n

next : (f : File) (n : ℕ) → Next f n
next f n = go (get_elem? (commands_of f) n) refl
  where
    try : (c : Command) → get_elem? (commands_of f) n ≡ some c → Dec (outcome f (reached f n) c ≡ 0) → Next f n
    try c e (yes z) = taken c (record { here = e; zero_outcome = z }) (reached_next f n c e ∙ after_accepted f (reached f n) c z)
    try c e (no z) = over (reached_next f n c e ∙ after_refused f (reached f n) c z)

    go : (o : Option Command) → get_elem? (commands_of f) n ≡ o → Next f n
    go none e = over (reached_end f n e)
    go (some c) e = try c e (ℕ_discrete (outcome f (reached f n) c) 0)

-- an accepted command is what came next
accepted_next : (f : File) (n : ℕ) (c : Command) → Accepted f n c → reached f (suc n) ≡ effect_of f (reached f n) c
accepted_next f n c a = reached_next f n c a.here ∙ after_accepted f (reached f n) c a.zero_outcome

known_later : {f : File} {n p u : ℕ} → Known f n p u → Known f (suc n) p u
known_later (by_setup t m i) = by_setup t m i
known_later (by_command i c t l a h x) = by_command i c t (omega arith) a h x

parent_later : {f : File} {n : ℕ} {family : Family} {t g : ℕ} → Parent f n family t g → Parent f (suc n) family t g
parent_later (of_iak i j p returning c q l a k b h e) = of_iak i j p returning c q (omega arith) a k b h e
parent_later (of_pair i j p returning c q xs l a m k b h e) = of_pair i j p returning c q xs (omega arith) a m k b h e
parent_later (on_request i p q l a e) = on_request i p q (omega arith) a e

-- the states' knowledge, at a path between states
at_state : (p u : ℕ) {s s' : State} → s ≡ s' → s.knows p u ≡ true → s'.knows p u ≡ true
at_state p u e h = subst (λ (s : State). s.knows p u ≡ true) e h

pub bits_known : (f : File) (n p u : ℕ) → (reached f n).knows p u ≡ true → Known f n p u
unfolding start
bits_known f zero p u h = let w = taught_only f f.setup p u (at_state p u (reached_none f) h) in by_setup w.0 w.1 w.2
bits_known f (suc n) p u h = go (next f n) (bits_known f n p u)
  where
    go : Next f n → ((reached f n).knows p u ≡ true → Known f n p u) → Known f (suc n) p u
    go (over e) before = known_later (before (at_state p u e h))
    go (taken c a e) before =
        ⊎_elim (λ k. known_later (before k))
        (λ w. by_command n c w.1.0 (le_refl (suc n)) a (subst⁻¹ (λ (q : ℕ). Teaches f c q w.1.0) w.0 (x.teaches w.1.0 w.1.1)) w.1.2)
        (each_only f x.learner x.terms (reached f n).knows p u (subst (λ (k : Knowledge). k p u ≡ true) x.knows (at_state p u e h)))
      where
        x : Lesson f (reached f n) c
        x = lesson f (reached f n) c

-- what is known stays known
knows_next : (f : File) (n p u : ℕ) → (reached f n).knows p u ≡ true → (reached f (suc n)).knows p u ≡ true
knows_next f n p u h = go (next f n)
  where
    go : Next f n → (reached f (suc n)).knows p u ≡ true
    go (over e) = at_state p u (sym e) h
    go (taken c a e) =
        let x = lesson f (reached f n) c in
        at_state p u (sym e) (subst⁻¹ (λ (k : Knowledge). k p u ≡ true) x.knows (each_kept f x.learner x.terms (reached f n).knows p u h))

pub knows_later : (f : File) (i k p u : ℕ) → (reached f i).knows p u ≡ true → (reached f (i + k)).knows p u ≡ true
knows_later f i zero p u h = let e : i + 0 ≡ i = omega arith in subst⁻¹ (λ (n : ℕ). (reached f n).knows p u ≡ true) e h
knows_later f i (suc k) p u h =
    let e : i + suc k ≡ suc (i + k) = omega arith in
    subst⁻¹ (λ (n : ℕ). (reached f n).knows p u ≡ true) e (knows_next f (i + k) p u (knows_later f i k p u h))

later : (f : File) (i n p u : ℕ) → i ≤ n → (reached f i).knows p u ≡ true → (reached f n).knows p u ≡ true
later f i n p u l h =
    let e : i + (n - i) ≡ n = omega arith in
    subst (λ (m : ℕ). (reached f m).knows p u ≡ true) e (knows_later f i (n - i) p u h)

module _ (f : File) (ck : Checked f) where
  taught_now : (i : ℕ) (c : Command) (p t u : ℕ) → Accepted f i c → Teaches f c p t → Inside f t u → (reached f (suc i)).knows p u ≡ true
  taught_now i c p t u a h x =
      let y = lesson f (reached f i) c in
      let w = y.only p t h in
      at_state p u (sym (accepted_next f i c a))
      (subst⁻¹ (λ (k : Knowledge). k p u ≡ true) y.knows
      (subst⁻¹ (λ (q : ℕ). each (learn f y.learner) y.terms (reached f i).knows q u ≡ true) w.0
      (each_inside f y.learner ck y.terms (reached f i).knows (reached_invariant f ck i).closed t u w.1 x)))

  pub known_bits_lem : (n p u : ℕ) → Known f n p u → (reached f n).knows p u ≡ true
  unfolding start
  known_bits_lem n p u (by_setup t m i) =
      later f 0 n p u (omega arith)
      (at_state p u (sym (reached_none f)) (inside_known f (start f).knows (taught_closed f ck.lower f.setup) p t u (taught_own f f.setup p t m) i))
  known_bits_lem n p u (by_command i c t l a h x) = later f (suc i) n p u l (taught_now i c p t u a h x)

  -- a credential that is open after the first n commands was opened by one of them
  pub record OpenedBy (n c : ℕ) : Type 0 where
    pub ordinal : ℕ
    pub before : ordinal < n
    pub by : Accepted f ordinal (challenge ((reached f n).desk c) ((reached f n).request c) c)

  -- marks, desks and requests that a command leaves open
  abbrev Marks : State → State → Command → ℕ → Type 0
  Marks s s' c x =
      ((s.mark x ≡ credential_open) × (s.desk x ≡ s'.desk x) × (s.request x ≡ s'.request x))
      ⊎ (c ≡ challenge (s'.desk x) (s'.request x) x)

  hash_marks : (s : State) (p r x : ℕ) (b : Bool) → (cond b (learnt f s p r) (ticketed (learnt f s p r) p r)).mark x ≡ credential_open → Marks s (cond b (learnt f s p r) (ticketed (learnt f s p r) p r)) (hash p r) x
  unfolding learnt ticketed
  hash_marks s p r x true h = inl (h, refl, refl)
  hash_marks s p r x false h = inl (h, refl, refl)

  challenge_marks : (s : State) (p q r x : ℕ) → kind f r ≡ credential_kind → kind f x ≡ credential_kind → (opening (learnt f s p r) (credential_number f r) r q p).mark x ≡ credential_open → Dec (x ≡ r)
      → Marks s (opening (learnt f s p r) (credential_number f r) r q p) (challenge p q r) x
  unfolding opening learnt
  challenge_marks s p q r x kr kx h (yes e) =
      let d : put s.desk r p x ≡ p = ap (put s.desk r p) e ∙ put_same s.desk r p in
      let m : put s.request r q x ≡ q = ap (put s.request r q) e ∙ put_same s.request r q in
      inr (λ i. challenge (sym d i) (sym m i) (sym e i))
  challenge_marks s p q r x kr kx h (no n) =
      inl (
        sym (put_other (put s.mark (credential_number f r) number_used) r credential_open x n ∙ put_other s.mark (credential_number f r) number_used x (other (ck.credential_number_kind r kr))) ∙ h,
        sym (put_other s.desk r p x n),
        sym (put_other s.request r q x n),
      )
    where
      other : kind f (credential_number f r) ≡ number_kind → x ≡ credential_number f r → ⊥
      other k e = let z : credential_kind ≡ number_kind = sym kx ∙ ap (kind f) e ∙ k in omega arith

  -- a credential that is open was, and as it was
  abbrev pub Stays : State → State → ℕ → Type 0
  Stays s s' x = (s.mark x ≡ credential_open) × (s.desk x ≡ s'.desk x) × (s.request x ≡ s'.request x)

  pub close_stays : (s : State) (p q c r x : ℕ) → (issue_iak_effect f s p q c r).mark x ≡ credential_open → Dec (x ≡ c) → Stays s (issue_iak_effect f s p q c r) x
  unfolding issue_iak_effect entered closing learnt
  close_stays s p q c r x h (yes y) =
      absurd (let z : credential_closed ≡ credential_open = sym (ap (put s.mark c credential_closed) y ∙ put_same s.mark c credential_closed) ∙ h in omega arith)
  close_stays s p q c r x h (no y) = (sym (put_other s.mark c credential_closed x y) ∙ h, refl, refl)

  pairs_stay : (p q : ℕ) (xs : List IakPair) (s : State) (x : ℕ) → (issue_iaks_effect f s p q xs).mark x ≡ credential_open → Stays s (issue_iaks_effect f s p q xs) x
  unfolding issue_iaks_effect
  pairs_stay p q [] s x h = (h, refl, refl)
  pairs_stay p q (y ∷ xs) s x h =
      let a = pairs_stay p q xs (with_pair f s p q y) x h in
      let b = close_stays s p q y.credential y.certificate x a.0 (ℕ_discrete x y.credential) in
      (b.0, b.1 ∙ a.1, b.2 ∙ a.2)

  marks : (s : State) (c : Command) → Wellformed f c → (x : ℕ) → kind f x ≡ credential_kind → (effect_of f s c).mark x ≡ credential_open → Marks s (effect_of f s c) c x
  unfolding effect_of hash_effect learnt challenge_effect issue_effect entered showing
  marks s (hash p r) w x k h = hash_marks s p r x (no_ticket f (hashed_term f r)) h
  marks s (sign p r) w x k h = inl (h, refl, refl)
  marks s (certify p r) w x k h = inl (h, refl, refl)
  marks s (make_credential p r) w x k h = inl (h, refl, refl)
  marks s (activate_credential p r) w x k h = inl (h, refl, refl)
  marks s (make_idevid_request p r) w x k h = inl (h, refl, refl)
  marks s (make_ldevid_request p r) w x k h = inl (h, refl, refl)
  marks s (make_pair p r) w x k h = inl (h, refl, refl)
  marks s (check_hash p y t) w x k h = inl (h, refl, refl)
  marks s (check_signature p t j) w x k h = inl (h, refl, refl)
  marks s (check_certificate p c j) w x k h = inl (h, refl, refl)
  marks s (check_attributes p j a) w x k h = inl (h, refl, refl)
  marks s (send p q t) w x k h = inl (h, refl, refl)
  marks s (self_issue p r) w x k h = inl (h, refl, refl)
  marks s (challenge p q r) w x k h = challenge_marks s p q r x w.1 k h (ℕ_discrete x r)
  marks s (issue_iak p q c r) w x k h = inl (close_stays s p q c r x h (ℕ_discrete x c))
  marks s (issue family p q r) w x k h = inl (h, refl, refl)
  marks s (issue_iaks p q xs) w x k h = inl (pairs_stay p q xs s x h)
  marks s (extend p i r) w x k h = inl (h, refl, refl)
  marks s (quote p r) w x k h = inl (h, refl, refl)

  pub opened_by : (n c : ℕ) → kind f c ≡ credential_kind → (reached f n).mark c ≡ credential_open → OpenedBy n c
  unfolding start
  opened_by zero c k h =
      absurd (let z : 0 ≡ credential_open = sym (ap (λ (s : State). s.mark c) (reached_none f)) ∙ h in omega arith)
  opened_by (suc n) c k h = go (next f n) (opened_by n c k)
    where
      keep : ((reached f n).mark c ≡ credential_open → OpenedBy n c) → (reached f n).mark c ≡ credential_open
          → (reached f n).desk c ≡ (reached f (suc n)).desk c → (reached f n).request c ≡ (reached f (suc n)).request c → OpenedBy (suc n) c
      keep before m d q =
          let b = before m in
          record {
            ordinal = b.ordinal;
            before = let l = b.before in omega arith;
            by = subst (λ (y : ℕ). Accepted f b.ordinal (challenge ((reached f (suc n)).desk c) y c)) q
                (subst (λ (y : ℕ). Accepted f b.ordinal (challenge y ((reached f n).request c) c)) d b.by);
          }

      go : Next f n → ((reached f n).mark c ≡ credential_open → OpenedBy n c) → OpenedBy (suc n) c
      go (over e) before =
          keep before (sym (ap (λ (s : State). s.mark c) e) ∙ h) (sym (ap (λ (s : State). s.desk c) e)) (sym (ap (λ (s : State). s.request c) e))
      go (taken x a e) before =
          ⊎_elim
          (λ w. keep before w.0 w.1 w.2)
          (λ w. record { ordinal = n; before = le_refl (suc n); by = subst (Accepted f n) w a })
          (subst⁻¹ (λ (s : State). Marks (reached f n) s x c) e
          (marks (reached f n) x (ck.wellformed x (command_member f n x a.here)) c k (sym (ap (λ (s : State). s.mark c) e) ∙ h)))

  -- an entry that a command makes
  pub data Makes (s : State) (c : Command) (family : Family) (e : Entry) : Type 0 where
    iak : (p q x : ℕ) → family ≡ iak_family → c ≡ issue_iak p q x e.certificate → kind f x ≡ credential_kind → s.mark x ≡ credential_open → s.desk x ≡ p → e.parent ≡ ek_certificate_of f (s.request x) → Makes s c family e
    pair :
        (p q x : ℕ) (xs : List IakPair) → family ≡ iak_family → c ≡ issue_iaks p q xs → Memᴰ (record { credential = x; certificate = e.certificate }) xs → kind f x ≡ credential_kind
        → s.mark x ≡ credential_open → s.desk x ≡ p → e.parent ≡ ek_certificate_of f (s.request x) → Makes s c family e
    request : (p q : ℕ) → c ≡ issue family p q e.certificate → e.parent ≡ parent_certificate_of f q → Makes s c family e

  -- the entries that a command makes, none where it issues nothing
  abbrev Entries : State → List Entry → Command → Type 0
  Entries s ledger c = (es : List Entry) × (ledger ≡ s.ledger ++ es) × ((e : Entry) → Memᴰ e es → (family : Family) × OfFamily f family e × Makes s c family e)

  no_entry_lem : (s : State) (ledger : List Entry) (c : Command) → ledger ≡ s.ledger → Entries s ledger c
  no_entry_lem s ledger c e = ([], e ∙ sym (append-nil s.ledger), λ x m. elim m [ ])

  one_entry : (s : State) (ledger : List Entry) (c : Command) (e : Entry) → ledger ≡ s.ledger ++ (e ∷ []) → (family : Family) × OfFamily f family e × Makes s c family e → Entries s ledger c
  one_entry s ledger c e l w = (e ∷ [], l, λ x m. ⊎_elim (λ i. subst⁻¹ (λ (y : Entry). (family : Family) × OfFamily f family y × Makes s c family y) i w) (λ n. elim n [ ]) (Memᴰ.cases_cons m))

  hash_ledger : (s : State) (p r : ℕ) (b : Bool) → (cond b (learnt f s p r) (ticketed (learnt f s p r) p r)).ledger ≡ s.ledger
  unfolding learnt ticketed
  hash_ledger s p r true = refl
  hash_ledger s p r false = refl

  iak_open : (s : State) (p q c r : ℕ) → Invariant f s → outcome f s (issue_iak p q c r) ≡ 0 → (s.mark c ≡ credential_open) × (s.desk c ≡ p)
  unfolding issue_iak_tests called_for
  iak_open s p q c r inv z =
      let t = issue_iak_passed f ck s inv p q c r z in
      (eqb-true (s.mark c) credential_open t.1.0, eqb-true (s.desk c) p t.1.1.0)

  -- an entry of a pair
  record OfPair (s : State) (p : ℕ) (xs : List IakPair) (e : Entry) : Type 0 where
    credential : ℕ
    member : Memᴰ (record { credential = credential; certificate = e.certificate }) xs
    of_family : OfFamily f iak_family e
    is_credential : kind f credential ≡ credential_kind
    opened : s.mark credential ≡ credential_open
    desk : s.desk credential ≡ p
    parent : e.parent ≡ ek_certificate_of f (s.request credential)

  pair_first : (s : State) → Invariant f s → (p q : ℕ) (x : IakPair) (xs : List IakPair) → p < length f.roles → q < length f.roles → PairsFormed f (x ∷ xs) → outcome f s (issue_iak p q x.credential x.certificate) ≡ 0
      → (e : Entry) × ((with_pair f s p q x).ledger ≡ s.ledger ++ (e ∷ [])) × OfPair s p (x ∷ xs) e
  unfolding issue_iak_effect entered closing learnt
  pair_first s inv p q x xs l m w z =
      let o = iak_open s p q x.credential x.certificate inv z in (
        _,
        refl,
        record {
          credential = x.credential;
          member = Memᴰ.head refl;
          of_family = issue_iak_family f ck s inv p q x.credential x.certificate (l, m, w.0, w.1) z;
          is_credential = w.0;
          opened = o.0;
          desk = o.1;
          parent = refl;
        },
      )

  pair_later : (s : State) (p q : ℕ) (x : IakPair) (xs : List IakPair) (e : Entry) → OfPair (with_pair f s p q x) p xs e → OfPair s p (x ∷ xs) e
  pair_later s p q x xs e a =
      let b = close_stays s p q x.credential x.certificate a.credential a.opened (ℕ_discrete a.credential x.credential) in
      record {
        credential = a.credential;
        member = Memᴰ.tail a.member;
        of_family = a.of_family;
        is_credential = a.is_credential;
        opened = b.0;
        desk = b.1 ∙ a.desk;
        parent = a.parent ∙ ap (ek_certificate_of f) (sym b.2);
      }

  pairs_entries :
      (p q : ℕ) (xs : List IakPair) (s : State) → Invariant f s → p < length f.roles → q < length f.roles → PairsFormed f xs → PairsAccepted f s p q xs
      → (es : List Entry) × ((issue_iaks_effect f s p q xs).ledger ≡ s.ledger ++ es) × ((e : Entry) → Memᴰ e es → OfPair s p xs e)
  unfolding issue_iaks_effect effect_of
  pairs_entries p q [] s inv l m w a = ([], sym (append-nil s.ledger), λ e i. elim i [ ])
  pairs_entries p q (x ∷ xs) s inv l m w a =
      let b = pair_first s inv p q x xs l m w a.0 in
      let st = issue_iak_step f ck s inv p q x.credential x.certificate (l, m, w.0, w.1) a.0 in
      let c = pairs_entries p q xs (with_pair f s p q x) (invariant_next f ck s _ inv st) l m w.2 a.1 in (
        b.0 ∷ c.0,
        c.1 ∙ ap (λ (l : List Entry). l ++ c.0) b.1 ∙ append_assoc s.ledger (b.0 ∷ []) c.0,
        λ e i. ⊎_elim (λ h. subst⁻¹ (OfPair s p (x ∷ xs)) h b.2) (λ h. pair_later s p q x xs e (c.2 e h)) (Memᴰ.cases_cons i),
      )

  entries : (s : State) → Invariant f s → (c : Command) → Wellformed f c → outcome f s c ≡ 0 → Entries s (effect_of f s c).ledger c
  unfolding effect_of hash_effect learnt challenge_effect opening issue_iak_effect issue_effect entered closing showing
  entries s inv (hash p r) w z = no_entry_lem s _ (hash p r) (hash_ledger s p r (no_ticket f (hashed_term f r)))
  entries s inv (sign p r) w z = no_entry_lem s _ (sign p r) refl
  entries s inv (certify p r) w z = no_entry_lem s _ (certify p r) refl
  entries s inv (make_credential p r) w z = no_entry_lem s _ (make_credential p r) refl
  entries s inv (activate_credential p r) w z = no_entry_lem s _ (activate_credential p r) refl
  entries s inv (make_idevid_request p r) w z = no_entry_lem s _ (make_idevid_request p r) refl
  entries s inv (make_ldevid_request p r) w z = no_entry_lem s _ (make_ldevid_request p r) refl
  entries s inv (make_pair p r) w z = no_entry_lem s _ (make_pair p r) refl
  entries s inv (check_hash p y t) w z = no_entry_lem s _ (check_hash p y t) refl
  entries s inv (check_signature p t j) w z = no_entry_lem s _ (check_signature p t j) refl
  entries s inv (check_certificate p c j) w z = no_entry_lem s _ (check_certificate p c j) refl
  entries s inv (check_attributes p j a) w z = no_entry_lem s _ (check_attributes p j a) refl
  entries s inv (send p q t) w z = no_entry_lem s _ (send p q t) refl
  entries s inv (self_issue p r) w z = no_entry_lem s _ (self_issue p r) refl
  entries s inv (challenge p q r) w z = no_entry_lem s _ (challenge p q r) refl
  entries s inv (issue_iak p q c r) w z =
      let o = iak_open s p q c r inv z in
      one_entry s _ (issue_iak p q c r) _ refl (iak_family, issue_iak_family f ck s inv p q c r w z, iak p q c refl refl w.2 o.0 o.1 refl)
  entries s inv (issue family p q r) w z = one_entry s _ (issue family p q r) _ refl (family, issue_family f ck s inv family p q r w z, request p q refl refl)
  entries s inv (issue_iaks p q xs) w z =
      let b = pairs_entries p q xs s inv w.0 w.1 w.2 (pairs_accepted f s p q xs z) in
      (b.0, b.1, λ e m. let a = b.2 e m in (iak_family, a.of_family, pair p q a.credential xs refl refl a.member a.is_credential a.opened a.desk a.parent))
  entries s inv (extend p i r) w z = no_entry_lem s _ (extend p i r) refl
  entries s inv (quote p r) w z = no_entry_lem s _ (quote p r) refl

  made_parent : (n : ℕ) (c : Command) (family : Family) (e : Entry) → Accepted f n c → Makes (reached f n) c family e → Parent f (suc n) family e.certificate e.parent
  made_parent n c family e a (iak p q x i h k m d g) =
      let o = opened_by n x k m in
      of_iak n o.ordinal p q x ((reached f n).request x) (le_refl (suc n)) (subst (Accepted f n) h a) o.before
      (subst (λ (y : ℕ). Accepted f o.ordinal (challenge y ((reached f n).request x) x)) d o.by) i g
  made_parent n c family e a (pair p q x xs i h m k o d g) =
      let w = opened_by n x k o in
      of_pair n w.ordinal p q x ((reached f n).request x) xs (le_refl (suc n)) (subst (Accepted f n) h a) m w.before
      (subst (λ (y : ℕ). Accepted f w.ordinal (challenge y ((reached f n).request x) x)) d w.by) i g
  made_parent n c family e a (request p q h g) = on_request n p q (le_refl (suc n)) (subst (Accepted f n) h a) g

  -- an entry is of a family, and names the parent that a command of the family gave it
  pub record Issued (n : ℕ) (e : Entry) : Type 0 where
    pub family : Family
    pub of_family : OfFamily f family e
    pub parent : Parent f n family e.certificate e.parent

  issued_later : {n : ℕ} {e : Entry} → Issued n e → Issued (suc n) e
  issued_later x = record { family = x.family; of_family = x.of_family; parent = parent_later x.parent }

  pub entry_issued : (n i : ℕ) (e : Entry) → EntryAt f n i e → Issued n e
  unfolding start
  entry_issued zero i e h =
      absurd (empty (subst (λ (s : State). get_elem? s.ledger i ≡ some e) (reached_none f) h))
    where
      empty : get_elem? {A = Entry} [] i ≡ some e → ⊥
      empty x = let z : ◌≡◌ {A = ℕ} 0 1 = cc in omega arith
  entry_issued (suc n) i e h = go (next f n) (entry_issued n i e)
    where
      go : Next f n → (EntryAt f n i e → Issued n e) → Issued (suc n) e
      go (over q) before = issued_later (before (subst (λ (s : State). get_elem? s.ledger i ≡ some e) q h))
      go (taken c a q) before =
          made (entries (reached f n) (reached_invariant f ck n) c (ck.wellformed c (command_member f n c a.here)) a.zero_outcome)
        where
          now : get_elem? (effect_of f (reached f n) c).ledger i ≡ some e
          now = subst (λ (s : State). get_elem? s.ledger i ≡ some e) q h

          made : Entries (reached f n) (effect_of f (reached f n) c).ledger c → Issued (suc n) e
          made x =
              ⊎_elim (λ k. issued_later (before k))
              (λ m. let y = x.2 e m in record { family = y.0; of_family = y.1; parent = made_parent n c y.0 e a y.2 })
              (at_either (reached f n).ledger x.0 i e (subst (λ (l : List Entry). get_elem? l i ≡ some e) x.1 now))
