-- The stock of an OEM desk falls by one with each accepted 3E of that desk, and by nothing else; it never grows (`specs/StockLaws.antt`).
-- Who learns a number that was in the stock knew it, or a device knew it, or it was used (`learnt-number`): so a step of demand 3 takes no number
-- from the stock and adds none, but for its mark.
-- Assumes nothing.
use mathlib.Core.Path.{◌≡◌, refl, sym, ap, subst, subst⁻¹, ◌∙◌}
use mathlib.Core.Logic.{◌⊎◌, inl, inr, ⊎_elim}
use mathlib.Core.Bool.{Bool, true, false, cond, not, ◌&&◌}
use mathlib.Core.List.{List, [], ◌∷◌, Memᴰ}
use Prim.Native.Nat.{ℕ, zero, suc, ◌+◌, ◌<◌, ◌≤◌}
use native.Mathlib.Omega.{arith}
use native.Mathlib.Decide.{ℕ_discrete}
use lib.Dec.{eqb}
use lib.ListN.{length}
use borrow.Author.Tests.{eq-eqb, ne_eqb, eqb-true}
use Rattle.rules.specs.Limits.{device, oem_desk, party_limit}
use Rattle.rules.specs.Term.{hash_kind, credential_kind, number_kind}
use Rattle.rules.specs.File.{File, Command, hash, sign, certify, make_credential, activate_credential, make_idevid_request, make_ldevid_request, make_pair, check_hash, check_signature, check_certificate, check_attributes, send, self_issue, challenge, issue_iak, issue, issue_iaks, extend, quote, IakPair, role_of, kind, is_kind, hashed_term, credential_number}
use Rattle.rules.specs.Learning.{Knowledge}
use Rattle.rules.specs.State.{State, number_used, credential_open, credential_closed, put, start, learnt, ticketed, opening, closing, entered, showing}
use Rattle.rules.specs.Device.{no_ticket, hash_effect}
use Rattle.rules.specs.Desk.{knowers, form_tests, proof_tests, number_tests, challenge_tests, challenge_effect, issue_iak_effect, issue_effect, issue_iaks_effect}
use Rattle.rules.specs.Run.{effect_of, outcome, after, run, first_commands, reached}
use Rattle.rules.specs.Stock.{in_stock, stock_among, stock}
use Rattle.theorems.specs.StockLaws.{challenged_by, challenges, StockFalls}
use Rattle.theorems.proofs.Booleans.{and_true, not_both, both_ways}
use Rattle.theorems.proofs.Loading.{Checked, checked, PairsFormed, Wellformed}
use Rattle.theorems.proofs.Terms.{declared, is_role_role}
use Rattle.theorems.proofs.Running.{after_accepted, after_refused, first_member}
use Rattle.theorems.proofs.Knowers.{some, sole}
use Rattle.theorems.proofs.Invariant.{KnownToDevice, Activated, Invariant, Step, knows_only, invariant_next}
use Rattle.theorems.proofs.DeskSteps.{put_other, unequal, challenge_passed, is_number, used_after, unused, alone_before}
use Rattle.theorems.proofs.DeviceSteps.{differ}
use Rattle.theorems.proofs.Reaching.{Steps, still, further, start_invariant, after_invariant, after_steps}

-- more parties know a term
knowers_more : (a b : Knowledge) (t n : ℕ) → ((p : ℕ) → a p t ≡ true → b p t ≡ true) → knowers a t n ≤ knowers b t n
unfolding knowers
knowers_more a b t zero h = omega arith
knowers_more a b t (suc n) h = go (a n t) refl (knowers_more a b t n h)
  where
    go : (x : Bool) → a n t ≡ x → knowers a t n ≤ knowers b t n → knowers a t n + cond x 1 0 ≤ knowers b t n + cond (b n t) 1 0
    go true e l = rw (h n e) (omega arith)
    go false e l = omega arith

module _ (f : File) (desk : ℕ) where
  -- a number in stock, by its tests
  parts : (s : State) (t : ℕ) → in_stock f s desk t ≡ true → (kind f t ≡ number_kind) × (s.knows desk t ≡ true) × (knowers s.knows t party_limit ≡ 1) × (s.mark t ≡ number_used → ⊥)
  unfolding in_stock is_kind
  parts s t e =
      let w = and_true (eqb (kind f t) number_kind && s.knows desk t && eqb (knowers s.knows t party_limit) 1) (not (eqb (s.mark t) number_used)) e in
      let a = and_true (eqb (kind f t) number_kind && s.knows desk t) (eqb (knowers s.knows t party_limit) 1) w.0 in
      let b = and_true (eqb (kind f t) number_kind) (s.knows desk t) a.0 in
      (eqb-true _ _ b.0, b.1, eqb-true _ 1 a.1, λ h. not_both (eqb (s.mark t) number_used) w.1 (eq-eqb _ _ h))

  whole : (s : State) (t : ℕ) → kind f t ≡ number_kind → s.knows desk t ≡ true → knowers s.knows t party_limit ≡ 1 → (s.mark t ≡ number_used → ⊥) → in_stock f s desk t ≡ true
  unfolding in_stock is_kind
  whole s t k known one unmarked = rw (eq-eqb (kind f t) number_kind k, known, eq-eqb (knowers s.knows t party_limit) 1 one, ne_eqb (s.mark t) number_used unmarked) refl

  used_out : (s : State) (t : ℕ) → s.mark t ≡ number_used → in_stock f s desk t ≡ false
  used_out s t h = go (in_stock f s desk t) refl
    where
      go : (b : Bool) → in_stock f s desk t ≡ b → in_stock f s desk t ≡ false
      go true e = absurd ((parts s t e).3 h)
      go false e = e

  -- the count, where two states have the same numbers in stock, and where one has one number more
  same_count : (s u : State) → ((t : ℕ) → in_stock f u desk t ≡ in_stock f s desk t) → (n : ℕ) → stock_among f s desk n ≡ stock_among f u desk n
  unfolding stock_among
  same_count s u h zero = refl
  same_count s u h (suc n) = rw (h n, same_count s u h n) refl

  module _ (s u : State) (m : ℕ) (before : in_stock f s desk m ≡ true) (now : in_stock f u desk m ≡ false) (rest : (t : ℕ) → (t ≡ m → ⊥) → in_stock f u desk t ≡ in_stock f s desk t) where
    count_below : (n : ℕ) → n ≤ m → stock_among f s desk n ≡ stock_among f u desk n
    unfolding stock_among
    count_below zero l = refl
    count_below (suc n) l = rw (rest n (λ e. omega arith), count_below n (omega arith)) refl

    one_less : (n : ℕ) → m < n → stock_among f s desk n ≡ 1 + stock_among f u desk n
    unfolding stock_among
    one_less zero l = absurd (omega arith)
    one_less (suc n) l = go (ℕ_discrete n m) (one_less n)
      where
        go : Dec (n ≡ m) → (m < n → stock_among f s desk n ≡ 1 + stock_among f u desk n) → stock_among f s desk n + cond (in_stock f s desk n) 1 0 ≡ 1 + (stock_among f u desk n + cond (in_stock f u desk n) 1 0)
        go (yes e) more =
            let a : in_stock f s desk n ≡ true = ap (in_stock f s desk) e ∙ before in
            let b : in_stock f u desk n ≡ false = ap (in_stock f u desk) e ∙ now in
            rw (a, b) (omega (arith, count_below n (omega arith)))
        go (no d) more = rw (rest n d) (omega (arith, more (omega arith)))

module _ (f : File) (ck : Checked f) (desk : ℕ) (role : role_of f desk ≡ oem_desk) where
  -- a number that a desk alone knows is known to no device
  no_device_lem : (s : State) (t : ℕ) → Invariant f s → s.knows desk t ≡ true → knowers s.knows t party_limit ≡ 1 → KnownToDevice f s t → ⊥
  no_device_lem s t inv known one k =
      let b = ck.parties in
      let lp = inv.party k.party t k.knows in
      let ld = inv.party desk t known in
      let p : k.party ≡ desk = sole s.knows t party_limit k.party desk (omega arith) (omega arith) k.knows known one in
      let e : oem_desk ≡ device = sym role ∙ ap (role_of f) (sym p) ∙ k.is_device in
      omega arith

  module _ (s s' : State) (inv : Invariant f s) (st : Step f s s') (t : ℕ) where
    -- who knows a number after a step knew it, or a device did, or it was used
    activated : Activated f s t → KnownToDevice f s t ⊎ (s.mark t ≡ number_used)
    activated a =
        ⊎_elim (λ u. inr (subst (λ (n : ℕ). s.mark n ≡ number_used) a.number u)) (λ k. inl (subst (KnownToDevice f s) a.number k))
        ((inv.good a.party a.credential a.knows).numbered a.is_credential)

    learnt_number : (p : ℕ) → kind f t ≡ number_kind → s'.knows p t ≡ true → (s.knows p t ≡ true) ⊎ (KnownToDevice f s t ⊎ (s.mark t ≡ number_used))
    learnt_number p k h =
        ⊎_elim inl
        (λ w. ⊎_elim (λ x. inl (subst⁻¹ (λ (q : ℕ). s.knows q t ≡ true) w.0 x)) (⊎_elim (λ x. inr (inl x)) (λ x. inr (activated x))) ((st.fresh t w.1).number k))
        (knows_only f ck s s' inv st p t h)

    next : Invariant f s'
    next = invariant_next f ck s s' inv st

    few : (x : State) → Invariant f x → x.knows desk t ≡ true → desk < party_limit
    few x i k = let a = i.party desk t k in let b = ck.parties in omega arith

    -- nothing comes into the stock
    was_in : in_stock f s' desk t ≡ true → in_stock f s desk t ≡ true
    was_in e =
        let w = parts f desk s' t e in
        let unmarked : s.mark t ≡ number_used → ⊥ = λ h. w.3 (st.grows.used t w.0 h) in
        let grown : KnownToDevice f s t → ⊥ = λ k. no_device_lem s' t next w.1 w.2 (record { party = k.party; is_device = k.is_device; knows = st.grows.knows k.party t k.knows }) in
        let known : s.knows desk t ≡ true = ⊎_elim (λ k. k) (λ x. absurd (⊎_elim grown unmarked x)) (learnt_number desk w.0 w.1) in
        let l = knowers_more s.knows s'.knows t party_limit (λ p h. st.grows.knows p t h) in
        let m = some s.knows t party_limit desk (few s inv known) known in
        whole f desk s t w.0 known (omega (arith, w.2)) unmarked

    -- and a number leaves it by its mark alone
    stays_in : in_stock f s desk t ≡ true → (s'.mark t ≡ number_used → ⊥) → in_stock f s' desk t ≡ true
    stays_in e unmarked =
        let w = parts f desk s t e in
        let only : (p : ℕ) → s'.knows p t ≡ true → s.knows p t ≡ true =
        λ p h. ⊎_elim (λ k. k) (λ x. absurd (⊎_elim (no_device_lem s t inv w.1 w.2) w.3 x)) (learnt_number p w.0 h) in
        let known = st.grows.knows desk t w.1 in
        let l = knowers_more s'.knows s.knows t party_limit only in
        let m = some s'.knows t party_limit desk (few s' next known) known in
        whole f desk s' t w.0 known (omega (arith, w.2)) unmarked

  -- the same of some steps
  module _ (m : ℕ) where
    used_on : {s u : State} → Steps f s u → kind f m ≡ number_kind → s.mark m ≡ number_used → u.mark m ≡ number_used
    used_on still k h = h
    used_on (further st more) k h = used_on more k (st.grows.used m k h)

    all_was_in : {s u : State} → Steps f s u → Invariant f s → in_stock f u desk m ≡ true → in_stock f s desk m ≡ true
    all_was_in still inv e = e
    all_was_in (further {s} {t} st more) inv e = was_in s t inv st m (all_was_in more (invariant_next f ck s t inv st) e)

    all_stays_in : {s u : State} → Steps f s u → Invariant f s → in_stock f s desk m ≡ true → (u.mark m ≡ number_used → ⊥) → in_stock f u desk m ≡ true
    all_stays_in still inv e n = e
    all_stays_in (further {s} {t} st more) inv e n =
        all_stays_in more (invariant_next f ck s t inv st) (stays_in s t inv st m e (λ h. n (used_on more (parts f desk s m e).0 h))) n

  module _ (s : State) (inv : Invariant f s) where
    -- the marks of numbers are left by every command but 3E
    pairs_marks : (p q : ℕ) (xs : List IakPair) (x : State) → PairsFormed f xs → (t : ℕ) → kind f t ≡ number_kind → (issue_iaks_effect f x p q xs).mark t ≡ x.mark t
    unfolding issue_iaks_effect issue_iak_effect entered closing learnt
    pairs_marks p q [] x w t k = refl
    pairs_marks p q (y ∷ ys) x w t k =
        pairs_marks p q ys (issue_iak_effect f x p q y.credential y.certificate) w.2 t k
        ∙ put_other x.mark y.credential credential_closed t (λ e. unequal f ck s inv y.credential t w.0 k (sym e))

    -- a command that leaves the marks of the numbers in stock leaves the stock
    left : (c : Command) → Wellformed f c → ((t : ℕ) → in_stock f s desk t ≡ true → (after f s c).mark t ≡ s.mark t) → stock f s desk ≡ stock f (after f s c) desk
    unfolding stock
    left c w marks = same_count f desk s (after f s c) same (length f.terms)
      where
        same : (t : ℕ) → in_stock f (after f s c) desk t ≡ in_stock f s desk t
        same t =
            both_ways (in_stock f (after f s c) desk t) (in_stock f s desk t) (all_was_in t (after_steps f ck s inv c w) inv)
            (λ e. all_stays_in t (after_steps f ck s inv c w) inv e (λ h. (parts f desk s t e).3 (sym (marks t e) ∙ h)))

    taken : Command → ℕ
    taken c = cond (challenged_by desk c && eqb (outcome f s c) 0) 1 0

    none_taken : (c : Command) → challenged_by desk c ≡ false → taken c ≡ 0
    unfolding taken
    none_taken c e = rw e refl

    -- 3E: the marks of the other numbers
    challenge_marks : (p q r t : ℕ) → kind f r ≡ credential_kind → kind f t ≡ number_kind → (t ≡ credential_number f r → ⊥) → (challenge_effect f s p q r).mark t ≡ s.mark t
    unfolding challenge_effect opening learnt
    challenge_marks p q r t kr k d =
        put_other (put s.mark (credential_number f r) number_used) r credential_open t (λ e. unequal f ck s inv r t kr k (sym e)) ∙ put_other s.mark (credential_number f r) number_used t d

    module _ (q r : ℕ) (w : Wellformed f (challenge desk q r)) (e : outcome f s (challenge desk q r) ≡ 0) where
      reach : State
      reach = after f s (challenge desk q r)

      reach_is : reach ≡ challenge_effect f s desk q r
      unfolding reach effect_of
      reach_is = after_accepted f s (challenge desk q r) e

      fresh : in_stock f s desk (credential_number f r) ≡ true
      unfolding challenge_tests form_tests proof_tests number_tests
      fresh =
          let tests = challenge_passed f ck s inv desk q r e in
          whole f desk s (credential_number f r) (is_number f ck s inv desk q r w e) tests.1.1.1.1.1.1.1.1.1.1.1.1.1.0
          (eqb-true _ 1 tests.1.1.1.1.1.1.1.1.1.1.1.1.1.1.0) (unused f ck s inv desk q r w e)

      gone : in_stock f reach desk (credential_number f r) ≡ false
      gone = used_out f desk reach (credential_number f r) (ap (λ (x : State). x.mark (credential_number f r)) reach_is ∙ used_after f ck s inv desk q r w e)

      others : (t : ℕ) → (t ≡ credential_number f r → ⊥) → in_stock f reach desk t ≡ in_stock f s desk t
      unfolding reach
      others t d =
          both_ways (in_stock f reach desk t) (in_stock f s desk t) (all_was_in t (after_steps f ck s inv (challenge desk q r) w) inv)
          (λ x.
          let k = parts f desk s t x in
          all_stays_in t (after_steps f ck s inv (challenge desk q r) w) inv x
          (λ h. k.3 (sym (ap (λ (y : State). y.mark t) reach_is ∙ challenge_marks desk q r t w.1 k.0 d) ∙ h)))

      own_taken : stock f s desk ≡ 1 + stock f (after f s (challenge desk q r)) desk
      unfolding reach stock
      own_taken =
          one_less f desk s reach (credential_number f r) fresh gone others (length f.terms)
          (declared f (credential_number f r) (differ f (credential_number f r) hash_kind (is_number f ck s inv desk q r w e) tt))

    own : (p : ℕ) → p ≡ desk → (q r : ℕ) → Wellformed f (challenge p q r) → outcome f s (challenge p q r) ≡ 0 → stock f s desk ≡ taken (challenge p q r) + stock f (after f s (challenge p q r)) desk
    unfolding taken challenged_by
    own p d = subst⁻¹ (λ (x : ℕ). (q r : ℕ) → Wellformed f (challenge x q r) → outcome f s (challenge x q r) ≡ 0 → stock f s desk ≡ cond (eqb x desk && eqb (outcome f s (challenge x q r)) 0) 1 0 + stock f (after f s (challenge x q r)) desk) d
        (λ q r w e. rw (eq-eqb desk desk refl, e) (own_taken q r w e))

    other : (p q r : ℕ) → (p ≡ desk → ⊥) → Wellformed f (challenge p q r) → outcome f s (challenge p q r) ≡ 0 → stock f s desk ≡ taken (challenge p q r) + stock f (after f s (challenge p q r)) desk
    unfolding challenged_by effect_of
    other p q r d w e =
        let z = none_taken (challenge p q r) (ne_eqb p desk d) in
        let l = left (challenge p q r) w (λ t x.
        let k = parts f desk s t x in
        ap (λ (y : State). y.mark t) (after_accepted f s (challenge p q r) e)
        ∙ challenge_marks p q r t w.1 k.0 (λ m. d (sym (alone_before f ck s inv p q r w e desk (subst (λ (n : ℕ). s.knows desk n ≡ true) m k.1))))) in
        omega arith

    plain : (c : Command) → Wellformed f c → outcome f s c ≡ 0 → challenged_by desk c ≡ false → ((t : ℕ) → kind f t ≡ number_kind → (effect_of f s c).mark t ≡ s.mark t) → stock f s desk ≡ taken c + stock f (after f s c) desk
    plain c w e other-command marks =
        let z = none_taken c other-command in
        let l = left c w (λ t x. ap (λ (y : State). y.mark t) (after_accepted f s c e) ∙ marks t (parts f desk s t x).0) in
        omega arith

    hash_marks : (p r t : ℕ) → (hash_effect f s p r).mark t ≡ s.mark t
    unfolding hash_effect ticketed learnt
    hash_marks p r t = go (no_ticket f (hashed_term f r))
      where
        go : (b : Bool) → (cond b (learnt f s p r) (ticketed (learnt f s p r) p r)).mark t ≡ s.mark t
        go true = refl
        go false = refl

    accepted : (c : Command) → Wellformed f c → outcome f s c ≡ 0 → stock f s desk ≡ taken c + stock f (after f s c) desk
    unfolding challenged_by effect_of learnt issue_iak_effect issue_effect entered closing showing
    accepted (hash p r) w e = plain (hash p r) w e refl (λ t k. hash_marks p r t)
    accepted (sign p r) w e = plain (sign p r) w e refl (λ t k. refl)
    accepted (certify p r) w e = plain (certify p r) w e refl (λ t k. refl)
    accepted (make_credential p r) w e = plain (make_credential p r) w e refl (λ t k. refl)
    accepted (activate_credential p r) w e = plain (activate_credential p r) w e refl (λ t k. refl)
    accepted (make_idevid_request p r) w e = plain (make_idevid_request p r) w e refl (λ t k. refl)
    accepted (make_ldevid_request p r) w e = plain (make_ldevid_request p r) w e refl (λ t k. refl)
    accepted (make_pair p r) w e = plain (make_pair p r) w e refl (λ t k. refl)
    accepted (check_hash p h t) w e = plain (check_hash p h t) w e refl (λ n k. refl)
    accepted (check_signature p t k) w e = plain (check_signature p t k) w e refl (λ n x. refl)
    accepted (check_certificate p c k) w e = plain (check_certificate p c k) w e refl (λ n x. refl)
    accepted (check_attributes p k a) w e = plain (check_attributes p k a) w e refl (λ n x. refl)
    accepted (send p q t) w e = plain (send p q t) w e refl (λ n k. refl)
    accepted (self_issue p r) w e = plain (self_issue p r) w e refl (λ t k. refl)
    accepted (challenge p q r) w e = go (ℕ_discrete p desk)
      where
        go : Dec (p ≡ desk) → stock f s desk ≡ taken (challenge p q r) + stock f (after f s (challenge p q r)) desk
        go (yes d) = own p d q r w e
        go (no d) = other p q r d w e
    accepted (issue_iak p q c r) w e = plain (issue_iak p q c r) w e refl (λ t k. put_other s.mark c credential_closed t (λ x. unequal f ck s inv c t w.2 k (sym x)))
    accepted (issue family p q r) w e = plain (issue family p q r) w e refl (λ t k. refl)
    accepted (issue_iaks p q xs) w e = plain (issue_iaks p q xs) w e refl (λ t k. pairs_marks p q xs s w.2 t k)
    accepted (extend p i r) w e = plain (extend p i r) w e refl (λ t k. refl)
    accepted (quote p r) w e = plain (quote p r) w e refl (λ t k. refl)

    refused : (c : Command) → (outcome f s c ≡ 0 → ⊥) → stock f s desk ≡ taken c + stock f (after f s c) desk
    unfolding taken
    refused c n = go (challenged_by desk c)
      where
        go : (b : Bool) → stock f s desk ≡ cond (b && eqb (outcome f s c) 0) 1 0 + stock f (after f s c) desk
        go true = rw (ne_eqb (outcome f s c) 0 n, after_refused f s c n) (omega arith)
        go false = rw (after_refused f s c n) (omega arith)

    one_command : (c : Command) → Wellformed f c → stock f s desk ≡ taken c + stock f (after f s c) desk
    one_command c w = go (ℕ_discrete (outcome f s c) 0)
      where
        go : Dec (outcome f s c ≡ 0) → stock f s desk ≡ taken c + stock f (after f s c) desk
        go (yes e) = accepted c w e
        go (no n) = refused c n

  falls : (cs : List Command) (s : State) → Invariant f s → ((c : Command) → Memᴰ c cs → Wellformed f c) → stock f s desk ≡ challenges f desk cs s + stock f (run f cs s) desk
  unfolding challenges run taken
  falls [] s inv w = omega arith
  falls (c ∷ cs) s inv w =
      let v = w c (Memᴰ.head refl) in
      let a = one_command s inv c v in
      let b = falls cs (after f s c) (after_invariant f ck s inv c v) (λ x m. w x (Memᴰ.tail m)) in
      omega arith

pub stock_falls_lem : StockFalls
unfolding reached
stock_falls_lem bytes f loads desk role n =
    let ck = checked bytes f loads in
    falls f ck desk (is_role_role f oem_desk desk role) (first_commands f n) (start f) (start_invariant f ck) (λ c m. ck.wellformed c (first_member f n c m))
