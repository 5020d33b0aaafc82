-- The laws of registers, by one command more.
-- Assumes nothing.
use mathlib.Core.Path.{◌≡◌, refl, sym, ap, subst, subst⁻¹, ◌∙◌}
use mathlib.Core.Logic.{◌⊎◌, inl, inr, ⊎_elim}
use mathlib.Core.Bool.{true}
use mathlib.Core.Option.{Option, none, some}
use Prim.Native.Nat.{ℕ, zero, suc, ◌<◌, ◌≤◌}
use native.Mathlib.Omega.{arith}
use native.Mathlib.Nat.{le_refl}
use native.Mathlib.Decide.{ℕ_discrete}
use lib.ListN.{length, get_elem?}
use borrow.Author.Tests.{eqb-true, eq-eqb, ne_eqb}
use Rattle.rules.specs.declared.Term.TheVariants.{Register}
use Rattle.rules.specs.Limits.{device, empty_field}
use Rattle.rules.specs.Refusals.{applies}
use Rattle.rules.specs.Term.{hash_kind, pair_kind, register_kind, quote_kind}
use Rattle.rules.specs.File.{File, Command, extend, quote, role_of, is_role, term, kind, field, message, hashed_term, left_of, right_of, register_of, quoted_value}
use Rattle.rules.specs.Load.{commands_of}
use Rattle.rules.specs.State.{State, start_registers, start, showing}
use Rattle.rules.specs.Device.{device_role, extend_tests, quote_tests}
use Rattle.rules.specs.Run.{tests_of, effect_of, outcome, reached}
use Rattle.theorems.specs.Residency.{Accepted}
use Rattle.theorems.specs.RegisterLaws.{shows, RefusedMovesNone, OnlyExtendMoves, ExtendShows, StartsAtItsTerm, StartsEmpty, Showing, as_started, by_last, LastExtendShows, OnlyDevicesShow, Log, started, extended, RegisterLog, RegisterLaws}
use Rattle.theorems.proofs.Inside.{first_part_lem}
use Rattle.theorems.proofs.Loading.{Checked, checked}
use Rattle.theorems.proofs.Terms.{is_role_role, declared, register_term, parts_pair, parts_quote}
use Rattle.theorems.proofs.Running.{after_accepted, after_refused, reached_none, reached_next, reached_end, command_member}
use Rattle.theorems.proofs.Registers.{Starting, starting_below, start_shows, Moves, moves, extend_passed}
use Rattle.theorems.proofs.History.{bits_known}

refused_moves_none_lem : RefusedMovesNone
refused_moves_none_lem f s c n = ap (λ (x : State). x.registers) (after_refused f s c n)

-- one command more: it is no accepted 44 of the party on the register and leaves it, or it is one
abbrev Next : File → ℕ → ℕ → ℕ → Type 0
Next f n p i =
    (((r : ℕ) → Accepted f n (extend p i r) → ⊥) × (shows f (suc n) p i ≡ shows f n p i))
    ⊎ ((r : ℕ) × Accepted f n (extend p i r) × (shows f (suc n) p i ≡ r))

next : (f : File) (n p i : ℕ) → Next f n p i
next f n p i = go (get_elem? (commands_of f) n) refl
  where
    same : (c : Command) (r : ℕ) → get_elem? (commands_of f) n ≡ some c → Accepted f n (extend p i r) → c ≡ extend p i r
    same c r h a = let b = a.here in cc

    accepted : (c : Command) → Accepted f n c → reached f (suc n) ≡ effect_of f (reached f n) c → Moves (reached f n) (effect_of f (reached f n) c) c p i → Next f n p i
    accepted c a e m =
        ⊎_elim (λ w. inl ((λ r b. w.0 r (same c r a.here b)), ap (λ (s : State). s.registers p i) e ∙ w.1))
        (λ w. inr (w.0, subst (Accepted f n) w.1 a, ap (λ (s : State). s.registers p i) e ∙ w.2)) m

    try : (c : Command) → get_elem? (commands_of f) n ≡ some c → Dec (outcome f (reached f n) c ≡ 0) → Next f n p i
    try c h (yes z) = accepted c (record { here = h; zero_outcome = z }) (reached_next f n c h ∙ after_accepted f (reached f n) c z) (moves f (reached f n) c p i)
    try c h (no z) =
        inl (
          (λ r a. z (ap (outcome f (reached f n)) (same c r h a) ∙ a.zero_outcome)),
          ap (λ (s : State). s.registers p i) (reached_next f n c h ∙ after_refused f (reached f n) c z),
        )

    go : (o : Option Command) → get_elem? (commands_of f) n ≡ o → Next f n p i
    go none h = inl ((λ r a. let b = a.here in let z : ◌≡◌ {A = ℕ} 0 1 = cc in omega arith), ap (λ (s : State). s.registers p i) (reached_end f n h))
    go (some c) h = try c h (ℕ_discrete (outcome f (reached f n) c) 0)

only_extend_moves_lem : OnlyExtendMoves
only_extend_moves_lem f n p i = ⊎_elim (λ w. inl w.1) inr (next f n p i)

extend_shows_lem : ExtendShows
unfolding effect_of showing
extend_shows_lem f n p i r a =
    ap (λ (s : State). s.registers p i) (reached_next f n (extend p i r) a.here ∙ after_accepted f (reached f n) (extend p i r) a.zero_outcome)
    ∙ rw (eq-eqb p p refl, eq-eqb i i refl)

-- the start
at_start : (f : File) (p i : ℕ) → shows f 0 p i ≡ start_registers f p i
unfolding start
at_start f p i = ap (λ (s : State). s.registers p i) (reached_none f)

starts_empty_lem : StartsEmpty
starts_empty_lem f p i n = at_start f p i ∙ ⊎_elim (λ e. e) (λ w. absurd (n (start_registers f p i) w.1.0 w.1.1)) (start_shows f i p)

-- a device's register with a 1B does not start empty
not_empty : (f : File) → Checked f → (p i t : ℕ) → role_of f p ≡ device → kind f t ≡ register_kind → register_of f t ≡ i → t < length f.terms → start_registers f p i ≡ empty_field → ⊥
unfolding start_registers is_role kind register_of field term
not_empty f ck p i t d k e there x =
    let below = starting_below f i f.terms 0 t there k e in
    let empty = rw (eq-eqb (role_of f p) device d) at x in
    let few = ck.few_terms in
    absurd (omega arith)

starts_at_its_term_lem : StartsAtItsTerm
starts_at_its_term_lem bytes f loads p i t d k e = at_start f p i ∙ go (start_shows f i p)
  where
    ck : Checked f
    ck = checked bytes f loads

    there : t < length f.terms
    there = declared f t (λ h. let z : hash_kind ≡ register_kind = sym h ∙ k in omega arith)

    go : (start_registers f p i ≡ empty_field) ⊎ ((role_of f p ≡ device) × Starting f i (start_registers f p i)) → start_registers f p i ≡ t
    go (inl x) = absurd (not_empty f ck p i t d k e there x)
    go (inr w) =
        let r = start_registers f p i in
        ck.distinct r t (declared f r (λ h. let z : hash_kind ≡ register_kind = sym h ∙ w.1.0 in omega arith)) there
        (register_term f r w.1.0 ∙ ap Register (w.1.1 ∙ sym e) ∙ sym (register_term f t k))

-- the first n + 1 are the first n and one more
split : (j n : ℕ) → j < suc n → (j < n) ⊎ (j ≡ n)
split j n l = elim (ℕ_discrete j n) [ yes e ↦ inr e | no d ↦ inl (omega arith) ]

last_extend_shows_lem : LastExtendShows
last_extend_shows_lem f zero p i = as_started (λ j r l a. absurd (omega arith)) refl
last_extend_shows_lem f (suc n) p i = go (next f n p i) (last_extend_shows_lem f n p i)
  where
    at : (k x : ℕ) → k ≡ n → Accepted f k (extend p i x) → Accepted f n (extend p i x)
    at k x e a = subst (λ (m : ℕ). Accepted f m (extend p i x)) e a

    go : Next f n p i → Showing f n p i → Showing f (suc n) p i
    go (inl w) (as_started never e) = as_started (λ j r l a. ⊎_elim (λ h. never j r h a) (λ h. w.0 r (at j r h a)) (split j n l)) (w.1 ∙ e)
    go (inl w) (by_last j r l a never e) =
        by_last j r (omega arith) a (λ k x m h b. ⊎_elim (λ z. never k x m z b) (λ z. w.0 x (at k x z b)) (split k n h)) (w.1 ∙ e)
    go (inr w) before = by_last n w.0 (le_refl (suc n)) w.1 (λ k x m h b. absurd (omega arith)) w.2

only_devices_show_lem : OnlyDevicesShow
unfolding extend_tests device_role
only_devices_show_lem f zero p i d = at_start f p i ∙ ⊎_elim (λ e. e) (λ w. absurd (d w.0)) (start_shows f i p)
only_devices_show_lem f (suc n) p i d =
    ⊎_elim (λ w. w.1 ∙ only_devices_show_lem f n p i d)
    (λ w. absurd (d (is_role_role f device p (extend_passed f (reached f n) p i w.0 w.1.zero_outcome).0))) (next f n p i)

module _ (f : File) (ck : Checked f) where
  -- the old value of a 44 and the quoted value are terms of the file
  old_declared : (r : ℕ) → kind f (hashed_term f r) ≡ pair_kind → left_of f (hashed_term f r) ≡ empty_field → ⊥
  old_declared r k e =
      let t = hashed_term f r in
      let a = ck.lower t (left_of f t) (first_part_lem f t (left_of f t) _ (parts_pair f t k)) in
      let b = declared f t (λ h. let z : hash_kind ≡ pair_kind = sym h ∙ k in omega arith) in
      let c = ck.few_terms in
      absurd (omega arith)

  pub value_declared : (b : ℕ) → kind f b ≡ quote_kind → quoted_value f b ≡ empty_field → ⊥
  value_declared b k e =
      let a = ck.lower b (quoted_value f b) (first_part_lem f b (quoted_value f b) _ (parts_quote f b k)) in
      let d = declared f b (λ h. let z : hash_kind ≡ quote_kind = sym h ∙ k in omega arith) in
      let c = ck.few_terms in
      absurd (omega arith)

  -- what an accepted 44 found
  found : (n p i r : ℕ) → Accepted f n (extend p i r) → ((reached f n).knows p (right_of f (hashed_term f r)) ≡ true) × (shows f n p i ≡ left_of f (hashed_term f r))
  unfolding extend_tests device_role
  found n p i r a =
      let h = extend_passed f (reached f n) p i r a.zero_outcome in
      (h.1.0, eqb-true (shows f n p i) (left_of f (hashed_term f r)) h.1.1.0)

  -- its r is over a pair
  over_pair : (n p i r : ℕ) → Accepted f n (extend p i r) → kind f (hashed_term f r) ≡ pair_kind
  over_pair n p i r a = (ck.wellformed (extend p i r) (command_member f n (extend p i r) a.here)).2

  empty_next : (n p i : ℕ) → shows f n p i ≡ empty_field → shows f (suc n) p i ≡ empty_field
  empty_next n p i e =
      ⊎_elim (λ w. w.1 ∙ e)
      (λ w. absurd (old_declared w.0 (over_pair n p i w.0 w.1) (sym (found n p i w.0 w.1).1 ∙ e))) (next f n p i)

  empty_later : (m n p i : ℕ) → m ≤ n → shows f m p i ≡ empty_field → shows f n p i ≡ empty_field
  empty_later m zero p i l e = subst (λ (k : ℕ). shows f k p i ≡ empty_field) (let z : m ≡ 0 = omega arith in z) e
  empty_later m (suc n) p i l e =
      ⊎_elim (λ h. empty_next n p i (empty_later m n p i (omega arith) e)) (λ h. subst (λ (k : ℕ). shows f k p i ≡ empty_field) h e) (split m (suc n) (omega arith))

  empty_33 : (n p i r : ℕ) → kind f (hashed_term f r) ≡ pair_kind → shows f n p i ≡ empty_field → applies 33 (tests_of f (reached f n) (extend p i r)) ≡ true
  unfolding applies tests_of extend_tests device_role
  empty_33 n p i r k e = rw (ne_eqb (shows f n p i) (left_of f (hashed_term f r)) (λ h. old_declared r k (sym h ∙ e)))

  quote_33 : (n p r : ℕ) → kind f (message f r) ≡ quote_kind → shows f n p (register_of f (message f r)) ≡ empty_field → applies 33 (tests_of f (reached f n) (quote p r)) ≡ true
  unfolding applies tests_of quote_tests device_role
  quote_33 n p r k e = rw (ne_eqb (shows f n p (register_of f (message f r))) (quoted_value f (message f r)) (λ h. value_declared (message f r) k (sym h ∙ e)))

  -- what a register shows, told back
  log_later : {p i n t : ℕ} → Log f p i n t → Log f p i (suc n) t
  log_later (started d k e) = started d k e
  log_later {n = n} (extended j l a k g) = extended {n = suc n} j (omega arith) a k g

  log : (n p i : ℕ) → (shows f n p i ≡ empty_field → ⊥) → Log f p i n (shows f n p i)
  log zero p i x =
      ⊎_elim (λ e. absurd (x (at_start f p i ∙ e))) (λ w. subst⁻¹ (Log f p i 0) (at_start f p i) (started w.0 w.1.0 w.1.1)) (start_shows f i p)
  log (suc n) p i x =
      ⊎_elim (λ w. subst⁻¹ (Log f p i (suc n)) w.1 (log_later (log n p i (λ z. x (w.1 ∙ z)))))
      (λ w.
      let r = w.0 in
      let h = found n p i r w.1 in
      subst⁻¹ (Log f p i (suc n)) w.2
      (extended {n = suc n} n (le_refl (suc n)) w.1 (bits_known f n p (right_of f (hashed_term f r)) h.0)
      (subst (Log f p i n) h.1 (log n p i (λ z. old_declared r (over_pair n p i r w.1) (sym h.1 ∙ z))))))
      (next f n p i)

pub register_log_lem : RegisterLog
register_log_lem bytes f loads n p i x = log f (checked bytes f loads) n p i x

pub register_laws : RegisterLaws
register_laws = record {
  refused_moves_none = refused_moves_none_lem;
  only_extend_moves = only_extend_moves_lem;
  extend_shows = extend_shows_lem;
  starts_at_its_term = starts_at_its_term_lem;
  starts_empty = starts_empty_lem;
  last_extend_shows = last_extend_shows_lem;
  only_devices_show = only_devices_show_lem;
  empty_stays = λ bytes f loads. empty_later f (checked bytes f loads);
  empty_not_extended = λ bytes f loads. empty_33 f (checked bytes f loads);
  empty_not_quoted = λ bytes f loads. quote_33 f (checked bytes f loads);
  register_log = register_log_lem;
}
