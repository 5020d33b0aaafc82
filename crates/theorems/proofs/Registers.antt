-- What a register starts with, what a command does to it, and what 44 and 45 passed.
--     start-shows                       a register starts empty, or as its 1B in a device
--     moves                             a command moves no register, or is a 44 that shows its r
--     extend-passed, quote-passed       an accepted 44 and 45 passed their tests
-- Assumes nothing.
use mathlib.Core.Path.{◌≡◌, refl, sym, ap, subst, ◌∙◌}
use mathlib.Core.Logic.{◌⊎◌, inl, inr, ⊎_elim}
use mathlib.Core.Bool.{Bool, true, false, false≢true, cond, ◌&&◌}
use mathlib.Core.List.{List, [], ◌∷◌}
use Prim.Native.Nat.{ℕ, zero, suc, ◌+◌, ◌<◌}
use native.Mathlib.Omega.{arith}
use lib.Dec.{eqb}
use lib.ListN.{length, get_or}
use borrow.Author.Tests.{eqb-true, eq-eqb}
use Rattle.rules.specs.declared.Term.{Term}
use Rattle.rules.specs.declared.Term.TheVariants.{Hash}
use Rattle.rules.specs.Limits.{device, empty_field}
use Rattle.rules.specs.Term.{register_kind, kind_of, fields_in}
use Rattle.rules.specs.File.{File, Command, hash, sign, certify, make_credential, activate_credential, make_idevid_request, make_ldevid_request, make_pair, check_hash, check_signature, check_certificate, check_attributes, send, self_issue, challenge, issue_iak, issue, issue_iaks, extend, quote, role_of, is_role, term, kind, field, register_of}
use Rattle.rules.specs.State.{State, starting_at, start_registers, learnt, showing}
use Rattle.rules.specs.Device.{device_role, extend_tests, quote_tests}
use Rattle.rules.specs.Run.{tests_of, effect_of, outcome}
use Rattle.theorems.proofs.Booleans.{and_true}
use Rattle.theorems.proofs.Passing.{Passed, passed}
use Rattle.theorems.proofs.Terms.{is_role_role}
use Rattle.theorems.proofs.Beside.{Registerless, effect_beside}

-- the 1B of register i
abbrev pub Starting : File → ℕ → ℕ → Type 0
Starting f i t = (kind f t ≡ register_kind) × (register_of f t ≡ i)

module _ (f : File) (i : ℕ) where
  starting : (ts : List Term) (n : ℕ) → ((j : ℕ) → j < length ts → term f (n + j) ≡ get_or ts j (Hash 0)) → (starting_at ts i n ≡ empty_field) ⊎ Starting f i (starting_at ts i n)
  unfolding starting_at kind register_of field
  starting [] n h = inl refl
  starting (t ∷ ts) n h =
      go (eqb (kind_of t) register_kind && eqb (get_or (fields_in t) 0 0) i) refl
      (starting ts (suc n) (λ j l. subst (λ (m : ℕ). term f m ≡ get_or ts j (Hash 0)) (let z : n + suc j ≡ suc n + j = omega arith in z) (h (suc j) (omega arith))))
    where
      here : term f n ≡ t
      here = subst (λ (m : ℕ). term f m ≡ t) (let z : n + 0 ≡ n = omega arith in z) (h 0 (omega arith))

      go : (b : Bool) → (eqb (kind_of t) register_kind && eqb (get_or (fields_in t) 0 0) i) ≡ b
          → (starting_at ts i (suc n) ≡ empty_field) ⊎ Starting f i (starting_at ts i (suc n))
          → (cond b n (starting_at ts i (suc n)) ≡ empty_field) ⊎ Starting f i (cond b n (starting_at ts i (suc n)))
      go true e more =
          let w = and_true _ _ e in
          inr (ap kind_of here ∙ eqb-true (kind_of t) register_kind w.0, ap (λ (x : Term). get_or (fields_in x) 0 0) here ∙ eqb-true (get_or (fields_in t) 0 0) i w.1)
      go false e more = more

  -- where there is a 1B of the register, its number or a lower one
  pub starting_below : (ts : List Term) (n j : ℕ) → j < length ts → kind_of (get_or ts j (Hash 0)) ≡ register_kind → get_or (fields_in (get_or ts j (Hash 0))) 0 0 ≡ i
      → starting_at ts i n < n + length ts
  unfolding starting_at
  starting_below [] n j l k e = absurd (omega arith)
  starting_below (t ∷ ts) n zero l k e = rw (eq-eqb (kind_of t) register_kind k, eq-eqb (get_or (fields_in t) 0 0) i e) (omega arith)
  starting_below (t ∷ ts) n (suc j) l k e =
      go (eqb (kind_of t) register_kind && eqb (get_or (fields_in t) 0 0) i) (starting_below ts (suc n) j (omega arith) k e)
    where
      go : (b : Bool) → starting_at ts i (suc n) < suc n + length ts → cond b n (starting_at ts i (suc n)) < n + suc (length ts)
      go true l = omega arith
      go false l = omega arith

  pub start_shows : (p : ℕ) → (start_registers f p i ≡ empty_field) ⊎ ((role_of f p ≡ device) × Starting f i (start_registers f p i))
  unfolding start_registers term
  start_shows p = go (is_role f device p) refl
    where
      go : (b : Bool) → is_role f device p ≡ b → (cond b (starting_at f.terms i 0) empty_field ≡ empty_field) ⊎ ((role_of f p ≡ device) × Starting f i (cond b (starting_at f.terms i 0) empty_field))
      go true d =
          ⊎_elim inl (λ w. inr (is_role_role f device p d, w))
          (starting f.terms 0 (λ j l. ap (λ (m : ℕ). get_or f.terms m (Hash 0)) (let z : 0 + j ≡ j = omega arith in z)))
      go false d = inl refl

-- what a command does to a register: nothing, and it is no 44 of the party on it; or it is one and shows its r
abbrev pub Moves : State → State → Command → ℕ → ℕ → Type 0
Moves s s' c p i = (((r : ℕ) → c ≡ extend p i r → ⊥) × (s'.registers p i ≡ s.registers p i)) ⊎ ((r : ℕ) × (c ≡ extend p i r) × (s'.registers p i ≡ r))

module _ (f : File) (s : State) where
  -- a command that is no 44 and no 45
  left : (c : Command) → Registerless c → (p i : ℕ) → Moves s (effect_of f s c) c p i
  left c h p i = inl ((λ r e. subst Registerless e h), ap (λ (x : State). x.registers p i) (effect_beside f s.registers s c h))

  pub moves : (c : Command) (p i : ℕ) → Moves s (effect_of f s c) c p i
  unfolding effect_of learnt showing
  moves (hash q r) p i = left (hash q r) tt p i
  moves (sign q r) p i = left (sign q r) tt p i
  moves (certify q r) p i = left (certify q r) tt p i
  moves (make_credential q r) p i = left (make_credential q r) tt p i
  moves (activate_credential q r) p i = left (activate_credential q r) tt p i
  moves (make_idevid_request q r) p i = left (make_idevid_request q r) tt p i
  moves (make_ldevid_request q r) p i = left (make_ldevid_request q r) tt p i
  moves (make_pair q r) p i = left (make_pair q r) tt p i
  moves (check_hash q h t) p i = left (check_hash q h t) tt p i
  moves (check_signature q t k) p i = left (check_signature q t k) tt p i
  moves (check_certificate q c k) p i = left (check_certificate q c k) tt p i
  moves (check_attributes q k a) p i = left (check_attributes q k a) tt p i
  moves (send q r t) p i = left (send q r t) tt p i
  moves (self_issue q r) p i = left (self_issue q r) tt p i
  moves (challenge q x r) p i = left (challenge q x r) tt p i
  moves (issue_iak q x c r) p i = left (issue_iak q x c r) tt p i
  moves (issue family q x r) p i = left (issue family q x r) tt p i
  moves (issue_iaks q x xs) p i = left (issue_iaks q x xs) tt p i
  moves (extend q j r) p i = go (eqb p q && eqb i j) refl
    where
      go : (b : Bool) → (eqb p q && eqb i j) ≡ b
          → (((x : ℕ) → extend q j r ≡ extend p i x → ⊥) × (cond b r (s.registers p i) ≡ s.registers p i))
          ⊎ ((x : ℕ) × (extend q j r ≡ extend p i x) × (cond b r (s.registers p i) ≡ x))
      go true e =
          let w = and_true (eqb p q) (eqb i j) e in
          inr (r, (λ k. extend (sym (eqb-true p q w.0) k) (sym (eqb-true i j w.1) k) r), refl)
      go false e =
          inl (
            (λ x h.
                let a : p ≡ q = cc in
                let b : i ≡ j = cc in
                false≢true (sym e ∙ rw (eq-eqb p q a, eq-eqb i j b))),
            refl,
          )
  moves (quote q r) p i = inl ((λ x h. let z : ◌≡◌ {A = ℕ} 0 1 = cc in omega arith), refl)

  pub extend_passed : (p i r : ℕ) → outcome f s (extend p i r) ≡ 0 → Passed (extend_tests f s p i r)
  unfolding outcome tests_of extend_tests device_role
  extend_passed p i r e = passed (extend_tests f s p i r) refl e

  pub quote_passed : (p r : ℕ) → outcome f s (quote p r) ≡ 0 → Passed (quote_tests f s p r)
  unfolding outcome tests_of quote_tests device_role
  quote_passed p r e = passed (quote_tests f s p r) refl e
