-- The set-up records of a file that loads: what loading checked of them.
-- Assumes nothing.
use mathlib.Core.Path.{◌≡◌, refl, sym, ap, ◌∙◌, subst}
use mathlib.Core.Bool.{Bool, true, false, ◌||◌, not, ◌&&◌, true≢false, false≢true}
use mathlib.Core.Logic.{◌⊎◌, inl, inr}
use mathlib.Core.List.Memᴰ
use mathlib.Core.List.{List, [], ◌∷◌, Memᴰ}
use Prim.Native.Nat.{ℕ, ◌<◌}
use native.Mathlib.Omega.{arith}
use lib.Dec.{eqb}
use borrow.Author.Tests.{eqb-true, eqb-false, eq-eqb, not-true}
use lib.ListN.{length}
use Rattle.rules.specs.declared.Attributes.{Attributes}
use Rattle.rules.specs.Limits.{device, tpm_maker}
use Rattle.rules.specs.Attributes.{fixed_tpm, has, same_attributes, desk_key_attributes}
use Rattle.rules.specs.Term.{public_key_kind, private_key_kind, number_kind, certificate_kind, is_tpm_subject}
use Rattle.rules.specs.Record.{setup_section}
use Rattle.rules.specs.File.{File, Command, Setup, learns, holds, signs_with, role_of, is_role, term, kind, is_kind, field, subject, attributes, signer, some_setup, is_hold, is_other_hold, is_signer, is_signing_key_for, holds_key, signs_for_role}
use Rattle.rules.specs.Load.{may_learn, may_hold, may_sign, allowed_fault, with_setup, with_command}
use Rattle.theorems.proofs.LoadingFields.{SetupFields, refuse_zero}
use Rattle.theorems.proofs.Booleans.{and_true, or_left, or_right}

-- what a 20 may give
abbrev pub Learnable : File → ℕ → Type 0
Learnable f t =
    (kind f t ≡ public_key_kind)
    ⊎ ((kind f t ≡ number_kind)
    ⊎ ((kind f t ≡ certificate_kind) × (is_tpm_subject (subject f t) ≡ true) × (signs_for_role f tpm_maker (signer f t) ≡ true)))

-- what a 22 may give, but for the 21 before it
pub record Signing (f : File) (p k : ℕ) : Type 0 where
  pub role : role_of f p ≡ device → ⊥
  pub key_attributes : attributes f k ≡ desk_key_attributes

-- what loading checked of the set-up records
pub record Setups (f : File) : Type 0 where
  pub learns_party : (p t : ℕ) → Memᴰ (learns p t) f.setup → p < length f.roles
  pub learns_allowed : (p t : ℕ) → Memᴰ (learns p t) f.setup → Learnable f t
  pub holds_party : (p k : ℕ) → Memᴰ (holds p k) f.setup → p < length f.roles
  pub holds_kind : (p k : ℕ) → Memᴰ (holds p k) f.setup → kind f k ≡ private_key_kind
  pub holds_once : (p q k : ℕ) → Memᴰ (holds p k) f.setup → Memᴰ (holds q k) f.setup → has (attributes f k) fixed_tpm ≡ true → p ≡ q
  pub signing : (p k : ℕ) → Memᴰ (signs_with p k) f.setup → Signing f p k
  pub signs_held : (p k : ℕ) → Memᴰ (signs_with p k) f.setup → Memᴰ (holds p k) f.setup
  pub signs_one : (p j k : ℕ) → Memᴰ (signs_with p j) f.setup → Memᴰ (signs_with p k) f.setup → j ≡ k

pub no_mem : {A : Type 0} {x : A} {xs : List A} → xs ≡ [] → Memᴰ x xs → ⊥
no_mem {A} {x} {xs} e m = Memᴰ.not-nil (subst (λ (l : List A). Memᴰ x l) e m)

pub none_yet : (f : File) → f.setup ≡ [] → Setups f
none_yet f e = record {
  learns_party = λ p t m. absurd (no_mem e m);
  learns_allowed = λ p t m. absurd (no_mem e m);
  holds_party = λ p k m. absurd (no_mem e m);
  holds_kind = λ p k m. absurd (no_mem e m);
  holds_once = λ p q k m n h. absurd (no_mem e m);
  signing = λ p k m. absurd (no_mem e m);
  signs_held = λ p k m. absurd (no_mem e m);
  signs_one = λ p j k m n. absurd (no_mem e m);
}

-- tests over set-up records

either : (p q : Bool) → (p || q) ≡ true → (p ≡ true) ⊎ (q ≡ true)
either true q e = inl refl
either false q e = inr e

some_mono : (P Q : Setup → Bool) → ((x : Setup) → P x ≡ true → Q x ≡ true) → (xs : List Setup) → some_setup P xs ≡ true → some_setup Q xs ≡ true
unfolding some_setup
some_mono P Q h [] e = e
some_mono P Q h (x ∷ xs) e =
    elim (either (P x) (some_setup P xs) e) [
      | inl p ↦ or_left (Q x) (some_setup Q xs) (h x p)
      | inr p ↦ or_right (Q x) (some_setup Q xs) (some_mono P Q h xs p)
    ]

some_mem : (P : Setup → Bool) (x : Setup) (xs : List Setup) → P x ≡ true → Memᴰ x xs → some_setup P xs ≡ true
unfolding some_setup
some_mem P x [] h m = absurd (Memᴰ.not-nil m)
some_mem P x (y ∷ ys) h m =
    elim (Memᴰ.cases_cons m) [
      | inl e ↦ or_left (P y) (some_setup P ys) (subst (λ (z : Setup). P z ≡ true) e h)
      | inr n ↦ or_right (P y) (some_setup P ys) (some_mem P x ys h n)
    ]

is_hold_lem : (p k : ℕ) (x : Setup) → is_hold p k x ≡ true → holds p k ≡ x
unfolding is_hold
is_hold_lem p k (learns q t) e = absurd (false≢true e)
is_hold_lem p k (holds q t) e =
    let h = and_true (eqb q p) (eqb t k) e in
    let a : q ≡ p = eqb-true q p h.0 in
    let b : t ≡ k = eqb-true t k h.1 in
    cc
is_hold_lem p k (signs_with q t) e = absurd (false≢true e)

hold_mem : (p k : ℕ) (xs : List Setup) → some_setup (is_hold p k) xs ≡ true → Memᴰ (holds p k) xs
unfolding some_setup
hold_mem p k [] e = absurd (false≢true e)
hold_mem p k (x ∷ xs) e =
    elim (either (is_hold p k x) (some_setup (is_hold p k) xs) e) [
      | inl h ↦ Memᴰ.head (is_hold_lem p k x h)
      | inr h ↦ Memᴰ.tail (hold_mem p k xs h)
    ]

-- a file with other set-up records and commands, as later records leave it
abbrev Later : File → ℕ → List Setup → List Command → File
Later f section xs cs = record { section = section; roles = f.roles; terms = f.terms; places = f.places; setup = xs; commands = cs }

module _ (f : File) (section : ℕ) (xs : List Setup) (cs : List Command) where
  signing_key_stays : (role k : ℕ) (y : Setup) → is_signing_key_for f role k y ≡ true → is_signing_key_for (Later f section xs cs) role k y ≡ true
  unfolding is_signing_key_for is_role role_of
  signing_key_stays role k (learns q t) e = e
  signing_key_stays role k (holds q t) e = e
  signing_key_stays role k (signs_with q t) e = e

  learnable_stays : ((P : Setup → Bool) → some_setup P f.setup ≡ true → some_setup P xs ≡ true) → (t : ℕ) → Learnable f t → Learnable (Later f section xs cs) t
  unfolding kind term subject signer field signs_for_role
  learnable_stays more t (inl e) = inl e
  learnable_stays more t (inr (inl e)) = inr (inl e)
  learnable_stays more t (inr (inr h)) =
      inr (inr (
        h.0,
        h.1,
        more (is_signing_key_for (Later f section xs cs) tpm_maker (signer f t))
            (some_mono (is_signing_key_for f tpm_maker (signer f t)) (is_signing_key_for (Later f section xs cs) tpm_maker (signer f t)) (signing_key_stays tpm_maker (signer f t)) f.setup h.2),
      ))

some_more : (x : Setup) (xs : List Setup) (P : Setup → Bool) → some_setup P xs ≡ true → some_setup P (x ∷ xs) ≡ true
unfolding some_setup
some_more x xs P e = or_right (P x) (some_setup P xs) e

-- a command changes none of it
pub setups_stay : (f : File) (section : ℕ) (c : Command) → Setups f → Setups (with_command f section c)
unfolding with_command kind term attributes role_of
setups_stay f section c s = record {
  learns_party = s.learns_party;
  learns_allowed = λ p t m. learnable_stays f section f.setup (c ∷ f.commands) (λ P e. e) t (s.learns_allowed p t m);
  holds_party = s.holds_party;
  holds_kind = s.holds_kind;
  holds_once = s.holds_once;
  signing = λ p k m. let x = s.signing p k m in record { role = x.role; key_attributes = x.key_attributes };
  signs_held = s.signs_held;
  signs_one = s.signs_one;
}

-- what the tests of a new record say

may_learn_lem : (f : File) (t : ℕ) → may_learn f t ≡ true → Learnable f t
unfolding may_learn is_kind
may_learn_lem f t e =
    elim (either (is_kind f public_key_kind t || is_kind f number_kind t) _ e) [
      | inl h ↦ elim (either (is_kind f public_key_kind t) (is_kind f number_kind t) h) [
        | inl a ↦ inl (eqb-true (kind f t) public_key_kind a)
        | inr a ↦ inr (inl (eqb-true (kind f t) number_kind a))
      ]
      | inr h ↦
          let a = and_true (is_kind f certificate_kind t && is_tpm_subject (subject f t)) _ h in
          let b = and_true (is_kind f certificate_kind t) _ a.0 in
          inr (inr (eqb-true (kind f t) certificate_kind b.0, b.1, a.1))
    ]

not_false_true : (b : Bool) → b ≡ true → not b ≡ true → ⊥
not_false_true b e n = true≢false (sym e ∙ not-true b n)

same_party_go : (p q k : ℕ) (xs : List Setup) → not (some_setup (is_other_hold p k) xs) ≡ true → Memᴰ (holds q k) xs → (t : Bool) → eqb q p ≡ t → p ≡ q
unfolding is_other_hold
same_party_go p q k xs n m true e = sym (eqb-true q p e)
same_party_go p q k xs n m false e =
    let h : is_other_hold p k (holds q k) ≡ true = rw (e, eq-eqb k k refl) in
    absurd (not_false_true _ (some_mem (is_other_hold p k) (holds q k) xs h m) n)

same_party : (f : File) (p q k : ℕ) → may_hold f p k ≡ true → has (attributes f k) fixed_tpm ≡ true → Memᴰ (holds q k) f.setup → p ≡ q
unfolding may_hold
same_party f p q k e h m =
    elim (either (not (has (attributes f k) fixed_tpm)) _ e) [
      | inl n ↦ absurd (not_false_true _ h n)
      | inr n ↦ same_party_go p q k f.setup n m (eqb q p) refl
    ]

same_bits : (a b : Attributes) → a.bits ≡ b.bits → a ≡ b
same_bits a b e = ap (λ (n : ℕ). let c : Attributes = record { bits = n } in c) e

pub record MaySign (f : File) (p k : ℕ) : Type 0 where
  pub signing : Signing f p k
  pub held : Memᴰ (holds p k) f.setup
  pub only : (j : ℕ) → Memᴰ (signs_with p j) f.setup → ⊥

may_sign_lem : (f : File) (p k : ℕ) → may_sign f p k ≡ true → MaySign f p k
unfolding may_sign is_role same_attributes holds_key is_signer
may_sign_lem f p k e =
    let a = and_true _ _ e in
    let b = and_true _ _ a.0 in
    let c = and_true (not (is_role f device p)) _ b.0 in
    let bits : (attributes f k).bits ≡ desk_key_attributes.bits = eqb-true (attributes f k).bits desk_key_attributes.bits b.1 in
    record {
      signing = record {
        role = eqb-false (role_of f p) device (not-true _ c.0);
        key_attributes = same_bits (attributes f k) desk_key_attributes bits;
      };
      held = hold_mem p k f.setup a.1;
      only = λ j m. not_false_true (some_setup (is_signer p) f.setup) (some_mem (is_signer p) (signs_with p j) f.setup (eq-eqb p p refl) m) c.1;
    }

-- one set-up record more

module _ (f : File) (x : Setup) (s : Setups f) (fields : SetupFields f x) (allowed : allowed_fault f x ≡ 0) where
  new_learns : (p t : ℕ) → learns p t ≡ x → (p < length f.roles) × Learnable f t
  unfolding allowed_fault
  new_learns p t e =
      let a : allowed_fault f (learns p t) ≡ 0 = subst (λ (y : Setup). allowed_fault f y ≡ 0) (sym e) allowed in
      ((subst (SetupFields f) (sym e) fields).0, may_learn_lem f t (refuse_zero 10 (may_learn f t) (omega arith) a))

  new_holds : (p k : ℕ) → holds p k ≡ x → SetupFields f (holds p k) × (may_hold f p k ≡ true)
  unfolding allowed_fault
  new_holds p k e =
      let a : allowed_fault f (holds p k) ≡ 0 = subst (λ (y : Setup). allowed_fault f y ≡ 0) (sym e) allowed in
      (subst (SetupFields f) (sym e) fields, refuse_zero 11 (may_hold f p k) (omega arith) a)

  new_signs : (p k : ℕ) → signs_with p k ≡ x → MaySign f p k
  unfolding allowed_fault
  new_signs p k e =
      let a : allowed_fault f (signs_with p k) ≡ 0 = subst (λ (y : Setup). allowed_fault f y ≡ 0) (sym e) allowed in
      may_sign_lem f p k (refuse_zero 12 (may_sign f p k) (omega arith) a)

  abbrev In : Setup → Type 0
  In y = (y ≡ x) ⊎ Memᴰ y f.setup

  party_go : (p t : ℕ) → In (learns p t) → p < length f.roles
  party_go p t (inl e) = (new_learns p t e).0
  party_go p t (inr m) = s.learns_party p t m

  learnable_go : (p t : ℕ) → In (learns p t) → Learnable f t
  learnable_go p t (inl e) = (new_learns p t e).1
  learnable_go p t (inr m) = s.learns_allowed p t m

  holder_go : (p k : ℕ) → In (holds p k) → p < length f.roles
  holder_go p k (inl e) = (new_holds p k e).0.0
  holder_go p k (inr m) = s.holds_party p k m

  kind_go : (p k : ℕ) → In (holds p k) → kind f k ≡ private_key_kind
  kind_go p k (inl e) = (new_holds p k e).0.2
  kind_go p k (inr m) = s.holds_kind p k m

  once_go : (p q k : ℕ) → In (holds p k) → In (holds q k) → has (attributes f k) fixed_tpm ≡ true → p ≡ q
  once_go p q k (inl e) (inl g) h = cc
  once_go p q k (inl e) (inr n) h = same_party f p q k (new_holds p k e).1 h n
  once_go p q k (inr m) (inl g) h = sym (same_party f q p k (new_holds q k g).1 h m)
  once_go p q k (inr m) (inr n) h = s.holds_once p q k m n h

  signing_go : (p k : ℕ) → In (signs_with p k) → Signing f p k
  signing_go p k (inl e) = (new_signs p k e).signing
  signing_go p k (inr m) = s.signing p k m

  held_go : (p k : ℕ) → In (signs_with p k) → Memᴰ (holds p k) f.setup
  held_go p k (inl e) = (new_signs p k e).held
  held_go p k (inr m) = s.signs_held p k m

  one_go : (p j k : ℕ) → In (signs_with p j) → In (signs_with p k) → j ≡ k
  one_go p j k (inl e) (inl g) = cc
  one_go p j k (inl e) (inr n) = absurd ((new_signs p j e).only k n)
  one_go p j k (inr m) (inl g) = absurd ((new_signs p k g).only j m)
  one_go p j k (inr m) (inr n) = s.signs_one p j k m n

  pub one_more : Setups (with_setup f x)
  unfolding with_setup kind term attributes role_of
  one_more = record {
    learns_party = λ p t m. party_go p t (Memᴰ.cases_cons m);
    learns_allowed = λ p t m. learnable_stays f setup_section (x ∷ f.setup) f.commands (some_more x f.setup) t (learnable_go p t (Memᴰ.cases_cons m));
    holds_party = λ p k m. holder_go p k (Memᴰ.cases_cons m);
    holds_kind = λ p k m. kind_go p k (Memᴰ.cases_cons m);
    holds_once = λ p q k m n h. once_go p q k (Memᴰ.cases_cons m) (Memᴰ.cases_cons n) h;
    signing = λ p k m. let g = signing_go p k (Memᴰ.cases_cons m) in record { role = g.role; key_attributes = g.key_attributes };
    signs_held = λ p k m. Memᴰ.tail (held_go p k (Memᴰ.cases_cons m));
    signs_one = λ p j k m n. one_go p j k (Memᴰ.cases_cons m) (Memᴰ.cases_cons n);
  }
