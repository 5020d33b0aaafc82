-- What is computed at each kind up to the last holds of every kind: past it there is no section and no field, as of
-- kind 00.
use mathlib.Core.Path.{◌≡◌, refl, sym, ap, subst, ◌∙◌}
use mathlib.Core.Bool.{Bool, true, false, ◌||◌}
use mathlib.Core.List.{List, [], ◌∷◌}
use Prim.Native.Nat.{ℕ, zero, suc, ◌+◌, ◌-◌, ◌<◌, ◌≤◌}
use native.Mathlib.Omega.{arith}
use lib.Dec.{eqb, leb}
use lib.ListN.{get_or}
use borrow.Author.Tests.{leb-true, leb-false, eqb-true, ne_eqb, le-leb, lt-leb}
use Rattle.rules.specs.declared.Field.{Field}
use Rattle.rules.specs.Record.{last_kind, kind_count, section_of, fields_of}

-- the values at n numbers from m on
abbrev pub values : {A : Type 0} → (ℕ → A) → ℕ → ℕ → List A
values f m zero = []
values f m (suc n) = f m ∷ values f (suc m) n

value_at : {A : Type 0} (f : ℕ → A) (m n i : ℕ) (d : A) → i < n → get_or (values f m n) i d ≡ f (m + i)
value_at f m zero i d h = absurd (omega arith)
value_at f m (suc n) zero d h = ap f (omega arith)
value_at f m (suc n) (suc i) d h = value_at f (suc m) n i d (omega arith) ∙ ap f (omega arith)

pub value_below : {A : Type 0} (f : ℕ → A) (n k : ℕ) (d : A) → k < n → get_or (values f 0 n) k d ≡ f k
value_below f n k d h = value_at f 0 n k d h ∙ ap f (omega arith)

value_of : {A : Type 0} (f : ℕ → A) (m n k : ℕ) (d : A) → m ≤ k → k < m + n → get_or (values f m n) (k - m) d ≡ f k
value_of f m n k d l h = value_at f m n (k - m) d (omega arith) ∙ ap f (omega arith)

-- two functions that agree where they were computed
pub agree : {A : Type 0} (f g : ℕ → A) (m n : ℕ) → values f m n ≡ values g m n → (k : ℕ) → m ≤ k → k < m + n → f k ≡ g k
agree f g m n e k l h =
    sym (value_of f m n k (f k) l h) ∙ ap (λ vs. get_or vs (k - m) (f k)) e ∙ value_of g m n k (f k) l h

number_go : {A : Type 0} (f g : ℕ → A) → values f 0 kind_count ≡ values g 0 kind_count → ((k : ℕ) → last_kind < k → f k ≡ g k) → (k : ℕ) → (t : Bool) → leb k last_kind ≡ t → f k ≡ g k
number_go f g e past k true t = agree f g 0 kind_count e k (omega arith) (omega (arith, leb-true k last_kind t))
number_go f g e past k false t = past k (leb-false k last_kind t)

-- and that agree past the last kind
pub each_number : {A : Type 0} (f g : ℕ → A) → values f 0 kind_count ≡ values g 0 kind_count → ((k : ℕ) → last_kind < k → f k ≡ g k) → (k : ℕ) → f k ≡ g k
each_number f g e past k = number_go f g e past k (leb k last_kind) refl

pub section_past : (k : ℕ) → last_kind < k → section_of k ≡ 0
unfolding section_of
section_past k h =
    simp (ne_eqb k 1 (λ e. omega arith), le-leb 0x10 k (omega arith), lt-leb k 0x1C (omega arith), le-leb 0x20 k (omega arith), lt-leb k 0x22 (omega arith), le-leb 0x30 k (omega arith), lt-leb k last_kind h)

pub fields_past : (k : ℕ) → last_kind < k → fields_of k ≡ []
unfolding fields_of
fields_past k h = rw (section_past k h)

-- a value that a kind's section and fields give
abbrev pub given : {A : Type 0} → (ℕ → List Field → A) → ℕ → A
given f k = f (section_of k) (fields_of k)

given_past : {A : Type 0} (f : ℕ → List Field → A) (k : ℕ) → last_kind < k → given f k ≡ given f 0
unfolding section_of fields_of
given_past f k h = cc (section_past k h, fields_past k h)

pub each_kind : {A : Type 0} (f g : ℕ → List Field → A) → values (given f) 0 kind_count ≡ values (given g) 0 kind_count → (k : ℕ) → given f k ≡ given g k
each_kind f g e =
    each_number (given f) (given g) e (λ k h. given_past f k h ∙ agree (given f) (given g) 0 kind_count e 0 (omega arith) (omega arith) ∙ sym (given_past g k h))

-- none of some numbers, the last of them first
abbrev pub NoneOf : ℕ → List ℕ → Type 0
NoneOf k [] = Unit
NoneOf k (x ∷ xs) = NoneOf k xs × (k ≡ x → ⊥)

abbrev among : ℕ → List ℕ → Bool
among k [] = false
among k (x ∷ xs) = eqb k x || among k xs

not_among : (k : ℕ) (xs : List ℕ) → NoneOf k xs → among k xs ≡ false
not_among k [] r = refl
not_among k (x ∷ xs) r = rw (ne_eqb k x r.1) (not_among k xs r.0)

-- the last arm of a match on numbers of a run: all that no arm before it names have one value
pub rest_arm : (f : ℕ → ℕ) (v : ℕ) (keys : List ℕ) (m n : ℕ) → values (λ k. among k keys || eqb (f k) v) m n ≡ values (λ k. true) m n → (k : ℕ) → m ≤ k → k < m + n → NoneOf k keys → f k ≡ v
rest_arm f v keys m n e k l h r =
    eqb-true (f k) v (subst (λ (b : Bool). (b || eqb (f k) v) ≡ true) (not_among k keys r) (agree (λ i. among i keys || eqb (f i) v) (λ i. true) m n e k l h))
