-- The terms of a file that loads: what each of them names, and that no two are the same.
-- Assumes nothing.
use mathlib.Core.Path.{◌≡◌, refl, sym, ap, ◌∙◌, subst, subst⁻¹}
use mathlib.Core.Bool.{Bool, true, false, true≢false}
use mathlib.Core.Logic.{◌⊎◌, inl, inr}
use mathlib.Core.List.Memᴰ
use mathlib.Core.List.{List, [], ◌∷◌, ◌++◌, Memᴰ}
use Prim.Native.Nat.{ℕ, zero, suc, ◌+◌, ◌<◌, ◌≤◌}
use native.Mathlib.Omega.{arith}
use lib.Dec.{ltb}
use borrow.Author.Tests.{ltb-true, ltb-false, eq-eqb}
use lib.ListN.{get_or, length, length-append, get_or-append, get_or-eq_default}
use lib.Seq.{get_or-append_seam}
use Rattle.rules.specs.declared.Subject.TheVariants.{Tpm, Device}
use Rattle.rules.specs.declared.Term.{Term}
use Rattle.rules.specs.Limits.{register_count}
use Rattle.rules.specs.declared.Term.TheVariants.{PublicKey, PrivateKey, Hash, Signature, Attest, Credential, Number, IdevidRequest, LdevidRequest, Certificate, Pair, Register, Quote}
use Rattle.rules.specs.declared.Field.{Field}
use Rattle.rules.specs.declared.Field.TheVariants.{RoleField, IdentifierField, AttributesField, SubjectField, PartyField, AnyTerm, TermOf, SignedAttest, IakPairField, RegisterField, HashedPair, SignedQuote}
use Rattle.rules.specs.Term.{kind_of, fields_in, subject_fields, parts_of, names_of, same_list, alike, any_alike}
use Rattle.rules.specs.Record.{fields_of, section_of}
use Rattle.theorems.proofs.Booleans.{or_left, or_right}

-- the term of a number, as `term` has it
abbrev pub at : List Term → ℕ → Term
at ts i = get_or ts i (Hash 0)

abbrev pub kind_at : List Term → ℕ → ℕ
kind_at ts i = kind_of (at ts i)

-- the numbers that a field takes among a term's fields
abbrev span : Field → ℕ
span RoleField = 1
span IdentifierField = 1
span AttributesField = 1
span SubjectField = 2
span PartyField = 1
span AnyTerm = 1
span (TermOf k) = 1
span SignedAttest = 1
span IakPairField = 2
span RegisterField = 1
span HashedPair = 1
span SignedQuote = 1

-- what loading checked of a field of the term of number n
abbrev NamesAt : List Term → ℕ → Field → ℕ → Type 0
NamesAt ts n RoleField x = Unit {0}
NamesAt ts n IdentifierField x = Unit {0}
NamesAt ts n AttributesField x = Unit {0}
NamesAt ts n SubjectField x = Unit {0}
NamesAt ts n PartyField x = Unit {0}
NamesAt ts n AnyTerm x = x < n
NamesAt ts n (TermOf k) x = (x < n) × (kind_at ts x ≡ k)
NamesAt ts n SignedAttest x = Unit {0}
NamesAt ts n IakPairField x = Unit {0}
NamesAt ts n RegisterField x = x < register_count
NamesAt ts n HashedPair x = Unit {0}
NamesAt ts n SignedQuote x = Unit {0}

-- the same of the fields from the place i on
abbrev pub Named : List Term → ℕ → List Field → ℕ → List ℕ → Type 0
Named ts n [] i xs = Unit {0}
Named ts n (x ∷ fs) i xs = NamesAt ts n x (get_or xs i 0) × Named ts n fs (i + span x) xs

-- what loading checked of the term of number n
abbrev pub Names : List Term → ℕ → Term → Type 0
Names ts n t = Named ts n (fields_of (kind_of t)) 0 (fields_in t)

abbrev pub AllName : List Term → Type 0
AllName ts = (i : ℕ) → i < length ts → Names ts i (at ts i)

abbrev pub Distinct : List Term → Type 0
Distinct ts = (i j : ℕ) → i < length ts → j < length ts → at ts i ≡ at ts j → i ≡ j

below_or_go : (i n : ℕ) (t : Bool) → ltb i n ≡ t → (i < n) ⊎ (n ≤ i)
below_or_go i n true e = inl (ltb-true i n e)
below_or_go i n false e = inr (ltb-false i n e)

below_or : (i n : ℕ) → (i < n) ⊎ (n ≤ i)
below_or i n = below_or_go i n (ltb i n) refl

-- where a number stands against one more term
data Place (n i : ℕ) : Type 0 where
  before : i < n → Place n i
  last : i ≡ n → Place n i
  after : suc n ≤ i → Place n i

place_go : (n i : ℕ) → (i < n) ⊎ (n ≤ i) → (i < suc n) ⊎ (suc n ≤ i) → Place n i
place_go n i (inl l) y = before l
place_go n i (inr g) (inl l) = last (omega arith)
place_go n i (inr g) (inr h) = after h

place : (n i : ℕ) → Place n i
place n i = place_go n i (below_or i n) (below_or i (suc n))

module _ (ts : List Term) (t : Term) where
  abbrev more : List Term
  more = ts ++ (t ∷ [])

  at_last : (i : ℕ) → i ≡ length ts → at more i ≡ t
  at_last i e = ap (λ (n : ℕ). at more n) e ∙ get_or-append_seam ts t [] (Hash 0)

  at_before : (i : ℕ) → i < length ts → at more i ≡ at ts i
  at_before i h = get_or-append ts (t ∷ []) (Hash 0) i h

  -- one more term changes none of the terms below
  field_stays : (n x : ℕ) (d : Field) → n ≤ length ts → NamesAt ts n d x → NamesAt more n d x
  field_stays n x RoleField l h = tt
  field_stays n x IdentifierField l h = tt
  field_stays n x AttributesField l h = tt
  field_stays n x SubjectField l h = tt
  field_stays n x PartyField l h = tt
  field_stays n x AnyTerm l h = h
  field_stays n x (TermOf k) l h = let b = h.0 in (b, ap kind_of (at_before x (omega arith)) ∙ h.1)
  field_stays n x SignedAttest l h = tt
  field_stays n x IakPairField l h = tt
  field_stays n x RegisterField l h = h
  field_stays n x HashedPair l h = tt
  field_stays n x SignedQuote l h = tt

  names_stay : (n : ℕ) (fs : List Field) (i : ℕ) (xs : List ℕ) → n ≤ length ts → Named ts n fs i xs → Named more n fs i xs
  names_stay n [] i xs l h = tt
  names_stay n (d ∷ fs) i xs l h = (field_stays n (get_or xs i 0) d l h.0, names_stay n fs (i + span d) xs l h.1)

  names_go : AllName ts → Names ts (length ts) t → (i : ℕ) → i < suc (length ts) → Place (length ts) i → Names more i (at more i)
  names_go all new i b (before h) = rw (at_before i h) (names_stay i (fields_of (kind_at ts i)) 0 (fields_in (at ts i)) (omega arith) (all i h))
  names_go all new i b (last e) =
      subst (λ (u : Term). Names more i u) (sym (at_last i e))
      (names_stay i (fields_of (kind_of t)) 0 (fields_in t) (omega arith) (subst (λ (n : ℕ). Names ts n t) (sym e) new))
  names_go all new i b (after h) = absurd (omega arith)

  pub all_name : AllName ts → Names ts (length ts) t → AllName more
  all_name all new i h = names_go all new i (omega (arith, length-append ts (t ∷ []))) (place (length ts) i)

same_refl : (xs : List ℕ) → same_list xs xs ≡ true
unfolding same_list
same_refl [] = refl
same_refl (x ∷ xs) = rw (eq-eqb x x refl) (same_refl xs)

pub alike_refl : (t : Term) → alike t t ≡ true
unfolding alike
alike_refl t = rw (eq-eqb (kind_of t) (kind_of t) refl) (same_refl (fields_in t))

any_alike_lem : (ts : List Term) (t : Term) (i : ℕ) → i < length ts → at ts i ≡ t → any_alike t ts ≡ true
unfolding any_alike
any_alike_lem [] t i h e = absurd (omega arith)
any_alike_lem (u ∷ ts) t zero h e = or_left (alike t u) (any_alike t ts) (subst (λ (v : Term). alike t v ≡ true) (sym e) (alike_refl t))
any_alike_lem (u ∷ ts) t (suc i) h e = or_right (alike t u) (any_alike t ts) (any_alike_lem ts t i (omega arith) e)

module _ (ts : List Term) (t : Term) (d : Distinct ts) (new : any_alike t ts ≡ false) where
  never : (i : ℕ) → i < length ts → at ts i ≡ t → ⊥
  never i h e = true≢false (sym (any_alike_lem ts t i h e) ∙ new)

  distinct_go : (i j : ℕ) → i < suc (length ts) → j < suc (length ts) → at (ts ++ (t ∷ [])) i ≡ at (ts ++ (t ∷ [])) j → Place (length ts) i → Place (length ts) j → i ≡ j
  distinct_go i j hi hj e (before p) (before q) = d i j p q (sym (at_before ts t i p) ∙ e ∙ at_before ts t j q)
  distinct_go i j hi hj e (before p) (last q) = absurd (never i p (sym (at_before ts t i p) ∙ e ∙ at_last ts t j q))
  distinct_go i j hi hj e (before p) (after q) = absurd (omega arith)
  distinct_go i j hi hj e (last p) (before q) = absurd (never j q (sym (at_before ts t j q) ∙ sym e ∙ at_last ts t i p))
  distinct_go i j hi hj e (last p) (last q) = omega arith
  distinct_go i j hi hj e (last p) (after q) = absurd (omega arith)
  distinct_go i j hi hj e (after p) y = absurd (omega arith)

  pub distinct_more : Distinct (ts ++ (t ∷ []))
  distinct_more i j hi hj e =
      distinct_go i j (omega (arith, length-append ts (t ∷ []))) (omega (arith, length-append ts (t ∷ []))) e (place (length ts) i) (place (length ts) j)

-- each of some terms is lower
abbrev Below : ℕ → List ℕ → Type 0
Below n [] = Unit {0}
Below n (x ∷ xs) = (x < n) × Below n xs

below_each : (n : ℕ) {u : ℕ} {xs : List ℕ} → Below n xs → Memᴰ u xs → u < n
below_each n h (Memᴰ.head e) = subst⁻¹ (λ (x : ℕ). x < n) e h.0
below_each n h (Memᴰ.tail m) = below_each n h.1 m

names_below : (ts : List Term) (n : ℕ) (t : Term) → Names ts n t → Below n (names_of t)
unfolding names_of kind_of fields_in subject_fields fields_of section_of
names_below ts n (PublicKey id a) h = tt
names_below ts n (PrivateKey id a) h = tt
names_below ts n (Hash t) h = (h.0, tt)
names_below ts n (Signature t k) h = (h.0, (h.1.0.0, tt))
names_below ts n (Attest k) h = (h.0.0, tt)
names_below ts n (Credential t c k) h = (h.0, (h.1.0.0, (h.1.1.0.0, tt)))
names_below ts n (Number id) h = tt
names_below ts n (IdevidRequest (Tpm i) c k) h = (h.1.0.0, (h.1.1.0.0, tt))
names_below ts n (IdevidRequest (Device i) c k) h = (h.1.0.0, (h.1.1.0.0, tt))
names_below ts n (LdevidRequest t c) h = (h.0, (h.1.0.0, tt))
names_below ts n (Certificate k (Tpm i) p) h = (h.0.0, (h.1.1.0.0, tt))
names_below ts n (Certificate k (Device i) p) h = (h.0.0, (h.1.1.0.0, tt))
names_below ts n (Pair t v) h = (h.0, (h.1.0, tt))
names_below ts n (Register i) h = tt
names_below ts n (Quote i t v) h = (h.1.0, (h.1.1.0.0, tt))

-- a term names only lower ones
pub named_lower : (ts : List Term) → AllName ts → (t u : ℕ) → t < length ts → Memᴰ u (names_of (at ts t)) → u < t
named_lower ts all t u h m = below_each t (names_below ts t (at ts t) (all t h)) m

one_of_two : {u x y : ℕ} → Memᴰ u (x ∷ []) → Memᴰ u (x ∷ y ∷ [])
one_of_two (Memᴰ.head e) = Memᴰ.head e
one_of_two (Memᴰ.tail m) = absurd (Memᴰ.not-nil m)

-- a term names its parts
parts_named : (t : Term) (u : ℕ) → Memᴰ u (parts_of t) → Memᴰ u (names_of t)
unfolding parts_of names_of
parts_named (PublicKey id a) u m = m
parts_named (PrivateKey id a) u m = m
parts_named (Hash t) u m = absurd (Memᴰ.not-nil m)
parts_named (Signature t k) u m = one_of_two m
parts_named (Attest k) u m = m
parts_named (Credential t n k) u m = absurd (Memᴰ.not-nil m)
parts_named (Number id) u m = m
parts_named (IdevidRequest s c k) u m = m
parts_named (LdevidRequest t c) u m = m
parts_named (Certificate k s p) u m = one_of_two m
parts_named (Pair t v) u m = m
parts_named (Register i) u m = m
parts_named (Quote i t n) u m = m

-- the parts of a term are lower ones, also of one that is not declared
pub parts_lower : (ts : List Term) → AllName ts → (t u : ℕ) → Memᴰ u (parts_of (at ts t)) → u < t
unfolding parts_of
parts_lower ts all t u m = go (below_or t (length ts))
  where
    go : (t < length ts) ⊎ (length ts ≤ t) → u < t
    go (inl h) = named_lower ts all t u h (parts_named (at ts t) u m)
    go (inr h) = absurd (Memᴰ.not-nil (subst (λ (x : Term). Memᴰ u (parts_of x)) (get_or-eq_default ts (Hash 0) {n = t} h) m))
