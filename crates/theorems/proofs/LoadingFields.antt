-- The fields of a record that loads: what loading checked of them, and so of the term or the set-up record that they make.
-- Assumes nothing.
use mathlib.Core.Path.{◌≡◌, refl, subst}
use mathlib.Core.Bool.{Bool, true, false, cond, ◌&&◌}
use mathlib.Core.List.{List, [], ◌∷◌}
use mathlib.Core.Logic.{◌⊎◌, inl, inr}
use Prim.Native.Nat.{ℕ, zero, suc, ◌+◌, ◌<◌, ◌≤◌}
use native.Mathlib.Omega.{arith}
use lib.Dec.{eqb, ltb, leb}
use borrow.Author.Tests.{ltb-true, leb-true, eqb-true, eqb-false}
use lib.ListN.{get_or, length}
use Rattle.rules.specs.declared.Subject.{Subject}
use Rattle.rules.specs.declared.Subject.TheVariants.{Tpm, Device}
use Rattle.rules.specs.declared.Term.TheVariants.{IdevidRequest, Certificate}
use Rattle.rules.specs.Limits.{pair_width, register_count}
use Rattle.rules.specs.Term.{private_key_kind, hash_kind, pair_kind, quote_kind, signature_kind, attest_kind, credential_kind, idevid_request_kind, certificate_kind, kind_of, fields_in, subject_fields}
use Rattle.rules.specs.declared.Field.{Field}
use Rattle.rules.specs.declared.Field.TheVariants.{RoleField, IdentifierField, AttributesField, SubjectField, PartyField, AnyTerm, TermOf, SignedAttest, IakPairField, RegisterField, HashedPair, SignedQuote}
use Rattle.rules.specs.Record.{last_kind, width, fields_of, section_of, term_section, setup_section, word}
use Rattle.rules.specs.File.{File, Setup, learns, holds, signs_with, kind, is_kind, term, hashed_term, message}
use Rattle.rules.specs.Load.{first, refuse_unless, declared_fault, kind_fault, empty_pair, field_fault, fields_fault, subject_at, term_at, setup_at}
use Rattle.theorems.proofs.LoadingTerms.{Names}
use Rattle.theorems.proofs.Booleans.{and_true}

-- what loading checked of a set-up record's fields
abbrev pub SetupFields : File → Setup → Type 0
SetupFields f (learns p t) = (p < length f.roles) × (t < length f.terms)
SetupFields f (holds p k) = (p < length f.roles) × (k < length f.terms) × (kind f k ≡ private_key_kind)
SetupFields f (signs_with p k) = (p < length f.roles) × (k < length f.terms) × (kind f k ≡ private_key_kind)

-- the first of two refusals is none
pub first_zero : (m n : ℕ) → first m n ≡ 0 → (m ≡ 0) × (n ≡ 0)
unfolding first
first_zero zero n e = (refl, e)
first_zero (suc m) n e = absurd (omega arith)

-- a test that refused nothing passed
pub refuse_zero : (n : ℕ) (t : Bool) → 0 < n → refuse_unless n t ≡ 0 → t ≡ true
unfolding refuse_unless
refuse_zero n true h e = refl
refuse_zero n false h e = absurd (omega arith)

-- what a field that passed tells
abbrev pub Passed : File → Field → ℕ → List ℕ → Type 0
Passed f RoleField i bs = Unit {0}
Passed f IdentifierField i bs = Unit {0}
Passed f AttributesField i bs = Unit {0}
Passed f SubjectField i bs = Unit {0}
Passed f PartyField i bs = get_or bs i 0 < length f.roles
Passed f AnyTerm i bs = word bs i < length f.terms
Passed f (TermOf k) i bs = (word bs i < length f.terms) × (kind f (word bs i) ≡ k)
Passed f SignedAttest i bs = (kind f (word bs i) ≡ signature_kind) × (kind f (message f (word bs i)) ≡ attest_kind)
Passed f IakPairField i bs = (empty_pair bs i ≡ true) ⊎ ((kind f (word bs i) ≡ credential_kind) × (kind f (word bs (i + 2)) ≡ certificate_kind))
Passed f RegisterField i bs = get_or bs i 0 < register_count
Passed f HashedPair i bs = (word bs i < length f.terms) × (kind f (word bs i) ≡ hash_kind) × (kind f (hashed_term f (word bs i)) ≡ pair_kind)
Passed f SignedQuote i bs = (kind f (word bs i) ≡ signature_kind) × (kind f (message f (word bs i)) ≡ quote_kind)

abbrev pub size : Field → ℕ
size RoleField = 1
size IdentifierField = 2
size AttributesField = 1
size SubjectField = 3
size PartyField = 1
size AnyTerm = 2
size (TermOf k) = 2
size SignedAttest = 2
size IakPairField = pair_width
size RegisterField = 1
size HashedPair = 2
size SignedQuote = 2

abbrev pub AllPassed : File → List Field → ℕ → List ℕ → Type 0
AllPassed f [] i bs = Unit {0}
AllPassed f (x ∷ xs) i bs = Passed f x i bs × AllPassed f xs (i + size x) bs

declared_below : (f : File) (t : ℕ) → declared_fault f t ≡ 0 → t < length f.terms
unfolding declared_fault
declared_below f t e = ltb-true t (length f.terms) (refuse_zero 7 (ltb t (length f.terms)) (omega arith) e)

is_kind_lem : (f : File) (k t : ℕ) → refuse_unless 8 (is_kind f k t) ≡ 0 → kind f t ≡ k
unfolding is_kind
is_kind_lem f k t e = eqb-true (kind f t) k (refuse_zero 8 (is_kind f k t) (omega arith) e)

pair_passed : (f : File) (i : ℕ) (bs : List ℕ) (b : Bool) → empty_pair bs i ≡ b → cond b 0 (first (kind_fault f credential_kind (word bs i)) (kind_fault f certificate_kind (word bs (i + 2)))) ≡ 0
    → (empty_pair bs i ≡ true) ⊎ ((kind f (word bs i) ≡ credential_kind) × (kind f (word bs (i + 2)) ≡ certificate_kind))
pair_passed f i bs true b e = inl b
pair_passed f i bs false b e =
    let w = first_zero _ _ e in
    inr (is_kind_lem f credential_kind (word bs i) (first_zero _ _ w.0).1, is_kind_lem f certificate_kind (word bs (i + 2)) (first_zero _ _ w.1).1)

field_passed : (f : File) (x : Field) (i : ℕ) (bs : List ℕ) → field_fault f x i bs ≡ 0 → Passed f x i bs
unfolding field_fault
field_passed f RoleField i bs e = tt
field_passed f IdentifierField i bs e = tt
field_passed f AttributesField i bs e = tt
field_passed f SubjectField i bs e = tt
field_passed f PartyField i bs e = ltb-true (get_or bs i 0) (length f.roles) (refuse_zero 7 (ltb (get_or bs i 0) (length f.roles)) (omega arith) e)
field_passed f AnyTerm i bs e = declared_below f (word bs i) e
field_passed f (TermOf k) i bs e =
    (declared_below f (word bs i) (first_zero _ _ e).0, is_kind_lem f k (word bs i) (first_zero _ _ e).1)
field_passed f SignedAttest i bs e =
    (is_kind_lem f signature_kind (word bs i) (first_zero _ _ (first_zero _ _ e).1).0, is_kind_lem f attest_kind (message f (word bs i)) (first_zero _ _ (first_zero _ _ e).1).1)
field_passed f IakPairField i bs e = pair_passed f i bs (empty_pair bs i) refl e
field_passed f RegisterField i bs e = ltb-true (get_or bs i 0) register_count (refuse_zero 7 (ltb (get_or bs i 0) register_count) (omega arith) e)
field_passed f HashedPair i bs e =
    (declared_below f (word bs i) (first_zero _ _ e).0, is_kind_lem f hash_kind (word bs i) (first_zero _ _ (first_zero _ _ e).1).0, is_kind_lem f pair_kind (hashed_term f (word bs i)) (first_zero _ _ (first_zero _ _ e).1).1)
field_passed f SignedQuote i bs e =
    (is_kind_lem f signature_kind (word bs i) (first_zero _ _ (first_zero _ _ e).1).0, is_kind_lem f quote_kind (message f (word bs i)) (first_zero _ _ (first_zero _ _ e).1).1)

sized : (x : Field) → width x ≡ size x
unfolding width
sized RoleField = refl
sized IdentifierField = refl
sized AttributesField = refl
sized SubjectField = refl
sized PartyField = refl
sized AnyTerm = refl
sized (TermOf k) = refl
sized SignedAttest = refl
sized IakPairField = refl
sized RegisterField = refl
sized HashedPair = refl
sized SignedQuote = refl

pub passed : (f : File) (bs : List ℕ) (xs : List Field) (i : ℕ) → fields_fault f xs i bs ≡ 0 → AllPassed f xs i bs
unfolding fields_fault
passed f bs [] i e = tt
passed f bs (x ∷ xs) i e =
    let h = first_zero _ _ e in
    (field_passed f x i bs h.0, passed f bs xs (i + size x) (subst (λ (n : ℕ). fields_fault f xs (i + n) bs ≡ 0) (sized x) h.1))

-- P holds of the n numbers from i on
abbrev pub Each : (ℕ → Type 0) → ℕ → ℕ → Type 0
Each P zero i = Unit {0}
Each P (suc n) i = P i × Each P n (i + 1)

each_go : (P : ℕ → Type 0) (n i : ℕ) → P i × Each P n (i + 1) → (k : ℕ) → i ≤ k → k < i + suc n → (t : Bool) → eqb i k ≡ t → ((i + 1 ≤ k) → (k < i + 1 + n) → P k) → P k
each_go P n i ps k lo hi true e r = subst P (eqb-true i k e) ps.0
each_go P n i ps k lo hi false e r =
    let ne : i ≡ k → ⊥ = eqb-false i k e in
    r (omega arith) (omega arith)

pub each : (P : ℕ → Type 0) (n i : ℕ) → Each P n i → (k : ℕ) → i ≤ k → k < i + n → P k
each P zero i ps k lo hi = absurd (omega arith)
each P (suc n) i ps k lo hi = each_go P n i ps k lo hi (eqb i k) refl (each P n (i + 1) ps.1 k)

-- the tests of section_of
abbrev Range : ℕ → Bool → Bool → Bool → Bool → Type 0
Range s a b c d = ◌≡◌ {A = ℕ} (cond a 1 (cond b 2 (cond c 3 (cond d 4 0)))) s

pub second : (a b c d : Bool) → Range 2 a b c d → b ≡ true
second true b c d e = absurd (omega arith)
second false true c d e = refl
second false false true d e = absurd (omega arith)
second false false false true e = absurd (omega arith)
second false false false false e = absurd (omega arith)

third : (a b c d : Bool) → Range 3 a b c d → c ≡ true
third true b c d e = absurd (omega arith)
third false true c d e = absurd (omega arith)
third false false true d e = refl
third false false false true e = absurd (omega arith)
third false false false false e = absurd (omega arith)

pub fourth : (a b c d : Bool) → Range 4 a b c d → d ≡ true
fourth true b c d e = absurd (omega arith)
fourth false true c d e = absurd (omega arith)
fourth false false true d e = absurd (omega arith)
fourth false false false true e = refl
fourth false false false false e = absurd (omega arith)

pub within : (lo k hi : ℕ) → (leb lo k && leb k hi) ≡ true → (lo ≤ k) × (k < suc hi)
within lo k hi e =
    let h = and_true (leb lo k) (leb k hi) e in
    (leb-true lo k h.0, (omega (arith, leb-true k hi h.1)))

abbrev TermNames : File → List ℕ → ℕ → Type 0
TermNames f bs k = AllPassed f (fields_of k) 0 bs → Names f.terms (length f.terms) (term_at k bs)

abbrev SetupPassed : File → List ℕ → ℕ → Type 0
SetupPassed f bs k = AllPassed f (fields_of k) 0 bs → SetupFields f (setup_at k bs)

by_subject : (P : Subject → Type 0) → ((n : ℕ) → P (Tpm n)) → ((n : ℕ) → P (Device n)) → (s : Subject) → P s
by_subject P a b (Tpm n) = a n
by_subject P a b (Device n) = b n

module _ (f : File) (bs : List ℕ) where
  each_term : Each (TermNames f bs) 13 0x10
  unfolding fields_of section_of term_at kind term kind_of fields_in subject_fields
  each_term = ((λ h. h), ((λ h. h), ((λ h. h), ((λ h. h), ((λ h. h), ((λ h. h), ((λ h. h), (request, ((λ h. h), (certificate, ((λ h. h), ((λ h. h), ((λ h. h), tt)))))))))))))
    where
      request : TermNames f bs idevid_request_kind
      request h = by_subject (λ s. Names f.terms (length f.terms) (IdevidRequest s (word bs 3) (word bs 5))) (λ n. h) (λ n. h) (subject_at bs 0)

      certificate : TermNames f bs certificate_kind
      certificate h = by_subject (λ s. Names f.terms (length f.terms) (Certificate (word bs 0) s (word bs 5))) (λ n. h) (λ n. h) (subject_at bs 2)

  each_setup : Each (SetupPassed f bs) 3 0x20
  unfolding fields_of section_of setup_at
  each_setup = ((λ h. (h.0, h.1.0)), ((λ h. (h.0, h.1.0.0, h.1.0.1)), ((λ h. (h.0, h.1.0.0, h.1.0.1)), tt)))

  pub term_names : (k : ℕ) → section_of k ≡ term_section → fields_fault f (fields_of k) 0 bs ≡ 0 → Names f.terms (length f.terms) (term_at k bs)
  unfolding section_of
  term_names k s e =
      let r = within 0x10 k 0x1C (second (eqb k 1) _ (leb 0x20 k && leb k 0x22) (leb 0x30 k && leb k last_kind) s) in
      each (TermNames f bs) 13 0x10 each_term k r.0 (omega arith) (passed f bs (fields_of k) 0 e)

  pub setup_passed : (k : ℕ) → section_of k ≡ setup_section → fields_fault f (fields_of k) 0 bs ≡ 0 → SetupFields f (setup_at k bs)
  unfolding section_of
  setup_passed k s e =
      let r = within 0x20 k 0x22 (third (eqb k 1) (leb 0x10 k && leb k 0x1C) _ (leb 0x30 k && leb k last_kind) s) in
      each (SetupPassed f bs) 3 0x20 each_setup k r.0 (omega arith) (passed f bs (fields_of k) 0 e)
