-- What is wrong with a record by the bytes is what the rules find wrong with it, where the bytes describe the file
-- declared so far.
--     signer_is, signer_given                  the signing key of a party
--     fields_same, allowed_same, alike_same    7 to 12, each by itself
--     head_zero, refuse_head                   3 to 6
--     refuse_fields, refuse_last, taken        what loading makes of the record
-- Assumes nothing.
use mathlib.Core.Path.{◌≡◌, refl, sym, ap, ap₂, ◌∙◌, subst}
use mathlib.Core.Logic.{◌⊎◌, inl, inr}
use mathlib.Core.Bool.{Bool, true, false, cond, not, ◌&&◌, ◌||◌, false≢true}
use mathlib.Core.List.{List, [], ◌∷◌, Memᴰ}
use Prim.Native.Nat.{ℕ, zero, suc, ◌+◌, ◌<◌, ◌≤◌}
use native.Mathlib.Omega.{arith}
use lib.Dec.{eqb, ltb, leb}
use lib.ListN.{length, get_or}
use borrow.Author.Tests.{ltb-true, ltb-false, eqb-true, eqb-false, eq-eqb, ne_eqb, lt-leb, le-leb}
use Rattle.rules.specs.declared.Field.{Field}
use Rattle.rules.specs.declared.Field.TheVariants.{RoleField, IdentifierField, AttributesField, SubjectField, PartyField, AnyTerm, TermOf, SignedAttest, IakPairField, RegisterField, HashedPair, SignedQuote}
use Rattle.rules.specs.declared.Term.{Term}
use Rattle.rules.specs.declared.Term.TheVariants.{Hash}
use Rattle.rules.specs.Limits.{party_limit, tpm_maker}
use Rattle.rules.specs.Attributes.{has, fixed_tpm}
use Rattle.rules.specs.Term.{private_key_kind, hash_kind, signature_kind, attest_kind, pair_kind, quote_kind, credential_kind, certificate_kind, kind_of, fields_in, attributes_of, alike, any_alike}
use Rattle.rules.specs.Record.{width, fields_of, section_of, body_length, term_section, setup_section, word}
use Rattle.rules.specs.File.{File, Setup, learns, holds, signs_with, is_role, term, kind, is_kind, field, hashed_term, message, signer, subject, attributes, parts, some_setup, is_other_hold, is_signer, is_signing_key_for, holds_key, signs_for_role}
use Rattle.rules.specs.Load.{first, refuse_unless, term_at, setup_at, empty_pair, section_fault, count_fault, declared_fault, kind_fault, field_fault, fields_fault, alike_fault, may_learn, may_hold, may_sign, allowed_fault, setup_fault, record_fault, enter, loaded, refused, feed}
use Rattle.records.proofs.Keys.{term_kind}
use Rattle.state.specs.View.{view, in_other}
use Rattle.tables.specs.Columns.{Terms, field_of}
use Rattle.learning.specs.There.{term_there}
use Rattle.learning.specs.Noted.{Noted}
use Rattle.checks.specs.There.{head_fault, role_there, kind_fault_noted, inner_fault_noted, field_fault_noted, any_alike_there}
use Rattle.checks.specs.Fields.{fields_fault_noted}
use Rattle.setup.specs.Allowed.{signs_there, may_learn_there, may_hold_there, may_sign_there, allowed_there}
use Rattle.theorems.proofs.LoadingFields.{SetupFields, first_zero, setup_passed}
use Rattle.theorems.proofs.Loading.{Checked, Good, good_checked}
use Rattle.theorems.proofs.Terms.{parts_signature, setup_found, setup_finds, holds_given, given_holds, signs_role_given}
use Rattle.theorems.proofs.Pieces.{from, body_at, feed_unknown, feed_short, feed_refusal, feed_taken}
use Rattle.scan.specs.declared.Tally.{Tally}
use Rattle.scan.specs.Describes.{Describes, signer_of, last_fault}
use Rattle.theorems.proofs.Booleans.{and_true, or_true, or_left, or_right}

-- Tests.
-- two tests that pass together
pub same_test : (a b : Bool) → (a ≡ true → b ≡ true) → (b ≡ true → a ≡ true) → a ≡ b
same_test true true p q = refl
same_test true false p q = absurd (false≢true (p refl))
same_test false true p q = absurd (false≢true (q refl))
same_test false false p q = refl

both : (a b : Bool) → a ≡ true → b ≡ true → (a && b) ≡ true
both true true p q = refl
both true false p q = q
both false b p q = p

-- some number below n passes a test
some_below : (ℕ → Bool) → ℕ → Bool
some_below test zero = false
some_below test (suc n) = test n || some_below test n

below_found : (test : ℕ → Bool) (n : ℕ) → some_below test n ≡ true → (q : ℕ) × (q < n) × (test q ≡ true)
unfolding some_below
below_found test zero e = absurd (false≢true e)
below_found test (suc n) e = go (or_true _ _ e) (below_found test n)
  where
    go : (test n ≡ true) ⊎ (some_below test n ≡ true) → (some_below test n ≡ true → (q : ℕ) × (q < n) × (test q ≡ true)) → (q : ℕ) × (q < suc n) × (test q ≡ true)
    go (inl h) later = (n, omega arith, h)
    go (inr h) later = let (q, l, r) = later h in (q, omega arith, r)

below_finds : (test : ℕ → Bool) (n q : ℕ) → q < n → test q ≡ true → some_below test n ≡ true
unfolding some_below
below_finds test zero q l e = absurd (omega arith)
below_finds test (suc n) q l e = go (eqb q n) refl (below_finds test n q)
  where
    go : (t : Bool) → eqb q n ≡ t → (q < n → test q ≡ true → some_below test n ≡ true) → (test n || some_below test n) ≡ true
    go true h later = or_left (test n) _ (subst (λ (i : ℕ). test i ≡ true) (eqb-true q n h) e)
    go false h later = let ne : q ≡ n → ⊥ = eqb-false q n h in or_right (test n) _ (later (omega arith) e)

alike_below : (bs : List ℕ) (place : ℕ → ℕ) (x : Term) (n : ℕ) → any_alike_there bs place x n ≡ some_below (λ i. alike x (term_there bs (place i))) n
unfolding any_alike_there some_below
alike_below bs place x zero = refl
alike_below bs place x (suc n) = rw (alike_below bs place x n)

signs_below : (bs : List ℕ) (signers : ℕ → ℕ) (role k n : ℕ) → signs_there bs signers role k n ≡ some_below (λ p. eqb (signers p) (k + 1) && eqb (role_there bs p) role) n
unfolding signs_there some_below
signs_below bs signers role k zero = refl
signs_below bs signers role k (suc n) = rw (signs_below bs signers role k n)

other_below : (table : ℕ → ℕ → Bool) (p t n : ℕ) → in_other table p t n ≡ some_below (λ q. not (eqb q p) && table q t) n
unfolding in_other some_below
other_below table p t zero = refl
other_below table p t (suc n) = rw (other_below table p t n)

-- Refusals.
-- the second refusal matters where the first test passes
then_same : (r : ℕ) (t u : Bool) (a b : ℕ) → t ≡ u → (u ≡ true → a ≡ b) → first (refuse_unless (suc r) t) a ≡ first (refuse_unless (suc r) u) b
unfolding first refuse_unless
then_same r true true a b e h = h refl
then_same r true false a b e h = absurd (false≢true (sym e))
then_same r false true a b e h = absurd (false≢true e)
then_same r false false a b e h = refl

first_none : (a : ℕ) → first a 0 ≡ a
unfolding first
first_none zero = refl
first_none (suc a) = refl

first_some : (a b r : ℕ) → a ≡ suc r → first a b ≡ suc r
unfolding first
first_some a b r e = rw e

first_next : (a b : ℕ) → a ≡ 0 → first a b ≡ b
unfolding first
first_next a b e = rw e

first_assoc : (a b c : ℕ) → first (first a b) c ≡ first a (first b c)
unfolding first
first_assoc zero b c = refl
first_assoc (suc a) b c = refl

-- a term alike an earlier one
any_found : (x : Term) (ts : List Term) → any_alike x ts ≡ true → (i : ℕ) × (i < length ts) × (alike x (get_or ts i (Hash 0)) ≡ true)
unfolding any_alike
any_found x [] e = absurd (false≢true e)
any_found x (t ∷ ts) e = go (or_true _ _ e) (any_found x ts)
  where
    go : (alike x t ≡ true) ⊎ (any_alike x ts ≡ true) → (any_alike x ts ≡ true → (i : ℕ) × (i < length ts) × (alike x (get_or ts i (Hash 0)) ≡ true))
        → (i : ℕ) × (i < suc (length ts)) × (alike x (get_or (t ∷ ts) i (Hash 0)) ≡ true)
    go (inl h) later = (0, omega arith, h)
    go (inr h) later = let (i, l, r) = later h in (suc i, omega arith, r)

any_finds : (x : Term) (ts : List Term) (i : ℕ) → i < length ts → alike x (get_or ts i (Hash 0)) ≡ true → any_alike x ts ≡ true
unfolding any_alike
any_finds x [] i l e = absurd (omega arith)
any_finds x (t ∷ ts) zero l e = or_left (alike x t) _ e
any_finds x (t ∷ ts) (suc i) l e = or_right (alike x t) _ (any_finds x ts i (omega arith) e)

-- 5, as a test for the section before or for the order
order_same : (a b x : ℕ) → cond (ltb a b) 5 x ≡ first (refuse_unless 5 (leb b a)) x
unfolding first refuse_unless
order_same a b x = go (ltb a b) refl
  where
    go : (t : Bool) → ltb a b ≡ t → cond t 5 x ≡ first (refuse_unless 5 (leb b a)) x
    go true e = rw (lt-leb b a (ltb-true a b e))
    go false e = rw (le-leb b a (ltb-false a b e))

-- 9 to 12, by the section
by_section : (a c : Bool) (w x y z : ℕ) → w ≡ x → (c ≡ true → y ≡ z) → (a ≡ true → c ≡ true → ⊥) → cond a w (cond c y 0) ≡ first (cond a x 0) (cond c z 0)
unfolding first
by_section true true w x y z p q never = absurd (never refl refl)
by_section true false w x y z p q never = p ∙ sym (first_none x)
by_section false true w x y z p q never = q refl
by_section false false w x y z p q never = refl

-- 3, 4 and what comes after them
head_none : (a b : Bool) (x : ℕ) → cond a 3 (cond b 4 x) ≡ 0 → (a ≡ false) × (b ≡ false) × (x ≡ 0)
head_none true b x e = absurd (omega arith)
head_none false true x e = absurd (omega arith)
head_none false false x e = (refl, refl, e)

-- the faults of a record: 5 and 6, then the fields, then 9 to 12
fault_parts : (f : File) (k : ℕ) (body : List ℕ)
    → record_fault f k body
    ≡ first (first (section_fault f k) (count_fault f k)) (first (fields_fault f (fields_of k) 0 body) (first (alike_fault f k body) (setup_fault f k body)))
unfolding record_fault
fault_parts f k body = sym (first_assoc _ _ _)

-- Terms.
-- One more than the signing key of a party: that of its 22, or 0 where it has none.
abbrev Signer : List Setup → ℕ → ℕ → Type 0
Signer xs p x = ((k : ℕ) × (x ≡ k + 1) × Memᴰ (signs_with p k) xs) ⊎ ((x ≡ 0) × ((j : ℕ) → Memᴰ (signs_with p j) xs → ⊥))

signer_skip : (x : Setup) (xs : List Setup) (p y : ℕ) → ((j : ℕ) → signs_with p j ≡ x → ⊥) → Signer xs p y → Signer (x ∷ xs) p y
signer_skip x xs p y other (inl (k, e, m)) = inl (k, e, mathlib.Core.List.Memᴰ.tail m)
signer_skip x xs p y other (inr h) = inr (h.0, λ j m. elim (mathlib.Core.List.Memᴰ.cases_cons m) [ inl e ↦ other j e | inr r ↦ h.1 j r ])

signer_cases : (xs : List Setup) (p : ℕ) → Signer xs p (signer_of xs p)
unfolding signer_of
signer_cases [] p = inr (refl, λ j m. mathlib.Core.List.Memᴰ.not-nil m)
signer_cases (learns q t ∷ xs) p = signer_skip (learns q t) xs p _ (λ j e. let z : ◌≡◌ {A = ℕ} 0 1 = cc in omega arith) (signer_cases xs p)
signer_cases (holds q t ∷ xs) p = signer_skip (holds q t) xs p _ (λ j e. let z : ◌≡◌ {A = ℕ} 0 1 = cc in omega arith) (signer_cases xs p)
signer_cases (signs_with q t ∷ xs) p = go (eqb q p) refl (signer_cases xs p)
  where
    go : (b : Bool) → eqb q p ≡ b → Signer xs p (signer_of xs p) → Signer (signs_with q t ∷ xs) p (cond b (t + 1) (signer_of xs p))
    go true e h = let same : signs_with p t ≡ signs_with q t = ap (λ (r : ℕ). signs_with r t) (sym (eqb-true q p e)) in inl (t, refl, mathlib.Core.List.Memᴰ.head same)
    go false e h = signer_skip (signs_with q t) xs p _ (λ j r. eqb-false q p e (cc)) h

-- the key of a party's 22 is its signing key
pub signer_is : (f : File) → Checked f → (p k : ℕ) → Memᴰ (signs_with p k) f.setup → signer_of f.setup p ≡ k + 1
signer_is f c p k m = elim (signer_cases f.setup p) [ inl (j, e, h) ↦ let q = c.signs_one p j k h m in omega arith | inr h ↦ absurd (h.1 k m) ]

pub signer_given : (f : File) (p k : ℕ) → signer_of f.setup p ≡ k + 1 → Memᴰ (signs_with p k) f.setup
signer_given f p k e =
    elim (signer_cases f.setup p) [ inl (j, q, h) ↦ let same : j ≡ k = omega arith in subst (λ (i : ℕ). Memᴰ (signs_with p i) f.setup) same h | inr h ↦ let z = h.0 in absurd (omega arith) ]

-- another party holds the key
abbrev is_other : File → ℕ → ℕ → ℕ → Bool
is_other f p k q = not (eqb q p) && holds_key f q k

-- a set-up record's fields are right
abbrev pub SetupRight : File → Tally → Setup → Type 0
SetupRight f n (learns p t) = (p < n.parties) × (t < n.terms)
SetupRight f n (holds p k) = (p < n.parties) × (k < n.terms) × (kind f k ≡ private_key_kind)
SetupRight f n (signs_with p k) = (p < n.parties) × (k < n.terms) × (kind f k ≡ private_key_kind)

module _ (f : File) (bs s : List ℕ) (signers : ℕ → ℕ) (n : Tally) (at : ℕ) (d : Describes f bs s signers n at) (g : Good f) where
  kind_same : (t : ℕ) → t < n.terms → get_or bs ((view s).place t) 0 ≡ kind f t
  unfolding kind term_there
  kind_same t h = sym (term_kind (get_or bs ((view s).place t) 0) _ (d.there.whole t h).is_term) ∙ ap kind_of (d.term_is t h)

  -- the message of a declared signature is declared
  message_declared : (t : ℕ) → t < n.terms → kind f t ≡ signature_kind → message f t < n.terms
  message_declared t h e =
      let m : Memᴰ (message f t) (parts f t) = rw (parts_signature f t e) (mathlib.Core.List.Memᴰ.head refl) in
      omega (arith, (good_checked f g).lower t (message f t) m)

  -- and so is what a declared hash is of
  hashed_declared : (t : ℕ) → t < n.terms → kind f t ≡ hash_kind → hashed_term f t < n.terms
  unfolding hashed_term field
  hashed_declared t h e =
      let l = d.there.hashed t h (kind_same t h ∙ e) in
      let u : get_or (fields_in (term_there bs ((view s).place t))) 0 0 ≡ get_or (fields_in (term f t)) 0 0 = ap (λ (x : Term). get_or (fields_in x) 0 0) (d.term_is t h) in
      omega arith

  declared_below : (t : ℕ) → ltb t (length f.terms) ≡ true → t < n.terms
  declared_below t h = omega (arith, ltb-true t (length f.terms) h)

  declared_same : (t : ℕ) → ltb t n.terms ≡ ltb t (length f.terms)
  declared_same t = rw d.terms_are

  -- a field's fault by the tables is the rules'
  module _ {v : Terms} (noted : Noted bs (view s).place v n.terms) where
    kind_noted : (t : ℕ) → t < n.terms → v.kind t ≡ kind f t
    kind_noted t h = noted.kinds t h ∙ kind_same t h

    content_noted : (t : ℕ) → t < n.terms → field_of v t 0 ≡ field f t 0
    unfolding field
    content_noted t h = noted.fields t 0 h (omega arith) ∙ ap (λ (x : Term). get_or (fields_in x) 0 0) (d.term_is t h)

    kind_fault_same : (k t : ℕ) → kind_fault_noted v n.terms k t ≡ kind_fault f k t
    unfolding declared_fault is_kind
    kind_fault_same k t = then_same 6 _ _ _ _ (declared_same t) (λ h. rw (kind_noted t (declared_below t h)))

    -- a term whose first field is another
    inner_same : (outer inner t : ℕ) → (t < n.terms → kind f t ≡ outer → field f t 0 < n.terms)
        → inner_fault_noted v n.terms outer inner t ≡ first (declared_fault f t) (first (refuse_unless 8 (is_kind f outer t)) (refuse_unless 8 (is_kind f inner (field f t 0))))
    unfolding declared_fault is_kind
    inner_same outer inner t below = then_same 6 _ _ _ _ (declared_same t) (λ h.
        let b = declared_below t h in
        then_same 7 _ _ _ _ (rw (kind_noted t b)) (λ e.
        let k = eqb-true (kind f t) outer e in
        rw (content_noted t b, kind_noted (field f t 0) (below b k))))

    field_same : (x : Field) (i : ℕ) (body : List ℕ) → field_fault_noted v n.parties n.terms x i body ≡ field_fault f x i body
    unfolding field_fault_noted field_fault declared_fault is_kind message hashed_term
    field_same RoleField i body = refl
    field_same IdentifierField i body = refl
    field_same AttributesField i body = refl
    field_same SubjectField i body = refl
    field_same PartyField i body = rw d.parties_are
    field_same AnyTerm i body = rw d.terms_are
    field_same (TermOf k) i body = kind_fault_same k (word body i)
    field_same SignedAttest i body = inner_same signature_kind attest_kind (word body i) (message_declared (word body i))
    field_same IakPairField i body =
        ap₂ (λ a b. cond (empty_pair body i) 0 (first a b)) (kind_fault_same credential_kind (word body i)) (kind_fault_same certificate_kind (word body (i + 2)))
    field_same RegisterField i body = refl
    field_same HashedPair i body = inner_same hash_kind pair_kind (word body i) (hashed_declared (word body i))
    field_same SignedQuote i body = inner_same signature_kind quote_kind (word body i) (message_declared (word body i))

    -- and those of all fields
    pub fields_same : (xs : List Field) (i : ℕ) (body : List ℕ) → fields_fault_noted v n.parties n.terms xs i body ≡ fields_fault f xs i body
    unfolding fields_fault_noted fields_fault
    fields_same [] i body = refl
    fields_same (x ∷ xs) i body = rw (field_same x i body, fields_same xs (i + width x) body) refl

  signs_same : (role k : ℕ) → signs_there bs signers role k n.parties ≡ signs_for_role f role k
  unfolding signs_for_role is_signing_key_for is_role
  signs_same role k = signs_below bs signers role k n.parties ∙ same_test _ _ to back
    where
      to : some_below (λ p. eqb (signers p) (k + 1) && eqb (role_there bs p) role) n.parties ≡ true → some_setup (is_signing_key_for f role k) f.setup ≡ true
      to e =
          let (p, b, t) = below_found _ n.parties e in
          let h = and_true _ _ t in
          let few = d.few_parties in
          let m = signer_given f p k (sym (d.signer p (omega arith)) ∙ eqb-true _ _ h.0) in
          setup_finds (is_signing_key_for f role k) (both _ _ (eq-eqb _ _ (sym (d.role p b) ∙ eqb-true _ _ h.1)) (eq-eqb k k refl)) m

      back : some_setup (is_signing_key_for f role k) f.setup ≡ true → some_below (λ p. eqb (signers p) (k + 1) && eqb (role_there bs p) role) n.parties ≡ true
      back e =
          let (p, m, t) = signs_role_given f role k e in
          let c = good_checked f g in
          let b : p < n.parties = omega (arith, c.holds_party p k (c.signs_held p k m), d.parties_are) in
          let few = d.few_parties in
          below_finds _ n.parties p b (both _ _ (eq-eqb _ _ (d.signer p (omega arith) ∙ signer_is f c p k m)) (eq-eqb _ _ (d.role p b ∙ t)))

  learn_same : (t : ℕ) → t < n.terms → may_learn_there bs (view s).place signers n.parties t ≡ may_learn f t
  unfolding may_learn_there may_learn is_kind subject signer field
  learn_same t h = rw (kind_same t h, d.term_is t h, signs_same tpm_maker (get_or (fields_in (term f t)) 3 0)) refl

  other_same : (p k : ℕ) → in_other (holds_key f) p k party_limit ≡ some_setup (is_other_hold p k) f.setup
  unfolding is_other_hold
  other_same p k = other_below (holds_key f) p k party_limit ∙ same_test _ _ to back
    where
      to : some_below (is_other f p k) party_limit ≡ true → some_setup (is_other_hold p k) f.setup ≡ true
      to e =
          let (q, b, t) = below_found (is_other f p k) party_limit e in
          let h = and_true (not (eqb q p)) (holds_key f q k) t in
          setup_finds (is_other_hold p k) (both (not (eqb q p)) _ h.0 (eq-eqb k k refl)) (holds_given f q k h.1)

      finds : (x : Setup) → Memᴰ x f.setup → is_other_hold p k x ≡ true → some_below (is_other f p k) party_limit ≡ true
      finds (learns q t) m e = absurd (false≢true e)
      finds (holds q t) m e =
          let h = and_true (not (eqb q p)) (eqb t k) e in
          let same : t ≡ k = eqb-true t k h.1 in
          let c = good_checked f g in
          below_finds (is_other f p k) party_limit q (omega (arith, c.parties, c.holds_party q t m)) (both (not (eqb q p)) (holds_key f q k) h.0 (given_holds f q k (mathlib.Core.List.Memᴰ.cast (ap (λ (j : ℕ). holds q j) (sym same)) m)))
      finds (signs_with q t) m e = absurd (false≢true e)

      back : some_setup (is_other_hold p k) f.setup ≡ true → some_below (is_other f p k) party_limit ≡ true
      back e = let (x, m, t) = setup_found _ f.setup e in finds x m t

  hold_same : (p k : ℕ) → k < n.terms → may_hold_there bs (view s) p k ≡ may_hold f p k
  unfolding may_hold_there may_hold attributes
  hold_same p k h =
      ap (λ (x : Term). not (has (attributes_of x) fixed_tpm) || not (in_other (view s).table p k party_limit)) (d.term_is k h)
      ∙ ap (λ (b : Bool). not (has (attributes f k) fixed_tpm) || not b) (ap (λ (table : ℕ → ℕ → Bool). in_other table p k party_limit) d.table ∙ other_same p k)

  -- a party has no signing key by the bytes exactly if it has no 22
  unsigned_same : (p : ℕ) → p < n.parties → eqb (signers p) 0 ≡ not (some_setup (is_signer p) f.setup)
  unfolding is_signer
  unsigned_same p h = let few = d.few_parties in rw (d.signer p (omega arith)) (go (signer_cases f.setup p))
    where
      given : (x : Setup) → Memᴰ x f.setup → is_signer p x ≡ true → (k : ℕ) × Memᴰ (signs_with p k) f.setup
      given (learns q k) m e = absurd (false≢true e)
      given (holds q k) m e = absurd (false≢true e)
      given (signs_with q k) m e = (k, mathlib.Core.List.Memᴰ.cast (ap (λ (r : ℕ). signs_with r k) (sym (eqb-true q p e))) m)

      go : Signer f.setup p (signer_of f.setup p) → eqb (signer_of f.setup p) 0 ≡ not (some_setup (is_signer p) f.setup)
      go (inl (k, e, m)) =
          let some : some_setup (is_signer p) f.setup ≡ true = setup_finds (is_signer p) (eq-eqb p p refl) m in
          let other : eqb (signer_of f.setup p) 0 ≡ false = ne_eqb (signer_of f.setup p) 0 (λ z. omega arith) in
          rw (some, other)
      go (inr h) =
          let none : some_setup (is_signer p) f.setup ≡ false = same_test _ _ (λ e. let (x, m, t) = setup_found (is_signer p) f.setup e in let (k, r) = given x m t in absurd (h.1 k r)) (λ e. absurd (false≢true e)) in
          let same : eqb (signer_of f.setup p) 0 ≡ true = eq-eqb (signer_of f.setup p) 0 h.0 in
          rw (none, same)

  sign_same : (p k : ℕ) → p < n.parties → k < n.terms → may_sign_there bs (view s) signers p k ≡ may_sign f p k
  unfolding may_sign_there may_sign is_role attributes
  sign_same p k a b =
      let same : (view s).table p k ≡ holds_key f p k = ap (λ (table : ℕ → ℕ → Bool). table p k) d.table in
      rw (d.role p a, unsigned_same p a, d.term_is k b, same)

  -- the set-up checks by the bytes are the rules', where the record's fields are right
  pub allowed_same : (x : Setup) → SetupRight f n x → allowed_there bs (view s) signers n.parties x ≡ allowed_fault f x
  unfolding allowed_there allowed_fault
  allowed_same (learns p t) h = ap (refuse_unless 10) (learn_same t h.1)
  allowed_same (holds p k) h = ap (refuse_unless 11) (hold_same p k h.1)
  allowed_same (signs_with p k) h = ap (refuse_unless 12) (sign_same p k h.0 h.1)

  alike_at : (x : Term) (i : ℕ) → i < n.terms → alike x (term_there bs ((view s).place i)) ≡ alike x (get_or f.terms i (Hash 0))
  unfolding term
  alike_at x i l = ap (alike x) (d.term_is i l)

  -- a term is alike an earlier one by the bytes exactly if by the rules
  pub alike_same : (x : Term) → any_alike_there bs (view s).place x n.terms ≡ any_alike x f.terms
  alike_same x = alike_below bs (view s).place x n.terms ∙ same_test _ _ to back
    where
      to : some_below (λ i. alike x (term_there bs ((view s).place i))) n.terms ≡ true → any_alike x f.terms ≡ true
      to e =
          let (i, b, t) = below_found _ n.terms e in
          any_finds x f.terms i (omega (arith, d.terms_are)) (sym (alike_at x i b) ∙ t)

      back : any_alike x f.terms ≡ true → some_below (λ i. alike x (term_there bs ((view s).place i))) n.terms ≡ true
      back e =
          let (i, b, t) = any_found x f.terms e in
          let l : i < n.terms = omega (arith, d.terms_are) in
          below_finds _ n.terms i l (alike_at x i l ∙ t)

  right_fields : (x : Setup) → SetupFields f x → SetupRight f n x
  right_fields (learns p t) h = (omega (arith, d.parties_are, h.0), omega (arith, d.terms_are, h.1))
  right_fields (holds p k) h = (omega (arith, d.parties_are, h.0), omega (arith, d.terms_are, h.1), h.2)
  right_fields (signs_with p k) h = (omega (arith, d.parties_are, h.0), omega (arith, d.terms_are, h.1), h.2)

  -- 9 to 12
  pub last_same : (k : ℕ) (body : List ℕ) → fields_fault f (fields_of k) 0 body ≡ 0 → last_fault bs (view s) signers n k body ≡ first (alike_fault f k body) (setup_fault f k body)
  unfolding last_fault alike_fault setup_fault
  last_same k body h =
      by_section (eqb (section_of k) term_section) (eqb (section_of k) setup_section) _ _ _ _
      (rw (alike_same (term_at k body)))
      (λ e. allowed_same (setup_at k body) (right_fields (setup_at k body) (setup_passed f body k (eqb-true _ _ e) h)))
      (λ a b. omega (arith, eqb-true (section_of k) term_section a, eqb-true (section_of k) setup_section b))

  head_same : (k end : ℕ)
      → head_fault (section_of k) end (length bs) n.section n.parties n.terms
      ≡ cond (eqb (section_of k) 0) 3 (cond (ltb (length bs) end) 4 (first (section_fault f k) (count_fault f k)))
  unfolding head_fault section_fault count_fault
  head_same k end = rw (← d.section_is, ← d.parties_are, ← d.terms_are, order_same)

  -- 3 to 6
  pub head_zero : (k end : ℕ) → head_fault (section_of k) end (length bs) n.section n.parties n.terms ≡ 0 → (0 < section_of k) × (end ≤ length bs) × (section_fault f k ≡ 0) × (count_fault f k ≡ 0)
  head_zero k end e =
      let h = head_none (eqb (section_of k) 0) (ltb (length bs) end) _ (sym (head_same k end) ∙ e) in
      let known : section_of k ≡ 0 → ⊥ = eqb-false (section_of k) 0 h.0 in
      let z = first_zero _ _ h.2 in
      (omega arith, ltb-false (length bs) end h.1, z.0, z.1)

  -- the record at the place
  module _ (inside : at < length bs) where
    pub refuse_head : (r : ℕ) → head_fault (section_of (get_or bs at 0)) (at + 1 + body_length (get_or bs at 0)) (length bs) n.section n.parties n.terms ≡ suc r → feed (loaded f) (from bs at) ≡ refused (suc r) at
    refuse_head r e = go (eqb (section_of (get_or bs at 0)) 0) (ltb (length bs) (at + 1 + body_length (get_or bs at 0))) refl refl (sym (head_same (get_or bs at 0) (at + 1 + body_length (get_or bs at 0))) ∙ e)
      where
        go : (a b : Bool) → eqb (section_of (get_or bs at 0)) 0 ≡ a → ltb (length bs) (at + 1 + body_length (get_or bs at 0)) ≡ b
            → cond a 3 (cond b 4 (first (section_fault f (get_or bs at 0)) (count_fault f (get_or bs at 0)))) ≡ suc r → feed (loaded f) (from bs at) ≡ refused (suc r) at
        go true b p q h = feed_unknown bs at inside f (eqb-true (section_of (get_or bs at 0)) 0 p) ∙ ap (λ (x : ℕ). refused x at) h
        go false true p q h =
            let known : section_of (get_or bs at 0) ≡ 0 → ⊥ = eqb-false (section_of (get_or bs at 0)) 0 p in
            feed_short bs at inside f (omega arith) (omega (arith, ltb-true (length bs) (at + 1 + body_length (get_or bs at 0)) q)) ∙ ap (λ (x : ℕ). refused x at) h
        go false false p q h =
            let known : section_of (get_or bs at 0) ≡ 0 → ⊥ = eqb-false (section_of (get_or bs at 0)) 0 p in
            let fits = ltb-false (length bs) (at + 1 + body_length (get_or bs at 0)) q in
            feed_refusal bs at inside f (omega arith) (omega arith) r (fault_parts f (get_or bs at 0) (body_at bs at) ∙ first_some _ _ r h)

    module _ (right : head_fault (section_of (get_or bs at 0)) (at + 1 + body_length (get_or bs at 0)) (length bs) n.section n.parties n.terms ≡ 0) where
      fits : at + 1 + body_length (get_or bs at 0) ≤ length bs
      fits = (head_zero (get_or bs at 0) _ right).1

      -- what is left to be wrong with it
      fault_left :
          record_fault f (get_or bs at 0) (body_at bs at)
          ≡ first (fields_fault f (fields_of (get_or bs at 0)) 0 (body_at bs at)) (first (alike_fault f (get_or bs at 0) (body_at bs at)) (setup_fault f (get_or bs at 0) (body_at bs at)))
      fault_left =
          let h = head_zero (get_or bs at 0) _ right in
          fault_parts f (get_or bs at 0) (body_at bs at) ∙ first_next _ _ (first_next _ _ h.2 ∙ h.3)

      -- a refusal of the fields, or of 9 to 12, is the record's
      pub refuse_fields : (r : ℕ) → fields_fault f (fields_of (get_or bs at 0)) 0 (body_at bs at) ≡ suc r → feed (loaded f) (from bs at) ≡ refused (suc r) at
      refuse_fields r e =
          feed_refusal bs at inside f (head_zero (get_or bs at 0) _ right).0 fits r (fault_left ∙ first_some _ _ r e)

      module _ (passed : fields_fault f (fields_of (get_or bs at 0)) 0 (body_at bs at) ≡ 0) where
        fault_last : record_fault f (get_or bs at 0) (body_at bs at) ≡ last_fault bs (view s) signers n (get_or bs at 0) (body_at bs at)
        fault_last = fault_left ∙ first_next _ _ passed ∙ sym (last_same (get_or bs at 0) (body_at bs at) passed)

        pub refuse_last : (r : ℕ) → last_fault bs (view s) signers n (get_or bs at 0) (body_at bs at) ≡ suc r → feed (loaded f) (from bs at) ≡ refused (suc r) at
        refuse_last r e = feed_refusal bs at inside f (head_zero (get_or bs at 0) _ right).0 fits r (fault_last ∙ e)

        -- a record without any is taken
        pub taken :
            last_fault bs (view s) signers n (get_or bs at 0) (body_at bs at) ≡ 0
            → (record_fault f (get_or bs at 0) (body_at bs at) ≡ 0)
            × (feed (loaded f) (from bs at) ≡ feed (loaded (enter f at (get_or bs at 0) (body_at bs at))) (from bs (at + 1 + body_length (get_or bs at 0))))
        taken e =
            let none = fault_last ∙ e in
            (none, feed_taken bs at inside f (head_zero (get_or bs at 0) _ right).0 fits none)
