-- Terms of a file: what their kinds and fields say of their parts and pairs of keys, and what the tests and searches of the rules found.
-- Assumes nothing.
use mathlib.Core.Path.{◌≡◌, refl, sym, ap, ◌∙◌}
use mathlib.Core.Logic.{◌⊎◌, inl, inr}
use mathlib.Core.Bool.{Bool, true, ◌&&◌, cond, false≢true}
use mathlib.Core.List.Memᴰ
use mathlib.Core.List.{List, [], ◌∷◌, Memᴰ}
use Prim.Native.Nat.{ℕ, suc, ◌+◌, ◌<◌}
use native.Mathlib.Omega.{arith}
use native.Mathlib.Decide.{dec_lt}
use lib.Dec.{eqb}
use lib.ListN.{get_or, length, get_or-eq_default}
use borrow.Author.Tests.{eqb-true, eq-eqb}
use Rattle.rules.specs.declared.Attributes.{Attributes}
use Rattle.rules.specs.declared.Subject.{Subject}
use Rattle.rules.specs.declared.Subject.TheVariants.{Tpm, Device}
use Rattle.rules.specs.declared.Term.{Term}
use Rattle.rules.specs.declared.Term.TheVariants.{PublicKey, PrivateKey, Hash, Signature, Attest, Credential, Number, IdevidRequest, LdevidRequest, Certificate, Pair, Register, Quote}
use Rattle.rules.specs.Attributes.{same_attributes}
use Rattle.rules.specs.Term.{public_key_kind, private_key_kind, hash_kind, signature_kind, attest_kind, credential_kind, number_kind, idevid_request_kind, ldevid_request_kind, certificate_kind, pair_kind, register_kind, quote_kind, kind_of, fields_in, subject_fields, attributes_of, parts_of, same_subject, is_device_subject, same_list, key_pair}
use Rattle.rules.specs.File.{File, Setup, learns, holds, signs_with, role_of, is_role, term, kind, is_kind, parts, field, message, attested_key, idevid_certificate, idevid_key, ldevid_message, ldevid_certificate, certified_key, left_of, right_of, register_of, quoted_value, quote_number, attributes, paired, some_term, half_in, some_setup, is_hold, is_signing_key, is_signing_key_for, holds_key, signs_for, signs_for_role}
use Rattle.theorems.proofs.Booleans.{and_true, or_true, or_right}

-- a term from its kind and its fields
subject_at : List ℕ → ℕ → ℕ → Subject
subject_at fs i j = cond (eqb (get_or fs i 0) 0) (Tpm (get_or fs j 0)) (Device (get_or fs j 0))

rebuild : ℕ → List ℕ → Term
rebuild k fs =
    cond (eqb k public_key_kind) (PublicKey (get_or fs 0 0) (record { bits = get_or fs 1 0 }))
    (cond (eqb k private_key_kind) (PrivateKey (get_or fs 0 0) (record { bits = get_or fs 1 0 }))
    (cond (eqb k hash_kind) (Hash (get_or fs 0 0))
    (cond (eqb k signature_kind) (Signature (get_or fs 0 0) (get_or fs 1 0))
    (cond (eqb k attest_kind) (Attest (get_or fs 0 0))
    (cond (eqb k credential_kind) (Credential (get_or fs 0 0) (get_or fs 1 0) (get_or fs 2 0))
    (cond (eqb k number_kind) (Number (get_or fs 0 0))
    (cond (eqb k idevid_request_kind) (IdevidRequest (subject_at fs 0 1) (get_or fs 2 0) (get_or fs 3 0))
    (cond (eqb k ldevid_request_kind) (LdevidRequest (get_or fs 0 0) (get_or fs 1 0))
    (cond (eqb k certificate_kind) (Certificate (get_or fs 0 0) (subject_at fs 1 2) (get_or fs 3 0))
    (cond (eqb k pair_kind) (Pair (get_or fs 0 0) (get_or fs 1 0))
    (cond (eqb k register_kind) (Register (get_or fs 0 0))
    (Quote (get_or fs 0 0) (get_or fs 1 0) (get_or fs 2 0)))))))))))))

rebuilt : (t : Term) → rebuild (kind_of t) (fields_in t) ≡ t
unfolding rebuild subject_at kind_of fields_in subject_fields
rebuilt (PublicKey id a) = refl
rebuilt (PrivateKey id a) = refl
rebuilt (Hash t) = refl
rebuilt (Signature t k) = refl
rebuilt (Attest k) = refl
rebuilt (Credential t n k) = refl
rebuilt (Number id) = refl
rebuilt (IdevidRequest (Tpm n) c k) = refl
rebuilt (IdevidRequest (Device n) c k) = refl
rebuilt (LdevidRequest t c) = refl
rebuilt (Certificate k (Tpm n) p) = refl
rebuilt (Certificate k (Device n) p) = refl
rebuilt (Pair t u) = refl
rebuilt (Register i) = refl
rebuilt (Quote i t n) = refl

-- a term from its kind and fields is the term itself
pub term_same : (a b : Term) → kind_of a ≡ kind_of b → fields_in a ≡ fields_in b → a ≡ b
term_same a b k e = cc (rebuilt a, rebuilt b)

-- a 1B from its register
pub register_term : (f : File) (t : ℕ) → kind f t ≡ register_kind → term f t ≡ Register (register_of f t)
unfolding kind rebuild register_of field
register_term f t e = sym (rebuilt (term f t)) ∙ ap (λ (k : ℕ). rebuild k (fields_in (term f t))) e

-- the parts of a term, by its kind
module _ (f : File) (t : ℕ) where
  parts_by_lem : (k : ℕ) → kind f t ≡ k → parts f t ≡ parts_of (rebuild k (fields_in (term f t)))
  unfolding kind parts
  parts_by_lem k e = cc (rebuilt (term f t))

  pub parts_public_key : kind f t ≡ public_key_kind → parts f t ≡ []
  unfolding rebuild parts_of
  parts_public_key e = parts_by_lem public_key_kind e

  pub parts_private_key : kind f t ≡ private_key_kind → parts f t ≡ []
  unfolding rebuild parts_of
  parts_private_key e = parts_by_lem private_key_kind e

  pub parts_hash : kind f t ≡ hash_kind → parts f t ≡ []
  unfolding rebuild parts_of
  parts_hash e = parts_by_lem hash_kind e

  pub parts_credential : kind f t ≡ credential_kind → parts f t ≡ []
  unfolding rebuild parts_of
  parts_credential e = parts_by_lem credential_kind e

  pub parts_number : kind f t ≡ number_kind → parts f t ≡ []
  unfolding rebuild parts_of
  parts_number e = parts_by_lem number_kind e

  pub parts_signature : kind f t ≡ signature_kind → parts f t ≡ message f t ∷ []
  unfolding rebuild parts_of message field
  parts_signature e = parts_by_lem signature_kind e

  pub parts_attest : kind f t ≡ attest_kind → parts f t ≡ attested_key f t ∷ []
  unfolding rebuild parts_of attested_key field
  parts_attest e = parts_by_lem attest_kind e

  pub parts_idevid_request : kind f t ≡ idevid_request_kind → parts f t ≡ idevid_certificate f t ∷ idevid_key f t ∷ []
  unfolding rebuild parts_of idevid_certificate idevid_key field
  parts_idevid_request e = parts_by_lem idevid_request_kind e

  pub parts_ldevid_request : kind f t ≡ ldevid_request_kind → parts f t ≡ ldevid_message f t ∷ ldevid_certificate f t ∷ []
  unfolding rebuild parts_of ldevid_message ldevid_certificate field
  parts_ldevid_request e = parts_by_lem ldevid_request_kind e

  pub parts_certificate : kind f t ≡ certificate_kind → parts f t ≡ certified_key f t ∷ []
  unfolding rebuild parts_of certified_key field
  parts_certificate e = parts_by_lem certificate_kind e

  pub parts_register : kind f t ≡ register_kind → parts f t ≡ []
  unfolding parts_of rebuild
  parts_register e = parts_by_lem register_kind e

  pub parts_quote : kind f t ≡ quote_kind → parts f t ≡ quoted_value f t ∷ quote_number f t ∷ []
  unfolding parts_of rebuild quoted_value quote_number field
  parts_quote e = parts_by_lem quote_kind e

  pub parts_pair : kind f t ≡ pair_kind → parts f t ≡ left_of f t ∷ right_of f t ∷ []
  unfolding rebuild parts_of left_of right_of field
  parts_pair e = parts_by_lem pair_kind e

pub is_kind_kind : (f : File) (k t : ℕ) → is_kind f k t ≡ true → kind f t ≡ k
unfolding is_kind
is_kind_kind f k t e = eqb-true _ _ e

pub is_role_role : (f : File) (role p : ℕ) → is_role f role p ≡ true → role_of f p ≡ role
unfolding is_role
is_role_role f role p e = eqb-true _ _ e

pub same_attributes_lem : (a b : Attributes) → same_attributes a b ≡ true → a ≡ b
unfolding same_attributes
same_attributes_lem a b e = λ i. record { bits = eqb-true a.bits b.bits e i }

pub same_subject_lem : (a b : Subject) → same_subject a b ≡ true → a ≡ b
unfolding same_subject
same_subject_lem (Tpm m) (Tpm n) e = ap Tpm (eqb-true m n e)
same_subject_lem (Tpm m) (Device n) e = absurd (false≢true e)
same_subject_lem (Device m) (Tpm n) e = absurd (false≢true e)
same_subject_lem (Device m) (Device n) e = ap Device (eqb-true m n e)

pub subject_same : (a b : Subject) → a ≡ b → same_subject a b ≡ true
unfolding same_subject
subject_same (Tpm m) b e = rw (← e, eq-eqb m m refl) refl
subject_same (Device m) b e = rw (← e, eq-eqb m m refl) refl

pub device_subject_lem : (s : Subject) → is_device_subject s ≡ true → (n : ℕ) × (s ≡ Device n)
unfolding is_device_subject
device_subject_lem (Tpm n) e = absurd (false≢true e)
device_subject_lem (Device n) e = (n, refl)

same_list_lem : (xs ys : List ℕ) → same_list xs ys ≡ true → xs ≡ ys
unfolding same_list
same_list_lem [] [] e = refl
same_list_lem [] (y ∷ ys) e = absurd (false≢true e)
same_list_lem (x ∷ xs) [] e = absurd (false≢true e)
same_list_lem (x ∷ xs) (y ∷ ys) e =
    let h = and_true _ _ e in
    let p : x ≡ y = eqb-true x y h.0 in
    let q : xs ≡ ys = same_list_lem xs ys h.1 in
    cc

both_same : (a p b k : ℕ) → (eqb a p && eqb b k) ≡ true → (a ≡ p) × (b ≡ k)
both_same a p b k e = let h = and_true _ _ e in (eqb-true a p h.0, eqb-true b k h.1)

-- pairs of keys
module _ (f : File) (k j : ℕ) (e : paired f k j ≡ true) where
  pair_both : ((eqb (kind f k) public_key_kind && eqb (kind f j) private_key_kind) ≡ true) × (same_list (fields_in (term f k)) (fields_in (term f j)) ≡ true)
  unfolding paired key_pair kind
  pair_both = and_true _ _ e

  pub pair_kinds : (kind f k ≡ public_key_kind) × (kind f j ≡ private_key_kind)
  pair_kinds = both_same _ _ _ _ pair_both.0

  pair_fields : fields_in (term f k) ≡ fields_in (term f j)
  pair_fields = same_list_lem _ _ pair_both.1

  pub pair_attributes : attributes f k ≡ attributes f j
  unfolding attributes kind rebuild attributes_of
  pair_attributes =
      let h : attributes_of (rebuild public_key_kind (fields_in (term f k))) ≡ attributes_of (rebuild private_key_kind (fields_in (term f j))) = rw pair_fields in
      cc (rebuilt (term f k), rebuilt (term f j), pair_kinds.0, pair_kinds.1, h)

pub pair_term : (f : File) (k i j : ℕ) → paired f k i ≡ true → paired f k j ≡ true → term f i ≡ term f j
unfolding kind
pair_term f k i j d e = term_same _ _ ((pair_kinds f k i d).1 ∙ sym (pair_kinds f k j e).1) (sym (pair_fields f k i d) ∙ pair_fields f k j e)

-- two public keys of one private key are the same term
pub pair_public : (f : File) (k l j : ℕ) → paired f k j ≡ true → paired f l j ≡ true → term f k ≡ term f l
unfolding kind
pair_public f k l j d e = term_same _ _ ((pair_kinds f k j d).0 ∙ sym (pair_kinds f l j e).0) (pair_fields f k j d ∙ sym (pair_fields f l j e))

-- an undeclared number reads as Hash 0
module _ (f : File) (j : ℕ) where
  pub declared : (kind f j ≡ hash_kind → ⊥) → j < length f.terms
  unfolding kind term kind_of
  declared other = elim (dec_lt j (length f.terms)) [ yes h ↦ h | no h ↦ absurd (other (ap kind_of (get_or-eq_default f.terms (Hash 0) {n = j} (omega arith)))) ]

  pub private_declared : kind f j ≡ private_key_kind → j < length f.terms
  private_declared e = declared (λ h. omega arith)

  pub public_declared : kind f j ≡ public_key_kind → j < length f.terms
  public_declared e = declared (λ h. omega arith)

-- a term that a search found: its number n, and its place j in the list whose first term has the number i
term_found : (test : ℕ → Term → Bool) (ts : List Term) (i : ℕ) → some_term test ts i ≡ true → (n j : ℕ) × (n ≡ i + j) × (test n (get_or ts j (Hash 0)) ≡ true)
unfolding some_term
term_found test [] i e = absurd (false≢true e)
term_found test (t ∷ ts) i e = step (or_true _ _ e) (term_found test ts (suc i))
  where
    step : (test i t ≡ true) ⊎ (some_term test ts (suc i) ≡ true) → (some_term test ts (suc i) ≡ true → (n j : ℕ) × (n ≡ suc i + j) × (test n (get_or ts j (Hash 0)) ≡ true)) → (n j : ℕ) × (n ≡ i + j) × (test n (get_or (t ∷ ts) j (Hash 0)) ≡ true)
    step (inl h) later = (i, 0, omega arith, h)
    step (inr h) later = let (n, j, d, r) = later h in (n, suc j, omega arith, r)

-- the half that a search found
pub half_found : (f : File) (test : ℕ → Bool) (k : ℕ) → half_in f test k ≡ true → (j : ℕ) × (paired f k j ≡ true) × (test j ≡ true)
unfolding half_in paired term
half_found f test k e =
    let (n, j, d, r) = term_found _ f.terms 0 e in
    let s : n ≡ j = omega arith in
    let h = and_true _ _ r in
    (j, h.0, rw s at h.1)

-- set-up records that a search found
pub setup_found : (test : Setup → Bool) (xs : List Setup) → some_setup test xs ≡ true → (x : Setup) × (Memᴰ x xs) × (test x ≡ true)
unfolding some_setup
setup_found test [] e = absurd (false≢true e)
setup_found test (x ∷ xs) e = step (or_true _ _ e) (setup_found test xs)
  where
    step : (test x ≡ true) ⊎ (some_setup test xs ≡ true) → (some_setup test xs ≡ true → (y : Setup) × (Memᴰ y xs) × (test y ≡ true)) → (y : Setup) × (Memᴰ y (x ∷ xs)) × (test y ≡ true)
    step (inl h) later = (x, Memᴰ.head refl, h)
    step (inr h) later = let (y, m, r) = later h in (y, Memᴰ.tail m, r)

-- a search passes by a record that passes its test
pub setup_finds : (test : Setup → Bool) {x : Setup} {xs : List Setup} → test x ≡ true → Memᴰ x xs → some_setup test xs ≡ true
unfolding some_setup
setup_finds test h (Memᴰ.head e) = rw (← e, h)
setup_finds test h (Memᴰ.tail {x = y} m) = or_right (test y) _ (setup_finds test h m)

-- the one record that passes a test
the_given : (f : File) (test : Setup → Bool) (y : Setup) → ((x : Setup) → test x ≡ true → x ≡ y) → some_setup test f.setup ≡ true → Memᴰ y f.setup
the_given f test y only e = let (x, m, r) = setup_found test f.setup e in Memᴰ.cast (sym (only x r)) m

module _ (f : File) (p k : ℕ) where
  pub holds_given : holds_key f p k ≡ true → Memᴰ (holds p k) f.setup
  unfolding holds_key is_hold
  holds_given = the_given f (is_hold p k) (holds p k) only
    where
      only : (x : Setup) → is_hold p k x ≡ true → x ≡ holds p k
      only (learns q t) e = absurd (false≢true e)
      only (holds q t) e = let h = both_same q p t k e in cc
      only (signs_with q t) e = absurd (false≢true e)

  pub given_holds : Memᴰ (holds p k) f.setup → holds_key f p k ≡ true
  unfolding holds_key is_hold
  given_holds m = setup_finds (is_hold p k) (simp (eq-eqb p p refl, eq-eqb k k refl)) m

  pub signs_given : signs_for f p k ≡ true → Memᴰ (signs_with p k) f.setup
  unfolding signs_for is_signing_key
  signs_given = the_given f (is_signing_key p k) (signs_with p k) only
    where
      only : (x : Setup) → is_signing_key p k x ≡ true → x ≡ signs_with p k
      only (learns q t) e = absurd (false≢true e)
      only (holds q t) e = absurd (false≢true e)
      only (signs_with q t) e = let h = both_same q p t k e in cc

pub signs_role_given : (f : File) (role k : ℕ) → signs_for_role f role k ≡ true → (p : ℕ) × (Memᴰ (signs_with p k) f.setup) × (role_of f p ≡ role)
unfolding signs_for_role is_signing_key_for
signs_role_given f role k e = let (x, m, r) = setup_found _ f.setup e in giver x m r
  where
    giver : (x : Setup) → Memᴰ x f.setup → is_signing_key_for f role k x ≡ true → (p : ℕ) × (Memᴰ (signs_with p k) f.setup) × (role_of f p ≡ role)
    giver (learns q t) m r = absurd (false≢true r)
    giver (holds q t) m r = absurd (false≢true r)
    giver (signs_with q t) m r = let h = and_true _ _ r in (q, Memᴰ.cast (ap (signs_with q) (sym (eqb-true t k h.1))) m, is_role_role f role q h.0)
