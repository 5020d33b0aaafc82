-- What a term's key tells: with the kind it is the term. And that the fields of a term read from bytes are words.
use mathlib.Core.Path.{◌≡◌, refl, sym, ◌∙◌}
use mathlib.Core.Bool.{Bool, true, false, cond, ◌&&◌, false≢true}
use mathlib.Core.List.{List, [], ◌∷◌}
use Prim.Native.Nat.{ℕ, zero, suc, ◌+◌, ◌*◌, ◌^◌, ◌<◌}
use native.Mathlib.Omega.{arith}
use lib.Dec.{eqb, lit≤}
use lib.ListN.{get_or}
use borrow.Author.Tests.{eq-eqb, eqb-true}
use Rattle.rules.specs.declared.Subject.TheVariants.{Tpm, Device}
use Rattle.rules.specs.declared.Term.{Term}
use Rattle.rules.specs.declared.Term.TheVariants.{PublicKey, PrivateKey, Hash, Signature, Attest, Credential, Number, IdevidRequest, LdevidRequest, Certificate, Pair, Register, Quote}
use Rattle.rules.specs.Term.{kind_of, subject_fields, fields_in, alike, public_key_kind, private_key_kind, hash_kind, signature_kind, attest_kind, credential_kind, number_kind, idevid_request_kind, ldevid_request_kind, certificate_kind, pair_kind, register_kind}
use Rattle.rules.specs.Record.{section_of, term_section, word}
use Rattle.rules.specs.Load.{term_at, subject_at}
use Rattle.records.specs.Keys.{key_of, Small}
use Rattle.records.proofs.EachKind.{agree}
use Rattle.records.proofs.Lengths.{term_kinds_lem}
use Rattle.records.proofs.Terms.{same_four, alike_words}

-- four words are 64 bits
pub key_small : (x : Term) → Small x → key_of (fields_in x) < 2 ^ 64
unfolding key_of
key_small x h = omega (arith, h 0, h 1, h 2, h 3)

-- a word and what stands above it
digits : {a b c d : ℕ} → a < 65536 → c < 65536 → a + 65536 * b ≡ c + 65536 * d → (a ≡ c) × (b ≡ d)
digits h k e = (omega arith, omega arith)

and_true : (a b : Bool) → (a && b) ≡ true → (a ≡ true) × (b ≡ true)
and_true true b e = (refl, e)
and_true false b e = absurd (false≢true e)

-- the first four numbers of two lists agree
abbrev SameFour : List ℕ → List ℕ → Type 0
SameFour xs ys = (get_or xs 0 0 ≡ get_or ys 0 0) × ((get_or xs 1 0 ≡ get_or ys 1 0) × ((get_or xs 2 0 ≡ get_or ys 2 0) × (get_or xs 3 0 ≡ get_or ys 3 0)))

module _ (xs ys : List ℕ) where
  four_words : SameFour xs ys → same_four xs ys ≡ true
  four_words e = rw (eq-eqb _ _ e.0, eq-eqb _ _ e.1.0, eq-eqb _ _ e.1.1.0, eq-eqb _ _ e.1.1.1)

  words_four : same_four xs ys ≡ true → SameFour xs ys
  words_four e =
      let a = and_true _ _ e in
      let b = and_true _ _ a.1 in
      let c = and_true _ _ b.1 in
      (eqb-true _ _ a.0, (eqb-true _ _ b.0, (eqb-true _ _ c.0, eqb-true _ _ c.1)))

-- terms of one kind and one key are alike
pub same_key : (x y : Term) → Small x → Small y → kind_of x ≡ kind_of y → key_of (fields_in x) ≡ key_of (fields_in y) → alike x y ≡ true
unfolding key_of
same_key x y h l k e =
    let a = digits (h 0) (l 0) e in
    let b = digits (h 1) (l 1) a.1 in
    let c = digits (h 2) (l 2) b.1 in
    sym (alike_words x y k) ∙ four_words (fields_in x) (fields_in y) (a.0, (b.0, (c.0, c.1)))

-- and alike terms are of one kind and one key
module _ (x y : Term) (e : alike x y ≡ true) where
  alike_kind : kind_of x ≡ kind_of y
  unfolding alike
  alike_kind = eqb-true (kind_of x) (kind_of y) (and_true _ _ e).0

  pub alike_key : (kind_of x ≡ kind_of y) × (key_of (fields_in x) ≡ key_of (fields_in y))
  unfolding key_of
  alike_key = let s = words_four (fields_in x) (fields_in y) (alike_words x y alike_kind ∙ e) in (alike_kind, rw (s.0, s.1.0, s.1.1.0, s.1.1.1))

-- the numbers of a list are words
abbrev Each : List ℕ → Type 0
Each [] = Unit {0}
Each (x ∷ xs) = (x < 65536) × Each xs

each_small : (xs : List ℕ) → Each xs → (i : ℕ) → get_or xs i 0 < 65536
each_small [] h i = lit≤ tt
each_small (x ∷ xs) h zero = h.0
each_small (x ∷ xs) h (suc i) = each_small xs h.1 i

module _ (body : List ℕ) (bytes : (i : ℕ) → get_or body i 0 < 256) where
  word_small : (i : ℕ) → word body i < 65536
  unfolding word
  word_small i = omega (arith, bytes i, bytes (i + 1))

  byte_small : (i : ℕ) → get_or body i 0 < 65536
  byte_small i = omega (arith, bytes i)

  subject_small : (i : ℕ) (more : List ℕ) → Each more → Each (subject_fields (subject_at body i) more)
  unfolding subject_at subject_fields
  subject_small i more h = go (eqb (get_or body i 0) 0)
    where
      go : (t : Bool) → Each (subject_fields (cond t (Tpm (word body (i + 1))) (Device (word body (i + 1)))) more)
      go true = (lit≤ tt, (word_small (i + 1), h))
      go false = (lit≤ tt, (word_small (i + 1), h))

-- the fields of a term are words
record Worded (x : Term) : Type 0 where
  words : Each (fields_in x)

of : (x : Term) → Each (fields_in x) → Worded x
of x p = record { words = p }

either : (t : Bool) (x : Term) {y : Term} → Each (fields_in x) → Worded y → Worded (cond t x y)
either true x p q = of x p
either false x p q = q

module _ (k : ℕ) (body : List ℕ) (bytes : (i : ℕ) → get_or body i 0 < 256) where
  w : (i : ℕ) → word body i < 65536
  w = word_small body bytes

  when : (own : ℕ) (x : Term) {y : Term} → Each (fields_in x) → Worded y → Worded (cond (eqb k own) x y)
  when own = either (eqb k own)

  worded : Worded (term_at k body)
  unfolding fields_in term_at
  worded =
      when public_key_kind (PublicKey _ _) (w 0, (byte_small body bytes 2, tt))
      (when private_key_kind (PrivateKey _ _) (w 0, (byte_small body bytes 2, tt))
      (when hash_kind (Hash _) (w 0, tt)
      (when signature_kind (Signature _ _) (w 0, (w 2, tt))
      (when attest_kind (Attest _) (w 0, tt)
      (when credential_kind (Credential _ _ _) (w 0, (w 2, (w 4, tt)))
      (when number_kind (Number _) (w 0, tt)
      (when idevid_request_kind (IdevidRequest _ _ _) (subject_small body bytes 0 _ (w 3, (w 5, tt)))
      (when ldevid_request_kind (LdevidRequest _ _) (w 0, (w 2, tt))
      (when certificate_kind (Certificate _ _ _) (w 0, subject_small body bytes 2 _ (w 5, tt))
      (when pair_kind (Pair _ _) (w 0, (w 2, tt))
      (when register_kind (Register _) (byte_small body bytes 0, tt)
      (of (Quote _ _ _) (byte_small body bytes 0, (w 1, (w 3, tt)))))))))))))))

  pub fields_small : Small (term_at k body)
  fields_small = each_small (fields_in (term_at k body)) worded.words

-- the term of a term record is of the record's kind
pub term_kind : (k : ℕ) (body : List ℕ) → section_of k ≡ term_section → kind_of (term_at k body) ≡ k
unfolding term_at kind_of
term_kind k body h = let r = term_kinds_lem k h in agree (λ k. kind_of (term_at k body)) (λ k. k) 0x10 13 refl k r.0 (omega (arith, r.1))
