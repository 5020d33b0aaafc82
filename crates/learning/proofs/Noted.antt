-- The terms of the tables are those of the file.
--     parts-by        the parts of a term, by its kind and its fields
--     parts-there     those of a term that the tables have as its record stands
--     terms-noted     such terms can be looked up
--     learn-there     and learning one is learning by the records
--     ready-noted     a term that can be looked up can be learnt
-- Assumes nothing.
use mathlib.Core.Path.{◌≡◌, refl, sym, subst, subst⁻¹, ◌∙◌}
use mathlib.Core.List.{List, Memᴰ}
use Prim.Native.Nat.{ℕ, suc, ◌*◌, ◌<◌, ◌≤◌}
use native.Mathlib.Omega.{arith}
use lib.ListN.{length, get_or}
use Rattle.rules.specs.declared.Term.{Term}
use Rattle.rules.specs.declared.Term.TheVariants.{PublicKey, PrivateKey, Hash, Signature, Attest, Credential, Number, IdevidRequest, LdevidRequest, Certificate, Pair, Register, Quote}
use Rattle.rules.specs.declared.Subject.TheVariants.{Tpm, Device}
use Rattle.rules.specs.Limits.{row_width, party_limit, term_limit}
use Rattle.rules.specs.Term.{hash_kind, kind_of, subject_fields, fields_in, parts_of}
use Rattle.rules.specs.Learning.{Knowledge}
use Rattle.records.proofs.Keys.{term_kind}
use Rattle.tables.specs.Columns.{Terms, field_words, field_of}
use Rattle.learning.specs.There.{kind_there, term_there, TermRecord, parts_there, learn_there}
use Rattle.learning.specs.Noted.{parts_by, parts_noted, learn_noted, Ready, TermsNoted, Noted}
use Rattle.learning.proofs.Opening.{opened_same}

-- the parts of a term of a kind, with its first fields
module _ (kind : ℕ) (field : ℕ → ℕ) where
  pub parts_by_lem : (x : Term) → kind ≡ kind_of x → ((i : ℕ) → i < field_words → field i ≡ get_or (fields_in x) i 0) → parts_by kind field ≡ parts_of x
  unfolding parts_by kind_of fields_in subject_fields parts_of
  parts_by_lem (PublicKey id a) e h = rw e refl
  parts_by_lem (PrivateKey id a) e h = rw e refl
  parts_by_lem (Hash t) e h = rw e refl
  parts_by_lem (Signature t k) e h = rw (e, h 0 (omega arith)) refl
  parts_by_lem (Attest k) e h = rw (e, h 0 (omega arith)) refl
  parts_by_lem (Credential t n k) e h = rw e refl
  parts_by_lem (Number id) e h = rw e refl
  parts_by_lem (IdevidRequest (Tpm n) c k) e h = rw (e, h 2 (omega arith), h 3 (omega arith)) refl
  parts_by_lem (IdevidRequest (Device n) c k) e h = rw (e, h 2 (omega arith), h 3 (omega arith)) refl
  parts_by_lem (LdevidRequest t c) e h = rw (e, h 0 (omega arith), h 1 (omega arith)) refl
  parts_by_lem (Certificate k s p) e h = rw (e, h 0 (omega arith)) refl
  parts_by_lem (Pair t u) e h = rw (e, h 0 (omega arith), h 1 (omega arith)) refl
  parts_by_lem (Register i) e h = rw e refl
  parts_by_lem (Quote i t n) e h = rw (e, h 1 (omega arith), h 2 (omega arith)) refl

module _ {bs : List ℕ} {place : ℕ → ℕ} {v : Terms} {n : ℕ} (noted : Noted bs place v n) (whole : (t : ℕ) → t < n → TermRecord bs (place t)) where
  parts_there_lem : (t : ℕ) → t < n → parts_noted v t ≡ parts_there bs place t
  unfolding parts_noted parts_there term_there
  parts_there_lem t l =
      parts_by_lem (v.kind t) (field_of v t) (term_there bs (place t)) (noted.kinds t l ∙ sym (term_kind (kind_there bs (place t)) _ (whole t l).is_term)) (λ i h. noted.fields t i l h)

  pub terms_noted : n ≤ term_limit → ((t u : ℕ) → t < n → Memᴰ u (parts_there bs place t) → u < t) → ((t : ℕ) → t < n → kind_there bs (place t) ≡ hash_kind → get_or (fields_in (term_there bs (place t))) 0 0 < t) → TermsNoted v n
  terms_noted few lower hashed = record {
    few = few;
    lower = λ t u l m. lower t u l (subst (Memᴰ u) (parts_there_lem t l) m);
    hashed = λ t l e. subst⁻¹ (λ (u : ℕ). u < t) (noted.fields t 0 l (omega arith)) (hashed t l (sym (noted.kinds t l) ∙ e));
  }

  pub learn_there_lem : TermsNoted v n → (p t : ℕ) → t < n → (known : Knowledge) → learn_noted v p t known ≡ learn_there bs place p t known
  unfolding learn_noted learn_there
  learn_there_lem terms p t l known = opened_same (parts_noted v) (parts_there bs place) n parts_there_lem terms.lower p (suc t) t l known

pub ready_noted : {v : Terms} {n p t : ℕ} {s : List ℕ} → TermsNoted v n → p < party_limit → row_width * n ≤ length s → t < n → Ready v s p t
ready_noted terms h room l = record {
  party = h;
  few = (omega (arith, l, terms.few));
  room = (omega (arith, l, room));
  lower = λ u w m. terms.lower u w (omega (arith, m, l));
}
