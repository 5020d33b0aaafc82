-- Terms as the tables have them: what is in each, and what learning one leaves and needs.
use Rattle.std.specs.Prelude.{◌≡◌, cond, ◌||◌, ℕ, suc, ◌+◌, ◌*◌, ◌<◌, ◌≤◌, eqb, length, get_or}
use mathlib.Core.List.{List, [], ◌∷◌, Memᴰ}
use Rattle.rules.specs.Limits.{row_width, party_limit, term_limit}
use Rattle.rules.specs.Term.{signature_kind, attest_kind, idevid_request_kind, ldevid_request_kind, certificate_kind, pair_kind, quote_kind, hash_kind, fields_in}
use Rattle.rules.specs.Learning.{Knowledge, opened, each}
use Rattle.tables.specs.Columns.{Terms, field_words, field_of}
use Rattle.learning.specs.There.{kind_there, term_there}

-- the kinds with one part, the first field; a 17, whose parts stand behind its Subject; those with two, the first
-- fields; a 1C, behind its register
unfoldable pub parts_by : ℕ → (ℕ → ℕ) → List ℕ
parts_by kind field =
    cond (eqb kind signature_kind || eqb kind attest_kind || eqb kind certificate_kind) (field 0 ∷ [])
    (cond (eqb kind idevid_request_kind) (field 2 ∷ field 3 ∷ [])
    (cond (eqb kind ldevid_request_kind || eqb kind pair_kind) (field 0 ∷ field 1 ∷ [])
    (cond (eqb kind quote_kind) (field 1 ∷ field 2 ∷ []) [])))

-- the parts of each term, by its kind and its fields
unfoldable pub parts_noted : Terms → ℕ → List ℕ
parts_noted v t = parts_by (v.kind t) (field_of v t)

-- party p learns t
unfoldable pub learn_noted : Terms → ℕ → ℕ → Knowledge → Knowledge
learn_noted v p t known = opened (parts_noted v) p (suc t) t known

-- party p learns each part of t
unfoldable pub learn_parts_noted : Terms → ℕ → ℕ → Knowledge → Knowledge
learn_parts_noted v p t known = each (learn_noted v p) (parts_noted v t) known

-- what learning t needs: room for its row; the terms up to t have lower parts
pub record Ready (v : Terms) (s : List ℕ) (p t : ℕ) : Type 0 where
  pub party : p < party_limit
  pub few : t < term_limit
  pub room : row_width * t + row_width ≤ length s
  pub lower : (u w : ℕ) → u ≤ t → Memᴰ w (parts_noted v u) → w < u

-- the first n terms can be looked up, and have lower parts; what a hash is of is lower too
pub record TermsNoted (v : Terms) (n : ℕ) : Type 0 where
  pub few : n ≤ term_limit
  pub lower : (t u : ℕ) → t < n → Memᴰ u (parts_noted v t) → u < t
  pub hashed : (t : ℕ) → t < n → v.kind t ≡ hash_kind → field_of v t 0 < t

-- the kinds and the fields of the first n terms, as their records stand in the file
pub record Noted (bs : List ℕ) (place : ℕ → ℕ) (v : Terms) (n : ℕ) : Type 0 where
  pub kinds : (t : ℕ) → t < n → v.kind t ≡ kind_there bs (place t)
  pub fields : (t i : ℕ) → t < n → i < field_words → field_of v t i ≡ get_or (fields_in (term_there bs (place t))) i 0
