-- What is noted of the terms: the key of each, and the kinds and the fields with one term more.
use Rattle.tables.specs.declared.columns.Tables.{Tables}
use mathlib.Core.Path.{◌≡◌, ◌∙◌, ap}
use mathlib.Core.List.{List}
use Prim.Native.Nat.{ℕ, zero, suc, ◌+◌, ◌*◌, ◌<◌, ◌≤◌}
use native.Mathlib.Omega.{arith}
use lib.ListN.{get_or}
use Rattle.rules.specs.Limits.{term_limit}
use Rattle.rules.specs.State.{put}
use Rattle.rules.specs.Term.{fields_in}
use Rattle.records.specs.Keys.{key_of, words_of}
use Rattle.tables.specs.Columns.{field_words, Terms, field_of, tables_in}
use Rattle.learning.specs.There.{term_there}
use Rattle.learning.specs.Noted.{Noted}
use Rattle.checks.specs.There.{kind_of_there}
use Rattle.index.specs.Indexed.{key_there, key_noted, term_noted, Indexed, Reached}
use Rattle.index.proofs.Found.{at_most, put_same, put_other}

pub key_noted_lem : {bs : List ℕ} {place : ℕ → ℕ} {links : List ℕ} {tables : Tables} {n : ℕ} → Indexed bs place links tables n → (t : ℕ) → t < n → key_noted (tables_in tables).terms t ≡ key_there bs place t
unfolding key_noted key_there key_of
key_noted_lem i t l = rw (i.noted.fields t 0 l (omega arith), i.noted.fields t 1 l (omega arith), i.noted.fields t 2 l (omega arith), i.noted.fields t 3 l (omega arith))

-- so each of the terms is met by what is noted of it
pub reached : {bs : List ℕ} {place : ℕ → ℕ} {links : List ℕ} {tables : Tables} {n : ℕ} → Indexed bs place links tables n → n ≤ term_limit → Reached (key_noted (tables_in tables).terms) links n
reached i h = record { tree = i.tree; few = h; met = λ t l. rw (key_noted_lem i t l) (i.met t l) }

-- the words of a term, noted one after the other
module _ (v : Terms) (n k : ℕ) (w : List ℕ) where
  abbrev noted : Terms
  noted = term_noted v n k w

  pub kind_new : noted.kind n ≡ k
  kind_new = put_same v.kind n k

  pub kind_kept : (t : ℕ) → t < n → noted.kind t ≡ v.kind t
  kind_kept t l = put_other v.kind n k t (omega arith)

  -- the fields with the first words of the term
  abbrev one : ℕ → ℕ
  one = put v.field (field_words * n + 0) (get_or w 0 0)

  abbrev two : ℕ → ℕ
  two = put one (field_words * n + 1) (get_or w 1 0)

  abbrev three : ℕ → ℕ
  three = put two (field_words * n + 2) (get_or w 2 0)

  -- at another place than a word's, what was there before it
  before_fourth : (u : ℕ) → (u ≡ field_words * n + 3 → ⊥) → noted.field u ≡ three u
  before_fourth = put_other three (field_words * n + 3) (get_or w 3 0)

  before_third : (u : ℕ) → (u ≡ field_words * n + 2 → ⊥) → three u ≡ two u
  before_third = put_other two (field_words * n + 2) (get_or w 2 0)

  before_second : (u : ℕ) → (u ≡ field_words * n + 1 → ⊥) → two u ≡ one u
  before_second = put_other one (field_words * n + 1) (get_or w 1 0)

  pub field_kept : (t i : ℕ) → t < n → i < field_words → field_of noted t i ≡ field_of v t i
  field_kept t i l h =
      let u = field_words * t + i in
      before_fourth u (omega arith) ∙ before_third u (omega arith) ∙ before_second u (omega arith) ∙ put_other v.field (field_words * n + 0) (get_or w 0 0) u (omega arith)

  pub field_new : (xs : List ℕ) → w ≡ words_of xs → (i : ℕ) → i < field_words → field_of noted n i ≡ get_or xs i 0
  field_new xs e zero h =
      let u = field_words * n + 0 in
      before_fourth u (omega arith) ∙ before_third u (omega arith) ∙ before_second u (omega arith) ∙ put_same v.field u (get_or w 0 0) ∙ ap (λ (x : List ℕ). get_or x 0 0) e
  field_new xs e (suc zero) h =
      let u = field_words * n + 1 in
      before_fourth u (omega arith) ∙ before_third u (omega arith) ∙ put_same one u (get_or w 1 0) ∙ ap (λ (x : List ℕ). get_or x 1 0) e
  field_new xs e (suc (suc zero)) h = let u = field_words * n + 2 in before_fourth u (omega arith) ∙ put_same two u (get_or w 2 0) ∙ ap (λ (x : List ℕ). get_or x 2 0) e
  field_new xs e (suc (suc (suc zero))) h = put_same three (field_words * n + 3) (get_or w 3 0) ∙ ap (λ (x : List ℕ). get_or x 3 0) e
  field_new xs e (suc (suc (suc (suc i)))) h = absurd (omega arith)

-- one term more
pub noted_more :
    {bs : List ℕ} {place : ℕ → ℕ} {links : List ℕ} {tables : Tables} {n k : ℕ} {w : List ℕ} → Indexed bs place links tables n → k ≡ kind_of_there bs place n → w ≡ words_of (fields_in (term_there bs (place n)))
    → Noted bs place (term_noted (tables_in tables).terms n k w) (n + 1)
noted_more {bs} {place} {links} {tables} {n} {k} {w} i is e =
    let v = (tables_in tables).terms in
    record {
      kinds = at_most n (kind_new v n k w ∙ is) (λ t l. kind_kept v n k w t l ∙ i.noted.kinds t l);
      fields = λ t j l h.
          at_most {P = λ t. field_of (term_noted v n k w) t j ≡ get_or (fields_in (term_there bs (place t))) j 0} n
          (field_new v n k w (fields_in (term_there bs (place n))) e j h) (λ t l. field_kept v n k w t j l h ∙ i.noted.fields t j l h) t l;
    }
