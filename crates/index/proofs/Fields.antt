-- The kind and the fields of a file's terms, as they are noted.
use Rattle.tables.specs.declared.columns.Tables.{Tables}
use mathlib.Core.Path.{◌≡◌, sym, ap, ◌∙◌}
use mathlib.Core.List.{List}
use Prim.Native.Nat.{ℕ, ◌<◌}
use lib.ListN.{get_or}
use Rattle.rules.specs.declared.Term.{Term}
use Rattle.rules.specs.Term.{kind_of, fields_in}
use Rattle.rules.specs.File.{File, term, kind, field}
use Rattle.state.specs.View.{view}
use Rattle.records.proofs.Keys.{term_kind}
use Rattle.tables.specs.Columns.{field_words, field_of, tables_in}
use Rattle.learning.specs.There.{term_there}
use Rattle.checks.specs.There.{kind_of_there, TermsThere}
use Rattle.index.specs.Indexed.{Indexed}

module _
    (f : File) {bs s links : List ℕ} {tables : Tables} {n : ℕ} (there : TermsThere bs s n) (same : (t : ℕ) → t < n → term_there bs ((view s).place t) ≡ term f t)
    (i : Indexed bs (view s).place links tables n) (t : ℕ) (l : t < n) where
  pub kind_follows : (tables_in tables).terms.kind t ≡ kind f t
  unfolding kind term_there
  kind_follows = i.noted.kinds t l ∙ sym (term_kind (kind_of_there bs (view s).place t) _ (there.whole t l).is_term) ∙ ap kind_of (same t l)

  pub field_follows : (j : ℕ) → j < field_words → field_of (tables_in tables).terms t j ≡ field f t j
  unfolding field
  field_follows j h = i.noted.fields t j l h ∙ ap (λ (x : Term). get_or (fields_in x) j 0) (same t l)
