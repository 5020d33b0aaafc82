-- What the tables have of a file, where only the columns of entries change.
-- Assumes nothing.
use Rattle.tables.specs.declared.columns.Tables.{Tables}
use mathlib.Core.Path.{sym, ap, subst⁻¹, ◌∙◌}
use mathlib.Core.List.{List}
use Prim.Native.Nat.{ℕ, ◌+◌, ◌≤◌}
use lib.Dec.{eqb}
use lib.ListN.{length}
use Rattle.tables.specs.Columns.{Terms, tables_in, field_of}
use Rattle.index.specs.Indexed.{passes}
use Rattle.loaded.specs.Loaded.{file_in, Finds}
use Rattle.loaded.specs.Entries.{SameKeys}

pub finds_kept : {bs : List ℕ} {tables tables' : Tables} → Finds bs tables → SameKeys (tables_in tables) (tables_in tables') → Finds bs tables'
finds_kept {bs} d k = record {
  signer = λ p j l. d.signer p j l ∙ ap (λ (c : ℕ → ℕ). eqb (c p) (j + 1)) (sym k.signer);
  half = λ test j l. d.half test j l ∙ ap (λ (c : ℕ → ℕ). passes test (c j)) (sym k.half);
  declared = λ j. subst⁻¹ (λ (c : ℕ → ℕ). c j ≤ length (file_in bs).terms) k.half (d.declared j);
  kind_is = λ t l. ap (λ (v : Terms). v.kind t) k.terms ∙ d.kind_is t l;
  field_is = λ t i l m. ap (λ (v : Terms). field_of v t i) k.terms ∙ d.field_is t i l m;
  few = d.few;
}
