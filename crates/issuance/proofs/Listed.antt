-- The ledger by the tables' columns.
--     listed_column, depth_column     whether a certificate is listed, and how deep
--     some_more                       whether there is a number
-- Assumes nothing.
use Rattle.std.specs.Prelude.{Option, None, Some}
use Rattle.std.specs.Option.{is_some}
use Rattle.tables.specs.declared.columns.Tables.{Tables}
use mathlib.Core.Path.{◌≡◌, refl, sym, ap, ◌∙◌}
use mathlib.Core.Bool.{not}
use mathlib.Core.List.{List}
use Prim.Native.Nat.{ℕ, ◌+◌}
use native.Mathlib.Omega.{arith}
use lib.Dec.{eqb}
use borrow.Author.Tests.{ne_eqb}
use Rattle.rules.specs.declared.Entry.{Entry}
use Rattle.rules.specs.State.{listed, depth_of}
use Rattle.tables.specs.Columns.{tables_in, one_more}
use Rattle.loaded.specs.Entries.{Enters}
use Rattle.loaded.proofs.Ledger.{listed_entry}

module _ (tables : Tables) (n : ℕ) (ledger : List Entry) (e : Enters tables n ledger) (t : ℕ) where
  pub listed_column : listed ledger t ≡ not (eqb ((tables_in tables).entry t) 0)
  listed_column = listed_entry ledger 0 t ∙ ap (λ (x : ℕ). not (eqb x 0)) (sym (e.place t))

  pub depth_column : depth_of ledger t ≡ (tables_in tables).depth t
  depth_column = sym (e.depth t)

-- a number, by one more than it
pub some_more : (o : Option ℕ) → is_some o ≡ not (eqb (one_more o) 0)
some_more None = refl
some_more (Some n) = sym (ap not (ne_eqb (n + 1) 0 (λ q. omega arith)))

pub ruleset columns = (listed_column, depth_column, some_more)
