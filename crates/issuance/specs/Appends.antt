-- An entry more: the tables hold its place, its depth and the EK at the end of its path.
use Rattle.tables.specs.declared.columns.Tables.{Tables}
use Rattle.std.specs.Prelude.{◌≡◌, false, cond, List, [], ◌∷◌, ◌++◌, ℕ, ◌+◌, ◌<◌, eqb}
use Rattle.rules.specs.declared.Entry.{Entry}
use Rattle.rules.specs.declared.Subject.{Subject}
use Rattle.rules.specs.declared.Subject.TheVariants.{Tpm, Device}
use Rattle.rules.specs.Limits.{term_limit}
use Rattle.rules.specs.State.{put, listed}
use Rattle.tables.specs.Columns.{TableColumns, tables_in, with_boards, with_ek, linked}
use Rattle.boards.specs.Linked.{entry_of}
use Rattle.loaded.specs.Entries.{Enters, SameKeys}

pub record Appends (tables : Tables) (n certificate depth ek : ℕ) (tables' : Tables) : Type 0 where
  pub enters : (ledger : List Entry) (e : Entry) → e.certificate ≡ certificate → e.depth ≡ depth → Enters tables n ledger → n < term_limit → listed ledger certificate ≡ false → Enters tables' (n + 1) (ledger ++ (e ∷ []))
  pub keys : SameKeys (tables_in tables) (tables_in tables')
  pub boards : (tables_in tables').boards ≡ with_ek (tables_in tables).boards (put (tables_in tables).boards.ek n ek)

-- linked by its Subject, where that is a device's that finds no entry
abbrev pub linked_by : TableColumns → ℕ → Subject → TableColumns
linked_by v n (Tpm m) = v
linked_by v n (Device m) = cond (eqb (entry_of v.boards m) 0) (with_boards v (linked v.boards n m)) v
