-- What loading leaves beside the state: the tables by which a file's commands look things up.
use Rattle.tables.specs.declared.columns.Tables.{Tables}
use Rattle.std.specs.Prelude.{◌≡◌, Bool, List, ℕ, ◌<◌, ◌≤◌, length, replicate, Result, IfOk, IfErr}
use Rattle.rules.specs.declared.Refused.{Refused}
use Rattle.rules.specs.Codes.{number_of}
use Rattle.rules.specs.Limits.{file_limit, party_limit, term_limit, state_bytes}
use Rattle.rules.specs.File.{File, kind, field, half_in}
use Rattle.rules.specs.Load.{load, loaded, refused}
use Rattle.tables.specs.Columns.{field_words, EmptyTables, Unlinked, field_of, TableColumns, tables_in}
use Rattle.index.specs.Indexed.{passes}
use Rattle.lookup.specs.Commands.{commands_from}
use Rattle.scan.specs.declared.Scanned.{Scanned}
use Rattle.scan.specs.Describes.{signer_of, Describes}

-- the tables of a file: the parties' signing keys, the private half of each public key, the kind and the fields of each
-- term, and no certificate in the ledger or linked
pub record Tabled (f : File) (v : TableColumns) : Type 0 where
  pub signer : (p : ℕ) → p < party_limit → v.signer p ≡ signer_of f.setup p
  pub half : (test : ℕ → Bool) (k : ℕ) → k < length f.terms → half_in f test k ≡ passes test (v.half k)
  pub declared : (k : ℕ) → v.half k ≤ length f.terms
  pub kind_is : (t : ℕ) → t < length f.terms → v.terms.kind t ≡ kind f t
  pub field_is : (t i : ℕ) → t < length f.terms → i < field_words → field_of v.terms t i ≡ field f t i
  pub few : length f.terms ≤ term_limit
  pub entry : (t : ℕ) → v.entry t ≡ 0
  pub depth : (t : ℕ) → v.depth t ≡ 0
  pub unlinked : Unlinked v.boards

-- what filling needs: a file that is not too long, room for the state, and tables with nothing in them
pub record FillReady (bs s : List ℕ) (tables : Tables) : Type 0 where
  pub short : length bs ≤ file_limit
  pub room : length s ≡ state_bytes
  pub empty : EmptyTables tables

-- a file that loads: the state and the tables describe it, and the first command's place is known
pub record Filled (bs s : List ℕ) (tables : Tables) (r : Scanned) : Type 0 where
  pub file : File
  pub loads : load bs ≡ loaded file
  pub describes : Describes file bs s (tables_in tables).signer r.tally (length bs)
  pub tabled : Tabled file (tables_in tables)
  pub first_is : r.first ≡ commands_from (length bs) bs 0

-- what filling leaves: that, or the refusal with the state cleared
pub record FillResult (bs s : List ℕ) (tables : Tables) (r : Result Scanned Refused) : Type 0 where
  pub filled : IfOk r (Filled bs s tables)
  pub refused : IfErr r (λ e. (load bs ≡ refused (number_of e.refusal) e.place) × (s ≡ replicate state_bytes 0))
