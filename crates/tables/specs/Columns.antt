-- What a loaded file's commands look up in one step, a column each.
use Rattle.std.specs.Prelude.{◌≡◌, List, ℕ, ◌+◌, ◌*◌, ◌%◌, get_or, replicate, Option, None, Some}
use Rattle.rules.specs.Limits.{party_limit, term_limit}
use Rattle.rules.specs.State.{put}
use Rattle.tables.specs.declared.columns.Tables.{Tables}

-- the fields of a term at most, a word each
abbrev pub field_words : ℕ
field_words = 4

-- serial numbers of devices with the same rest share a bucket
abbrev pub serial_buckets : ℕ
serial_buckets = 1024

abbrev pub serial_bucket : ℕ → ℕ
serial_bucket serial = serial % serial_buckets

-- one more than a number, 0 where there is none
abbrev pub one_more : Option ℕ → ℕ
one_more None = 0
one_more (Some n) = n + 1

-- a column, 0 past its end
abbrev pub column : List ℕ → ℕ → ℕ
column xs i = get_or xs i 0

-- tables with nothing in them: every word is 0
pub record EmptyTables (w : Tables) : Type 0 where
  pub signers : w.signers ≡ replicate party_limit 0
  pub halves : w.halves ≡ replicate term_limit 0
  pub entries : w.entries ≡ replicate term_limit 0
  pub depths : w.depths ≡ replicate term_limit 0
  pub kinds : w.kinds ≡ replicate term_limit 0
  pub fields : w.fields ≡ replicate (field_words * term_limit) 0
  pub newest : w.newest ≡ replicate serial_buckets 0
  pub serials : w.serials ≡ replicate term_limit 0
  pub earlier : w.earlier ≡ replicate term_limit 0
  pub eks : w.eks ≡ replicate term_limit 0

-- The ledger's entries by their Subject's serial number, and the EK at the end of each one's path. Of each bucket, the entry that was linked
-- last; of each place of the ledger, the serial number that its entry is linked by, and the entry that was linked before it in its bucket:
-- entries are one more than their place, 0 where there is none.
pub record Boards : Type 0 where
  pub newest : ℕ → ℕ
  pub serial : ℕ → ℕ
  pub earlier : ℕ → ℕ
  pub ek : ℕ → ℕ

-- no entry is linked
pub record Unlinked (b : Boards) : Type 0 where
  pub newest : (i : ℕ) → b.newest i ≡ 0
  pub earlier : (i : ℕ) → b.earlier i ≡ 0

-- The kind of each term, and its fields, one term's after the other's: 0 where a term has fewer.
pub record Terms : Type 0 where
  pub kind : ℕ → ℕ
  pub field : ℕ → ℕ

-- a field of a term
abbrev pub field_of : Terms → ℕ → ℕ → ℕ
field_of v t i = v.field (field_words * t + i)

-- Each party's signing key. The private half of each public key, and the place of each certificate's entry in the
-- ledger: one more than the number, 0 where there is none. The depth of each certificate's entry, 0 where there is none. The terms as they
-- were read.
pub record TableColumns : Type 0 where
  pub signer : ℕ → ℕ
  pub half : ℕ → ℕ
  pub entry : ℕ → ℕ
  pub depth : ℕ → ℕ
  pub terms : Terms
  pub boards : Boards

abbrev pub boards_in : Tables → Boards
boards_in w = record { newest = column w.newest; serial = column w.serials; earlier = column w.earlier; ek = column w.eks }

abbrev pub terms_in : Tables → Terms
terms_in w = record { kind = column w.kinds; field = column w.fields }

abbrev pub tables_in : Tables → TableColumns
tables_in w = record { signer = column w.signers; half = column w.halves; entry = column w.entries; depth = column w.depths; terms = terms_in w; boards = boards_in w }

-- one column replaced
abbrev pub with_signer : TableColumns → (ℕ → ℕ) → TableColumns
with_signer v c = record { signer = c; half = v.half; entry = v.entry; depth = v.depth; terms = v.terms; boards = v.boards }

abbrev pub with_half : TableColumns → (ℕ → ℕ) → TableColumns
with_half v c = record { signer = v.signer; half = c; entry = v.entry; depth = v.depth; terms = v.terms; boards = v.boards }

abbrev pub with_entry : TableColumns → (ℕ → ℕ) → TableColumns
with_entry v c = record { signer = v.signer; half = v.half; entry = c; depth = v.depth; terms = v.terms; boards = v.boards }

abbrev pub with_depth : TableColumns → (ℕ → ℕ) → TableColumns
with_depth v c = record { signer = v.signer; half = v.half; entry = v.entry; depth = c; terms = v.terms; boards = v.boards }

abbrev pub with_terms : TableColumns → Terms → TableColumns
with_terms v c = record { signer = v.signer; half = v.half; entry = v.entry; depth = v.depth; terms = c; boards = v.boards }

abbrev pub with_boards : TableColumns → Boards → TableColumns
with_boards v b = record { signer = v.signer; half = v.half; entry = v.entry; depth = v.depth; terms = v.terms; boards = b }

-- the kind of a term noted, and one of its fields
abbrev pub with_kind : Terms → ℕ → ℕ → Terms
with_kind v t k = record { kind = put v.kind t k; field = v.field }

abbrev pub with_field : Terms → ℕ → ℕ → ℕ → Terms
with_field v t i x = record { kind = v.kind; field = put v.field (field_words * t + i) x }

-- the EK of the entry at a place noted
abbrev pub with_ek : Boards → (ℕ → ℕ) → Boards
with_ek b c = record { newest = b.newest; serial = b.serial; earlier = b.earlier; ek = c }

-- the entry at a place linked by a serial number, before those of its bucket
abbrev pub linked : Boards → ℕ → ℕ → Boards
linked b i serial = record { newest = put b.newest (serial_bucket serial) (i + 1); serial = put b.serial i serial; earlier = put b.earlier i (b.newest (serial_bucket serial)); ek = b.ek }
