-- The state's columns, and how the lent bytes hold them: row_width bytes a term (document 01, "Run and Path").
use Rattle.std.specs.Prelude.{Bool, false, not, ◌&&◌, ◌||◌, List, ℕ, zero, suc, ◌+◌, ◌*◌, ◌/◌, ◌%◌, ◌^◌, eqb, get_or, set}
use Rattle.rules.specs.Limits.{row_width}
use Rattle.rules.specs.Record.{word}
use Rattle.rules.specs.Learning.{Knowledge}

-- where each column stands in a row
abbrev pub known_offset : ℕ
known_offset = 0

abbrev pub table_offset : ℕ
table_offset = 1

abbrev pub mark_offset : ℕ
mark_offset = 2

abbrev pub desk_offset : ℕ
desk_offset = 3

abbrev pub request_offset : ℕ
request_offset = 4

abbrev pub place_offset : ℕ
place_offset = 6

pub record Columns : Type 0 where
  pub knows : Knowledge
  pub table : Knowledge
  pub mark : ℕ → ℕ
  pub desk : ℕ → ℕ
  pub request : ℕ → ℕ
  pub place : ℕ → ℕ

-- bit p of a byte
unfoldable pub bit : ℕ → ℕ → ℕ
bit x p = x / 2 ^ p % 2

-- the columns that the bytes hold
abbrev pub view : List ℕ → Columns
view s = record {
  knows = λ p t. eqb (bit (get_or s (row_width * t + known_offset) 0) p) 1;
  table = λ p t. eqb (bit (get_or s (row_width * t + table_offset) 0) p) 1;
  mark = λ t. get_or s (row_width * t + mark_offset) 0;
  desk = λ t. get_or s (row_width * t + desk_offset) 0;
  request = λ t. word s (row_width * t + request_offset);
  place = λ t. word s (row_width * t + place_offset);
}

-- one column replaced
abbrev pub with_knows : Columns → Knowledge → Columns
with_knows v k = record { knows = k; table = v.table; mark = v.mark; desk = v.desk; request = v.request; place = v.place }

abbrev pub with_table : Columns → Knowledge → Columns
with_table v k = record { knows = v.knows; table = k; mark = v.mark; desk = v.desk; request = v.request; place = v.place }

abbrev pub with_mark : Columns → (ℕ → ℕ) → Columns
with_mark v c = record { knows = v.knows; table = v.table; mark = c; desk = v.desk; request = v.request; place = v.place }

abbrev pub with_desk : Columns → (ℕ → ℕ) → Columns
with_desk v c = record { knows = v.knows; table = v.table; mark = v.mark; desk = c; request = v.request; place = v.place }

abbrev pub with_request : Columns → (ℕ → ℕ) → Columns
with_request v c = record { knows = v.knows; table = v.table; mark = v.mark; desk = v.desk; request = c; place = v.place }

abbrev pub with_place : Columns → (ℕ → ℕ) → Columns
with_place v c = record { knows = v.knows; table = v.table; mark = v.mark; desk = v.desk; request = v.request; place = c }

-- some party but p, of the first n, has the term in its TPM table
unfoldable pub in_other : Knowledge → ℕ → ℕ → ℕ → Bool
in_other table p t zero = false
in_other table p t (suc q) = (not (eqb q p) && table q t) || in_other table p t q

-- the bytes with a number in two of them, high byte first
abbrev pub word_put : List ℕ → ℕ → ℕ → List ℕ
word_put s a x = set (set s a (x / 256 % 256)) (a + 1) (x % 256)
