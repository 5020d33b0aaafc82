-- A path by the tables' columns and the entries of a lent ledger, in two forms. The first reads the columns at every
-- number; after a run it is the rules' path (`climbed_steps`). The second reads the column of entries at terms alone;
-- `steps_of` and `climb` are stated by it, and need not know what the tables place. Where the tables place terms alone
-- (`EntriesDeclared`), as after a run (`entries_declared` of calls), both are equal (`steps_as`, `climbed_as`).
use Rattle.tables.specs.declared.columns.Tables.{Tables}
use Rattle.std.specs.Prelude.{cond, List, [], ◌∷◌, ℕ, zero, suc, ◌-◌, ◌<◌, ◌≤◌, eqb, ltb, length, get_or}
use Rattle.rules.specs.declared.Entry.{Entry}
use Rattle.rules.specs.Limits.{term_limit}
use Rattle.rules.specs.Lent.{Answer, success, refusal, no_entry}
use Rattle.tables.specs.Columns.{tables_in}

-- what the tables place are terms
pub record EntriesDeclared (tables : Tables) : Type 0 where
  pub declared : (c : ℕ) → 0 < (tables_in tables).entry c → c < term_limit

-- their entries are in a lent ledger
pub record EntriesInside (tables : Tables) (l : List Entry) : Type 0 where
  pub inside : (c : ℕ) → (tables_in tables).entry c ≤ length l

-- the steps of a path; 30 where there is no entry
abbrev pub steps_in : Tables → ℕ → Answer
steps_in tables t = cond (eqb ((tables_in tables).entry t) 0) (refusal 30 t) (success ((tables_in tables).depth t ∷ []))

-- the parent of a certificate by its entry, 0 where it has none
abbrev pub parent_in : Tables → List Entry → ℕ → ℕ
parent_in tables l c = cond (eqb ((tables_in tables).entry c) 0) 0 (get_or l ((tables_in tables).entry c - 1) no_entry).parent

-- so many certificates, each the parent of the one before
unfoldable pub climbed : Tables → List Entry → ℕ → ℕ → List ℕ
climbed tables l zero c = []
climbed tables l (suc n) c = c ∷ climbed tables l n (parent_in tables l c)

-- The second form, which `steps_of` and `climb` are stated by: what is no term has no entry, whatever the tables place.

-- one more than the place of a term's entry, 0 where it has none; 0 of what is no term
unfoldable pub entry_in : Tables → ℕ → ℕ
entry_in tables c = cond (ltb c term_limit) ((tables_in tables).entry c) 0

-- the entries of terms are in a lent ledger
pub record TermEntriesInside (tables : Tables) (l : List Entry) : Type 0 where
  pub inside : (c : ℕ) → entry_in tables c ≤ length l

-- the steps of a path; 30 where there is no entry of a term
abbrev pub term_steps_in : Tables → ℕ → Answer
term_steps_in tables t = cond (eqb (entry_in tables t) 0) (refusal 30 t) (success ((tables_in tables).depth t ∷ []))

-- the parent by a term's entry, 0 where it has none
abbrev pub term_parent_in : Tables → List Entry → ℕ → ℕ
term_parent_in tables l c = cond (eqb (entry_in tables c) 0) 0 (get_or l (entry_in tables c - 1) no_entry).parent

-- so many certificates, each by `term_parent_in` the parent of the one before
unfoldable pub term_climbed : Tables → List Entry → ℕ → ℕ → List ℕ
term_climbed tables l zero c = []
term_climbed tables l (suc n) c = c ∷ term_climbed tables l n (term_parent_in tables l c)
