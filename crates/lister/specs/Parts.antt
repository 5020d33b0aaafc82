-- The parts of a listing, by what a run leaves.
use Rattle.std.specs.Prelude.{cond, List, [], ◌∷◌, ℕ, eqb}
use Rattle.rules.specs.declared.Entry.{Entry}
use Rattle.rules.specs.Listing.{line}

-- the line of an outcome, if it is a refusal
unfoldable pub outcome_line : ℕ → ℕ → List ℕ
outcome_line i x = cond (eqb x 0) [] (line 0x52 (i ∷ x ∷ []))

-- the line of an entry
abbrev pub entry_line : Entry → List ℕ
entry_line e = line 0x49 (e.certificate ∷ e.parent ∷ e.depth ∷ [])
