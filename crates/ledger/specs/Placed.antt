-- A ledger whose first places are cleared, and one with entries from a place on.
use Rattle.std.specs.Prelude.{List, ℕ, zero, suc, ◌+◌, get_or, set}
use Rattle.rules.specs.declared.Entry.{Entry}
use Rattle.rules.specs.Lent.{no_entry}

unfoldable pub cleared : List Entry → ℕ → List Entry
cleared l zero = l
cleared l (suc k) = set (cleared l k) k no_entry

-- the first k of some entries
unfoldable pub puts : List Entry → ℕ → List Entry → ℕ → List Entry
puts l from xs zero = l
puts l from xs (suc k) = set (puts l from xs k) (from + k) (get_or xs k no_entry)
