-- The ledger's entries by their Subject's serial number: a list for each bucket, the entry that was linked last first. An entry is one more
-- than its place, or 0.
use Rattle.std.specs.Prelude.{cond, ℕ, zero, suc, ◌-◌, ◌≤◌, eqb}
use Rattle.tables.specs.Columns.{serial_bucket, Boards}

-- the lists of n entries: each entry stands before those of lower places
pub record Falls (b : Boards) (n : ℕ) : Type 0 where
  pub newest : (i : ℕ) → b.newest i ≤ n
  pub earlier : (i : ℕ) → b.earlier i ≤ i

-- the first entry with a serial number, of at most k from the entry e on
unfoldable pub walk : (ℕ → ℕ) → (ℕ → ℕ) → ℕ → ℕ → ℕ → ℕ
walk serials earlier serial zero e = 0
walk serials earlier serial (suc k) e = cond (eqb e 0) 0 (cond (eqb (serials (e - 1)) serial) e (walk serials earlier serial k (earlier (e - 1))))

-- the entry found by a serial number
unfoldable pub entry_of : Boards → ℕ → ℕ
entry_of b serial = walk b.serial b.earlier serial (b.newest (serial_bucket serial)) (b.newest (serial_bucket serial))
