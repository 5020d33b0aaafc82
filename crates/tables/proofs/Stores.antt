-- What a store does to a column, and that empty tables have nothing in them.
--     column_put                    a store inside a column
--     tables_none, unlinked_none    each word of empty tables is 0
-- Assumes nothing.
use mathlib.Core.Bool.{Bool, true, false, cond}
use mathlib.Core.Path.{◌≡◌, refl}
use mathlib.Core.List.{List}
use Prim.Native.Nat.{ℕ, ◌<◌}
use native.Mathlib.Omega.{arith}
use lib.Dec.{eqb, ltb}
use lib.ListN.{length, get_or, set, replicate, length-replicate, get_or-replicate, get_or-eq_default}
use lib.Seq.{get_or-set_same, get_or-set_other}
use borrow.Author.Tests.{ltb-true, ltb-false, eqb-true, eqb-false}
use Rattle.rules.specs.Limits.{term_limit}
use Rattle.rules.specs.State.{put}
use Rattle.tables.specs.declared.columns.Tables.{Tables}
use Rattle.tables.specs.Columns.{serial_buckets, column, EmptyTables, Boards, boards_in, Unlinked, tables_in}

module _ (xs : List ℕ) (i x : ℕ) (h : i < length xs) where
  put_at : (u : ℕ) → column (set xs i x) u ≡ put (column xs) i x u
  unfolding put
  put_at u = go (eqb u i) refl
    where
      go : (b : Bool) → eqb u i ≡ b → column (set xs i x) u ≡ cond b x (column xs u)
      go true e = rw (eqb-true u i e) (get_or-set_same xs i x 0 h)
      go false e =
          let n = eqb-false u i e in
          get_or-set_other xs i u x 0 (λ q. n (omega arith))

  pub column_put : column (set xs i x) ≡ put (column xs) i x
  column_put = λ j u. put_at u j

-- every word of zeros is 0, inside and past their end
pub zeros_at : (m i : ℕ) → get_or {A = ℕ} (replicate m 0) i 0 ≡ 0
zeros_at m i = go (ltb i m) refl
  where
    go : (b : Bool) → ltb i m ≡ b → get_or {A = ℕ} (replicate m 0) i 0 ≡ 0
    go true e = get_or-replicate m i 0 0 (ltb-true i m e)
    go false e = get_or-eq_default (replicate m 0) 0 (omega (arith, length-replicate {A = ℕ} m 0, ltb-false i m e))

pub tables_none : (w : Tables) → EmptyTables w → (t : ℕ) → ((tables_in w).half t ≡ 0) × ((tables_in w).entry t ≡ 0) × ((tables_in w).depth t ≡ 0)
tables_none w e t = (rw e.halves (zeros_at term_limit t), rw e.entries (zeros_at term_limit t), rw e.depths (zeros_at term_limit t))

pub unlinked_none : (w : Tables) → EmptyTables w → Unlinked (boards_in w)
unlinked_none w e = record { newest = λ i. rw e.newest (zeros_at serial_buckets i); earlier = λ i. rw e.earlier (zeros_at term_limit i) }
