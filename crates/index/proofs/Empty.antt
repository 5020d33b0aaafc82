-- The index of no term, and of terms at the same places.
use Rattle.tables.specs.declared.columns.Tables.{Tables}
use mathlib.Core.Path.{◌≡◌, refl, ◌∙◌, ap}
use mathlib.Core.List.{List}
use Prim.Native.Nat.{ℕ, ◌<◌}
use native.Mathlib.Omega.{arith}
use lib.ListN.{length, get_or, replicate, length-replicate}
use Rattle.tables.specs.Columns.{EmptyTables}
use Rattle.tables.proofs.Stores.{zeros_at, tables_none, unlinked_none}
use Rattle.index.specs.Tree.{link_count, Tree}
use Rattle.index.specs.Indexed.{key_there, Indexed}
use Rattle.index.proofs.Found.{found_same}

-- empty links are a tree of no term
empty_tree : (links : List ℕ) → links ≡ replicate link_count 0 → Tree links 0
empty_tree links el =
    let none : (i : ℕ) → get_or links i 0 ≡ 0 = λ i. ap (λ (xs : List ℕ). get_or xs i 0) el ∙ zeros_at link_count i in
    record {
      size = ap length el ∙ length-replicate {A = ℕ} link_count 0;
      most = λ i. omega (arith, none i);
      later = λ t rest h. absurd (h (none _));
      once = λ i j t p q. absurd (omega (arith, none i));
    }

pub indexed_none : (bs : List ℕ) (place : ℕ → ℕ) (links : List ℕ) (tables : Tables) → links ≡ replicate link_count 0 → EmptyTables tables → Indexed bs place links tables 0
indexed_none bs place links tables el et = record {
  tree = empty_tree links el;
  noted = record { kinds = λ t l. absurd (omega arith); fields = λ t i l. absurd (omega arith) };
  met = λ t l. absurd (omega arith);
  unlike = λ t u l. absurd (omega arith);
  halves = λ t l. absurd (omega arith);
  unpaired = λ t _. (tables_none tables et t).0;
  unlisted = λ t. (tables_none tables et t).1;
  shallow = λ t. (tables_none tables et t).2;
  unlinked = unlinked_none tables et;
}

-- what is indexed for no term by some links is so by empty ones
pub indexed_anew : {bs : List ℕ} {place : ℕ → ℕ} {links : List ℕ} {tables : Tables} → Indexed bs place links tables 0 → (links' : List ℕ) → links' ≡ replicate link_count 0 → Indexed bs place links' tables 0
indexed_anew i links' e = record {
  tree = empty_tree links' e;
  noted = i.noted;
  met = λ t l. absurd (omega arith);
  unlike = λ t u l. absurd (omega arith);
  halves = λ t l. absurd (omega arith);
  unpaired = i.unpaired;
  unlisted = i.unlisted;
  shallow = i.shallow;
  unlinked = i.unlinked;
}

module _ {bs : List ℕ} {place place' : ℕ → ℕ} {n : ℕ} (h : (t : ℕ) → t < n → place t ≡ place' t) where
  pub indexed_same : {links : List ℕ} {tables : Tables} → Indexed bs place links tables n → Indexed bs place' links tables n
  unfolding key_there
  indexed_same i = record {
    tree = i.tree;
    noted = record { kinds = λ t l. rw (← h t l) (i.noted.kinds t l); fields = λ t j l. rw (← h t l) (i.noted.fields t j l) };
    met = λ t l. rw (← h t l) (i.met t l);
    unlike = λ t u l m. rw (← h t l, ← h u m) (i.unlike t u l m);
    halves = λ t l. found_same (λ u m. rw (h t l, h u m) refl) (i.halves t l);
    unpaired = i.unpaired;
    unlisted = i.unlisted;
    shallow = i.shallow;
    unlinked = i.unlinked;
  }
