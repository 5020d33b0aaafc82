-- The ledger by the places of its entries.
--     listed-entry                     a listed certificate has an entry
--     entry-inside, entry-most         the tables' column of places stays within the ledger
--     column-none, column-listed, column-some     whether a certificate is listed, by that column
--     entry_listed                     its entry
--     parent-read, parent-none         its parent
-- Assumes nothing.
use Rattle.tables.specs.declared.columns.Tables.{Tables}
use mathlib.Core.Path.{◌≡◌, refl, sym, ap, ◌∙◌}
use mathlib.Core.Bool.{Bool, true, false, cond, not, ◌||◌}
use mathlib.Core.Logic.{◌⊎◌, inl, inr, ⊎_elim}
use mathlib.Core.List.{List, [], ◌∷◌}
use mathlib.Core.Option.{some}
use Prim.Native.Nat.{ℕ, suc, ◌+◌, ◌-◌, ◌<◌, ◌≤◌}
use native.Mathlib.Omega.{arith}
use lib.Dec.{eqb}
use lib.ListN.{length, get_or, get_elem?}
use borrow.Author.Tests.{eqb-true, eqb-false, ne_eqb, not-true}
use Rattle.rules.specs.declared.Entry.{Entry}
use Rattle.rules.specs.Limits.{term_limit}
use Rattle.rules.specs.State.{listed, depth_of, parent_of}
use Rattle.rules.specs.Lent.{no_entry}
use Rattle.tables.specs.Columns.{tables_in}
use Rattle.loaded.specs.Entries.{entry_from, Enters}

-- the first entry of a certificate; zeros where there is none
abbrev entry_of : List Entry → ℕ → Entry
entry_of [] c = no_entry
entry_of (e ∷ es) c = cond (eqb e.certificate c) e (entry_of es c)

depth_of_entry : (es : List Entry) (c : ℕ) → depth_of es c ≡ (entry_of es c).depth
unfolding depth_of
depth_of_entry [] c = refl
depth_of_entry (e ∷ es) c = go (eqb e.certificate c) (depth_of_entry es c)
  where
    go : (b : Bool) → depth_of es c ≡ (entry_of es c).depth → cond b e.depth (depth_of es c) ≡ (cond b e (entry_of es c)).depth
    go true h = refl
    go false h = h

parent_of_entry : (es : List Entry) (c : ℕ) → parent_of es c ≡ (entry_of es c).parent
unfolding parent_of
parent_of_entry [] c = refl
parent_of_entry (e ∷ es) c = go (eqb e.certificate c) (parent_of_entry es c)
  where
    go : (b : Bool) → parent_of es c ≡ (entry_of es c).parent → cond b e.parent (parent_of es c) ≡ (cond b e (entry_of es c)).parent
    go true h = refl
    go false h = h

-- by the place of its entry; i is the place of the list's first
abbrev Placed : List Entry → ℕ → ℕ → Entry → Type 0
Placed es i x e = ((x ≡ 0) × (e ≡ no_entry)) ⊎ ((i < x) × (x ≤ i + length es) × (e ≡ get_or es (x - suc i) no_entry))

entry_placed : (es : List Entry) (i c x : ℕ) → entry_from i es c ≡ x → Placed es i x (entry_of es c)
unfolding entry_from
entry_placed [] i c x e = inl (sym e, refl)
entry_placed (y ∷ es) i c x e = go (eqb y.certificate c) e (entry_placed es (suc i) c x)
  where
    go : (b : Bool) → cond b (suc i) (entry_from (suc i) es c) ≡ x → (entry_from (suc i) es c ≡ x → Placed es (suc i) x (entry_of es c)) → Placed (y ∷ es) i x (cond b y (entry_of es c))
    go true q more = inr (omega arith, omega arith, (let z : 0 ≡ x - suc i = omega arith in ap (λ (k : ℕ). get_or (y ∷ es) k no_entry) z))
    go false q more =
        ⊎_elim inl
        (λ w. let z : suc (x - suc (suc i)) ≡ x - suc i = omega (arith, w.0) in inr (omega (arith, w.0), omega (arith, w.1), w.2 ∙ ap (λ (k : ℕ). get_or (y ∷ es) k no_entry) z))
        (more q)

pub listed_entry : (es : List Entry) (i c : ℕ) → listed es c ≡ not (eqb (entry_from i es c) 0)
unfolding listed entry_from
listed_entry [] i c = refl
listed_entry (e ∷ es) i c = go (eqb e.certificate c) (listed_entry es (suc i) c)
  where
    go : (b : Bool) → listed es c ≡ not (eqb (entry_from (suc i) es c) 0) → (b || listed es c) ≡ not (eqb (cond b (suc i) (entry_from (suc i) es c)) 0)
    go true h = sym (ap not (ne_eqb (suc i) 0 (λ q. omega arith)))
    go false h = h

-- the entry of a listed certificate
entry_there :
    (es : List Entry) (i c x : ℕ) → entry_from i es c ≡ x → 0 < x
    → (i < x) × (g : Entry) × (get_elem? es (x - suc i) ≡ some g) × (g.certificate ≡ c) × (g.depth ≡ depth_of es c)
unfolding entry_from depth_of
entry_there [] i c x e l = absurd (omega arith)
entry_there (y ∷ es) i c x e l = go (eqb y.certificate c) refl e (λ q. entry_there es (suc i) c x q l)
  where
    go : (b : Bool) → eqb y.certificate c ≡ b → cond b (suc i) (entry_from (suc i) es c) ≡ x
        → (entry_from (suc i) es c ≡ x → (suc i < x) × (g : Entry) × (get_elem? es (x - suc (suc i)) ≡ some g) × (g.certificate ≡ c) × (g.depth ≡ depth_of es c))
        → (i < x) × (g : Entry) × (get_elem? (y ∷ es) (x - suc i) ≡ some g) × (g.certificate ≡ c) × (g.depth ≡ cond b y.depth (depth_of es c))
    go true q e more = (omega arith, y, ap (get_elem? (y ∷ es)) (let z : x - suc i ≡ 0 = omega arith in z), eqb-true y.certificate c q, refl)
    go false q e more =
        let w = more e in
        let l = w.0 in
        (omega arith, w.1, ap (get_elem? (y ∷ es)) (let z : x - suc i ≡ suc (x - suc (suc i)) = omega arith in z) ∙ w.2, w.3, w.4)

-- by the tables' column
module _ {tables : Tables} {n : ℕ} {ledger : List Entry} (t : ℕ) (e : Enters tables n ledger) where
  pub ledger_length : length ledger ≡ n
  ledger_length = e.count

  placed : (x : ℕ) → x ≡ (tables_in tables).entry t → Placed ledger 0 x (entry_of ledger t)
  placed x q = entry_placed ledger 0 t x (sym (e.place t) ∙ sym q)

  pub entry_inside : (tables_in tables).entry t ≤ n
  entry_inside = ⊎_elim (λ w. omega (arith, w.0)) (λ w. omega (arith, w.1, ledger_length)) (placed ((tables_in tables).entry t) refl)

  pub entry_most : (tables_in tables).entry t ≤ term_limit
  entry_most = omega (arith, entry_inside, e.few)

  listed_column : listed ledger t ≡ not (eqb ((tables_in tables).entry t) 0)
  listed_column = listed_entry ledger 0 t ∙ ap (λ (x : ℕ). not (eqb x 0)) (sym (e.place t))

  pub column_none : (tables_in tables).entry t ≡ 0 → listed ledger t ≡ false
  column_none z = listed_column ∙ ap (λ (x : ℕ). not (eqb x 0)) z

  pub column_listed : 0 < (tables_in tables).entry t → listed ledger t ≡ true
  column_listed l = listed_column ∙ ap not (ne_eqb ((tables_in tables).entry t) 0 (λ z. omega arith))

  pub column_some : listed ledger t ≡ true → 0 < (tables_in tables).entry t
  column_some l = let m = eqb-false ((tables_in tables).entry t) 0 (not-true _ (sym listed_column ∙ l)) in omega (arith, m)

  pub entry_listed : 0 < (tables_in tables).entry t → (g : Entry) × (get_elem? ledger ((tables_in tables).entry t - 1) ≡ some g) × (g.certificate ≡ t) × (g.depth ≡ depth_of ledger t)
  entry_listed l = let w = entry_there ledger 0 t ((tables_in tables).entry t) (sym (e.place t)) l in (w.1, w.2, w.3, w.4)

  -- its entry's parent
  pub parent_read : 0 < (tables_in tables).entry t → (get_or ledger ((tables_in tables).entry t - 1) no_entry).parent ≡ parent_of ledger t
  parent_read l =
      ⊎_elim (λ w. absurd (omega (arith, w.0)))
      (λ w. sym (parent_of_entry ledger t ∙ ap (λ (z : Entry). z.parent) w.2))
      (placed ((tables_in tables).entry t) refl)

  pub parent_none : (tables_in tables).entry t ≡ 0 → 0 ≡ parent_of ledger t
  parent_none z =
      ⊎_elim (λ w. sym (parent_of_entry ledger t ∙ ap (λ (x : Entry). x.parent) w.1)) (λ w. absurd (omega (arith, w.0))) (placed ((tables_in tables).entry t) refl)
