-- Laws of lists of ledger entries: places after an entry is appended, and what listed, depth_of and parent_of find.
-- Assumes nothing.
use mathlib.Core.Path.{◌≡◌, refl, ap}
use mathlib.Core.Logic.{◌⊎◌, inl, inr, ⊎_elim}
use mathlib.Core.Bool.{Bool, true, false, false≢true, cond, ◌||◌}
use mathlib.Core.List.{List, [], ◌∷◌, ◌++◌, Memᴰ}
use mathlib.Core.Option.{some}
use Prim.Native.Nat.{ℕ, zero, suc, ◌<◌}
use native.Mathlib.Omega.{arith}
use lib.Dec.{eqb}
use lib.ListN.{length, get_or, get_elem?}
use borrow.Author.Tests.{eq-eqb, eqb-true}
use Rattle.rules.specs.declared.Entry.{Entry}
use Rattle.rules.specs.State.{listed, depth_of, parent_of}
use Rattle.theorems.proofs.Booleans.{or_left, or_right, or_step}
use Rattle.theorems.proofs.Running.{at_member}

module _ {A : Type 0} where
  -- an element keeps its place
  pub at_kept : (xs ys : List A) (i : ℕ) (x : A) → get_elem? xs i ≡ some x → get_elem? (xs ++ ys) i ≡ some x
  at_kept [] ys i x e = absurd (let z : ◌≡◌ {A = ℕ} 0 1 = cc in omega arith)
  at_kept (y ∷ xs) ys zero x e = e
  at_kept (y ∷ xs) ys (suc i) x e = at_kept xs ys i x e

  -- an element of the longer list is of the shorter one, or the last
  pub at_appended : (xs : List A) (y : A) (i : ℕ) (x : A) → get_elem? (xs ++ (y ∷ [])) i ≡ some x → (get_elem? xs i ≡ some x) ⊎ ((i ≡ length xs) × (x ≡ y))
  at_appended [] y zero x e = inr (refl, let h : x ≡ y = cc in h)
  at_appended [] y (suc i) x e = absurd (let z : ◌≡◌ {A = ℕ} 0 1 = cc in omega arith)
  at_appended (z ∷ xs) y zero x e = inl e
  at_appended (z ∷ xs) y (suc i) x e = ⊎_elim inl (λ h. inr (ap suc h.0, h.1)) (at_appended xs y i x e)

  -- an element of two lists is one of the first, at its place, or of the second
  pub at_either : (xs ys : List A) (i : ℕ) (x : A) → get_elem? (xs ++ ys) i ≡ some x → (get_elem? xs i ≡ some x) ⊎ Memᴰ x ys
  at_either [] ys i x h = inr (at_member ys i x h)
  at_either (z ∷ xs) ys zero x h = inl h
  at_either (z ∷ xs) ys (suc i) x h = at_either xs ys i x h

  pub at_below : (xs : List A) (i : ℕ) (x : A) → get_elem? xs i ≡ some x → i < length xs
  at_below [] i x e = absurd (let z : ◌≡◌ {A = ℕ} 0 1 = cc in omega arith)
  at_below (y ∷ xs) zero x e = omega arith
  at_below (y ∷ xs) (suc i) x e = let h = at_below xs i x e in omega arith

  -- every place below the length has an element
  pub at_within : (xs : List A) (d : A) (i : ℕ) → i < length xs → get_elem? xs i ≡ some (get_or xs i d)
  at_within [] d i h = absurd (omega arith)
  at_within (y ∷ xs) d zero h = refl
  at_within (y ∷ xs) d (suc i) h = at_within xs d i (omega arith)

  pub at_last : (xs : List A) (y : A) → get_elem? (xs ++ (y ∷ [])) (length xs) ≡ some y
  at_last [] y = refl
  at_last (x ∷ xs) y = at_last xs y

pub listed_kept : (xs ys : List Entry) (c : ℕ) → listed xs c ≡ true → listed (xs ++ ys) c ≡ true
unfolding listed
listed_kept [] ys c e = absurd (false≢true e)
listed_kept (x ∷ xs) ys c e = or_step (eqb x.certificate c) (listed_kept xs ys c) e

pub listed_last : (xs : List Entry) (e : Entry) → listed (xs ++ (e ∷ [])) e.certificate ≡ true
unfolding listed
listed_last [] e = or_left (eqb e.certificate e.certificate) false (eq-eqb e.certificate e.certificate refl)
listed_last (x ∷ xs) e = or_right (eqb x.certificate e.certificate) _ (listed_last xs e)

-- an entry is listed
pub at_listed : (xs : List Entry) (i : ℕ) (e : Entry) → get_elem? xs i ≡ some e → listed xs e.certificate ≡ true
unfolding listed
at_listed [] i e h = absurd (let z : ◌≡◌ {A = ℕ} 0 1 = cc in omega arith)
at_listed (x ∷ xs) zero e h = let q : x ≡ e = cc in or_left (eqb x.certificate e.certificate) _ (eq-eqb _ _ (ap (λ (y : Entry). y.certificate) q))
at_listed (x ∷ xs) (suc i) e h = or_right (eqb x.certificate e.certificate) _ (at_listed xs i e h)

-- the entry of a listed certificate
pub record Listing (xs : List Entry) (c : ℕ) : Type 0 where
  pub place : ℕ
  pub entry : Entry
  pub here : get_elem? xs place ≡ some entry
  pub same : entry.certificate ≡ c
  pub depth : entry.depth ≡ depth_of xs c
  pub parent : entry.parent ≡ parent_of xs c

pub listed_found : (xs : List Entry) (c : ℕ) → listed xs c ≡ true → Listing xs c
unfolding listed depth_of parent_of
listed_found [] c e = absurd (false≢true e)
listed_found (x ∷ xs) c e = go (eqb x.certificate c) refl e (listed_found xs c)
  where
    go : (b : Bool) → eqb x.certificate c ≡ b → (b || listed xs c) ≡ true → (listed xs c ≡ true → Listing xs c) → Listing (x ∷ xs) c
    go true h e more = record { place = 0; entry = x; here = refl; same = eqb-true x.certificate c h; depth = rw h; parent = rw h }
    go false h e more =
        let m = more e in
        record { place = suc m.place; entry = m.entry; here = m.here; same = m.same; depth = rw h m.depth; parent = rw h m.parent }

-- a listed certificate keeps its parent
pub parent_kept : (xs ys : List Entry) (c : ℕ) → listed xs c ≡ true → parent_of (xs ++ ys) c ≡ parent_of xs c
unfolding listed parent_of
parent_kept [] ys c e = absurd (false≢true e)
parent_kept (x ∷ xs) ys c e = go (eqb x.certificate c) e (parent_kept xs ys c)
  where
    go : (b : Bool) → (b || listed xs c) ≡ true → (listed xs c ≡ true → parent_of (xs ++ ys) c ≡ parent_of xs c)
        → cond b x.parent (parent_of (xs ++ ys) c) ≡ cond b x.parent (parent_of xs c)
    go true e more = refl
    go false e more = more e

-- the last entry's, where its certificate was not listed before
pub parent_last : (xs : List Entry) (e : Entry) → (listed xs e.certificate ≡ true → ⊥) → parent_of (xs ++ (e ∷ [])) e.certificate ≡ e.parent
unfolding listed parent_of
parent_last [] e n = rw (eq-eqb e.certificate e.certificate refl)
parent_last (x ∷ xs) e n = go (eqb x.certificate e.certificate) n (parent_last xs e)
  where
    go : (b : Bool) → ((b || listed xs e.certificate) ≡ true → ⊥)
        → ((listed xs e.certificate ≡ true → ⊥) → parent_of (xs ++ (e ∷ [])) e.certificate ≡ e.parent)
        → cond b x.parent (parent_of (xs ++ (e ∷ [])) e.certificate) ≡ e.parent
    go true n more = absurd (n refl)
    go false n more = more n
