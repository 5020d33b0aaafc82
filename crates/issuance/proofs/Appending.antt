-- The ledger with an entry more.
--     entry-appended              the places of a ledger with an entry more
--     depth-appended              and its depths
--     appended                    what writing its place, its depth and its EK leaves
--     enters_linked, keys_linked  what linking it leaves
-- Assumes nothing.
use Rattle.tables.specs.declared.columns.Tables.{Tables}
use mathlib.Core.Path.{◌≡◌, refl, sym, ap, subst⁻¹, ◌∙◌}
use mathlib.Core.Bool.{Bool, true, false, cond, ◌||◌, false≢true}
use mathlib.Core.List.{List, [], ◌∷◌, ◌++◌}
use Prim.Native.Nat.{ℕ, suc, ◌+◌}
use native.Mathlib.Omega.{arith}
use lib.Dec.{eqb}
use lib.ListN.{length, length-append}
use borrow.Author.Tests.{eqb-true, eqb-false, eq-eqb, ne_eqb}
use Rattle.rules.specs.declared.Entry.{Entry}
use Rattle.rules.specs.declared.Subject.{Subject}
use Rattle.rules.specs.declared.Subject.TheVariants.{Tpm, Device}
use Rattle.rules.specs.State.{put, listed, depth_of}
use Rattle.tables.specs.Columns.{Boards, TableColumns, tables_in, with_entry, with_depth, with_boards, with_ek, linked}
use Rattle.boards.specs.Linked.{Falls, entry_of}
use Rattle.boards.proofs.Walk.{falls_linked, falls_more}
use Rattle.loaded.specs.Entries.{entry_from, Enters, SameKeys}
use Rattle.loaded.proofs.Boards.{falls_ek}
use Rattle.issuance.specs.Appends.{Appends, linked_by}

entry_last : (es : List Entry) (i c : ℕ) (e : Entry) → e.certificate ≡ c → listed es c ≡ false → entry_from i (es ++ (e ∷ [])) c ≡ suc (i + length es)
unfolding entry_from listed
entry_last [] i c e q h = rw (eq-eqb e.certificate c q) (omega arith)
entry_last (x ∷ es) i c e q h = go (eqb x.certificate c) h (λ w. entry_last es (suc i) c e q w)
  where
    go : (b : Bool) → (b || listed es c) ≡ false → (listed es c ≡ false → entry_from (suc i) (es ++ (e ∷ [])) c ≡ suc (suc i + length es)) → cond b (suc i) (entry_from (suc i) (es ++ (e ∷ [])) c) ≡ suc (i + suc (length es))
    go true w more = absurd (false≢true (sym w))
    go false w more = omega (arith, more w)

entry_other : (es : List Entry) (i c : ℕ) (e : Entry) → (e.certificate ≡ c → ⊥) → entry_from i (es ++ (e ∷ [])) c ≡ entry_from i es c
unfolding entry_from
entry_other [] i c e q = rw (ne_eqb e.certificate c q) refl
entry_other (x ∷ es) i c e q = ap (cond (eqb x.certificate c) (suc i)) (entry_other es (suc i) c e q)

pub entry_appended : (es : List Entry) (e : Entry) (c : ℕ) → listed es e.certificate ≡ false → entry_from 0 (es ++ (e ∷ [])) c ≡ put (entry_from 0 es) e.certificate (length es + 1) c
unfolding put
entry_appended es e c h = go (eqb c e.certificate) refl
  where
    go : (b : Bool) → eqb c e.certificate ≡ b → entry_from 0 (es ++ (e ∷ [])) c ≡ cond b (length es + 1) (entry_from 0 es c)
    go true q =
        let m = eqb-true c e.certificate q in
        let w = entry_last es 0 c e (sym m) (ap (listed es) m ∙ h) in
        omega (arith, w)
    go false q = entry_other es 0 c e (λ m. eqb-false c e.certificate q (sym m))

-- its depth
depth_last : (es : List Entry) (c : ℕ) (e : Entry) → e.certificate ≡ c → listed es c ≡ false → depth_of (es ++ (e ∷ [])) c ≡ e.depth
unfolding depth_of listed
depth_last [] c e q h = rw (eq-eqb e.certificate c q) refl
depth_last (x ∷ es) c e q h = go (eqb x.certificate c) h (λ w. depth_last es c e q w)
  where
    go : (b : Bool) → (b || listed es c) ≡ false → (listed es c ≡ false → depth_of (es ++ (e ∷ [])) c ≡ e.depth) → cond b x.depth (depth_of (es ++ (e ∷ [])) c) ≡ e.depth
    go true w more = absurd (false≢true (sym w))
    go false w more = more w

depth_other : (es : List Entry) (c : ℕ) (e : Entry) → (e.certificate ≡ c → ⊥) → depth_of (es ++ (e ∷ [])) c ≡ depth_of es c
unfolding depth_of
depth_other [] c e q = rw (ne_eqb e.certificate c q) refl
depth_other (x ∷ es) c e q = ap (cond (eqb x.certificate c) x.depth) (depth_other es c e q)

pub depth_appended : (es : List Entry) (e : Entry) (c : ℕ) → listed es e.certificate ≡ false → depth_of (es ++ (e ∷ [])) c ≡ put (depth_of es) e.certificate e.depth c
unfolding put
depth_appended es e c h = go (eqb c e.certificate) refl
  where
    go : (b : Bool) → eqb c e.certificate ≡ b → depth_of (es ++ (e ∷ [])) c ≡ cond b e.depth (depth_of es c)
    go true q = let m = eqb-true c e.certificate q in depth_last es c e (sym m) (ap (listed es) m ∙ h)
    go false q = depth_other es c e (λ m. eqb-false c e.certificate q (sym m))

-- what the entry's place, its depth and its EK leave, where they are written
module _ (tables tables₁ tables₂ tables' : Tables) (n certificate depth ek : ℕ)
    (t : tables_in tables₁ ≡ with_entry (tables_in tables) (put (tables_in tables).entry certificate (n + 1)))
    (d : tables_in tables₂ ≡ with_depth (tables_in tables₁) (put (tables_in tables₁).depth certificate depth))
    (k : tables_in tables' ≡ with_boards (tables_in tables₂) (with_ek (tables_in tables₂).boards (put (tables_in tables₂).boards.ek n ek))) where
  written : tables_in tables' ≡ with_boards (with_depth (with_entry (tables_in tables) (put (tables_in tables).entry certificate (n + 1))) (put (tables_in tables).depth certificate depth)) (with_ek (tables_in tables).boards (put (tables_in tables).boards.ek n ek))
  written = k ∙ ap (λ (v : TableColumns). with_boards v (with_ek v.boards (put v.boards.ek n ek))) (d ∙ ap (λ (v : TableColumns). with_depth v (put v.depth certificate depth)) t)

  module _ {ledger : List Entry} (e : Entry) (q : e.certificate ≡ certificate) (m : e.depth ≡ depth) (h : Enters tables n ledger) (new : listed ledger certificate ≡ false) where
    new_one : listed ledger e.certificate ≡ false
    new_one = ap (listed ledger) q ∙ new

    places_next : (c : ℕ) → (tables_in tables').entry c ≡ entry_from 0 (ledger ++ (e ∷ [])) c
    unfolding put
    places_next c =
        ap (λ (v : TableColumns). v.entry c) written
        ∙ ap (cond (eqb c certificate) (n + 1)) (h.place c)
        ∙ ap (λ (x : ℕ). put (entry_from 0 ledger) x (n + 1) c) (sym q)
        ∙ ap (λ (x : ℕ). put (entry_from 0 ledger) e.certificate (x + 1) c) (sym h.count)
        ∙ sym (entry_appended ledger e c new_one)

    depths_next : (c : ℕ) → (tables_in tables').depth c ≡ depth_of (ledger ++ (e ∷ [])) c
    unfolding put
    depths_next c =
        ap (λ (v : TableColumns). v.depth c) written
        ∙ ap (cond (eqb c certificate) depth) (h.depth c)
        ∙ ap (λ (x : ℕ). put (depth_of ledger) x depth c) (sym q)
        ∙ ap (λ (x : ℕ). put (depth_of ledger) e.certificate x c) (sym m)
        ∙ sym (depth_appended ledger e c new_one)

  pub appended : Appends tables n certificate depth ek tables'
  appended = record {
    enters = λ ledger e q m h l new. record {
      few = omega (arith, l);
      count = length-append ledger (e ∷ []) ∙ ap (λ (x : ℕ). x + 1) h.count;
      place = places_next e q m h new;
      depth = depths_next e q m h new;
      falls = subst⁻¹ (λ (b : Boards). Falls b (n + 1)) (ap (λ (v : TableColumns). v.boards) written) (falls_ek _ _ (n + 1) (falls_more _ n h.falls));
    };
    keys = record { signer = ap (λ (v : TableColumns). v.signer) written; half = ap (λ (v : TableColumns). v.half) written; terms = ap (λ (v : TableColumns). v.terms) written };
    boards = ap (λ (v : TableColumns). v.boards) written;
  }

-- linked by its Subject
module _ (tables tables' : Tables) (n : ℕ) where
  pub enters_linked :
      {ledger : List Entry} (x : Subject) → tables_in tables' ≡ linked_by (tables_in tables) n x → Falls (tables_in tables).boards n → Enters tables (n + 1) ledger
      → Enters tables' (n + 1) ledger
  enters_linked x k f h = record {
    few = h.few;
    count = h.count;
    place = λ c. ap (λ (v : TableColumns). v.entry c) k ∙ place x c ∙ h.place c;
    depth = λ c. ap (λ (v : TableColumns). v.depth c) k ∙ depth x c ∙ h.depth c;
    falls = subst⁻¹ (λ (b : Boards). Falls b (n + 1)) (ap (λ (v : TableColumns). v.boards) k) (falls x);
  }
    where
      place : (x : Subject) (c : ℕ) → (linked_by (tables_in tables) n x).entry c ≡ (tables_in tables).entry c
      place (Tpm m) c = refl
      place (Device m) c = go (eqb (entry_of (tables_in tables).boards m) 0)
        where
          go : (b : Bool) → (cond b (with_boards (tables_in tables) (linked (tables_in tables).boards n m)) (tables_in tables)).entry c ≡ (tables_in tables).entry c
          go true = refl
          go false = refl

      depth : (x : Subject) (c : ℕ) → (linked_by (tables_in tables) n x).depth c ≡ (tables_in tables).depth c
      depth (Tpm m) c = refl
      depth (Device m) c = go (eqb (entry_of (tables_in tables).boards m) 0)
        where
          go : (b : Bool) → (cond b (with_boards (tables_in tables) (linked (tables_in tables).boards n m)) (tables_in tables)).depth c ≡ (tables_in tables).depth c
          go true = refl
          go false = refl

      falls : (x : Subject) → Falls (linked_by (tables_in tables) n x).boards (n + 1)
      falls (Tpm m) = falls_more _ n f
      falls (Device m) = go (eqb (entry_of (tables_in tables).boards m) 0)
        where
          go : (b : Bool) → Falls (cond b (with_boards (tables_in tables) (linked (tables_in tables).boards n m)) (tables_in tables)).boards (n + 1)
          go true = falls_linked _ n m f
          go false = falls_more _ n f

  pub keys_linked : {v : TableColumns} (x : Subject) → tables_in tables' ≡ linked_by (tables_in tables) n x → SameKeys v (tables_in tables) → SameKeys v (tables_in tables')
  keys_linked {v} x k h = subst⁻¹ (SameKeys v) k (keys x)
    where
      keys : (x : Subject) → SameKeys v (linked_by (tables_in tables) n x)
      keys (Tpm m) = h
      keys (Device m) = go (eqb (entry_of (tables_in tables).boards m) 0)
        where
          go : (b : Bool) → SameKeys v (cond b (with_boards (tables_in tables) (linked (tables_in tables).boards n m)) (tables_in tables))
          go true = record { signer = h.signer; half = h.half; terms = h.terms }
          go false = h
