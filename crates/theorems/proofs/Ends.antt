-- Where the paths of a ledger's entries end.
--     Descends, OneEk, Once   what is asked of a ledger: parents stand earlier, a Subject has one EK, each certificate once
--     end-one, end_step       the end of a path by its first step
--     end_kept                with more entries in the ledger it is the same
--     new-one, new-below      the end of a new entry's path
--     each-ends, ends-each    refusal 31's test by the entries one by one
--     by-entry, by-none       and by any one entry of the Subject, where all of them end at one EK
-- Assumes nothing.
use mathlib.Core.Path.{◌≡◌, refl, sym, ap, subst, ◌∙◌}
use mathlib.Core.Logic.{◌⊎◌, inl, inr}
use mathlib.Core.Bool.{Bool, true, false, false≢true, not, ◌&&◌, ◌||◌}
use mathlib.Core.List.{List, [], ◌∷◌, ◌++◌}
use mathlib.Core.Option.{some}
use Prim.Native.Nat.{ℕ, zero, suc, ◌<◌}
use native.Mathlib.Omega.{arith}
use lib.Dec.{eqb}
use lib.ListN.{get_elem?}
use borrow.Author.Tests.{eq-eqb, eqb-true}
use Rattle.rules.specs.declared.Entry.{Entry}
use Rattle.rules.specs.declared.Subject.{Subject}
use Rattle.rules.specs.Term.{same_subject}
use Rattle.rules.specs.File.{File, subject}
use Rattle.rules.specs.State.{listed, parent_of, end_of}
use Rattle.rules.specs.Desk.{end_ek, all_end_at}
use Rattle.theorems.proofs.Booleans.{and_true, both_ways}
use Rattle.theorems.proofs.Terms.{same_subject_lem, subject_same}
use Rattle.theorems.proofs.Ledgers.{at_listed, listed_found, parent_kept, parent_last}

-- an entry's parent stands earlier, at a depth one less, or is the end of its path
abbrev pub Descends : List Entry → Type 0
Descends l =
    (i : ℕ) (e : Entry) → get_elem? l i ≡ some e
    → (e.depth ≡ 1) ⊎ ((j : ℕ) × (g : Entry) × (j < i) × (get_elem? l j ≡ some g) × (g.certificate ≡ e.parent) × (e.depth ≡ suc g.depth))

-- entries of one Subject have paths that end at one EK
abbrev pub OneEk : File → List Entry → Type 0
OneEk f l =
    (i j : ℕ) (e g : Entry) → get_elem? l i ≡ some e → get_elem? l j ≡ some g → subject f e.certificate ≡ subject f g.certificate
    → end_ek f l e ≡ end_ek f l g

-- each certificate stands once
abbrev pub Once : List Entry → Type 0
Once l = (i j : ℕ) (e g : Entry) → get_elem? l i ≡ some e → get_elem? l j ≡ some g → e.certificate ≡ g.certificate → i ≡ j

module _ (l : List Entry) (once : Once l) where
  parent_of_lem : (i : ℕ) (e : Entry) → get_elem? l i ≡ some e → parent_of l e.certificate ≡ e.parent
  parent_of_lem i e h =
      let w = listed_found l e.certificate (at_listed l i e h) in
      let k = subst (λ (j : ℕ). get_elem? l j ≡ some w.entry) (once w.place i w.entry e w.here h w.same) w.here in
      let q : w.entry ≡ e = cc in
      sym w.parent ∙ ap (λ (x : Entry). x.parent) q

  pub end_one : (i : ℕ) (e : Entry) → get_elem? l i ≡ some e → e.depth ≡ 1 → end_of l e.depth e.certificate ≡ e.parent
  unfolding end_of
  end_one i e h d = ap (λ (k : ℕ). end_of l k e.certificate) d ∙ parent_of_lem i e h

  pub end_step : (i : ℕ) (e g : Entry) → get_elem? l i ≡ some e → g.certificate ≡ e.parent → e.depth ≡ suc g.depth → end_of l e.depth e.certificate ≡ end_of l g.depth g.certificate
  unfolding end_of
  end_step i e g h c d = ap (λ (k : ℕ). end_of l k e.certificate) d ∙ ap (end_of l g.depth) (parent_of_lem i e h ∙ sym c)

  module _ (descends : Descends l) (more : List Entry) where
    kept_below : (k i : ℕ) → i < k → (e : Entry) → get_elem? l i ≡ some e → end_of (l ++ more) e.depth e.certificate ≡ end_of l e.depth e.certificate
    unfolding end_of
    kept_below zero i b e h = absurd (omega arith)
    kept_below (suc k) i b e h = go (descends i e h) (kept_below k)
      where
        same : parent_of (l ++ more) e.certificate ≡ parent_of l e.certificate
        same = parent_kept l more e.certificate (at_listed l i e h)

        go : (e.depth ≡ 1) ⊎ ((j : ℕ) × (g : Entry) × (j < i) × (get_elem? l j ≡ some g) × (g.certificate ≡ e.parent) × (e.depth ≡ suc g.depth))
            → ((j : ℕ) → j < k → (g : Entry) → get_elem? l j ≡ some g → end_of (l ++ more) g.depth g.certificate ≡ end_of l g.depth g.certificate)
            → end_of (l ++ more) e.depth e.certificate ≡ end_of l e.depth e.certificate
        go (inl d) below = ap (λ (k : ℕ). end_of (l ++ more) k e.certificate) d ∙ same ∙ sym (ap (λ (k : ℕ). end_of l k e.certificate) d)
        go (inr w) below =
            let q = w.2 in
            ap (λ (k : ℕ). end_of (l ++ more) k e.certificate) w.5
            ∙ ap (end_of (l ++ more) w.1.depth) (same ∙ parent_of_lem i e h ∙ sym w.4)
            ∙ below w.0 (omega arith) w.1 w.3
            ∙ sym (end_step i e w.1 h w.4 w.5)

    pub end_kept : (i : ℕ) (e : Entry) → get_elem? l i ≡ some e → end_of (l ++ more) e.depth e.certificate ≡ end_of l e.depth e.certificate
    end_kept i e h = kept_below (suc i) i (omega arith) e h

-- an entry more, whose certificate was not listed
module _ (l : List Entry) (e : Entry) (new : listed l e.certificate ≡ true → ⊥) where
  pub new_one : e.depth ≡ 1 → end_of (l ++ (e ∷ [])) e.depth e.certificate ≡ e.parent
  unfolding end_of
  new_one d = ap (λ (k : ℕ). end_of (l ++ (e ∷ [])) k e.certificate) d ∙ parent_last l e new

  pub new_below :
      Once l → Descends l → (j : ℕ) (g : Entry) → get_elem? l j ≡ some g → g.certificate ≡ e.parent → e.depth ≡ suc g.depth
      → end_of (l ++ (e ∷ [])) e.depth e.certificate ≡ end_of l g.depth g.certificate
  unfolding end_of
  new_below once descends j g h c d =
      ap (λ (k : ℕ). end_of (l ++ (e ∷ [])) k e.certificate) d
      ∙ ap (end_of (l ++ (e ∷ [])) g.depth) (parent_last l e new ∙ sym c)
      ∙ end_kept l once descends (e ∷ []) j g h

module _ (f : File) (l : List Entry) (x : Subject) (ek : ℕ) where
  pub ends_each : (es : List Entry) → all_end_at f l x ek es ≡ true → (i : ℕ) (e : Entry) → get_elem? es i ≡ some e → subject f e.certificate ≡ x → end_ek f l e ≡ ek
  unfolding all_end_at
  ends_each [] t i e h s = absurd (let z : ◌≡◌ {A = ℕ} 0 1 = cc in omega arith)
  ends_each (y ∷ es) t zero e h s =
      let q : y ≡ e = cc in
      let w = and_true (not (same_subject (subject f y.certificate) x) || eqb (end_ek f l y) ek) (all_end_at f l x ek es) t in
      ap (end_ek f l) (sym q) ∙ eqb-true _ _ (past (same_subject (subject f y.certificate) x) (subject_same _ _ (ap (λ (v : Entry). subject f v.certificate) q ∙ s)) w.0)
    where
      past : (a : Bool) {b : Bool} → a ≡ true → (not a || b) ≡ true → b ≡ true
      past true h e = e
      past false h e = absurd (false≢true h)
  ends_each (y ∷ es) t (suc i) e h s = ends_each es (and_true (not (same_subject (subject f y.certificate) x) || eqb (end_ek f l y) ek) (all_end_at f l x ek es) t).1 i e h s

  pub each_ends : (es : List Entry) → ((i : ℕ) (e : Entry) → get_elem? es i ≡ some e → subject f e.certificate ≡ x → end_ek f l e ≡ ek) → all_end_at f l x ek es ≡ true
  unfolding all_end_at
  each_ends [] h = refl
  each_ends (y ∷ es) h = go (same_subject (subject f y.certificate) x) refl (each_ends es (λ i e. h (suc i) e))
    where
      go : (b : Bool) → same_subject (subject f y.certificate) x ≡ b → all_end_at f l x ek es ≡ true → ((not b || eqb (end_ek f l y) ek) && all_end_at f l x ek es) ≡ true
      go true s more = rw (eq-eqb (end_ek f l y) ek (h 0 y refl (same_subject_lem _ _ s)), more) refl
      go false s more = more

  pub by_none : ((i : ℕ) (e : Entry) → get_elem? l i ≡ some e → subject f e.certificate ≡ x → ⊥) → all_end_at f l x ek l ≡ true
  by_none n = each_ends l (λ i e h s. absurd (n i e h s))

  pub by_entry : OneEk f l → (i : ℕ) (e : Entry) → get_elem? l i ≡ some e → subject f e.certificate ≡ x → all_end_at f l x ek l ≡ eqb (end_ek f l e) ek
  by_entry one i e h s =
      both_ways _ _ (λ t. eq-eqb _ _ (ends_each l t i e h s)) (λ t. each_ends l (λ j g k u. one j i g e k h (u ∙ sym s) ∙ eqb-true _ _ t))
