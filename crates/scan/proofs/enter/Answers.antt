-- `scan::enter` meets its contract: each branch is that of `last_fault`, `columns_after` and `signers_after`. Assumes
-- nothing.
use borrow.Author.Tests.{ne_eqb, leb-true}
use mathlib.Core.Path.{◌≡◌, refl, sym, ap, subst⁻¹, ◌∙◌}
use mathlib.Core.Bool.{Bool, true, false, cond, not}
use mathlib.Core.List.{List}
use Prim.Native.Nat.{ℕ, ◌+◌, ◌≤◌}
use native.Mathlib.Omega.{arith}
use lib.Dec.{eqb, leb}
use Rattle.rules.specs.Record.{section_of, body_length, fields_of, width, widths, term_section, setup_section}
use Rattle.rules.specs.File.{Setup, learns, holds, signs_with}
use Rattle.rules.specs.Load.{refuse_unless, term_at, setup_at}
use Rattle.rules.specs.State.{put}
use Rattle.records.proofs.EachKind.{each_kind}
use Rattle.state.specs.View.{Columns, view, with_place}
use Rattle.tables.specs.declared.columns.Tables.{Tables}
use Rattle.tables.specs.Columns.{Terms, TableColumns, Unlinked, tables_in, with_signer}
use Rattle.learning.specs.Noted.{Noted}
use Rattle.checks.specs.There.{any_alike_there}
use Rattle.index.specs.Indexed.{Indexed, Halves}
use Rattle.setup.specs.Allowed.{allowed_there, setup_leaves, signers_leave}
use Rattle.scan.specs.declared.Tally.{Tally}
use Rattle.scan.specs.Describes.{counted, last_fault, columns_after, signers_after}
use Rattle.scan.proofs.Scanning.{counted_is}
use Rattle.scan.proofs.enter.Goals as goal

-- the body of a set-up record
setup-long : (k : ℕ) → cond (eqb (section_of k) setup_section) (leb 3 (widths (fields_of k))) true ≡ true
unfolding section_of fields_of widths width
setup-long k = each_kind (λ s fs. cond (eqb s setup_section) (leb 3 (widths fs)) true) (λ s fs. true) refl k

setup-whole : (k : ℕ) → section_of k ≡ setup_section → 3 ≤ body_length k
unfolding body_length
setup-whole k e = leb-true 3 (widths (fields_of k)) (rw e at (setup-long k))

-- what is the same in both cases
either {ℓ} : {A : Type ℓ} (t : Bool) (x : A) → x ≡ cond t x x
either true x = refl
either false x = refl

-- a set-up record keeps the places
setup-place : (bs : List ℕ) (v : Columns) (x : Setup) (b : Bool) → (cond b (setup_leaves bs v x) v).place ≡ v.place
unfolding setup_leaves
setup-place bs v (learns p t) true = refl
setup-place bs v (holds p t) true = refl
setup-place bs v (signs_with p t) true = refl
setup-place bs v x false = refl

-- a record that is no term keeps their count
other-terms : (own : ℕ) (n : Tally) → (own ≡ term_section → ⊥) → (counted own n).terms ≡ n.terms
other-terms own n a = counted_is (λ (m : Tally). m.terms ≡ n.terms) own n refl (λ e. absurd (a e)) refl refl

-- the signing keys are no part of the index
indexed-signed : {bs links : List ℕ} {place : ℕ → ℕ} {tables tables' : Tables} {n : ℕ} {c : ℕ → ℕ}
    → tables_in tables' ≡ with_signer (tables_in tables) c → Indexed bs place links tables n → Indexed bs place links tables' n
indexed-signed {bs} {links} {place} {tables} {tables'} {n} e i =
    let half = ap (λ (v : TableColumns). v.half) e in record {
      tree = i.tree;
      noted = subst⁻¹ (λ (t : Terms). Noted bs place t n) (ap (λ (v : TableColumns). v.terms) e) i.noted;
      met = i.met;
      unlike = i.unlike;
      halves = subst⁻¹ (λ (h : ℕ → ℕ). Halves bs place h n) half i.halves;
      unpaired = λ t l. ap (λ (h : ℕ → ℕ). h t) half ∙ i.unpaired t l;
      unlisted = λ t. ap (λ (v : TableColumns). v.entry t) e ∙ i.unlisted t;
      shallow = λ t. ap (λ (v : TableColumns). v.depth t) e ∙ i.shallow t;
      unlinked = subst⁻¹ Unlinked (ap (λ (v : TableColumns). v.boards) e) i.unlinked;
    }

module _ (bs : List ℕ) (v : Columns) (links : List ℕ) (tables : Tables) (n : Tally) (k own : ℕ) (body : List ℕ) (at : ℕ) (o : own ≡ section_of k) where
  -- what entering leaves
  record Entered (r : ℕ) (w : Columns) (links' : List ℕ) (tables' : Tables) : Type 0 where
    refusal : r ≡ last_fault bs v (tables_in tables).signer n k body
    left : w ≡ cond (eqb r 0) (columns_after bs v n k body at) v
    keys : (tables_in tables').signer ≡ cond (eqb r 0) (signers_after (tables_in tables).signer k body) (tables_in tables).signer
    indexed : r ≡ 0 → Indexed bs w.place links' tables' (counted own n).terms

  term-entered : (r : ℕ) (w : Columns) (links' : List ℕ) (tables' : Tables) → own ≡ term_section
      → r ≡ refuse_unless 9 (not (any_alike_there bs v.place (term_at k body) n.terms))
      → w ≡ cond (eqb r 0) (with_place v (put v.place n.terms at)) v
      → (tables_in tables').signer ≡ (tables_in tables).signer
      → (r ≡ 0 → Indexed bs w.place links' tables' (n.terms + 1))
      → Entered r w links' tables'
  unfolding last_fault columns_after signers_after counted
  term-entered r w links' tables' e p q g i =
      record { refusal = rw (← o, e) p; left = rw (← o, e) q; keys = rw (← o, e) (g ∙ either (eqb r 0) (tables_in tables).signer); indexed = rw e i }

  setup-entered : (r : ℕ) (w : Columns) (tables' : Tables) → own ≡ setup_section
      → r ≡ allowed_there bs v (tables_in tables).signer n.parties (setup_at k body)
      → w ≡ cond (eqb r 0) (setup_leaves bs v (setup_at k body)) v
      → tables_in tables' ≡ with_signer (tables_in tables) (cond (eqb r 0) (signers_leave (tables_in tables).signer (setup_at k body)) (tables_in tables).signer)
      → Indexed bs v.place links tables n.terms
      → Entered r w links tables'
  unfolding last_fault columns_after signers_after counted
  setup-entered r w tables' e p q g i = record {
    refusal = rw (← o, e) p;
    left = rw (← o, e) q;
    keys = rw (← o, e) (ap (λ (t : TableColumns). t.signer) g);
    indexed = rw e (λ _. indexed-signed {tables = tables} g (rw (q, setup-place bs v (setup_at k body) (eqb r 0)) i));
  }

  other-entered : (own ≡ term_section → ⊥) → (own ≡ setup_section → ⊥) → Indexed bs v.place links tables n.terms → Entered 0 v links tables
  unfolding last_fault columns_after signers_after
  other-entered a b i = record {
    refusal = rw (← o, ne_eqb own term_section a, ne_eqb own setup_section b) refl;
    left = rw (← o, ne_eqb own term_section a, ne_eqb own setup_section b) refl;
    keys = rw (← o, ne_eqb own setup_section b) refl;
    indexed = λ _. rw (other-terms own n a) i;
  }

pub returns-in-2 : goal.returns-in-2
returns-in-2 c =
    let t = c.enter_term in
    let a = c.args in
    let w =
    term-entered a.file.now (view a.state.now) a.links.now a.tables.now a.n a.kind a.section a.body.now a.at c.requires.0 _ _ _ _
    c.in-2.is t.ensures.refusal t.ensures.left t.ensures.keys t.ensures.indexed in
    record { refusal = w.refusal; left = w.left; keys = w.keys; indexed = w.indexed }

pub enter_setup-requires : goal.enter_setup-requires
enter_setup-requires c =
    let p = c.requires.1 in
    let e = sym c.requires.0 ∙ c.in-3.is in
    record {
      there = p.there;
      noted = c.requires.2.noted;
      is_setup = e;
      few_parties = p.few_parties;
      parties_whole = p.parties_whole;
      body_whole = (omega (arith, setup-whole c.args.kind e, p.whole));
      party = p.party e;
      declared = p.declared e;
    }

pub returns-in-3 : goal.returns-in-3
returns-in-3 c =
    let t = c.enter_setup in
    let a = c.args in
    let w =
    setup-entered a.file.now (view a.state.now) a.links.now a.tables.now a.n a.kind a.section a.body.now a.at c.requires.0 _ _ _
    c.in-3.is t.ensures.refusal t.ensures.left t.ensures.keys c.requires.2 in
    record { refusal = w.refusal; left = w.left; keys = w.keys; indexed = w.indexed }

pub returns-in_default : goal.returns-in_default
returns-in_default c =
    let a = c.args in
    let w =
    other-entered a.file.now (view a.state.now) a.links.now a.tables.now a.n a.kind a.section a.body.now a.at c.requires.0
    (λ e. omega (arith, e)) (λ e. omega (arith, e)) c.requires.2 in
    record { refusal = w.refusal; left = w.left; keys = w.keys; indexed = w.indexed }
