-- The climb, place by place; and that it is the rules' path.
--     entry_is                          the tables' column, where they place terms alone
--     terms_inside                      what is in a lent ledger by the columns is there by the terms
--     climb_next, climb_end             a place more, and the last, by the columns
--     term_climb_next, term_climb_end   the same by the terms
--     climbed_steps                     what is written is the rules' path
--     steps_as, climbed_as              the two forms are equal, where the tables place terms alone
--     term_climbed_steps                and so what is written by the terms is the rules' path
-- Assumes nothing.
use Rattle.std.proofs.Common.{◌≡◌, refl, sym, ap, ◌∙◌, Bool, true, false, cond, eqb, List, [], ◌∷◌, ◌++◌, ℕ, zero, suc, ◌+◌, ◌-◌, ◌<◌, ◌≤◌, length, get_or, take, arith, append_assoc}
use Rattle.std.proofs.Math.ListN.{set, length-set, get_or-append}
use Rattle.std.proofs.lemmas.List.{take_more_set}
use lib.Seq.{take_all}
use lib.Dec.{ltb}
use mathlib.Core.List.{append-nil}
use native.Mathlib.Decide.{dec_lt}
use borrow.Author.Tests.{eq-eqb, ne_eqb, ltb-false}
use Rattle.tables.specs.declared.columns.Tables.{Tables}
use Rattle.rules.specs.declared.Entry.{Entry}
use Rattle.rules.specs.Limits.{term_limit}
use Rattle.rules.specs.State.{parent_of}
use Rattle.rules.specs.Lent.{no_entry, first_part, steps, refusal, success}
use Rattle.tables.specs.Columns.{tables_in}
use Rattle.loaded.specs.Entries.{Enters}
use Rattle.loaded.proofs.Ledger.{entry_inside, parent_read, parent_none}
use Rattle.path.specs.Climbing.{EntriesInside, steps_in, parent_in, climbed, entry_in, TermEntriesInside, term_steps_in, term_parent_in, term_climbed}

-- where the tables place terms alone
pub entry_is : (tables : Tables) → ((c : ℕ) → 0 < (tables_in tables).entry c → c < term_limit) → (c : ℕ) → entry_in tables c ≡ (tables_in tables).entry c
unfolding entry_in
entry_is tables declared c = go (ltb c term_limit) refl
  where
    none : term_limit ≤ c → Dec (0 < (tables_in tables).entry c) → 0 ≡ (tables_in tables).entry c
    none h (yes some) = absurd (omega (arith, h, declared c some))
    none h (no z) = omega (arith, z)

    go : (b : Bool) → ltb c term_limit ≡ b → cond b ((tables_in tables).entry c) 0 ≡ (tables_in tables).entry c
    go true e = refl
    go false e = none (omega (arith, ltb-false c term_limit e)) (dec_lt 0 ((tables_in tables).entry c))

-- what is in a lent ledger by the columns is there by the terms
pub terms_inside : {tables : Tables} {l : List Entry} → EntriesInside tables l → TermEntriesInside tables l
unfolding entry_in
terms_inside {tables} {l} e = record { inside = λ c. go c (ltb c term_limit) }
  where
    go : (c : ℕ) (b : Bool) → cond b ((tables_in tables).entry c) 0 ≤ length l
    go c true = e.inside c
    go c false = omega arith

-- a walk, by what it writes of so many places from a certificate on
module _ (walk : ℕ → ℕ → List ℕ) (items : List ℕ) (i c : ℕ) where
  walk_next : (next start : ℕ) → ((n : ℕ) → walk (suc n) c ≡ c ∷ walk n next) → i < length items
      → take i items ++ walk (length items - i) c ≡ walk (length items) start
      → take (i + 1) (set items i c) ++ walk (length (set items i c) - (i + 1)) next ≡ walk (length (set items i c)) start
  walk_next next start step h same =
      let m : length items - i ≡ suc (length items - (i + 1)) = omega arith in
      rw (take_more_set items i c h, length-set) (rw append_assoc (rw (m, step) at same))

  walk_end : walk 0 c ≡ [] → i ≡ length items → take i items ++ walk (length items - i) c ≡ items
  walk_end none e =
      let m : length items - i ≡ 0 = omega arith in
      rw (m, none) (append-nil (take i items) ∙ take_all i items (omega arith))

module _ (tables : Tables) (l : List Entry) (items : List ℕ) (i c : ℕ) where
  pub climb_next : (next start : ℕ) → i < length items → next ≡ parent_in tables l c
      → take i items ++ climbed tables l (length items - i) c ≡ climbed tables l (length items) start
      → take (i + 1) (set items i c) ++ climbed tables l (length (set items i c) - (i + 1)) next ≡ climbed tables l (length (set items i c)) start
  unfolding climbed
  climb_next next start h e = walk_next (climbed tables l) items i c next start (λ n. ap (λ (x : ℕ). c ∷ climbed tables l n x) (sym e)) h

  pub climb_end : i ≡ length items → take i items ++ climbed tables l (length items - i) c ≡ items
  unfolding climbed
  climb_end = walk_end (climbed tables l) items i c refl

  pub term_climb_next : (next start : ℕ) → i < length items → next ≡ term_parent_in tables l c
      → take i items ++ term_climbed tables l (length items - i) c ≡ term_climbed tables l (length items) start
      → take (i + 1) (set items i c) ++ term_climbed tables l (length (set items i c) - (i + 1)) next ≡ term_climbed tables l (length (set items i c)) start
  unfolding term_climbed
  term_climb_next next start h e = walk_next (term_climbed tables l) items i c next start (λ n. ap (λ (x : ℕ). c ∷ term_climbed tables l n x) (sym e)) h

  pub term_climb_end : i ≡ length items → take i items ++ term_climbed tables l (length items - i) c ≡ items
  unfolding term_climbed
  term_climb_end = walk_end (term_climbed tables l) items i c refl

-- by a ledger that the tables hold, whose entries stand in front
module _ {tables : Tables} {n : ℕ} {ledger l : List Entry} (old : List Entry) (e : Enters tables n ledger) (front : l ≡ first_part term_limit no_entry ledger old) where
  front_read : (i : ℕ) → i < length ledger → get_or l i no_entry ≡ get_or ledger i no_entry
  unfolding first_part
  front_read i h = ap (λ (k : List Entry). get_or k i no_entry) front ∙ get_or-append ledger _ no_entry i h

  parent_is : (c : ℕ) → parent_in tables l c ≡ parent_of ledger c
  parent_is c = go (dec_lt 0 ((tables_in tables).entry c))
    where
      go : Dec (0 < (tables_in tables).entry c) → parent_in tables l c ≡ parent_of ledger c
      go (yes h) =
          let x = (tables_in tables).entry c in
          let i : x ≤ n = entry_inside c e in
          rw (ne_eqb x 0 (λ z. omega (arith, h, z))) (ap (λ (d : Entry). d.parent) (front_read (x - 1) (omega (arith, i, e.count, h))) ∙ parent_read c e h)
      go (no h) = let z : (tables_in tables).entry c ≡ 0 = omega (arith, h) in rw (eq-eqb ((tables_in tables).entry c) 0 z) (parent_none c e z)

  pub climbed_steps : (d c : ℕ) → climbed tables l (suc d) c ≡ steps ledger d c
  unfolding climbed steps
  climbed_steps zero c = refl
  climbed_steps (suc d) c = ap (λ (xs : List ℕ). c ∷ xs) (climbed_steps d (parent_in tables l c) ∙ ap (steps ledger d) (parent_is c))

-- what is read of terms is what the columns say, where the tables place terms alone
module _ (tables : Tables) (places : (c : ℕ) → entry_in tables c ≡ (tables_in tables).entry c) where
  pub steps_as : (t : ℕ) → term_steps_in tables t ≡ steps_in tables t
  steps_as t = ap (λ (x : ℕ). cond (eqb x 0) (refusal 30 t) (success ((tables_in tables).depth t ∷ []))) (places t)

  parent_as : (l : List Entry) (c : ℕ) → term_parent_in tables l c ≡ parent_in tables l c
  parent_as l c = ap (λ (x : ℕ). cond (eqb x 0) 0 (get_or l (x - 1) no_entry).parent) (places c)

  pub climbed_as : (l : List Entry) (n c : ℕ) → term_climbed tables l n c ≡ climbed tables l n c
  unfolding climbed term_climbed
  climbed_as l zero c = refl
  climbed_as l (suc n) c = ap (λ (xs : List ℕ). c ∷ xs) (climbed_as l n (term_parent_in tables l c) ∙ ap (climbed tables l n) (parent_as l c))

-- by such tables, and a ledger that they hold, whose entries stand in front
module _ {tables : Tables} {n : ℕ} {ledger l : List Entry} (old : List Entry) (places : (c : ℕ) → entry_in tables c ≡ (tables_in tables).entry c) (e : Enters tables n ledger) (front : l ≡ first_part term_limit no_entry ledger old) where
  pub term_climbed_steps : (d c : ℕ) → term_climbed tables l (suc d) c ≡ steps ledger d c
  term_climbed_steps d c = climbed_as tables places l (suc d) c ∙ climbed_steps old e front d c
