-- Path by what Run gives: its answer, the buffers and the list.
--     entries_declared, entries_inside, few_steps     what a run leaves is what Path needs
--     path_short, path_refused, path_none, path_some     what Path answers and leaves is what the rules say
--     term_entries_inside, term_few_steps, term_path_none, term_path_some     the same of what the code reads
-- Assumes nothing.
use Rattle.std.proofs.Common.{◌≡◌, refl, sym, ap, ◌∙◌, Bool, true, false, cond, ◌&&◌, List, [], ◌∷◌, ◌++◌, ℕ, suc, ◌+◌, ◌<◌, ◌≤◌, arith, leb, length, length-take-le, get_or, take, drop, Result, Ok, Err}
use mathlib.Core.Bool.{false≢true}
use native.Mathlib.Decide.{dec_lt}
use borrow.Author.Tests.{eq-eqb, ne_eqb, le-leb, lt-leb}
use Rattle.tables.specs.declared.columns.Tables.{Tables}
use Rattle.rules.specs.declared.Entry.{Entry}
use Rattle.rules.specs.declared.Refused.{Refused}
use Rattle.rules.specs.Codes.{number_of}
use Rattle.rules.specs.Limits.{depth_limit, path_places}
use Rattle.rules.specs.Load.{Load, loaded, refused, load}
use Rattle.rules.specs.File.{File}
use Rattle.rules.specs.State.{State, listed, depth_of}
use Rattle.rules.specs.Run.{reached}
use Rattle.rules.specs.Lent.{Answer, success, refusal, in_numbers, path_in_numbers, Lent, Called, long_enough, answered, run_answer, run_leaves, asked, steps, steps_from, path_answer, path_buffers, path_written, path_listed, path_leaves}
use Rattle.theorems.proofs.Ledgers.{listed_found}
use Rattle.tables.specs.Columns.{tables_in}
use Rattle.loaded.specs.Loaded.{file_in}
use Rattle.commands.specs.Standing.{Blank}
use Rattle.loaded.proofs.Ledger.{entry_inside, column_none, column_listed}
use Rattle.engine.specs.declared.Finished.{Finished}
use Rattle.engine.specs.Raw.{Ran, Stood}
use Rattle.path.specs.Climbing.{EntriesDeclared, EntriesInside, steps_in, climbed, entry_in, TermEntriesInside, term_steps_in, term_climbed}
use Rattle.path.proofs.Climbing.{entry_is, terms_inside, steps_as, climbed_as, climbed_steps}

-- a test that fails, behind another
second_fails : (a b : Bool) → b ≡ false → a && b ≡ false
second_fails true b e = e
second_fails false b e = refl

-- a refusal of loading is Path's
answered_refusal : (n : ℕ) (l : Load) (number place : ℕ) → refusal number place ≡ answered n l → l ≡ refused number place
unfolding answered
answered_refusal n (loaded f) number place e = absurd (let z : ◌≡◌ {A = ℕ} 0 3 = ap (λ (x : Answer). length x.values) e in omega arith)
answered_refusal n (refused m at) number place e = sym (λ k. refused (e k).number (e k).place)

refused_is : (n t number place : ℕ) (list : List ℕ) → (refusal number place ≡ asked (steps_from t) n (refused number place)) × (list ≡ path_listed n t list (refused number place))
unfolding asked path_listed
refused_is n t number place list = (refl, refl)

run_by : (bs : List ℕ) (n : ℕ) (lent : Lent) (b : Bool) → long_enough lent ≡ b → run_answer bs n lent ≡ cond b (answered n (load bs)) (refusal 1 0)
unfolding run_answer
run_by bs n lent b e = rw e refl

-- a term that is known is declared
known_declared : (f : File) (x : State) → ((t : ℕ) → length f.terms ≤ t → Blank x t) → (p k : ℕ) → x.knows p k ≡ true → k < length f.terms
known_declared f x blank p k known = go (dec_lt k (length f.terms))
  where
    go : Dec (k < length f.terms) → k < length f.terms
    go (yes h) = h
    go (no h) = absurd (false≢true (sym ((blank k (omega (arith, h))).knows p) ∙ known))

-- the whole promise
abbrev pub PathRan : List ℕ → ℕ → Lent → ℕ → List ℕ → Lent → List ℕ → Result ℕ Refused → Type 0
PathRan bs n lent t list after list' x =
    Called (λ before. path_answer bs n before t list) (λ before. path_buffers bs n before t list) lent after (path_in_numbers x) × (list' ≡ path_leaves bs n lent t list)

module _ (bs : List ℕ) (n : ℕ) (lent : Lent) (t : ℕ) (list : List ℕ) where
  -- too short a list
  module _ (short : length list < path_places) where
    no_answer : refusal 1 0 ≡ path_answer bs n lent t list
    unfolding path_answer
    no_answer = sym (ap (λ (b : Bool). cond b (asked (steps_from t) n (load bs)) (refusal 1 0)) (second_fails (long_enough lent) (leb path_places (length list)) (lt-leb path_places (length list) short)))

    no_buffers : lent ≡ path_buffers bs n lent t list
    unfolding path_buffers
    no_buffers = rw (lt-leb path_places (length list) short) refl

    no_list : list ≡ path_leaves bs n lent t list
    unfolding path_leaves
    no_list = sym (ap (λ (b : Bool). cond b (path_listed n t list (load bs)) list) (second_fails (long_enough lent) (leb path_places (length list)) (lt-leb path_places (length list) short)))

    pub path_short : (A : Type 0) (e : Refused) → in_numbers {A = A} (λ _. []) (Err e) ≡ refusal 1 0 → (x : Result ℕ Refused) → x ≡ Err e → PathRan bs n lent t list lent list x
    unfolding in_numbers
    path_short A e q x is = ((ap path_in_numbers is ∙ q ∙ no_answer, no_buffers), no_list)

  -- a list that is long enough
  module _ (long : path_places ≤ length list) where
    long_is : leb path_places (length list) ≡ true
    long_is = le-leb path_places (length list) long

    buffers : run_leaves bs n lent ≡ path_buffers bs n lent t list
    unfolding path_buffers
    buffers = rw long_is refl

    answer_by : (b : Bool) → long_enough lent ≡ b → path_answer bs n lent t list ≡ cond b (asked (steps_from t) n (load bs)) (refusal 1 0)
    unfolding path_answer
    answer_by true e = rw (e, long_is) refl
    answer_by false e = rw e refl

    list_by : (b : Bool) → long_enough lent ≡ b → path_leaves bs n lent t list ≡ cond b (path_listed n t list (load bs)) list
    unfolding path_leaves
    list_by true e = rw (e, long_is) refl
    list_by false e = rw e refl

    -- the run's refusal is Path's
    refused_by : (b : Bool) → long_enough lent ≡ b → (number place : ℕ) → refusal number place ≡ cond b (answered n (load bs)) (refusal 1 0)
        → (refusal number place ≡ path_answer bs n lent t list) × (list ≡ path_leaves bs n lent t list)
    refused_by true e number place q =
        let l = answered_refusal n (load bs) number place q in
        let w = refused_is n t number place list in
        (w.0 ∙ sym (answer_by true e ∙ ap (asked (steps_from t) n) l), w.1 ∙ sym (list_by true e ∙ ap (path_listed n t list) l))
    refused_by false e number place q = (q ∙ sym (answer_by false e), sym (list_by false e))

    pub path_refused : {after : Lent} (e : Refused) → Ran bs n lent after (Err e) → (x : Result ℕ Refused) → x ≡ Err e → PathRan bs n lent t list after list x
    unfolding in_numbers
    path_refused e run x is =
        let number = number_of e.refusal in
        let w = refused_by (long_enough lent) refl number e.place (run.answer ∙ run_by bs n lent (long_enough lent) refl) in
        ((ap path_in_numbers is ∙ w.0, run.buffers ∙ buffers), w.1)

    -- of a file that loads
    ran_path : (e : long_enough lent ≡ true) (l : load bs ≡ loaded (file_in bs))
        → (path_answer bs n lent t list ≡ cond (listed (reached (file_in bs) n).ledger t) (success (depth_of (reached (file_in bs) n).ledger t ∷ [])) (refusal 30 t))
        × (path_leaves bs n lent t list ≡ cond (listed (reached (file_in bs) n).ledger t) (steps (reached (file_in bs) n).ledger (depth_of (reached (file_in bs) n).ledger t) t ++ drop (depth_of (reached (file_in bs) n).ledger t + 1) list) list)
    unfolding asked steps_from path_listed path_written
    ran_path e l = (answer_by true e ∙ ap (asked (steps_from t) n) l, list_by true e ∙ ap (path_listed n t list) l)

-- what the rules say of a run that stood
module _ {bs : List ℕ} {n : ℕ} {lent after : Lent} {tables : Tables} {r : Finished} (w : Stood bs n lent after tables r) where
  abbrev ledger : List Entry
  ledger = (reached (file_in bs) n).ledger

  pub entries_declared : EntriesDeclared tables
  entries_declared = record {
    declared = λ c more.
        let m = listed_found ledger c (column_listed c w.stands.enters more) in
        let g = w.stands.kept.sound.entries m.place m.entry m.here in
        let k = known_declared (file_in bs) _ w.stands.kept.blank _ m.entry.certificate g.known in
        omega (arith, k, m.same, w.stands.holds.there.few);
  }

  pub entries_inside : length after.ledger ≡ length lent.ledger → EntriesInside tables after.ledger
  entries_inside same = record { inside = λ c. omega (arith, entry_inside c w.stands.enters, w.stands.enters.few, same, w.long) }

  module _ (t : ℕ) where
    deep : (tables_in tables).depth t ≡ depth_of ledger t
    deep = w.stands.enters.depth t

    shallow : listed ledger t ≡ true → depth_of ledger t ≤ depth_limit
    shallow g = let m = listed_found ledger t g in omega (arith, m.depth, (w.stands.kept.sound.entries m.place m.entry m.here).most)

    -- the steps that are answered
    some_steps : {d : ℕ} → path_in_numbers (Ok d) ≡ steps_in tables t → (listed ledger t ≡ true) × (d ≡ depth_of ledger t)
    unfolding in_numbers
    some_steps {d} q = go (dec_lt 0 ((tables_in tables).entry t))
      where
        go : Dec (0 < (tables_in tables).entry t) → (listed ledger t ≡ true) × (d ≡ depth_of ledger t)
        go (yes h) =
            let e : success (d ∷ []) ≡ success ((tables_in tables).depth t ∷ []) = q ∙ rw (ne_eqb ((tables_in tables).entry t) 0 (λ z. omega (arith, h, z))) refl in
            (column_listed t w.stands.enters h, ap (λ (a : Answer). get_or a.values 0 0) e ∙ deep)
        go (no h) =
            let e : success (d ∷ []) ≡ refusal 30 t = q ∙ rw (eq-eqb ((tables_in tables).entry t) 0 (omega (arith, h))) refl in
            absurd (let z : ◌≡◌ {A = ℕ} 1 0 = ap (λ (a : Answer). length a.values) e in omega arith)

    no_steps : (e : Refused) → path_in_numbers (Err e) ≡ steps_in tables t → (listed ledger t ≡ false) × (path_in_numbers (Err e) ≡ refusal 30 t)
    unfolding in_numbers
    no_steps e q = go (dec_lt 0 ((tables_in tables).entry t))
      where
        go : Dec (0 < (tables_in tables).entry t) → (listed ledger t ≡ false) × (path_in_numbers (Err e) ≡ refusal 30 t)
        go (yes h) =
            let u : refusal (number_of e.refusal) e.place ≡ success ((tables_in tables).depth t ∷ []) = q ∙ rw (ne_eqb ((tables_in tables).entry t) 0 (λ z. omega (arith, h, z))) refl in
            absurd (let z : ◌≡◌ {A = ℕ} 0 1 = ap (λ (a : Answer). length a.values) u in omega arith)
        go (no h) =
            let z : (tables_in tables).entry t ≡ 0 = omega (arith, h) in
            (column_none t w.stands.enters z, q ∙ rw (eq-eqb ((tables_in tables).entry t) 0 z) refl)

    pub few_steps : {d : ℕ} → path_in_numbers (Ok d) ≡ steps_in tables t → d ≤ depth_limit
    few_steps q = let k = some_steps q in omega (arith, k.1, shallow k.0)

    -- the whole
    module _ (list : List ℕ) (long : path_places ≤ length list) (run : Ran bs n lent after (Ok r)) where
      pub path_none : (e : Refused) → path_in_numbers (Err e) ≡ steps_in tables t → (x : Result ℕ Refused) → x ≡ Err e → PathRan bs n lent t list after list x
      path_none e q x is =
          let k = no_steps e q in
          let p = ran_path bs n lent t list long w.enough w.stands.holds.loads in (
            (
              ap path_in_numbers is ∙ k.1 ∙ sym (p.0 ∙ ap (λ (b : Bool). cond b (success (depth_of ledger t ∷ [])) (refusal 30 t)) k.0),
              run.buffers ∙ buffers bs n lent t list long,
            ),
            sym (p.1 ∙ ap (λ (b : Bool). cond b (steps ledger (depth_of ledger t) t ++ drop (depth_of ledger t + 1) list) list) k.0),
          )

      pub path_some : (d : ℕ) → path_in_numbers (Ok d) ≡ steps_in tables t → (ys : List ℕ) → ys ≡ climbed tables after.ledger (length (take (d + 1) list)) t → PathRan bs n lent t list after (ys ++ drop (d + 1) list) (Ok d)
      unfolding in_numbers
      path_some d q ys written =
          let k = some_steps q in
          let few = few_steps q in
          let p = ran_path bs n lent t list long w.enough w.stands.holds.loads in
          let s : length (take (d + 1) list) ≡ suc d = omega (arith, length-take-le (d + 1) list (omega (arith, few, long))) in (
            (
              ap (λ (m : ℕ). success (m ∷ [])) k.1 ∙ sym (p.0 ∙ ap (λ (b : Bool). cond b (success (depth_of ledger t ∷ [])) (refusal 30 t)) k.0),
              run.buffers ∙ buffers bs n lent t list long,
            ),
            ap (λ (xs : List ℕ). xs ++ drop (d + 1) list) (written ∙ ap (λ (m : ℕ). climbed tables after.ledger m t) s ∙ climbed_steps lent.ledger w.stands.enters w.ledger d t)
                ∙ ap (λ (m : ℕ). steps ledger m t ++ drop (m + 1) list) k.1
                ∙ sym (p.1 ∙ ap (λ (b : Bool). cond b (steps ledger (depth_of ledger t) t ++ drop (depth_of ledger t + 1) list) list) k.0),
          )

  -- the same of what the code reads, which is of terms alone: those are all that the tables place
  places : (c : ℕ) → entry_in tables c ≡ (tables_in tables).entry c
  places = entry_is tables entries_declared.declared

  pub term_entries_inside : length after.ledger ≡ length lent.ledger → TermEntriesInside tables after.ledger
  term_entries_inside same = terms_inside (entries_inside same)

  module _ (t : ℕ) where
    pub term_few_steps : {d : ℕ} → path_in_numbers (Ok d) ≡ term_steps_in tables t → d ≤ depth_limit
    term_few_steps q = few_steps t (q ∙ steps_as tables places t)

    module _ (list : List ℕ) (long : path_places ≤ length list) (run : Ran bs n lent after (Ok r)) where
      pub term_path_none : (e : Refused) → path_in_numbers (Err e) ≡ term_steps_in tables t → (x : Result ℕ Refused) → x ≡ Err e → PathRan bs n lent t list after list x
      term_path_none e q = path_none t list long run e (q ∙ steps_as tables places t)

      pub term_path_some : (d : ℕ) → path_in_numbers (Ok d) ≡ term_steps_in tables t → (ys : List ℕ) → ys ≡ term_climbed tables after.ledger (length (take (d + 1) list)) t → PathRan bs n lent t list after (ys ++ drop (d + 1) list) (Ok d)
      term_path_some d q ys written = path_some t list long run d (q ∙ steps_as tables places t) ys (written ∙ climbed_as tables places after.ledger (length (take (d + 1) list)) t)
