-- A scenario file cut before or after a command, proved.
-- Assumes nothing.
use mathlib.Core.Path.{◌≡◌, refl, sym, ap, subst, ◌∙◌}
use mathlib.Core.Logic.{◌⊎◌, inl, inr, ⊎_elim}
use mathlib.Core.List.{List, [], ◌∷◌, reverse}
use mathlib.Core.Option.{none, some}
use Prim.Native.Nat.{ℕ, zero, suc, ◌+◌, ◌<◌, ◌≤◌}
use native.Mathlib.Omega.{arith}
use lib.ListN.{length, get_or, get_elem?, take, length-take}
use lib.Seq.{get_or-take}
use borrow.Author.Tests.{leb-true}
use Rattle.rules.specs.Limits.{file_limit}
use Rattle.rules.specs.Record.{section_of, command_section, body_length}
use Rattle.rules.specs.File.{File, Command}
use Rattle.rules.specs.Load.{command_at, loaded, refused, empty_file, feed, load, commands_of}
use Rattle.rules.specs.State.{State, start}
use Rattle.rules.specs.Run.{run, outcomes, first_commands, reached, outcomes_of, accepted, refusals, issued}
use Rattle.rules.specs.Lent.{Lent, answered, run_answer, leaves, run_leaves, asked, ask_answer, steps_from, path_answer, path_buffers, path_written, path_listed, path_leaves}
use Rattle.rules.specs.Stock.{boards_left}
use Rattle.theorems.specs.CutLaws.{CutTo, FirstOnly, FilesCovered, record_after, command_of_record, command_place, PlaceNamed, CutLoads, CutCovered, CutInside, SameAnswers, CutAnswers, CutLaws}
use Rattle.theorems.proofs.Pieces.{from, body_at, load_from, feed_end, feed_short}
use Rattle.theorems.proofs.Written.{loaded_fits}
use Rattle.theorems.proofs.OtherCommands.{Other, start_same, run_same, outcomes_same, boards_same}
use Rattle.theorems.proofs.CutLoading.{CutAt, walk}

module _ {A : Type 0} where
  take_of_fewer : (n m : ℕ) (l : List A) → n ≤ m → take m (take n l) ≡ take n l
  take_of_fewer zero zero l h = refl
  take_of_fewer zero (suc m) l h = refl
  take_of_fewer (suc n) zero l h = absurd (omega arith)
  take_of_fewer (suc n) (suc m) [] h = refl
  take_of_fewer (suc n) (suc m) (x ∷ l) h = ap (λ (r : List A). x ∷ r) (take_of_fewer n m l (omega arith))

module _ (n : ℕ) (f g : File) (c : CutTo n f g) where
  other : g ≡ Other f g.section g.commands
  other = rw (← c.roles, ← c.terms, ← c.places, ← c.setup)

  started : start g ≡ start f
  started = ap start other ∙ start_same f g.section g.commands

  boards_cut : (party iaks : ℕ) (s : State) → boards_left party iaks g s ≡ boards_left party iaks f s
  boards_cut party iaks s = ap (λ (h : File). boards_left party iaks h s) other ∙ boards_same f g.section g.commands party iaks s

  first_same : (m : ℕ) → n ≤ m → first_commands g m ≡ first_commands f n
  unfolding first_commands
  first_same m h = ap (take m) c.commands ∙ take_of_fewer n m (commands_of f) h

  left_same : (xs : List Command) (s : State) → run g xs s ≡ run f xs s
  left_same xs s = ap (λ (h : File). run h xs s) other ∙ run_same f g.section g.commands xs s

  came_same : (xs : List Command) (s : State) → outcomes g xs s ≡ outcomes f xs s
  came_same xs s = ap (λ (h : File). outcomes h xs s) other ∙ outcomes_same f g.section g.commands xs s

  first_only : FirstOnly n f g
  unfolding reached outcomes_of
  first_only m h = (rw (started, first_same m h) (left_same _ _), rw (started, first_same m h) (came_same _ _))

-- the bytes of a file that loads, cut at the place of the command of ordinal n
module _ (bytes : List ℕ) (f : File) (loads : load bytes ≡ loaded f) where
  short : length bytes ≤ file_limit
  short = leb-true (length bytes) file_limit (loaded_fits bytes f loads)

  short_too : (b : ℕ) → length (take b bytes) ≤ file_limit
  short_too b = let h : length bytes ≤ file_limit = short in simp length-take (omega arith)

  module _ (n : ℕ) where
    abbrev place : ℕ
    place = command_place bytes n

    at_place : CutAt bytes 0 empty_file f n place (command_place bytes (suc n))
    unfolding command_place empty_file
    at_place =
        subst (λ (j : ℕ). CutAt bytes 0 empty_file f j place (command_place bytes (suc n))) (let z : 0 + n ≡ n = omega arith in z)
        (walk bytes f (length bytes) 0 empty_file n (omega arith) (omega arith) (sym (load_from bytes short) ∙ loads))

    cut_to : CutTo n f at_place.file
    unfolding commands_of first_commands
    cut_to = record {
      roles = at_place.roles;
      terms = at_place.terms;
      places = at_place.places;
      setup = at_place.setup;
      commands = at_place.commands;
    }

    -- cut there or further on
    reads : (b : ℕ) → place ≤ b → b ≤ length bytes → load (take b bytes) ≡ feed (loaded at_place.file) (from (take b bytes) place)
    reads b l w = load_from (take b bytes) (short_too b) ∙ at_place.reads b l w

    loads_too : load (take place bytes) ≡ loaded at_place.file
    loads_too = reads place (omega arith) at_place.within ∙ feed_end (take place bytes) place at_place.file (simp length-take (omega arith))

    named :
        ((get_elem? (commands_of f) n ≡ none) × (place ≡ length bytes))
        ⊎ ((get_elem? (commands_of f) n ≡ some (command_of_record bytes place)) × (place < length bytes) × (command_place bytes (suc n) ≡ record_after bytes place))
    unfolding commands_of command_of_record record_after body_at
    named = ⊎_elim (λ w. inl (w.1, w.0)) (λ w. inr (w.2, (let z = w.1 in omega arith), w.3)) at_place.stands

  inside : (n b : ℕ) → command_place bytes n < b → b < command_place bytes (suc n) → load (take b bytes) ≡ refused 4 (command_place bytes n)
  inside n b l u = ⊎_elim (λ w. absurd (let z = w.0 in let y = (at_place (suc n)).within in omega arith)) go (at_place n).stands
    where
      go : (section_of (get_or bytes (command_place bytes n) 0) ≡ command_section)
          × (command_place bytes n + 1 + body_length (get_or bytes (command_place bytes n) 0) ≤ length bytes)
          × (get_elem? (reverse f.commands) n ≡ some (command_at (get_or bytes (command_place bytes n) 0) (body_at bytes (command_place bytes n))))
          × (command_place bytes (suc n) ≡ command_place bytes n + 1 + body_length (get_or bytes (command_place bytes n) 0))
          → load (take b bytes) ≡ refused 4 (command_place bytes n)
      go w =
          let s = w.0 in
          let z = w.1 in
          let y = w.3 in
          let k = get_or-take b bytes (command_place bytes n) 0 l in
          let d : length (take b bytes) ≡ b = simp length-take (omega arith) in
          reads n b (omega arith) (omega arith)
          ∙ feed_short (take b bytes) (command_place bytes n) (omega arith) (at_place n).file (rw k (omega arith)) (rw (k, d) (omega arith))

-- what Run and Path make of two files that load, by the states reached, the outcomes and the places of the terms
module _
    (part whole : List ℕ) (g f : File) (m n : ℕ) (first : load part ≡ loaded g) (second : load whole ≡ loaded f) (places : g.places ≡ f.places)
    (state : reached g m ≡ reached f n) (came : outcomes_of g m ≡ outcomes_of f n) (boards : (party iaks : ℕ) (s : State) → boards_left party iaks g s ≡ boards_left party iaks f s)
  where
    answered_same : answered m (loaded g) ≡ answered n (loaded f)
    unfolding answered accepted refusals issued
    answered_same = rw (state, came)

    leaves_same : (lent : Lent) → leaves m lent (loaded g) ≡ leaves n lent (loaded f)
    unfolding leaves
    leaves_same lent = rw (state, came, places)

    found_same : (t : ℕ) → asked (steps_from t) m (loaded g) ≡ asked (steps_from t) n (loaded f)
    unfolding asked steps_from
    found_same t = rw state

    stock_same : (party iaks : ℕ) → asked (boards_left party iaks) m (loaded g) ≡ asked (boards_left party iaks) n (loaded f)
    unfolding asked
    stock_same party iaks = boards party iaks (reached g m) ∙ ap (boards_left party iaks f) state

    listed_same : (t : ℕ) (list : List ℕ) → path_listed m t list (loaded g) ≡ path_listed n t list (loaded f)
    unfolding path_listed path_written
    listed_same t list = rw state

    lent_same : (lent : Lent) → run_leaves part m lent ≡ run_leaves whole n lent
    unfolding run_leaves
    lent_same lent = rw (loaded_fits part g first, loaded_fits whole f second, first, second, leaves_same lent)

    same_answers : SameAnswers part m whole n
    unfolding run_answer ask_answer path_answer path_buffers path_leaves
    same_answers = record {
      run = λ lent. rw (first, second, answered_same);
      run_lent = lent_same;
      path = λ lent t list. rw (first, second, found_same t);
      path_lent = λ lent t list. rw (lent_same lent);
      path_list = λ lent t list. rw (first, second, listed_same t list);
      stock = λ lent party iaks. rw (first, second, stock_same party iaks);
    }

pub files_covered_lem : FilesCovered
files_covered_lem = first_only

pub place_named_lem : PlaceNamed
place_named_lem = named

pub cut_loads_lem : CutLoads
cut_loads_lem bytes f loads n =
    let w = at_place bytes f loads n in
    (w.within, (w.file, loads_too bytes f loads n, cut_to bytes f loads n))

pub cut_covered_lem : CutCovered
cut_covered_lem bytes f loads n =
    let w = (cut_loads_lem bytes f loads n).1 in
    (w.0, w.1, first_only n f w.0 w.2)

pub cut_inside_lem : CutInside
cut_inside_lem = inside

pub cut_answers_lem : CutAnswers
cut_answers_lem bytes f loads n m h =
    let w = (cut_loads_lem bytes f loads n).1 in
    let s = first_only n f w.0 w.2 m h in
    same_answers (take (command_place bytes n) bytes) bytes w.0 f m n w.1 loads w.2.places s.0 s.1 (boards_cut n f w.0 w.2)

pub cut_laws : CutLaws
cut_laws = record {
  files_covered = files_covered_lem;
  place_named = place_named_lem;
  cut_loads = cut_loads_lem;
  cut_covered = cut_covered_lem;
  cut_inside = cut_inside_lem;
  cut_answers = cut_answers_lem;
}
