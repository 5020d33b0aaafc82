-- A run: what is found before the first command and what the loop over commands leaves is what the rules say.
--     run_refused    a refusal
--     run_left       the answer and the buffers after the loop
--     run_stood      what calls above it start from
-- Assumes nothing.
use Rattle.tables.specs.declared.columns.Tables.{Tables}
use mathlib.Core.Path.{◌≡◌, refl, sym, ap, subst, ◌∙◌}
use mathlib.Core.Bool.{true}
use mathlib.Core.List.{List, [], ◌∷◌}
use Prim.Native.Nat.{ℕ}
use native.Mathlib.Omega.{arith}
use lib.Dec.{leb}
use lib.ListN.{length}
use borrow.Author.Tests.{le-leb}
use Rattle.std.specs.Prelude.{Ok, Err}
use Rattle.rules.specs.declared.Entry.{Entry}
use Rattle.rules.specs.declared.Refused.{Refused}
use Rattle.rules.specs.Limits.{file_limit, party_limit, term_limit}
use Rattle.rules.specs.File.{File}
use Rattle.rules.specs.Load.{load, loaded}
use Rattle.rules.specs.Run.{reached, outcomes_of, accepted, refusals, issued}
use Rattle.rules.specs.Lent.{success, in_numbers, rows, register_rows, Lent, no_entry, first_part, written, leaves, long_enough, answered, run_answer, run_leaves}
use Rattle.loaded.specs.Loaded.{file_in}
use Rattle.ledger.specs.Placed.{cleared}
use Rattle.commands.specs.Standing.{state_in, Stands}
use Rattle.turns.specs.declared.Begun.{Begun}
use Rattle.turns.specs.declared.Progress.{Progress}
use Rattle.turns.specs.Turns.{Executes}
use Rattle.beginning.specs.Begins.{Begins, Refuses}
use Rattle.beginning.proofs.Begins.{Room, enough_room, fill_counts}
use Rattle.command_loop.specs.Recorded.{within, Recorded}
use Rattle.engine.specs.Raw.{Ran, Stood}
use Rattle.engine.proofs.Few.{few_counted}
use Rattle.engine.proofs.Ended.{run_is, entries_are, LoadedLeft, loaded_left}

module _ (bs : List ℕ) (n : ℕ) (lent : Lent) where
  long_answer : long_enough lent ≡ true → run_answer bs n lent ≡ answered n (load bs)
  unfolding run_answer
  long_answer e = rw e refl

  long_leaves : long_enough lent ≡ true → leb (length bs) file_limit ≡ true → run_leaves bs n lent ≡ leaves n lent (load bs)
  unfolding run_leaves
  long_leaves e h = rw (e, h) refl

answered_loaded : (n : ℕ) (f : File) → answered n (loaded f) ≡ success (accepted f n ∷ refusals f n ∷ issued f n ∷ [])
unfolding answered
answered_loaded n f = refl

loaded_parts : (n : ℕ) (f : File) (lent : Lent)
    → leaves n lent (loaded f) ≡ written (rows (reached f n) 0 f.places) (reached f n).ledger (outcomes_of f n) (register_rows (reached f n).registers 0 party_limit) lent
unfolding leaves
loaded_parts n f lent = refl

loaded_ledger : (n : ℕ) (f : File) (lent : Lent) → (written (rows (reached f n) 0 f.places) (reached f n).ledger (outcomes_of f n) (register_rows (reached f n).registers 0 party_limit) lent).ledger ≡ first_part term_limit no_entry (reached f n).ledger lent.ledger
unfolding written
loaded_ledger n f lent = refl

pub run_refused : {bs : List ℕ} (n : ℕ) {lent after : Lent} (e : Refused) → Refuses bs lent after e → Ran bs n lent after (Err e)
unfolding in_numbers
run_refused n e w = record { answer = sym (w.answer n); buffers = w.buffers n }

module _ {bs : List ℕ} {n : ℕ} (lent between after : Lent) {tables' tables : Tables} {b : Begun} {p : Progress} (w : Begins bs lent between tables' b)
    (recorded : Recorded bs between.state between.ledger between.outcomes between.registers b n after.state after.ledger after.outcomes after.registers tables p) where
  abbrev room : Room lent.state lent.ledger lent.outcomes lent.registers
  room = enough_room lent.state lent.ledger lent.outcomes lent.registers w.enough

  ran : Executes bs (within between.state between.registers) between.outcomes w.scanned.first n (cleared lent.ledger term_limit) (within after.state after.registers) tables after.outcomes after.ledger p
  ran =
      subst (λ (l : List Entry). Executes bs (within between.state between.registers) between.outcomes w.scanned.first n l (within after.state after.registers) tables after.outcomes after.ledger p) w.ledger
      (subst (λ (x : Begun). Executes bs (within between.state between.registers) between.outcomes x.first n between.ledger (within after.state after.registers) tables after.outcomes after.ledger p) w.begun recorded.runs)

  left : LoadedLeft (file_in bs) n lent after p
  left = loaded_left bs lent.state lent.outcomes lent.registers between.state between.registers after.state after.registers lent.ledger w.filled w.registers n ran w.outcomes (recorded.beyond ∙ w.beyond) w.beyond_outcomes (recorded.beyond_registers ∙ w.beyond_registers) w.short room.ledger

  run_here : state_in (within after.state after.registers) ran.entries ≡ reached (file_in bs) n
  run_here = run_is bs lent.state lent.outcomes lent.registers between.state between.registers after.state after.registers lent.ledger w.filled w.registers n ran w.outcomes (recorded.beyond ∙ w.beyond) w.beyond_outcomes (recorded.beyond_registers ∙ w.beyond_registers) w.short room.ledger

  entries_here : ran.entries ≡ (reached (file_in bs) n).ledger
  entries_here = entries_are bs lent.state lent.outcomes lent.registers between.state between.registers after.state after.registers lent.ledger w.filled w.registers n ran w.outcomes (recorded.beyond ∙ w.beyond) w.beyond_outcomes (recorded.beyond_registers ∙ w.beyond_registers) w.short room.ledger

  loads_here : load bs ≡ loaded (file_in bs)
  loads_here = ran.stands.holds.loads

  pub run_left : Ran bs n lent after (Ok (record { begun = b; progress = p }))
  unfolding in_numbers
  run_left = record {
    answer =
        (λ j. success (left.accepted j ∷ left.refused j ∷ left.issued j ∷ []))
        ∙ sym (long_answer bs n lent w.enough ∙ ap (answered n) loads_here ∙ answered_loaded n (file_in bs));
    buffers = left.buffers ∙ sym (long_leaves bs n lent w.enough (le-leb (length bs) file_limit w.short) ∙ ap (leaves n lent) loads_here ∙ loaded_parts n (file_in bs) lent);
  }

  pub run_stood : length after.state ≡ length lent.state → Stood bs n lent after tables (record { begun = b; progress = p })
  run_stood ls =
      let counts = fill_counts w.filled in
      record {
        stands = subst (λ (k : List Entry). Stands bs (within after.state after.registers) tables p.issued k) entries_here ran.stands;
        state = ap (state_in (within after.state after.registers)) (sym entries_here) ∙ run_here;
        parties_are = ap (λ (x : Begun). x.parties) w.begun ∙ counts.0;
        terms_are = ap (λ (x : Begun). x.terms) w.begun ∙ counts.1;
        first_is = ap (λ (x : Begun). x.first) w.begun ∙ w.filled.first_is;
        enough = w.enough;
        ledger = ap (λ (u : Lent). u.ledger) left.buffers ∙ loaded_ledger n (file_in bs) lent;
        long = room.ledger;
        room = omega (arith, ls, room.state);
        accepted = left.accepted;
        refused = left.refused;
        issued = left.issued;
        few = omega (arith, few_counted bs (file_in bs) loads_here w.short n, left.accepted, left.refused);
      }
