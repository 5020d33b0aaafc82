-- Before the first command: what is found is what the loop over commands starts from.
--     state_start        the rules' state at the start
--     commands_ready     the loop may start
-- Assumes nothing.
use Rattle.tables.specs.declared.columns.Tables.{Tables}
use mathlib.Core.Path.{◌≡◌, refl, sym, ap, subst⁻¹, ◌∙◌}
use mathlib.Core.List.{List, []}
use Prim.Native.Nat.{ℕ, ◌≤◌}
use native.Mathlib.Omega.{arith}
use lib.ListN.{length, take}
use lib.Seq.{length-take-le}
use Rattle.rules.specs.Limits.{file_limit, term_limit, command_limit, state_bytes, register_bytes}
use Rattle.rules.specs.Lent.{Lent}
use Rattle.rules.specs.State.{start_registers, start, depth_of}
use Rattle.theorems.proofs.Loading.{Wellformed, checked}
use Rattle.state.proofs.Exact.{Bytes}
use Rattle.registers.specs.View.{registers_in}
use Rattle.tables.specs.Columns.{Unlinked, tables_in}
use Rattle.lookup.specs.Commands.{Commands}
use Rattle.lookup.proofs.Left.{commands_wellformed}
use Rattle.scan.specs.declared.Scanned.{Scanned}
use Rattle.loader.specs.Tabled.{Filled}
use Rattle.loaded.specs.Loaded.{file_in}
use Rattle.loaded.specs.Entries.{entry_from, Enters}
use Rattle.loaded.proofs.Boards.{boarded_none}
use Rattle.loaded.proofs.Filled.{file_is, filled_holds, filled_finds}
use Rattle.commands.specs.Standing.{memory, state_in, Kept, Stands}
use Rattle.commands.proofs.Keeping.{kept_start}
use Rattle.turns.specs.declared.Begun.{Begun}
use Rattle.turns.specs.Turns.{RunReady}
use Rattle.ledger.proofs.Placed.{length_cleared}
use Rattle.beginning.specs.Begins.{Begins}
use Rattle.beginning.proofs.Begins.{enough_room}
use Rattle.command_loop.specs.Recorded.{within, CommandsReady}

none_entered : (c : ℕ) → 0 ≡ entry_from 0 [] c
unfolding entry_from
none_entered c = refl

none_deep : (c : ℕ) → 0 ≡ depth_of [] c
unfolding depth_of
none_deep c = refl

-- no entries
enters_none : (tables : Tables) → ((c : ℕ) → (tables_in tables).entry c ≡ 0) → ((c : ℕ) → (tables_in tables).depth c ≡ 0) → Unlinked (tables_in tables).boards → Enters tables 0 []
enters_none tables e d u = record {
  few = omega arith;
  count = refl;
  place = λ c. e c ∙ none_entered c;
  depth = λ c. d c ∙ none_deep c;
  falls = record { newest = λ i. omega (arith, u.newest i); earlier = λ i. omega (arith, u.earlier i) };
}

module _ {bs s : List ℕ} {tables : Tables} {r : Scanned} (w : Filled bs s tables r) where
  module _ (g : List ℕ) (started : registers_in g ≡ start_registers (file_in bs)) where
    pub state_start : state_in (memory s g) [] ≡ start (file_in bs)
    unfolding start
    state_start =
        let d = w.describes in
        let f = file_is w in
        let shows = started ∙ ap start_registers f in
        (λ i. record { knows = d.knows i; table = d.table i; mark = λ t. d.mark t i; desk = λ t. d.desk t i; request = λ t. d.request t i; registers = shows i; ledger = [] })
        ∙ ap start (sym f)

    stands_start : length s ≡ state_bytes → length g ≡ register_bytes → Stands bs (memory s g) tables 0 []
    stands_start room long =
        let h = filled_holds w room in
        record {
          holds = h;
          finds = filled_finds w;
          enters = enters_none tables w.tabled.entry w.tabled.depth w.tabled.unlinked;
          boards = boarded_none (file_in bs) (tables_in tables).boards w.tabled.unlinked;
          kept = subst⁻¹ (Kept (file_in bs)) state_start (kept_start (checked bs (file_in bs) h.loads));
          registers = long;
        }

    ready : length bs ≤ file_limit → length s ≡ state_bytes → Bytes s → length g ≡ register_bytes → Bytes g → (out : List ℕ) → command_limit ≤ length out → RunReady bs (memory s g) tables out r.first
    ready short room bytes shown registers out long = record {
      stands = stands_start room shown;
      bytes = record { state = bytes; registers = registers };
      short = short;
      places = long;
      commands = subst⁻¹ (Commands (Wellformed (file_in bs)) bs) w.first_is (commands_wellformed bs (file_in bs) (filled_holds w room).loads);
    }

module _ {bs : List ℕ} {lent after : Lent} {tables : Tables} {b : Begun} (w : Begins bs lent after tables b) where
  pub commands_ready : length after.state ≡ length lent.state → length after.outcomes ≡ length lent.outcomes → length after.registers ≡ length lent.registers
      → CommandsReady bs after.state after.ledger after.outcomes after.registers tables b
  commands_ready ls lo lg =
      let room = enough_room lent.state lent.ledger lent.outcomes lent.registers w.enough in
      let long : state_bytes ≤ length after.state = omega (arith, ls, room.state) in
      let shown : register_bytes ≤ length after.registers = omega (arith, lg, room.registers) in
      record {
        ready = subst⁻¹ (λ (x : Begun). RunReady bs (within after.state after.registers) tables after.outcomes x.first) w.begun
            (ready w.filled (take register_bytes after.registers) w.registers w.short (length-take-le state_bytes after.state long) w.bytes (length-take-le register_bytes after.registers shown) w.registers_bytes after.outcomes
            (omega (arith, lo, room.outcomes)));
        room = long;
        registers = shown;
        long = omega (arith, ap length w.ledger, length_cleared lent.ledger term_limit, room.ledger);
      }
