-- After the last command of a file that loads: what the loop over commands leaves is what the rules say of a run.
--     loaded-left      totals, and the buffers
-- Assumes nothing.
use Rattle.tables.specs.declared.columns.Tables.{Tables}
use mathlib.Core.Path.{◌≡◌, refl, sym, ap, ◌∙◌}
use mathlib.Core.List.{List, [], ◌∷◌, ◌++◌, append_assoc}
use Prim.Native.Nat.{ℕ, zero, suc, ◌+◌, ◌*◌, ◌-◌, ◌≤◌}
use native.Mathlib.Omega.{arith}
use lib.ListN.{length, get_or, take, drop, replicate, length-replicate, length-append}
use lib.Seq.{sets, sets-eq}
use Rattle.rules.specs.declared.Entry.{Entry}
use Rattle.rules.specs.Limits.{file_limit, party_limit, row_width, term_limit, command_limit, state_bytes, register_bytes}
use Rattle.rules.specs.File.{File, Command}
use Rattle.rules.specs.Load.{load, loaded}
use Rattle.rules.specs.State.{State, start_registers, start}
use Rattle.rules.specs.Run.{run, outcomes, reached, outcomes_of, zeros, others, accepted, refusals, issued}
use Rattle.rules.specs.Lent.{Lent, row, rows, register_rows, first_part, no_entry, written}
use Rattle.theorems.proofs.Beside.{beside}
use Rattle.state.specs.View.{view}
use Rattle.state.proofs.Exact.{ZeroAt, whole, rows_length}
use Rattle.lookup.specs.Commands.{commands_from, commands_left}
use Rattle.lookup.proofs.Left.{first_commands_lem}
use Rattle.scan.specs.declared.Scanned.{Scanned}
use Rattle.loader.specs.Tabled.{Filled}
use Rattle.loaded.specs.Loaded.{file_in}
use Rattle.loaded.proofs.Filled.{file_is}
use Rattle.ledger.specs.Placed.{cleared}
use Rattle.ledger.proofs.Placed.{cleared_first}
use Rattle.turns.specs.declared.Progress.{Progress}
use Rattle.registers.specs.View.{registers_in}
use Rattle.registers.proofs.Bytes.{exact}
use Rattle.commands.specs.Standing.{state_in}
use Rattle.turns.specs.Turns.{given, Executes}
use Rattle.command_loop.specs.Recorded.{within}
use Rattle.engine.specs.Runs.{lent_with}
use Rattle.engine.proofs.Few.{few_outcomes}
use Rattle.engine.proofs.Ready.{state_start}

drop_cleared : (n k : ℕ) (rest : List ℕ) → k ≤ n → drop k (replicate n 0 ++ rest) ≡ replicate (n - k) 0 ++ rest
drop_cleared n zero rest h = let q : n ≡ n - 0 = omega arith in ap (λ (m : ℕ). replicate {A = ℕ} m 0 ++ rest) q
drop_cleared zero (suc k) rest h = absurd (omega (arith, h))
drop_cleared (suc n) (suc k) rest h = drop_cleared n k rest (omega (arith, h)) ∙ (let q : n - k ≡ suc n - suc k = omega arith in ap (λ (m : ℕ). replicate {A = ℕ} m 0 ++ rest) q)

-- stored into n cleared places, and what lies beyond them
sets_cleared : (n : ℕ) (xs rest : List ℕ) → length xs ≤ n → sets (replicate n 0 ++ rest) 0 xs ≡ xs ++ (replicate (n - length xs) 0 ++ rest)
sets_cleared n xs rest h =
    let q : 0 + length xs ≡ length xs = omega arith in
    sets-eq xs (replicate n 0 ++ rest) 0 (omega (arith, length-append (replicate {A = ℕ} n 0) rest, length-replicate {A = ℕ} n 0))
    ∙ ap (λ (k : ℕ). xs ++ drop k (replicate {A = ℕ} n 0 ++ rest)) q
    ∙ ap (λ (l : List ℕ). xs ++ l) (drop_cleared n (length xs) rest h)

-- a first part that is written whole
whole_part : (n : ℕ) (xs old : List ℕ) → length xs ≡ n → xs ++ drop n old ≡ first_part n 0 xs old
unfolding first_part
whole_part n xs old e = let z : n - length xs ≡ 0 = omega (arith, e) in ap (λ (k : ℕ). xs ++ (replicate k 0 ++ drop n old)) (sym z)

-- a row says nothing of registers
rows_beside : (registers : ℕ → ℕ → ℕ) (x : State) (t : ℕ) (places : List ℕ) → rows x t places ≡ rows (beside registers x) t places
unfolding rows row
rows_beside registers x t [] = refl
rows_beside registers x t (place ∷ places) = ap (λ (k : List ℕ). row x t place ++ k) (rows_beside registers x (suc t) places)

-- what a run of a file that loads leaves
pub record LoadedLeft (f : File) (n : ℕ) (lent after : Lent) (p : Progress) : Type 0 where
  pub accepted : p.accepted ≡ accepted f n
  pub refused : p.refused ≡ refusals f n
  pub issued : p.issued ≡ issued f n
  pub buffers : after ≡ written (rows (reached f n) 0 f.places) (reached f n).ledger (outcomes_of f n) (register_rows (reached f n).registers 0 party_limit) lent

pub split_at : (n : ℕ) (xs : List ℕ) → take n xs ++ drop n xs ≡ xs
split_at zero xs = refl
split_at (suc n) [] = refl
split_at (suc n) (x ∷ xs) = ap (λ (l : List ℕ). x ∷ l) (split_at n xs)

module _ (bs s out g s₁ g₁ s' g' : List ℕ) (l : List Entry) {out₁ : List ℕ} {tables₁ : Tables} {out' : List ℕ} {tables' : Tables} {l' : List Entry} {r : Scanned} {p : Progress} (w : Filled bs (take state_bytes s₁) tables₁ r)
    (started : registers_in (take register_bytes g₁) ≡ start_registers (file_in bs)) (n : ℕ)
    (x : Executes bs (within s₁ g₁) out₁ r.first n (cleared l term_limit) (within s' g') tables' out' l' p) (cleared-out : take command_limit out₁ ≡ replicate command_limit 0)
    (beyond : drop state_bytes s' ≡ drop state_bytes s) (out-beyond : drop command_limit out₁ ≡ drop command_limit out) (g-beyond : drop register_bytes g' ≡ drop register_bytes g)
    (short : length bs ≤ file_limit) (long : term_limit ≤ length l) where
  abbrev f : File
  f = file_in bs

  abbrev e : load bs ≡ loaded f
  e = x.stands.holds.loads

  abbrev first : ℕ
  first = commands_from (length bs) bs 0

  left_is : commands_left bs r.first n ≡ commands_left bs first n
  left_is = ap (λ (k : ℕ). commands_left bs k n) w.first_is

  begun_is : state_in (within s₁ g₁) [] ≡ start f
  begun_is = state_start w (take register_bytes g₁) started

  pub run_is : state_in (within s' g') x.entries ≡ reached f n
  unfolding reached
  run_is = x.state ∙ ap (run f (commands_left bs r.first n)) begun_is ∙ ap (λ (cs : List Command). run f cs (start f)) (left_is ∙ sym (first_commands_lem bs f e n))

  pub entries_are : x.entries ≡ (reached f n).ledger
  entries_are = ap (λ (y : State). y.ledger) run_is

  given_is : given bs r.first n (state_in (within s₁ g₁) []) ≡ outcomes_of f n
  unfolding outcomes_of
  given_is = ap (outcomes f (commands_left bs r.first n)) begun_is ∙ ap (λ (cs : List Command). outcomes f cs (start f)) (left_is ∙ sym (first_commands_lem bs f e n))

  accepted_is : p.accepted ≡ accepted f n
  unfolding accepted
  accepted_is = x.accepted ∙ ap zeros given_is

  refused_is : p.refused ≡ refusals f n
  unfolding refusals
  refused_is = x.refused ∙ ap others given_is

  issued_is : p.issued ≡ issued f n
  unfolding issued
  issued_is = sym x.stands.enters.count ∙ ap (λ (y : State). length y.ledger) run_is

  -- nothing is said beyond the terms
  zero_from : (u : ℕ) → length f.places ≤ u → ZeroAt (view (take state_bytes s')) u
  zero_from u h =
      let d = w.describes in
      let p : length f.places ≡ r.tally.terms = ap (λ (g : File). length g.places) (file_is w) ∙ d.places_are in
      let q : length f.terms ≡ r.tally.terms = ap (λ (g : File). length g.terms) (file_is w) ∙ d.terms_are in
      let b = x.stands.kept.blank u (omega arith) in
      (b.knows, b.table, b.mark, b.desk, b.request, ap (λ (g : ℕ → ℕ). g u) x.places ∙ d.place_beyond u (omega arith))

  state_is : take state_bytes s' ≡ rows (reached f n) 0 f.places ++ replicate (state_bytes - length (rows (reached f n) 0 f.places)) 0
  state_is =
      let d = w.describes in
      let p : length f.places ≡ r.tally.terms = ap (λ (g : File). length g.places) (file_is w) ∙ d.places_are in
      whole (take state_bytes s') f.places x.entries x.bytes.state x.stands.holds.room (omega (arith, d.there.few))
      (λ u h. ap (λ (g : ℕ → ℕ). g u) x.places ∙ d.place u (omega arith) ∙ ap (λ (g : File). get_or g.places u 0) (sym (file_is w))) zero_from
      ∙ ap (λ (k : List ℕ). k ++ replicate (state_bytes - row_width * length f.places) 0) (rows_beside (registers_in (take register_bytes g')) _ 0 f.places ∙ ap (λ (y : State). rows y 0 f.places) run_is)
      ∙ ap (λ (k : ℕ). rows (reached f n) 0 f.places ++ replicate (state_bytes - k) 0) (sym (rows_length (reached f n) 0 f.places))

  registers_are : take register_bytes g' ≡ register_rows (reached f n).registers 0 party_limit
  registers_are =
      sym (exact (take register_bytes g') x.stands.registers x.bytes.registers)
      ∙ ap (λ (y : State). register_rows y.registers 0 party_limit) run_is

  pub loaded_left : LoadedLeft f n (lent_with s l out g) (lent_with s' l' out' g') p
  unfolding written first_part
  loaded_left =
      let state =
      sym (split_at state_bytes s') ∙ ap (λ (y : List ℕ). y ++ drop state_bytes s') state_is
      ∙ append_assoc (rows (reached f n) 0 f.places) (replicate (state_bytes - length (rows (reached f n) 0 f.places)) 0) (drop state_bytes s')
      ∙ ap (λ (y : List ℕ). rows (reached f n) 0 f.places ++ (replicate (state_bytes - length (rows (reached f n) 0 f.places)) 0 ++ y)) beyond in
      let ledger =
      x.ledger ∙ cleared_first x.entries l term_limit long (omega (arith, x.stands.enters.few, x.stands.enters.count))
      ∙ ap (λ (es : List Entry). first_part term_limit no_entry es l) entries_are in
      let outcomes =
      x.outcomes ∙ ap (sets out₁ 0) given_is
      ∙ ap (λ (y : List ℕ). sets y 0 (outcomes_of f n)) (sym (split_at command_limit out₁) ∙ ap (λ (y : List ℕ). y ++ drop command_limit out₁) cleared-out)
      ∙ sets_cleared command_limit (outcomes_of f n) (drop command_limit out₁) (few_outcomes bs f e short n)
      ∙ ap (λ (y : List ℕ). outcomes_of f n ++ (replicate (command_limit - length (outcomes_of f n)) 0 ++ y)) out-beyond in
      let registers =
      sym (split_at register_bytes g') ∙ (λ j. registers_are j ++ g-beyond j)
      ∙ whole_part register_bytes (register_rows (reached f n).registers 0 party_limit) g (sym (ap length registers_are) ∙ x.stands.registers) in
      record {
        accepted = accepted_is;
        refused = refused_is;
        issued = issued_is;
        buffers = λ j. lent_with (state j) (ledger j) (outcomes j) (registers j);
      }
