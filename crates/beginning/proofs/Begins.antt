-- Before the first command, by its cases.
--     Room                           buffers that are long enough
--     too_long                       a file that is too long does not load
--     short_refuses, long_refuses    1 and 2
--     load_refuses                   3 to 12
--     fill_reads, fill_counts        what loading leaves is what registers are filled by
--     begins                         a file that loads
-- Assumes nothing.
use Rattle.tables.specs.declared.columns.Tables.{Tables}
use mathlib.Core.Path.{◌≡◌, refl, sym, ap, subst⁻¹, ◌∙◌}
use mathlib.Core.Bool.{Bool, true, false, ◌&&◌}
use mathlib.Core.List.{List, [], ◌∷◌, ◌++◌}
use Prim.Native.Nat.{ℕ, zero, suc, ◌-◌, ◌<◌, ◌≤◌}
use native.Mathlib.Omega.{arith}
use lib.Dec.{leb}
use lib.ListN.{length, drop, replicate}
use lib.Seq.{take_at, drop_at}
use borrow.Author.Tests.{le-leb, lt-leb, leb-true}
use Rattle.rules.specs.declared.Entry.{Entry}
use Rattle.rules.specs.declared.Refused.{Refused}
use Rattle.rules.specs.declared.Refusal.TheVariants.{BufferShort, FileLong}
use Rattle.rules.specs.Codes.{number_of}
use Rattle.rules.specs.Limits.{file_limit, term_limit, command_limit, state_bytes, register_bytes}
use Rattle.rules.specs.File.{File}
use Rattle.rules.specs.Load.{load, refused}
use Rattle.rules.specs.State.{start_registers}
use Rattle.rules.specs.Lent.{first_part, long_enough, answered, leaves, written, run_answer, run_leaves}
use Rattle.theorems.proofs.Booleans.{and_true}
use Rattle.state.proofs.Exact.{Bytes}
use Rattle.ledger.specs.Placed.{cleared}
use Rattle.ledger.proofs.Placed.{cleared_first}
use Rattle.scan.specs.declared.Scanned.{Scanned}
use Rattle.loader.specs.Tabled.{Filled}
use Rattle.loaded.specs.Loaded.{file_in, Reads}
use Rattle.loaded.proofs.Standing.{reads_here}
use Rattle.loaded.proofs.Filled.{file_is, filled_holds, filled_finds}
use Rattle.registers.specs.View.{registers_in}
use Rattle.beginning.specs.Begins.{lent_with, begun_by, Begins, Refuses}

-- the test of the lengths
pub record Room (s : List ℕ) (l : List Entry) (out g : List ℕ) : Type 0 where
  pub state : state_bytes ≤ length s
  pub ledger : term_limit ≤ length l
  pub outcomes : command_limit ≤ length out
  pub registers : register_bytes ≤ length g

pub enough_room : (s : List ℕ) (l : List Entry) (out g : List ℕ) → long_enough (lent_with s l out g) ≡ true → Room s l out g
unfolding long_enough
enough_room s l out g e =
    let three = and_true (leb state_bytes (length s) && leb term_limit (length l) && leb command_limit (length out)) (leb register_bytes (length g)) e in
    let two = and_true (leb state_bytes (length s) && leb term_limit (length l)) (leb command_limit (length out)) three.0 in
    let one = and_true (leb state_bytes (length s)) (leb term_limit (length l)) two.0 in
    record { state = leb-true state_bytes (length s) one.0; ledger = leb-true term_limit (length l) one.1; outcomes = leb-true command_limit (length out) two.1; registers = leb-true register_bytes (length g) three.1 }

pub room_enough : {s : List ℕ} {l : List Entry} {out g : List ℕ} → Room s l out g → long_enough (lent_with s l out g) ≡ true
unfolding long_enough
room_enough {s} {l} {out} {g} w =
    rw (le-leb state_bytes (length s) w.state, le-leb term_limit (length l) w.ledger, le-leb command_limit (length out) w.outcomes, le-leb register_bytes (length g) w.registers) refl

no_room : {s : List ℕ} {l : List Entry} {out g : List ℕ} → (Room s l out g → ⊥) → long_enough (lent_with s l out g) ≡ false
no_room {s} {l} {out} {g} h = go (long_enough (lent_with s l out g)) refl
  where
    go : (b : Bool) → long_enough (lent_with s l out g) ≡ b → b ≡ false
    go true e = absurd (h (enough_room s l out g e))
    go false e = refl

pub too_long : (bs : List ℕ) → file_limit < length bs → load bs ≡ refused 2 0
unfolding load
too_long bs h = rw (lt-leb (length bs) file_limit h) refl

-- a buffer whose first part is cleared
part_none : (m : ℕ) (xs : List ℕ) → replicate m 0 ++ drop m xs ≡ first_part m 0 [] xs
unfolding first_part
part_none m xs = let e : m ≡ m - 0 = omega arith in ap (λ (k : ℕ). replicate k 0 ++ drop m xs) e

bytes_front : (xs ys : List ℕ) → Bytes (xs ++ ys) → Bytes xs
bytes_front [] ys h i = omega arith
bytes_front (x ∷ xs) ys h zero = h zero
bytes_front (x ∷ xs) ys h (suc i) = bytes_front xs ys (λ j. h (suc j)) i

module _ (bs s : List ℕ) (l : List Entry) (out g : List ℕ) where
  pub short_refuses : (Room s l out g → ⊥) → Refuses bs (lent_with s l out g) (lent_with s l out g) (record { refusal = BufferShort; place = 0 })
  unfolding run_answer run_leaves
  short_refuses h = let e = no_room h in record { answer = λ n. rw e refl; buffers = λ n. rw e refl }

  pub long_refuses : Room s l out g → file_limit < length bs → Refuses bs (lent_with s l out g) (lent_with s l out g) (record { refusal = FileLong; place = 0 })
  unfolding run_answer run_leaves answered
  long_refuses w h = let e = room_enough w in record { answer = λ n. rw (e, too_long bs h) refl; buffers = λ n. rw (e, lt-leb (length bs) file_limit h) refl }

  pub load_refuses : (s' out' g' : List ℕ) {l' : List Entry} (e : Refused) → Room s l out g → length bs ≤ file_limit → load bs ≡ refused (number_of e.refusal) e.place
      → s' ≡ replicate state_bytes 0 → l' ≡ cleared l term_limit → out' ≡ replicate command_limit 0 → g' ≡ replicate register_bytes 0
      → Refuses bs (lent_with s l out g) (lent_with (s' ++ drop state_bytes s) l' (out' ++ drop command_limit out) (g' ++ drop register_bytes g)) e
  unfolding run_answer run_leaves answered leaves written
  load_refuses s' out' g' e w h loads zs zl zo zg =
      let r = room_enough w in
      let state = ap (λ (x : List ℕ). x ++ drop state_bytes s) zs ∙ part_none state_bytes s in
      let ledger = zl ∙ cleared_first [] l term_limit w.ledger (omega arith) in
      let outcomes = ap (λ (x : List ℕ). x ++ drop command_limit out) zo ∙ part_none command_limit out in
      let registers = ap (λ (x : List ℕ). x ++ drop register_bytes g) zg ∙ part_none register_bytes g in
      record {
        answer = λ n. rw (r, loads) refl;
        buffers = λ n. (λ j. lent_with (state j) (ledger j) (outcomes j) (registers j)) ∙ rw (r, le-leb (length bs) file_limit h, loads) refl;
      }

  pub begins : (s' out' g' : List ℕ) {l' : List Entry} {tables : Tables} {r : Scanned} → Room s l out g → length bs ≤ file_limit → length s' ≡ state_bytes → length g' ≡ register_bytes → Filled bs s' tables r
      → l' ≡ cleared l term_limit → out' ≡ replicate command_limit 0 → length out' ≡ command_limit → registers_in g' ≡ start_registers (file_in bs) → Bytes (s' ++ drop state_bytes s) → Bytes g'
      → Begins bs (lent_with s l out g) (lent_with (s' ++ drop state_bytes s) l' (out' ++ drop command_limit out) (g' ++ drop register_bytes g)) tables (begun_by r)
  begins s' out' g' {l'} {tables} {r} w h ls lg v zl zo lo started bytes registers_bytes =
      let ts = take_at s' (drop state_bytes s) state_bytes ls in
      let tg = take_at g' (drop register_bytes g) register_bytes lg in
      record {
        enough = room_enough w;
        short = h;
        scanned = r;
        filled = subst⁻¹ (λ (x : List ℕ). Filled bs x tables r) ts v;
        begun = refl;
        ledger = zl;
        outcomes = take_at out' (drop command_limit out) command_limit lo ∙ zo;
        registers = ap registers_in tg ∙ started;
        bytes = subst⁻¹ Bytes ts (bytes_front s' (drop state_bytes s) bytes);
        registers_bytes = subst⁻¹ Bytes tg registers_bytes;
        beyond = drop_at s' (drop state_bytes s) state_bytes ls;
        beyond_outcomes = drop_at out' (drop command_limit out) command_limit lo;
        beyond_registers = drop_at g' (drop register_bytes g) register_bytes lg;
      }

-- what loading leaves is what registers are filled by
pub fill_reads : {bs s : List ℕ} {tables : Tables} {r : Scanned} → Filled bs s tables r → length s ≡ state_bytes → Reads bs tables
fill_reads w room = reads_here (filled_holds w room) (filled_finds w)

pub fill_counts : {bs s : List ℕ} {tables : Tables} {r : Scanned} → Filled bs s tables r → (r.tally.parties ≡ length (file_in bs).roles) × (r.tally.terms ≡ length (file_in bs).terms)
fill_counts w = (sym w.describes.parties_are ∙ ap (λ (f : File). length f.roles) (sym (file_is w)), sym w.describes.terms_are ∙ ap (λ (f : File). length f.terms) (sym (file_is w)))
