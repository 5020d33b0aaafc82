-- What the description of a whole file says of the state bytes and of the answer: they are those of loading.
--     final_state                                                the state bytes of a described whole file
--     final_leaves, refused_leaves, short_leaves, long_leaves    the buffer after loading
--     final_answer, refused_answer, short_answer, long_answer    the answer
--     inside_lower                                               what lies inside a term is not higher
--     unknown, unheld                                            at the start only a declared term is known, or in a table
-- Assumes nothing.
use mathlib.Core.Path.{◌≡◌, refl, sym, ap, ◌∙◌}
use mathlib.Core.Bool.{Bool, true, false, cond, ◌&&◌}
use mathlib.Core.List.{List, [], ◌∷◌, ◌++◌, Memᴰ, append_assoc}
use Prim.Native.Nat.{ℕ, ◌*◌, ◌-◌, ◌<◌, ◌≤◌}
use native.Mathlib.Omega.{arith}
use lib.Dec.{leb}
use lib.ListN.{get_or, length, drop, replicate}
use borrow.Author.Tests.{le-leb, lt-leb}
use Rattle.std.proofs.Common.{Ok, Err}
use Rattle.rules.specs.declared.Refusal.TheVariants.{BufferShort, FileLong}
use Rattle.rules.specs.declared.Refused.{Refused}
use Rattle.rules.specs.Codes.{number_of}
use Rattle.rules.specs.Limits.{file_limit, term_limit, row_width, state_bytes}
use Rattle.rules.specs.File.{File, parts, holds_key}
use Rattle.rules.specs.Load.{Load, load, loaded, refused}
use Rattle.rules.specs.State.{start, taught}
use Rattle.rules.specs.Lent.{success, in_numbers, load_in_numbers, rows, first_part, load_answered, load_answer, load_written, load_leaves}
use Rattle.theorems.specs.Residency.{Inside, itself, in_part}
use Rattle.theorems.proofs.Learning.{taught_only}
use Rattle.theorems.proofs.Loading.{Checked, checked}
use Rattle.theorems.proofs.Terms.{holds_given, private_declared}
use Rattle.state.specs.View.{view}
use Rattle.state.proofs.Exact.{state_of, ZeroAt, whole, rows_length, rows_same}
use Rattle.scan.specs.declared.Tally.{Tally}
use Rattle.scan.specs.Describes.{Describes}
use Rattle.scan.proofs.Entering.{learnt_declared}

pub never_true : (b : Bool) → (b ≡ true → ⊥) → b ≡ false
never_true true h = absurd (h refl)
never_true false h = refl

-- what lies inside a term is not higher
pub inside_lower : (f : File) → ((t u : ℕ) → Memᴰ u (parts f t) → u < t) → {t u : ℕ} → Inside f t u → u ≤ t
inside_lower f low itself = omega arith
inside_lower f low (in_part {t = t} {u = v} m i) = omega (arith, low t v m, inside_lower f low i)

-- no term but a declared one is known, or in a table
module _ (f : File) (c : Checked f) (p t : ℕ) (beyond : length f.terms ≤ t) where
  pub unknown : taught f f.setup p t ≡ false
  unknown = never_true (taught f f.setup p t) (λ e. let (u, m, i) = taught_only f f.setup p t e in omega (arith, learnt_declared f c p u m, inside_lower f c.lower i))

  pub unheld : holds_key f p t ≡ false
  unheld = never_true (holds_key f p t) (λ e. omega (arith, private_declared f t (c.holds_kind p t (holds_given f p t e))))

-- the rows of the columns are those of the state, and fill as much
rows_of : (m k : ℕ) (s old new : List ℕ) → s ≡ old ++ replicate (m - k) 0 → old ≡ new → length new ≡ k → s ≡ new ++ replicate (m - length new) 0
rows_of m k s old new e d l = e ∙ ap (λ (x : List ℕ). x ++ replicate (m - k) 0) d ∙ ap (λ (x : ℕ). new ++ replicate (m - x) 0) (sym l)

module _ (bytes : List ℕ) (f : File) (s : List ℕ) (signers : ℕ → ℕ) (n : Tally) (e : load bytes ≡ loaded f) (d : Describes f bytes s signers n (length bytes)) where
  zero_from : (t : ℕ) → length f.places ≤ t → ZeroAt (view s) t
  zero_from t h =
      let a = d.terms_are in
      let b = d.places_are in
      let c = checked bytes f e in (
        (λ p. ap (λ (k : ℕ → ℕ → Bool). k p t) d.knows ∙ unknown f c p t (omega arith)),
        (λ p. ap (λ (k : ℕ → ℕ → Bool). k p t) d.table ∙ unheld f c p t (omega arith)),
        d.mark t,
        d.desk t,
        d.request t,
        d.place_beyond t (omega arith),
      )

  same_rows : rows (state_of (view s) []) 0 f.places ≡ rows (start f) 0 f.places
  unfolding start
  same_rows = rows_same (state_of (view s) []) (start f) d.knows d.table (λ i t. d.mark t i) (λ i t. d.desk t i) (λ i t. d.request t i) 0 f.places

  few_places : length f.places ≤ term_limit
  few_places = omega (arith, d.places_are, d.there.few)

  -- the state bytes of a described whole file are those that loading leaves
  pub final_state : length s ≡ state_bytes → ((i : ℕ) → get_or s i 0 < 256) → s ≡ rows (start f) 0 f.places ++ replicate (state_bytes - length (rows (start f) 0 f.places)) 0
  final_state l b =
      rows_of state_bytes (row_width * length f.places) s (rows (state_of (view s) []) 0 f.places) (rows (start f) 0 f.places)
      (whole s f.places [] b l few_places (λ t h. d.place t (omega (arith, d.places_are))) zero_from)
      same_rows (rows_length (start f) 0 f.places)

-- the first part and what lies beyond it
first_filled : (m : ℕ) (s new old : List ℕ) → s ≡ new ++ replicate (m - length new) 0 → s ++ drop m old ≡ first_part m 0 new old
unfolding first_part
first_filled m s new old e = ap (λ (x : List ℕ). x ++ drop m old) e ∙ append_assoc new (replicate (m - length new) 0) (drop m old)

first_empty : (m : ℕ) (old : List ℕ) → replicate m 0 ++ drop m old ≡ first_part m 0 [] old
unfolding first_part
first_empty m old = let e : m ≡ m - 0 = omega arith in ap (λ (x : ℕ). replicate x 0 ++ drop m old) e

-- what loading leaves where the buffer is long enough and the file is not too long
pub both_pass {ℓ} : {A : Type ℓ} (a b : Bool) (x y : A) → a ≡ true → b ≡ true → cond (a && b) x y ≡ x
both_pass a b x y p q = rw (p, q) refl

leaves_written : (bytes old : List ℕ) (l : Load) → load bytes ≡ l → state_bytes ≤ length old → length bytes ≤ file_limit → load_leaves bytes old ≡ load_written old l
unfolding load_leaves
leaves_written bytes old l e r h =
    both_pass (leb state_bytes (length old)) (leb (length bytes) file_limit) (load_written old (load bytes)) old (le-leb state_bytes (length old) r) (le-leb (length bytes) file_limit h)
    ∙ ap (load_written old) e

written_loaded : (old : List ℕ) (f : File) → load_written old (loaded f) ≡ first_part state_bytes 0 (rows (start f) 0 f.places) old
unfolding load_written
written_loaded old f = refl

written_refused : (old : List ℕ) (r at : ℕ) → load_written old (refused r at) ≡ first_part state_bytes 0 [] old
unfolding load_written
written_refused old r at = refl

pub final_leaves : (bytes : List ℕ) (f : File) (s : List ℕ) (signers : ℕ → ℕ) (n : Tally) → load bytes ≡ loaded f → Describes f bytes s signers n (length bytes) → length s ≡ state_bytes → ((i : ℕ) → get_or s i 0 < 256)
    → (old : List ℕ) → state_bytes ≤ length old → length bytes ≤ file_limit → s ++ drop state_bytes old ≡ load_leaves bytes old
final_leaves bytes f s signers n e d l b old r h =
    first_filled state_bytes s (rows (start f) 0 f.places) old (final_state bytes f s signers n e d l b)
    ∙ sym (written_loaded old f) ∙ sym (leaves_written bytes old (loaded f) e r h)

pub refused_leaves : (bytes old : List ℕ) (r at : ℕ) → load bytes ≡ refused r at → state_bytes ≤ length old → length bytes ≤ file_limit → replicate state_bytes 0 ++ drop state_bytes old ≡ load_leaves bytes old
refused_leaves bytes old r at e room h = first_empty state_bytes old ∙ sym (written_refused old r at) ∙ sym (leaves_written bytes old (refused r at) e room h)

-- 1, 2: the buffer is untouched
pub short_leaves : (bytes old : List ℕ) → length old < state_bytes → load_leaves bytes old ≡ old
unfolding load_leaves
short_leaves bytes old h = rw (lt-leb state_bytes (length old) h) refl

pub one_fails {ℓ} : {A : Type ℓ} (a b : Bool) (x y : A) → b ≡ false → cond (a && b) x y ≡ y
one_fails true b x y e = rw e refl
one_fails false b x y e = refl

pub long_leaves : (bytes old : List ℕ) → file_limit < length bytes → load_leaves bytes old ≡ old
unfolding load_leaves
long_leaves bytes old h = one_fails (leb state_bytes (length old)) (leb (length bytes) file_limit) (load_written old (load bytes)) old (lt-leb (length bytes) file_limit h)

-- the answer
answer_of_lem : (bytes old : List ℕ) (l : Load) → load bytes ≡ l → state_bytes ≤ length old → load_answer bytes old ≡ load_answered l
unfolding load_answer
answer_of_lem bytes old l e r = rw (le-leb state_bytes (length old) r, e) refl

pub final_answer : (bytes : List ℕ) (f : File) (s : List ℕ) (signers : ℕ → ℕ) (n : Tally) → load bytes ≡ loaded f → Describes f bytes s signers n (length bytes)
    → (old : List ℕ) → state_bytes ≤ length old → load_in_numbers (Ok (record { parties = n.parties; terms = n.terms; commands = n.commands })) ≡ load_answer bytes old
unfolding load_answered in_numbers
final_answer bytes f s signers n e d old r =
    sym (λ i. success (d.parties_are i ∷ d.terms_are i ∷ d.commands_are i ∷ [])) ∙ sym (answer_of_lem bytes old (loaded f) e r)

pub refused_answer : (bytes old : List ℕ) (r : Refused) → load bytes ≡ refused (number_of r.refusal) r.place → state_bytes ≤ length old → load_in_numbers (Err r) ≡ load_answer bytes old
unfolding load_answered in_numbers
refused_answer bytes old r e room = sym (answer_of_lem bytes old (refused (number_of r.refusal) r.place) e room)

pub short_answer : (bytes old : List ℕ) → length old < state_bytes → load_in_numbers (Err (record { refusal = BufferShort; place = 0 })) ≡ load_answer bytes old
unfolding load_answer in_numbers
short_answer bytes old h = rw (lt-leb state_bytes (length old) h) refl

too_long : (bytes : List ℕ) → file_limit < length bytes → load bytes ≡ refused 2 0
unfolding load
too_long bytes h = rw (lt-leb (length bytes) file_limit h) refl

pub long_answer : (bytes old : List ℕ) → state_bytes ≤ length old → file_limit < length bytes → load_in_numbers (Err (record { refusal = FileLong; place = 0 })) ≡ load_answer bytes old
long_answer bytes old r h = refused_answer bytes old (record { refusal = FileLong; place = 0 }) (too_long bytes h) r
