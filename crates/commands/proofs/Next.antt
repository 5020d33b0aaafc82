-- What a command at a place does: where it is refused, and where a device's or a desk's is accepted.
--     desk-range, desk-here, desk-not-below, desk-not-above    the kinds of desk commands, and the others
--     desk-registerless, plain-registerless    commands that look at no register
--     open-requested, ledgered, some-ledger, desk-decided, desk-ready    what a desk command asks for and decides
--     on-accepted, on-refused     what a result says by its number
--     refused-does, device-done, plain_done, desk-does    what is left, and that it stands
-- Assumes nothing.
use Rattle.tables.specs.declared.columns.Tables.{Tables}
use mathlib.Core.Path.{◌≡◌, refl, sym, ap, subst, subst⁻¹, ◌∙◌}
use mathlib.Core.Bool.{Bool, true, false, false≢true}
use mathlib.Core.List.{List, ◌++◌}
use Prim.Native.Nat.{ℕ, ◌+◌, ◌<◌, ◌≤◌}
use native.Mathlib.Decide.{ℕ_discrete}
use native.Mathlib.Omega.{arith}
use lib.Dec.{ltb}
use lib.ListN.{length, take, drop}
use borrow.Author.Tests.{ltb-true, lt-ltb}
use Rattle.std.specs.Prelude.{Result, Ok, Err, OnOk, OnErr}
use Rattle.rules.specs.declared.Entry.{Entry}
use Rattle.rules.specs.declared.Refusal.{Refusal}
use Rattle.rules.specs.Codes.{number_in}
use Rattle.rules.specs.Limits.{empty_field}
use Rattle.rules.specs.Record.{body_length}
use Rattle.rules.specs.Load.{command_at}
use Rattle.rules.specs.State.{State}
use Rattle.rules.specs.Desk.{parent_certificate_of}
use Rattle.rules.specs.Run.{outcome, after}
use Rattle.theorems.proofs.Booleans.{and_true}
use Rattle.theorems.proofs.Loading.{Wellformed}
use Rattle.theorems.proofs.LoadingFields.{each}
use Rattle.theorems.proofs.Beside.{beside, Registerless, outcome_beside, effect_beside, invariant_beside}
use Rattle.theorems.proofs.Invariant.{Invariant}
use Rattle.theorems.proofs.Reaching.{empty_shown}
use Rattle.theorems.proofs.Running.{after_accepted, after_refused}
use Rattle.theorems.proofs.Requests.{parent_listed}
use Rattle.state.specs.View.{view}
use Rattle.state.proofs.Exact.{state_of}
use Rattle.tables.specs.Columns.{tables_in}
use Rattle.learning.specs.There.{kind_there}
use Rattle.lookup.specs.There.{command_there}
use Rattle.lookup.specs.Commands.{CommandAt}
use Rattle.registers.specs.View.{registers_in}
use Rattle.lookup.proofs.Left.{command_range}
use Rattle.loaded.specs.Loaded.{file_in, Finds, Leaves, LeavesBeside}
use Rattle.loaded.specs.Entries.{Enters, Boarded, Ledgered, Accepts, DeskLeaves}
use Rattle.loaded.proofs.Standing.{checked_here, holds_kept}
use Rattle.loaded.proofs.Noted.{finds_kept}
use Rattle.loaded.proofs.Ledger.{column_some}
use Rattle.requests.specs.Formed.{OpenRequested}
use Rattle.requests.proofs.Passing.{refuses}
use Rattle.desk.specs.Dispatch.{SomeLedger, DeskEffectReady}
use Rattle.issuance.specs.Issues.{ParentsEntered}
use Rattle.commands.specs.Standing.{Memory, memory, state_in, desk_kind, Kept, Stands, Does}
use Rattle.commands.proofs.Keeping.{kept_after}
use Rattle.loaded.proofs.Room.{ledger_below}

-- the kinds of desk commands
pub desk_range : {kind : ℕ} → desk_kind kind ≡ true → (0x3D < kind) × (kind < 0x44)
desk_range {kind} e = let w = and_true (ltb 0x3D kind) (ltb kind 0x44) e in (ltb-true 0x3D kind w.0, ltb-true kind 0x44 w.1)

pub desk_here : (kind : ℕ) → 0x3E ≤ kind → kind < 0x44 → desk_kind kind ≡ true
desk_here kind h k = rw (lt-ltb 0x3D kind (omega (arith, h)), lt-ltb kind 0x44 k) refl

-- no kind is and is not one
pub not_both : {b : Bool} → b ≡ true → b ≡ false → ⊥
not_both t f = false≢true (sym f ∙ t)

-- the kinds below and above them
pub desk_not_below : (kind : ℕ) → kind < 0x3E → desk_kind kind ≡ true → ⊥
desk_not_below kind h e = let w = desk_range {kind = kind} e in omega (arith, h, w.0)

pub desk_not_above : (kind : ℕ) → 0x44 ≤ kind → desk_kind kind ≡ true → ⊥
desk_not_above kind h e = let w = desk_range {kind = kind} e in omega (arith, h, w.1)

desk_registerless : (bs : List ℕ) (at : ℕ) → desk_kind (kind_there bs at) ≡ true → Registerless (command_there bs at)
unfolding command_there command_at
desk_registerless bs at e =
    let b = take (body_length (kind_there bs at)) (drop (at + 1) bs) in
    each (λ k. Registerless (command_at k b)) 6 0x3E (tt, (tt, (tt, (tt, (tt, (tt, tt)))))) (kind_there bs at) (desk_range e).0 (desk_range e).1

-- nor do the commands below
pub plain_registerless : (bs : List ℕ) (at : ℕ) → CommandAt (Wellformed (file_in bs)) bs at → kind_there bs at < 0x3E → Registerless (command_there bs at)
unfolding command_there command_at
plain_registerless bs at w h =
    let b = take (body_length (kind_there bs at)) (drop (at + 1) bs) in
    each (λ k. Registerless (command_at k b)) 14 0x30 (tt, (tt, (tt, (tt, (tt, (tt, (tt, (tt, (tt, (tt, (tt, (tt, (tt, (tt, tt)))))))))))))) (kind_there bs at) (command_range _ w.is_command).0 h

-- what a result says by its number
pub on_accepted : (r : Result Unit Refusal) {P : Type 0} → OnOk r P → number_in r ≡ 0 → P
on_accepted (Ok a) p z = p
on_accepted (Err e) p z = absurd (omega (arith, refuses e))

pub on_refused : (r : Result Unit Refusal) {P : Type 0} → OnErr r P → (number_in r ≡ 0 → ⊥) → P
on_refused (Ok a) p n = absurd (n refl)
on_refused (Err e) p n = p

module _ {bs : List ℕ} {m : Memory} {tables : Tables} {n : ℕ} {ledger : List Entry} (st : Stands bs m tables n ledger) where
  abbrev s : List ℕ
  s = m.state

  pub open_requested : OpenRequested bs s
  open_requested c e = st.kept.requested c e

  sound : Invariant (file_in bs) (state_of (view s) ledger)
  sound = let ck = checked_here st.holds in invariant_beside (file_in bs) ck (λ p i. empty_field) (state_in m ledger) st.kept.sound (λ p i. empty_shown (file_in bs) ck)

  -- a desk's certificate that somebody knows is listed
  parents_entered : ParentsEntered bs s tables
  parents_entered p q w = column_some (parent_certificate_of (file_in bs) q) st.enters (parent_listed (file_in bs) (checked_here st.holds) (state_of (view s) ledger) sound p q w)

  pub ledgered : Ledgered bs s tables n ledger
  ledgered = record { enters = st.enters; boards = st.boards; sound = sound }

  pub some_ledger : SomeLedger bs s tables
  some_ledger = (n, ledger, ledgered)

  module _ {at : ℕ} (w : CommandAt (Wellformed (file_in bs)) bs at) where
    abbrev Before : State
    Before = state_in m ledger

    abbrev After : State
    After = after (file_in bs) Before (command_there bs at)

    -- what stands after the command
    next : {m' : Memory} {tables' : Tables} {k : ℕ} {l : List Entry} → length m'.state ≡ length s → length m'.registers ≡ length m.registers → (view m'.state).place ≡ (view s).place → Finds bs tables' → Enters tables' k l → Boarded (file_in bs) (tables_in tables').boards l → state_in m' l ≡ After → Stands bs m' tables' k l
    next l g p d e b left = record {
      holds = holds_kept st.holds l p;
      finds = d;
      enters = e;
      boards = b;
      kept = subst⁻¹ (Kept (file_in bs)) left (kept_after (checked_here st.holds) Before (command_there bs at) w.known st.kept);
      registers = g ∙ st.registers;
    }

    module _ {x : ℕ} (e : x ≡ outcome (file_in bs) Before (command_there bs at)) where
      pub refused_does : (x ≡ 0 → ⊥) → Does bs m at ledger m tables x n ledger
      refused_does r = record {
        decided = e;
        left = sym (after_refused (file_in bs) Before (command_there bs at) (λ y. r (e ∙ y)));
        stands = st;
        places = refl;
      }

      device_does : x ≡ 0 → {m' : Memory} → LeavesBeside bs s m'.state (registers_in m.registers) (registers_in m'.registers) (command_there bs at) → length m'.state ≡ length s → length m'.registers ≡ length m.registers → Does bs m at ledger m' tables x n ledger
      device_does y v l g =
          let left = v.columns ledger ∙ sym (after_accepted (file_in bs) Before (command_there bs at) (sym e ∙ y)) in
          record { decided = e; left = left; stands = next l g v.places st.finds st.enters st.boards left; places = v.places }

    -- accepted or refused
    pub device_done : {x : ℕ} → x ≡ outcome (file_in bs) Before (command_there bs at) → {m' : Memory}
        → (x ≡ 0 → LeavesBeside bs s m'.state (registers_in m.registers) (registers_in m'.registers) (command_there bs at)) → ((x ≡ 0 → ⊥) → (m'.state ≡ s) × (m'.registers ≡ m.registers))
        → length m'.state ≡ length s → length m'.registers ≡ length m.registers → Does bs m at ledger m' tables x n ledger
    device_done {x} e {m'} left kept l g = go (ℕ_discrete x 0)
      where
        go : Dec (x ≡ 0) → Does bs m at ledger m' tables x n ledger
        go (yes y) = device_does e y (left y) l g
        go (no r) = let k = kept r in subst⁻¹ (λ (u : Memory). Does bs m at ledger u tables x n ledger) (λ j. memory (k.0 j) (k.1 j)) (refused_does e r)

    -- a device command on no register, beside any
    module _ (h : kind_there bs at < 0x3E) where
      pub plain_decided : {x : ℕ} → x ≡ outcome (file_in bs) (state_of (view s) ledger) (command_there bs at) → x ≡ outcome (file_in bs) Before (command_there bs at)
      plain_decided e = e ∙ sym (outcome_beside (file_in bs) (registers_in m.registers) (state_of (view s) ledger) (command_there bs at) (plain_registerless bs at w h))

      plain_left : {s' : List ℕ} → Leaves bs s s' (command_there bs at) → LeavesBeside bs s s' (registers_in m.registers) (registers_in m.registers) (command_there bs at)
      plain_left v = record {
        columns = λ l. ap (beside (registers_in m.registers)) (v.columns l) ∙ sym (effect_beside (file_in bs) (registers_in m.registers) (state_of (view s) l) (command_there bs at) (plain_registerless bs at w h));
        places = v.places;
      }

      pub plain_done : {x : ℕ} → x ≡ outcome (file_in bs) (state_of (view s) ledger) (command_there bs at) → {s' : List ℕ} → (x ≡ 0 → Leaves bs s s' (command_there bs at)) → ((x ≡ 0 → ⊥) → s' ≡ s) → length s' ≡ length s
          → Does bs m at ledger (memory s' m.registers) tables x n ledger
      plain_done e left kept l = device_done (plain_decided e) (λ z. plain_left (left z)) (λ r. (kept r, refl)) l refl

    -- a desk command decides the same beside any registers
    pub desk_decided : desk_kind (kind_there bs at) ≡ true → {x : ℕ} → x ≡ outcome (file_in bs) (state_of (view s) ledger) (command_there bs at) → x ≡ outcome (file_in bs) Before (command_there bs at)
    desk_decided d e = e ∙ sym (outcome_beside (file_in bs) (registers_in m.registers) (state_of (view s) ledger) (command_there bs at) (desk_registerless bs at d))

    module _ (d : desk_kind (kind_there bs at) ≡ true) (e : 0 ≡ outcome (file_in bs) Before (command_there bs at)) where
      accepted_plain : outcome (file_in bs) (state_of (view s) ledger) (command_there bs at) ≡ 0
      accepted_plain = sym (outcome_beside (file_in bs) (registers_in m.registers) (state_of (view s) ledger) (command_there bs at) (desk_registerless bs at d)) ∙ sym e

      accepts : Accepts bs s tables n (command_there bs at)
      accepts = record {
        ledger = ledger;
        enters = st.enters;
        accepted = accepted_plain;
        more = omega (arith, ledger_below (checked_here st.holds) sound, st.enters.count);
      }

      pub desk_ready : DeskEffectReady bs s tables n at
      unfolding accepts
      desk_ready = record {
        holds = st.holds;
        finds = st.finds;
        command = w;
        is_desk = desk_range d;
        opened = open_requested;
        parents = parents_entered;
        accepts = accepts;
        ledgered = ledgered;
      }

      pub desk_does : {s' : List ℕ} {tables' : Tables} {g : List Entry} → DeskLeaves bs s tables n (command_there bs at) s' tables' g → length s' ≡ length s
          → Does bs m at ledger (memory s' m.registers) tables' 0 (n + length g) (ledger ++ g)
      desk_does {s'} {tables'} {g} v l =
          let on = v.on ledger (record { ledgered = ledgered; accepted = accepted_plain }) in
          let registers = registers_in m.registers in
          let left : state_in (memory s' m.registers) (ledger ++ g) ≡ After =
          ap (beside registers) on.columns
          ∙ sym (effect_beside (file_in bs) registers (state_of (view s) ledger) (command_there bs at) (desk_registerless bs at d))
          ∙ sym (after_accepted (file_in bs) Before (command_there bs at) (sym e)) in
          record {
            decided = e;
            left = left;
            stands = next l refl v.places (finds_kept st.finds v.keys) on.enters on.boards left;
            places = v.places;
          }
