-- The loop over commands: what it has done at a moment, as work left.
--     leads_refl, leads_trans, leads_next, leads_room                 from a moment to another; by a command
--     underway_start, underway_here, underway_next                    how far the run is
--     accepted_number, number_accepted                                an outcome in numbers
--     Onward, onward_start, onward_next, onward_last, onward_ends     the turn's own loop
--     Going, going_start, going_ready, going_fits, going_next, going_ends     the loop over turns, on the lent places
-- Assumes nothing.
use Rattle.tables.specs.declared.columns.Tables.{Tables}
use mathlib.Core.Path.{◌≡◌, refl, sym, ap, subst, subst⁻¹, ◌∙◌}
use mathlib.Core.Bool.{Bool, true, false, false≢true, cond}
use mathlib.Core.List.{List, [], ◌∷◌, ◌++◌, append-nil}
use Prim.Native.Nat.{ℕ, suc, ◌+◌, ◌-◌, ◌<◌, ◌≤◌}
use native.Mathlib.Nat.{add_assoc, add-zero}
use native.Mathlib.Numerals.{add-one}
use native.Mathlib.Omega.{arith}
use lib.Dec.{eqb, ltb}
use borrow.Author.Tests.{ltb-true}
use lib.ListN.{length, set, take, drop, length-append}
use lib.Seq.{take_at, drop_at, length-sets}
use Rattle.rules.specs.declared.Entry.{Entry}
use Rattle.rules.specs.declared.Refusal.{Refusal}
use Rattle.rules.specs.Codes.{number_of, number_in}
use Rattle.rules.specs.Limits.{file_limit, term_limit, pair_count, command_limit, state_bytes, register_bytes}
use Rattle.rules.specs.File.{File, Command}
use Rattle.rules.specs.State.{State}
use Rattle.rules.specs.Run.{outcome, after, run, outcomes, zeros, others}
use Rattle.theorems.proofs.Loading.{Wellformed}
use Rattle.learning.specs.There.{kind_there}
use Rattle.reader.specs.Place.{next_place}
use Rattle.lookup.specs.There.{command_there}
use Rattle.lookup.specs.Commands.{commands_left, CommandAt, Commands}
use Rattle.lookup.proofs.Left.{command_here, commands_next, command_long, left_next, left_inside}
use Rattle.loaded.specs.Loaded.{file_in, Reads}
use Rattle.loaded.proofs.Standing.{reads_here}
use Rattle.std.specs.Prelude.{Result as Outcome, Ok, Err, is_ok}
use Rattle.commands.specs.Standing.{Memory, memory, state_in, desk_kind, Stands, SomeStands, Does, Decided, DeskAccepted, DeskDoes}
use Rattle.turns.specs.declared.Progress.{Progress}
use Rattle.turns.specs.declared.Turned.{Turned}
use Rattle.turns.specs.Turns.{stepped, StepReady, Underway, Result, results, Moment, result, Leads, InBytes, TurnReady, Turns, RunReady, starts, onto, Executes}

-- ---- from a moment to another
abbrev moment : Memory → List ℕ → List Entry → Progress → Moment
moment m out ledger p = record { memory = m; outcomes = out; ledger = ledger; progress = p }

leads_refl : (bs : List ℕ) (u : Moment) → Leads bs u u
leads_refl bs u = record { same = refl; places = refl }

leads_trans : {bs : List ℕ} {u v w : Moment} → Leads bs u v → Leads bs v w → Leads bs u w
leads_trans a b = record { same = b.same ∙ a.same; places = b.places ∙ a.places }

-- a command more
results_next : (f : File) (x : State) (c : Command) (cs : List Command) (out : List ℕ) (i a b y : ℕ) → y ≡ outcome f x c
    → results f cs (after f x c) (set out i y) (i + 1) (a + cond (eqb y 0) 1 0) (b + cond (eqb y 0) 0 1) ≡ results f (c ∷ cs) x out i a b
unfolding run outcomes zeros others
results_next f x c cs out i a b y e =
    rw e (rw (add-one i, add_assoc a (cond (eqb (outcome f x c) 0) 1 0) (zeros (outcomes f cs (after f x c))), add_assoc b (cond (eqb (outcome f x c) 0) 0 1) (others (outcomes f cs (after f x c)))))

leads_next : {bs : List ℕ} {s : Memory} {out : List ℕ} {p : Progress} {ledger : List Entry} {s' : Memory} {tables' : Tables} {y m : ℕ} {ledger' : List Entry} (count : ℕ) → 0 < p.left → p.at < length bs
    → Does bs s p.at ledger s' tables' y m ledger'
    → Leads bs (moment s out ledger p) (moment s' (set out p.done y) ledger' (stepped (length bs) p y count (next_place bs p.at)))
leads_next {bs} {s} {out} {p} {ledger} {s'} {tables'} {y} {m} {ledger'} count more inside d = record {
  same =
      let f = file_in bs in
      let x = state_in s ledger in
      let x' = state_in s' ledger' in
      let c = command_there bs p.at in
      let next = next_place bs p.at in
      let a' = p.accepted + cond (eqb y 0) 1 0 in
      let b' = p.refused + cond (eqb y 0) 0 1 in
      ap (λ (cs : List Command). results f cs x' (set out p.done y) (p.done + 1) a' b') (left_inside bs next (p.left - 1))
      ∙ ap (λ (v : State). results f (commands_left bs next (p.left - 1)) v (set out p.done y) (p.done + 1) a' b') d.left
      ∙ results_next f x c (commands_left bs next (p.left - 1)) out p.done p.accepted p.refused y d.decided
      ∙ ap (λ (cs : List Command). results f cs x out p.done p.accepted p.refused) (sym (left_next bs p.at p.left more inside));
  places = d.places;
}

leads_room : {bs : List ℕ} {u v : Moment} → Leads bs u v → length v.outcomes ≡ length u.outcomes
leads_room w = simp length-sets at (ap (λ (r : Result). length r.outcomes) w.same)

-- ---- how far the run is
one_of : (b : Bool) → cond b 1 0 + cond b 0 1 ≡ 1
one_of true = refl
one_of false = refl

-- some are left: the file goes on
left_some : (at length n : ℕ) → 0 < cond (ltb at length) n 0 → at < length
left_some at length n h = go (ltb at length) refl h
  where
    go : (b : Bool) → ltb at length ≡ b → 0 < cond b n 0 → at < length
    go true q h = ltb-true at length q
    go false q h = absurd (omega (arith, h))

underway_start : {bs : List ℕ} {first : ℕ} (n : ℕ) → Commands (Wellformed (file_in bs)) bs first → Underway bs (starts bs first n)
underway_start {bs} {first} n w = record { commands = w; inside = left_some first (length bs) n; paced = omega arith; counted = refl }

module _ {bs : List ℕ} {p : Progress} (w : Underway bs p) (more : 0 < p.left) where
  underway_here : CommandAt (Wellformed (file_in bs)) bs p.at
  underway_here = command_here (Wellformed (file_in bs)) bs p.at w.commands (w.inside more)

  underway_small : length bs ≤ file_limit → p.done < command_limit
  underway_small short = omega (arith, w.paced, w.inside more)

  underway_next : (y count : ℕ) → Underway bs (stepped (length bs) p y count (next_place bs p.at))
  underway_next y count = record {
    commands = commands_next (Wellformed (file_in bs)) bs p.at w.commands (w.inside more);
    inside = left_some (next_place bs p.at) (length bs) (p.left - 1);
    paced = omega (arith, w.paced, command_long bs p.at underway_here.is_command);
    counted = omega (arith, w.counted, one_of (eqb y 0));
  }

-- a command more leaves fewer
left_less : (b : Bool) {n : ℕ} → 0 < n → cond b (n - 1) 0 < n
left_less true h = omega (arith, h)
left_less false h = h

pub step_less : (bytes : ℕ) (p : Progress) (y count next : ℕ) {q : Progress} → (p.left ≡ 0 → ⊥) → q ≡ stepped bytes p y count next → q.left < p.left
step_less bytes p y count next some e = subst⁻¹ (λ (q : Progress). q.left < p.left) e (left_less (ltb next bytes) (omega (arith, some)))

-- ---- an outcome
pub accepted_number : (x : Outcome Unit Refusal) → is_ok x ≡ true → number_in x ≡ 0
accepted_number (Ok u) e = refl
accepted_number (Err r) e = absurd (false≢true e)

refused_some : (r : Refusal) → number_of r ≡ 0 → ⊥
refused_some r e = grind arith

pub number_accepted : (x : Outcome Unit Refusal) → number_in x ≡ 0 → is_ok x ≡ true
number_accepted (Ok u) e = refl
number_accepted (Err r) e = absurd (refused_some r e)

-- ---- the turn's own loop: the ledger stays as it is until a desk command is accepted
pub record Onward (bs : List ℕ) (s : Memory) (tables : Tables) (out : List ℕ) (from : Progress) (s' : Memory) (tables' : Tables) (out' : List ℕ) (p : Progress) : Type 0 where
  pub underway : Underway bs p
  pub fewer : p.left ≤ from.left
  pub long : length s'.state ≡ length s.state
  pub registers : length s'.registers ≡ length s.registers
  pub bytes : InBytes s'
  pub stands : (ledger : List Entry) → Stands bs s tables from.issued ledger → Stands bs s' tables' p.issued ledger
  pub leads : (ledger : List Entry) → Stands bs s tables from.issued ledger → Leads bs (moment s out ledger from) (moment s' out' ledger p)

pub onward_start : {bs : List ℕ} {s : Memory} {tables : Tables} {out : List ℕ} {p : Progress} → Underway bs p → InBytes s → Onward bs s tables out p s tables out p
onward_start {bs} w b = record { underway = w; fewer = omega arith; long = refl; registers = refl; bytes = b; stands = λ ledger st. st; leads = λ ledger st. leads_refl bs _ }

module _ {bs : List ℕ} {s : Memory} {tables : Tables} {out : List ℕ} {from : Progress} (ready : TurnReady bs s tables out from) {s' : Memory} {tables' : Tables} {out' : List ℕ} {p : Progress} (w : Onward bs s tables out from s' tables' out' p) where
  pub onward_ends : p.left ≡ 0 → {r : Turned} → r.gained.items ≡ [] → r.progress ≡ p → Turns bs s tables out from s' tables' out' r
  onward_ends z {r} none e =
      let same : (ledger : List Entry) → ledger ++ r.gained.items ≡ ledger = λ ledger. ap (λ (l : List Entry). ledger ++ l) none ∙ append-nil ledger in
      record {
        bytes = w.bytes;
        underway = subst⁻¹ (Underway bs) e w.underway;
        less = λ h. omega (arith, h, ap (λ (q : Progress). q.left) e, z);
        stands = λ ledger st. subst⁻¹ (λ (q : Progress). Stands bs s' tables' q.issued (ledger ++ r.gained.items)) e (subst⁻¹ (Stands bs s' tables' p.issued) (same ledger) (w.stands ledger st));
        leads = λ ledger st. subst⁻¹ (λ (q : Progress). Leads bs (moment s out ledger from) (moment s' out' (ledger ++ r.gained.items) q)) e (subst⁻¹ (λ (l : List Entry). Leads bs (moment s out ledger from) (moment s' out' l p)) (same ledger) (w.leads ledger st));
      }

  pub onward_stands : SomeStands bs s' tables' p.issued
  onward_stands = (ready.stands.0, w.stands ready.stands.0 ready.stands.1)

  pub onward_reads : Reads bs tables'
  onward_reads = reads_here onward_stands.1.holds onward_stands.1.finds

  pub onward_length : length out' ≡ length out
  onward_length = leads_room (w.leads ready.stands.0 ready.stands.1)

  module _ (some : p.left ≡ 0 → ⊥) where
    abbrev more : 0 < p.left
    more = omega (arith, some)

    pub onward_here : CommandAt (Wellformed (file_in bs)) bs p.at
    onward_here = underway_here w.underway more

    pub onward_room : p.done < length out'
    onward_room = omega (arith, underway_small w.underway more ready.short, onward_length, ready.places)

    pub step_ready : {count : ℕ} → count ≤ pair_count → StepReady p count
    step_ready h = record { more = more; small = underway_small w.underway more ready.short; counted = w.underway.counted; few = onward_stands.1.enters.few; gained = h }

    module _ {s'' : Memory} {x : Outcome Unit Refusal} (d : Decided bs s' tables' p.at s'' x) {y : ℕ} (byte : y ≡ number_in x) where
      -- a device command, or a refused one
      pub onward_next : (number_in x ≡ 0 → desk_kind (kind_there bs p.at) ≡ false) → length s''.state ≡ length s'.state → length s''.registers ≡ length s'.registers → InBytes s'' → {q : Progress} {next : ℕ} → next ≡ next_place bs p.at → q ≡ stepped (length bs) p (number_in x) 0 next
          → Onward bs s tables out from s'' tables' (set out' p.done y) q
      onward_next h long registers bytes {q} {next} n e =
          subst⁻¹ (λ (u : ℕ). Onward bs s tables out from s'' tables' (set out' p.done u) q) byte
          (subst⁻¹ (Onward bs s tables out from s'' tables' (set out' p.done (number_in x))) (e ∙ ap (stepped (length bs) p (number_in x) 0) n)
          (record {
            underway = underway_next w.underway more (number_in x) 0;
            fewer = omega (arith, w.fewer, left_less (ltb (next_place bs p.at) (length bs)) more);
            long = long ∙ w.long;
            registers = registers ∙ w.registers;
            bytes = bytes;
            stands = λ ledger st. let z : p.issued + 0 ≡ p.issued = omega arith in subst⁻¹ (λ (m : ℕ). Stands bs s'' tables' m ledger) z (does ledger st).stands;
            leads = λ ledger st. leads_trans (w.leads ledger st) (leads_next 0 more (w.underway.inside more) (does ledger st));
          }))
        where
          does : (ledger : List Entry) → Stands bs s tables from.issued ledger → Does bs s' p.at ledger s'' tables' (number_in x) p.issued ledger
          does ledger st = d.done h p.issued ledger (w.stands ledger st)

      -- an accepted desk command
      module _ (z : number_in x ≡ 0) (k : desk_kind (kind_there bs p.at) ≡ true) where
        pub onward_accepted : DeskAccepted bs s'' tables' p.issued p.at
        onward_accepted = subst⁻¹ (λ (u : Memory). DeskAccepted bs u tables' p.issued p.at) (d.same k) (record {
          stands = onward_stands;
          here = onward_here;
          is_desk = k;
          accepted = λ ledger st. sym z ∙ d.decided p.issued ledger st;
        })

        pub onward_last : {v : List ℕ} {tables'' : Tables} {r : Turned} → DeskDoes bs s'' tables' p.issued p.at v tables'' r.gained.items → InBytes (memory v s''.registers) → {next : ℕ} → next ≡ next_place bs p.at
            → r.progress ≡ stepped (length bs) p (number_in x) (length r.gained.items) next
            → Turns bs s tables out from (memory v s''.registers) tables'' (set out' p.done y) r
        onward_last {v} {tables''} {r} desk bytes {next} n e =
            let g = r.gained.items in
            let q = e ∙ ap (stepped (length bs) p (number_in x) (length g)) n in
            subst⁻¹ (λ (u : ℕ). Turns bs s tables out from (memory v s''.registers) tables'' (set out' p.done u) r) byte
            (record {
              bytes = bytes;
              underway = subst⁻¹ (Underway bs) q (underway_next w.underway more (number_in x) (length g));
              less = λ h. omega (arith, w.fewer, ap (λ (q : Progress). q.left) q, left_less (ltb (next_place bs p.at) (length bs)) more);
              stands = λ ledger st. subst⁻¹ (λ (q : Progress). Stands bs (memory v s''.registers) tables'' q.issued (ledger ++ g)) q (does ledger st).stands;
              leads = λ ledger st. subst⁻¹ (λ (q : Progress). Leads bs (moment s out ledger from) (moment (memory v s''.registers) (set out' p.done (number_in x)) (ledger ++ g) q)) q (leads_trans (w.leads ledger st) (leads_next (length g) more (w.underway.inside more) (does ledger st)));
            })
          where
            does : (ledger : List Entry) → Stands bs s tables from.issued ledger → Does bs s' p.at ledger (memory v s''.registers) tables'' (number_in x) (p.issued + length r.gained.items) (ledger ++ r.gained.items)
            does ledger st =
                let e = d.same k in
                subst⁻¹ (λ (u : ℕ). Does bs s' p.at ledger (memory v s''.registers) tables'' u (p.issued + length r.gained.items) (ledger ++ r.gained.items)) z
                (subst (λ (u : Memory). Does bs u p.at ledger (memory v s''.registers) tables'' 0 (p.issued + length r.gained.items) (ledger ++ r.gained.items)) e
                (desk.does ledger (subst⁻¹ (λ (u : Memory). Stands bs u tables' p.issued ledger) e (w.stands ledger st))))

-- ---- the ledger's first places
length_onto : (es l : List Entry) → length es ≤ length l → length (onto es l) ≡ length l
length_onto [] l h = refl
length_onto (e ∷ es) [] h = absurd (omega (arith, h))
length_onto (e ∷ es) (x ∷ l) h = ap suc (length_onto es l (omega (arith, h)))

-- ---- between turns: what the lent places and the loop's local hold, and the relation that the loop keeps
pub record Values : Type 0 where
  pub memory : Memory
  pub tables : Tables
  pub outcomes : List ℕ
  pub ledger : List Entry
  pub progress : Progress

pub record Going (bs : List ℕ) (s₀ : Memory) (out₀ : List ℕ) (first n : ℕ) (old : List Entry) (v : Values) : Type 0 where
  pub entries : List Entry
  pub placed : v.ledger ≡ onto entries old
  pub stands : Stands bs v.memory v.tables v.progress.issued entries
  pub bytes : InBytes v.memory
  pub underway : Underway bs v.progress
  pub leads : Leads bs (moment s₀ out₀ [] (starts bs first n)) (moment v.memory v.outcomes entries v.progress)

pub going_start : (bs : List ℕ) (s : Memory) (tables : Tables) (out : List ℕ) (first n : ℕ) (l : List Entry) → RunReady bs s tables out first
    → Going bs s out first n l (record { memory = s; tables = tables; outcomes = out; ledger = l; progress = starts bs first n })
going_start bs s tables out first n l w = record {
  entries = [];
  placed = refl;
  stands = w.stands;
  bytes = w.bytes;
  underway = underway_start n w.commands;
  leads = leads_refl bs _;
}

-- none are left: what the run comes to is what is there
result_ends : (bs : List ℕ) (v : Moment) → v.progress.left ≡ 0
    → result bs v ≡ record { state = state_in v.memory v.ledger; outcomes = v.outcomes; accepted = v.progress.accepted; refused = v.progress.refused }
unfolding commands_left run outcomes zeros others
result_ends bs v z =
    let p = v.progress in
    ap (λ (m : ℕ). results (file_in bs) (commands_left bs p.at m) (state_in v.memory v.ledger) v.outcomes p.done p.accepted p.refused) z ∙ rw (add-zero p.accepted, add-zero p.refused)

module _ {bs : List ℕ} {s₀ : Memory} {out₀ : List ℕ} {first n : ℕ} {old : List Entry} {v : Values} (w : Going bs s₀ out₀ first n old v) where
  pub going_ends : v.progress.left ≡ 0 → Executes bs s₀ out₀ first n old v.memory v.tables v.outcomes v.ledger v.progress
  going_ends z =
      let r = sym (result_ends bs (moment v.memory v.outcomes w.entries v.progress) z) ∙ w.leads.same
      ∙ ap (λ (cs : List Command). results (file_in bs) cs (state_in s₀ []) out₀ 0 0 0) (left_inside bs first n) in
      record {
        entries = w.entries;
        ledger = w.placed;
        state = ap (λ (y : Result). y.state) r;
        outcomes = ap (λ (y : Result). y.outcomes) r;
        accepted = omega (arith, ap (λ (y : Result). y.accepted) r);
        refused = omega (arith, ap (λ (y : Result). y.refused) r);
        stands = w.stands;
        bytes = w.bytes;
        places = w.leads.places;
      }

  pub going_whole : term_limit ≤ length old → length v.ledger ≡ length old
  going_whole room = ap length w.placed ∙ length_onto w.entries old (omega (arith, w.stands.enters.few, w.stands.enters.count, room))

  pub going_ready : length bs ≤ file_limit → command_limit ≤ length out₀ → TurnReady bs v.memory v.tables v.outcomes v.progress
  going_ready short places = record {
    stands = (w.entries, w.stands);
    underway = w.underway;
    short = short;
    places = omega (arith, leads_room w.leads, places);
  }

  module _ {s : Memory} {tables : Tables} {out : List ℕ} {r : Turned} (told : Turns bs v.memory v.tables v.outcomes v.progress s tables out r) where
    after_stands : Stands bs s tables r.progress.issued (w.entries ++ r.gained.items)
    after_stands = told.stands w.entries w.stands

    -- the entries gained have their places
    pub going_few : v.progress.issued + length r.gained.items ≤ term_limit
    going_few = omega (arith, after_stands.enters.few, after_stands.enters.count, w.stands.enters.count, length-append w.entries r.gained.items)

    pub going_fits : term_limit ≤ length old → v.progress.issued + length r.gained.items ≤ length v.ledger
    going_fits room = omega (arith, going_few, going_whole room, room)

    pub going_next : (z : List Entry) → z ≡ onto (w.entries ++ r.gained.items) old → Going bs s₀ out₀ first n old (record { memory = s; tables = tables; outcomes = out; ledger = z; progress = r.progress })
    going_next z put = record {
      entries = w.entries ++ r.gained.items;
      placed = put;
      stands = after_stands;
      bytes = told.bytes;
      underway = told.underway;
      leads = leads_trans w.leads (told.leads w.entries w.stands);
    }

-- a turn in the first parts of longer buffers
pub turned_within : {bs : List ℕ} {m : Memory} {tables : Tables} {out : List ℕ} {p : Progress} {s g : List ℕ} {tables' : Tables} {out' : List ℕ} {r : Turned} (rest beyond : List ℕ) → length s ≡ state_bytes → length g ≡ register_bytes
    → Turns bs m tables out p (memory s g) tables' out' r
    → Turns bs m tables out p (memory (take state_bytes (s ++ rest)) (take register_bytes (g ++ beyond))) tables' out' r
    × (drop state_bytes (s ++ rest) ≡ rest) × (drop register_bytes (g ++ beyond) ≡ beyond)
turned_within {bs} {m} {tables} {out} {p} {s} {g} {tables'} {out'} {r} rest beyond len room w = (
  subst⁻¹ (λ (x : Memory). Turns bs m tables out p x tables' out' r) (λ j. memory (take_at s rest state_bytes len j) (take_at g beyond register_bytes room j)) w,
  drop_at s rest state_bytes len,
  drop_at g beyond register_bytes room,
)
