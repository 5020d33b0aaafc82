-- What Run and Path answer, and what they leave in every lent place (document 01, "Run and Path", "When the desk says no").
use Rattle.std.specs.Prelude.{◌≡◌, Bool, cond, ◌&&◌, List, [], ◌∷◌, ◌++◌, ℕ, zero, suc, ◌+◌, ◌-◌, ◌/◌, ◌%◌, ◌^◌, leb, length, drop, replicate, Result, Ok, Err}
use Rattle.rules.specs.declared.Entry.{Entry}
use Rattle.rules.specs.declared.Refused.{Refused}
use Rattle.rules.specs.declared.Counts.{Counts}
use Rattle.rules.specs.declared.Totals.{Totals}
use Rattle.rules.specs.Codes.{number_of}
use Rattle.rules.specs.Limits.{file_limit, party_limit, term_limit, command_limit, state_bytes, register_count, register_bytes, path_places}
use Rattle.rules.specs.File.{File}
use Rattle.rules.specs.Load.{Load, loaded, refused, load as load_file}
use Rattle.rules.specs.State.{State, start, listed, depth_of, parent_of}
use Rattle.rules.specs.Run.{reached, outcomes_of, accepted, refusals, issued}

-- An answer in numbers: its number and place, both 0 where it is no refusal, and its values, none where it is one.
pub record Answer : Type 0 where
  pub number : ℕ
  pub place : ℕ
  pub values : List ℕ

abbrev pub success : List ℕ → Answer
success values = record { number = 0; place = 0; values = values }

abbrev pub refusal : ℕ → ℕ → Answer
refusal number place = record { number = number; place = place; values = [] }

-- What each answer of the code is in numbers. Of loading: parties, terms, commands; of a run: accepted, refused, issued; of a path: its steps.
unfoldable pub in_numbers : {A : Type 0} → (A → List ℕ) → Result A Refused → Answer
in_numbers values (Ok x) = success (values x)
in_numbers values (Err r) = refusal (number_of r.refusal) r.place

abbrev pub load_in_numbers : Result Counts Refused → Answer
load_in_numbers = in_numbers (λ x. x.parties ∷ x.terms ∷ x.commands ∷ [])

abbrev pub run_in_numbers : Result Totals Refused → Answer
run_in_numbers = in_numbers (λ x. x.accepted ∷ x.refused ∷ x.issued ∷ [])

abbrev pub path_in_numbers : Result ℕ Refused → Answer
path_in_numbers = in_numbers (λ n. n ∷ [])

-- The buffers lent to a run.
pub record Lent : Type 0 where
  pub state : List ℕ
  pub ledger : List Entry
  pub outcomes : List ℕ
  pub registers : List ℕ

-- a byte of bits, bit p for party p, of the first n parties
unfoldable pub bits : ℕ → (ℕ → Bool) → ℕ
bits zero test = 0
bits (suc p) test = bits p test + cond (test p) (2 ^ p) 0

-- two bytes, high byte first
unfoldable pub high : ℕ → ℕ
high x = x / 256 % 256

unfoldable pub low : ℕ → ℕ
low x = x % 256

-- the state bytes of a term: known by, TPM table, mark, desk, request (two bytes), the place of its record (two bytes)
unfoldable pub row : State → ℕ → ℕ → List ℕ
row s t place =
    bits party_limit (λ p. s.knows p t) ∷ bits party_limit (λ p. s.table p t) ∷ s.mark t ∷ s.desk t
    ∷ high (s.request t) ∷ low (s.request t) ∷ high place ∷ low place ∷ []

-- the rows of the terms from t on, by their places
unfoldable pub rows : State → ℕ → List ℕ → List ℕ
rows s t [] = []
rows s t (place ∷ places) = row s t place ++ rows s (suc t) places

-- the bytes of n registers of a party from i on, two each, and those of n parties from p on (request 6 of document 02)
unfoldable pub register_row : (ℕ → ℕ) → ℕ → ℕ → List ℕ
register_row registers i zero = []
register_row registers i (suc n) = high (registers i) ∷ low (registers i) ∷ register_row registers (suc i) n

unfoldable pub register_rows : (ℕ → ℕ → ℕ) → ℕ → ℕ → List ℕ
register_rows registers p zero = []
register_rows registers p (suc n) = register_row (registers p) 0 register_count ++ register_rows registers (suc p) n

-- a first part of n places, zero where nothing applies, and what lies beyond it
unfoldable pub first_part {ℓ} : {A : Type ℓ} → ℕ → A → List A → List A → List A
first_part n none new old = new ++ (replicate (n - length new) none ++ drop n old)

abbrev pub no_entry : Entry
no_entry = record { certificate = 0; parent = 0; depth = 0 }

-- Loading alone: its answer for a file and a state buffer, and the buffer after it.
unfoldable pub load_answered : Load → Answer
load_answered (loaded f) = success (length f.roles ∷ length f.terms ∷ length f.commands ∷ [])
load_answered (refused number place) = refusal number place

unfoldable pub load_answer : List ℕ → List ℕ → Answer
load_answer bs state = cond (leb state_bytes (length state)) (load_answered (load_file bs)) (refusal 1 0)

unfoldable pub load_written : List ℕ → Load → List ℕ
load_written state (loaded f) = first_part state_bytes 0 (rows (start f) 0 f.places) state
load_written state (refused number place) = first_part state_bytes 0 [] state

unfoldable pub load_leaves : List ℕ → List ℕ → List ℕ
load_leaves bs state = cond (leb state_bytes (length state) && leb (length bs) file_limit) (load_written state (load_file bs)) state

-- the first parts of all buffers written
unfoldable pub written : List ℕ → List Entry → List ℕ → List ℕ → Lent → Lent
written state ledger outcomes registers lent =
    record {
      state = first_part state_bytes 0 state lent.state;
      ledger = first_part term_limit no_entry ledger lent.ledger;
      outcomes = first_part command_limit 0 outcomes lent.outcomes;
      registers = first_part register_bytes 0 registers lent.registers;
    }

-- 1: "buffer short"
unfoldable pub long_enough : Lent → Bool
long_enough lent =
    leb state_bytes (length lent.state) && leb term_limit (length lent.ledger) && leb command_limit (length lent.outcomes)
    && leb register_bytes (length lent.registers)

unfoldable pub answered : ℕ → Load → Answer
answered n (loaded f) = success (accepted f n ∷ refusals f n ∷ issued f n ∷ [])
answered n (refused number place) = refusal number place

-- Run's answer for a file, a count and buffers
unfoldable pub run_answer : List ℕ → ℕ → Lent → Answer
run_answer bs n lent = cond (long_enough lent) (answered n (load_file bs)) (refusal 1 0)

unfoldable pub leaves : ℕ → Lent → Load → Lent
leaves n lent (loaded f) =
    written (rows (reached f n) 0 f.places) (reached f n).ledger (outcomes_of f n) (register_rows (reached f n).registers 0 party_limit) lent
leaves n lent (refused number place) = written [] [] [] [] lent

-- the buffers after Run: 1 and 2 leave all untouched, 3 to 12 the first parts zero
unfoldable pub run_leaves : List ℕ → ℕ → Lent → Lent
run_leaves bs n lent = cond (long_enough lent && leb (length bs) file_limit) (leaves n lent (load_file bs)) lent

-- What a call answers and leaves, both by the buffers that were lent.
abbrev pub Called : {A : Type 0} → (Lent → A) → (Lent → Lent) → Lent → Lent → A → Type 0
Called answer leaves before after r = (r ≡ answer before) × (after ≡ leaves before)

-- A call above Run (Path, and requests 9 and 11 to 14 of document 02): n commands are run, and of a file that loads something is asked, by the
-- file and the state after them. Run's refusals come first; the buffers are left as Run leaves them, whatever is answered.
unfoldable pub asked : (File → State → Answer) → ℕ → Load → Answer
asked question n (loaded f) = question f (reached f n)
asked question n (refused number place) = refusal number place

-- the answer of such a call that is lent no more than Run's buffers
unfoldable pub ask_answer : (File → State → Answer) → List ℕ → ℕ → Lent → Answer
ask_answer question bs n lent = cond (long_enough lent) (asked question n (load_file bs)) (refusal 1 0)

-- a certificate and its parents, so many steps
unfoldable pub steps : List Entry → ℕ → ℕ → List ℕ
steps ledger zero c = c ∷ []
steps ledger (suc n) c = c ∷ steps ledger n (parent_of ledger c)

-- the steps from a term; 30 where the ledger has no entry for it
unfoldable pub steps_from : ℕ → File → State → Answer
steps_from t f s = cond (listed s.ledger t) (success (depth_of s.ledger t ∷ [])) (refusal 30 t)

-- Path's answer for a file, a count, buffers, a term and a list of places
unfoldable pub path_answer : List ℕ → ℕ → Lent → ℕ → List ℕ → Answer
path_answer bs n lent t list = cond (long_enough lent && leb path_places (length list)) (asked (steps_from t) n (load_file bs)) (refusal 1 0)

-- the buffers after Path are those after Run, but for a list that is too short
unfoldable pub path_buffers : List ℕ → ℕ → Lent → ℕ → List ℕ → Lent
path_buffers bs n lent t list = cond (leb path_places (length list)) (run_leaves bs n lent) lent

unfoldable pub path_written : File → ℕ → ℕ → List ℕ → List ℕ
path_written f n t list =
    cond (listed (reached f n).ledger t)
    (steps (reached f n).ledger (depth_of (reached f n).ledger t) t ++ drop (depth_of (reached f n).ledger t + 1) list)
    list

unfoldable pub path_listed : ℕ → ℕ → List ℕ → Load → List ℕ
path_listed n t list (loaded f) = path_written f n t list
path_listed n t list (refused number place) = list

-- the list after Path: untouched unless a path is found
unfoldable pub path_leaves : List ℕ → ℕ → Lent → ℕ → List ℕ → List ℕ
path_leaves bs n lent t list = cond (long_enough lent && leb path_places (length list)) (path_listed n t list (load_file bs)) list
