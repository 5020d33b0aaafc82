-- Refusal 22, "not in the ledger", which request 5 of document 02 took out: the commands with its check as they were, Run and Path by them,
-- and the two statements by which it went. The rules have neither the check nor the number.
use Rattle.std.specs.Prelude.{◌≡◌, cond, ◌&&◌, ℕ, ◌+◌, eqb, leb, length, drop}
use mathlib.Core.List.{List, [], ◌∷◌, ◌++◌, Memᴰ}
use Rattle.rules.specs.Limits.{file_limit, party_limit, path_places}
use Rattle.rules.specs.Refusals.{Test, need, first_of}
use Rattle.rules.specs.File.{File, Command, hash, sign, certify, make_credential, activate_credential, make_idevid_request, make_ldevid_request, make_pair, check_hash, check_signature, check_certificate, check_attributes, send, self_issue, challenge, issue_iak, issue, issue_iaks, extend, quote}
use Rattle.rules.specs.Load.{Load, loaded, refused, load}
use Rattle.rules.specs.State.{State, start, listed, depth_of}
use Rattle.rules.specs.Desk.{parent_certificate_of}
use Rattle.rules.specs.Run.{tests_of, effect_of, first_commands, zeros, others}
use Rattle.rules.specs.Lent.{Answer, success, refusal, Lent, rows, register_rows, written, long_enough, run_answer, run_leaves, steps, path_answer, path_buffers, path_leaves}

-- The order of refusals with 22 in its place.
abbrev pub order_with22 : List ℕ
order_with22 =
    13 ∷ 32 ∷ 14 ∷ 15 ∷ 16 ∷ 17 ∷ 33 ∷ 18 ∷ 19 ∷ 20 ∷ 21 ∷ 22 ∷ 23
    ∷ 24 ∷ 25 ∷ 26 ∷ 27 ∷ 28 ∷ 31 ∷ 29 ∷ []

-- The check, which 40 made: the certificate in the request is in the ledger. Here the commands of its rule, 40, 41 and 42, all make it.
unfoldable pub check22 : File → State → Command → List Test
check22 f s (hash p r) = []
check22 f s (sign p r) = []
check22 f s (certify p r) = []
check22 f s (make_credential p r) = []
check22 f s (activate_credential p r) = []
check22 f s (make_idevid_request p r) = []
check22 f s (make_ldevid_request p r) = []
check22 f s (make_pair p r) = []
check22 f s (check_hash p h t) = []
check22 f s (check_signature p t k) = []
check22 f s (check_certificate p c k) = []
check22 f s (check_attributes p k a) = []
check22 f s (send p q t) = []
check22 f s (self_issue p r) = []
check22 f s (challenge p q r) = []
check22 f s (issue_iak p q c r) = []
check22 f s (issue family p q r) = need 22 (listed s.ledger (parent_certificate_of f q)) ∷ []
check22 f s (issue_iaks p q xs) = []
check22 f s (extend p i r) = []
check22 f s (quote p r) = []

-- The commands with the check: what one has to pass, its outcome, what it leaves.
unfoldable pub tests_with22 : File → State → Command → List Test
tests_with22 f s c = check22 f s c ++ tests_of f s c

unfoldable pub outcome_with22 : File → State → Command → ℕ
outcome_with22 f s c = first_of order_with22 (tests_with22 f s c)

unfoldable pub after_with22 : File → State → Command → State
after_with22 f s c = cond (eqb (outcome_with22 f s c) 0) (effect_of f s c) s

unfoldable pub run_with22 : File → List Command → State → State
run_with22 f [] s = s
run_with22 f (c ∷ cs) s = run_with22 f cs (after_with22 f s c)

unfoldable pub outcomes_with22 : File → List Command → State → List ℕ
outcomes_with22 f [] s = []
outcomes_with22 f (c ∷ cs) s = outcome_with22 f s c ∷ outcomes_with22 f cs (after_with22 f s c)

-- The first n commands, or all if fewer.
unfoldable pub reached_with22 : File → ℕ → State
reached_with22 f n = run_with22 f (first_commands f n) (start f)

unfoldable pub outcomes_of_with22 : File → ℕ → List ℕ
outcomes_of_with22 f n = outcomes_with22 f (first_commands f n) (start f)

-- Run: its answer, and the buffers after it.
unfoldable pub answered_with22 : ℕ → Load → Answer
answered_with22 n (loaded f) = success (zeros (outcomes_of_with22 f n) ∷ others (outcomes_of_with22 f n) ∷ length (reached_with22 f n).ledger ∷ [])
answered_with22 n (refused number place) = refusal number place

unfoldable pub run_answer_with22 : List ℕ → ℕ → Lent → Answer
run_answer_with22 bs n lent = cond (long_enough lent) (answered_with22 n (load bs)) (refusal 1 0)

unfoldable pub leaves_with22 : ℕ → Lent → Load → Lent
leaves_with22 n lent (loaded f) =
    written (rows (reached_with22 f n) 0 f.places) (reached_with22 f n).ledger (outcomes_of_with22 f n) (register_rows (reached_with22 f n).registers 0 party_limit) lent
leaves_with22 n lent (refused number place) = written [] [] [] [] lent

unfoldable pub run_leaves_with22 : List ℕ → ℕ → Lent → Lent
run_leaves_with22 bs n lent = cond (long_enough lent && leb (length bs) file_limit) (leaves_with22 n lent (load bs)) lent

-- Path: its answer, the buffers and the list after it.
unfoldable pub path_answered_with22 : ℕ → ℕ → Load → Answer
path_answered_with22 n t (loaded f) = cond (listed (reached_with22 f n).ledger t) (success (depth_of (reached_with22 f n).ledger t ∷ [])) (refusal 30 t)
path_answered_with22 n t (refused number place) = refusal number place

unfoldable pub path_answer_with22 : List ℕ → ℕ → Lent → ℕ → List ℕ → Answer
path_answer_with22 bs n lent t list = cond (long_enough lent && leb path_places (length list)) (path_answered_with22 n t (load bs)) (refusal 1 0)

unfoldable pub path_buffers_with22 : List ℕ → ℕ → Lent → ℕ → List ℕ → Lent
path_buffers_with22 bs n lent t list = cond (leb path_places (length list)) (run_leaves_with22 bs n lent) lent

unfoldable pub path_listed_with22 : ℕ → ℕ → List ℕ → Load → List ℕ
path_listed_with22 n t list (loaded f) =
    cond (listed (reached_with22 f n).ledger t)
    (steps (reached_with22 f n).ledger (depth_of (reached_with22 f n).ledger t) t ++ drop (depth_of (reached_with22 f n).ledger t + 1) list)
    list
path_listed_with22 n t list (refused number place) = list

unfoldable pub path_leaves_with22 : List ℕ → ℕ → Lent → ℕ → List ℕ → List ℕ
path_leaves_with22 bs n lent t list = cond (long_enough lent && leb path_places (length list)) (path_listed_with22 n t list (load bs)) list

-- No outcome is 22: of every file that loads and every n.
abbrev pub Never22 : Type 0
Never22 = (bytes : List ℕ) (f : File) → load bytes ≡ loaded f → (n : ℕ) → Memᴰ 22 (outcomes_of_with22 f n) → ⊥

-- What Run and Path give is the same with the check and without it: both answers, the buffers after each, Path's list.
pub record Same (bytes : List ℕ) (n : ℕ) (lent : Lent) (t : ℕ) (list : List ℕ) : Type 0 where
  pub answer : run_answer_with22 bytes n lent ≡ run_answer bytes n lent
  pub buffers : run_leaves_with22 bytes n lent ≡ run_leaves bytes n lent
  pub answer_of_path : path_answer_with22 bytes n lent t list ≡ path_answer bytes n lent t list
  pub buffers_of_path : path_buffers_with22 bytes n lent t list ≡ path_buffers bytes n lent t list
  pub list_of_path : path_leaves_with22 bytes n lent t list ≡ path_leaves bytes n lent t list

-- of any bytes, and so of every file that loads, any n and any buffers
abbrev pub SameWithout22 : Type 0
SameWithout22 = (bytes : List ℕ) (n : ℕ) (lent : Lent) (t : ℕ) (list : List ℕ) → Same bytes n lent t list
