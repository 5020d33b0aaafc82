-- Refusal 22 can go: it is no outcome of the commands with its check, and Run and Path give the same without it.
--     left_out, unasked     an order without a number, and tests without one that the order does not have
--     same_outcome          past 21 the certificate in the request is listed, so the check passes where it is looked for
--     same-run              the commands one after the other
-- Assumes nothing.
use mathlib.Core.Path.{◌≡◌, refl, sym, subst, ◌∙◌}
use mathlib.Core.Logic.{⊎_elim}
use mathlib.Core.Bool.{Bool, true, false, false≢true, cond, not, ◌&&◌, ◌||◌}
use mathlib.Core.List.Memᴰ
use mathlib.Core.List.{List, [], ◌∷◌, ◌++◌, Memᴰ}
use Prim.Native.Nat.{ℕ}
use lib.Dec.{eqb}
use borrow.Author.Tests.{eqb-false, ne_eqb}
use Rattle.rules.specs.Refusals.{Test, need, order, applies, first_of, refusal_of}
use Rattle.rules.specs.declared.Family.{Family}
use Rattle.rules.specs.Families.{request_families}
use Rattle.rules.specs.Term.{ldevid_request_kind, pair_kind}
use Rattle.rules.specs.File.{File, Command, hash, sign, certify, make_credential, activate_credential, make_idevid_request, make_ldevid_request, make_pair, check_hash, check_signature, check_certificate, check_attributes, send, self_issue, challenge, issue_iak, issue, issue_iaks, extend, quote, left_of}
use Rattle.rules.specs.Load.{Load, loaded, refused, load}
use Rattle.rules.specs.State.{State, start, listed}
use Rattle.rules.specs.Desk.{request_body, form_tests, proof_tests, parent_certificate_of, issue_tests}
use Rattle.rules.specs.Run.{tests_of, outcome, after, run, outcomes, first_commands, reached, outcomes_of, accepted, refusals, issued}
use Rattle.rules.specs.Lent.{Lent, answered, run_answer, leaves, run_leaves, asked, steps_from, path_answer, path_buffers, path_written, path_listed, path_leaves}
use Rattle.theorems.specs.Refusal22.{order_with22, check22, tests_with22, outcome_with22, after_with22, run_with22, outcomes_with22, reached_with22, outcomes_of_with22, answered_with22, run_answer_with22, leaves_with22, run_leaves_with22, path_answered_with22, path_answer_with22, path_buffers_with22, path_listed_with22, path_leaves_with22, Never22, SameWithout22}
use Rattle.theorems.proofs.Passing.{among, before, Clear, earlier_clear, absent}
use Rattle.theorems.proofs.Loading.{Checked, checked, Wellformed}
use Rattle.theorems.proofs.Terms.{is_kind_kind}
use Rattle.theorems.proofs.Running.{tests_ordered, first_member}
use Rattle.theorems.proofs.Invariant.{Invariant}
use Rattle.theorems.proofs.Requests.{parent_listed}
use Rattle.theorems.proofs.Reaching.{start_invariant, after_invariant}
use Rattle.theorems.proofs.Laws.{never_22}

-- an order without a number that applies only where one before it does
left_out : (earlier later : List ℕ) (n : ℕ) (xs : List Test) → (first_of earlier xs ≡ 0 → applies n xs ≡ false) → first_of (earlier ++ (n ∷ later)) xs ≡ first_of (earlier ++ later) xs
unfolding first_of
left_out [] later n xs h = rw (h refl) refl
left_out (k ∷ ks) later n xs h = go (applies k xs) h (left_out ks later n xs)
  where
    go : (b : Bool) → (cond b k (first_of ks xs) ≡ 0 → applies n xs ≡ false)
        → ((first_of ks xs ≡ 0 → applies n xs ≡ false) → first_of (ks ++ (n ∷ later)) xs ≡ first_of (ks ++ later) xs)
        → cond b k (first_of (ks ++ (n ∷ later)) xs) ≡ cond b k (first_of (ks ++ later) xs)
    go true h more = refl
    go false h more = more h

-- a test whose number the order does not have
unasked : (ns : List ℕ) (x : Test) (xs : List Test) → among x.refusal ns ≡ false → first_of ns (x ∷ xs) ≡ first_of ns xs
unfolding first_of applies
unasked [] x xs e = refl
unasked (k ∷ ks) x xs e = go (eqb k x.refusal) refl e (unasked ks x xs)
  where
    go : (b : Bool) → eqb k x.refusal ≡ b → (b || among x.refusal ks) ≡ false → (among x.refusal ks ≡ false → first_of ks (x ∷ xs) ≡ first_of ks xs)
        → cond ((eqb x.refusal k && not x.passes) || applies k xs) k (first_of ks (x ∷ xs)) ≡ cond (applies k xs) k (first_of ks xs)
    go true d e more = absurd (false≢true (sym e))
    go false d e more = rw (ne_eqb x.refusal k (λ i. eqb-false k x.refusal d (sym i)), more e) refl

-- the numbers before 22, and those after it
abbrev early : List ℕ
early = before 22 order_with22

abbrev beyond : ℕ → List ℕ → List ℕ
beyond n [] = []
beyond n (k ∷ ks) = cond (eqb k n) ks (beyond n ks)

abbrev late : List ℕ
late = beyond 22 order_with22

-- 22 may be left out of the order where the check passes whenever it is looked for, and where there is no check
unlooked : (xs : List Test) → (first_of early xs ≡ 0 → applies 22 xs ≡ false) → first_of order_with22 xs ≡ refusal_of xs
unfolding refusal_of
unlooked xs h = left_out early late 22 xs h

no_22 : (f : File) (s : State) (c : Command) → applies 22 (tests_of f s c) ≡ false
no_22 f s c = absent order (tests_of f s c) 22 (tests_ordered f s c) refl

module _ (f : File) (ck : Checked f) (s : State) (inv : Invariant f s) where
  -- a command that made no check
  unchecked : (c : Command) → check22 f s c ≡ [] → outcome_with22 f s c ≡ outcome f s c
  unfolding outcome outcome_with22 tests_with22
  unchecked c e = rw e (unlooked (tests_of f s c) (λ z. no_22 f s c))

  -- 40, 41, 42
  module _ (family : Family) (p q r : ℕ) (row : Memᴰ family request_families) where
    abbrev check : Test
    check = need 22 (listed s.ledger (parent_certificate_of f q))

    -- where no refusal before 22 applies, the check passes
    check_passes : first_of early (check ∷ issue_tests f s family p q r) ≡ 0 → listed s.ledger (parent_certificate_of f q) ≡ true
    unfolding issue_tests form_tests proof_tests request_body
    check_passes e =
        parent_listed f ck s inv p q
        (record {
          known = (clear 14 refl).1.1.0 refl;
          pair = is_kind_kind f pair_kind q ((clear 19 refl).1.1.1.0 refl);
          body = is_kind_kind f ldevid_request_kind (left_of f q) ((clear 19 refl).1.1.1.1.0 refl);
          family = family;
          row = row;
          signed = (clear 21 refl).1.1.1.1.1.1.1.1.1.1.1.1.0 refl;
        })
      where
        clear : (n : ℕ) → among n early ≡ true → Clear n (check ∷ issue_tests f s family p q r)
        clear = earlier_clear early (check ∷ issue_tests f s family p q r) 0 e

    checked_issue : outcome_with22 f s (issue family p q r) ≡ outcome f s (issue family p q r)
    unfolding outcome outcome_with22 tests_with22 check22 tests_of refusal_of applies
    checked_issue =
        unlooked (check ∷ issue_tests f s family p q r) (λ e. rw (check_passes e, no_22 f s (issue family p q r)) refl)
        ∙ unasked order check (issue_tests f s family p q r) refl

  same_outcome : (c : Command) → Wellformed f c → outcome_with22 f s c ≡ outcome f s c
  unfolding check22
  same_outcome (hash p r) w = unchecked (hash p r) refl
  same_outcome (sign p r) w = unchecked (sign p r) refl
  same_outcome (certify p r) w = unchecked (certify p r) refl
  same_outcome (make_credential p r) w = unchecked (make_credential p r) refl
  same_outcome (activate_credential p r) w = unchecked (activate_credential p r) refl
  same_outcome (make_idevid_request p r) w = unchecked (make_idevid_request p r) refl
  same_outcome (make_ldevid_request p r) w = unchecked (make_ldevid_request p r) refl
  same_outcome (make_pair p r) w = unchecked (make_pair p r) refl
  same_outcome (check_hash p h t) w = unchecked (check_hash p h t) refl
  same_outcome (check_signature p t k) w = unchecked (check_signature p t k) refl
  same_outcome (check_certificate p c k) w = unchecked (check_certificate p c k) refl
  same_outcome (check_attributes p k a) w = unchecked (check_attributes p k a) refl
  same_outcome (send p q t) w = unchecked (send p q t) refl
  same_outcome (self_issue p r) w = unchecked (self_issue p r) refl
  same_outcome (challenge p q r) w = unchecked (challenge p q r) refl
  same_outcome (issue_iak p q c r) w = unchecked (issue_iak p q c r) refl
  same_outcome (issue family p q r) w = checked_issue family p q r w.3
  same_outcome (issue_iaks p q xs) w = unchecked (issue_iaks p q xs) refl
  same_outcome (extend p i r) w = unchecked (extend p i r) refl
  same_outcome (quote p r) w = unchecked (quote p r) refl

  same_after : (c : Command) → Wellformed f c → after_with22 f s c ≡ after f s c
  unfolding after_with22 after
  same_after c w = rw (same_outcome c w) refl

module _ (f : File) (ck : Checked f) where
  -- commands one after the other
  same_run : (cs : List Command) → ((c : Command) → Memᴰ c cs → Wellformed f c) → (s : State) → Invariant f s → (run_with22 f cs s ≡ run f cs s) × (outcomes_with22 f cs s ≡ outcomes f cs s)
  unfolding run_with22 run outcomes_with22 outcomes
  same_run [] w s inv = (refl, refl)
  same_run (c ∷ cs) w s inv =
      let here = w c (Memᴰ.head refl) in
      let more = same_run cs (λ d m. w d (Memᴰ.tail m)) (after f s c) (after_invariant f ck s inv c here) in
      (rw (same_after f ck s inv c here) more.0, rw (same_outcome f ck s inv c here, same_after f ck s inv c here, more.1) refl)

  same_first_lem : (n : ℕ) → (reached_with22 f n ≡ reached f n) × (outcomes_of_with22 f n ≡ outcomes_of f n)
  unfolding reached_with22 reached outcomes_of_with22 outcomes_of
  same_first_lem n = same_run (first_commands f n) (λ c m. ck.wellformed c (first_member f n c m)) (start f) (start_invariant f ck)

-- an outcome is that of some command in some state
none_22 : (f : File) (cs : List Command) (s : State) → Memᴰ 22 (outcomes f cs s) → ⊥
unfolding outcomes
none_22 f [] s m = elim m [ ]
none_22 f (c ∷ cs) s m = ⊎_elim (λ e. never_22 f s c (sym e)) (none_22 f cs (after f s c)) (Memᴰ.cases_cons m)

pub never22 : Never22
unfolding outcomes_of
never22 bytes f loads n m =
    let ck = checked bytes f loads in
    none_22 f (first_commands f n) (start f) (subst (Memᴰ 22) (same_first_lem f ck n).1 m)

module _ (bytes : List ℕ) (n : ℕ) where
  same_answered : (l : Load) → load bytes ≡ l → answered_with22 n l ≡ answered n l
  unfolding answered_with22 answered accepted refusals issued
  same_answered (loaded f) e = let w = same_first_lem f (checked bytes f e) n in rw (w.0, w.1) refl
  same_answered (refused number place) e = refl

  same_leaves : (lent : Lent) (l : Load) → load bytes ≡ l → leaves_with22 n lent l ≡ leaves n lent l
  unfolding leaves_with22 leaves
  same_leaves lent (loaded f) e = let w = same_first_lem f (checked bytes f e) n in rw (w.0, w.1) refl
  same_leaves lent (refused number place) e = refl

  same_path : (t : ℕ) (l : Load) → load bytes ≡ l → path_answered_with22 n t l ≡ asked (steps_from t) n l
  unfolding path_answered_with22 asked steps_from
  same_path t (loaded f) e = rw (same_first_lem f (checked bytes f e) n).0 refl
  same_path t (refused number place) e = refl

  same_list_lem : (t : ℕ) (list : List ℕ) (l : Load) → load bytes ≡ l → path_listed_with22 n t list l ≡ path_listed n t list l
  unfolding path_listed_with22 path_listed path_written
  same_list_lem t list (loaded f) e = rw (same_first_lem f (checked bytes f e) n).0 refl
  same_list_lem t list (refused number place) e = refl

  same_buffers : (lent : Lent) → run_leaves_with22 bytes n lent ≡ run_leaves bytes n lent
  unfolding run_leaves_with22 run_leaves
  same_buffers lent = rw (same_leaves lent (load bytes) refl) refl

pub same_without_22 : SameWithout22
unfolding run_answer_with22 run_answer path_answer_with22 path_answer path_buffers_with22 path_buffers path_leaves_with22 path_leaves
same_without_22 bytes n lent t list = record {
  answer = rw (same_answered bytes n (load bytes) refl) refl;
  buffers = same_buffers bytes n lent;
  answer_of_path = rw (same_path bytes n t (load bytes) refl) refl;
  buffers_of_path = rw (same_buffers bytes n lent) refl;
  list_of_path = rw (same_list_lem bytes n t list (load bytes) refl) refl;
}
