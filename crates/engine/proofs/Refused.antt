-- What a refused command leaves in the lent places.
--     refused-leaves     all but its outcome byte as it was
-- Assumes nothing.
use mathlib.Core.Path.{◌≡◌, refl, sym, ap, ◌∙◌}
use mathlib.Core.Bool.{Bool, true, false, cond, ◌&&◌}
use mathlib.Core.List.{List, [], ◌∷◌, ◌++◌}
use mathlib.Core.Option.{some}
use Prim.Native.Nat.{ℕ, zero, suc, ◌-◌, ◌<◌, min}
use native.Mathlib.Omega.{arith}
use lib.ListN.{length, length-append, length-take, take, drop, replicate, get_elem?}
use borrow.Author.Tests.{leb-true}
use Rattle.rules.specs.Limits.{file_limit, term_limit, party_limit, command_limit, state_bytes, register_bytes}
use Rattle.rules.specs.File.{File, Command}
use Rattle.rules.specs.Load.{loaded, load, commands_of}
use Rattle.rules.specs.State.{State, start}
use Rattle.rules.specs.Run.{outcome, after, run, outcomes, first_commands, reached, outcomes_of}
use Rattle.rules.specs.Lent.{Lent, rows, register_rows, first_part, no_entry, long_enough, written, leaves, run_leaves}
use Rattle.theorems.proofs.Running.{after_refused, reached_next, take_next}
use Rattle.theorems.proofs.Ledgers.{at_below}
use Rattle.theorems.proofs.Written.{loaded_fits}
use Rattle.theorems.proofs.Laws.{outcome_each}
use Rattle.engine.specs.Refused.{SameBut, RefusedLeaves}
use Rattle.engine.proofs.Few.{few_outcomes}

outcomes_both : (f : File) (xs ys : List Command) (s : State) → outcomes f (xs ++ ys) s ≡ outcomes f xs s ++ outcomes f ys (run f xs s)
unfolding outcomes run
outcomes_both f [] ys s = refl
outcomes_both f (x ∷ xs) ys s = ap (λ (os : List ℕ). outcome f s x ∷ os) (outcomes_both f xs ys (after f s x))

-- one more in a list with others after it
same_but : (xs : List ℕ) (x d : ℕ) (ys : List ℕ) → SameBut (length xs) ((xs ++ (x ∷ [])) ++ ys) (xs ++ (d ∷ ys))
same_but [] x d ys zero n = absurd (n refl)
same_but [] x d ys (suc i) n = refl
same_but (z ∷ xs) x d ys zero n = refl
same_but (z ∷ xs) x d ys (suc i) n = same_but xs x d ys i (λ e. n (ap suc e))

part_but : (m : ℕ) (xs : List ℕ) (x : ℕ) (old : List ℕ) → length xs < m → SameBut (length xs) (first_part m 0 (xs ++ (x ∷ [])) old) (first_part m 0 xs old)
unfolding first_part
part_but m xs x old l i n =
    let a : m - length (xs ++ (x ∷ [])) ≡ m - suc (length xs) = omega (arith, length-append xs (x ∷ [])) in
    let b : suc (m - suc (length xs)) ≡ m - length xs = omega arith in
    ap (λ (k : ℕ). get_elem? ((xs ++ (x ∷ [])) ++ (replicate k 0 ++ drop m old)) i) a
    ∙ same_but xs x 0 (replicate (m - suc (length xs)) 0 ++ drop m old) i n
    ∙ ap (λ (k : ℕ). get_elem? (xs ++ (replicate k 0 ++ drop m old)) i) b

module _ (bytes : List ℕ) (f : File) (loads : load bytes ≡ loaded f) (n : ℕ) (c : Command) (here : get_elem? (commands_of f) n ≡ some c) (no : outcome f (reached f n) c ≡ 0 → ⊥) (lent : Lent) where
  same : reached f (suc n) ≡ reached f n
  same = reached_next f n c here ∙ after_refused f (reached f n) c no

  one_more : outcomes_of f (suc n) ≡ outcomes_of f n ++ (outcome f (reached f n) c ∷ [])
  unfolding outcomes_of first_commands reached outcomes
  one_more = ap (λ (cs : List Command). outcomes f cs (start f)) (take_next (commands_of f) n c here) ∙ outcomes_both f (take n (commands_of f)) (c ∷ []) (start f)

  counted : length (outcomes_of f n) ≡ n
  unfolding outcomes_of first_commands
  counted =
      let b = at_below (commands_of f) n c here in
      outcome_each f (take n (commands_of f)) (start f) ∙ length-take n (commands_of f) ∙ (let q : min n (length (commands_of f)) ≡ n = omega arith in q)

  room : length (outcomes_of f n) < command_limit
  room =
      let h = few_outcomes bytes f loads (leb-true (length bytes) file_limit (loaded_fits bytes f loads)) (suc n) in
      omega (arith, h, ap length one_more, length-append (outcomes_of f n) (outcome f (reached f n) c ∷ []))

  abbrev after_of : ℕ → Lent
  after_of m = written (rows (reached f m) 0 f.places) (reached f m).ledger (outcomes_of f m) (register_rows (reached f m).registers 0 party_limit) lent

  left : (m : ℕ) → run_leaves bytes m lent ≡ cond (long_enough lent) (after_of m) lent
  unfolding run_leaves leaves
  left m = rw (loaded_fits bytes f loads, loads) (go (long_enough lent))
    where
      go : (b : Bool) → cond (b && true) (after_of m) lent ≡ cond b (after_of m) lent
      go true = refl
      go false = refl

  unchanged : (b : Bool) → ((cond b (after_of (suc n)) lent).state ≡ (cond b (after_of n) lent).state) × ((cond b (after_of (suc n)) lent).ledger ≡ (cond b (after_of n) lent).ledger) × ((cond b (after_of (suc n)) lent).registers ≡ (cond b (after_of n) lent).registers)
  unfolding written
  unchanged true = (
    ap (λ (s : State). first_part state_bytes 0 (rows s 0 f.places) lent.state) same,
    ap (λ (s : State). first_part term_limit no_entry s.ledger lent.ledger) same,
    ap (λ (s : State). first_part register_bytes 0 (register_rows s.registers 0 party_limit) lent.registers) same,
  )
  unchanged false = (refl, refl, refl)

  outcomes_but : (b : Bool) → SameBut n (cond b (after_of (suc n)) lent).outcomes (cond b (after_of n) lent).outcomes
  unfolding written
  outcomes_but true i d =
      ap (λ (os : List ℕ). get_elem? (first_part command_limit 0 os lent.outcomes) i) one_more
      ∙ part_but command_limit (outcomes_of f n) (outcome f (reached f n) c) lent.outcomes room i (λ e. d (e ∙ counted))
  outcomes_but false i d = refl

pub refused_leaves : RefusedLeaves
refused_leaves bytes f loads n c h r lent =
    let a = left bytes f loads n c h r lent (suc n) in
    let b = left bytes f loads n c h r lent n in
    let w = unchanged bytes f loads n c h r lent (long_enough lent) in (
      ap (λ (l : Lent). l.state) a ∙ w.0 ∙ ap (λ (l : Lent). l.state) (sym b),
      ap (λ (l : Lent). l.ledger) a ∙ w.1 ∙ ap (λ (l : Lent). l.ledger) (sym b),
      ap (λ (l : Lent). l.registers) a ∙ w.2 ∙ ap (λ (l : Lent). l.registers) (sym b),
      (λ i d. ap (λ (l : Lent). get_elem? l.outcomes i) a ∙ outcomes_but bytes f loads n c h r lent (long_enough lent) i d ∙ ap (λ (l : Lent). get_elem? l.outcomes i) (sym b)),
    )
