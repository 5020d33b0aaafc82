-- What Run writes is what demand 3 speaks of, proved: of any bytes, any n and any buffers.
-- Assumes nothing.
use mathlib.Core.Path.{◌≡◌, refl, sym, ap, ◌∙◌}
use mathlib.Core.Bool.{Bool, true, false, false≢true, cond}
use mathlib.Core.List.{List, [], ◌∷◌, ◌++◌}
use mathlib.Core.Option.{some}
use Prim.Native.Nat.{ℕ, zero, suc, ◌+◌, ◌*◌, ◌-◌, ◌/◌, ◌%◌, ◌^◌, ◌<◌, ◌≤◌}
use native.Mathlib.Omega.{arith}
use lib.Dec.{leb}
use lib.ListN.{length, get_or, get_elem?, drop, replicate, get_or-append}
use Rattle.rules.specs.Limits.{file_limit, party_limit, term_limit, row_width, state_bytes}
use Rattle.rules.specs.File.{File}
use Rattle.rules.specs.Load.{Load, loaded, refused, load}
use Rattle.rules.specs.State.{State}
use Rattle.rules.specs.Run.{reached, issued}
use Rattle.rules.specs.Lent.{Answer, success, refusal, Lent, rows, first_part, no_entry, written, long_enough, answered, run_answer, leaves, run_leaves}
use Rattle.theorems.specs.Written.{Written, RunWrites}
use Rattle.theorems.proofs.Demand3.{demand3}
use Rattle.theorems.proofs.Laws.{few_issued}
use Rattle.theorems.proofs.Placed.{each_placed}
use Rattle.theorems.proofs.Rows.{bit_of, known_byte, rows_length}

-- the places of a first part: what is new, then zeros
module _ {A : Type 0} where
  at_new : (xs ys : List A) (k : ℕ) → k < length xs → get_elem? (xs ++ ys) k ≡ get_elem? xs k
  at_new [] ys k h = absurd (omega arith)
  at_new (x ∷ xs) ys zero h = refl
  at_new (x ∷ xs) ys (suc k) h = at_new xs ys k (omega arith)

  at_none : (m : ℕ) (a : A) (ys : List A) (k : ℕ) → k < m → get_elem? (replicate m a ++ ys) k ≡ some a
  at_none zero a ys k h = absurd (omega arith)
  at_none (suc m) a ys zero h = refl
  at_none (suc m) a ys (suc k) h = at_none m a ys k (omega arith)

  at_rest : (xs ys : List A) (m : ℕ) (a : A) (k : ℕ) → length xs ≤ k → k < length xs + m → get_elem? (xs ++ (replicate m a ++ ys)) k ≡ some a
  at_rest [] ys m a k l h = at_none m a ys k (omega arith)
  at_rest (x ∷ xs) ys m a zero l h = absurd (omega arith)
  at_rest (x ∷ xs) ys m a (suc k) l h = at_rest xs ys m a k (omega arith) (omega arith)

  first_new : (n : ℕ) (a : A) (new old : List A) (k : ℕ) → k < length new → get_elem? (first_part n a new old) k ≡ get_elem? new k
  unfolding first_part
  first_new n a new old k h = at_new new (replicate (n - length new) a ++ drop n old) k h

  first_none : (n : ℕ) (a : A) (new old : List A) (k : ℕ) → length new ≤ k → k < n → get_elem? (first_part n a new old) k ≡ some a
  unfolding first_part
  first_none n a new old k l h = at_rest new (drop n old) (n - length new) a k l (omega arith)

-- the bit of a party in the first byte of a term's row
known_bit : (s : State) (places old : List ℕ) (p t : ℕ) → p < party_limit → t < length places → get_or (first_part state_bytes 0 (rows s 0 places) old) (row_width * t) 0 / 2 ^ p % 2 ≡ cond (s.knows p t) 1 0
unfolding first_part
known_bit s places old p t h l =
    ap (λ (x : ℕ). x / 2 ^ p % 2) (get_or-append (rows s 0 places) _ 0 (row_width * t) (omega (arith, rows_length s 0 places)) ∙ known_byte s 0 t places l)
    ∙ bit_of party_limit (λ q. s.knows q (0 + t)) p h
    ∙ ap (λ (u : ℕ). cond (s.knows p u) 1 0) (let e : 0 + t ≡ t = omega arith in e)

one_true : (b : Bool) → ◌≡◌ {A = ℕ} (cond b 1 0) 1 → b ≡ true
one_true true e = refl
one_true false e = absurd (omega arith)

true_one : (b : Bool) → b ≡ true → ◌≡◌ {A = ℕ} (cond b 1 0) 1
true_one true e = refl
true_one false e = absurd (false≢true e)

-- a run that is not refused is of a file that loads
answered_ran : (n : ℕ) (l : Load) (a r i : ℕ) → answered n l ≡ success (a ∷ r ∷ i ∷ []) → (f : File) × (l ≡ loaded f) × (i ≡ issued f n)
unfolding answered
answered_ran n (loaded f) a r i e = (f, refl, ap (λ (x : Answer). get_or x.values 2 0) (sym e))
answered_ran n (refused number place) a r i e =
    absurd (let z : ◌≡◌ {A = ℕ} 0 3 = ap (λ (x : Answer). length x.values) e in omega arith)

long_ran : (b : Bool) (x : Answer) (a r i : ℕ) → cond b x (refusal 1 0) ≡ success (a ∷ r ∷ i ∷ []) → (b ≡ true) × (x ≡ success (a ∷ r ∷ i ∷ []))
long_ran true x a r i e = (refl, e)
long_ran false x a r i e =
    absurd (let z : ◌≡◌ {A = ℕ} 0 3 = ap (λ (y : Answer). length y.values) e in omega arith)

-- a file that loads is not too long
pub loaded_fits : (bytes : List ℕ) (f : File) → load bytes ≡ loaded f → leb (length bytes) file_limit ≡ true
unfolding load
loaded_fits bytes f e = go (leb (length bytes) file_limit) _ e
  where
    is_loaded : Load → ℕ
    is_loaded (loaded f) = 1
    is_loaded (refused r at) = 0

    go : (b : Bool) (x : Load) → cond b x (refused 2 0) ≡ loaded f → b ≡ true
    go true x e = refl
    go false x e = absurd (let z : ◌≡◌ {A = ℕ} 0 1 = ap is_loaded e in omega arith)

left_by : (bytes : List ℕ) (n : ℕ) (lent : Lent) (f : File) → long_enough lent ≡ true → load bytes ≡ loaded f → run_leaves bytes n lent ≡ leaves n lent (loaded f)
unfolding run_leaves
left_by bytes n lent f h e = rw (h, loaded_fits bytes f e, e) refl

pub demand3_written : RunWrites
unfolding run_answer leaves written issued
demand3_written bytes n lent a r i e =
    let w = long_ran (long_enough lent) (answered n (load bytes)) a r i e in
    let l = answered_ran n (load bytes) a r i w.1 in
    of l.0 l.1 l.2 (left_by bytes n lent l.0 w.0 l.1)
  where
    of : (f : File) → load bytes ≡ loaded f → i ≡ issued f n → run_leaves bytes n lent ≡ leaves n lent (loaded f) → Written bytes n lent i
    of f loads count left = record {
      file = f;
      loads = loads;
      resident = demand3 bytes f loads n;
      count = count;
      fits = omega (arith, few_issued bytes f loads n);
      entries = λ k h. ledger k ∙ first_new term_limit no_entry (reached f n).ledger lent.ledger k (omega arith);
      no_others = λ k h l. ledger k ∙ first_none term_limit no_entry (reached f n).ledger lent.ledger k (omega arith) l;
      known_bits = λ p t h l.
          let b = ap (λ (x : Lent). get_or x.state (row_width * t) 0 / 2 ^ p % 2) left ∙ known_bit (reached f n) f.places lent.state p t h (omega (arith, each_placed bytes f loads)) in
          let w = (demand3 bytes f loads n).bits p t in
          ((λ s. w.0 (one_true ((reached f n).knows p t) (sym b ∙ s))), (λ k. b ∙ true_one ((reached f n).knows p t) (w.1 k)));
    }
      where
        ledger : (k : ℕ) → get_elem? (run_leaves bytes n lent).ledger k ≡ get_elem? (first_part term_limit no_entry (reached f n).ledger lent.ledger) k
        ledger k = ap (λ (x : Lent). get_elem? x.ledger k) left
