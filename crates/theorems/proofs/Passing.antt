-- What an outcome says of a command's tests: at 0 each passed; at a refusal one of that refusal failed, and those of earlier refusals passed.
-- Assumes nothing.
use mathlib.Core.Path.{◌≡◌, refl, sym, ap, subst, ◌∙◌}
use mathlib.Core.Logic.{⊎_elim}
use mathlib.Core.Bool.{Bool, true, false, false≢true, cond, not, ◌&&◌, ◌||◌}
use mathlib.Core.List.{List, [], ◌∷◌, ◌++◌}
use Prim.Native.Nat.{ℕ, ◌<◌}
use native.Mathlib.Omega.{arith}
use lib.Dec.{eqb}
use borrow.Author.Tests.{eq-eqb, ne_eqb, eqb-true, eqb-false}
use Rattle.rules.specs.Refusals.{Test, order, applies, first_of, refusal_of}
use Rattle.theorems.proofs.Booleans.{and_true, or_true, or_left, or_right}

-- each test passes
abbrev pub Passed : List Test → Type 0
Passed [] = Unit {0}
Passed (x ∷ xs) = (x.passes ≡ true) × Passed xs

-- each test of a refusal passes
abbrev pub Clear : ℕ → List Test → Type 0
Clear n [] = Unit {0}
Clear n (x ∷ xs) = (x.refusal ≡ n → x.passes ≡ true) × Clear n xs

abbrev pub among : ℕ → List ℕ → Bool
among n [] = false
among n (m ∷ ms) = eqb m n || among n ms

-- the numbers before n
abbrev pub before : ℕ → List ℕ → List ℕ
before n [] = []
before n (k ∷ ks) = cond (eqb k n) [] (k ∷ before n ks)

-- the tests' refusals are all in the list
abbrev pub ordered : List ℕ → List Test → Bool
ordered ns [] = true
ordered ns (x ∷ xs) = among x.refusal ns && ordered ns xs

clear_head : (a p : Bool) (n m : ℕ) (rest : Bool) → ((eqb m n && not p) || rest) ≡ false → m ≡ n → p ≡ true
clear_head a true n m rest e h = refl
clear_head a false n m rest e h = absurd (false≢true (sym e ∙ go (eqb m n) (eq-eqb m n h)))
  where
    go : (b : Bool) → b ≡ true → ((b && true) || rest) ≡ true
    go true e = refl
    go false e = absurd (false≢true e)

clear_tail : (a rest : Bool) → (a || rest) ≡ false → rest ≡ false
clear_tail true rest e = absurd (false≢true (sym e))
clear_tail false rest e = e

clear : (n : ℕ) (xs : List Test) → applies n xs ≡ false → Clear n xs
unfolding applies
clear n [] e = tt
clear n (x ∷ xs) e = (clear_head true x.passes n x.refusal (applies n xs) e, clear n xs (clear_tail (eqb x.refusal n && not x.passes) (applies n xs) e))

first_clear : (b : Bool) (k n rest : ℕ) → (k ≡ n → ⊥) → cond b k rest ≡ n → (b ≡ false) × (rest ≡ n)
first_clear true k n rest d e = absurd (d e)
first_clear false k n rest d e = (refl, e)

pub earlier_clear : (ks : List ℕ) (xs : List Test) (n : ℕ) → first_of ks xs ≡ n → (m : ℕ) → among m (before n ks) ≡ true → Clear m xs
unfolding first_of
earlier_clear [] xs n e m h = absurd (false≢true h)
earlier_clear (k ∷ ks) xs n e m h = go (eqb k n) refl h (earlier_clear ks xs n)
  where
    go : (b : Bool) → eqb k n ≡ b → among m (cond b [] (k ∷ before n ks)) ≡ true → (first_of ks xs ≡ n → (m : ℕ) → among m (before n ks) ≡ true → Clear m xs) → Clear m xs
    go true d h more = absurd (false≢true h)
    go false d h more =
        let c = first_clear (applies k xs) k n (first_of ks xs) (eqb-false k n d) e in
        ⊎_elim (λ i. subst (λ (j : ℕ). Clear j xs) (eqb-true k m i) (clear k xs c.0)) (more c.1 m) (or_true (eqb k m) (among m (before n ks)) h)

-- the tests of the refusals that are looked for before the outcome's passed
pub earlier_passed : (xs : List Test) (n : ℕ) → refusal_of xs ≡ n → (m : ℕ) → among m (before n order) ≡ true → Clear m xs
unfolding refusal_of
earlier_passed xs n e m h = earlier_clear order xs n e m h

all_passed : (ns : List ℕ) (xs : List Test) → ((n : ℕ) → among n ns ≡ true → Clear n xs) → ordered ns xs ≡ true → Passed xs
all_passed ns [] c o = tt
all_passed ns (x ∷ xs) c o =
    let oo = and_true (among x.refusal ns) (ordered ns xs) o in
    ((c x.refusal oo.0).0 refl, all_passed ns xs (λ n m. (c n m).1) oo.1)

-- a command's tests, whose refusals are in the order
pub passed : (xs : List Test) → ordered order xs ≡ true → refusal_of xs ≡ 0 → Passed xs
passed xs o e = all_passed order xs (earlier_passed xs 0 e) o

-- a refusal that is found applies
found : (ns : List ℕ) (xs : List Test) (n : ℕ) → 0 < n → first_of ns xs ≡ n → applies n xs ≡ true
unfolding first_of
found [] xs n h e = absurd (omega arith)
found (k ∷ ns) xs n h e = go (applies k xs) refl e (found ns xs n h)
  where
    go : (b : Bool) → applies k xs ≡ b → cond b k (first_of ns xs) ≡ n → (first_of ns xs ≡ n → applies n xs ≡ true) → applies n xs ≡ true
    go true a e more = subst (λ (j : ℕ). applies j xs ≡ true) e a
    go false a e more = more e

pub applied : (xs : List Test) (n : ℕ) → 0 < n → refusal_of xs ≡ n → applies n xs ≡ true
unfolding refusal_of
applied xs n h e = found order xs n h e

-- and it is a number of the list
pub found_among : (ns : List ℕ) (xs : List Test) (n : ℕ) → 0 < n → first_of ns xs ≡ n → among n ns ≡ true
unfolding first_of
found_among [] xs n h e = absurd (omega arith)
found_among (k ∷ ns) xs n h e = go (applies k xs) e (found_among ns xs n h)
  where
    go : (b : Bool) → cond b k (first_of ns xs) ≡ n → (first_of ns xs ≡ n → among n ns ≡ true) → (eqb k n || among n ns) ≡ true
    go true e more = or_left (eqb k n) (among n ns) (eq-eqb k n e)
    go false e more = or_right (eqb k n) (among n ns) (more e)

-- a number that is not in the list applies to no test whose refusals are
pub absent : (ns : List ℕ) (xs : List Test) (n : ℕ) → ordered ns xs ≡ true → among n ns ≡ false → applies n xs ≡ false
unfolding applies
absent ns [] n o a = refl
absent ns (x ∷ xs) n o a =
    let oo = and_true (among x.refusal ns) (ordered ns xs) o in
    rw (ne_eqb x.refusal n (λ e. false≢true (sym a ∙ ap (λ (m : ℕ). among m ns) (sym e) ∙ oo.0)), absent ns xs n oo.1 a) refl

pub none_fails : (ns : List ℕ) → first_of ns [] ≡ 0
unfolding first_of applies
none_fails [] = refl
none_fails (n ∷ ns) = none_fails ns

-- a test that passes is as if it were not there
passes_clear : (n : ℕ) (x : Test) (xs : List Test) → x.passes ≡ true → applies n (x ∷ xs) ≡ applies n xs
unfolding applies
passes_clear n x xs e = rw e (go (eqb x.refusal n))
  where
    go : (b : Bool) → ((b && not true) || applies n xs) ≡ applies n xs
    go true = refl
    go false = refl

pub passes_first : (ns : List ℕ) (x : Test) (xs : List Test) → x.passes ≡ true → first_of ns (x ∷ xs) ≡ first_of ns xs
unfolding first_of
passes_first [] x xs e = refl
passes_first (n ∷ ns) x xs e = rw (passes_clear n x xs e, passes_first ns x xs e) refl

-- tests before others
pub passed_both : (xs ys : List Test) → Passed (xs ++ ys) → Passed xs × Passed ys
passed_both [] ys h = (tt, h)
passed_both (x ∷ xs) ys h = let w = passed_both xs ys h.1 in ((h.0, w.0), w.1)

pub ordered_both : (ns : List ℕ) (xs ys : List Test) → ordered ns xs ≡ true → ordered ns ys ≡ true → ordered ns (xs ++ ys) ≡ true
ordered_both ns [] ys a b = b
ordered_both ns (x ∷ xs) ys a b = let w = and_true (among x.refusal ns) (ordered ns xs) a in rw (w.0, ordered_both ns xs ys w.1 b) refl

-- those that pass are as if they were not there
pub passed_first : (ns : List ℕ) (xs ys : List Test) → Passed xs → first_of ns (xs ++ ys) ≡ first_of ns ys
passed_first ns [] ys h = refl
passed_first ns (x ∷ xs) ys h = passes_first ns x (xs ++ ys) h.0 ∙ passed_first ns xs ys h.1

pub applies_both : (n : ℕ) (xs ys : List Test) → applies n xs ≡ false → applies n ys ≡ false → applies n (xs ++ ys) ≡ false
unfolding applies
applies_both n [] ys a b = b
applies_both n (x ∷ xs) ys a b = go (eqb x.refusal n && not x.passes) a (λ h. applies_both n xs ys h b)
  where
    go : (t : Bool) → (t || applies n xs) ≡ false → (applies n xs ≡ false → applies n (xs ++ ys) ≡ false) → (t || applies n (xs ++ ys)) ≡ false
    go true a more = absurd (false≢true (sym a))
    go false a more = more a
