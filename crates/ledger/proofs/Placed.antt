-- A ledger's places, one by one.
--     length_cleared, cleared_none, cleared_more     places cleared
--     cleared_first                       the rules' first part, of entries on cleared places
--     length_puts, puts_none, puts_more   entries written from a place on
--     puts_onto                           after others
--     least_all, puts_next, puts_past     as a walk over more places writes them
-- Assumes nothing.
use mathlib.Core.Bool.{Bool, true, false, cond}
use mathlib.Core.Path.{◌≡◌, refl, sym, ◌∙◌, ap}
use mathlib.Core.List.{List, [], ◌∷◌, ◌++◌}
use Prim.Native.Nat.{ℕ, zero, suc, ◌+◌, ◌-◌, ◌<◌, ◌≤◌}
use native.Mathlib.Omega.{arith}
use lib.Dec.{ltb}
use borrow.Author.Tests.{ltb-true, ltb-false}
use lib.ListN.{length, get_or, set, take, drop, replicate, length-set, length-append}
use Rattle.rules.specs.declared.Entry.{Entry}
use Rattle.rules.specs.Lent.{no_entry, first_part}
use Rattle.ledger.specs.Placed.{cleared, puts}

-- ---- entries after others
one_more : (k : ℕ) (xs l : List Entry) → k < length xs → k < length l → set (take k xs ++ drop k l) k (get_or xs k no_entry) ≡ take (suc k) xs ++ drop (suc k) l
one_more k [] l h g = absurd (omega (arith, h))
one_more k (x ∷ xs) [] h g = absurd (omega (arith, g))
one_more zero (x ∷ xs) (y ∷ l) h g = refl
one_more (suc k) (x ∷ xs) (y ∷ l) h g = ap (λ (r : List Entry). x ∷ r) (one_more k xs l (omega (arith, h)) (omega (arith, g)))

none_more : (k : ℕ) → 0 + k ≡ k
none_more k = omega arith

one_past : (n k : ℕ) → suc n + k ≡ suc (n + k)
one_past n k = omega arith

more_none : (k : ℕ) → k + 0 ≡ k
more_none k = omega arith

past_one : (n k : ℕ) → suc (n + k) ≡ n + suc k
past_one n k = omega arith

pub take_past : (es xs : List Entry) (k : ℕ) → take (length es + k) (es ++ xs) ≡ es ++ take k xs
take_past [] xs k = ap (λ (m : ℕ). take m xs) (none_more k)
take_past (e ∷ es) xs k = ap (λ (m : ℕ). take m (e ∷ (es ++ xs))) (one_past (length es) k) ∙ ap (λ (r : List Entry). e ∷ r) (take_past es xs k)

at_past : (es xs : List Entry) (k : ℕ) → get_or (es ++ xs) (length es + k) no_entry ≡ get_or xs k no_entry
at_past [] xs k = ap (λ (m : ℕ). get_or xs m no_entry) (none_more k)
at_past (e ∷ es) xs k = ap (λ (m : ℕ). get_or (e ∷ (es ++ xs)) m no_entry) (one_past (length es) k) ∙ at_past es xs k

no_end : (es : List Entry) → es ++ [] ≡ es
no_end [] = refl
no_end (e ∷ es) = ap (λ (r : List Entry). e ∷ r) (no_end es)

puts_zero : (l : List Entry) (from : ℕ) (xs : List Entry) → puts l from xs 0 ≡ l
unfolding puts
puts_zero l from xs = refl

puts_suc : (l : List Entry) (from : ℕ) (xs : List Entry) (k : ℕ) → puts l from xs (suc k) ≡ set (puts l from xs k) (from + k) (get_or xs k no_entry)
unfolding puts
puts_suc l from xs k = refl

pub puts_onto : (es xs l : List Entry) (k : ℕ) → k ≤ length xs → length es + k ≤ length l → puts (es ++ drop (length es) l) (length es) xs k ≡ take (length es + k) (es ++ xs) ++ drop (length es + k) l
puts_onto es xs l zero h g =
    puts_zero (es ++ drop (length es) l) (length es) xs
    ∙ ap (λ (m : ℕ). es ++ drop m l) (sym (more_none (length es)))
    ∙ ap (λ (r : List Entry). r ++ drop (length es + 0) l) (sym (take_past es xs 0 ∙ no_end es))
puts_onto es xs l (suc k) h g =
    puts_suc (es ++ drop (length es) l) (length es) xs k
    ∙ ap (λ (r : List Entry). set r (length es + k) (get_or xs k no_entry)) (puts_onto es xs l k (omega (arith, h)) (omega (arith, g)))
    ∙ ap (λ (e : Entry). set (take (length es + k) (es ++ xs) ++ drop (length es + k) l) (length es + k) e) (sym (at_past es xs k))
    ∙ one_more (length es + k) (es ++ xs) l (omega (arith, h, length-append es xs)) (omega (arith, g))
    ∙ ap (λ (m : ℕ). take m (es ++ xs) ++ drop m l) (past_one (length es) k)

-- ---- the entries gained, one by one
pub length_puts : (l : List Entry) (from : ℕ) (xs : List Entry) (k : ℕ) → length (puts l from xs k) ≡ length l
unfolding puts
length_puts l from xs zero = refl
length_puts l from xs (suc k) = length-set (puts l from xs k) (from + k) (get_or xs k no_entry) ∙ length_puts l from xs k

pub puts_none : (l : List Entry) (from : ℕ) (xs : List Entry) → puts l from xs 0 ≡ l
unfolding puts
puts_none l from xs = refl

pub puts_more : (l : List Entry) (from : ℕ) (xs : List Entry) (i : ℕ) → puts l from xs (i + 1) ≡ set (puts l from xs i) (from + i) (get_or xs i no_entry)
puts_more l from xs i = let e : i + 1 ≡ suc i = omega arith in ap (puts l from xs) e ∙ puts_suc l from xs i

-- ---- the same, by a walk over places that may be more than the entries
abbrev pub least : ℕ → ℕ → ℕ
least i n = cond (ltb i n) i n

least_go : (i n : ℕ) (b : Bool) → ltb i n ≡ b → (i ≤ n → least i n ≡ i) × (n ≤ i → least i n ≡ n)
least_go i n true e = (λ _. rw e refl, λ h. absurd (omega (arith, h, ltb-true i n e)))
least_go i n false e = (λ h. rw e (let q : n ≡ i = omega (arith, h, ltb-false i n e) in q), λ _. rw e refl)

pub least_none : (l : List Entry) (from : ℕ) (xs : List Entry) → puts l from xs (least 0 (length xs)) ≡ l
least_none l from xs = rw ((least_go 0 (length xs) (ltb 0 (length xs)) refl).0 (omega arith)) (puts_none l from xs)

pub least_all : (i n : ℕ) → n ≤ i → least i n ≡ n
least_all i n h = (least_go i n (ltb i n) refl).1 h

pub puts_next : (l : List Entry) (from : ℕ) (xs : List Entry) (i n : ℕ) → i < n → set (puts l from xs (least i n)) (from + i) (get_or xs i no_entry) ≡ puts l from xs (least (i + 1) n)
puts_next l from xs i n h = rw ((least_go i n (ltb i n) refl).0 (omega (arith, h)), (least_go (i + 1) n (ltb (i + 1) n) refl).0 (omega (arith, h))) (sym (puts_more l from xs i))

pub puts_past : (l : List Entry) (from : ℕ) (xs : List Entry) (i n : ℕ) → n ≤ i → puts l from xs (least i n) ≡ puts l from xs (least (i + 1) n)
puts_past l from xs i n h = rw (least_all i n h, least_all (i + 1) n (omega (arith, h))) refl

-- ---- places cleared
pub length_cleared : (l : List Entry) (k : ℕ) → length (cleared l k) ≡ length l
unfolding cleared
length_cleared l zero = refl
length_cleared l (suc k) = length-set (cleared l k) k no_entry ∙ length_cleared l k

-- ---- entries on cleared places
clear_suc_at : (l : List Entry) (k : ℕ) → k < length l → set (replicate k no_entry ++ drop k l) k no_entry ≡ replicate (suc k) no_entry ++ drop (suc k) l
clear_suc_at [] k h = absurd (omega (arith, h))
clear_suc_at (x ∷ l) zero h = refl
clear_suc_at (x ∷ l) (suc k) h = ap (λ (r : List Entry). no_entry ∷ r) (clear_suc_at l k (omega (arith, h)))

cleared_is : (l : List Entry) (k : ℕ) → k ≤ length l → cleared l k ≡ replicate k no_entry ++ drop k l
unfolding cleared
cleared_is l zero h = refl
cleared_is l (suc k) h = ap (λ (r : List Entry). set r k no_entry) (cleared_is l k (omega (arith, h))) ∙ clear_suc_at l k h

-- a first part that is filled with the entry that says nothing
pub cleared_none : (l : List Entry) → cleared l 0 ≡ l
unfolding cleared
cleared_none l = refl

-- a place more, by an entry of zeros
pub cleared_more : (l : List Entry) (k : ℕ) (e : Entry) → (e.certificate ≡ 0) × ((e.parent ≡ 0) × (e.depth ≡ 0)) → set (cleared l k) k e ≡ cleared l (k + 1)
unfolding cleared
cleared_more l k e q =
    let n : suc k ≡ k + 1 = omega arith in
    ap (λ (d : Entry). set (cleared l k) k d) (λ j. record { certificate = q.0 j; parent = q.1.0 j; depth = q.1.1 j }) ∙ ap (cleared l) n

drop_cleared : (m k : ℕ) (l : List Entry) → m ≤ k → drop m (replicate k no_entry ++ l) ≡ replicate (k - m) no_entry ++ l
drop_cleared zero k l h = ap (λ (i : ℕ). replicate i no_entry ++ l) (let e : k ≡ k - 0 = omega arith in e)
drop_cleared (suc m) zero l h = absurd (omega (arith, h))
drop_cleared (suc m) (suc k) l h = drop_cleared m k l (omega (arith, h)) ∙ ap (λ (i : ℕ). replicate i no_entry ++ l) (let e : k - m ≡ suc k - suc m = omega arith in e)

pub cleared_first : (es l : List Entry) (k : ℕ) → k ≤ length l → length es ≤ k → es ++ drop (length es) (cleared l k) ≡ first_part k no_entry es l
unfolding first_part
cleared_first es l k h g =
    ap (λ (r : List Entry). es ++ drop (length es) r) (cleared_is l k h)
    ∙ ap (λ (r : List Entry). es ++ r) (drop_cleared (length es) k (drop k l) g)
