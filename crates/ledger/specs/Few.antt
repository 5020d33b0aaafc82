-- The entries that a command gains: what a contract sees of them, and the places that hold them.
use Rattle.std.specs.Prelude.{◌≡◌, List, ℕ, ◌++◌, ◌-◌, ◌≤◌, length, take, drop, replicate}
use Rattle.std.proofs.Common.{sym, ◌∙◌, ap, subst, length-take-le, take-append-drop}
use Rattle.rules.specs.declared.Entry.{Entry}
use Rattle.rules.specs.Limits.{pair_count}
use Rattle.rules.specs.Lent.{no_entry}

-- the entries, in order
pub record Items : Type 0 where
  pub items : List Entry

-- at most four, and the entry of zeros at each place that is not used
pub record Few (count : ℕ) (entries : List Entry) : Type 0 where
  pub few : count ≤ pair_count
  pub long : length entries ≡ pair_count
  pub rest : drop count entries ≡ replicate (pair_count - count) no_entry

-- the places that hold some entries
abbrev pub filled : List Entry → List Entry
filled xs = xs ++ replicate (pair_count - length xs) no_entry

-- the list fixes them
pub count_back : (k : ℕ) (xs : List Entry) → Few k xs → length (take k xs) ≡ k
count_back k xs h = length-take-le k xs (subst (λ (m : ℕ). k ≤ m) (sym h.long) h.few)

pub entries_back : (k : ℕ) (xs : List Entry) → Few k xs → filled (take k xs) ≡ xs
entries_back k xs h =
    ap (λ (m : ℕ). take k xs ++ replicate (pair_count - m) no_entry) (count_back k xs h)
    ∙ ap (λ (r : List Entry). take k xs ++ r) (sym h.rest)
    ∙ take-append-drop k xs
