-- The entries that a turn gains after those before. Assumes nothing.
use mathlib.Core.Path.{◌≡◌, sym, ap, ◌∙◌}
use mathlib.Core.List.{List, ◌++◌}
use Prim.Native.Nat.{ℕ, ◌+◌, ◌≤◌}
use native.Mathlib.Omega.{arith}
use lib.ListN.{length, drop, length-append}
use lib.Seq.{take_all}
use Rattle.rules.specs.declared.Entry.{Entry}
use Rattle.rules.specs.Limits.{term_limit}
use Rattle.ledger.specs.Placed.{puts}
use Rattle.ledger.proofs.Placed.{puts_onto, take_past}
use Rattle.turns.specs.Turns.{onto}

pub gained_onto : (es old g : List Entry) (n : ℕ) → length es ≡ n → n + length g ≤ term_limit → term_limit ≤ length old → {l z : List Entry} → l ≡ onto es old → z ≡ puts l n g (length g)
    → z ≡ onto (es ++ g) old
gained_onto es old g n m few room {l} {z} was put =
    put ∙ ap (λ (k : ℕ). puts l k g (length g)) (sym m)
    ∙ ap (λ (k : List Entry). puts k (length es) g (length g)) was
    ∙ puts_onto es g old (length g) (omega arith) (omega (arith, m, few, room))
    ∙ ap (λ (k : List Entry). k ++ drop (length es + length g) old) (take_past es g (length g) ∙ ap (λ (k : List Entry). es ++ k) (take_all (length g) g (omega arith)))
    ∙ ap (λ (k : ℕ). (es ++ g) ++ drop k old) (sym (length-append es g))
