-- A refused command, a 43 of whatever pairs too, leaves every lent place but its outcome byte as it was (request 4 of document 02).
use Rattle.std.specs.Prelude.{◌≡◌, List, ℕ, suc}
use Rattle.std.proofs.Math.Option.{some}
use Rattle.std.proofs.Math.ListN.{get_elem?}
use Rattle.rules.specs.File.{File, Command}
use Rattle.rules.specs.Load.{loaded, load, commands_of}
use Rattle.rules.specs.Run.{outcome, reached}
use Rattle.rules.specs.Lent.{Lent, run_leaves}

-- what two lists have at every place but one
abbrev pub SameBut : ℕ → List ℕ → List ℕ → Type 0
SameBut n xs ys = (i : ℕ) → (i ≡ n → ⊥) → get_elem? xs i ≡ get_elem? ys i

-- Run of one command more, where that is refused, leaves what Run without it leaves, but for the outcome byte of its ordinal.
abbrev pub RefusedLeaves : Type 0
RefusedLeaves =
    (bytes : List ℕ) (f : File) → load bytes ≡ loaded f → (n : ℕ) (c : Command) → get_elem? (commands_of f) n ≡ some c → (outcome f (reached f n) c ≡ 0 → ⊥) → (lent : Lent)
    → ((run_leaves bytes (suc n) lent).state ≡ (run_leaves bytes n lent).state)
    × ((run_leaves bytes (suc n) lent).ledger ≡ (run_leaves bytes n lent).ledger)
    × ((run_leaves bytes (suc n) lent).registers ≡ (run_leaves bytes n lent).registers)
    × SameBut n (run_leaves bytes (suc n) lent).outcomes (run_leaves bytes n lent).outcomes
