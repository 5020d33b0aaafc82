-- The listing's lines as bytes (document 01, "Checks and listing").
use Rattle.std.specs.Prelude.{cond, List, [], ◌∷◌, ◌++◌, ℕ, zero, suc, ◌+◌, ◌/◌, ◌%◌, eqb, ltb, length}
use Rattle.rules.specs.declared.Entry.{Entry}
use Rattle.rules.specs.Load.{Load, loaded, refused, load}
use Rattle.rules.specs.Run.{reached, outcomes_of, accepted, refusals, issued}

-- decimal digits in front of some bytes; the first number bounds how many, and 20 are enough for 64 bits
unfoldable pub digits : ℕ → ℕ → List ℕ → List ℕ
digits zero x more = more
digits (suc n) x more = cond (ltb x 10) ((48 + x) ∷ more) (digits n (x / 10) ((48 + x % 10) ∷ more))

unfoldable pub decimal : ℕ → List ℕ
decimal x = digits 20 x []

-- numbers, each with a space in front, and the end of the line
unfoldable pub numbers : List ℕ → List ℕ
numbers [] = 10 ∷ []
numbers (x ∷ xs) = 32 ∷ (decimal x ++ numbers xs)

-- a line: its letter and its numbers
unfoldable pub line : ℕ → List ℕ → List ℕ
line letter xs = letter ∷ numbers xs

-- "R ordinal number" for each refused command; the first number is the ordinal of the list's first
unfoldable pub refusal_lines : ℕ → List ℕ → List ℕ
refusal_lines i [] = []
refusal_lines i (x ∷ xs) = cond (eqb x 0) [] (line 0x52 (i ∷ x ∷ [])) ++ refusal_lines (suc i) xs

-- "I certificate parent depth" in ledger order
unfoldable pub entry_lines : List Entry → List ℕ
entry_lines [] = []
entry_lines (e ∷ es) = line 0x49 (e.certificate ∷ e.parent ∷ e.depth ∷ []) ++ entry_lines es

-- then "T accepted refused issued"; "if not loaded, only F number place"
unfoldable pub lines : Load → List ℕ
lines (loaded f) =
    let n = length f.commands in
    refusal_lines 0 (outcomes_of f n) ++ (entry_lines (reached f n).ledger ++ line 0x54 (accepted f n ∷ refusals f n ∷ issued f n ∷ []))
lines (refused number place) = line 0x46 (number ∷ place ∷ [])

unfoldable pub listing : List ℕ → List ℕ
listing bs = lines (load bs)
