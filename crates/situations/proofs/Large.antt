-- The large starred situations of document 01 ("Situations"): as many terms as a file may have, and one more; depth 8 and 9.
use mathlib.Core.Path.{refl}
use mathlib.Core.List.{List, [], ◌∷◌, ◌++◌}
use Prim.Native.Nat.{ℕ, zero, suc}
use Rattle.rules.proofs.Computed.{ran, not_loaded, result}
use Rattle.rules.proofs.Records.{Bytes, written, a_device, number, learns, send}
use Rattle.rules.proofs.Situations.{Situation, Holds, fine, asking, laks, eight_deep}

-- n numbers, with the ids i, i + 1, ..
abbrev numbers : ℕ → ℕ → List Bytes
numbers zero i = []
numbers (suc n) i = number i ∷ numbers n (suc i)

-- 1,024 terms load: the party is given the last one and sends it to itself.
abbrev pub full_file : Situation
full_file = record { file = written (a_device ∷ (numbers 1024 0 ++ (learns 0 1023 ∷ send 0 0 1023 ∷ []))); gives = ran (0 ∷ []) [] 1 0 0 }

pub full_file_holds : Holds full_file
unfolding result
full_file_holds = refl

-- The next: its record begins after a party (2 bytes) and 1,024 numbers (3 bytes each).
abbrev pub overfull_file : Situation
overfull_file = record { file = written (a_device ∷ numbers 1025 0); gives = not_loaded 6 3074 }

pub overfull_file_holds : Holds overfull_file
unfolding result
overfull_file_holds = refl

-- Depth 8 issued: seven LAKs, each under the one before.
abbrev pub depth8 : Situation
depth8 = record { file = asking (laks 6 []) [] []; gives = ran (fine 65 []) eight_deep 65 0 8 }

pub depth8_holds : Holds depth8
unfolding result
depth8_holds = refl

-- Depth 9: an eighth LAK.
abbrev pub depth9 : Situation
depth9 = record { file = asking (laks 7 []) [] []; gives = ran (fine 72 (29 ∷ [])) eight_deep 72 1 8 }

pub depth9_holds : Holds depth9
unfolding result
depth9_holds = refl
