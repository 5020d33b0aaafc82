-- The refusals of a command (document 01, "When the desk says no"): tests with their numbers, and the order in which they are looked for.
use Rattle.std.specs.Prelude.{Bool, false, cond, not, ◌&&◌, ◌||◌, List, [], ◌∷◌, ℕ, eqb}

-- 13 role may not do or send this; 14 input not known; 15 private half not held or none named; 16 attributes forbid;
-- 17 Restricted key, message no hash of this TPM; 18 check false; 19 request's form; 20 its hash or a signature;
-- 21 certificate's Subject or signer; 23 attributes; 24 number; 25 credential not open here; 26 returning party;
-- 27 r not the one called for; 28 issued already; 31 another EK carries this Subject (request 3 of document 02); 29 depth over 8;
-- 32 all pairs are empty or two certificates alike (request 4 of document 02);
-- 33 the old or quoted value is not what the register shows (request 6 of document 02).
-- 22 is no refusal any more and is never used again (request 5 of document 02).
-- A call above Run: 30 term not in the ledger (Path); 39 no IAKs per board, or no OEM desk (request 12 of document 02).
-- Loading: 3 unknown kind; 4 cut short; 5 section order; 6 ninth party or 1,025th term; 7 field out of range, undeclared or not lower;
-- 8 wrong kind of term; 9 term alike an earlier one; 10, 11, 12 set-up 20, 21, 22 not allowed.

-- The order in which a command's refusals are looked for. "A command's outcome is the lowest number that applies."; 31 is "checked between
-- 28 and 29" (request 3 of document 02), 32 "checked after 13" (request 4), 33 "checked after 17" (request 6).
abbrev pub order : List ℕ
order =
    13 ∷ 32 ∷ 14 ∷ 15 ∷ 16 ∷ 17 ∷ 33 ∷ 18 ∷ 19 ∷ 20 ∷ 21 ∷ 23
    ∷ 24 ∷ 25 ∷ 26 ∷ 27 ∷ 28 ∷ 31 ∷ 29 ∷ []

-- A test that a command has to pass, and the refusal that applies where it fails.
pub record Test : Type 0 where
  pub refusal : ℕ
  pub passes : Bool

abbrev pub need : ℕ → Bool → Test
need n b = record { refusal = n; passes = b }

-- some test of this refusal fails
unfoldable pub applies : ℕ → List Test → Bool
applies n [] = false
applies n (x ∷ xs) = (eqb x.refusal n && not x.passes) || applies n xs

-- the first refusal of the list that applies, 0 where none does
unfoldable pub first_of : List ℕ → List Test → ℕ
first_of [] tests = 0
first_of (n ∷ ns) tests = cond (applies n tests) n (first_of ns tests)

unfoldable pub refusal_of : List Test → ℕ
refusal_of tests = first_of order tests
