-- How many commands a file has.
--     few-outcomes, few-counted     no file has more commands than there is room for
--     loaded_short                  a file that loads is not too long
--     all-commands                  as many commands as a file has bytes are all its commands
-- Assumes nothing.
use mathlib.Core.Path.{◌≡◌, refl, sym, ap, ◌∙◌}
use mathlib.Core.Bool.{Bool, true, false, cond}
use mathlib.Core.List.{List}
use Prim.Native.Nat.{ℕ, zero, suc, ◌+◌, ◌≤◌}
use native.Mathlib.Omega.{arith}
use lib.Dec.{eqb, ltb, leb}
use lib.ListN.{length, length-reverse}
use lib.Seq.{take_all}
use borrow.Author.Tests.{ltb-true, leb-true, leb-false}
use Rattle.rules.specs.Limits.{file_limit, command_limit}
use Rattle.rules.specs.Record.{section_of, command_section}
use Rattle.rules.specs.File.{File, Command}
use Rattle.rules.specs.Load.{Load, load, loaded, commands_of}
use Rattle.rules.specs.Run.{first_commands, outcomes_of, accepted, refusals}
use Rattle.rules.specs.Lent.{answered}
use Rattle.theorems.proofs.Loading.{Wellformed}
use Rattle.theorems.proofs.Laws.{totals}
use Rattle.learning.specs.There.{kind_there}
use Rattle.reader.specs.Place.{next_place}
use Rattle.lookup.specs.Commands.{commands_from}
use Rattle.lookup.proofs.Left.{first_commands_lem, commands_wellformed, left_few}
use Rattle.loader.proofs.Bounds.{few_commands}
use Rattle.beginning.proofs.Begins.{too_long}

-- the first command's place is inside the file, or its end
inside_by : (bs : List ℕ) (at later : ℕ) → later ≤ length bs → (a b : Bool) → ltb at (length bs) ≡ a → cond a (cond b at later) (length bs) ≤ length bs
inside_by bs at later l true true e = omega (arith, ltb-true at (length bs) e)
inside_by bs at later l true false e = l
inside_by bs at later l false b e = omega arith

first_inside : (n : ℕ) (bs : List ℕ) (at : ℕ) → commands_from n bs at ≤ length bs
unfolding commands_from
first_inside zero bs at = omega arith
first_inside (suc n) bs at = inside_by bs at (commands_from n bs (next_place bs at)) (first_inside n bs (next_place bs at)) (ltb at (length bs)) (eqb (section_of (kind_there bs at)) command_section) refl

-- a file of file_limit bytes has no more than command_limit commands
module _ (bs : List ℕ) (f : File) (e : load bs ≡ loaded f) (short : length bs ≤ file_limit) (n : ℕ) where
  pub few_outcomes : length (outcomes_of f n) ≤ command_limit
  few_outcomes =
      let first = commands_from (length bs) bs 0 in
      let (m, s) = commands_wellformed bs f e in
      omega (arith, (totals f n).1, ap (λ (cs : List Command). length cs) (first_commands_lem bs f e n), left_few (Wellformed f) bs n m first s (first_inside (length bs) bs 0))

  pub few_counted : accepted f n + refusals f n ≤ command_limit
  few_counted = omega (arith, (totals f n).0, few_outcomes)

-- a file that loads is not too long
pub loaded_short : (bs : List ℕ) (f : File) → load bs ≡ loaded f → length bs ≤ file_limit
unfolding answered
loaded_short bs f l = leb-true (length bs) file_limit (go (leb (length bs) file_limit) refl)
  where
    go : (b : Bool) → leb (length bs) file_limit ≡ b → leb (length bs) file_limit ≡ true
    go true e = e
    go false e = absurd (let z : ◌≡◌ {A = ℕ} 0 3 = ap (λ (x : Load). length (answered 0 x).values) (sym (too_long bs (leb-false (length bs) file_limit e)) ∙ l) in omega arith)

-- as many commands as a file has bytes are all its commands
pub all_commands_lem : (bs : List ℕ) (f : File) → load bs ≡ loaded f → first_commands f (length bs) ≡ first_commands f (length f.commands)
unfolding first_commands commands_of
all_commands_lem bs f l =
    let n = length-reverse f.commands in
    take_all (length bs) _ (omega (arith, n, few_commands bs f l)) ∙ sym (take_all (length f.commands) _ (omega (arith, n)))
