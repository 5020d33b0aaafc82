-- All commands of a file (`specs/All.antt`), proved.
-- Assumes nothing.
use mathlib.Core.Path.{◌≡◌, sym, ap, ◌∙◌}
use mathlib.Core.List.{List}
use Prim.Native.Nat.{ℕ, ◌≤◌}
use native.Mathlib.Omega.{arith}
use lib.ListN.{length, length-reverse}
use lib.Seq.{take_all}
use Rattle.rules.specs.Limits.{command_limit}
use Rattle.rules.specs.File.{File, Command}
use Rattle.rules.specs.Load.{loaded, load, commands_of}
use Rattle.rules.specs.State.{start}
use Rattle.rules.specs.Run.{run, outcomes, first_commands, reached, outcomes_of}
use Rattle.theorems.proofs.Laws.{totals}
use Rattle.engine.specs.All.{AllCommands}
use Rattle.engine.proofs.Few.{few_outcomes, loaded_short}

module _ (bytes : List ℕ) (f : File) (loads : load bytes ≡ loaded f) where
  few : length f.commands ≤ command_limit
  unfolding first_commands commands_of
  few =
      let n = length f.commands in
      let m = length-reverse f.commands in
      omega (arith, (totals f n).1, ap (λ (cs : List Command). length cs) (take_all n (commands_of f) (omega (arith, m))), m, few_outcomes bytes f loads (loaded_short bytes f loads) n)

  same_commands : first_commands f command_limit ≡ first_commands f (length f.commands)
  unfolding first_commands commands_of
  same_commands =
      let m = length-reverse f.commands in
      take_all command_limit (commands_of f) (omega (arith, m, few)) ∙ sym (take_all (length f.commands) (commands_of f) (omega (arith, m)))

pub all_commands_run : AllCommands
unfolding reached outcomes_of
all_commands_run bytes f loads =
    let e = same_commands bytes f loads in
    (ap (λ (cs : List Command). run f cs (start f)) e, ap (λ (cs : List Command). outcomes f cs (start f)) e)
