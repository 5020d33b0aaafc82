use mathlib.Core.Path.{◌≡◌}
use Prim.Native.Nat.{◌+◌, ◌*◌, ◌≤◌}
use lib.ListN.{length, take}
use Rattle.rules.specs.Listing.{refusal_lines}
use Rattle.decimal.specs.Text.{Written}
use Rattle.lister.specs.Text.{refusal_bytes}
use Rattle.lister.proofs.refusals_into.Given as goal

pub record Refusals (l : goal.Live-loop-i) : Type 0 where
  pub within : l.i ≤ l.n
  pub near : l.next ≤ l.at + refusal_bytes * l.i
  pub size : length l.out ≡ length l.fn.out
  pub written : Written l.fn.out l.at (refusal_lines 0 (take l.i l.outcomes)) l.out l.next

abbrev pub invariant-loop-i : goal.invariant-loop-i
invariant-loop-i l = Refusals l
