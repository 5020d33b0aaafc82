use Prim.Native.Nat.{◌+◌, ◌*◌}
use native.Mathlib.Omega.{arith}
use lib.ListN.{get_or}
use Rattle.rules.specs.Desk.{knowers}
use Rattle.state.proofs.Bits.{count_bits}
use Rattle.state.proofs.knowers_of.Goals as goal

pub returns : goal.returns
unfolding knowers
returns c =
    let a = c.args in
    count_bits (get_or a.state.now (8 * a.t + 0) 0) a.t (omega (arith, c.type_inv.state (8 * a.t + 0)))
