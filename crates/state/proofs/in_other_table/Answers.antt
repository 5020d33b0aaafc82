use Prim.Native.Nat.{ℕ, ◌+◌, ◌*◌}
use native.Mathlib.Omega.{arith}
use lib.ListN.{get_or}
use Rattle.state.specs.View.{in_other}
use Rattle.state.proofs.Bits.{other_bits}
use Rattle.state.proofs.in_other_table.Goals as goal

pub returns : goal.returns
unfolding in_other
returns c =
    let a = c.args in
    let b : ℕ = get_or a.state.now (8 * a.t + 1) 0 in
    rw c.power-own.ensures (other_bits b a.party a.t (omega (arith, c.type_inv.state (8 * a.t + 1))) (omega arith))
