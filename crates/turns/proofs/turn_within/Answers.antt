use mathlib.Core.Path.{◌∙◌}
use lib.ListN.{drop}
use lib.Seq.{length-take-le}
use Rattle.rules.specs.Limits.{state_bytes, register_bytes}
use Rattle.turns.proofs.Turns.{turned_within}
use Rattle.turns.proofs.turn_within.Goals as goal

pub returns : goal.returns
returns c =
    let a = c.args in
    let w = c.requires in
    let y = c.turn in
    turned_within (drop state_bytes a.state.now) (drop register_bytes a.registers.now) (y.auto.state ∙ length-take-le state_bytes a.state.now w.0)
    (y.auto.registers ∙ length-take-le register_bytes a.registers.now w.1) y.ensures
