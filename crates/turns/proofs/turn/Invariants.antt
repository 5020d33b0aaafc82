use Rattle.commands.specs.Standing.{memory}
use Rattle.turns.proofs.Turns.{Onward}
use Rattle.turns.proofs.turn.Given as goal

abbrev pub invariant-loop-p : goal.invariant-loop-p
invariant-loop-p l = Onward l.file (memory l.initial.state l.initial.registers) l.initial.tables l.initial.outcomes l.initial.p (memory l.state l.registers) l.tables l.outcomes l.p

abbrev pub decreases-loop-p : goal.decreases-loop-p
decreases-loop-p l = l.p.left
