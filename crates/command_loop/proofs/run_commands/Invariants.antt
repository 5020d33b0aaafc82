use Rattle.command_loop.proofs.Keeping.{Keeps}
use Rattle.command_loop.proofs.run_commands.Given as goal

abbrev pub invariant-loop-p : goal.invariant-loop-p
invariant-loop-p l =
    Keeps l.file l.initial.state l.initial.ledger l.initial.outcomes l.initial.registers l.fn.begun l.n
    (record { state = l.state; registers = l.registers; tables = l.tables; outcomes = l.outcomes; ledger = l.ledger; progress = l.p })

abbrev pub decreases-loop-p : goal.decreases-loop-p
decreases-loop-p l = l.p.left
