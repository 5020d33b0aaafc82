use Rattle.std.proofs.Common.{◌∙◌}
use Rattle.std.proofs.lemmas.Result.{err_from_is_err_and}
use Rattle.beginning.specs.Begins.{lent_with}
use Rattle.engine.proofs.Ready.{commands_ready}
use Rattle.engine.proofs.Whole.{run_refused, run_left, run_stood}
use Rattle.engine.proofs.run.Goals as goal

pub returns-in_err-begun-clause-rules : goal.returns-in_err-begun-clause-rules
returns-in_err-begun-clause-rules c =
    let p = err_from_is_err_and c.from_residual.result c.from_residual.ensures.1 in
    rw (p.1, p.2) (run_refused c.args.n _ c.in_err-begun.ensures.err)

pub run_commands-progress-requires : goal.run_commands-progress-requires
run_commands-progress-requires c = commands_ready c.in_ok-begun.ensures.ok c.begin.auto.state c.begin.auto.outcomes c.begin.auto.registers

pub returns-clause-rules : goal.returns-clause-rules
returns-clause-rules c =
    let a = c.args in
    let m = c.begin.new in
    let r = c.run_commands-progress.new in
    run_left (lent_with a.state.now a.ledger.now a.outcomes.now a.registers.now) (lent_with m.state m.ledger m.outcomes m.registers) (lent_with r.state r.ledger r.outcomes r.registers) c.in_ok-begun.ensures.ok c.run_commands-progress.ensures

pub returns-clause-stands : goal.returns-clause-stands
returns-clause-stands c =
    let a = c.args in
    let m = c.begin.new in
    let r = c.run_commands-progress.new in
    run_stood (lent_with a.state.now a.ledger.now a.outcomes.now a.registers.now) (lent_with m.state m.ledger m.outcomes m.registers) (lent_with r.state r.ledger r.outcomes r.registers) c.in_ok-begun.ensures.ok c.run_commands-progress.ensures
    (c.run_commands-progress.auto.state ∙ c.begin.auto.state)
