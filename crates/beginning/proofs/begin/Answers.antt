use Rattle.std.proofs.Common.{arith, ap, ◌∙◌, ℕ, replicate}
use Rattle.std.proofs.Math.Seq.{length-take-le}
use Rattle.rules.specs.Limits.{command_limit, state_bytes, register_bytes}
use Rattle.beginning.proofs.Begins.{Room, short_refuses, long_refuses, load_refuses, fill_reads, fill_counts, begins}
use Rattle.beginning.proofs.begin.Goals as goal
use Rattle.beginning.proofs.begin.Goals.{then-state-lt-STATE_BYTES-via-then-state-lt-STATE_BYTES, then-state-lt-STATE_BYTES-via-else-state-lt-STATE_BYTES+then-ledger-lt-TERM_LIMIT, then-state-lt-STATE_BYTES-via-else-state-lt-STATE_BYTES+else-ledger-lt-TERM_LIMIT+then-outcomes-lt-COMMAND_LIMIT, then-state-lt-STATE_BYTES-via-else-state-lt-STATE_BYTES+else-ledger-lt-TERM_LIMIT+else-outcomes-lt-COMMAND_LIMIT+then-registers-lt-REGISTER_BYTES}

pub returns-then-state-lt-STATE_BYTES-clause-err : goal.returns-then-state-lt-STATE_BYTES-clause-err
returns-then-state-lt-STATE_BYTES-clause-err c =
    short_refuses _ _ _ _ _ (λ room. elim c.then-state-lt-STATE_BYTES.branch [
      | then-state-lt-STATE_BYTES-via-then-state-lt-STATE_BYTES w ↦ omega (arith, room.state, w.if-state-lt-STATE_BYTES.true)
      | then-state-lt-STATE_BYTES-via-else-state-lt-STATE_BYTES+then-ledger-lt-TERM_LIMIT w ↦ omega (arith, room.ledger, w.if-ledger-lt-TERM_LIMIT.true)
      | then-state-lt-STATE_BYTES-via-else-state-lt-STATE_BYTES+else-ledger-lt-TERM_LIMIT+then-outcomes-lt-COMMAND_LIMIT w ↦ omega (arith, room.outcomes, w.if-outcomes-lt-COMMAND_LIMIT.true)
      | then-state-lt-STATE_BYTES-via-else-state-lt-STATE_BYTES+else-ledger-lt-TERM_LIMIT+else-outcomes-lt-COMMAND_LIMIT+then-registers-lt-REGISTER_BYTES w ↦ omega (arith, room.registers, w.if-registers-lt-REGISTER_BYTES.true)
    ])

pub returns-then-file-gt-FILE_LIMIT-clause-err : goal.returns-then-file-gt-FILE_LIMIT-clause-err
returns-then-file-gt-FILE_LIMIT-clause-err c =
    long_refuses _ _ _ _ _ (record { state = c.if-state-lt-STATE_BYTES.false; ledger = c.if-ledger-lt-TERM_LIMIT.false; outcomes = c.if-outcomes-lt-COMMAND_LIMIT.false; registers = c.if-registers-lt-REGISTER_BYTES.false }) c.if-file-gt-FILE_LIMIT.true

pub returns-in-Err-clause-err : goal.returns-in-Err-clause-err
returns-in-Err-clause-err c =
    let a = c.args in
    let room : Room a.state.now a.ledger.now a.outcomes.now a.registers.now = record { state = c.if-state-lt-STATE_BYTES.false; ledger = c.if-ledger-lt-TERM_LIMIT.false; outcomes = c.if-outcomes-lt-COMMAND_LIMIT.false; registers = c.if-registers-lt-REGISTER_BYTES.false } in
    let h = c.in-Err.ensures.refused in
    load_refuses a.file.now a.state.now a.ledger.now a.outcomes.now a.registers.now _ _ _ _ room c.if-file-gt-FILE_LIMIT.false h.0 h.1 c.clear.ensures
    (c.fill.ensures.after (λ y e. e) ∙ ap (λ (k : ℕ). replicate {A = ℕ} k 0) (length-take-le command_limit a.outcomes.now room.outcomes))
    (c.fill-in-Err.ensures.after (λ y e. e) ∙ ap (λ (k : ℕ). replicate {A = ℕ} k 0) (length-take-le register_bytes a.registers.now room.registers))

pub invariant_of-fill : goal.invariant_of-fill
invariant_of-fill c = record { reads = fill_reads c.in-Ok.ensures.filled (c.fill-2.auto.state ∙ length-take-le state_bytes c.args.state.now c.if-state-lt-STATE_BYTES.false) }

pub fill-requires-3 : goal.fill-requires-3
fill-requires-3 c =
    let n = fill_counts c.in-Ok.ensures.filled in
    (length-take-le register_bytes c.args.registers.now c.if-registers-lt-REGISTER_BYTES.false, n.0, n.1)

pub returns-clause-ok : goal.returns-clause-ok
returns-clause-ok c =
    begins c.args.file.now c.args.state.now c.args.ledger.now c.args.outcomes.now c.args.registers.now _ _ _ (record { state = c.if-state-lt-STATE_BYTES.false; ledger = c.if-ledger-lt-TERM_LIMIT.false; outcomes = c.if-outcomes-lt-COMMAND_LIMIT.false; registers = c.if-registers-lt-REGISTER_BYTES.false })
    c.if-file-gt-FILE_LIMIT.false
    (c.fill-2.auto.state ∙ length-take-le state_bytes c.args.state.now c.if-state-lt-STATE_BYTES.false)
    (c.fill-3.auto.registers ∙ length-take-le register_bytes c.args.registers.now c.if-registers-lt-REGISTER_BYTES.false)
    c.in-Ok.ensures.filled c.clear.ensures
    (c.fill.ensures.after (λ y e. e) ∙ ap (λ (k : ℕ). replicate {A = ℕ} k 0) (length-take-le command_limit c.args.outcomes.now c.if-outcomes-lt-COMMAND_LIMIT.false))
    (c.fill.auto.self ∙ length-take-le command_limit c.args.outcomes.now c.if-outcomes-lt-COMMAND_LIMIT.false)
    c.fill-3.ensures.shows (λ i. (c.type_inv.state i).fits) c.fill-3.ensures.bytes
