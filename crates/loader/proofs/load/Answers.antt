-- `loader::load` meets its contract: what filling leaves is what loading gives, and the buffer beyond its first part is
-- as it was. Assumes nothing.
use mathlib.Core.Path.{◌≡◌, sym, ap, ◌∙◌}
use mathlib.Core.List.{List}
use Prim.Native.Nat.{ℕ, ◌≤◌}
use native.Mathlib.Omega.{arith}
use lib.ListN.{length, drop}
use lib.Seq.{length-take-le}
use Rattle.std.proofs.Common.{Result, Ok, Err}
use Rattle.std.specs.Result.{IsErrAnd}
use Rattle.rules.specs.declared.Counts.{Counts}
use Rattle.rules.specs.declared.Refused.{Refused}
use Rattle.rules.specs.Limits.{state_bytes}
use Rattle.rules.specs.Lent.{load_in_numbers, load_answer}
use Rattle.rules.specs.Load.{load, refused}
use Rattle.rules.specs.Codes.{number_of}
use Rattle.state.proofs.Exact.{front}
use Rattle.loader.proofs.Bounds.{few_commands}
use Rattle.loader.proofs.Final.{final_leaves, refused_leaves, short_leaves, long_leaves, final_answer, refused_answer, short_answer, long_answer}
use Rattle.loader.proofs.load.Goals as goal

-- the answer that a `?` hands on
refused-answer : (bytes old : List ℕ) (r : Result Counts Refused) (e : Refused) → IsErrAnd r (λ x. x ≡ e) → load bytes ≡ refused (number_of e.refusal) e.place → state_bytes ≤ length old
    → load_in_numbers r ≡ load_answer bytes old
refused-answer bytes old (Ok x) e h l room = absurd h
refused-answer bytes old (Err x) e h l room = ap (λ (y : Refused). load_in_numbers (Err y)) h ∙ refused_answer bytes old e l room

pub returns-then-state-lt-STATE_BYTES : goal.returns-then-state-lt-STATE_BYTES
returns-then-state-lt-STATE_BYTES c =
    let a = c.args in
    record { answer = short_answer a.file.now a.state.now c.if-state-lt-STATE_BYTES.true; left = sym (short_leaves a.file.now a.state.now c.if-state-lt-STATE_BYTES.true) }

pub returns-then-file-gt-FILE_LIMIT : goal.returns-then-file-gt-FILE_LIMIT
returns-then-file-gt-FILE_LIMIT c =
    let a = c.args in
    record { answer = long_answer a.file.now a.state.now c.if-state-lt-STATE_BYTES.false c.if-file-gt-FILE_LIMIT.true; left = sym (long_leaves a.file.now a.state.now c.if-file-gt-FILE_LIMIT.true) }

pub returns-in_err-found-clause-answer : goal.returns-in_err-found-clause-answer
returns-in_err-found-clause-answer c =
    refused-answer c.args.file.now c.args.state.now _ _ c.from_residual.ensures.1 c.in_err-found.ensures.refused.0 c.if-state-lt-STATE_BYTES.false

pub returns-in_err-found-clause-left : goal.returns-in_err-found-clause-left
returns-in_err-found-clause-left c =
    let w = c.in_err-found.ensures.refused in
    rw w.1 (refused_leaves c.args.file.now c.args.state.now _ _ w.0 c.if-state-lt-STATE_BYTES.false c.if-file-gt-FILE_LIMIT.false)

pub overflow_cast-result-3 : goal.overflow_cast-result-3
overflow_cast-result-3 c =
    let w = c.in_ok-found.ensures.filled in
    record { fits = omega (arith, w.describes.commands_are, few_commands c.args.file.now w.file w.loads, c.if-file-gt-FILE_LIMIT.false) }

pub returns-clause-answer : goal.returns-clause-answer
returns-clause-answer c =
    let w = c.in_ok-found.ensures.filled in
    final_answer c.args.file.now w.file _ _ _ w.loads w.describes c.args.state.now c.if-state-lt-STATE_BYTES.false

pub returns-clause-left : goal.returns-clause-left
returns-clause-left c =
    let a = c.args in
    let w = c.in_ok-found.ensures.filled in
    let long = c.if-state-lt-STATE_BYTES.false in
    final_leaves a.file.now w.file _ _ _ w.loads w.describes (c.fill.auto.state ∙ length-take-le state_bytes a.state.now long)
    (front c.fill.new.state (drop state_bytes a.state.now) (λ i. (c.type_inv.state i).fits)) a.state.now long c.if-file-gt-FILE_LIMIT.false
