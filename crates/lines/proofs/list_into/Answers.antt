use Rattle.lines.proofs.Lines.{enough_zeros, listed_run, listed_fault}
use Rattle.lines.proofs.list_into.Goals as goal

pub returns-in-Ok : goal.returns-in-Ok
returns-in-Ok c =
    let h = c.refusals_into-at.ensures in
    let t = c.total_line.ensures in
    listed_run _ _ c.in-Ok.done c.in-Ok.ensures.rules c.in-Ok.ensures.stands c.requires h.written h.upper_bound c.entries_into-next.ensures t.written t.upper_bound

pub returns-in-Err : goal.returns-in-Err
returns-in-Err c =
    let t = c.fault_line.ensures in
    let only = rw c.number.ensures at t.written in
    listed_fault _ _ c.in-Err.r c.in-Err.ensures.rules (enough_zeros c.default-ledger.result) c.requires only t.upper_bound
