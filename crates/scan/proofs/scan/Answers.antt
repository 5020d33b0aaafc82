-- `scan::scan` meets its contract. Assumes nothing.
use native.Mathlib.Omega.{arith}
use Rattle.scan.proofs.Scanning.{at_end}
use Rattle.scan.proofs.scan.Goals as goal

pub returns-clause-result : goal.returns-clause-result
returns-clause-result c =
    let w = c.in_ok-before.ensures.stands in
    record { described = at_end (c.in_ok-tally.ensures.passed _ _ w.stands).here (omega arith); refused = tt }

pub returns-clause-indexed : goal.returns-clause-indexed
returns-clause-indexed c =
    let w = c.in_ok-before.ensures.stands in
    (w.links, (c.in_ok-tally.ensures.passed _ _ w.stands).indexed)
