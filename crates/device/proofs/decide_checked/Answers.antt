use native.Mathlib.Omega.{arith}
use Rattle.device.proofs.Effects.{checks_left}
use Rattle.device.proofs.decide_checked.Goals as goal

pub returns-then-kind-eq59-clause-left : goal.returns-then-kind-eq59-clause-left
returns-then-kind-eq59-clause-left c = checks_left c.requires.1 _ (omega arith) (omega arith)

pub returns-in-56-clause-left : goal.returns-in-56-clause-left
returns-in-56-clause-left c = checks_left c.requires.1 _ (omega arith) (omega arith)

pub returns-in-57-clause-left : goal.returns-in-57-clause-left
returns-in-57-clause-left c = checks_left c.requires.1 _ (omega arith) (omega arith)

pub returns-in_default-clause-left : goal.returns-in_default-clause-left
returns-in_default-clause-left c = checks_left c.requires.1 _ (omega arith) (omega arith)
