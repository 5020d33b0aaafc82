use Rattle.std.proofs.Common.{arith}
use Rattle.checks.proofs.Plain.{issue_body}
use Rattle.checks.proofs.declared.Declared.is_issue_right.Goals as goal

pub check_issue-requires : goal.check_issue-requires
check_issue-requires c = omega (arith, issue_body c.args.kind (omega arith) (omega arith), c.requires.2)
