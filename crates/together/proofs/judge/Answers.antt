use mathlib.Core.Path.{sym}
use Rattle.std.proofs.Common.{arith}
use Rattle.loaded.proofs.Standing.{kind_declared}
use Rattle.issuance.proofs.Issued.{iak_open}
use Rattle.together.proofs.Deciding.{always}
use Rattle.together.proofs.judge.Goals as goal

pub ek_asked-ek-requires : goal.ek_asked-ek-requires
ek_asked-ek-requires c =
    let d = c.requires.decided in
    (d.here.holds, kind_declared _ c.requires.credential (λ q. omega arith), d.here.opened _ (iak_open _ _ _ _ _ _ (sym (c.in_ok-decide_issue_iak.ensures d.entries d.ledger d.ledgered))))

pub returns-clause-requested : goal.returns-clause-requested
returns-clause-requested c =
    let d = c.requires.decided in
    always _ (d.here.opened _ (iak_open _ _ _ _ _ _ (sym (c.in_ok-decide_issue_iak.ensures d.entries d.ledger d.ledgered))))
