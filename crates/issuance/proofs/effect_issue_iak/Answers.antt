use mathlib.Core.Path.{subst⁻¹}
use native.Mathlib.Omega.{arith}
use Rattle.rules.specs.Limits.{term_limit}
use Rattle.tables.specs.Columns.{Boards}
use Rattle.boards.specs.Linked.{Falls}
use Rattle.loaded.proofs.Boards.{falls_ek, entered_falls}
use Rattle.loaded.proofs.Standing.{kind_declared, term_here}
use Rattle.issuance.proofs.Endorsement.{endorsement_kind, endorsement_few, ek_few}
use Rattle.issuance.proofs.Issued.{certificate_few, iak_issued_lem}
use Rattle.issuance.proofs.effect_issue_iak.Goals as goal

pub request_of-requires : goal.request_of-requires
request_of-requires c = (term_here c.requires.0 (kind_declared _ c.requires.1.wellformed.2 (λ x. omega arith))).row

pub certificate-endorsement-requires : goal.certificate-endorsement-requires
certificate-endorsement-requires c = rw (c.idevid_request-asked.ensures.certificate, c.pair-request.ensures.left, c.request_of.ensures) (endorsement_kind c.requires.0 c.requires.1.requested)

pub learn-requires : goal.learn-requires
learn-requires c = let w = c.requires.1.wellformed in (c.requires.0, w.0, kind_declared _ w.3 (λ x. omega arith))

pub note_mark-requires : goal.note_mark-requires
note_mark-requires c = omega (arith, (term_here c.requires.0 (kind_declared _ c.requires.1.wellformed.2 (λ x. omega arith))).row)

pub overflow_cast-endorsement : goal.overflow_cast-endorsement
overflow_cast-endorsement c =
    rw (c.certificate-endorsement.ensures.key, c.idevid_request-asked.ensures.certificate, c.pair-request.ensures.left, c.request_of.ensures) (omega (arith, ek_few c.requires.0 c.requires.1.requested))

pub append-requires : goal.append-requires
append-requires c = let i = c.requires.1 in (i.accepts.more, certificate_few c.requires.0 i.wellformed.3)

pub link-requires : goal.link-requires
link-requires c =
    let i = c.requires.1 in
    (i.accepts.more, subst⁻¹ (λ (b : Boards). Falls b term_limit) c.append.ensures.boards (falls_ek _ _ term_limit (entered_falls (_, _, i.accepts.enters))))

pub overflow_cast-result : goal.overflow_cast-result
overflow_cast-result c = omega (arith, certificate_few c.requires.0 c.requires.1.wellformed.3)

pub overflow_cast-result-2 : goal.overflow_cast-result-2
overflow_cast-result-2 c = rw (c.idevid_request-asked.ensures.certificate, c.pair-request.ensures.left, c.request_of.ensures) (omega (arith, endorsement_few c.requires.0 c.requires.1.requested))

pub returns : goal.returns
returns c =
    iak_issued_lem c.requires.1 c.request_of.ensures c.pair-request.ensures.left c.idevid_request-asked.ensures.certificate c.idevid_request-asked.ensures.subject c.certificate-endorsement.ensures.key c.learn.ensures c.note_mark.ensures c.append.ensures c.link.ensures
