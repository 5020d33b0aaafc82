use mathlib.Core.Path.{ap, ◌∙◌}
use Rattle.rules.specs.File.{certified_key, idevid_certificate, left_of}
use Rattle.rules.specs.Desk.{request_body, ek_certificate_of, ek_of}
use Rattle.loaded.specs.Loaded.{file_in}
use Rattle.loaded.proofs.Standing.{checked_here}
use Rattle.together.proofs.ek_asked.Goals as goal

pub certificate-requires : goal.certificate-requires
certificate-requires c =
    let p = c.requires in
    rw (c.idevid_request-asked.ensures.certificate, c.pair-body.ensures.left, c.request_of-q.ensures) ((checked_here p.0).idevid_certificate_kind _ p.2.body)

pub returns : goal.returns
unfolding ek_of ek_certificate_of request_body
returns c =
    let f = file_in c.args.loaded.now.file.now in
    c.certificate.ensures.key ∙ ap (certified_key f) (c.idevid_request-asked.ensures.certificate ∙ ap (idevid_certificate f) (c.pair-body.ensures.left ∙ ap (left_of f) c.request_of-q.ensures))
