use mathlib.Core.Path.{sym, ◌∙◌}
use Rattle.loaded.proofs.Reading.{certificate_found, certificate_key, certificate_subject, certificate_signer}
use Rattle.loaded.proofs.file.Loaded.certificate.Goals as goal

pub unreachable-requires : goal.unreachable-requires
unreachable-requires c = certificate_found _ _ c.certificate_of.ensures c.requires c.in_default.not-Certificate

pub returns-clause-key : goal.returns-clause-key
returns-clause-key c = sym (certificate_key _ _ (sym c.certificate_of.ensures ∙ c.in-Certificate.is))

pub returns-clause-subject : goal.returns-clause-subject
returns-clause-subject c = sym (certificate_subject _ _ (sym c.certificate_of.ensures ∙ c.in-Certificate.is))

pub returns-clause-signer : goal.returns-clause-signer
returns-clause-signer c = sym (certificate_signer _ _ (sym c.certificate_of.ensures ∙ c.in-Certificate.is))
