use mathlib.Core.Path.{sym, ◌∙◌}
use Rattle.loaded.proofs.Reading.{request_key, idevid_found, idevid_subject, idevid_certificate_lem, idevid_key_lem}
use Rattle.loaded.proofs.file.Loaded.idevid_request.Goals as goal

pub unreachable-requires : goal.unreachable-requires
unreachable-requires c = idevid_found _ _ c.idevid_request_of.ensures c.requires c.in_default.not-IdevidRequest

pub returns-clause-subject : goal.returns-clause-subject
returns-clause-subject c = sym (idevid_subject _ _ (sym c.idevid_request_of.ensures ∙ c.in-IdevidRequest.is))

pub returns-clause-certificate : goal.returns-clause-certificate
returns-clause-certificate c = sym (idevid_certificate_lem _ _ (sym c.idevid_request_of.ensures ∙ c.in-IdevidRequest.is))

pub returns-clause-key : goal.returns-clause-key
returns-clause-key c = sym (idevid_key_lem _ _ (sym c.idevid_request_of.ensures ∙ c.in-IdevidRequest.is))

pub returns-clause-declared : goal.returns-clause-declared
returns-clause-declared c = rw (sym (idevid_key_lem _ _ (sym c.idevid_request_of.ensures ∙ c.in-IdevidRequest.is))) (request_key c.args.self.now.reads c.args.t c.requires)
