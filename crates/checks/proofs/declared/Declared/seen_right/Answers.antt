-- The fields of the most frequent terms, where their checks pass, are right whatever the parties. Assumes nothing.
use mathlib.Core.Path.{ap, sym, ◌∙◌}
use native.Mathlib.Omega.{arith}
use Rattle.rules.specs.Record.{section_of, fields_of}
use Rattle.tables.specs.Columns.{terms_in}
use Rattle.checks.proofs.Fields.{right_of, key_fields}
use Rattle.checks.proofs.declared.Declared.seen_right.Goals as goal

pub returns-in-16 : goal.returns-in-16
unfolding section_of fields_of
returns-in-16 c o = right_of (terms_in c.args.self.now.tables.now) c.args.self.now.terms 0x10 c.args.kind c.args.body.now c.check_key.result (key_fields c.args.kind (omega arith) (omega arith)) c.check_key.ensures (sym c.is_ok-in-16.ensures.value ∙ o)

pub returns-in-19 : goal.returns-in-19
unfolding section_of fields_of
returns-in-19 c o = right_of (terms_in c.args.self.now.tables.now) c.args.self.now.terms 0x13 c.args.kind c.args.body.now c.check_signature.result (ap fields_of c.in-19.is) c.check_signature.ensures (sym c.is_ok-in-19.ensures.value ∙ o)

pub returns-in-25 : goal.returns-in-25
unfolding section_of fields_of
returns-in-25 c o = right_of (terms_in c.args.self.now.tables.now) c.args.self.now.terms 0x19 c.args.kind c.args.body.now c.check_certificate.result (ap fields_of c.in-25.is) c.check_certificate.ensures (sym c.is_ok-in-25.ensures.value ∙ o)

pub returns-in-26 : goal.returns-in-26
unfolding section_of fields_of
returns-in-26 c o = right_of (terms_in c.args.self.now.tables.now) c.args.self.now.terms 0x1A c.args.kind c.args.body.now c.check_terms.result (ap fields_of c.in-26.is) c.check_terms.ensures (sym c.is_ok-in-26.ensures.value ∙ o)
