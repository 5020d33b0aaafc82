use Rattle.std.proofs.Common.{sym}
use Rattle.rules.specs.Term.{fields_in}
use Rattle.rules.specs.Load.{term_at}
use Rattle.records.proofs.Terms.{subject_fields_lem, subject_number}
use Rattle.records.proofs.words_in.Goals as goal

pub returns-in-23 : goal.returns-in-23
unfolding term_at fields_in
returns-in-23 c = rw (c.in-23.is, subject_fields_lem) (cc (subject_number c.args.body.now 0))

pub returns-in-25 : goal.returns-in-25
unfolding term_at fields_in
returns-in-25 c = rw (c.in-25.is, subject_fields_lem) (cc (subject_number c.args.body.now 2))
