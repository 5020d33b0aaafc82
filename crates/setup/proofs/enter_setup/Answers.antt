use Rattle.std.proofs.Common.{rules, sym, ◌∙◌}
use Rattle.rules.specs.Load.{setup_at}
use Rattle.learning.proofs.Opening.{learn_known}
use Rattle.setup.specs.Allowed.{setup_leaves}
use Rattle.setup.proofs.Terms.{ready, learns_there}
use Rattle.setup.proofs.enter_setup.Goals as goal

pub learn_term-requires : goal.learn_term-requires
learn_term-requires c = ready c.requires.there c.requires.noted (search rules) (search rules)

pub returns-then-not-knows-clause-left : goal.returns-then-not-knows-clause-left
unfolding setup_leaves setup_at
returns-then-not-knows-clause-left c =
    rw (c.in-32.is, ← c.word_at-t.ensures) (c.learn_term.ensures ∙ learns_there c.requires.there c.requires.noted _ _ (search rules))

pub returns-else-not-knows-clause-left : goal.returns-else-not-knows-clause-left
unfolding setup_leaves setup_at
returns-else-not-knows-clause-left c =
    rw (c.in-32.is, ← c.word_at-t.ensures)
    (learn_known _ _ _ _ (sym c.knows.ensures ∙ c.if-not-knows.false) ∙ learns_there c.requires.there c.requires.noted _ _ (search rules))
