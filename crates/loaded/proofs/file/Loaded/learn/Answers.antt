use mathlib.Core.Path.{sym, ◌∙◌}
use Rattle.loaded.proofs.Learning.{learn_ready, learns_left, learns_known}
use Rattle.loaded.proofs.file.Loaded.learn.Goals as goal

pub learn_term-requires : goal.learn_term-requires
learn_term-requires c = let p = c.requires in learn_ready p.0 c.args.self.now.reads.finds _ p.2 p.1

pub returns-then-not-knows : goal.returns-then-not-knows
returns-then-not-knows c = let p = c.requires in learns_left p.0 c.args.self.now.reads.finds _ p.2 c.learn_term.ensures

pub returns-else-not-knows : goal.returns-else-not-knows
returns-else-not-knows c = learns_known _ _ (sym c.knows.ensures ∙ c.if-not-knows.false)
