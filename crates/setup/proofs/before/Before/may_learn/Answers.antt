use Rattle.std.proofs.Common.{arith}
use Rattle.setup.proofs.Terms.{certificate_ends}
use Rattle.setup.proofs.before.Before.may_learn.Goals as goal

pub bounds-self-at-in-25 : goal.bounds-self-at-in-25
bounds-self-at-in-25 c = omega (arith, certificate_ends c.args.self.now.there c.requires c.place_of-at.ensures c.in-25.is)

pub word_at-requires : goal.word_at-requires
word_at-requires c = omega (arith, certificate_ends c.args.self.now.there c.requires c.place_of-at.ensures c.in-25.is)
