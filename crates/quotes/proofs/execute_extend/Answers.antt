use mathlib.Core.Path.{refl}
use native.Mathlib.Omega.{arith}
use borrow.Author.Rules.{rules}
use Rattle.rules.specs.File.{extend}
use Rattle.lookup.proofs.Fields.{extend_there, two_read, known_as}
use Rattle.quotes.proofs.Effects.{extend_leaves}
use Rattle.quotes.proofs.execute_extend.Goals as goal

pub decide_extend-requires : goal.decide_extend-requires
decide_extend-requires c = let p = c.requires in (p.0, known_as p.1 (two_read extend (extend_there _ _ p.2) refl c.word_at-r.ensures), p.3)

pub show-requires : goal.show-requires
show-requires c =
    let p = c.requires in
    let g = known_as p.1 (two_read extend (extend_there _ _ p.2) refl c.word_at-r.ensures) in
    (p.3, omega (arith, p.0.parties, g.0), g.3, search rules)

pub returns-clause-left : goal.returns-clause-left
returns-clause-left c = let p = c.requires in extend_leaves p.1 p.2 c.word_at-r.ensures c.show.ensures
