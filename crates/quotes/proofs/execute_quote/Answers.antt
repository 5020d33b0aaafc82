use native.Mathlib.Omega.{arith}
use Rattle.rules.specs.File.{quote}
use Rattle.lookup.proofs.Fields.{quote_there, one_read, known_as}
use Rattle.loaded.proofs.Standing.{kind_declared}
use Rattle.quotes.proofs.Effects.{quote_leaves}
use Rattle.quotes.proofs.execute_quote.Goals as goal

pub decide_quote-requires : goal.decide_quote-requires
decide_quote-requires c = let p = c.requires in (p.0, known_as p.1 (one_read quote (quote_there _ _ p.2) c.word_at-r.ensures), p.3)

pub learn-requires : goal.learn-requires
learn-requires c = let p = c.requires in let g = known_as p.1 (one_read quote (quote_there _ _ p.2) c.word_at-r.ensures) in (p.0, g.0, kind_declared _ g.1 (λ q. omega arith))

pub returns-clause-left : goal.returns-clause-left
returns-clause-left c = let p = c.requires in quote_leaves p.1 _ p.2 c.word_at-r.ensures c.learn.ensures
