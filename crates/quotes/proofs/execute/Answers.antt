use Rattle.quotes.proofs.Effects.{is_quote}
use Rattle.quotes.proofs.execute.Goals as goal

pub execute_quote-requires : goal.execute_quote-requires
execute_quote-requires c = let p = c.requires in (p.0, p.1, is_quote p.1 p.2 c.if-loaded-at-eq68.false, p.3)
