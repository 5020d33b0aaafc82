use Rattle.device.proofs.Effects.{made_left}
use Rattle.device.proofs.effect_made.Goals as goal

pub returns : goal.returns
returns c = let p = c.requires in made_left p.1 p.2 p.3 p.5 (rw p.4 at c.learn.ensures)
