use Rattle.device.proofs.Effects.{send_left}
use Rattle.device.proofs.effect_send.Goals as goal

pub returns : goal.returns
returns c = let p = c.requires in send_left p.1 p.2 p.4 (rw p.3 at c.learn.ensures)
