use Rattle.device.proofs.Effects.{activate_left}
use Rattle.device.proofs.effect_activate.Goals as goal

pub returns : goal.returns
returns c = activate_left c.credential.ensures.number c.learn.ensures
