use mathlib.Core.Path.{refl}
use Rattle.rules.proofs.below_attestation_key.Goals as goal

pub returns : goal.returns
returns c = rw c.iak.ensures refl
