use mathlib.Core.Path.{refl}
use native.Mathlib.Omega.{arith}
use Rattle.decimal.proofs.byte_into.Goals as goal

pub returns : goal.returns
returns c = record { bytes = refl; place = omega arith }
