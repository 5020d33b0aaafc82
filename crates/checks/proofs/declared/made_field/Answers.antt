use Rattle.std.proofs.Common.{arith}
use Rattle.checks.proofs.Plain.{made_fields}
use Rattle.checks.proofs.declared.made_field.Goals as goal

pub returns : goal.returns
returns c = made_fields _ (omega (arith, c.requires)) (omega (arith, c.requires))
