use Rattle.std.proofs.Common.{arith}
use Rattle.checks.proofs.Plain.{made_body}
use Rattle.checks.proofs.declared.Declared.is_made_right.Goals as goal

pub check_made-requires : goal.check_made-requires
check_made-requires c =
    let e = made_body c.args.kind c.made_field.result c.made_field.ensures in
    omega (arith, e, c.requires.2)
