use mathlib.Core.Path.{◌≡◌, refl, ap, ◌∙◌}
use Prim.Native.Nat.{◌+◌, ◌-◌}
use native.Mathlib.Omega.{arith}
use Rattle.rules.specs.Limits.{term_limit}
use Rattle.tables.specs.Columns.{tables_in}
use Rattle.boards.proofs.Walk.{found_most}
use Rattle.loaded.proofs.Boards.{tells_none, tells_one, tells_tpm}
use Rattle.issuance.proofs.ends_at.Goals as goal

pub returns-in_default : goal.returns-in_default
returns-in_default c f ledger b o = tells_tpm f ledger _ b _ c.in_default.is

pub ek_of-requires : goal.ek_of-requires
ek_of-requires c = omega (arith, c.in-Some.ensures, found_most _ term_limit c.requires c.in-Device.serial)

pub returns-in-Some : goal.returns-in-Some
returns-in-Some c f ledger b o = tells_one f ledger _ b _ o c.in-Device.is c.in-Some.ensures (λ z. omega arith) (c.ek_of.ensures ∙ ap (tables_in c.args.tables.now).boards.ek (let z : c.in-Some.place ≡ c.in-Some.place + 1 - 1 = omega arith in z))

pub returns-in-None : goal.returns-in-None
returns-in-None c f ledger b o = tells_none f ledger _ b _ c.in-Device.is c.in-None.ensures refl
