use mathlib.Core.Path.{sym, ◌∙◌}
use native.Mathlib.Omega.{arith}
use Rattle.loaded.proofs.Reading.{signs_declared, role_signs, none_signs}
use Rattle.loaded.proofs.file.Loaded.signs_for_role.Goals as goal

pub is_role-requires : goal.is_role-requires
is_role-requires c = signs_declared c.args.self.now.reads _ _ (sym c.signs.ensures ∙ c.if-signs.true)

pub returns-then-is_role : goal.returns-then-is_role
returns-then-is_role c = sym (role_signs c.args.self.now.reads _ _ _ (sym c.signs.ensures ∙ c.if-signs.true) (sym c.is_role.ensures ∙ c.if-is_role.true))

pub returns : goal.returns
returns c = sym (none_signs c.args.self.now.reads _ _ (λ p l. c.loop-p.invariant p (omega arith)))
