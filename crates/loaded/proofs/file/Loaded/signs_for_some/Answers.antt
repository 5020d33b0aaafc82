use mathlib.Core.Path.{sym, ◌∙◌}
use native.Mathlib.Omega.{arith}
use Rattle.loaded.proofs.Reading.{signs_declared}
use Rattle.loaded.proofs.Signers.{some_found, some_none}
use Rattle.loaded.proofs.file.Loaded.signs_for_some.Goals as goal

pub has_some-requires : goal.has_some-requires
has_some-requires c = signs_declared c.args.self.now.reads _ _ (sym c.signs.ensures ∙ c.if-signs.true)

pub returns-then-has_some : goal.returns-then-has_some
returns-then-has_some c = sym (some_found c.args.self.now.reads _ _ _ (sym c.signs.ensures ∙ c.if-signs.true) (sym c.has_some.ensures ∙ c.if-has_some.true))

pub returns : goal.returns
returns c = sym (some_none c.args.self.now.reads _ _ (λ p l. c.loop-party.invariant p (omega arith)))
