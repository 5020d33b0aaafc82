use mathlib.Core.Path.{◌∙◌}
use lib.Dec.{eqb}
use Rattle.std.proofs.Common.{rules, tests}
use Rattle.std.proofs.lemmas.Iterator.{YieldsList-from_slice}
use Rattle.std.proofs.lemmas.Iterator.Search.{any_from_yields_List}
use Rattle.together.specs.declared.Pair.{Pair}
use Rattle.together.proofs.Pairs.{credential_among}
use Rattle.together.proofs.has_credential.Goals as goal

pub returns : goal.returns
returns c = any_from_yields_List (λ (x : Pair). eqb c.args.c x.credential) _ _ c.any.result c.any.ensures.ran (YieldsList-from_slice c.args.pairs.now cc) (λ x b q k. search (rules, tests)) ∙ credential_among _ _
