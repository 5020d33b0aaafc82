use mathlib.Core.Path.{sym, ap, ◌∙◌}
use Rattle.std.proofs.Common.{arith, length}
use Rattle.std.proofs.lemmas.List.{length-append}
use Rattle.together.specs.declared.Pair.{Pair}
use Rattle.together.specs.Pairs.{pairs_of}
use Rattle.together.proofs.Pairs.{read_none, read_empty, read_filled}
use Rattle.together.proofs.pairs_at.Goals as goal
use Rattle.together.proofs.pairs_at.Goals.{then-not-empty_pair, else-not-empty_pair}

pub loop-j-init : goal.loop-j-init
loop-j-init c = rw c.new-pairs.ensures (read_none _ _, omega arith)

pub loop-j-preserved : goal.loop-j-preserved
loop-j-preserved c = elim c.if-not-empty_pair.branch [
  | then-not-empty_pair w ↦ rw (w.pairs-is, w.push.ensures.items) (
    read_filled _ _ _ _ c.loop-j.invariant.0 (sym c.empty_pair.ensures ∙ w.if-not-empty_pair.true) _ w.word_at.ensures w.word_at-then-not-empty_pair.ensures,
    omega (arith, length-append {A = Pair}, c.loop-j.invariant.1),
  )
  | else-not-empty_pair w ↦ rw w.pairs-is (read_empty _ _ _ _ c.loop-j.invariant.0 (sym c.empty_pair.ensures ∙ w.if-not-empty_pair.false), omega (arith, c.loop-j.invariant.1))
]
