-- The walk starts at the root of the key's bucket, goes on by what each term on the way is, and ends at a term of the
-- kind or at a free entry.
use Rattle.std.proofs.Common.{◌≡◌, suc, get_or, refl, ap, sym, ◌∙◌, arith}
use Rattle.tables.specs.Columns.{one_more}
use Rattle.index.proofs.Same.{option_told, option_untold}
use Rattle.index.proofs.Walk.{below_falls, walk_start, walk_past, walk_same, walk_noted, walk_other, walk_ends}
use Rattle.index.proofs.search.Goals as goal
use Rattle.index.proofs.search.Goals.{then-key_of-key+else-there-kind+then-eq, then-key_of-key+else-there-kind+else-eq, else-key_of-key}

pub loop-t-init : goal.loop-t-init
loop-t-init c = walk_start _ c.requires _ _

pub returns-then-there-kind : goal.returns-then-there-kind
returns-then-there-kind c =
    let h = c.in-Some.ensures in
    let q : get_or c.args.links.now c.loop-t.slot 0 ≡ suc c.in-Some.t = omega (arith, h) in
    (refl, walk_same _ c.requires _ _ c.loop-t.invariant q c.key_of.ensures c.if-key_of-key.true c.kind_of-there.ensures c.if-there-kind.true)

pub loop-t-smaller : goal.loop-t-smaller
loop-t-smaller c =
    let h = c.in-Some.ensures in
    let q : get_or c.args.links.now c.loop-t.slot 0 ≡ suc c.in-Some.t = omega (arith, h) in
    below_falls c.requires.tree c.loop-t.invariant q

pub loop-t-preserved : goal.loop-t-preserved
loop-t-preserved c =
    let h = c.in-Some.ensures in
    let q : get_or c.args.links.now c.loop-t.slot 0 ≡ suc c.in-Some.t = omega (arith, h) in
    let p = c.requires in
    let i = c.loop-t.invariant in
    let k = c.key_of.ensures in
    let other = c.other_half-other.ensures in
    elim c.if-key_of-key.branch [
      | then-key_of-key+else-there-kind+then-eq w ↦
          walk_noted _ p _ _ i q k w.if-key_of-key.true w.kind_of-there.ensures w.if-there-kind.false (sym other ∙ option_told _ _ (sym w.eq.ensures ∙ w.if-eq.true)) (omega (arith, ap one_more w.half-is))
      | then-key_of-key+else-there-kind+else-eq w ↦
          walk_other _ p _ _ i q k w.if-key_of-key.true w.kind_of-there.ensures w.if-there-kind.false (λ e. option_untold _ _ (sym w.eq.ensures ∙ w.if-eq.false) (other ∙ e)) (ap one_more w.half-is)
      | else-key_of-key w ↦ walk_past _ p _ _ i q k w.if-key_of-key.false (ap one_more w.half-is)
    ]

pub returns : goal.returns
returns c =
    let h = c.in_default.ensures in
    let z : get_or c.args.links.now c.loop-t.slot 0 ≡ 0 = omega (arith, h) in
    walk_ends _ c.requires _ _ c.loop-t.invariant refl z
