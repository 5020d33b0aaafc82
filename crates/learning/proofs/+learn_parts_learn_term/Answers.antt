-- The parts that the match found are those of t; each can be learnt, and the first of two was known or is learnt.
use Rattle.std.proofs.Common.{◌≡◌, ap, sym, ◌∙◌, arith}
use Rattle.state.specs.View.{view}
use Rattle.tables.specs.Columns.{tables_in}
use Rattle.learning.proofs.Opening.{learned, learn_known, learn_new, parts_none, parts_one, parts_two, lower_one, lower_two, ready_part, ready_after}
use Rattle.learning.proofs.+learn_parts_learn_term.Goals as goal
use Rattle.learning.proofs.+learn_parts_learn_term.Goals.{learn_parts-then-not-knows-2, learn_parts-else-not-knows-2}

pub learn_parts-knows-requires : goal.learn_parts-knows-requires
learn_parts-knows-requires t c = let r = ready_part c.requires _ (lower_one c.requires (sym c.in-One.ensures)) in (r.party, r.room)

pub learn_parts-learn_term-requires : goal.learn_parts-learn_term-requires
learn_parts-learn_term-requires t c =
    let l = lower_one c.requires (sym c.in-One.ensures) in
    (omega (arith, l, c.decreases), ready_part c.requires _ l)

pub learn_parts-knows-requires-in-Two : goal.learn_parts-knows-requires-in-Two
learn_parts-knows-requires-in-Two t c = let r = ready_part c.requires _ (lower_two c.requires (sym c.in-Two.ensures)).0 in (r.party, r.room)

pub learn_parts-learn_term-requires-then-not-knows-2 : goal.learn_parts-learn_term-requires-then-not-knows-2
learn_parts-learn_term-requires-then-not-knows-2 t c =
    let l = (lower_two c.requires (sym c.in-Two.ensures)).0 in
    (omega (arith, l, c.decreases), ready_part c.requires _ l)

pub learn_parts-knows-requires-in-Two-2 : goal.learn_parts-knows-requires-in-Two-2
learn_parts-knows-requires-in-Two-2 t c =
    let r = ready_part (ready_after c.requires c.if-not-knows-2.auto.state) _ (lower_two c.requires (sym c.in-Two.ensures)).1 in (r.party, r.room)

pub learn_parts-learn_term-requires-then-not-knows-3 : goal.learn_parts-learn_term-requires-then-not-knows-3
learn_parts-learn_term-requires-then-not-knows-3 t c =
    let l = (lower_two c.requires (sym c.in-Two.ensures)).1 in
    (omega (arith, l, c.decreases), ready_part (ready_after c.requires c.if-not-knows-2.auto.state) _ l)

pub learn_parts-returns-in-Nothing : goal.learn_parts-returns-in-Nothing
learn_parts-returns-in-Nothing t c = parts_none _ _ _ _ (sym c.in-Nothing.ensures)

pub learn_parts-returns-then-not-knows : goal.learn_parts-returns-then-not-knows
learn_parts-returns-then-not-knows t c = parts_one _ _ _ _ (sym c.in-One.ensures) c.learn_term.ensures

pub learn_parts-returns-else-not-knows : goal.learn_parts-returns-else-not-knows
learn_parts-returns-else-not-knows t c = parts_one _ _ _ _ (sym c.in-One.ensures) (learn_known _ _ _ _ (sym c.knows.ensures ∙ c.if-not-knows.false))

pub learn_parts-returns-then-not-knows-3 : goal.learn_parts-returns-then-not-knows-3
learn_parts-returns-then-not-knows-3 t c =
    let first : view c.if-not-knows-2.state ≡ learned (tables_in c.args.tables.now).terms c.args.party c.in-Two.first (view c.args.state.now) =
    elim c.if-not-knows-2.branch [
      | learn_parts-then-not-knows-2 w ↦ ap view w.state-is ∙ w.learn_term-then-not-knows-2.ensures
      | learn_parts-else-not-knows-2 w ↦ ap view w.state-is ∙ learn_known _ _ _ _ (sym c.knows-in-Two.ensures ∙ w.if-not-knows-2.false)
    ] in
    parts_two _ _ _ _ (sym c.in-Two.ensures) first c.learn_term-then-not-knows-3.ensures

pub learn_parts-returns-else-not-knows-3 : goal.learn_parts-returns-else-not-knows-3
learn_parts-returns-else-not-knows-3 t c =
    let first : view c.if-not-knows-2.state ≡ learned (tables_in c.args.tables.now).terms c.args.party c.in-Two.first (view c.args.state.now) =
    elim c.if-not-knows-2.branch [
      | learn_parts-then-not-knows-2 w ↦ ap view w.state-is ∙ w.learn_term-then-not-knows-2.ensures
      | learn_parts-else-not-knows-2 w ↦ ap view w.state-is ∙ learn_known _ _ _ _ (sym c.knows-in-Two.ensures ∙ w.if-not-knows-2.false)
    ] in
    parts_two _ _ _ _ (sym c.in-Two.ensures) first (learn_known _ _ _ _ (sym c.knows-in-Two-2.ensures ∙ c.if-not-knows-3.false))

pub learn_term-returns-then-not-knows : goal.learn_term-returns-then-not-knows
learn_term-returns-then-not-knows t c =
    learn_new _ _ _ _ c.requires.lower (sym c.knows.ensures ∙ c.if-not-knows.true) c.note_known.ensures c.learn_parts.ensures

pub learn_term-returns-else-not-knows : goal.learn_term-returns-else-not-knows
learn_term-returns-else-not-knows t c = learn_known _ _ _ _ (sym c.knows.ensures ∙ c.if-not-knows.false)
