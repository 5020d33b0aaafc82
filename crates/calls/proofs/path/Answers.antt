use Rattle.std.proofs.Common.{◌≡◌, ◌+◌, arith, sym, Err, length-take-le}
use Rattle.std.proofs.lemmas.Grind.{common_steps}
use Rattle.calls.proofs.Paths.{term_entries_inside, term_few_steps, path_short, path_refused, term_path_none, term_path_some}
use Rattle.calls.proofs.path.Goals as goal

pub returns-in_err-check_room : goal.returns-in_err-check_room
returns-in_err-check_room c =
    let e = c.in_err-check_room in
    let is : c.from_residual.result ≡ Err e.field-0.0 = grind (arith, common_steps) in
    path_short _ _ _ _ _ e.ensures.short _ e.field-0.0 e.ensures.number c.from_residual.result is

pub returns-in_err-run : goal.returns-in_err-run
returns-in_err-run c =
    let e = c.in_err-run in
    let is : c.from_residual-in_err-run.result ≡ Err e.field-0.0 = grind (arith, common_steps) in
    path_refused _ _ _ _ _ c.in_ok-check_room.ensures.room e.field-0.0 e.ensures.rules c.from_residual-in_err-run.result is

pub returns-in_err-steps : goal.returns-in_err-steps
returns-in_err-steps c =
    let e = c.in_err-steps in
    let r = c.in_ok-run.ensures in
    let is : c.from_residual-in_err-steps.result ≡ Err e.field-0.0 = grind (arith, common_steps) in
    term_path_none r.stands _ _ c.in_ok-check_room.ensures.room r.rules e.field-0.0 e.ensures c.from_residual-in_err-steps.result is

pub slice_bounds-climb-end : goal.slice_bounds-climb-end
slice_bounds-climb-end c = let few = term_few_steps c.in_ok-run.ensures.stands _ c.in_ok-steps.ensures in omega (arith, few, c.in_ok-check_room.ensures.room)

pub slice_bounds-climb-end-2 : goal.slice_bounds-climb-end-2
slice_bounds-climb-end-2 c =
    let few = term_few_steps c.in_ok-run.ensures.stands _ c.in_ok-steps.ensures in
    sym (length-take-le (c.in_ok-steps.steps + 1) c.args.list.now (omega (arith, few, c.in_ok-check_room.ensures.room)))

pub climb-requires : goal.climb-requires
climb-requires c = term_entries_inside c.in_ok-run.ensures.stands c.run.auto.ledger

pub returns : goal.returns
returns c = let r = c.in_ok-run.ensures in term_path_some r.stands _ _ c.in_ok-check_room.ensures.room r.rules _ c.in_ok-steps.ensures c.climb.new.list c.climb.ensures
