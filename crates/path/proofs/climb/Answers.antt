use Rattle.std.proofs.Common.{rules, arith}
use Rattle.path.proofs.Climbing.{term_climb_next}
use Rattle.path.proofs.climb.Goals as goal

pub loop-place-preserved : goal.loop-place-preserved
loop-place-preserved c =
    let p = c.loop-place in
    record { inside = search rules; same = term_climb_next _ _ p.place-items p.place-index p.certificate _ _ (omega arith) c.parent_of-certificate.ensures p.invariant.same }
