-- `learn_term` at t calls `learn_parts` at t, and that calls `learn_term` at lower terms, so the measures are 2t + 1
-- and 2t.
use Rattle.std.proofs.Common.{◌+◌, ◌*◌}
use Rattle.learning.proofs.+learn_parts_learn_term.Given as goal

abbrev pub decreases-learn_parts : goal.decreases-learn_parts
decreases-learn_parts l = 2 * l.t

abbrev pub decreases-learn_term : goal.decreases-learn_term
decreases-learn_term l = 2 * l.t + 1
