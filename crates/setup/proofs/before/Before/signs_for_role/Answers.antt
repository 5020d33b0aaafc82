use Rattle.std.proofs.Common.{refl, sym, ◌∙◌}
use Rattle.setup.specs.Allowed.{signs_there}
use Rattle.setup.proofs.Signing.{signs_other_key, signs_other_role, other_key}
use Rattle.setup.proofs.before.Before.signs_for_role.Goals as goal
use Rattle.setup.proofs.before.Before.signs_for_role.Goals.{else-eq-via-then-eq+else-role_of-role, else-eq-via-else-eq}

pub loop-p-init : goal.loop-p-init
unfolding signs_there
loop-p-init c = refl

pub loop-p-preserved : goal.loop-p-preserved
loop-p-preserved c =
    elim c.else-eq.branch [
      | else-eq-via-then-eq+else-role_of-role w ↦ signs_other_role _ _ _ _ _ (λ e. w.if-role_of-role.false (w.role_of.ensures ∙ e)) c.loop-p.invariant
      | else-eq-via-else-eq w ↦ signs_other_key _ _ _ _ _ (other_key _ _ _ c.signer_of.ensures (sym c.eq.ensures ∙ w.if-eq.false)) c.loop-p.invariant
    ]
