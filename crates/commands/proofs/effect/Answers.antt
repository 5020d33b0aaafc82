use Rattle.commands.proofs.Next.{desk_ready, desk_does}
use Rattle.commands.proofs.effect.Goals as goal

pub effect-requires : goal.effect-requires
effect-requires c = let w = c.requires.1 in desk_ready w.stands.1 w.here w.is_desk (w.accepted w.stands.0 w.stands.1)

pub returns : goal.returns
returns c registers w =
    record { does = λ ledger st. desk_does st w.here w.is_desk (w.accepted ledger st) c.effect.ensures c.effect.auto.state }
