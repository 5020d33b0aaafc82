use Rattle.challenge.proofs.Outcome.{challenge_left}
use Rattle.challenge.proofs.effect.Goals as goal

pub returns : goal.returns
returns c = challenge_left c.credential-credential.ensures.number c.learn.ensures c.note_mark.ensures c.note_mark-2.ensures c.note_desk.ensures c.note_request.ensures
