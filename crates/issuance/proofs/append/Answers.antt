use Rattle.issuance.proofs.Appending.{appended}
use Rattle.issuance.proofs.append.Goals as goal

pub returns : goal.returns
returns c = appended _ _ _ _ _ _ _ _ c.note_entry.ensures c.note_depth.ensures c.note_ek.ensures
