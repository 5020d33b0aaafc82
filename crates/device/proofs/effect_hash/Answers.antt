use Rattle.device.proofs.Effects.{hash_bare, hash_ticketed}
use Rattle.device.proofs.effect_hash.Goals as goal

pub returns-then-not-unticketed : goal.returns-then-not-unticketed
returns-then-not-unticketed c = hash_ticketed c.learn.ensures (cc) c.note_table.ensures

pub returns-else-not-unticketed : goal.returns-else-not-unticketed
returns-else-not-unticketed c = hash_bare c.learn.ensures (cc)
