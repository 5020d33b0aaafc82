use Rattle.std.proofs.Common.{sym, arith}
use Rattle.learning.proofs.Words.{key_attributes_lem, no_attributes_lem}
use Rattle.learning.proofs.attributes_at.Goals as goal

pub bounds-file-at-then-file-at-le17 : goal.bounds-file-at-then-file-at-le17
bounds-file-at-then-file-at-le17 c = (key_attributes_lem _ _ c.requires (omega arith)).1

pub returns-then-file-at-le17 : goal.returns-then-file-at-le17
returns-then-file-at-le17 c = sym (key_attributes_lem _ _ c.requires (omega arith)).0

pub returns-else-file-at-le17 : goal.returns-else-file-at-le17
returns-else-file-at-le17 c = sym (no_attributes_lem _ _ c.requires (omega arith))
