use Rattle.checks.specs.There.{field_fault_noted}
use Rattle.checks.proofs.Records.{content_few}
use Rattle.checks.proofs.declared.Declared.check_inner.Goals as goal

pub kind_of-requires : goal.kind_of-requires
unfolding field_fault_noted
kind_of-requires c =
    rw c.field_of-content.ensures (rw c.word_at-t.ensures (content_few _ c.args.self.now.noted c.in_ok-check_kind.ensures (rw c.number.ensures c.requires.1)))
