use Rattle.std.proofs.Common.{◌≡◌, ◌≤◌}
use Rattle.rules.specs.Limits.{term_limit}
use Rattle.tables.specs.Columns.{one_more, tables_in}
use Rattle.boards.specs.Linked.{walk, entry_of}
use Rattle.boards.proofs.entry_of.Given as goal

pub record Walks (l : goal.Live-loop-next) : Type 0 where
  pub few : one_more l.next ≤ term_limit
  pub same : entry_of (tables_in l.tables).boards l.serial ≡ walk (tables_in l.tables).boards.serial (tables_in l.tables).boards.earlier l.serial (one_more l.next) (one_more l.next)

abbrev pub invariant-loop-next : goal.invariant-loop-next
invariant-loop-next l = Walks l

abbrev pub decreases-loop-next : goal.decreases-loop-next
decreases-loop-next l = one_more l.next
