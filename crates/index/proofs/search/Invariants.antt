-- The way of a key down its bucket, with what it has found.
use Rattle.std.proofs.Common.{get_or}
use Rattle.tables.specs.Columns.{one_more, tables_in}
use Rattle.index.specs.Tree.{yet}
use Rattle.index.specs.Indexed.{key_noted, same_by, half_by, other_half}
use Rattle.index.proofs.Walk.{Walking}
use Rattle.index.proofs.search.Given as goal

abbrev pub invariant-loop-t : goal.invariant-loop-t
invariant-loop-t l =
    Walking l.links (same_by (tables_in l.tables).terms.kind (key_noted (tables_in l.tables).terms) l.kind l.key) (half_by (tables_in l.tables).terms.kind (key_noted (tables_in l.tables).terms) (other_half l.kind) l.key) l.key l.terms l.slot l.rest (one_more l.half)

abbrev pub decreases-loop-t : goal.decreases-loop-t
decreases-loop-t l = yet l.terms (get_or l.links l.slot 0)
