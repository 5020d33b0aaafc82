use Rattle.lister.proofs.Parts.{Lines}
use Rattle.lister.proofs.entries_into.Given as goal

abbrev pub invariant-loop-i : goal.invariant-loop-i
invariant-loop-i l = Lines l.ledger l.fn.out l.at l.issued l.i l.out l.next
