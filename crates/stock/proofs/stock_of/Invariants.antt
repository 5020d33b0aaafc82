use Rattle.std.proofs.Common.{◌≡◌, List, ◌≤◌}
use Rattle.rules.specs.declared.Entry.{Entry}
use Rattle.rules.specs.Stock.{stock_among}
use Rattle.state.specs.View.{view}
use Rattle.state.proofs.Exact.{state_of}
use Rattle.loaded.specs.Loaded.{file_in}
use Rattle.stock.proofs.stock_of.Given as goal

abbrev pub invariant-loop-t : goal.invariant-loop-t
invariant-loop-t l = record { few : l.count ≤ l.t; counted : (ledger : List Entry) → l.count ≡ stock_among (file_in l.file) (state_of (view l.state) ledger) l.desk l.t }
