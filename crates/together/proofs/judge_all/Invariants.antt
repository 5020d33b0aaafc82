use Rattle.std.proofs.Common.{ℕ, List, take}
use Rattle.rules.specs.declared.Entry.{Entry}
use Rattle.theorems.proofs.Together.{PairsAccepted}
use Rattle.state.specs.View.{view}
use Rattle.state.proofs.Exact.{state_of}
use Rattle.loaded.specs.Loaded.{file_in}
use Rattle.loaded.specs.Entries.{Ledgered}
use Rattle.together.specs.Pairs.{pairs_of, PairsRequested}
use Rattle.together.specs.Ready.{desk_at, returning_at}
use Rattle.together.proofs.judge_all.Given as goal

abbrev pub invariant-loop-i : goal.invariant-loop-i
invariant-loop-i l =
    let bs = l.loaded.file.now in
    let before = pairs_of (take l.i l.pairs) in
    PairsRequested (file_in bs) (view l.state).request before
    × ((entries : ℕ) (ledger : List Entry) → Ledgered bs l.state l.loaded.tables.now entries ledger → PairsAccepted (file_in bs) (state_of (view l.state) ledger) (desk_at bs l.at) (returning_at bs l.at) before)
