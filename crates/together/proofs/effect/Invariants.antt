use Rattle.std.proofs.Common.{drop}
use Rattle.rules.specs.Run.{effect_of}
use Rattle.state.specs.View.{view}
use Rattle.state.proofs.Exact.{state_of}
use Rattle.loaded.specs.Loaded.{file_in}
use Rattle.together.specs.Pairs.{pairs_of}
use Rattle.together.specs.Ready.{desk_at, returning_at, together_at, TogetherDone, Issuing}
use Rattle.together.proofs.effect.Given as goal

abbrev pub invariant-loop-pair : goal.invariant-loop-pair
invariant-loop-pair l =
    (w : TogetherDone l.file l.initial.state l.initial.tables l.entries l.at)
    → Issuing l.file l.initial.state l.initial.tables (desk_at l.file l.at) (returning_at l.file l.at) (effect_of (file_in l.file) (state_of (view l.initial.state) w.ledger) (together_at l.file l.at)) (pairs_of (drop l.pair-index l.pairs)) l.state l.tables l.entries w.ledger l.gained.items
