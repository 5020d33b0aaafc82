use Rattle.std.proofs.Common.{◌≡◌, ◌-◌, ◌≤◌, ◌++◌, length, take}
use Rattle.path.specs.Climbing.{term_climbed}
use Rattle.path.proofs.climb.Given as goal

abbrev pub invariant-loop-place : goal.invariant-loop-place
invariant-loop-place l = record {
  inside : l.place-index ≤ length l.place-items;
  same : take l.place-index l.place-items ++ term_climbed l.tables l.ledger (length l.place-items - l.place-index) l.certificate ≡ term_climbed l.tables l.ledger (length l.place-items) l.initial.certificate;
}
