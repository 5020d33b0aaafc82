use Rattle.std.proofs.Common.{◌≡◌, ◌<◌, ◌&&◌, ℕ, false}
use Rattle.rules.specs.File.{signs_for}
use Rattle.loaded.specs.Loaded.{file_in, has_some}
use Rattle.loaded.proofs.file.Loaded.signs_for_some.Given as goal

abbrev pub invariant-loop-party : goal.invariant-loop-party
invariant-loop-party l = (q : ℕ) → q < l.party → (signs_for (file_in l.self.file.now) q l.key && has_some (file_in l.self.file.now) l.who q) ≡ false
