use Rattle.std.proofs.Common.{◌≡◌, ◌<◌, ◌&&◌, ℕ, false}
use Rattle.rules.specs.Codes.{role_number}
use Rattle.rules.specs.File.{signs_for, is_role}
use Rattle.loaded.specs.Loaded.{file_in}
use Rattle.loaded.proofs.file.Loaded.signs_for_role.Given as goal

abbrev pub invariant-loop-p : goal.invariant-loop-p
invariant-loop-p l = (q : ℕ) → q < l.p → (signs_for (file_in l.self.file.now) q l.key && is_role (file_in l.self.file.now) (role_number l.role) q) ≡ false
