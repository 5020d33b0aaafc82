use Rattle.std.proofs.Common.{◌≡◌}
use Rattle.loaded.specs.Loaded.{file_in}
use Rattle.registers.specs.View.{registers_in}
use Rattle.registers.specs.Starting.{shown_by_devices}
use Rattle.registers.proofs.show_all.Given as goal

-- the parties before p are done
abbrev pub invariant-loop-p : goal.invariant-loop-p
invariant-loop-p l = registers_in l.registers ≡ shown_by_devices (file_in l.loaded.file.now) (registers_in l.initial.registers) l.p l.i l.r
