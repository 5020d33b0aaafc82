use Rattle.std.proofs.Common.{◌≡◌}
use Rattle.state.proofs.Exact.{Bytes}
use Rattle.loaded.specs.Loaded.{file_in}
use Rattle.registers.specs.View.{registers_in}
use Rattle.registers.specs.Starting.{start_from}
use Rattle.registers.proofs.fill.Given as goal

-- the terms from t on are done
abbrev pub invariant-loop-t : goal.invariant-loop-t
invariant-loop-t l = (registers_in l.registers ≡ start_from (file_in l.loaded.file.now) l.t) × Bytes l.registers
