use Rattle.std.proofs.Common.{◌≤◌, arith, length, sym, length-take-le}
use Rattle.decimal.proofs.Writing.{written_length}
use Rattle.decimal.proofs.Spelling.{decimal_short}
use Rattle.cases.proofs.print_number.Goals as goal

pub decimal_into-n-requires : goal.decimal_into-n-requires
decimal_into-n-requires g c = record { fits = omega (arith, decimal_short c.args.x (omega arith)) }

pub slice_bounds-digits-end : goal.slice_bounds-digits-end
slice_bounds-digits-end g c = let w = c.decimal_into-n.ensures in omega (arith, w.place, written_length w, decimal_short c.args.x (omega arith))

pub slice_bounds-write_all-end : goal.slice_bounds-write_all-end
slice_bounds-write_all-end g c =
    let u = c.decimal_into-n in
    let w = u.ensures in
    let room : u.result ≤ length u.new.out = omega (arith, w.place, written_length w, decimal_short c.args.x (omega arith)) in
    sym (length-take-le u.result u.new.out room)
