use native.Mathlib.Omega.{arith}
use lib.ListN.{get_or}
use Rattle.records.proofs.Lengths.{body_small}
use Rattle.reader.specs.Place.{next_place}
use Rattle.reader.proofs.Cursor.next.Goals as goal

-- the file's bytes fit an `isize`
pub overflow_add-result-2 : goal.overflow_add-result-2
overflow_add-result-2 c =
    let at = c.args.self.at in
    let bs = c.args.file.now in
    record { fits = omega (arith, c.requires, c.well_formed.1.0.1, c.body_length.ensures, body_small (get_or bs at 0)) }

pub returns : goal.returns
unfolding next_place
returns c = omega (arith, c.body_length.ensures)
