use mathlib.Core.List.{[], ◌∷◌}
use Rattle.std.proofs.Common.{arith}
use Rattle.rules.specs.Listing.{line, numbers}
use Rattle.decimal.proofs.Writing.{rest_start, rest_room, rest_next, rest_end}
use Rattle.lister.proofs.Room.{rest_of, last_of}
use Rattle.lister.proofs.line_into.Goals as goal

pub byte_into-next-requires : goal.byte_into-next-requires
unfolding line
byte_into-next-requires c = omega (arith, c.requires.fits)

pub loop-x-init : goal.loop-x-init
unfolding line
loop-x-init c = rest_start (c.args.letter ∷ []) (numbers c.args.numbers.now) c.byte_into-next.ensures

pub number_into-next-requires : goal.number_into-next-requires
number_into-next-requires c =
    rest_room _ _ (rest_of c.args.numbers.now c.loop-x.x-index (omega (arith, c.loop-x-test.true)) c.loop-x.invariant) c.requires

pub loop-x-preserved : goal.loop-x-preserved
loop-x-preserved c =
    rest_next _ _ (rest_of c.args.numbers.now c.loop-x.x-index (omega (arith, c.loop-x-test.true)) c.loop-x.invariant) c.number_into-next.ensures

pub byte_into-requires : goal.byte_into-requires
byte_into-requires c =
    let r = rest_room (10 ∷ []) [] (last_of c.args.numbers.now c.loop-x.x-index (omega (arith, c.loop-x-test.false)) c.loop-x.invariant) c.requires in
    omega (arith, r.fits)

pub returns : goal.returns
returns c = rest_end (10 ∷ []) (last_of c.args.numbers.now c.loop-x.x-index (omega (arith, c.loop-x-test.false)) c.loop-x.invariant) c.byte_into.ensures
