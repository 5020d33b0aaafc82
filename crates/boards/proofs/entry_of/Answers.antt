use mathlib.Core.Path.{◌≡◌, refl, sym, ap, ◌∙◌}
use Prim.Native.Nat.{ℕ, ◌+◌, ◌-◌}
use native.Mathlib.Omega.{arith}
use Rattle.rules.specs.Limits.{term_limit}
use Rattle.tables.specs.Columns.{one_more, boards_in}
use Rattle.boards.specs.Linked.{walk, entry_of}
use Rattle.boards.proofs.Walk.{walk_none, walk_found, walk_past}
use Rattle.boards.proofs.entry_of.Goals as goal

pub loop-next-init : goal.loop-next-init
unfolding entry_of
loop-next-init c = record {
  few = rw c.newest_of-next.ensures (c.requires.newest _);
  same = rw c.newest_of-next.ensures refl;
}

pub returns-then-serial_of-serial : goal.returns-then-serial_of-serial
returns-then-serial_of-serial c =
    let w = rw c.in-Some.is at c.loop-next.invariant.same in
    sym (w ∙ walk_found _ term_limit c.requires _ c.in-Some.place (c.in-Some.place + 1) refl (sym c.serial_of.ensures ∙ c.if-serial_of-serial.true))

pub loop-next-preserved : goal.loop-next-preserved
loop-next-preserved c =
    let w = rw c.in-Some.is at c.loop-next.invariant.same in
    record {
      few = rw c.earlier_of-next.ensures (omega (arith, c.requires.earlier c.in-Some.place, rw c.in-Some.is at c.loop-next.invariant.few));
      same =
          w
          ∙ walk_past _ term_limit c.requires _ c.in-Some.place (c.in-Some.place + 1) refl (λ h. c.if-serial_of-serial.false (c.serial_of.ensures ∙ h))
          ∙ ap (λ (e : ℕ). walk (boards_in c.args.tables.now).serial (boards_in c.args.tables.now).earlier c.args.serial e e) (sym c.earlier_of-next.ensures);
    }

pub returns : goal.returns
returns c =
    let w = rw c.in_default.is at c.loop-next.invariant.same in
    sym (w ∙ walk_none _ term_limit c.requires _ 0 refl)
