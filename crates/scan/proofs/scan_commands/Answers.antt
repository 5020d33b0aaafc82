-- `scan::scan_commands` meets its contract. The outer loop's invariant is that of `scan_records`, of any state and index
-- with which the scan stood where the commands begin, but that commands alone follow; the inner loop's is the same.
-- Assumes nothing.
use mathlib.Core.Path.{◌≡◌, sym, ◌∙◌}
use Prim.Native.Nat.{◌<◌}
use native.Mathlib.Omega.{arith}
use lib.ListN.{length}
use Rattle.tables.specs.Columns.{tables_in}
use Rattle.setup.proofs.Terms.{looked_up}
use Rattle.checks.proofs.Fields.{walk_begins, walk_done, walk_here, walk_refused, walk_next}
use Rattle.reader.proofs.Places.{next_later, place_is, place_later}
use Rattle.scan.specs.Describes.{checked_fault, Stands}
use Rattle.scan.proofs.Scanning.{number_some, counts_small}
use Rattle.scan.proofs.Checking.{head_refused, whole, body_whole, body_short, fields_left}
use Rattle.scan.proofs.Records.{record_refused}
use Rattle.scan.proofs.Commands.{plain_right, commands_next, stands_end}
use Rattle.scan.proofs.scan_commands.Goals as goal
use Rattle.scan.proofs.scan_commands.Goals.{At-commands, then-not-is_plain+in_default+else-loop-operand-test, else-not-is_plain}

-- the scan stands at the command, with the state and the index that it began with
stands : (c : At-commands) → Stands c.args.file.now c.requires.0 c.requires.1.links c.args.tables.now c.commands.n c.commands.at
stands c = let w = c.requires.1 in c.commands.invariant.stands c.requires.0 w.links w.stands

pub invariant_of-declared : goal.invariant_of-declared
invariant_of-declared c = let w = c.requires.1.stands in record { noted = looked_up w.here.describes.there w.indexed.noted }

pub is_plain-requires : goal.is_plain-requires
is_plain-requires c = (omega arith, place_is _ _ _ c.next_place-end.ensures)

pub slice_bounds-body-count : goal.slice_bounds-body-count
slice_bounds-body-count c = omega (arith, c.next_place-end.ensures, next_later c.args.file.now c.commands.at)

pub slice_bounds-body-start : goal.slice_bounds-body-start
slice_bounds-body-start c = omega (arith, c.next_place-end.ensures, next_later c.args.file.now c.commands.at)

pub slice_bounds-body-end : goal.slice_bounds-body-end
slice_bounds-body-end c = whole _ (tables_in c.args.tables.now).terms _ _ _ _ c.section_of-own.ensures c.next_place-end.ensures c.in_default.ensures

pub loop-operand-init : goal.loop-operand-init
loop-operand-init c = record {
  walk = walk_begins _ _ _ _ _ (body_whole _ (tables_in c.args.tables.now).terms _ _ _ _ c.section_of-own.ensures c.next_place-end.ensures c.in_default.ensures) c.fields_of-operand-items.ensures;
}

pub check_field-requires : goal.check_field-requires
check_field-requires c = walk_here _ _ c.loop-operand.invariant.walk c.loop-operand-test.true

pub overflow_add-offset : goal.overflow_add-offset
overflow_add-offset c =
    let s = (stands (goal.at.overflow_add-offset c).At-commands).here.short in
    omega (
      arith,
      s,
      walk_here _ _ c.loop-operand.invariant.walk c.loop-operand-test.true,
      body_short _ (tables_in c.args.tables.now).terms _ _ _ _ c.section_of-own.ensures c.next_place-end.ensures c.in_default.ensures,
      c.width-offset.ensures,
    )

pub loop-operand-preserved : goal.loop-operand-preserved
loop-operand-preserved c = record { walk = walk_next _ _ c.loop-operand.invariant.walk c.loop-operand-test.true c.in_default-check_field.ensures c.width-offset.ensures }

pub count-requires : goal.count-requires
count-requires c = counts_small (stands (goal.at.count-requires c).At-commands).here

pub commands-smaller : goal.commands-smaller
commands-smaller c = omega (arith, c.if-file-at.false, place_later _ _ _ c.next_place-end.ensures)

pub commands-preserved : goal.commands-preserved
commands-preserved c =
    let v = (tables_in c.args.tables.now).terms in
    let o = (stands (goal.at.commands-preserved c).At-commands).here.in_order in
    let z : checked_fault c.args.file.now v c.commands.n.section c.args.before.tally.parties c.args.before.tally.terms c.commands.at ≡ 0 =
    elim c.if-not-is_plain.branch [
      | then-not-is_plain+in_default+else-loop-operand-test w ↦
          sym (fields_left _ _ _ _ _ _ w.section_of-own.ensures c.next_place-end.ensures w.in_default.ensures (sym (walk_done _ _ w.loop-operand.invariant.walk w.loop-operand-test.false)))
      | else-not-is_plain w ↦ plain_right _ o (c.is_plain.ensures w.if-not-is_plain.false)
    ] in
    let w = c.commands.invariant in
    let h : c.commands.at < length c.args.file.now = omega arith in
    let y : checked_fault c.args.file.now v c.commands.n.section c.commands.n.parties c.commands.n.terms c.commands.at ≡ 0 = rw (w.parties, w.terms) z in
    let e = commands_next (stands (goal.at.commands-preserved c).At-commands) (w.begun h) h y c.count.ensures c.next_place-end.ensures in
    record {
      stands = λ s links i. (commands_next (w.stands s links i) (w.begun h) h y c.count.ensures c.next_place-end.ensures).0;
      begun = λ _. e.1;
      parties = e.2 ∙ w.parties;
      terms = e.3 ∙ w.terms;
    }

pub returns-then-file-at-clause-passed : goal.returns-then-file-at-clause-passed
returns-then-file-at-clause-passed c = λ s links i. stands_end (c.commands.invariant.stands s links i) c.if-file-at.true

pub returns-in-Err-clause-refused : goal.returns-in-Err-clause-refused
returns-in-Err-clause-refused c =
    let w = c.commands.invariant in
    record_refused (stands (goal.at.returns-in-Err-clause-refused c).At-commands) (omega arith) _
    (rw (w.parties, w.terms) (head_refused _ _ _ _ _ _ c.section_of-own.ensures c.next_place-end.ensures _ (number_some _) c.in-Err.ensures))

pub returns-in-Err-check_field-clause-refused : goal.returns-in-Err-check_field-clause-refused
returns-in-Err-check_field-clause-refused c =
    let w = c.commands.invariant in
    record_refused (stands (goal.at.returns-in-Err-check_field-clause-refused c).At-commands) (omega arith) _
    (rw (w.parties, w.terms)
    (fields_left _ _ _ _ _ _ c.section_of-own.ensures c.next_place-end.ensures c.in_default.ensures
    (walk_refused _ _ c.loop-operand.invariant.walk c.loop-operand-test.true _ c.in-Err-check_field.ensures)))
