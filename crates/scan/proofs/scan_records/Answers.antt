-- `scan::scan_records` meets its contract. The outer loop's invariant: the file declared by the records before `at` is
-- described, its terms are indexed, feeding it the pieces from `at` on is loading the file, and the first command is the
-- first from `at` on. The inner loop's: what is wrong with the fields that are left is all that is wrong.
-- Assumes nothing.
use mathlib.Core.Path.{◌≡◌, refl, sym, ◌∙◌}
use Prim.Native.Nat.{◌<◌}
use native.Mathlib.Omega.{arith}
use lib.ListN.{length}
use Rattle.tables.specs.Columns.{tables_in}
use Rattle.setup.proofs.Terms.{looked_up}
use Rattle.checks.proofs.Fields.{walk_begins, walk_done, walk_here, walk_refused, walk_next}
use Rattle.reader.proofs.Places.{next_later, place_later}
use Rattle.lookup.proofs.Commands.{commands_here}
use Rattle.scan.specs.Describes.{checked_fault}
use Rattle.scan.proofs.Scanning.{number_some, at_start, counts_small, body_same}
use Rattle.scan.proofs.Checking.{head_refused, whole, body_whole, body_short, fields_left}
use Rattle.scan.proofs.Records.{record_refused, asks, entering_refused, entering_taken, at_the_end, passed}
use Rattle.scan.proofs.scan_records.Goals as goal
use Rattle.scan.proofs.scan_records.Goals.{then-not-seen_right+then-not-is_setup_right+else-loop-field-test, else-not-seen_right, else-not-seen_right-via-then-not-seen_right+else-not-is_setup_right, else-not-seen_right-via-else-not-seen_right, After-enter}

-- a record whose fields were walked over, or seen to be right at once
right : (c : After-enter) → checked_fault c.args.file.now (tables_in c.records.tables).terms c.records.n.section c.records.n.parties c.records.n.terms c.records.at ≡ 0
right c =
    elim c.if-not-seen_right.branch [
      | then-not-seen_right+then-not-is_setup_right+else-loop-field-test w ↦
          sym (fields_left _ _ _ _ _ _ c.section_of-section.ensures c.next_place-end.ensures c.in_default.ensures (sym (walk_done _ _ w.loop-field.invariant.walk w.loop-field-test.false)))
      | else-not-seen_right w ↦
          sym (fields_left _ _ _ _ _ _ c.section_of-section.ensures c.next_place-end.ensures c.in_default.ensures
          (sym
          elim w.else-not-seen_right.branch [
            | else-not-seen_right-via-then-not-seen_right+else-not-is_setup_right s ↦ s.is_setup_right.ensures s.if-not-is_setup_right.false
            | else-not-seen_right-via-else-not-seen_right s ↦ c.seen_right.ensures s.if-not-seen_right.false _
          ]))
    ]

pub records-init : goal.records-init
records-init c = record { stands = at_start {n = c.default-n.result} c.default-n.ensures c.requires refl; size = refl; first = refl }

pub invariant_of-declared : goal.invariant_of-declared
invariant_of-declared c = let w = c.records.invariant.stands in record { noted = looked_up w.here.describes.there w.indexed.noted }

pub slice_bounds-body-count : goal.slice_bounds-body-count
slice_bounds-body-count c = omega (arith, c.next_place-end.ensures, next_later c.args.file.now c.records.at)

pub slice_bounds-body-start : goal.slice_bounds-body-start
slice_bounds-body-start c = omega (arith, c.next_place-end.ensures, next_later c.args.file.now c.records.at)

pub slice_bounds-body-end : goal.slice_bounds-body-end
slice_bounds-body-end c = whole _ (tables_in c.records.tables).terms _ _ _ _ c.section_of-section.ensures c.next_place-end.ensures c.in_default.ensures

pub seen_right-requires : goal.seen_right-requires
seen_right-requires c = body_whole _ (tables_in c.records.tables).terms _ _ _ _ c.section_of-section.ensures c.next_place-end.ensures c.in_default.ensures

pub is_setup_right-requires : goal.is_setup_right-requires
is_setup_right-requires c = body_whole _ (tables_in c.records.tables).terms _ _ _ _ c.section_of-section.ensures c.next_place-end.ensures c.in_default.ensures

pub loop-field-init : goal.loop-field-init
loop-field-init c = record {
  walk = walk_begins _ _ _ _ _ (body_whole _ (tables_in c.records.tables).terms _ _ _ _ c.section_of-section.ensures c.next_place-end.ensures c.in_default.ensures) c.fields_of-field-items.ensures;
}

pub check_field-requires : goal.check_field-requires
check_field-requires c = walk_here _ _ c.loop-field.invariant.walk c.loop-field-test.true

pub overflow_add-offset : goal.overflow_add-offset
overflow_add-offset c =
    let s = c.records.invariant.stands.here.short in
    omega (
      arith,
      s,
      walk_here _ _ c.loop-field.invariant.walk c.loop-field-test.true,
      body_short _ (tables_in c.records.tables).terms _ _ _ _ c.section_of-section.ensures c.next_place-end.ensures c.in_default.ensures,
      c.width-offset.ensures,
    )

pub loop-field-preserved : goal.loop-field-preserved
loop-field-preserved c = record { walk = walk_next _ _ c.loop-field.invariant.walk c.loop-field-test.true c.in_default-check_field.ensures c.width-offset.ensures }

pub enter-requires : goal.enter-requires
enter-requires c =
    let w = c.records.invariant.stands in
    let z : checked_fault c.args.file.now (tables_in c.records.tables).terms c.records.n.section c.records.n.parties c.records.n.terms c.records.at ≡ 0 =
    elim c.if-not-seen_right.branch [
      | then-not-seen_right+then-not-is_setup_right+else-loop-field-test w ↦
          sym (fields_left _ _ _ _ _ _ c.section_of-section.ensures c.next_place-end.ensures c.in_default.ensures (sym (walk_done _ _ w.loop-field.invariant.walk w.loop-field-test.false)))
      | else-not-seen_right w ↦
          sym (fields_left _ _ _ _ _ _ c.section_of-section.ensures c.next_place-end.ensures c.in_default.ensures
          (sym
          elim w.else-not-seen_right.branch [
            | else-not-seen_right-via-then-not-seen_right+else-not-is_setup_right s ↦ s.is_setup_right.ensures s.if-not-is_setup_right.false
            | else-not-seen_right-via-else-not-seen_right s ↦ c.seen_right.ensures s.if-not-seen_right.false _
          ]))
    ] in
    let a = asks w (omega arith) z (body_same _ _ _ c.next_place-end.ensures) in
    (c.section_of-section.ensures, a.0, w.indexed, refl, a.1)

pub count-requires : goal.count-requires
count-requires c = counts_small c.records.invariant.stands.here

pub records-smaller : goal.records-smaller
records-smaller c = omega (arith, c.if-file-at.false, place_later _ _ _ c.next_place-end.ensures)

pub records-preserved : goal.records-preserved
records-preserved c =
    let w = c.records.invariant in
    let e = c.in_default-enter.ensures in
    record {
      stands = entering_taken w.stands (omega arith) (right (goal.at.records-preserved c).After-enter) (body_same _ _ _ c.next_place-end.ensures) c.section_of-section.ensures c.next_place-end.ensures c.count.ensures c.enter.auto.state e.refusal e.left e.keys (e.indexed refl);
      size = c.enter.auto.state ∙ w.size;
      first = passed c.args.file.now c.records.at c.next_place-end.ensures (omega arith) c.section_of-section.ensures c.if-section-eq4.false w.first;
    }

pub returns-then-file-at-clause-stands : goal.returns-then-file-at-clause-stands
returns-then-file-at-clause-stands c = record { links = c.records.links; stands = c.records.invariant.stands; begun = λ (h : c.records.at < length c.args.file.now). absurd (omega arith) }

pub returns-then-file-at-clause-first : goal.returns-then-file-at-clause-first
returns-then-file-at-clause-first c = let w = c.records.invariant in at_the_end _ _ w.stands.here.inside c.if-file-at.true w.first

pub returns-then-section-eq4-clause-stands : goal.returns-then-section-eq4-clause-stands
returns-then-section-eq4-clause-stands c = record {
  links = c.records.links;
  stands = c.records.invariant.stands;
  begun = λ _. sym c.section_of-section.ensures ∙ c.if-section-eq4.true;
}

pub returns-then-section-eq4-clause-first : goal.returns-then-section-eq4-clause-first
returns-then-section-eq4-clause-first c =
    sym (commands_here c.args.file.now c.records.at (omega arith) (sym c.section_of-section.ensures ∙ c.if-section-eq4.true)) ∙ c.records.invariant.first

pub returns-in-Err-clause-refused : goal.returns-in-Err-clause-refused
returns-in-Err-clause-refused c =
    record_refused c.records.invariant.stands (omega arith) _
    (head_refused _ _ _ _ _ _ c.section_of-section.ensures c.next_place-end.ensures _ (number_some _) c.in-Err.ensures)

pub returns-in-Err-check_field-clause-refused : goal.returns-in-Err-check_field-clause-refused
returns-in-Err-check_field-clause-refused c =
    record_refused c.records.invariant.stands (omega arith) _
    (fields_left _ _ _ _ _ _ c.section_of-section.ensures c.next_place-end.ensures c.in_default.ensures
    (walk_refused _ _ c.loop-field.invariant.walk c.loop-field-test.true _ c.in-Err-check_field.ensures))

pub returns-in-Err-enter-clause-refused : goal.returns-in-Err-enter-clause-refused
returns-in-Err-enter-clause-refused c =
    entering_refused c.records.invariant.stands (omega arith) (right (goal.at.returns-in-Err-enter-clause-refused c).After-enter) (body_same _ _ _ c.next_place-end.ensures) _ c.in-Err-enter.ensures.refusal
