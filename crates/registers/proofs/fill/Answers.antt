use mathlib.Core.Path.{◌≡◌, sym, ap, ◌∙◌}
use Prim.Native.Nat.{ℕ, ◌+◌, ◌-◌}
use native.Mathlib.Omega.{arith}
use lib.ListN.{replicate}
use borrow.Author.Tests.{eqb-false}
use Rattle.rules.specs.Term.{register_kind}
use Rattle.rules.specs.File.{kind, is_kind}
use Rattle.loaded.specs.Loaded.{file_in}
use Rattle.loaded.proofs.Standing.{checked_reads}
use Rattle.theorems.proofs.Terms.{is_kind_kind}
use Rattle.registers.specs.Starting.{shown_by_devices, start_from}
use Rattle.registers.proofs.Start.{start_empty, start_skip, start_next, start_all}
use Rattle.registers.proofs.fill.Goals as goal

pub loop-t-init : goal.loop-t-init
loop-t-init c =
    let p = c.requires in
    (start_empty _ _ _ (c.fill.ensures.after (λ y e. e) ∙ ap (λ (n : ℕ). replicate n 255) p.0) p.2, λ i. (c.type_inv.registers i).fits)

pub show_all-requires : goal.show_all-requires
show_all-requires c =
    let p = c.requires in
    let r = c.args.loaded.now.reads in
    let k = is_kind_kind _ _ _ (sym c.is_kind.ensures ∙ c.if-is_kind.true) in
    (omega (arith, c.loop-t.auto.registers), p.1, rw c.register.ensures ((checked_reads r).start_register _ k), omega (arith, r.finds.few))

pub loop-t-preserved-then-is_kind : goal.loop-t-preserved-then-is_kind
loop-t-preserved-then-is_kind c =
    let p = c.requires in
    let f = file_in c.args.loaded.now.file.now in
    let t = c.loop-t.t - 1 in
    let e : c.loop-t.t ≡ t + 1 = omega arith in
    let k = is_kind_kind _ _ _ (sym c.is_kind.ensures ∙ c.if-is_kind.true) in (
      c.show_all.ensures
          ∙ (λ x. shown_by_devices f ((c.loop-t.invariant.0 ∙ ap (start_from f) e) x) (p.1 x) (c.register.ensures x) t)
          ∙ start_next f t (omega arith) k,
      λ i. (c.type_inv.registers i).fits,
    )

pub loop-t-preserved : goal.loop-t-preserved
unfolding is_kind
loop-t-preserved c =
    let f = file_in c.args.loaded.now.file.now in
    let t = c.loop-t.t - 1 in
    let e : c.loop-t.t ≡ t + 1 = omega arith in
    let n = eqb-false (kind f t) register_kind (sym c.is_kind.ensures ∙ c.if-is_kind.false) in
    (c.loop-t.invariant.0 ∙ ap (start_from f) e ∙ start_skip f t (omega arith) n, c.loop-t.invariant.1)

pub returns-clause-shows : goal.returns-clause-shows
returns-clause-shows c =
    let f = file_in c.args.loaded.now.file.now in
    let e : c.loop-t.t ≡ 0 = omega arith in
    c.loop-t.invariant.0 ∙ ap (start_from f) e ∙ start_all f
