use mathlib.Core.Path.{◌≡◌, ap, ◌∙◌}
use Prim.Native.Nat.{◌-◌}
use native.Mathlib.Omega.{arith}
use Rattle.tables.specs.Columns.{tables_in}
use Rattle.loaded.proofs.Standing.{checked_here, kind_declared}
use Rattle.loaded.proofs.Declared.{left_declared}
use Rattle.issuance.proofs.Issued.{certificate_few, request_accepted, parent_few, parent_place, parent_some, parent_at_place, request_issued}
use Rattle.issuance.proofs.effect_issue.Goals as goal

pub ldevid_request-parent-requires : goal.ldevid_request-parent-requires
ldevid_request-parent-requires c = rw c.pair-request.ensures.left (left_declared (checked_here c.requires.0) c.requires.1.wellformed.2 (request_accepted c.requires.1).parent.pair)

pub depth_of-depth-requires : goal.depth_of-depth-requires
depth_of-depth-requires c = rw (c.ldevid_request-parent.ensures.certificate, c.pair-request.ensures.left) (parent_few c.requires.0 c.requires.1)

pub overflow_add-depth : goal.overflow_add-depth
overflow_add-depth c =
    let d = c.depth_of-depth.ensures ∙ c.requires.1.accepts.enters.depth _ in
    let k = rw (c.ldevid_request-parent.ensures.certificate, c.pair-request.ensures.left) at d in
    omega (arith, k, (request_accepted c.requires.1).depth)

pub entry_of-requires : goal.entry_of-requires
entry_of-requires c = rw (c.ldevid_request-parent.ensures.certificate, c.pair-request.ensures.left) (parent_few c.requires.0 c.requires.1)

pub unwrap-requires : goal.unwrap-requires
unwrap-requires c =
    let e = rw (c.ldevid_request-parent.ensures.certificate, c.pair-request.ensures.left) at c.entry_of.ensures in
    parent_some c.requires.1 _ e

pub ek_of-ek-requires : goal.ek_of-ek-requires
ek_of-ek-requires c =
    let e = rw (c.ldevid_request-parent.ensures.certificate, c.pair-request.ensures.left) at c.entry_of.ensures in
    omega (arith, parent_at_place _ _ e c.unwrap.ensures, (parent_place c.requires.1).1)

pub learn-requires : goal.learn-requires
learn-requires c = let w = c.requires.1.wellformed in (c.requires.0, w.0, kind_declared _ w.1 (λ x. omega arith))

pub append-requires : goal.append-requires
append-requires c = (c.requires.1.accepts.more, certificate_few c.requires.0 c.requires.1.wellformed.1)

pub overflow_cast-result : goal.overflow_cast-result
overflow_cast-result c = omega (arith, certificate_few c.requires.0 c.requires.1.wellformed.1)

pub overflow_cast-result-2 : goal.overflow_cast-result-2
overflow_cast-result-2 c = rw (c.ldevid_request-parent.ensures.certificate, c.pair-request.ensures.left) (omega (arith, parent_few c.requires.0 c.requires.1))

pub returns : goal.returns
returns c =
    let k = parent_at_place _ _ c.entry_of.ensures c.unwrap.ensures in
    let z : c.unwrap.result ≡ (tables_in c.args.tables.now).entry c.ldevid_request-parent.result.certificate - 1 = omega (arith, k) in
    request_issued c.requires.1 c.pair-request.ensures.left c.ldevid_request-parent.ensures.certificate c.depth_of-depth.ensures (c.ek_of-ek.ensures ∙ ap (tables_in c.args.tables.now).boards.ek z) c.learn.ensures c.append.ensures
