use mathlib.Core.Path.{sym, ap, ◌∙◌}
use mathlib.Core.List.{List}
use Rattle.std.proofs.Common.{get_or, ◌+◌}
use Rattle.rules.specs.Desk.{certificates_of, is_among}
use Rattle.together.specs.declared.Pair.{Pair}
use Rattle.together.specs.Pairs.{pairs_of}
use Rattle.together.proofs.Pairs.{pairs_from, pairs_past, tail_all, twice_first, twice_none}
use Rattle.together.proofs.any_twice.Goals as goal

pub returns-then-has_certificate : goal.returns-then-has_certificate
returns-then-has_certificate c =
    let r = (get_or c.args.pairs.now c.loop-i.i (record { credential = 0; certificate = 0 })).certificate in
    let among = ap (λ (ys : List Pair). is_among r (certificates_of (pairs_of ys))) (sym (tail_all c.args.pairs.now (c.loop-i.i + 1))) ∙ sym c.has_certificate.ensures in
    sym (c.loop-i.invariant ∙ twice_first _ _ (pairs_from _ _ (record { credential = 0; certificate = 0 }) c.loop-i-test.true) (among ∙ c.if-has_certificate.true))

pub loop-i-preserved : goal.loop-i-preserved
loop-i-preserved c =
    let r = (get_or c.args.pairs.now c.loop-i.i (record { credential = 0; certificate = 0 })).certificate in
    let among = ap (λ (ys : List Pair). is_among r (certificates_of (pairs_of ys))) (sym (tail_all c.args.pairs.now (c.loop-i.i + 1))) ∙ sym c.has_certificate.ensures in
    c.loop-i.invariant ∙ twice_first _ _ (pairs_from _ _ (record { credential = 0; certificate = 0 }) c.loop-i-test.true) (among ∙ c.if-has_certificate.false)

pub returns : goal.returns
returns c = sym (c.loop-i.invariant ∙ twice_none (pairs_past _ _ c.loop-i-test.false))
