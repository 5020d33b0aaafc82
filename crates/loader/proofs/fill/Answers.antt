use mathlib.Core.Path.{sym, ◌∙◌}
use Rattle.loader.proofs.Filling.{cleared, scan_ready, fill_loaded, fill_refused}
use Rattle.loader.proofs.fill.Goals as goal

pub scan-found-requires : goal.scan-found-requires
scan-found-requires c = scan_ready c.requires c.clear.ensures c.clear.auto.state

pub returns-then-is_err : goal.returns-then-is_err
returns-then-is_err c =
    let t = c.scan-found in
    fill_refused t.result (sym c.is_err.ensures.value ∙ c.if-is_err.true) t.ensures.result
    (cleared _ c.clear-then-is_err.ensures (t.auto.state ∙ c.clear.auto.state ∙ c.requires.room))

pub returns-else-is_err : goal.returns-else-is_err
returns-else-is_err c =
    let t = c.scan-found in
    fill_loaded t.result (sym c.is_err.ensures.value ∙ c.if-is_err.false) t.ensures.result t.ensures.first t.ensures.indexed
