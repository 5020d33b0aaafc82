use Rattle.std.proofs.Common.{◌≡◌, ℕ, false, length, sym, ap, ◌∙◌}
use Rattle.std.proofs.lemmas.Bool.{false≢true}
use Rattle.rules.specs.Codes.{number_in}
use Rattle.learning.specs.There.{kind_there}
use Rattle.commands.specs.Standing.{desk_kind}
use Rattle.turns.specs.Turns.{stepped}
use Rattle.turns.proofs.Turns.{onward_stands, onward_here, onward_next, onward_accepted, onward_last, accepted_number, number_accepted}
use Rattle.turns.proofs.turn.Goals as goal
use Rattle.turns.proofs.turn.Goals.{else-is_ok-via-then-is_ok+else-is_desk, else-is_ok-via-else-is_ok}

pub decide-decided-requires : goal.decide-decided-requires
decide-decided-requires c = ((_, onward_stands c.requires c.loop-p.invariant), onward_here c.requires c.loop-p.invariant c.loop-p-test.true)

pub effect-gained-requires : goal.effect-gained-requires
effect-gained-requires c =
    (_, onward_accepted c.requires c.loop-p.invariant c.loop-p-test.true c.decide-decided.ensures c.outcome_byte.ensures (accepted_number _ (sym c.is_ok.ensures.value ∙ c.if-is_ok.true)) (sym c.is_desk.ensures ∙ c.if-is_desk.true))

pub returns-then-is_desk : goal.returns-then-is_desk
returns-then-is_desk c =
    let z = accepted_number c.decide-decided.result (sym c.is_ok.ensures.value ∙ c.if-is_ok.true) in
    let k = sym c.is_desk.ensures ∙ c.if-is_desk.true in
    let accepted = onward_accepted c.requires c.loop-p.invariant c.loop-p-test.true c.decide-decided.ensures c.outcome_byte.ensures z k in
    onward_last c.requires c.loop-p.invariant c.loop-p-test.true c.decide-decided.ensures c.outcome_byte.ensures z k (c.effect-gained.ensures _ accepted) (record { state = λ i. (c.type_inv.state i).fits; registers = λ i. (c.type_inv.registers i).fits }) c.next_place-next.ensures
    (c.step.ensures ∙ ap (λ (k : ℕ). stepped (length c.args.file.now) c.loop-p.p (number_in c.decide-decided.result) k c.next_place-next.result) c.len.ensures.value)

pub loop-p-preserved : goal.loop-p-preserved
loop-p-preserved c =
    let not_desk : number_in c.decide-decided.result ≡ 0 → desk_kind (kind_there c.args.file.now c.loop-p.p.at) ≡ false =
    elim c.else-is_ok.branch [
      | else-is_ok-via-then-is_ok+else-is_desk w ↦ λ z. sym w.is_desk.ensures ∙ w.if-is_desk.false
      | else-is_ok-via-else-is_ok w ↦ λ z. absurd (false≢true (sym w.if-is_ok.false ∙ c.is_ok.ensures.value ∙ number_accepted _ z))
    ] in
    onward_next c.requires c.loop-p.invariant c.loop-p-test.true c.decide-decided.ensures c.outcome_byte.ensures not_desk c.decide-decided.auto.state c.decide-decided.auto.registers (record { state = λ i. (c.type_inv.state i).fits; registers = λ i. (c.type_inv.registers i).fits }) c.next_place-next.ensures c.step-in-loop-p.ensures
