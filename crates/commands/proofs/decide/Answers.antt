use mathlib.Core.Path.{refl}
use Rattle.commands.proofs.Next.{on_accepted, on_refused, desk_range, desk_here, desk_not_below, desk_not_above, open_requested, ledgered, some_ledger, refused_does, device_done, plain_decided, plain_done, desk_decided, not_both}
use Rattle.commands.proofs.decide.Goals as goal

pub execute-requires : goal.execute-requires
execute-requires c =
    let st = c.requires.0.1.1 in
    (st.holds, c.requires.1, c.if-kind-lt62.true)

pub returns-then-kind-lt62 : goal.returns-then-kind-lt62
returns-then-kind-lt62 c =
    let h = c.if-kind-lt62.true in
    record {
      decided = λ n ledger st. plain_decided st c.requires.1 h (c.execute.ensures.decided ledger);
      done = λ _ n ledger st. plain_done st c.requires.1 h (c.execute.ensures.decided ledger) (on_accepted _ c.execute.ensures.left) (on_refused _ c.execute.ensures.kept) c.execute.auto.state;
      same = λ k. absurd (desk_not_below _ h k);
    }

pub decide-requires : goal.decide-requires
decide-requires c =
    let st = c.requires.0.1.1 in
    (st.holds, c.requires.1, desk_range (desk_here _ c.if-kind-lt62.false c.if-kind-lt68.true), some_ledger st, open_requested st)

pub returns-then-kind-lt68 : goal.returns-then-kind-lt68
returns-then-kind-lt68 c =
    let d = c.decide.ensures in
    let k = desk_here _ c.if-kind-lt62.false c.if-kind-lt68.true in
    record {
      decided = λ n ledger st. desk_decided st c.requires.1 k (d n ledger (ledgered st));
      done = λ h n ledger st. refused_does st c.requires.1 (desk_decided st c.requires.1 k (d n ledger (ledgered st))) (λ z. not_both k (h z));
      same = λ h. refl;
    }

pub execute-requires-2 : goal.execute-requires-2
execute-requires-2 c =
    let st = c.requires.0.1.1 in
    (st.holds, c.requires.1, c.if-kind-lt68.false, st.registers)

pub returns : goal.returns
returns c =
    record {
      decided = λ n ledger st. c.execute-2.ensures.decided ledger;
      done = λ h n ledger st. device_done st c.requires.1 (c.execute-2.ensures.decided ledger) (on_accepted _ c.execute-2.ensures.left) (on_refused _ c.execute-2.ensures.kept) c.execute-2.auto.state c.execute-2.auto.registers;
      same = λ k. absurd (desk_not_above _ c.if-kind-lt68.false k);
    }
