use mathlib.Core.Path.{◌≡◌, sym, ap, ◌∙◌}
use mathlib.Core.Logic.{inl, inr}
use mathlib.Core.Bool.{true, false}
use mathlib.Core.List.{List}
use Rattle.std.proofs.Common.{rules, length, arith}
use Rattle.std.proofs.lemmas.List.{length-map}
use Rattle.rules.specs.Codes.{number_in}
use Rattle.rules.specs.File.{IakPair}
use Rattle.rules.specs.Desk.{certificates_of, any_twice}
use Rattle.theorems.proofs.Together.{refused_13, refused_32}
use Rattle.together.specs.Pairs.{pair_of, pairs_of}
use Rattle.together.proofs.decide.Goals as goal

pub returns-in_err-ensure : goal.returns-in_err-ensure
returns-in_err-ensure c n ledger k =
    let e : number_in c.from_residual.result ≡ 13 = search rules in
    let role : c.is_role.result ≡ false = search rules in
    e ∙ sym (refused_13 _ _ _ _ _ (sym c.is_role.ensures ∙ role))

pub returns-in_err-ensure-2 : goal.returns-in_err-ensure-2
returns-in_err-ensure-2 c n ledger k =
    let e : number_in c.from_residual-in_err-ensure-2.result ≡ 32 = search rules in
    let role : c.is_role.result ≡ true = search rules in
    let none : length c.pairs_at-pairs.result.items ≡ 0 = search rules in
    e ∙ sym (refused_32 _ _ _ _ _ (sym c.is_role.ensures ∙ role) (inl (ap length (sym c.pairs_at-pairs.ensures) ∙ length-map c.pairs_at-pairs.result.items pair_of ∙ none)))

pub returns-in_err-ensure-3 : goal.returns-in_err-ensure-3
returns-in_err-ensure-3 c n ledger k =
    let e : number_in c.from_residual-in_err-ensure-3.result ≡ 32 = search rules in
    let role : c.is_role.result ≡ true = search rules in
    let twice : c.any_twice.result ≡ true = search rules in
    e ∙ sym (refused_32 _ _ _ _ _ (sym c.is_role.ensures ∙ role) (inr (ap (λ (xs : List IakPair). any_twice (certificates_of xs)) (sym c.pairs_at-pairs.ensures) ∙ sym (rw c.deref.ensures.0 at c.any_twice.ensures) ∙ twice)))

pub judge_all-requires : goal.judge_all-requires
judge_all-requires c =
    let role : c.is_role.result ≡ true = search rules in
    let some : length c.pairs_at-pairs.result.items ≡ 0 → ⊥ = search rules in
    let apart : c.any_twice.result ≡ false = search rules in
    rw c.deref-2.ensures.0 (record {
      decided = c.requires;
      read = c.pairs_at-pairs.ensures;
      role = sym c.is_role.ensures ∙ role;
      some = λ z. some (sym (length-map c.pairs_at-pairs.result.items pair_of) ∙ z);
      apart = sym (rw c.deref.ensures.0 at c.any_twice.ensures) ∙ apart;
    })
