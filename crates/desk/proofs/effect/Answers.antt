use mathlib.Core.Path.{refl}
use Prim.Native.Nat.{◌+◌}
use native.Mathlib.Omega.{arith}
use Rattle.rules.specs.File.{challenge}
use Rattle.lookup.proofs.Fields.{four_bytes, two_read, known_as, challenge_there, issue_iak_there, issue_iaks_there}
use Rattle.issuance.proofs.Issued.{iak_open}
use Rattle.desk.proofs.Places.{issue_as, iak_bytes, pairs_bytes, two_bytes, issue_read, accepts_as, accepted_as, issues_as, challenge_as}
use Rattle.desk.proofs.effect.Goals as goal

pub bounds-file-at-2 : goal.bounds-file-at-2
bounds-file-at-2 c = omega (arith, four_bytes c.requires.command)

pub two_terms-q-requires : goal.two_terms-q-requires
two_terms-q-requires c = two_bytes c.requires.command c.requires.is_desk (λ e. omega arith) (λ e. omega arith)

pub effect-requires : goal.effect-requires
effect-requires c =
    let p = c.requires in
    (p.holds, known_as p.command (two_read challenge (challenge_there _ _ c.in-62.is) c.two_terms-q.ensures.first c.two_terms-q.ensures.second))

pub returns-in-62 : goal.returns-in-62
returns-in-62 c =
    let e = two_read challenge (challenge_there _ _ c.in-62.is) c.two_terms-q.ensures.first c.two_terms-q.ensures.second in
    challenge_as _ _ e c.new-gained.ensures c.effect.ensures

pub word_at-c-requires : goal.word_at-c-requires
word_at-c-requires c = omega (arith, iak_bytes c.requires.command c.in-63.is)

pub word_at-r-requires : goal.word_at-r-requires
word_at-r-requires c = omega (arith, iak_bytes c.requires.command c.in-63.is)

pub effect_issue_iak-requires : goal.effect_issue_iak-requires
effect_issue_iak-requires c =
    let p = c.requires in
    let e = issue_read (issue_iak_there _ _ c.in-63.is) c.word_at-c.ensures c.word_at-r.ensures in
    let a = accepts_as _ _ e p.accepts in
    (p.holds, record { other = _; wellformed = known_as p.command e; requested = p.opened _ (iak_open _ _ _ _ _ _ a.accepted); accepts = a; finds = p.finds })

pub returns-in-63 : goal.returns-in-63
returns-in-63 c =
    let e = issue_read (issue_iak_there _ _ c.in-63.is) c.word_at-c.ensures c.word_at-r.ensures in
    issues_as _ _ e (rw c.new-gained.ensures at c.push.ensures.items) (c.effect_issue_iak.ensures _)

pub effect-requires-in-67 : goal.effect-requires-in-67
effect-requires-in-67 c =
    let p = c.requires in
    let k = c.in-67.is in
    let e = issue_iaks_there _ _ k in
    record {
      here = record { holds = p.holds; whole = pairs_bytes p.command k; wellformed = known_as p.command e; opened = p.opened };
      finds = p.finds;
      ledger = p.accepts.ledger;
      ledgered = p.ledgered;
      accepted = accepted_as _ _ e p.accepts;
    }

pub returns-in-67 : goal.returns-in-67
returns-in-67 c = issues_as _ _ (issue_iaks_there _ _ c.in-67.is) refl c.effect-in-67.ensures

pub two_terms-q-requires-in_default : goal.two_terms-q-requires-in_default
two_terms-q-requires-in_default c = two_bytes c.requires.command c.requires.is_desk (λ e. omega arith) (λ e. omega arith)

pub effect_issue-requires : goal.effect_issue-requires
effect_issue-requires c =
    let p = c.requires in
    let q = c.two_terms-q-in_default.ensures in
    let e = issue_as p.command p.is_desk (λ e. omega arith) (λ e. omega arith) (λ e. omega arith) refl q.first q.second in
    (p.holds, record { family = _; wellformed = known_as p.command e; accepts = accepts_as _ _ e p.accepts; finds = p.finds; parents = p.parents })

pub returns-in_default : goal.returns-in_default
returns-in_default c =
    let p = c.requires in
    let q = c.two_terms-q-in_default.ensures in
    let e = issue_as p.command p.is_desk (λ e. omega arith) (λ e. omega arith) (λ e. omega arith) refl q.first q.second in
    issues_as _ _ e (rw c.new-gained.ensures at c.push-in_default.ensures.items) (c.effect_issue.ensures _)
