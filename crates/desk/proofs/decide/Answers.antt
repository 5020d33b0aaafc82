use Prim.Native.Nat.{◌+◌}
use native.Mathlib.Omega.{arith}
use Rattle.rules.specs.File.{challenge}
use Rattle.lookup.proofs.Fields.{four_bytes, two_read, known_as, challenge_there, issue_iak_there, issue_iaks_there}
use Rattle.loaded.proofs.Boards.{entered_falls}
use Rattle.desk.proofs.Places.{issue_as, iak_bytes, pairs_bytes, two_bytes, issue_read, decided_as}
use Rattle.desk.proofs.decide.Goals as goal

pub bounds-file-at-2 : goal.bounds-file-at-2
bounds-file-at-2 c = omega (arith, four_bytes c.requires.1)

pub two_terms-q-requires : goal.two_terms-q-requires
two_terms-q-requires c = two_bytes c.requires.1 c.requires.2 (λ e. omega arith) (λ e. omega arith)

pub decide-requires : goal.decide-requires
decide-requires c =
    let p = c.requires in
    (p.0, known_as p.1 (two_read challenge (challenge_there _ _ c.in-62.is) c.two_terms-q.ensures.first c.two_terms-q.ensures.second))

pub returns-in-62 : goal.returns-in-62
returns-in-62 c =
    let e = two_read challenge (challenge_there _ _ c.in-62.is) c.two_terms-q.ensures.first c.two_terms-q.ensures.second in
    decided_as _ _ e c.args.state.now _ _ (λ n ledger k. c.decide.ensures ledger)

pub bounds-file-at-in-63 : goal.bounds-file-at-in-63
bounds-file-at-in-63 c = omega (arith, four_bytes c.requires.1)

pub word_at-c-requires : goal.word_at-c-requires
word_at-c-requires c = omega (arith, iak_bytes c.requires.1 c.in-63.is)

pub word_at-r-requires : goal.word_at-r-requires
word_at-r-requires c = omega (arith, iak_bytes c.requires.1 c.in-63.is)

pub decide_issue_iak-requires : goal.decide_issue_iak-requires
decide_issue_iak-requires c =
    let p = c.requires in
    let e = issue_read (issue_iak_there _ _ c.in-63.is) c.word_at-c.ensures c.word_at-r.ensures in
    (p.0, known_as p.1 e, p.4 _, entered_falls (p.3.0, p.3.1, p.3.2.enters))

pub returns-in-63 : goal.returns-in-63
returns-in-63 c =
    let e = issue_read (issue_iak_there _ _ c.in-63.is) c.word_at-c.ensures c.word_at-r.ensures in
    decided_as _ _ e c.args.state.now _ _ c.decide_issue_iak.ensures

pub decide-requires-in-67 : goal.decide-requires-in-67
decide-requires-in-67 c =
    let p = c.requires in
    let k = c.in-67.is in
    record {
      here = record { holds = p.0; whole = pairs_bytes p.1 k; wellformed = known_as p.1 (issue_iaks_there _ _ k); opened = p.4 };
      finds = c.args.loaded.now.reads.finds;
      entries = p.3.0;
      ledger = p.3.1;
      ledgered = p.3.2;
    }

pub returns-in-67 : goal.returns-in-67
returns-in-67 c = decided_as _ _ (issue_iaks_there _ _ c.in-67.is) c.args.state.now _ _ c.decide-in-67.ensures

pub two_terms-q-requires-in_default : goal.two_terms-q-requires-in_default
two_terms-q-requires-in_default c = two_bytes c.requires.1 c.requires.2 (λ e. omega arith) (λ e. omega arith)

pub decide_issue-requires : goal.decide_issue-requires
decide_issue-requires c =
    let p = c.requires in
    let q = c.two_terms-q-in_default.ensures in
    (p.0, known_as p.1 (issue_as p.1 p.2 (λ e. omega arith) (λ e. omega arith) (λ e. omega arith) c.family_of.ensures q.first q.second))

pub returns-in_default : goal.returns-in_default
returns-in_default c =
    let p = c.requires in
    let q = c.two_terms-q-in_default.ensures in
    decided_as _ _ (issue_as p.1 p.2 (λ e. omega arith) (λ e. omega arith) (λ e. omega arith) c.family_of.ensures q.first q.second) c.args.state.now _ _ c.decide_issue.ensures
