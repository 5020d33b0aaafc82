-- Refused where the walk found a term of the kind and key; else the index has the term, and the half of its pair where
-- it found one.
use Rattle.std.proofs.Common.{refl, arith}
use Rattle.std.proofs.lemmas.Result.{err_from_is_err_and}
use Rattle.rules.specs.Load.{refuse_unless}
use Rattle.index.proofs.Noted.{reached}
use Rattle.index.proofs.Entering.{refused, allowed, half_declared, entered_none, entered_public, entered_private}
use Rattle.index.proofs.enter_term.Goals as goal

pub search-requires : goal.search-requires
search-requires c = reached c.requires.indexed (omega arith)

pub returns-in_err-vacancy-clause-refusal : goal.returns-in_err-vacancy-clause-refusal
unfolding refuse_unless
returns-in_err-vacancy-clause-refusal c =
    let p = err_from_is_err_and c.from_residual.result c.from_residual.ensures.1 in
    let e = c.in_err-vacancy.ensures in
    rw (p.1, p.2, e.0, refused c.requires (λ i. (c.type_inv.file i).fits) c.words_in-words.ensures c.key.ensures e.1) refl

pub note_half-requires : goal.note_half-requires
note_half-requires c =
    let l = half_declared c.requires (λ i. (c.type_inv.file i).fits) c.words_in-words.ensures c.key.ensures c.in_ok-vacancy.ensures c.in-Some.is in
    (omega arith, omega (arith, l, c.requires.room))

pub note_half-requires-else-kind-eq16 : goal.note_half-requires-else-kind-eq16
note_half-requires-else-kind-eq16 c =
    let l = half_declared c.requires (λ i. (c.type_inv.file i).fits) c.words_in-words.ensures c.key.ensures c.in_ok-vacancy.ensures c.in-Some.is in
    (omega (arith, l, c.requires.room), omega arith)

pub returns-then-kind-eq16-clause-refusal : goal.returns-then-kind-eq16-clause-refusal
unfolding refuse_unless
returns-then-kind-eq16-clause-refusal c = rw (allowed c.requires (λ i. (c.type_inv.file i).fits) c.words_in-words.ensures c.key.ensures c.in_ok-vacancy.ensures) refl

pub returns-else-kind-eq16-clause-refusal : goal.returns-else-kind-eq16-clause-refusal
unfolding refuse_unless
returns-else-kind-eq16-clause-refusal c = rw (allowed c.requires (λ i. (c.type_inv.file i).fits) c.words_in-words.ensures c.key.ensures c.in_ok-vacancy.ensures) refl

pub returns-in_default-clause-refusal : goal.returns-in_default-clause-refusal
unfolding refuse_unless
returns-in_default-clause-refusal c = rw (allowed c.requires (λ i. (c.type_inv.file i).fits) c.words_in-words.ensures c.key.ensures c.in_ok-vacancy.ensures) refl

pub returns-then-kind-eq16-clause-indexed : goal.returns-then-kind-eq16-clause-indexed
returns-then-kind-eq16-clause-indexed c _ =
    entered_public c.requires (λ i. (c.type_inv.file i).fits) c.words_in-words.ensures c.key.ensures c.in_ok-vacancy.ensures
    c.note_term.new.tables c.note_half.new.self c.note_place.ensures refl c.note_term.ensures c.in-Some.is c.if-kind-eq16.true c.note_half.ensures

pub returns-else-kind-eq16-clause-indexed : goal.returns-else-kind-eq16-clause-indexed
returns-else-kind-eq16-clause-indexed c _ =
    entered_private c.requires (λ i. (c.type_inv.file i).fits) c.words_in-words.ensures c.key.ensures c.in_ok-vacancy.ensures
    c.note_term.new.tables c.note_half-else-kind-eq16.new.self c.note_place.ensures refl c.note_term.ensures c.in-Some.is c.if-kind-eq16.false c.note_half-else-kind-eq16.ensures

pub returns-in_default-clause-indexed : goal.returns-in_default-clause-indexed
returns-in_default-clause-indexed c _ =
    entered_none c.requires (λ i. (c.type_inv.file i).fits) c.words_in-words.ensures c.key.ensures c.in_ok-vacancy.ensures
    c.note_term.new.tables c.note_term.new.tables c.note_place.ensures refl c.note_term.ensures c.in_default.is refl
