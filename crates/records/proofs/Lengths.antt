-- The lengths of bodies and the numbers of their fields.
use mathlib.Core.Path.{◌≡◌, refl, ap}
use mathlib.Core.Bool.{Bool, true, false, cond, not}
use Prim.Native.Nat.{ℕ, ◌+◌, ◌*◌, ◌<◌, ◌≤◌}
use native.Mathlib.Omega.{arith}
use lib.Dec.{eqb, leb, ltb}
use borrow.Author.Tests.{leb-true, ltb-true, lt-ltb, eq-eqb, ne_eqb}
use Rattle.rules.specs.Record.{kind_count, section_of, fields_of, term_section, command_section, body_length, width, widths}
use Rattle.rules.specs.Term.{register_kind, quote_kind}
use Rattle.theorems.proofs.LastArm.{NoneFrom, last_arm}
use Rattle.rules.specs.Limits.{pair_count, pair_width}
use Rattle.records.proofs.EachKind.{values, each_kind, each_number, section_past}

-- sections are at most that of commands
pub section_most : (k : ℕ) → section_of k ≤ command_section
unfolding section_of fields_of
section_most k = leb-true (section_of k) command_section (each_kind (λ s fs. leb s command_section) (λ s fs. true) refl k)

pub fields_end : (k : ℕ) → widths (fields_of k) ≡ body_length k
unfolding body_length
fields_end k = refl

-- the bytes of a body at most: those of a 43
abbrev pub body_limit : ℕ
body_limit = 2 + pair_count * pair_width

pub body_small : (k : ℕ) → body_length k ≤ body_limit
unfolding body_length widths width section_of fields_of
body_small k = leb-true (body_length k) body_limit (each_kind (λ s fs. leb (widths fs) body_limit) (λ s fs. true) refl k)

-- what a test asks where another holds
when_true : (t u : Bool) → cond t u true ≡ true → t ≡ true → u ≡ true
when_true true u e h = e
when_true false u e h = absurd (let z : ◌≡◌ {A = ℕ} 0 1 = cc in omega arith)

pub body_positive : (k : ℕ) → 0 < section_of k → 0 < body_length k
unfolding body_length widths width section_of fields_of
body_positive k h =
    ltb-true 0 (body_length k)
    (when_true (ltb 0 (section_of k)) (ltb 0 (body_length k))
    (each_kind (λ s fs. cond (ltb 0 s) (ltb 0 (widths fs)) true) (λ s fs. true) refl k) (lt-ltb 0 (section_of k) h))

term_test : (p : ℕ → Bool) → values (λ k. cond (eqb (section_of k) term_section) (p k) true) 0 kind_count ≡ values (λ k. true) 0 kind_count → (k : ℕ) → section_of k ≡ term_section → p k ≡ true
term_test p e k h =
    when_true (eqb (section_of k) term_section) (p k)
    (each_number (λ k. cond (eqb (section_of k) term_section) (p k) true) (λ k. true) e (λ k h. rw (section_past k h)) k) (eq-eqb (section_of k) term_section h)

-- the kinds of terms
pub term_kinds_lem : (k : ℕ) → section_of k ≡ term_section → (0x10 ≤ k) × (k ≤ 0x1C)
unfolding section_of
term_kinds_lem k h = (leb-true 0x10 k (term_test (leb 0x10) refl k h), leb-true k 0x1C (term_test (λ k. leb k 0x1C) refl k h))

pub last_term : (k : ℕ) → section_of k ≡ term_section → (k ≡ register_kind → ⊥) → NoneFrom k 0x10 11 → k ≡ quote_kind
last_term k h n r = last_arm k 0x10 12 (r, n) (term_kinds_lem k h).0 (term_kinds_lem k h).1

-- a term has a word at the start, unless it is a register
pub term_body : (k : ℕ) → section_of k ≡ term_section → (k ≡ register_kind → ⊥) → 1 < body_length k
unfolding body_length widths width section_of fields_of
term_body k h n =
    ltb-true 1 (body_length k)
    (when_true (not (eqb k register_kind)) (ltb 1 (body_length k))
    (term_test (λ k. cond (not (eqb k register_kind)) (ltb 1 (body_length k)) true) refl k h) (ap not (ne_eqb k register_kind n)))

-- a kind of no section has no body
pub no_section : (k : ℕ) → section_of k ≡ 0 → body_length k ≡ 0
unfolding body_length fields_of widths
no_section k e = rw e
