-- Refusals 3 to 8 at a record, by its head and then by its fields. Assumes nothing.
use mathlib.Core.Path.{◌≡◌, refl, sym, ap, ◌∙◌}
use mathlib.Core.List.{List}
use Prim.Native.Nat.{ℕ, zero, suc, ◌+◌, ◌-◌, ◌<◌, ◌≤◌}
use native.Mathlib.Omega.{arith}
use lib.ListN.{length, get_or, take, drop}
use Rattle.rules.specs.Record.{section_of, body_length, fields_of}
use Rattle.rules.specs.Load.{first}
use Rattle.tables.specs.Columns.{Terms}
use Rattle.checks.specs.There.{head_fault}
use Rattle.checks.specs.Fields.{fields_fault_noted}
use Rattle.theorems.proofs.Pieces.{body_length_lem}
use Rattle.reader.specs.Place.{next_place}
use Rattle.reader.proofs.Places.{next_record}
use Rattle.scan.specs.Describes.{checked_fault}
use Rattle.scan.proofs.Scanning.{head_right, body_same}

first-stays : (a b : ℕ) → 0 < a → first a b ≡ a
unfolding first
first-stays zero b l = absurd (omega arith)
first-stays (suc a) b l = refl

first-passed : (a b : ℕ) → a ≡ 0 → first a b ≡ b
unfolding first
first-passed zero b e = refl
first-passed (suc a) b e = absurd (omega (arith, e))

module _ (bs : List ℕ) (v : Terms) (section parties terms at : ℕ) {own end : ℕ} (o : own ≡ section_of (get_or bs at 0)) (q : end ≡ next_place bs at) where
  pub head_refused : (x : ℕ) → 0 < x → x ≡ head_fault own end (length bs) section parties terms → x ≡ checked_fault bs v section parties terms at
  unfolding checked_fault
  head_refused x l e = e ∙ sym (rw (← o, ← q, ← e) (first-stays _ _ l))

  module _ (z : 0 ≡ head_fault own end (length bs) section parties terms) where
    pub whole : end ≤ length bs
    whole = (head_right _ _ _ _ _ _ (sym z)).0

    pub body_whole : body_length (get_or bs at 0) ≤ length (take (end - (at + 1)) (drop (at + 1) bs))
    body_whole =
        let h : at + 1 + body_length (get_or bs at 0) ≤ length bs = omega (arith, q, next_record bs at, whole) in
        let r : length (take (end - (at + 1)) (drop (at + 1) bs)) ≡ body_length (get_or bs at 0) = ap length (body_same bs at end q) ∙ body_length_lem bs at h in
        omega arith

    pub body_short : length (take (end - (at + 1)) (drop (at + 1) bs)) ≤ length bs
    body_short =
        let h : at + 1 + body_length (get_or bs at 0) ≤ length bs = omega (arith, q, next_record bs at, whole) in
        let r : length (take (end - (at + 1)) (drop (at + 1) bs)) ≡ body_length (get_or bs at 0) = ap length (body_same bs at end q) ∙ body_length_lem bs at h in
        omega arith

    pub fields_left : {x : ℕ} → x ≡ fields_fault_noted v parties terms (fields_of (get_or bs at 0)) 0 (take (end - (at + 1)) (drop (at + 1) bs)) → x ≡ checked_fault bs v section parties terms at
    unfolding checked_fault
    fields_left e = e ∙ sym (rw (← o, ← q, ← body_same bs at end q) (first-passed _ _ (sym z)))
