-- The parts of a listing, one line more at a time.
--     refusals-start     no lines
--     refusals-next     the lines so far, and the next
--     Lines, lines_start, lines-room, lines_next, lines_end     those of a ledger's entries
-- Assumes nothing.
use mathlib.Core.Bool.{cond}
use mathlib.Core.Path.{◌≡◌, refl, ap, sym, subst, ◌∙◌}
use mathlib.Core.List.{List, [], ◌∷◌, ◌++◌, append_assoc, append-nil}
use Prim.Native.Nat.{ℕ, suc, ◌+◌, ◌*◌, ◌<◌, ◌≤◌}
use native.Mathlib.Omega.{arith}
use lib.Dec.{eqb}
use lib.ListN.{length, get_or, take}
use borrow.Author.Tests.{eq-eqb, ne_eqb}
use lib.Seq.{take-suc, length-take-le}
use Rattle.rules.specs.declared.Entry.{Entry}
use Rattle.rules.specs.Listing.{line, refusal_lines, entry_lines}
use Rattle.decimal.specs.Text.{Written}
use Rattle.rules.specs.Lent.{no_entry}
use Rattle.lister.specs.Parts.{outcome_line, entry_line}
use Rattle.decimal.proofs.Writing.{written_none, written_then, written_length}
use Rattle.lister.specs.Text.{entry_bytes}

-- an accepted command has no line
pub no_line : (i x : ℕ) → x ≡ 0 → outcome_line i x ≡ []
unfolding outcome_line
no_line i x e = rw (eq-eqb x 0 e) refl

pub some_line : (i x : ℕ) → (x ≡ 0 → ⊥) → outcome_line i x ≡ line 0x52 (i ∷ x ∷ [])
unfolding outcome_line
some_line i x n = rw (ne_eqb x 0 n) refl

refusals_append : (xs ys : List ℕ) (i : ℕ) → refusal_lines i (xs ++ ys) ≡ refusal_lines i xs ++ refusal_lines (i + length xs) ys
unfolding refusal_lines
refusals_append [] ys i = let e : i ≡ i + 0 = omega arith in ap (λ (k : ℕ). refusal_lines k ys) e
refusals_append (x ∷ xs) ys i =
    let e : suc i + length xs ≡ i + suc (length xs) = omega arith in
    ap (λ (l : List ℕ). cond (eqb x 0) [] (line 0x52 (i ∷ x ∷ [])) ++ l) (refusals_append xs ys (suc i) ∙ ap (λ (k : ℕ). refusal_lines (suc i) xs ++ refusal_lines k ys) e)
    ∙ sym (append_assoc (cond (eqb x 0) [] (line 0x52 (i ∷ x ∷ []))) (refusal_lines (suc i) xs) (refusal_lines (i + suc (length xs)) ys))

entries_append : (xs ys : List Entry) → entry_lines (xs ++ ys) ≡ entry_lines xs ++ entry_lines ys
unfolding entry_lines
entries_append [] ys = refl
entries_append (x ∷ xs) ys =
    ap (λ (l : List ℕ). line 0x49 (x.certificate ∷ x.parent ∷ x.depth ∷ []) ++ l) (entries_append xs ys)
    ∙ sym (append_assoc (line 0x49 (x.certificate ∷ x.parent ∷ x.depth ∷ [])) (entry_lines xs) (entry_lines ys))

refusals_suc : (xs : List ℕ) (i : ℕ) → i < length xs → refusal_lines 0 (take (suc i) xs) ≡ refusal_lines 0 (take i xs) ++ outcome_line i (get_or xs i 0)
unfolding refusal_lines outcome_line
refusals_suc xs i h =
    let e : 0 + length (take i xs) ≡ i = omega (arith, length-take-le i xs (omega arith)) in
    ap (λ (l : List ℕ). refusal_lines 0 l) (take-suc xs i 0 h)
    ∙ refusals_append (take i xs) (get_or xs i 0 ∷ []) 0
    ∙ ap (λ (l : List ℕ). refusal_lines 0 (take i xs) ++ l) (append-nil _ ∙ ap (λ (k : ℕ). outcome_line k (get_or xs i 0)) e)

entries_suc : (xs : List Entry) (i : ℕ) → i < length xs → entry_lines (take (suc i) xs) ≡ entry_lines (take i xs) ++ entry_line (get_or xs i no_entry)
unfolding entry_lines
entries_suc xs i h =
    ap entry_lines (take-suc xs i no_entry h) ∙ entries_append (take i xs) (get_or xs i no_entry ∷ [])
    ∙ ap (λ (l : List ℕ). entry_lines (take i xs) ++ l) (append-nil (entry_line (get_or xs i no_entry)))

-- the lines of the first i entries are written
pub record Lines (l : List Entry) (out₀ : List ℕ) (at issued i : ℕ) (out : List ℕ) (next : ℕ) : Type 0 where
  pub within : i ≤ issued
  pub near : next ≤ at + entry_bytes * i
  pub written : Written out₀ at (entry_lines (take i l)) out next

pub lines_start : (l : List Entry) (out : List ℕ) (at issued : ℕ) → Lines l out at issued 0 out at
unfolding entry_lines
lines_start l out at issued = record { within = omega arith; near = omega arith; written = written_none out at }

module _ {l : List Entry} {out₀ : List ℕ} {at issued i : ℕ} {out : List ℕ} {next : ℕ} (w : Lines l out₀ at issued i out next) where
  pub lines_room : i < issued → at + entry_bytes * issued ≤ length out₀ → next + entry_bytes ≤ length out
  lines_room h r = omega (arith, w.near, h, r, written_length w.written)

  pub lines_next : i < issued → issued ≤ length l → {e : Entry} → e ≡ get_or l i no_entry → {out' : List ℕ} {next' : ℕ} → Written out next (entry_line e) out' next' → next' ≤ next + entry_bytes → Lines l out₀ at issued (i + 1) out' next'
  lines_next h k {e} read {out'} {next'} v n =
      let q : i + 1 ≡ suc i = omega arith in
      record {
        within = omega (arith, h);
        near = omega (arith, w.near, n);
        written = rw (q, entries_suc l i (omega (arith, h, k))) (written_then w.written (subst (λ (d : Entry). Written out next (entry_line d) out' next') read v));
      }

  pub lines_end : issued ≤ i → Written out₀ at (entry_lines (take issued l)) out next × (next ≤ at + entry_bytes * issued)
  lines_end h =
      let q : i ≡ issued = omega (arith, h, w.within) in
      (subst (λ (k : ℕ). Written out₀ at (entry_lines (take k l)) out next) q w.written, omega (arith, w.near, q))

module _ (out₀ : List ℕ) (at : ℕ) (xs : List ℕ) where
  pub refusals_start : Written out₀ at (refusal_lines 0 (take 0 xs)) out₀ at
  unfolding refusal_lines
  refusals_start = written_none out₀ at

  module _ {out out' : List ℕ} {next next' : ℕ} (i : ℕ) where
    pub refusals_next : i < length xs → Written out₀ at (refusal_lines 0 (take i xs)) out next → Written out next (outcome_line i (get_or xs i 0)) out' next' → Written out₀ at (refusal_lines 0 (take (i + 1) xs)) out' next'
    refusals_next h v w =
        let e : i + 1 ≡ suc i = omega arith in
        rw (e, refusals_suc xs i h) (written_then v w)
