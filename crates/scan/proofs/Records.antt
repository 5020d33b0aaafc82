-- The records before the commands: entering one, and what is known of the first command's place. Assumes nothing.
use mathlib.Core.Path.{◌≡◌, refl, sym, ap, ◌∙◌}
use mathlib.Core.List.{List}
use Prim.Native.Nat.{ℕ, ◌<◌, ◌≤◌}
use native.Mathlib.Omega.{arith}
use lib.ListN.{length, get_or}
use Rattle.rules.specs.declared.Refusal.{Refusal}
use Rattle.rules.specs.Codes.{number_of}
use Rattle.rules.specs.Record.{section_of, command_section}
use Rattle.rules.specs.Load.{term_at, load, refused}
use Rattle.state.specs.View.{view}
use Rattle.tables.specs.declared.columns.Tables.{Tables}
use Rattle.tables.specs.Columns.{tables_in}
use Rattle.learning.specs.There.{term_there}
use Rattle.index.specs.Indexed.{Indexed}
use Rattle.theorems.proofs.Pieces.{body_at}
use Rattle.reader.specs.Place.{next_place}
use Rattle.lookup.specs.Commands.{commands_from}
use Rattle.lookup.proofs.Commands.{commands_end, commands_later}
use Rattle.scan.specs.declared.Tally.{Tally}
use Rattle.scan.specs.Describes.{counted, checked_fault, last_fault, columns_after, signers_after, EnterReady, Stands}
use Rattle.scan.proofs.Scanning.{number_some, checked_refused, enter_asks, last_refused, record_taken}

-- the term of the record at a place is that of its body
body-stands : (bs : List ℕ) (at : ℕ) → term_there bs at ≡ term_at (get_or bs at 0) (body_at bs at)
unfolding term_there body_at
body-stands bs at = refl

module _ {bs s links : List ℕ} {tables : Tables} {n : Tally} {at : ℕ} (w : Stands bs s links tables n at) (h : at < length bs) where
  -- 3 to 8
  pub record_refused : (r : Refusal) → number_of r ≡ checked_fault bs (tables_in tables).terms n.section n.parties n.terms at → load bs ≡ refused (number_of r) at
  record_refused r e = checked_refused w.here w.indexed.noted h (number_of r) (number_some r) e

  module _ (z : checked_fault bs (tables_in tables).terms n.section n.parties n.terms at ≡ 0) {body : List ℕ} (b : body ≡ body_at bs at) where
    pub asks : EnterReady bs s body (get_or bs at 0) at n × (term_there bs at ≡ term_at (get_or bs at 0) body)
    asks = rw b (enter_asks w.here w.indexed.noted h z, body-stands bs at)

    -- 9 to 12
    pub entering_refused : (r : Refusal) → number_of r ≡ last_fault bs (view s) (tables_in tables).signer n (get_or bs at 0) body → load bs ≡ refused (number_of r) at
    entering_refused r e = last_refused w.here w.indexed.noted h z (number_of r) (number_some r) (e ∙ ap (last_fault bs (view s) (tables_in tables).signer n (get_or bs at 0)) b)

    pub entering_taken : {s' links' : List ℕ} {tables' : Tables} {m : Tally} {own next : ℕ}
        → own ≡ section_of (get_or bs at 0) → next ≡ next_place bs at → m ≡ counted own n → length s' ≡ length s
        → 0 ≡ last_fault bs (view s) (tables_in tables).signer n (get_or bs at 0) body
        → view s' ≡ columns_after bs (view s) n (get_or bs at 0) body at
        → (tables_in tables').signer ≡ signers_after (tables_in tables).signer (get_or bs at 0) body
        → Indexed bs (view s').place links' tables' (counted own n).terms
        → Stands bs s' links' tables' m next
    entering_taken {links' = links'} {tables' = tables'} o q c l e v k i =
        rw c
        (record {
          here =
              rw (o, q)
              (record_taken w.here w.indexed.noted h z (sym (e ∙ ap (last_fault bs (view s) (tables_in tables).signer n (get_or bs at 0)) b)) l
              (v ∙ ap (λ (y : List ℕ). columns_after bs (view s) n (get_or bs at 0) y at) b)
              (k ∙ ap (signers_after (tables_in tables).signer (get_or bs at 0)) b));
          indexed = i;
        })

-- the first command's place, where the file ends
pub at_the_end : (bs : List ℕ) (at : ℕ) → at ≤ length bs → length bs ≤ at → commands_from (length bs) bs at ≡ commands_from (length bs) bs 0 → at ≡ commands_from (length bs) bs 0
at_the_end bs at i h e = let q : at ≡ length bs = omega arith in q ∙ sym (commands_end bs at h) ∙ e

-- and where a record that is no command's is passed
pub passed : (bs : List ℕ) (at : ℕ) {next own : ℕ} → next ≡ next_place bs at → at < length bs → own ≡ section_of (get_or bs at 0) → (own ≡ command_section → ⊥)
    → commands_from (length bs) bs at ≡ commands_from (length bs) bs 0 → commands_from (length bs) bs next ≡ commands_from (length bs) bs 0
passed bs at n h o s e = ap (commands_from (length bs) bs) n ∙ sym (commands_later bs at h (λ q. s (o ∙ q))) ∙ e
