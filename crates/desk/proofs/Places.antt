-- A desk command by its record in the file.
--     request-kind, issue-as    the kinds 40, 41 and 42, and the command of each
--     iak-bytes, pairs-bytes, two_bytes     what of each record stands in the file
--     issue-read                3F by numbers that were read
--     decided-as, issues-as, challenge-as     what it decides and leaves, where its record reads as that command
-- Assumes nothing.
use Rattle.tables.specs.declared.columns.Tables.{Tables}
use mathlib.Core.Path.{◌≡◌, refl, sym, ap, subst, subst⁻¹, ◌∙◌}
use mathlib.Core.Bool.{Bool, true, false}
use mathlib.Core.List.{List, [], ◌++◌, append-nil}
use Prim.Native.Nat.{ℕ, ◌+◌, ◌*◌, ◌<◌, ◌≤◌}
use native.Mathlib.Omega.{arith}
use lib.Dec.{eqb}
use lib.ListN.{length, get_or}
use borrow.Author.Tests.{eqb-true, eqb-false}
use Rattle.rules.specs.Record.{section_of, fields_of, body_length, width, widths, word}
use Rattle.rules.specs.declared.Family.{Family}
use Rattle.rules.specs.Limits.{pair_count, pair_width}
use Rattle.rules.specs.Families.{request_families, family_of}
use Rattle.rules.specs.File.{Command, issue_iak, issue}
use Rattle.rules.specs.Run.{outcome}
use Rattle.theorems.proofs.Loading.{Wellformed}
use Rattle.rules.specs.declared.Entry.{Entry}
use Rattle.rules.specs.declared.Refusal.{Refusal}
use Rattle.std.specs.Prelude.{Result}
use Rattle.state.specs.View.{view}
use Rattle.tables.specs.Columns.{tables_in}
use Rattle.state.proofs.Exact.{state_of}
use Rattle.learning.specs.There.{kind_there}
use Rattle.lookup.specs.There.{command_there}
use Rattle.lookup.specs.Commands.{CommandAt}
use Rattle.lookup.proofs.Fields.{command_ends, issue_length, issue_there}
use Rattle.loaded.specs.Loaded.{file_in, Leaves}
use Rattle.loaded.specs.Entries.{Enters, Boarded, DecidesListed, Accepts, DeskLeaves}

pub issue_read : {k : Command} {p q m n c r : ℕ} → k ≡ issue_iak p q m n → c ≡ m → r ≡ n → k ≡ issue_iak p q c r
issue_read {p = p} {q = q} e h i = e ∙ (λ x. issue_iak p q (sym h x) (sym i x))

module _ {bs : List ℕ} {at : ℕ} (w : CommandAt (Wellformed (file_in bs)) bs at) where
  -- the others are 40 on
  pub request_kind : (0x3D < kind_there bs at) × (kind_there bs at < 0x44) → (kind_there bs at ≡ 0x3F → ⊥) → (kind_there bs at ≡ 0x43 → ⊥) → (kind_there bs at ≡ 0x3E → ⊥) → (0x40 ≤ kind_there bs at) × (kind_there bs at < 0x40 + length request_families)
  request_kind l a t b = (omega (arith, l.0, a, b), omega (arith, l.1, t))

  -- by the family and the numbers that were read
  pub issue_as : {family : Family} {q r : ℕ} → (0x3D < kind_there bs at) × (kind_there bs at < 0x44) → (kind_there bs at ≡ 0x3F → ⊥) → (kind_there bs at ≡ 0x43 → ⊥) → (kind_there bs at ≡ 0x3E → ⊥)
      → family ≡ family_of (kind_there bs at) → q ≡ word bs (at + 2) → r ≡ word bs (at + 4) → command_there bs at ≡ issue family (get_or bs (at + 1) 0) q r
  issue_as l a t b f h i =
      let k = request_kind l a t b in
      issue_there bs at k.0 k.1 ∙ (λ x. issue (sym f x) (get_or bs (at + 1) 0) (sym h x) (sym i x))

  pub iak_bytes : kind_there bs at ≡ 0x3F → at + 6 < length bs
  unfolding body_length widths width fields_of section_of
  iak_bytes e = omega (arith, command_ends bs at 0x3F e w.whole)

  pub pairs_bytes : kind_there bs at ≡ 0x43 → at + 3 + pair_width * pair_count ≤ length bs
  unfolding body_length widths width fields_of section_of
  pairs_bytes e = omega (arith, command_ends bs at 0x43 e w.whole)

  -- the others
  pub two_bytes : (0x3D < kind_there bs at) × (kind_there bs at < 0x44) → (kind_there bs at ≡ 0x3F → ⊥) → (kind_there bs at ≡ 0x43 → ⊥) → at + 5 < length bs
  unfolding body_length widths width fields_of section_of
  two_bytes l a t = go (eqb (kind_there bs at) 0x3E) refl
    where
      go : (b : Bool) → eqb (kind_there bs at) 0x3E ≡ b → at + 5 < length bs
      go true e = omega (arith, command_ends bs at 0x3E (eqb-true _ _ e) w.whole)
      go false e =
          let k = request_kind l a t (eqb-false _ _ e) in
          omega (arith, issue_length (kind_there bs at) k.0 k.1, command_ends bs at (kind_there bs at) refl w.whole)

module _ (bs : List ℕ) (at : ℕ) {c : Command} (e : command_there bs at ≡ c) where
  pub decided_as : (s : List ℕ) (tables : Tables) (x : Result Unit Refusal) → DecidesListed bs s tables c x → DecidesListed bs s tables (command_there bs at) x
  decided_as s tables x d = subst⁻¹ (λ (k : Command). DecidesListed bs s tables k x) e d

  pub issues_as : {s : List ℕ} {tables : Tables} {n : ℕ} {s' : List ℕ} {tables' : Tables} {gs hs : List Entry} → gs ≡ hs → DeskLeaves bs s tables n c s' tables' hs → DeskLeaves bs s tables n (command_there bs at) s' tables' gs
  issues_as {s} {tables} {n} {s'} {tables'} {gs} q d = subst⁻¹ (λ (k : Command). DeskLeaves bs s tables n k s' tables' gs) e (subst⁻¹ (DeskLeaves bs s tables n c s' tables') q d)

  -- 3E enters nothing
  pub challenge_as : {s : List ℕ} {tables : Tables} {n : ℕ} {s' : List ℕ} {gs : List Entry} → gs ≡ [] → Leaves bs s s' c → DeskLeaves bs s tables n (command_there bs at) s' tables gs
  challenge_as {s} {tables} {n} {s'} q d = issues_as q (record {
    on = λ old o. record {
      columns = ap (state_of (view s')) (append-nil old) ∙ d.columns old;
      enters = subst⁻¹ (λ (m : ℕ). Enters tables m (old ++ [])) (none n) (subst⁻¹ (Enters tables n) (append-nil old) o.ledgered.enters);
      boards = subst⁻¹ (Boarded (file_in bs) (tables_in tables).boards) (append-nil old) o.ledgered.boards;
    };
    places = d.places;
    keys = record { signer = refl; half = refl; terms = refl };
  })
    where
      none : (k : ℕ) → k + 0 ≡ k
      none k = omega arith

  pub accepts_as : {s : List ℕ} {tables : Tables} {n : ℕ} → Accepts bs s tables n (command_there bs at) → Accepts bs s tables n c
  accepts_as {s} {tables} {n} a = subst (λ (k : Command). Accepts bs s tables n k) e a

  pub accepted_as : {s : List ℕ} {tables : Tables} {n : ℕ} (a : Accepts bs s tables n (command_there bs at)) → outcome (file_in bs) (state_of (view s) a.ledger) c ≡ 0
  accepted_as {s} a = subst (λ (k : Command). outcome (file_in bs) (state_of (view s) a.ledger) k ≡ 0) e a.accepted
