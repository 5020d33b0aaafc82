-- What the scan found, or the state cleared, is what filling leaves.
-- Assumes nothing.
use mathlib.Core.Path.{◌≡◌, refl, sym, ◌∙◌}
use mathlib.Core.Bool.{Bool, true, false, false≢true}
use mathlib.Core.List.{List}
use Prim.Native.Nat.{ℕ, zero, suc, ◌<◌, ◌≤◌}
use native.Mathlib.Omega.{arith}
use lib.Dec.{ltb}
use lib.ListN.{length, replicate}
use borrow.Author.Tests.{ltb-true, ltb-false}
use Rattle.std.proofs.Common.{Result, Ok, Err, IfOk}
use Rattle.std.specs.Result.{is_err}
use Rattle.rules.specs.declared.Refused.{Refused}
use Rattle.rules.specs.Limits.{party_limit, state_bytes}
use Rattle.rules.specs.File.{File}
use Rattle.state.specs.View.{view}
use Rattle.tables.specs.declared.columns.Tables.{Tables}
use Rattle.tables.specs.Columns.{tables_in}
use Rattle.tables.proofs.Stores.{zeros_at}
use Rattle.index.specs.Tree.{link_count}
use Rattle.index.specs.Indexed.{Indexed}
use Rattle.index.proofs.Empty.{indexed_none}
use Rattle.index.proofs.Fields.{kind_follows, field_follows}
use Rattle.index.proofs.Halves.{half_follows}
use Rattle.lookup.specs.Commands.{commands_from}
use Rattle.scan.specs.declared.Tally.{Tally}
use Rattle.scan.specs.declared.Scanned.{Scanned}
use Rattle.scan.specs.Describes.{Describes, ScanReady, ScanResult}
use Rattle.loader.specs.Tabled.{Tabled, FillReady, FillResult}

-- a cleared state
pub cleared : {x : List ℕ} (s : List ℕ) {n : ℕ} → x ≡ replicate (length s) 0 → length s ≡ n → x ≡ replicate n 0
cleared s e l = rw (← l) e

-- what the scan starts from
pub scan_ready : {bytes old x : List ℕ} {tables : Tables} → FillReady bytes old tables → x ≡ replicate (length old) 0 → length x ≡ length old → ScanReady bytes x tables
scan_ready r e l = record {
  short = r.short;
  room = l ∙ r.room;
  clear = rw r.room at e;
  unsigned = λ p _. rw r.empty.signers (zeros_at party_limit p);
  links = replicate link_count 0;
  indexed = indexed_none _ _ _ _ refl r.empty;
}

module _ (bytes s links : List ℕ) (tables : Tables) (n : Tally) (indexed : Indexed bytes (view s).place links tables n.terms) where
  -- a half is a declared term
  half_most : (k : ℕ) → (tables_in tables).half k ≤ n.terms
  half_most k = go (ltb k n.terms) refl
    where
      one : k < n.terms → (h : ℕ) → (tables_in tables).half k ≡ h → (tables_in tables).half k ≤ n.terms
      one l zero e = omega arith
      one l (suc t) e = let w = (indexed.halves k l).one t e in omega (arith, w.0, e)

      go : (b : Bool) → ltb k n.terms ≡ b → (tables_in tables).half k ≤ n.terms
      go true e = one (ltb-true k n.terms e) ((tables_in tables).half k) refl
      go false e = omega (arith, indexed.unpaired k (ltb-false k n.terms e))

  tabled : (f : File) → Describes f bytes s (tables_in tables).signer n (length bytes) → Tabled f (tables_in tables)
  tabled f d = record {
    signer = d.signer;
    half = λ test k l. half_follows f bytes (view s).place (tables_in tables).half d.terms_are d.term_is indexed.halves indexed.unlike test k (omega (arith, d.terms_are));
    declared = λ k. omega (arith, half_most k, d.terms_are);
    kind_is = λ t l. kind_follows f d.there d.term_is indexed t (omega (arith, d.terms_are));
    field_is = λ t i l h. field_follows f d.there d.term_is indexed t (omega (arith, d.terms_are)) i h;
    few = omega (arith, d.terms_are, d.there.few);
    entry = indexed.unlisted;
    depth = indexed.shallow;
    unlinked = indexed.unlinked;
  }

module _ {bytes s : List ℕ} {tables : Tables} where
  pub fill_loaded : (r : Result Scanned Refused) → is_err r ≡ false → ScanResult bytes s (tables_in tables).signer r
      → IfOk r (λ x. x.first ≡ commands_from (length bytes) bytes 0)
      → IfOk r (λ x. (links : List ℕ) × Indexed bytes (view s).place links tables x.tally.terms)
      → FillResult bytes s tables r
  fill_loaded (Ok x) z found first i =
      let w = found.described in
      record { filled = record { file = w.0; loads = w.1; describes = w.2; tabled = tabled bytes s i.0 tables x.tally i.1 w.0 w.2; first_is = first }; refused = tt }
  fill_loaded (Err x) z found first i = absurd (false≢true (sym z))

  pub fill_refused : {x : List ℕ} (r : Result Scanned Refused) → is_err r ≡ true → ScanResult bytes s (tables_in tables).signer r → x ≡ replicate state_bytes 0 → FillResult bytes x tables r
  fill_refused (Ok y) z found e = absurd (false≢true z)
  fill_refused (Err y) z found e = record { filled = tt; refused = (found.refused, e) }
