-- What filling leaves of a file that loads is what commands start from.
-- Assumes nothing.
use Rattle.tables.specs.declared.columns.Tables.{Tables}
use mathlib.Core.Path.{◌≡◌, refl, sym, ap, subst⁻¹, ◌∙◌}
use mathlib.Core.Bool.{Bool}
use mathlib.Core.List.{List}
use Prim.Native.Nat.{ℕ, ◌+◌, ◌*◌, ◌<◌, ◌≤◌}
use native.Mathlib.Omega.{arith}
use lib.Dec.{eqb}
use lib.ListN.{length}
use Rattle.rules.specs.Limits.{party_limit, term_limit, state_bytes}
use Rattle.rules.specs.File.{File, term, kind, field, role_of, half_in, signs_for}
use Rattle.rules.specs.Load.{loaded}
use Rattle.state.specs.View.{view}
use Rattle.tables.specs.Columns.{field_words, tables_in, field_of}
use Rattle.learning.specs.There.{term_there}
use Rattle.checks.specs.There.{role_there, TermsThere}
use Rattle.index.specs.Indexed.{passes}
use Rattle.scan.specs.declared.Scanned.{Scanned}
use Rattle.loader.specs.Tabled.{Filled}
use Rattle.loader.proofs.Signing.{signs_for_table}
use Rattle.loaded.specs.Loaded.{file_of, file_in, Holds, Finds, Reads}
use Rattle.loaded.proofs.Standing.{reads_here}

module _ {bs s : List ℕ} {tables : Tables} {r : Scanned} (w : Filled bs s tables r) where
  -- the file is the one that the bytes declare
  pub file_is : file_in bs ≡ w.file
  unfolding file_in file_of
  file_is = rw w.loads refl

  pub filled_holds : length s ≡ state_bytes → Holds bs s
  filled_holds room =
      let d = w.describes in
      record {
        loads = w.loads ∙ ap loaded (sym file_is);
        room = room;
        parties = subst⁻¹ (λ (f : File). length f.roles ≤ party_limit) file_is (omega (arith, d.parties_are, d.few_parties));
        parties_whole = subst⁻¹ (λ (f : File). 2 * length f.roles ≤ length bs) file_is (omega (arith, d.parties_are, d.parties_whole));
        role = subst⁻¹ (λ (f : File). (p : ℕ) → p < length f.roles → role_there bs p ≡ role_of f p) file_is (λ p l. d.role p (omega (arith, d.parties_are)));
        there = subst⁻¹ (λ (f : File). TermsThere bs s (length f.terms)) file_is (subst⁻¹ (TermsThere bs s) d.terms_are d.there);
        term_is = subst⁻¹ (λ (f : File). (t : ℕ) → t < length f.terms → term_there bs ((view s).place t) ≡ term f t) file_is (λ t l. d.term_is t (omega (arith, d.terms_are)));
      }

  pub filled_finds : Finds bs tables
  filled_finds = record {
    kind_is = subst⁻¹ (λ (f : File). (t : ℕ) → t < length f.terms → (tables_in tables).terms.kind t ≡ kind f t) file_is w.tabled.kind_is;
    field_is = subst⁻¹ (λ (f : File). (t i : ℕ) → t < length f.terms → i < field_words → field_of (tables_in tables).terms t i ≡ field f t i) file_is w.tabled.field_is;
    few = subst⁻¹ (λ (f : File). length f.terms ≤ term_limit) file_is w.tabled.few;
    signer = subst⁻¹ (λ (f : File). (p k : ℕ) → p < party_limit → signs_for f p k ≡ eqb ((tables_in tables).signer p) (k + 1)) file_is (signs_for_table bs w.file (tables_in tables) w.loads w.tabled);
    half = subst⁻¹ (λ (f : File). (test : ℕ → Bool) (k : ℕ) → k < length f.terms → half_in f test k ≡ passes test ((tables_in tables).half k)) file_is w.tabled.half;
    declared = subst⁻¹ (λ (f : File). (k : ℕ) → (tables_in tables).half k ≤ length f.terms) file_is w.tabled.declared;
  }

  -- what the code keeps of it
  pub filled_reads : length s ≡ state_bytes → Reads bs tables
  filled_reads room = reads_here (filled_holds room) filled_finds
