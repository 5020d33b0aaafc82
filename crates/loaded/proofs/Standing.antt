-- What stands where a file is loaded: its parties and its terms.
-- Assumes nothing.
use mathlib.Core.Path.{◌≡◌, sym, ap, subst, subst⁻¹, ◌∙◌}
use mathlib.Core.List.{List, Memᴰ}
use Prim.Native.Nat.{ℕ, ◌<◌}
use native.Mathlib.Omega.{arith}
use lib.ListN.{length, get_or}
use Rattle.tables.specs.declared.columns.Tables.{Tables}
use Rattle.rules.specs.Term.{hash_kind, fields_in}
use Rattle.rules.specs.File.{kind}
use Rattle.state.specs.View.{view}
use Rattle.learning.specs.There.{kind_there, term_there, TermRecord, parts_there}
use Rattle.theorems.proofs.Loading.{Checked, checked}
use Rattle.theorems.proofs.Terms.{declared}
use Rattle.loaded.specs.Loaded.{file_in, Holds, Reads, Finds, TermHere}

-- a term of another kind than 12 is declared
pub kind_declared : (bs : List ℕ) {t k : ℕ} → kind (file_in bs) t ≡ k → (k ≡ hash_kind → ⊥) → t < length (file_in bs).terms
kind_declared bs {t} e n = declared (file_in bs) t (λ q. n (sym e ∙ q))

module _ {bs s : List ℕ} (h : Holds bs s) where
  pub checked_here : Checked (file_in bs)
  checked_here = checked bs (file_in bs) h.loads

module _ {bs s : List ℕ} {t : ℕ} (h : Holds bs s) (l : t < length (file_in bs).terms) where
  pub term_here : TermHere bs s t
  term_here = record { row = omega (arith, l, h.there.few, h.there.room); whole = h.there.whole t l; same = h.term_is t l }

-- what the code keeps of the file, with the tables
pub reads_here : {bs s : List ℕ} {tables : Tables} → Holds bs s → Finds bs tables → Reads bs tables
reads_here h d = record { loads = h.loads; few_parties = h.parties; parties_whole = h.parties_whole; role = h.role; finds = d }

pub checked_reads : {bs : List ℕ} {tables : Tables} → Reads bs tables → Checked (file_in bs)
checked_reads {bs} r = checked bs (file_in bs) r.loads

-- a command keeps all of it: it writes no place
pub holds_kept : {bs s s' : List ℕ} → Holds bs s → length s' ≡ length s → (view s').place ≡ (view s).place → Holds bs s'
unfolding parts_there
holds_kept {bs} {s} {s'} h l e = record {
  loads = h.loads;
  room = l ∙ h.room;
  parties = h.parties;
  parties_whole = h.parties_whole;
  role = h.role;
  there = record {
    few = h.there.few;
    room = (omega (arith, h.there.room));
    whole = λ t m. subst (λ (place : ℕ → ℕ). TermRecord bs (place t)) (sym e) (h.there.whole t m);
    lower = λ t u m i. h.there.lower t u m (subst (λ (place : ℕ → ℕ). Memᴰ u (parts_there bs place t)) e i);
    hashed = λ t m. subst⁻¹ (λ (place : ℕ → ℕ). kind_there bs (place t) ≡ hash_kind → get_or (fields_in (term_there bs (place t))) 0 0 < t) e (h.there.hashed t m);
  };
  term_is = λ t m. ap (λ (place : ℕ → ℕ). term_there bs (place t)) e ∙ h.term_is t m;
}
