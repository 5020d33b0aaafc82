-- Learning by the tables is learning by the rules.
-- Assumes nothing.
use Rattle.tables.specs.declared.columns.Tables.{Tables}
use mathlib.Core.Path.{◌≡◌, refl, ap, sym, subst, ◌∙◌}
use mathlib.Core.Bool.{true}
use mathlib.Core.List.{List, Memᴰ}
use Prim.Native.Nat.{ℕ, suc, ◌<◌}
use native.Mathlib.Omega.{arith}
use lib.ListN.{length}
use Rattle.rules.specs.Term.{parts_of}
use Rattle.rules.specs.File.{term, parts, kind, field}
use Rattle.rules.specs.Learning.{Knowledge, opened, learn}
use Rattle.rules.specs.State.{learnt}
use Rattle.state.specs.View.{Columns, view, with_knows}
use Rattle.state.proofs.Exact.{state_of}
use Rattle.tables.specs.Columns.{tables_in, field_of}
use Rattle.learning.specs.There.{parts_there}
use Rattle.learning.specs.Noted.{parts_noted, learn_noted, Ready}
use Rattle.learning.proofs.Opening.{learned, opened_same}
use Rattle.learning.proofs.Noted.{parts_by_lem}
use Rattle.loaded.specs.Loaded.{file_in, Holds, Finds, Learns}

module _ {bs s : List ℕ} {tables : Tables} (h : Holds bs s) (finds : Finds bs tables) where
  parts_same : (u : ℕ) → u < length (file_in bs).terms → parts_noted (tables_in tables).terms u ≡ parts (file_in bs) u
  unfolding parts_noted parts kind field
  parts_same u m = parts_by_lem ((tables_in tables).terms.kind u) (field_of (tables_in tables).terms u) (term (file_in bs) u) (finds.kind_is u m) (λ i. finds.field_is u i m)

  lower_same : (u v : ℕ) → u < length (file_in bs).terms → Memᴰ v (parts_noted (tables_in tables).terms u) → v < u
  unfolding parts_there parts
  lower_same u v m i = h.there.lower u v m (subst (Memᴰ v) (parts_same u m ∙ sym (ap parts_of (h.term_is u m))) i)

  module _ (p : ℕ) {t : ℕ} (l : t < length (file_in bs).terms) where
    learn_same : (known : Knowledge) → learn_noted (tables_in tables).terms p t known ≡ learn (file_in bs) p t known
    unfolding learn_noted learn
    learn_same known =
        opened_same (parts_noted (tables_in tables).terms) (parts (file_in bs)) (length (file_in bs).terms) parts_same lower_same p (suc t) t l known

    pub learn_ready : p < length (file_in bs).roles → Ready (tables_in tables).terms s p t
    learn_ready m = record {
      party = (omega (arith, h.parties));
      few = (omega (arith, finds.few));
      room = (omega (arith, h.there.few, h.there.room));
      lower = λ u v i. lower_same u v (omega arith);
    }

    -- what learning leaves
    pub learns_left : {s' : List ℕ} → view s' ≡ learned (tables_in tables).terms p t (view s) → Learns bs s s' p t
    unfolding learnt
    learns_left e = record {
      columns = λ ledger. ap (λ (v : Columns). state_of v ledger) e ∙ ap (λ (k : Knowledge). state_of (with_knows (view s) k) ledger) (learn_same (view s).knows);
      places = ap (λ (v : Columns). v.place) e;
    }

-- a term that is known
pub learns_known : {bs s : List ℕ} (p t : ℕ) → (view s).knows p t ≡ true → Learns bs s s p t
unfolding learnt learn opened
learns_known p t e = record { columns = λ ledger. rw e refl; places = refl }
