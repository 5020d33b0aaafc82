-- The pairs of an accepted 43, issued one after the other.
--     issuing-start     before the first
--     pair-ready        what issuing a pair asks
--     issuing-filled    after a pair
--     issuing-ends      after the last
-- Assumes nothing.
use Rattle.tables.specs.declared.columns.Tables.{Tables}
use mathlib.Core.Path.{◌≡◌, refl, sym, ap, subst, subst⁻¹, ◌∙◌}
use mathlib.Core.Bool.{Bool, true, false, cond}
use mathlib.Core.List.{List, [], ◌∷◌, ◌++◌, append_assoc, append-nil}
use Prim.Native.Nat.{ℕ, zero, suc, ◌+◌, ◌<◌, ◌≤◌}
use native.Mathlib.Omega.{arith}
use native.Mathlib.Decide.{ℕ_discrete}
use lib.ListN.{length}
use Rattle.std.proofs.lemmas.List.{length-append}
use Rattle.rules.specs.Record.{word}
use Rattle.rules.specs.declared.Entry.{Entry}
use Rattle.rules.specs.Limits.{pair_count, pair_width}
use Rattle.rules.specs.File.{IakPair, issue_iak}
use Rattle.rules.specs.Load.{empty_pair, pairs_at}
use Rattle.rules.specs.State.{State}
use Rattle.rules.specs.Desk.{issue_iak_effect, issue_iaks_effect}
use Rattle.rules.specs.Run.{effect_of}
use Rattle.theorems.proofs.Invariant.{Invariant, invariant_next}
use Rattle.theorems.proofs.DeskSteps.{issue_iak_step}
use Rattle.theorems.proofs.Together.{PairsAccepted, pairs_accepted}
use Rattle.theorems.proofs.History.{close_stays}
use Rattle.state.specs.View.{view}
use Rattle.state.proofs.Exact.{state_of}
use Rattle.tables.specs.Columns.{tables_in}
use Rattle.loaded.specs.Loaded.{file_in}
use Rattle.loaded.specs.Entries.{Enters, Boarded, Ledgered, LeavesOn, DeskLeaves, SameKeys}
use Rattle.loaded.proofs.Standing.{checked_here, holds_kept}
use Rattle.loaded.proofs.Noted.{finds_kept}
use Rattle.loaded.proofs.Ledger.{ledger_length}
use Rattle.loaded.proofs.Room.{ledger_below}
use Rattle.requests.specs.Formed.{OpenRequested}
use Rattle.issuance.specs.Issues.{IssuesIak}
use Rattle.issuance.proofs.Issued.{iak_open}
use Rattle.together.specs.Ready.{desk_at, returning_at, together_at, TogetherDone, Issuing}

same_keys : (tables : Tables) → SameKeys (tables_in tables) (tables_in tables)
same_keys tables = record { signer = refl; half = refl; terms = refl }

pairs_few : (n : ℕ) (bs : List ℕ) (i : ℕ) → length (pairs_at n bs i) ≤ n
unfolding pairs_at
pairs_few zero bs i = omega arith
pairs_few (suc n) bs i = go (empty_pair bs i) (pairs_few n bs (i + pair_width))
  where
    go : (b : Bool) → length (pairs_at n bs (i + pair_width)) ≤ n → length (cond b (pairs_at n bs (i + pair_width)) (record { credential = word bs i; certificate = word bs (i + 2) } ∷ pairs_at n bs (i + pair_width))) ≤ suc n
    go true h = omega (arith, h)
    go false h = omega (arith, h)

module _ {bs s : List ℕ} {tables : Tables} {n at : ℕ} (w : TogetherDone bs s tables n at) where
  pub issuing_start : Issuing bs s tables (desk_at bs at) (returning_at bs at) (effect_of (file_in bs) (state_of (view s) w.ledger) (together_at bs at)) (pairs_at pair_count bs (at + 3)) s tables n w.ledger []
  unfolding effect_of
  issuing_start =
      let e = append-nil w.ledger in
      let m : n + 0 ≡ n = omega arith in record {
        holds = w.here.holds;
        places = refl;
        keys = same_keys tables;
        finds = w.finds;
        few = omega (arith, pairs_few pair_count bs (at + 3));
        ledgered = subst⁻¹ (λ (m : ℕ). Ledgered bs s tables m (w.ledger ++ [])) m (subst⁻¹ (Ledgered bs s tables n) e w.ledgered);
        left = ap (λ (l : List Entry). issue_iaks_effect (file_in bs) (state_of (view s) l) (desk_at bs at) (returning_at bs at) (pairs_at pair_count bs (at + 3))) e;
        accepted = subst⁻¹ (λ (l : List Entry). PairsAccepted (file_in bs) (state_of (view s) l) (desk_at bs at) (returning_at bs at) (pairs_at pair_count bs (at + 3))) e (pairs_accepted (file_in bs) (state_of (view s) w.ledger) (desk_at bs at) (returning_at bs at) (pairs_at pair_count bs (at + 3)) w.accepted);
        desk = w.here.wellformed.0;
        returning = w.here.wellformed.1;
        formed = w.here.wellformed.2;
        opened = w.here.opened;
      }

module _ {bs s₀ : List ℕ} {tables₀ : Tables} {s : List ℕ} {tables : Tables} {p q n : ℕ} {all : State} {old g : List Entry} where
  pub issuing_as : {xs ys : List IakPair} {h : List Entry} → xs ≡ ys → g ≡ h → Issuing bs s₀ tables₀ p q all xs s tables n old g → Issuing bs s₀ tables₀ p q all ys s tables n old h
  issuing_as {xs} {ys} e i w = subst (λ (l : List Entry). Issuing bs s₀ tables₀ p q all ys s tables n old l) i (subst (λ (zs : List IakPair). Issuing bs s₀ tables₀ p q all zs s tables n old g) e w)

  module _ {x : IakPair} {more : List IakPair} (w : Issuing bs s₀ tables₀ p q all (x ∷ more) s tables n old g) where
    abbrev Before : State
    Before = state_of (view s) (old ++ g)

    room_left : n + length g < 1024
    room_left =
        let e = ledger_length x.certificate w.ledgered.enters in
        omega (arith, ledger_below (checked_here w.holds) w.ledgered.sound)

    pub pair_room : n + length g < 1024
    pair_room = room_left

    pub pair_adds : length g < pair_count
    pair_adds = omega (arith, w.few)

    pub pair_ready : IssuesIak bs s tables (n + length g) p x.credential x.certificate
    pair_ready = record {
      other = q;
      wellformed = (w.desk, w.returning, w.formed.0, w.formed.1);
      requested = w.opened x.credential (iak_open (file_in bs) Before p q x.credential x.certificate w.accepted.0);
      accepts = record { ledger = old ++ g; enters = w.ledgered.enters; accepted = w.accepted.0; more = room_left };
      finds = w.finds;
    }

    module _ {s' : List ℕ} {tables' : Tables} {e : Entry} {r : List Entry} (v : DeskLeaves bs s tables (n + length g) (issue_iak p q x.credential x.certificate) s' tables' (e ∷ [])) (adds : r ≡ g ++ (e ∷ [])) (len : length s' ≡ length s) where
      abbrev on : LeavesOn bs s tables (n + length g) (issue_iak p q x.credential x.certificate) s' tables' (e ∷ []) (old ++ g)
      on = v.on (old ++ g) (record { ledgered = w.ledgered; accepted = w.accepted.0 })

      all_took : (old ++ g) ++ (e ∷ []) ≡ old ++ r
      all_took = append_assoc old (g) (e ∷ []) ∙ ap (λ (l : List Entry). old ++ l) (sym adds)

      all_count : n + length g + 1 ≡ n + length r
      all_count = omega (arith, ap length adds, length-append g (e ∷ []))

      columns : state_of (view s') (old ++ r) ≡ issue_iak_effect (file_in bs) Before p q x.credential x.certificate
      unfolding effect_of
      columns = ap (state_of (view s')) (sym all_took) ∙ on.columns

      sound : Invariant (file_in bs) (issue_iak_effect (file_in bs) Before p q x.credential x.certificate)
      unfolding effect_of
      sound = invariant_next (file_in bs) (checked_here w.holds) Before _ w.ledgered.sound (issue_iak_step (file_in bs) (checked_here w.holds) Before w.ledgered.sound p q x.credential x.certificate (w.desk, w.returning, w.formed.0, w.formed.1) w.accepted.0)

      opened : OpenRequested bs s'
      opened c h =
          let k = close_stays (file_in bs) (checked_here w.holds) Before p q x.credential x.certificate c (ap (λ (y : State). y.mark c) (sym columns) ∙ h) (ℕ_discrete c x.credential) in
          subst (Rattle.requests.specs.Formed.Requested (file_in bs)) (k.2 ∙ ap (λ (y : State). y.request c) (sym columns)) (w.opened c k.0)

      pub issuing_filled : Issuing bs s₀ tables₀ p q all more s' tables' n old r
      unfolding issue_iaks_effect
      issuing_filled = record {
        holds = holds_kept w.holds len v.places;
        places = v.places ∙ w.places;
        keys = record { signer = v.keys.signer ∙ w.keys.signer; half = v.keys.half ∙ w.keys.half; terms = v.keys.terms ∙ w.keys.terms };
        finds = finds_kept w.finds v.keys;
        few = omega (arith, w.few, all_count);
        ledgered = record {
          enters = subst (λ (m : ℕ). Enters tables' m (old ++ r)) all_count (subst (Enters tables' (n + length g + 1)) all_took on.enters);
          boards = subst (Boarded (file_in bs) (tables_in tables').boards) all_took on.boards;
          sound = subst⁻¹ (Invariant (file_in bs)) columns sound;
        };
        left = ap (λ (y : State). issue_iaks_effect (file_in bs) y p q more) columns ∙ w.left;
        accepted = subst⁻¹ (λ (y : State). PairsAccepted (file_in bs) y p q more) columns w.accepted.1;
        desk = w.desk;
        returning = w.returning;
        formed = w.formed.2;
        opened = opened;
      }

pub issuing_ends :
    {bs s : List ℕ} {tables : Tables} {s' : List ℕ} {tables' : Tables} {n at : ℕ} {g : List Entry} (w₀ : TogetherDone bs s tables n at)
    → ((w : TogetherDone bs s tables n at) → Issuing bs s tables (desk_at bs at) (returning_at bs at) (effect_of (file_in bs) (state_of (view s) w.ledger) (together_at bs at)) [] s' tables' n w.ledger g)
    → DeskLeaves bs s tables n (together_at bs at) s' tables' g
unfolding issue_iaks_effect
issuing_ends {tables' = tables'} {n = n} {g = g} w₀ all = record {
  on = λ old o.
      let v = all (record { here = w₀.here; finds = w₀.finds; ledger = old; ledgered = o.ledgered; accepted = o.accepted }) in
      record { columns = v.left; enters = v.ledgered.enters; boards = v.ledgered.boards };
  places = (all w₀).places;
  keys = (all w₀).keys;
}
