-- No file makes the lists long: serial numbers have 16 bits, so that a bucket has 64 of them, and each is linked once.
--     list_of, walk-listed      the entries of a bucket's list; a walk passes no others
--     Made, lists-short        lists made by linking serial numbers, each where it finds no entry, have at most 64 entries
-- Assumes nothing.
use mathlib.Core.Path.{◌≡◌, refl, sym, ap, subst⁻¹, ◌∙◌}
use mathlib.Core.Bool.{Bool, true, false, cond}
use mathlib.Core.List.{List, [], ◌∷◌}
use Prim.Native.Nat.{ℕ, zero, suc, ◌+◌, ◌-◌, ◌/◌, ◌<◌, ◌≤◌}
use native.Mathlib.Omega.{arith}
use lib.Dec.{eqb}
use lib.ListN.{length, get_or}
use borrow.Author.Tests.{eqb-true, eqb-false, eq-eqb, ne_eqb}
use Rattle.rules.specs.State.{put}
use Rattle.theorems.specs.Residency.{All}
use Rattle.theorems.proofs.Pigeonhole.{pigeonhole}
use Rattle.tables.specs.Columns.{serial_buckets, serial_bucket, Boards, Unlinked, with_ek, linked}
use Rattle.boards.specs.Linked.{Falls, walk, entry_of}
use Rattle.boards.proofs.Walk.{falls_linked, falls_more}

-- serial numbers, and those of a bucket
abbrev pub serial_limit : ℕ
serial_limit = 65536

abbrev pub list_limit : ℕ
list_limit = serial_limit / serial_buckets

-- the places of at most k entries, from the entry e on
pub list_from : (ℕ → ℕ) → ℕ → ℕ → List ℕ
list_from earlier zero e = []
list_from earlier (suc k) e = cond (eqb e 0) [] ((e - 1) ∷ list_from earlier k (earlier (e - 1)))

-- of a bucket
abbrev pub list_of : Boards → ℕ → List ℕ
list_of b i = list_from b.earlier (b.newest i) (b.newest i)

-- the first entry of a list with a serial number
pub first_with : (ℕ → ℕ) → ℕ → List ℕ → ℕ
first_with serials s [] = 0
first_with serials s (p ∷ ps) = cond (eqb (serials p) s) (p + 1) (first_with serials s ps)

-- what a walk finds is found in the list, and so it passes no entry that is not there
walk_list : (serials earlier : ℕ → ℕ) (s k e : ℕ) → walk serials earlier s k e ≡ first_with serials s (list_from earlier k e)
unfolding walk list_from first_with
walk_list serials earlier s zero e = refl
walk_list serials earlier s (suc k) e = go (eqb e 0) refl (walk_list serials earlier s k (earlier (e - 1)))
  where
    go : (c : Bool) → eqb e 0 ≡ c → walk serials earlier s k (earlier (e - 1)) ≡ first_with serials s (list_from earlier k (earlier (e - 1)))
        → cond c 0 (cond (eqb (serials (e - 1)) s) e (walk serials earlier s k (earlier (e - 1)))) ≡ first_with serials s (cond c [] ((e - 1) ∷ list_from earlier k (earlier (e - 1))))
    go true q more = refl
    go false q more =
        let z = eqb-false e 0 q in
        let d : e ≡ e - 1 + 1 = omega arith in
        ap (cond (eqb (serials (e - 1)) s) e) more ∙ ap (λ (t : ℕ). cond (eqb (serials (e - 1)) s) t (first_with serials s (list_from earlier k (earlier (e - 1))))) d

pub walk_listed : (b : Boards) (s : ℕ) → entry_of b s ≡ first_with b.serial s (list_of b (serial_bucket s))
unfolding entry_of
walk_listed b s = walk_list b.serial b.earlier s (b.newest (serial_bucket s)) (b.newest (serial_bucket s))

-- a serial number that finds nothing is no entry's
none_with : (serials : ℕ → ℕ) (s : ℕ) (ps : List ℕ) → first_with serials s ps ≡ 0 → All (λ p. serials p ≡ s → ⊥) ps
unfolding first_with
none_with serials s [] z = tt
none_with serials s (p ∷ ps) z = go (eqb (serials p) s) refl z (none_with serials s ps)
  where
    go : (c : Bool) → eqb (serials p) s ≡ c → cond c (p + 1) (first_with serials s ps) ≡ 0 → (first_with serials s ps ≡ 0 → All (λ p. serials p ≡ s → ⊥) ps) → (serials p ≡ s → ⊥) × All (λ p. serials p ≡ s → ⊥) ps
    go true q z more = absurd (omega arith)
    go false q z more = (eqb-false (serials p) s q, more z)

-- serial numbers all different
Apart : (ℕ → ℕ) → List ℕ → Type 0
Apart serials [] = Unit {0}
Apart serials (p ∷ ps) = All (λ q. serials q ≡ serials p → ⊥) ps × Apart serials ps

all_map : {P Q : ℕ → Type 0} → ((p : ℕ) → P p → Q p) → (ps : List ℕ) → All P ps → All Q ps
all_map f [] h = tt
all_map f (p ∷ ps) h = (f p h.0, all_map f ps h.1)

all_both : {P Q R : ℕ → Type 0} → ((p : ℕ) → P p → Q p → R p) → (ps : List ℕ) → All P ps → All Q ps → All R ps
all_both f [] h k = tt
all_both f (p ∷ ps) h k = (f p h.0 k.0, all_both f ps h.1 k.1)

all_at : (P : ℕ → Type 0) (ps : List ℕ) → All P ps → (j : ℕ) → j < length ps → P (get_or ps j 0)
all_at P [] h j l = absurd (omega arith)
all_at P (p ∷ ps) h zero l = h.0
all_at P (p ∷ ps) h (suc j) l = all_at P ps h.1 j (omega arith)

apart_at : (serials : ℕ → ℕ) (ps : List ℕ) → Apart serials ps → (j k : ℕ) → j < length ps → k < length ps → serials (get_or ps j 0) ≡ serials (get_or ps k 0) → j ≡ k
unfolding Apart
apart_at serials [] h j k l m e = absurd (omega arith)
apart_at serials (p ∷ ps) h zero zero l m e = refl
apart_at serials (p ∷ ps) h zero (suc k) l m e = absurd (all_at (λ q. serials q ≡ serials p → ⊥) ps h.0 k (omega arith) (sym e))
apart_at serials (p ∷ ps) h (suc j) zero l m e = absurd (all_at (λ q. serials q ≡ serials p → ⊥) ps h.0 j (omega arith) e)
apart_at serials (p ∷ ps) h (suc j) (suc k) l m e = ap suc (apart_at serials ps h.1 j k (omega arith) (omega arith) e)

-- what holds of every list: places below n; serial numbers of 16 bits, of the list's bucket, all different
record Spread (b : Boards) (n : ℕ) : Type 0 where
  falls : Falls b n
  places : (i : ℕ) → All (λ p. p < n) (list_of b i)
  own : (i : ℕ) → All (λ p. (b.serial p < serial_limit) × (serial_bucket (b.serial p) ≡ i)) (list_of b i)
  apart : (i : ℕ) → Apart b.serial (list_of b i)

-- lists made by linking, and by entries that are not linked
pub data Made : Boards → ℕ → Type 0 where
  none : {b : Boards} → Unlinked b → Made b 0
  unlinked : {b : Boards} {n : ℕ} → Made b n → Made b (n + 1)
  noted : {b : Boards} {n : ℕ} (c : ℕ → ℕ) → Made b n → Made (with_ek b c) n
  linking : {b : Boards} {n : ℕ} (m : ℕ) → m < serial_limit → entry_of b m ≡ 0 → Made b n → Made (linked b n m) (n + 1)

-- a list below n is the same, and so are its serial numbers, with an entry more at n
module _ (b : Boards) (n m : ℕ) (f : Falls b n) where
  list_kept : (k e : ℕ) → e ≤ n → list_from (linked b n m).earlier k e ≡ list_from b.earlier k e
  unfolding list_from put
  list_kept zero e l = refl
  list_kept (suc k) e l = go (eqb e 0) refl (list_kept k (b.earlier (e - 1)))
    where
      go : (c : Bool) → eqb e 0 ≡ c → (b.earlier (e - 1) ≤ n → list_from (linked b n m).earlier k (b.earlier (e - 1)) ≡ list_from b.earlier k (b.earlier (e - 1)))
          → cond c [] ((e - 1) ∷ list_from (linked b n m).earlier k ((linked b n m).earlier (e - 1))) ≡ cond c [] ((e - 1) ∷ list_from b.earlier k (b.earlier (e - 1)))
      go true q more = refl
      go false q more =
          let z = eqb-false e 0 q in
          rw (ne_eqb (e - 1) n (λ h. omega arith), more (omega (arith, f.earlier (e - 1)))) refl

  serial_kept : (p : ℕ) → p < n → (linked b n m).serial p ≡ b.serial p
  unfolding put
  serial_kept p l = rw (ne_eqb p n (λ h. omega arith)) refl

  serial_new : (linked b n m).serial n ≡ m
  unfolding put
  serial_new = rw (eq-eqb n n refl) refl

  earlier_new : (linked b n m).earlier n ≡ b.newest (serial_bucket m)
  unfolding put
  earlier_new = rw (eq-eqb n n refl) refl

-- more steps than the list has change nothing
list_enough : (b : Boards) (n : ℕ) → Falls b n → (k j e : ℕ) → e ≤ k → e ≤ j → list_from b.earlier k e ≡ list_from b.earlier j e
unfolding list_from
list_enough b n f zero zero e l h = refl
list_enough b n f zero (suc j) e l h = let z : e ≡ 0 = omega arith in rw (eq-eqb e 0 z) refl
list_enough b n f (suc k) zero e l h = let z : e ≡ 0 = omega arith in rw (eq-eqb e 0 z) refl
list_enough b n f (suc k) (suc j) e l h = go (eqb e 0) refl (list_enough b n f k j (b.earlier (e - 1)))
  where
    go : (c : Bool) → eqb e 0 ≡ c → (b.earlier (e - 1) ≤ k → b.earlier (e - 1) ≤ j → list_from b.earlier k (b.earlier (e - 1)) ≡ list_from b.earlier j (b.earlier (e - 1)))
        → cond c [] ((e - 1) ∷ list_from b.earlier k (b.earlier (e - 1))) ≡ cond c [] ((e - 1) ∷ list_from b.earlier j (b.earlier (e - 1)))
    go true q more = refl
    go false q more =
        let z = eqb-false e 0 q in
        ap (λ (ps : List ℕ). (e - 1) ∷ ps) (more (omega (arith, f.earlier (e - 1))) (omega (arith, f.earlier (e - 1))))

-- the lists with an entry more: its bucket's has it in front, the others are as they were
module _ (b : Boards) (n m : ℕ) (f : Falls b n) where
  own_list : list_of (linked b n m) (serial_bucket m) ≡ n ∷ list_of b (serial_bucket m)
  unfolding list_from put
  own_list = go ((linked b n m).newest (serial_bucket m)) (rw (eq-eqb (serial_bucket m) (serial_bucket m) refl) refl)
    where
      go : (e : ℕ) → e ≡ n + 1 → list_from (linked b n m).earlier e e ≡ n ∷ list_of b (serial_bucket m)
      go e q =
          let s : e ≡ suc n = omega arith in
          ap (λ (t : ℕ). list_from (linked b n m).earlier t t) s
          ∙ ap (λ (c : Bool). cond c [] ((suc n - 1) ∷ list_from (linked b n m).earlier n ((linked b n m).earlier (suc n - 1)))) (ne_eqb (suc n) 0 (λ h. omega arith))
          ∙ ap (λ (t : ℕ). t ∷ list_from (linked b n m).earlier n ((linked b n m).earlier t)) (let d : suc n - 1 ≡ n = omega arith in d)
          ∙ ap (λ (t : ℕ). n ∷ list_from (linked b n m).earlier n t) (earlier_new b n m f)
          ∙ ap (λ (ps : List ℕ). n ∷ ps)
          (list_kept b n m f n (b.newest (serial_bucket m)) (f.newest (serial_bucket m))
          ∙ list_enough b n f n (b.newest (serial_bucket m)) (b.newest (serial_bucket m)) (f.newest (serial_bucket m)) (omega arith))

  other_list : (i : ℕ) → (i ≡ serial_bucket m → ⊥) → list_of (linked b n m) i ≡ list_of b i
  unfolding put
  other_list i d = rw (ne_eqb i (serial_bucket m) d) (list_kept b n m f (b.newest i) (b.newest i) (f.newest i))

-- different serial numbers stay so where each is as it was
apart_kept : (s t : ℕ → ℕ) (n : ℕ) → ((p : ℕ) → p < n → t p ≡ s p) → (ps : List ℕ) → All (λ p. p < n) ps → Apart s ps → Apart t ps
unfolding Apart
apart_kept s t n same [] below h = tt
apart_kept s t n same (p ∷ ps) below h =
    (all_both (λ q l w e. w (sym (same q l) ∙ e ∙ same p below.0)) ps below.1 h.0, apart_kept s t n same ps below.1 h.1)

module _ (b : Boards) (n m : ℕ) (low : m < serial_limit) (new : entry_of b m ≡ 0) (s : Spread b n) where
  abbrev next : Boards
  next = linked b n m

  -- an old list in the new lists
  kept_own : (i : ℕ) → All (λ p. (next.serial p < serial_limit) × (serial_bucket (next.serial p) ≡ i)) (list_of b i)
  kept_own i =
      all_both (λ p l w. subst⁻¹ (λ (x : ℕ). (x < serial_limit) × (serial_bucket x ≡ i)) (serial_kept b n m s.falls p l) w) (list_of b i)
      (s.places i) (s.own i)

  kept_apart : (i : ℕ) → Apart next.serial (list_of b i)
  kept_apart i = apart_kept b.serial next.serial n (serial_kept b n m s.falls) (list_of b i) (s.places i) (s.apart i)

  kept_places : (i : ℕ) → All (λ p. p < n + 1) (list_of b i)
  kept_places i = all_map (λ p l. omega arith) (list_of b i) (s.places i)

  fresh : All (λ p. next.serial p ≡ next.serial n → ⊥) (list_of b (serial_bucket m))
  fresh =
      all_both (λ p l w e. w (sym (serial_kept b n m s.falls p l) ∙ e ∙ serial_new b n m s.falls)) (list_of b (serial_bucket m))
      (s.places (serial_bucket m)) (none_with b.serial m (list_of b (serial_bucket m)) (sym (walk_listed b m) ∙ new))

  -- of each list, whether it is the entry's own or not
  each : (P : ℕ → List ℕ → Type 0) → P (serial_bucket m) (n ∷ list_of b (serial_bucket m)) → ((i : ℕ) → P i (list_of b i)) → (i : ℕ) → P i (list_of next i)
  each P here there i = go (eqb i (serial_bucket m)) refl
    where
      go : (c : Bool) → eqb i (serial_bucket m) ≡ c → P i (list_of (linked b n m) i)
      go true q =
          let d = eqb-true i (serial_bucket m) q in
          subst⁻¹ (λ (j : ℕ). P j (list_of (linked b n m) j)) d (subst⁻¹ (P (serial_bucket m)) (own_list b n m s.falls) here)
      go false q = subst⁻¹ (P i) (other_list b n m s.falls i (eqb-false i (serial_bucket m) q)) (there i)

  spread_linked : Spread next (n + 1)
  unfolding Apart
  spread_linked = record {
    falls = falls_linked b n m s.falls;
    places = each (λ i ps. All (λ p. p < n + 1) ps) (omega arith, kept_places (serial_bucket m)) kept_places;
    own =
        each (λ i ps. All (λ p. (next.serial p < serial_limit) × (serial_bucket (next.serial p) ≡ i)) ps)
        (subst⁻¹ (λ (x : ℕ). (x < serial_limit) × (serial_bucket x ≡ serial_bucket m)) (serial_new b n m s.falls) (low, refl), kept_own (serial_bucket m)) kept_own;
    apart = each (λ i ps. Apart next.serial ps) (fresh, kept_apart (serial_bucket m)) kept_apart;
  }

made_spread : {b : Boards} {n : ℕ} → Made b n → Spread b n
unfolding list_from Apart
made_spread (none u) = record {
  falls = record { newest = λ i. omega (arith, u.newest i); earlier = λ i. omega (arith, u.earlier i) };
  places = λ i. rw (u.newest i) tt;
  own = λ i. rw (u.newest i) tt;
  apart = λ i. rw (u.newest i) tt;
}
made_spread (unlinked {b} {n} d) =
    let s = made_spread d in
    record { falls = falls_more b n s.falls; places = λ i. all_map (λ p l. omega arith) (list_of b i) (s.places i); own = s.own; apart = s.apart }
made_spread (noted {b} {n} c d) =
    let s = made_spread d in
    record { falls = record { newest = s.falls.newest; earlier = s.falls.earlier }; places = s.places; own = s.own; apart = s.apart }
made_spread (linking {b} {n} m low new d) = spread_linked b n m low new (made_spread d)

pub lists_short : {b : Boards} {n : ℕ} → Made b n → (i : ℕ) → length (list_of b i) ≤ list_limit
lists_short {b} {n} d i =
    let s = made_spread d in
    let ps = list_of b i in
    let own = all_at (λ p. (b.serial p < serial_limit) × (serial_bucket (b.serial p) ≡ i)) ps (s.own i) in
    pigeonhole list_limit (length ps) (λ j. b.serial (get_or ps j 0) / serial_buckets) (λ j l. let w = (own j l).0 in omega arith)
    (λ j k l h e.
    let v = (own j l).1 in
    let w = (own k h).1 in
    apart_at b.serial ps (s.apart i) j k l h (omega arith))
