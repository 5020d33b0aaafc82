-- Walks down the list of a bucket.
--     walk_none, walk_here, walk-next     the walk from an entry on, as long as its list can be
--     found-most                          what is found is an entry
--     falls-linked, found-linked          an entry more: what its serial number finds, and the others
--     falls-more                          room for one more
--     found_none                          empty lists
-- Assumes nothing.
use mathlib.Core.Path.{◌≡◌, refl, sym, ap, subst, ◌∙◌}
use mathlib.Core.Bool.{Bool, true, false, cond}
use Prim.Native.Nat.{ℕ, zero, suc, ◌+◌, ◌-◌, ◌≤◌}
use native.Mathlib.Omega.{arith}
use lib.Dec.{eqb}
use borrow.Author.Tests.{eqb-true, eqb-false, eq-eqb, ne_eqb}
use Rattle.rules.specs.State.{put}
use Rattle.tables.specs.Columns.{serial_bucket, Boards, linked}
use Rattle.boards.specs.Linked.{Falls, walk, entry_of}

module _ (b : Boards) (n : ℕ) (f : Falls b n) (s : ℕ) where
  -- more steps than the list has change nothing
  enough : (k m e : ℕ) → e ≤ k → e ≤ m → walk b.serial b.earlier s k e ≡ walk b.serial b.earlier s m e
  unfolding walk
  enough zero zero e l h = refl
  enough zero (suc m) e l h = let z : e ≡ 0 = omega arith in rw (eq-eqb e 0 z) refl
  enough (suc k) zero e l h = let z : e ≡ 0 = omega arith in rw (eq-eqb e 0 z) refl
  enough (suc k) (suc m) e l h = go (eqb e 0) refl (enough k m (b.earlier (e - 1)))
    where
      go : (c : Bool) → eqb e 0 ≡ c → (b.earlier (e - 1) ≤ k → b.earlier (e - 1) ≤ m → walk b.serial b.earlier s k (b.earlier (e - 1)) ≡ walk b.serial b.earlier s m (b.earlier (e - 1)))
          → cond c 0 (cond (eqb (b.serial (e - 1)) s) e (walk b.serial b.earlier s k (b.earlier (e - 1)))) ≡ cond c 0 (cond (eqb (b.serial (e - 1)) s) e (walk b.serial b.earlier s m (b.earlier (e - 1))))
      go true q more = refl
      go false q more =
          let z = eqb-false e 0 q in
          ap (cond (eqb (b.serial (e - 1)) s) e) (more (omega (arith, f.earlier (e - 1))) (omega (arith, f.earlier (e - 1))))

  pub walk_none : (e : ℕ) → e ≡ 0 → walk b.serial b.earlier s e e ≡ 0
  unfolding walk
  walk_none e z = rw z refl

  pub walk_here : (e : ℕ) → (e ≡ 0 → ⊥) → b.serial (e - 1) ≡ s → walk b.serial b.earlier s e e ≡ e
  unfolding walk
  walk_here zero z h = absurd (z refl)
  walk_here (suc e) z h = rw (eq-eqb (b.serial (suc e - 1)) s h, ne_eqb (suc e) 0 z) refl

  pub walk_next : (e : ℕ) → (e ≡ 0 → ⊥) → (b.serial (e - 1) ≡ s → ⊥) → walk b.serial b.earlier s e e ≡ walk b.serial b.earlier s (b.earlier (e - 1)) (b.earlier (e - 1))
  unfolding walk
  walk_next zero z h = absurd (z refl)
  walk_next (suc e) z h =
      ap (λ (c : Bool). cond c 0 (cond (eqb (b.serial (suc e - 1)) s) (suc e) (walk b.serial b.earlier s e (b.earlier (suc e - 1))))) (ne_eqb (suc e) 0 z)
      ∙ ap (λ (c : Bool). cond c (suc e) (walk b.serial b.earlier s e (b.earlier (suc e - 1)))) (ne_eqb (b.serial (suc e - 1)) s h)
      ∙ enough e (b.earlier (suc e - 1)) (b.earlier (suc e - 1)) (omega (arith, f.earlier (suc e - 1))) (omega arith)

  -- the same by the place of the entry
  pub walk_found : (i e : ℕ) → e ≡ i + 1 → b.serial i ≡ s → walk b.serial b.earlier s e e ≡ e
  walk_found i e q h = let p : e - 1 ≡ i = omega (arith, q) in walk_here e (omega (arith, q)) (ap b.serial p ∙ h)

  pub walk_past : (i e : ℕ) → e ≡ i + 1 → (b.serial i ≡ s → ⊥) → walk b.serial b.earlier s e e ≡ walk b.serial b.earlier s (b.earlier i) (b.earlier i)
  walk_past i e q n =
      let p : e - 1 ≡ i = omega (arith, q) in
      subst (λ (j : ℕ). walk b.serial b.earlier s e e ≡ walk b.serial b.earlier s (b.earlier j) (b.earlier j)) p
      (walk_next e (omega (arith, q)) (λ h. n (ap b.serial (sym p) ∙ h)))

  -- what is found is an entry
  walk_most : (k e : ℕ) → walk b.serial b.earlier s k e ≤ e
  unfolding walk
  walk_most zero e = omega arith
  walk_most (suc k) e = go (eqb e 0) (eqb (b.serial (e - 1)) s) (walk_most k (b.earlier (e - 1)))
    where
      go : (c d : Bool) → walk b.serial b.earlier s k (b.earlier (e - 1)) ≤ b.earlier (e - 1) → cond c 0 (cond d e (walk b.serial b.earlier s k (b.earlier (e - 1)))) ≤ e
      go true d h = omega arith
      go false true h = omega arith
      go false false h = omega (arith, h, f.earlier (e - 1))

  pub found_most : entry_of b s ≤ n
  unfolding entry_of
  found_most = omega (arith, walk_most (b.newest (serial_bucket s)) (b.newest (serial_bucket s)), f.newest (serial_bucket s))

-- an entry more at place n
module _ (b : Boards) (n m : ℕ) (f : Falls b n) where
  pub falls_linked : Falls (linked b n m) (n + 1)
  unfolding put
  falls_linked = record { newest = λ i. newest i (eqb i (serial_bucket m)); earlier = λ i. earlier i (eqb i n) refl }
    where
      newest : (i : ℕ) (c : Bool) → cond c (n + 1) (b.newest i) ≤ n + 1
      newest i true = omega arith
      newest i false = omega (arith, f.newest i)

      earlier : (i : ℕ) (c : Bool) → eqb i n ≡ c → cond c (b.newest (serial_bucket m)) (b.earlier i) ≤ i
      earlier i true q = omega (arith, f.newest (serial_bucket m), eqb-true i n q)
      earlier i false q = f.earlier i

  -- entries below it are passed as before
  kept : (s k e : ℕ) → e ≤ n → walk (linked b n m).serial (linked b n m).earlier s k e ≡ walk b.serial b.earlier s k e
  unfolding walk put
  kept s zero e l = refl
  kept s (suc k) e l = go (eqb e 0) refl (kept s k (b.earlier (e - 1)))
    where
      go : (c : Bool) → eqb e 0 ≡ c
          → (b.earlier (e - 1) ≤ n → walk (linked b n m).serial (linked b n m).earlier s k (b.earlier (e - 1)) ≡ walk b.serial b.earlier s k (b.earlier (e - 1)))
          → cond c 0 (cond (eqb ((linked b n m).serial (e - 1)) s) e (walk (linked b n m).serial (linked b n m).earlier s k ((linked b n m).earlier (e - 1))))
          ≡ cond c 0 (cond (eqb (b.serial (e - 1)) s) e (walk b.serial b.earlier s k (b.earlier (e - 1))))
      go true q more = refl
      go false q more =
          let z = eqb-false e 0 q in
          let d = ne_eqb (e - 1) n (λ h. omega arith) in
          rw (d, more (omega (arith, f.earlier (e - 1)))) refl

  pub found_linked : (s : ℕ) → entry_of (linked b n m) s ≡ cond (eqb s m) (n + 1) (entry_of b s)
  unfolding entry_of put
  found_linked s = go (eqb (serial_bucket s) (serial_bucket m)) refl (eqb s m) refl
    where
      same : n + 1 - 1 ≡ n
      same = omega arith

      own_serial : (linked b n m).serial (n + 1 - 1) ≡ m
      own_serial = ap (linked b n m).serial same ∙ rw (eq-eqb n n refl) refl

      own_earlier : (linked b n m).earlier (n + 1 - 1) ≡ b.newest (serial_bucket m)
      own_earlier = ap (linked b n m).earlier same ∙ rw (eq-eqb n n refl) refl

      go : (c : Bool) → eqb (serial_bucket s) (serial_bucket m) ≡ c → (d : Bool) → eqb s m ≡ d
          → walk (linked b n m).serial (linked b n m).earlier s (cond c (n + 1) (b.newest (serial_bucket s))) (cond c (n + 1) (b.newest (serial_bucket s)))
          ≡ cond d (n + 1) (walk b.serial b.earlier s (b.newest (serial_bucket s)) (b.newest (serial_bucket s)))
      go true q true r =
          let x = eqb-true s m r in
          walk_here (linked b n m) (n + 1) falls_linked s (n + 1) (λ h. omega arith) (own_serial ∙ sym x)
      go true q false r =
          let x = eqb-false s m r in
          let y = eqb-true (serial_bucket s) (serial_bucket m) q in
          walk_next (linked b n m) (n + 1) falls_linked s (n + 1) (λ h. omega arith) (λ h. x (sym (sym own_serial ∙ h)))
          ∙ ap (λ (e : ℕ). walk (linked b n m).serial (linked b n m).earlier s e e) (own_earlier ∙ ap b.newest (sym y))
          ∙ kept s (b.newest (serial_bucket s)) (b.newest (serial_bucket s)) (f.newest (serial_bucket s))
      go false q true r = absurd (eqb-false (serial_bucket s) (serial_bucket m) q (ap serial_bucket (eqb-true s m r)))
      go false q false r = kept s (b.newest (serial_bucket s)) (b.newest (serial_bucket s)) (f.newest (serial_bucket s))

-- room for one more
pub falls_more : (b : Boards) (n : ℕ) → Falls b n → Falls b (n + 1)
falls_more b n f = record { newest = λ i. omega (arith, f.newest i); earlier = f.earlier }

pub found_none : (b : Boards) → ((i : ℕ) → b.newest i ≡ 0) → (s : ℕ) → entry_of b s ≡ 0
unfolding entry_of walk
found_none b none s = rw (none (serial_bucket s)) refl
