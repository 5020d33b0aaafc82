-- Down a tree by a key: all that has the key is met.
use mathlib.Core.Path.{◌≡◌, refl, sym, ap, ◌∙◌, subst}
use mathlib.Core.Bool.{Bool, true, false, false≢true}
use mathlib.Core.Logic.{◌⊎◌, inl, inr, ⊎_elim}
use mathlib.Core.List.{List}
use Prim.Native.Nat.{ℕ, zero, suc, ◌/◌, ◌<◌, ◌≤◌}
use native.Mathlib.Omega.{arith}
use lib.ListN.{get_or}
use Rattle.std.specs.Prelude.{Option, Some}
use Rattle.tables.specs.Columns.{one_more}
use Rattle.index.specs.Tree.{bucket_of, below, Met, here, under, Way, root, down, Tree, Free, Found, yet}
use Rattle.index.specs.Indexed.{same_by, half_by, other_half, Reached, Vacant}
use Rattle.index.proofs.Same.{not_true, same_true, same_key, other_kind, other_key_lem, half_true, half_key, half_other_kind, half_other_key}

-- nothing is met from no entry
pub no_entry_lem : {links : List ℕ} {u e rest : ℕ} → e ≡ 0 → Met links u e rest → ⊥
no_entry_lem z (here q) = omega arith
no_entry_lem z (under t q m) = omega arith

-- what is met from an entry is that entry's or is met below it
past : {links : List ℕ} {u e rest : ℕ} (t : ℕ) → e ≡ suc t → (u ≡ t → ⊥) → Met links u e rest → Met links u (get_or links (below t rest) 0) (rest / 2)
past t z ne (here q) = absurd (ne (omega arith))
past {links} {u} {e} {rest} t z ne (under v q m) =
    let s : v ≡ t = omega arith in
    subst (λ (w : ℕ). Met links u (get_or links (below w rest) 0) (rest / 2)) s m

yet_falls : (n e e' : ℕ) → (e ≡ 0 → ⊥) → e ≤ n → ((e' ≡ 0 → ⊥) → e < e') → e' ≤ n → yet n e' < yet n e
unfolding yet
yet_falls n zero e' z l h m = absurd (z refl)
yet_falls n (suc t) zero z l h m = omega arith
yet_falls n (suc t) (suc u) z l h m = let k : suc t < suc u = h (λ q. omega arith) in omega arith

-- all of the first n that pass are met from here
abbrev pub Ahead : List ℕ → (ℕ → Bool) → ℕ → ℕ → ℕ → Type 0
Ahead links test n e rest = (u : ℕ) → u < n → test u ≡ true → Met links u e rest

-- where a search stands: what passes the first test is ahead; what passes the second is ahead too, or one that does was
-- noted
pub record Walking (links : List ℕ) (one two : ℕ → Bool) (key n slot rest half : ℕ) : Type 0 where
  pub passed : ℕ
  pub way : Way links key slot rest passed
  pub first : Ahead links one n (get_or links slot 0) rest
  pub second : half ≡ 0 → Ahead links two n (get_or links slot 0) rest
  pub noted : (t : ℕ) → half ≡ suc t → (t < n) × (two t ≡ true)

module _ {links : List ℕ} {one two : ℕ → Bool} {key n slot rest half : ℕ} (tree : Tree links n) (w : Walking links one two key n slot rest half) where
  module _ (z : get_or links slot 0 ≡ 0) where
    pub walk_none : (u : ℕ) → u < n → one u ≡ false
    walk_none u l = not_true (one u) (λ p. no_entry_lem z (w.first u l p))

    pub walk_half : Found two n half
    walk_half = record { one = w.noted; none = λ h u l. not_true (two u) (λ p. no_entry_lem z (w.second h u l p)) }

    pub walk_free : Free links key slot
    walk_free = record { rest = rest; passed = w.passed; way = w.way; empty = z }

  module _ {t : ℕ} (q : get_or links slot 0 ≡ suc t) where
    pub walk_declared : t < n
    walk_declared = omega (arith, tree.most slot, q)

    beyond : (test : ℕ → Bool) → test t ≡ false → Ahead links test n (get_or links slot 0) rest → Ahead links test n (get_or links (below t rest) 0) (rest / 2)
    beyond test f a u l p = past t q (λ s. false≢true (sym f ∙ subst (λ (v : ℕ). test v ≡ true) s p)) (a u l p)

    pub walk_on :
        (half' : ℕ) → one t ≡ false → ((two t ≡ true) × (half' ≡ suc t)) ⊎ ((two t ≡ false) × (half' ≡ half))
        → Walking links one two key n (below t rest) (rest / 2) half'
    walk_on half' f =
        let on : ((half' ≡ 0 → Ahead links two n (get_or links (below t rest) 0) (rest / 2)) → ((v : ℕ) → half' ≡ suc v → (v < n) × (two v ≡ true))
        → Walking links one two key n (below t rest) (rest / 2) half') =
        λ s n. record {
          passed = suc w.passed;
          way = down t q w.way;
          first = beyond one f w.first;
          second = s;
          noted = n;
        } in
        ⊎_elim
        (λ h. on (λ z. absurd (omega (arith, h.1, z))) (λ v e. let s : t ≡ v = omega (arith, h.1, e) in subst (λ (v : ℕ). (v < n) × (two v ≡ true)) s (walk_declared, h.0)))
        (λ h. on (λ z. beyond two h.0 (w.second (sym h.1 ∙ z))) (λ v e. w.noted v (sym h.1 ∙ e)))

    pub below_falls : yet n (get_or links (below t rest) 0) < yet n (get_or links slot 0)
    below_falls =
        yet_falls n (get_or links slot 0) (get_or links (below t rest) 0) (λ z. omega (arith, z, q)) (tree.most slot)
        (λ p. rw q (tree.later t rest p)) (tree.most (below t rest))

-- the walk of a key, by the kinds and the keys of the numbers that it meets
module _ (kinds : ℕ → ℕ) {keys : ℕ → ℕ} {links : List ℕ} {n : ℕ} (i : Reached keys links n) (kind key : ℕ) where
  abbrev KeyWalk : ℕ → ℕ → ℕ → Type 0
  KeyWalk = Walking links (same_by kinds keys kind key) (half_by kinds keys (other_half kind) key) key n

  met_by : (u : ℕ) → u < n → keys u ≡ key → Met links u (get_or links (bucket_of key) 0) key
  met_by u l e = subst (λ (y : ℕ). Met links u (get_or links (bucket_of y) 0) y) e (i.met u l)

  pub walk_start : KeyWalk (bucket_of key) key 0
  walk_start = record {
    passed = 0;
    way = root;
    first = λ u l p. met_by u l (same_key kinds keys kind key u p);
    second = λ _ u l p. met_by u l (half_key kinds keys (other_half kind) key u p);
    noted = λ t q. absurd (omega arith);
  }

  module _ {slot rest half : ℕ} (w : KeyWalk slot rest half) where
    pub walk_ends : {o : Option ℕ} → one_more o ≡ half → get_or links slot 0 ≡ 0 → Vacant kinds keys links kind key n (record { at = slot; half = o })
    walk_ends h z = record { none = walk_none i.tree w z; half = rw h (walk_half i.tree w z); free = walk_free i.tree w z }

    module _ {t : ℕ} (q : get_or links slot 0 ≡ suc t) {own : ℕ} (key_is : own ≡ keys t) where
      abbrev Next : ℕ → Type 0
      Next = KeyWalk (below t rest) (rest / 2)

      -- a number of another key
      pub walk_past : {half' : ℕ} → (own ≡ key → ⊥) → half' ≡ half → Next half'
      walk_past {half'} d h =
          let other : keys t ≡ key → ⊥ = λ e. d (key_is ∙ e) in
          walk_on i.tree w q half' (other_key_lem kinds keys kind key t other) (inr (half_other_key kinds keys (other_half kind) key t other, h))

      module _ (same : own ≡ key) {there : ℕ} (is : there ≡ kinds t) where
        key_here : keys t ≡ key
        key_here = sym key_is ∙ same

        pub walk_same : there ≡ kind → (t : ℕ) × (t < n) × (same_by kinds keys kind key t ≡ true)
        walk_same e = (t, walk_declared i.tree w q, same_true kinds keys kind key t (sym is ∙ e) key_here)

        not_same : (there ≡ kind → ⊥) → same_by kinds keys kind key t ≡ false
        not_same d = other_kind kinds keys kind key t (λ e. d (is ∙ e))

        -- one of the other half's kind, which is noted
        pub walk_noted : {half' : ℕ} → (there ≡ kind → ⊥) → other_half kind ≡ Some there → half' ≡ suc t → Next half'
        walk_noted {half'} d e h = walk_on i.tree w q half' (not_same d) (inl (half_true kinds keys (other_half kind) key t (e ∙ ap Some is) key_here, h))

        -- one of another kind
        pub walk_other : {half' : ℕ} → (there ≡ kind → ⊥) → (other_half kind ≡ Some there → ⊥) → half' ≡ half → Next half'
        walk_other {half'} d e h = walk_on i.tree w q half' (not_same d) (inr (half_other_kind kinds keys (other_half kind) key t (λ a. e (a ∙ ap Some (sym is))), h))
