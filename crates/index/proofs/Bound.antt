-- No file makes the index slow: the way of a key passes at most a number for each of its bits, and then one for each
-- kind of term.
use Rattle.tables.specs.declared.columns.Tables.{Tables}
use mathlib.Core.Path.{◌≡◌, refl, sym, ap, subst⁻¹, ◌∙◌}
use mathlib.Core.Bool.{Bool, true, false, cond}
use mathlib.Core.List.{List, [], ◌∷◌}
use Prim.Native.Nat.{ℕ, zero, suc, ◌+◌, ◌-◌, ◌/◌, ◌^◌, ◌<◌, ◌≤◌}
use native.Mathlib.Omega.{arith}
use native.Mathlib.Numerals.{add-one}
use native.Mathlib.Nat.{div-eq_of_lt, lt_of_lt_of_le}
use lib.Dec.{eqb, lit≤}
use lib.ListN.{get_or, take, drop}
use lib.Seq.{get_or-drop}
use lib.Pow.{pow_mono, shr-shr}
use borrow.Author.Tests.{eqb-true, eqb-false}
use Rattle.rules.specs.Term.{kind_of}
use Rattle.rules.specs.Record.{body_length}
use Rattle.theorems.proofs.Pigeonhole.{pigeonhole}
use Rattle.records.specs.Keys.{Small}
use Rattle.records.proofs.Keys.{key_small, same_key, fields_small, term_kind}
use Rattle.records.proofs.Lengths.{term_kinds_lem}
use Rattle.learning.specs.There.{kind_there, term_there, TermRecord}
use Rattle.checks.specs.There.{kind_of_there}
use Rattle.index.specs.Tree.{below, key_bits, term_kinds, Met, here, under, Way, root, down, Tree}
use Rattle.index.specs.Indexed.{key_there, Indexed}

-- what is left of a key has lost a bit for each number passed
rest_at : {links : List ℕ} {key at rest m : ℕ} → Way links key at rest m → rest ≡ key / 2 ^ m
rest_at root = omega arith
rest_at {key = key} (down {m = m} t e w) = ap (λ r. r / 2) (rest_at w) ∙ shr-shr key m 1 ∙ ap (λ i. key / 2 ^ i) (add-one m)

-- nothing is left past its bits
rest_none : {links : List ℕ} {key at rest m : ℕ} → key < 2 ^ key_bits → key_bits ≤ m → Way links key at rest m → rest ≡ 0
rest_none h l w = rest_at w ∙ div-eq_of_lt (lt_of_lt_of_le h (pow_mono l))

-- a key's way with m passed stands at the entry of t
record Stands (links : List ℕ) (key t m : ℕ) : Type 0 where
  at : ℕ
  rest : ℕ
  way : Way links key at rest m
  holds : get_or links at 0 ≡ suc t

-- two ways have passed as many numbers, and have the same key if the same is left of it
abbrev SameWay : ℕ → ℕ → ℕ → ℕ → ℕ → ℕ → Type 0
SameWay k l r s i j = (i ≡ j) × (r ≡ s → k ≡ l)

-- so it is where they stand at one entry
module _ {links : List ℕ} {n : ℕ} (tree : Tree links n) {k l : ℕ} where
  same_down : {a b r s i j : ℕ} (t u : ℕ) → get_or links a 0 ≡ suc t → get_or links b 0 ≡ suc u → below t r ≡ below u s → (a ≡ b → SameWay k l r s i j) → SameWay k l (r / 2) (s / 2) (suc i) (suc j)
  same_down {a} {b} t u e f h up =
      let q : u ≡ t = omega arith in
      let v = up (tree.once a b t e (f ∙ ap suc q)) in
      (ap suc v.0, λ z. v.1 (omega arith))

  same_way : {a b r s i j : ℕ} → Way links k a r i → Way links l b s j → a ≡ b → SameWay k l r s i j
  same_way root root h = (refl, λ e. e)
  same_way root (down u f v) h = absurd (omega arith)
  same_way (down t e w) root h = absurd (omega arith)
  same_way (down t e w) (down u f v) h = same_down t u e f h (λ z. same_way w v z)

  same_number : {t u i j : ℕ} (a : Stands links k t i) (b : Stands links l u j) → t ≡ u → SameWay k l a.rest b.rest i j
  same_number {t} a b e = same_way a.way b.way (tree.once a.at b.at t a.holds (b.holds ∙ ap suc (sym e)))

-- a number that is met on the way of a key
met_stands : {links : List ℕ} {u e key at rest m : ℕ} → Met links u e rest → e ≡ get_or links at 0 → Way links key at rest m → (i : ℕ) × Stands links key u i
met_stands {m = m} (here e) h w = (m, record { at = _; rest = _; way = w; holds = sym h ∙ e })
met_stands (under t e d) h w = met_stands d refl (down t (sym h ∙ e) w)

-- the number passed after i others
abbrev passed : {links : List ℕ} {key at rest m : ℕ} → Way links key at rest m → ℕ → ℕ
passed root i = 0
passed (down {m = m} t e w) i = cond (eqb i m) t (passed w i)

-- after i others one of two stands there: the last, or one before it
last_or : {links : List ℕ} {key m t : ℕ} (i u : ℕ) → i < suc m → Stands links key t m → (i < m → Stands links key u i) → Stands links key (cond (eqb i m) t u) i
last_or {links} {key} {m} {t} i u h last before = go (eqb i m) refl
  where
    go : (b : Bool) → eqb i m ≡ b → Stands links key (cond b t u) i
    go true e = subst⁻¹ (Stands links key t) (eqb-true i m e) last
    go false e = let ne : i ≡ m → ⊥ = eqb-false i m e in before (omega arith)

passed_stands : {links : List ℕ} {key at rest m : ℕ} (w : Way links key at rest m) (i : ℕ) → i < m → Stands links key (passed w i) i
passed_stands root i h = absurd (omega arith)
passed_stands (down t e w) i h = last_or i (passed w i) h (record { at = _; rest = _; way = w; holds = e }) (λ l. passed_stands w i l)

take_bytes : (n : ℕ) (l : List ℕ) → ((i : ℕ) → get_or l i 0 < 256) → (i : ℕ) → get_or (take n l) i 0 < 256
take_bytes zero l h i = lit≤ tt
take_bytes (suc n) [] h i = lit≤ tt
take_bytes (suc n) (x ∷ l) h zero = h 0
take_bytes (suc n) (x ∷ l) h (suc i) = take_bytes n l (λ j. h (suc j)) i

-- the fields of a term of the file are words
small : (bs : List ℕ) → ((i : ℕ) → get_or bs i 0 < 256) → (at : ℕ) → Small (term_there bs at)
unfolding term_there
small bs bytes at = fields_small (kind_there bs at) _ (take_bytes (body_length (kind_there bs at)) (drop (at + 1) bs) (λ i. rw get_or-drop (bytes (at + 1 + i))))

module _ {bs : List ℕ} {place : ℕ → ℕ} {links : List ℕ} {tables : Tables} {n key at rest m : ℕ}
    (bytes : (i : ℕ) → get_or bs i 0 < 256) (whole : (t : ℕ) → t < n → TermRecord bs (place t)) (ix : Indexed bs place links tables n)
    (short : key < 2 ^ key_bits) (w : Way links key at rest m) where
  kind_there_lem : (t : ℕ) → t < n → kind_of (term_there bs (place t)) ≡ kind_of_there bs place t
  unfolding term_there
  kind_there_lem t h = term_kind (kind_of_there bs place t) _ (whole t h).is_term

  key_there_lem : (t : ℕ) → key_there bs place t < 2 ^ key_bits
  unfolding key_there
  key_there_lem t = key_small (term_there bs (place t)) (small bs bytes (place t))

  -- terms of one kind and one key are one
  one_term : (t u : ℕ) → t < n → u < n → kind_of_there bs place t ≡ kind_of_there bs place u → key_there bs place t ≡ key_there bs place u → t ≡ u
  unfolding key_there
  one_term t u h l e f =
      ix.unlike t u h l
      (same_key (term_there bs (place t)) (term_there bs (place u)) (small bs bytes (place t)) (small bs bytes (place u)) (kind_there_lem t h ∙ e ∙ sym (kind_there_lem u l)) f)

  declared : {t i : ℕ} → Stands links key t i → t < n
  declared s = omega (arith, ix.tree.most s.at, s.holds)

  -- past the bits of its key a way meets only terms with that key
  key_met : {t i : ℕ} → key_bits ≤ i → Stands links key t i → key_there bs place t ≡ key
  key_met {t} h s =
      let own = met_stands (ix.met t (declared s)) refl root in
      let same = same_number ix.tree own.1 s refl in
      same.1 (rest_none (key_there_lem t) (omega (arith, same.0)) own.1.way ∙ sym (rest_none short h s.way))

  -- the terms that it passes there
  abbrev late : ℕ → ℕ
  late i = passed w (key_bits + i)

  late_stands : (i : ℕ) → i < m - key_bits → Stands links key (late i) (key_bits + i)
  late_stands i h = passed_stands w (key_bits + i) (omega arith)

  late_kind : (i : ℕ) → i < m - key_bits → (0x10 ≤ kind_of_there bs place (late i)) × (kind_of_there bs place (late i) ≤ 0x1C)
  late_kind i h = term_kinds_lem _ (whole (late i) (declared (late_stands i h))).is_term

  -- they are of different kinds
  late_one : (i j : ℕ) → i < m - key_bits → j < m - key_bits → kind_of_there bs place (late i) ≡ kind_of_there bs place (late j) → i ≡ j
  late_one i j h l e =
      let a = late_stands i h in
      let b = late_stands j l in
      let f = key_met (omega arith) a ∙ sym (key_met (omega arith) b) in
      omega (arith, (same_number ix.tree a b (one_term (late i) (late j) (declared a) (declared b) e f)).0)

  -- a number for each bit of the key, and then one for each kind of term
  pub way_short : m ≤ key_bits + term_kinds
  way_short =
      let h =
      pigeonhole term_kinds (m - key_bits) (λ i. kind_of_there bs place (late i) - 0x10)
      (λ i l. omega (arith, (late_kind i l).0, (late_kind i l).1))
      (λ i j l k e. late_one i j l k (omega (arith, (late_kind i l).0, (late_kind j k).0))) in
      omega arith
