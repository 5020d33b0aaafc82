-- What registers show before the first command, as the code fills them.
--     start-empty                        bytes of 255 alone show nothing
--     devices-none, devices-next, devices-skip   a register of each device, party by party
--     start-skip, start-next             by the terms from the last one down
--     start-all                                  by all of them, as the rules say it
-- Assumes nothing.
use mathlib.Core.Bool.{Bool, true, false, cond, ◌&&◌}
use mathlib.Core.Path.{◌≡◌, refl, sym, ap, ◌∙◌}
use mathlib.Core.List.{List, ◌∷◌}
use Prim.Native.Nat.{ℕ, suc, ◌+◌, ◌*◌, ◌<◌, ◌≤◌}
use native.Mathlib.Omega.{arith}
use lib.Dec.{eqb, ltb}
use lib.ListN.{length, get_or, drop, replicate, get_or-eq_default}
use Rattle.std.proofs.lemmas.List.{get_or-replicate}
use lib.Seq.{drop-length, drop-cons}
use borrow.Author.Tests.{eqb-true, eqb-false, eq-eqb, ne_eqb, ltb-true, ltb-false, lt-ltb, le-ltb}
use Rattle.rules.specs.declared.Term.TheVariants.{Hash}
use Rattle.rules.specs.Limits.{device, role_count, party_limit, register_count, register_bytes, empty_field}
use Rattle.rules.specs.Record.{word}
use Rattle.rules.specs.Term.{register_kind}
use Rattle.rules.specs.File.{File, role_of, is_role, term, kind, field, register_of}
use Rattle.rules.specs.State.{starting_at, start_registers}
use Rattle.registers.specs.View.{register_at, registers_in, shown_at}
use Rattle.registers.specs.Starting.{shown_by_devices, start_from}

-- the byte of an empty register
abbrev byte : ℕ
byte = 255

all_empty : registers_in (replicate register_bytes byte) ≡ (λ (p i : ℕ). empty_field)
unfolding registers_in word
all_empty = λ k p i. go p i (ltb p party_limit) (ltb i register_count) refl refl k
  where
    at : (j : ℕ) → j < register_bytes → get_or (replicate register_bytes byte) j 0 ≡ byte
    at j l = get_or-replicate register_bytes j byte 0 l

    go : (p i : ℕ) (a c : Bool) → ltb p party_limit ≡ a → ltb i register_count ≡ c
        → cond (a && c) (get_or (replicate register_bytes byte) (register_at p i) 0 * 256 + get_or (replicate register_bytes byte) (register_at p i + 1) 0) empty_field ≡ empty_field
    go p i true true e d =
        let x = ltb-true p party_limit e in
        let y = ltb-true i register_count d in
        rw (at (register_at p i) (omega arith), at (register_at p i + 1) (omega arith)) refl
    go p i true false e d = refl
    go p i false c e d = refl

module _ (f : File) (registers : ℕ → ℕ → ℕ) (i r : ℕ) where
  pub devices_none : registers ≡ shown_by_devices f registers 0 i r
  unfolding shown_by_devices
  devices_none = λ k q j. go q j k
    where
      go : (q j : ℕ) → registers q j ≡ cond (ltb q 0 && is_role f device q && eqb j i) r (registers q j)
      go q j = rw (le-ltb q 0 (omega arith)) refl

  below_next : (q p : ℕ) → (q ≡ p → ⊥) → ltb q p ≡ ltb q (p + 1)
  below_next q p n = go (ltb q p) refl
    where
      go : (t : Bool) → ltb q p ≡ t → t ≡ ltb q (p + 1)
      go true e = let l = ltb-true q p e in sym (lt-ltb q (p + 1) (omega arith))
      go false e = let l = ltb-false q p e in sym (le-ltb q (p + 1) (omega arith))

  -- a device more
  pub devices_next : (p : ℕ) → is_role f device p ≡ true → shown_at (shown_by_devices f registers p i r) p i r ≡ shown_by_devices f registers (p + 1) i r
  unfolding shown_at shown_by_devices
  devices_next p d = λ k q j. go q j (eqb q p) refl k
    where
      same : (a b : Bool) (x y : ℕ) → cond (true && a) x (cond (b && true && a) x y) ≡ cond (true && true && a) x y
      same true b x y = refl
      same false true x y = refl
      same false false x y = refl

      go : (q j : ℕ) (t : Bool) → eqb q p ≡ t → cond (t && eqb j i) r (cond (ltb q p && is_role f device q && eqb j i) r (registers q j)) ≡ cond (ltb q (p + 1) && is_role f device q && eqb j i) r (registers q j)
      go q j true e = rw (eqb-true q p e, d, lt-ltb p (p + 1) (omega arith)) (same (eqb j i) (ltb p p) r (registers p j))
      go q j false e = rw (below_next q p (eqb-false q p e)) refl

  -- a party that is no device
  pub devices_skip : (p : ℕ) → is_role f device p ≡ false → shown_by_devices f registers p i r ≡ shown_by_devices f registers (p + 1) i r
  unfolding shown_by_devices
  devices_skip p d = λ k q j. go q j (eqb q p) refl k
    where
      none : (a b : Bool) (x y : ℕ) → cond (a && false && b) x y ≡ y
      none true b x y = refl
      none false b x y = refl

      go : (q j : ℕ) (t : Bool) → eqb q p ≡ t → cond (ltb q p && is_role f device q && eqb j i) r (registers q j) ≡ cond (ltb q (p + 1) && is_role f device q && eqb j i) r (registers q j)
      go q j true e = rw (eqb-true q p e, d) (none (ltb p p) (eqb j i) r (registers p j) ∙ sym (none (ltb p (p + 1)) (eqb j i) r (registers p j)))
      go q j false e = rw (below_next q p (eqb-false q p e)) refl

-- a party that is not declared is no device
undeclared : (f : File) (q : ℕ) → length f.roles ≤ q → is_role f device q ≡ false
unfolding is_role role_of
undeclared f q h = rw (get_or-eq_default f.roles role_count h) refl

module _ (f : File) where
  none_there : (b : Bool) → cond b empty_field empty_field ≡ empty_field
  none_there true = refl
  none_there false = refl

  start_none : (n : ℕ) → n ≡ length f.terms → (λ (p i : ℕ). empty_field) ≡ start_from f n
  unfolding start_from starting_at
  start_none n e = λ k p i. go p i k
    where
      go : (p i : ℕ) → empty_field ≡ cond (is_role f device p) (starting_at (drop n f.terms) i n) empty_field
      go p i = rw (e, drop-length f.terms) (sym (none_there (is_role f device p)))

  -- bytes of 255 alone, before the last term
  pub start_empty : (s : List ℕ) (n : ℕ) → s ≡ replicate register_bytes byte → n ≡ length f.terms → registers_in s ≡ start_from f n
  start_empty s n e q = ap registers_in e ∙ all_empty ∙ start_none n q

  pub start_all : start_from f 0 ≡ start_registers f
  unfolding start_from start_registers
  start_all = refl

  module _ (t : ℕ) (l : t < length f.terms) where
    first_term : drop t f.terms ≡ term f t ∷ drop (t + 1) f.terms
    unfolding term
    first_term = let e : t + 1 ≡ suc t = omega arith in rw e (drop-cons f.terms t (Hash 0) l)

    one_more : (i : ℕ) → starting_at (drop t f.terms) i t ≡ cond (eqb (kind f t) register_kind && eqb (register_of f t) i) t (starting_at (drop (t + 1) f.terms) i (t + 1))
    unfolding starting_at kind register_of field
    one_more i = let e : t + 1 ≡ suc t = omega arith in rw (first_term, e) refl

    pub start_skip : (kind f t ≡ register_kind → ⊥) → start_from f (t + 1) ≡ start_from f t
    unfolding start_from
    start_skip n = λ k p i. go p i k
      where
        go : (p i : ℕ) → cond (is_role f device p) (starting_at (drop (t + 1) f.terms) i (t + 1)) empty_field ≡ cond (is_role f device p) (starting_at (drop t f.terms) i t) empty_field
        go p i = rw (one_more i, ne_eqb (kind f t) register_kind n) refl

    pub start_next : kind f t ≡ register_kind → shown_by_devices f (start_from f (t + 1)) (length f.roles) (register_of f t) t ≡ start_from f t
    unfolding start_from shown_by_devices
    start_next e = λ k q j. go q j (ltb q (length f.roles)) refl k
      where
        same : (b c : Bool) (x y z : ℕ) → cond (true && b && c) x (cond b y z) ≡ cond b (cond c x y) z
        same true true x y z = refl
        same true false x y z = refl
        same false c x y z = refl

        flip : (i j : ℕ) → eqb j i ≡ eqb i j
        flip i j = flip_go (eqb i j) refl
          where
            flip_go : (b : Bool) → eqb i j ≡ b → eqb j i ≡ b
            flip_go true h = eq-eqb j i (sym (eqb-true i j h))
            flip_go false h = ne_eqb j i (λ d. eqb-false i j h (sym d))

        go : (q j : ℕ) (b : Bool) → ltb q (length f.roles) ≡ b
            → cond (b && is_role f device q && eqb j (register_of f t)) t (cond (is_role f device q) (starting_at (drop (t + 1) f.terms) j (t + 1)) empty_field)
            ≡ cond (is_role f device q) (starting_at (drop t f.terms) j t) empty_field
        go q j true h = rw (one_more j, eq-eqb (kind f t) register_kind e, flip (register_of f t) j) (same (is_role f device q) (eqb (register_of f t) j) t _ _)
        go q j false h = rw (undeclared f q (ltb-false q (length f.roles) h)) refl

pub ruleset devices = (devices_none, devices_next, devices_skip)
