-- Terms in the bytes of a file: alike, and pairs of keys, by their kinds and keys.
use mathlib.Core.Path.{◌≡◌, refl, sym, ◌∙◌}
use mathlib.Core.Bool.{Bool, true, false}
use mathlib.Core.List.{List}
use Prim.Native.Nat.{ℕ, ◌+◌, ◌<◌}
use native.Mathlib.Omega.{arith}
use lib.Dec.{ltb}
use lib.ListN.{get_or, take, drop, length-take, get_or-eq_default}
use lib.Seq.{get_or-take, get_or-drop}
use borrow.Author.Tests.{ltb-true, ltb-false}
use Rattle.rules.specs.Term.{public_key_kind, private_key_kind, kind_of, alike}
use Rattle.rules.specs.Record.{section_of, body_length, term_section}
use Rattle.records.specs.Keys.{Small}
use Rattle.records.proofs.Keys.{same_key, fields_small, alike_key, term_kind}
use Rattle.learning.specs.There.{kind_there, term_there}
use Rattle.checks.specs.There.{kind_of_there}
use Rattle.index.specs.Indexed.{key_there, pair_there}
use Rattle.index.proofs.Pairs.{key_pair_lem, pair_public, pair_private, pair_key}

-- the bytes of a file
abbrev pub Bytes : List ℕ → Type 0
Bytes bs = (i : ℕ) → get_or bs i 0 < 256

part_bytes : (bs : List ℕ) → Bytes bs → (m j : ℕ) → Bytes (take m (drop j bs))
part_bytes bs h m j i = go (ltb i m) refl
  where
    go : (b : Bool) → ltb i m ≡ b → get_or (take m (drop j bs)) i 0 < 256
    go true e = rw (get_or-take m (drop j bs) i 0 (ltb-true i m e), get_or-drop) (h (j + i))
    go false e =
        let l = ltb-false i m e in
        rw (get_or-eq_default (take m (drop j bs)) 0 {n = i} (omega (arith, length-take m (drop j bs)))) (omega arith)

-- the records of the first n terms are term records
abbrev pub Records : List ℕ → (ℕ → ℕ) → ℕ → Type 0
Records bs place n = (t : ℕ) → t < n → section_of (kind_of_there bs place t) ≡ term_section

module _ (bs : List ℕ) (bytes : Bytes bs) (place : ℕ → ℕ) where
  small : (t : ℕ) → Small (term_there bs (place t))
  unfolding term_there
  small t = fields_small _ _ (part_bytes bs bytes (body_length (kind_there bs (place t))) (place t + 1))

  module _ {n : ℕ} (records : Records bs place n) (t u : ℕ) (l : t < n) (m : u < n) where
    kind_of_lem : (v : ℕ) → v < n → kind_of (term_there bs (place v)) ≡ kind_of_there bs place v
    unfolding term_there
    kind_of_lem v k = term_kind _ _ (records v k)

    pub alike_there : alike (term_there bs (place t)) (term_there bs (place u)) ≡ true → (kind_of_there bs place t ≡ kind_of_there bs place u) × (key_there bs place t ≡ key_there bs place u)
    unfolding key_there
    alike_there e = let h = alike_key _ _ e in (sym (kind_of_lem t l) ∙ h.0 ∙ kind_of_lem u m, h.1)

    pub there_alike : kind_of_there bs place t ≡ kind_of_there bs place u → key_there bs place t ≡ key_there bs place u → alike (term_there bs (place t)) (term_there bs (place u)) ≡ true
    unfolding key_there
    there_alike a b = same_key _ _ (small t) (small u) (kind_of_lem t l ∙ a ∙ sym (kind_of_lem u m)) b

    pub pair_there_lem : pair_there bs place t u ≡ true → (kind_of_there bs place t ≡ public_key_kind) × (kind_of_there bs place u ≡ private_key_kind) × (key_there bs place t ≡ key_there bs place u)
    unfolding key_there
    pair_there_lem e = (sym (kind_of_lem t l) ∙ pair_public _ _ e, sym (kind_of_lem u m) ∙ pair_private _ _ e, pair_key _ _ e)

    pub there_pair : kind_of_there bs place t ≡ public_key_kind → kind_of_there bs place u ≡ private_key_kind → key_there bs place t ≡ key_there bs place u → pair_there bs place t u ≡ true
    unfolding key_there
    there_pair a b e = key_pair_lem _ _ (kind_of_lem t l ∙ a) (kind_of_lem u m ∙ b) (small t) (small u) e
