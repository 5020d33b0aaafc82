-- The index with one term more, of which no term of the same kind and key was found.
use Rattle.tables.specs.declared.columns.Tables.{Tables}
use mathlib.Core.Path.{◌≡◌, refl, sym, ◌∙◌, ap, subst, subst⁻¹}
use mathlib.Core.Bool.{Bool, true, false, false≢true}
use mathlib.Core.List.{List}
use Prim.Native.Nat.{ℕ, ◌+◌, ◌-◌, ◌<◌, ◌≤◌}
use native.Mathlib.Omega.{arith}
use lib.Dec.{eqb}
use lib.ListN.{set}
use borrow.Author.Tests.{eqb-true, eqb-false, ne_eqb}
use Rattle.rules.specs.Limits.{term_limit}
use Rattle.rules.specs.Term.{public_key_kind, private_key_kind, alike}
use Rattle.rules.specs.State.{put}
use Rattle.tables.specs.Columns.{one_more, Unlinked, Terms, TableColumns, tables_in, with_half, with_terms}
use Rattle.learning.specs.There.{term_there}
use Rattle.learning.specs.Noted.{Noted}
use Rattle.checks.specs.There.{kind_of_there}
use Rattle.std.specs.Prelude.{None, Some}
use Rattle.index.specs.declared.Vacancy.{Vacancy}
use Rattle.index.specs.Tree.{Found}
use Rattle.index.specs.Indexed.{key_there, half_by, pair_there, other_half, Halves, Unlike, Indexed, Vacant}
use Rattle.index.proofs.Found.{at_most, put_same, put_other, found_more}
use Rattle.index.proofs.Same.{not_true, same_true, half_true, half_kind, half_key}
use Rattle.index.proofs.There.{Bytes, Records, alike_there, there_alike, pair_there_lem, there_pair}
use Rattle.index.proofs.Growing.{grown_tree, grown_met, still_met}

-- the kind of the other half
half_of_public : other_half public_key_kind ≡ Some private_key_kind
unfolding other_half
half_of_public = refl

half_of_private : other_half private_key_kind ≡ Some public_key_kind
unfolding other_half
half_of_private = refl

half_of_none : (k : ℕ) → (k ≡ public_key_kind → ⊥) → (k ≡ private_key_kind → ⊥) → other_half k ≡ None
unfolding other_half
half_of_none k d e = rw (ne_eqb k public_key_kind d, ne_eqb k private_key_kind e)

some_same : {a b : ℕ} → Some a ≡ Some b → a ≡ b
some_same e = cc

-- the private halves of the first n terms, and none after them
pub record Halved (bs : List ℕ) (place : ℕ → ℕ) (half : ℕ → ℕ) (n : ℕ) : Type 0 where
  pub halves : Halves bs place half n
  pub unpaired : (t : ℕ) → n ≤ t → half t ≡ 0

module _ {bs : List ℕ} (bytes : Bytes bs) {place : ℕ → ℕ} {links : List ℕ} {tables : Tables} {n : ℕ} (i : Indexed bs place links tables n) (few : n < term_limit) (records : Records bs place (n + 1)) where
  abbrev kind : ℕ → ℕ
  kind = kind_of_there bs place

  abbrev key : ℕ → ℕ
  key = key_there bs place

  module _ {v : Vacancy} (f : Vacant kind key links (kind n) (key n) n v) where
    -- none of the first n is of the new term's kind and key
    apart : (t : ℕ) → t < n → kind t ≡ kind n → key t ≡ key n → ⊥
    apart t l a b = false≢true (sym (f.none t l) ∙ same_true kind key _ _ t a b)

    unlike_new : (t : ℕ) → t < n → alike (term_there bs (place t)) (term_there bs (place n)) ≡ true → ⊥
    unlike_new t l e = let h = alike_there bs bytes place records t n (omega arith) (omega arith) e in apart t l h.0 h.1

    pub new_unlike : (t : ℕ) → t < n → alike (term_there bs (place n)) (term_there bs (place t)) ≡ true → ⊥
    new_unlike t l e = let h = alike_there bs bytes place records n t (omega arith) (omega arith) e in apart t l (sym h.0) (sym h.1)

    unlike_more : Unlike bs place (n + 1)
    unlike_more t u l m =
        at_most {P = λ v. alike (term_there bs (place v)) (term_there bs (place u)) ≡ true → v ≡ u} n
        (at_most {P = λ v. alike (term_there bs (place n)) (term_there bs (place v)) ≡ true → n ≡ v} n (λ _. refl) (λ v k e. absurd (new_unlike v k e)) u m)
        (λ w j. at_most {P = λ v. alike (term_there bs (place w)) (term_there bs (place v)) ≡ true → w ≡ v} n (λ e. absurd (unlike_new w j e)) (λ v k. i.unlike w v j k) u m)
        t l

    abbrev half : ℕ → ℕ
    half = (tables_in tables).half

    abbrev found : ℕ
    found = one_more v.half

    -- the new term is not the half of t
    no_half : (t : ℕ) → t < n → (kind t ≡ public_key_kind → kind n ≡ private_key_kind → key t ≡ key n → ⊥) → pair_there bs place t n ≡ false
    no_half t l d = not_true _ (λ e. let h = pair_there_lem bs bytes place records t n (omega arith) (omega arith) e in d h.0 h.1 h.2)

    -- t is not the half of the new term
    no_key_lem : (t : ℕ) → t < n + 1 → (kind n ≡ public_key_kind → kind t ≡ private_key_kind → key n ≡ key t → ⊥) → pair_there bs place n t ≡ false
    no_key_lem t l d = not_true _ (λ e. let h = pair_there_lem bs bytes place records n t (omega arith) l e in d h.0 h.1 h.2)

    -- the first n have no other half of it
    pub halved_none : found ≡ 0 → Halved bs place half (n + 1)
    halved_none z = record {
      halves = at_most n
          (rw (i.unpaired n (omega arith)) (record {
            one = λ t q. absurd (omega arith);
            none = λ _. at_most n (no_key_lem n (omega arith) (λ p q _. omega arith)) (λ t l. no_key_lem t (omega arith) (λ p q e. alone t l (ap other_half p ∙ half_of_public ∙ ap Some (sym q)) (sym e)));
          }))
          (λ t l. found_more (i.halves t l) (no_half t l (λ p q e. alone t l (ap other_half q ∙ half_of_private ∙ ap Some (sym p)) e)));
      unpaired = λ t l. i.unpaired t (omega arith);
    }
      where
        alone : (t : ℕ) → t < n → other_half (kind n) ≡ Some (kind t) → key t ≡ key n → ⊥
        alone t l a b = false≢true (sym (f.half.none z t l) ∙ half_true kind key _ _ t a b)

    -- they have the private half of a public key
    pub halved_public : (found ≡ 0 → ⊥) → kind n ≡ public_key_kind → Halved bs place (put half n found) (n + 1)
    halved_public z p = record {
      halves = at_most n
          (rw (put_same half n found) (record {
            one = λ t q.
                let w = f.half.one t q in
                let a : kind t ≡ private_key_kind = some_same (sym (half_kind kind key _ _ t w.1) ∙ ap other_half p ∙ half_of_public) in
                (omega arith, there_pair bs bytes place records n t (omega arith) (omega arith) p a (sym (half_key kind key _ _ t w.1)));
            none = λ q. absurd (z q);
          }))
          (λ t l. rw (put_other half n found t (omega arith)) (found_more (i.halves t l) (no_half t l (λ _ q _. omega arith))));
      unpaired = λ t l. put_other half n found t (omega arith) ∙ i.unpaired t (omega arith);
    }

    -- they have the public half u of a private key
    module _ (z : found ≡ 0 → ⊥) (d : kind n ≡ public_key_kind → ⊥) where
      abbrev u : ℕ
      u = found - 1

      found_u : (u < n) × (half_by kind key (other_half (kind n)) (key n) u ≡ true)
      found_u = f.half.one u (omega arith)

      is_private : kind n ≡ private_key_kind
      is_private = go (eqb (kind n) private_key_kind) refl
        where
          go : (b : Bool) → eqb (kind n) private_key_kind ≡ b → kind n ≡ private_key_kind
          go true e = eqb-true _ _ e
          go false e =
              let q : Some (kind u) ≡ None = sym (half_kind kind key _ _ u found_u.1) ∙ half_of_none (kind n) d (eqb-false _ _ e) in
              absurd (let z : ◌≡◌ {A = ℕ} 0 1 = cc in omega arith)

      u_public : kind u ≡ public_key_kind
      u_public = some_same (sym (half_kind kind key _ _ u found_u.1) ∙ ap other_half is_private ∙ half_of_private)

      u_key : key u ≡ key n
      u_key = half_key kind key _ _ u found_u.1

      sole : (t : ℕ) → t < n → kind t ≡ public_key_kind → key t ≡ key n → t ≡ u
      sole t l a b =
          let m = found_u.0 in
          i.unlike t u l m (there_alike bs bytes place records t u (omega arith) (omega arith) (a ∙ sym u_public) (b ∙ sym u_key))

      noted : Found (pair_there bs place u) (n + 1) (n + 1)
      noted = record {
        one = λ t q.
            let e : n ≡ t = omega arith in
            let m = found_u.0 in
            subst (λ (v : ℕ). (v < n + 1) × (pair_there bs place u v ≡ true)) e
            (omega arith, there_pair bs bytes place records u n (omega arith) (omega arith) u_public is_private u_key);
        none = λ q. absurd (omega arith);
      }

      each : (t : ℕ) → t < n → (b : Bool) → eqb t u ≡ b → Found (pair_there bs place t) (n + 1) (put half u (n + 1) t)
      each t l true e = rw (eqb-true t u e, put_same half u (n + 1)) noted
      each t l false e =
          rw (put_other half u (n + 1) t (eqb-false t u e))
          (found_more (i.halves t l) (no_half t l (λ a _ b. eqb-false t u e (sole t l a b))))

      pub halved_private : Halved bs place (put half u (n + 1)) (n + 1)
      halved_private = record {
        halves = at_most n
            (rw (put_other half u (n + 1) n (let m = found_u.0 in omega arith), i.unpaired n (omega arith)) (record {
              one = λ t q. absurd (omega arith);
              none = λ _ t l. no_key_lem t l (λ p _ _. d p);
            }))
            (λ t l. each t l (eqb t u) refl);
        unpaired = λ t l. put_other half u (n + 1) t (let m = found_u.0 in omega arith) ∙ i.unpaired t (omega arith);
      }

    -- its kind, its words and its halves are noted, and it stands at the free entry
    pub indexed_more :
        {links' : List ℕ} {tables' : Tables} (half' : ℕ → ℕ) (terms' : Terms) → links' ≡ set links v.at (n + 1) → tables_in tables' ≡ with_half (with_terms (tables_in tables) terms') half'
        → Noted bs place terms' (n + 1) → Halved bs place half' (n + 1) → Indexed bs place links' tables' (n + 1)
    indexed_more {links'} {tables'} half' terms' el et w h =
        let g = f.free in
        let eh : (tables_in tables').half ≡ half' = ap (λ (v : TableColumns). v.half) et in
        let ew : (tables_in tables').terms ≡ terms' = ap (λ (v : TableColumns). v.terms) et in
        rw el (record {
          tree = grown_tree i.tree few g;
          noted = subst⁻¹ (λ (v : Terms). Noted bs place v (n + 1)) ew w;
          met = at_most n (grown_met i.tree few g) (λ t l. still_met i.tree few g (key t) (i.met t l));
          unlike = unlike_more;
          halves = subst⁻¹ (λ (x : ℕ → ℕ). Halves bs place x (n + 1)) eh h.halves;
          unpaired = λ t l. ap (λ (x : ℕ → ℕ). x t) eh ∙ h.unpaired t l;
          unlisted = λ t. ap (λ (v : TableColumns). v.entry t) et ∙ i.unlisted t;
          shallow = λ t. ap (λ (v : TableColumns). v.depth t) et ∙ i.shallow t;
          unlinked = subst⁻¹ Unlinked (ap (λ (v : TableColumns). v.boards) et) i.unlinked;
        })
