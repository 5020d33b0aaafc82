-- A term record that enters: it is refused where a term of its kind and key was found, and else the index has it.
use Rattle.tables.specs.declared.columns.Tables.{Tables}
use mathlib.Core.Path.{◌≡◌, refl, sym, ◌∙◌, ap}
use mathlib.Core.Bool.{true, false}
use mathlib.Core.List.{List}
use Prim.Native.Nat.{ℕ, zero, suc, ◌+◌, ◌-◌, ◌<◌}
use native.Mathlib.Omega.{arith}
use lib.ListN.{set}
use Rattle.rules.specs.declared.Term.{Term}
use Rattle.rules.specs.Term.{public_key_kind, fields_in, alike}
use Rattle.rules.specs.Load.{term_at}
use Rattle.rules.specs.State.{put}
use Rattle.state.specs.View.{Columns, view, with_place}
use Rattle.records.specs.Keys.{key_of, words_of}
use Rattle.tables.specs.Columns.{one_more, Terms, TableColumns, tables_in, with_half, with_terms}
use Rattle.learning.specs.There.{term_there}
use Rattle.learning.specs.Noted.{Noted}
use Rattle.checks.specs.There.{kind_of_there, any_alike_there}
use Rattle.checks.proofs.Alike.{found as some_alike}
use Rattle.std.specs.Prelude.{None, Some}
use Rattle.index.specs.declared.Vacancy.{Vacancy}
use Rattle.index.specs.Tree.{link_count}
use Rattle.index.specs.Indexed.{key_there, key_noted, term_noted, same_by, Indexed, Vacant, EntersTerm}
use Rattle.index.proofs.Found.{at_most, put_same, put_other, found_most, same_agrees, vacant_same}
use Rattle.index.proofs.Noted.{key_noted_lem, noted_more}
use Rattle.index.proofs.Same.{not_true, same_kind, same_key}
use Rattle.index.proofs.There.{Bytes, Records, there_alike}
use Rattle.index.proofs.Growing.{way_inside}
use Rattle.index.proofs.Empty.{indexed_same}
use Rattle.index.proofs.More.{Halved, new_unlike, halved_none, halved_public, halved_private, indexed_more}

-- no term is alike
none_alike : (bs : List ℕ) (place : ℕ → ℕ) (x : Term) (n : ℕ) → ((t : ℕ) → t < n → alike x (term_there bs (place t)) ≡ false) → any_alike_there bs place x n ≡ false
unfolding any_alike_there
none_alike bs place x zero h = refl
none_alike bs place x (suc n) h = rw (h n (omega arith), none_alike bs place x n (λ t l. h t (omega arith))) refl

module _
    {bs s links : List ℕ} {tables : Tables} {body : List ℕ} {k at n key : ℕ} {words : List ℕ} (enters : EntersTerm bs s links tables body k at n) (bytes : Bytes bs)
    (own : words ≡ words_of (fields_in (term_at k body))) (key_is : key ≡ key_of words) where
  -- the places with the new term's
  abbrev places : ℕ → ℕ
  places = put (view s).place n at

  place_kept : (t : ℕ) → t < n → (view s).place t ≡ places t
  place_kept t l = sym (put_other (view s).place n at t (omega arith))

  place_new : places n ≡ at
  place_new = put_same (view s).place n at

  records : Records bs places (n + 1)
  records = at_most n
      (rw (place_new, ← enters.kind) enters.is_term)
      (λ t l. rw (← place_kept t l) (enters.there.whole t l).is_term)

  kind_new : k ≡ kind_of_there bs places n
  kind_new = rw place_new enters.kind

  words_new : words ≡ words_of (fields_in (term_there bs (places n)))
  words_new = rw (place_new, enters.stands) own

  key_new : key ≡ key_there bs places n
  unfolding key_there key_of
  key_new = key_is ∙ ap key_of words_new

  index_there : Indexed bs places links tables n
  index_there = indexed_same place_kept enters.indexed

  alike_new : (t : ℕ) → t < n → alike (term_there bs (places n)) (term_there bs (places t)) ≡ alike (term_at k body) (term_there bs ((view s).place t))
  alike_new t l = rw (place_new, ← place_kept t l, enters.stands) refl

  -- a term of the kind has the key
  pub refused : (t : ℕ) × (t < n) × (same_by (tables_in tables).terms.kind (key_noted (tables_in tables).terms) k key t ≡ true) → any_alike_there bs (view s).place (term_at k body) n ≡ true
  refused (t, l, h) =
      let e : same_by (kind_of_there bs places) (key_there bs places) (kind_of_there bs places n) (key_there bs places n) t ≡ true =
      rw (← kind_new, ← key_new) (sym (same_agrees index_there.noted.kinds (key_noted_lem index_there) k key t l) ∙ h) in
      some_alike bs (view s).place (term_at k body) t n l
      (sym (alike_new t l) ∙ there_alike bs bytes places records n t (omega arith) (omega arith) (sym (same_kind (kind_of_there bs places) (key_there bs places) _ _ t e)) (sym (same_key (kind_of_there bs places) (key_there bs places) _ _ t e)))

  module _ {v : Vacancy} (searched : Vacant (tables_in tables).terms.kind (key_noted (tables_in tables).terms) links k key n v) where
    vacant_there : Vacant (kind_of_there bs places) (key_there bs places) links (kind_of_there bs places n) (key_there bs places n) n v
    vacant_there = rw (← kind_new, ← key_new) (vacant_same index_there.noted.kinds (key_noted_lem index_there) searched)

    pub allowed : any_alike_there bs (view s).place (term_at k body) n ≡ false
    allowed =
        none_alike bs (view s).place (term_at k body) n
        (λ t l. not_true _ (λ e. new_unlike bytes index_there enters.room records vacant_there t l (alike_new t l ∙ e)))

    pub free_inside : v.at < link_count
    free_inside = omega (arith, way_inside enters.indexed.tree searched.free.way, enters.room)

    pub half_declared : {u : ℕ} → v.half ≡ Some u → u < n
    half_declared e = omega (arith, found_most searched.half, ap one_more e)

    -- what is noted of the terms with it
    abbrev terms_with : Terms
    terms_with = term_noted (tables_in tables).terms n k words

    terms_noted : Noted bs places terms_with (n + 1)
    terms_noted = noted_more index_there kind_new words_new

    module _ {links' : List ℕ} (noted : Tables) (tables' : Tables) {c : Columns} (ev : c ≡ with_place (view s) places) (el : links' ≡ set links v.at (n + 1)) (en : tables_in noted ≡ with_terms (tables_in tables) terms_with) where
      entered : (half' : ℕ → ℕ) → tables_in tables' ≡ with_half (with_terms (tables_in tables) terms_with) half' → Halved bs places half' (n + 1) → Indexed bs c.place links' tables' (n + 1)
      entered half' et h =
          rw (ap (λ (c : Columns). c.place) ev)
          (indexed_more bytes index_there enters.room records vacant_there half' terms_with el et terms_noted h)

      pub entered_none : v.half ≡ None → tables' ≡ noted → Indexed bs c.place links' tables' (n + 1)
      entered_none o et = entered (tables_in tables).half (ap tables_in et ∙ en) (halved_none bytes index_there enters.room records vacant_there (ap one_more o))

      -- a half is noted
      halved : (t x : ℕ) → tables_in tables' ≡ with_half (tables_in noted) (put (tables_in noted).half t x) → tables_in tables' ≡ with_half (with_terms (tables_in tables) terms_with) (put (tables_in tables).half t x)
      halved t x et = et ∙ ap (λ (y : TableColumns). with_half y (put y.half t x)) en

      module _ {u : ℕ} (o : v.half ≡ Some u) where
        pub entered_public : k ≡ public_key_kind → tables_in tables' ≡ with_half (tables_in noted) (put (tables_in noted).half n (u + 1)) → Indexed bs c.place links' tables' (n + 1)
        entered_public p et =
            entered (put (tables_in tables).half n (u + 1)) (halved n (u + 1) et)
            (rw (sym (ap one_more o)) (halved_public bytes index_there enters.room records vacant_there (λ z. omega (arith, z, ap one_more o)) (sym kind_new ∙ p)))

        pub entered_private : (k ≡ public_key_kind → ⊥) → tables_in tables' ≡ with_half (tables_in noted) (put (tables_in noted).half u (n + 1)) → Indexed bs c.place links' tables' (n + 1)
        entered_private d et =
            let e : u ≡ one_more v.half - 1 = omega (arith, ap one_more o) in
            entered (put (tables_in tables).half u (n + 1)) (halved u (n + 1) et)
            (rw e (halved_private bytes index_there enters.room records vacant_there (λ z. omega (arith, z, ap one_more o)) (λ q. d (kind_new ∙ q))))
