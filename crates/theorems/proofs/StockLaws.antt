-- Laws of the stock of numbers (`specs/StockLaws.antt`), proved.
-- Assumes nothing.
use mathlib.Core.Path.{◌≡◌, refl, sym, ap, ◌∙◌}
use mathlib.Core.Logic.{◌⊎◌, inl, inr}
use mathlib.Core.Bool.{Bool, true, false, cond, not, ◌&&◌}
use mathlib.Core.List.{[], ◌∷◌}
use Prim.Native.Nat.{ℕ, zero, suc, ◌+◌, ◌*◌, ◌/◌, ◌%◌, ◌<◌, ◌≤◌}
use native.Mathlib.Omega.{arith}
use native.Mathlib.Nat.{mod-lt, div-add-mod'}
use lib.Dec.{eqb}
use lib.ListN.{length, get_or, get_or-eq_default}
use lib.Arith.{digits_div, digits_mod}
use borrow.Author.Tests.{eq-eqb, ne_eqb, eqb-true, eqb-false}
use Rattle.rules.specs.Limits.{oem_desk, party_limit, role_count}
use Rattle.rules.specs.Refusals.{need, applies, first_of, refusal_of}
use Rattle.rules.specs.Term.{number_kind}
use Rattle.rules.specs.File.{File, role_of, is_role, is_kind}
use Rattle.rules.specs.State.{State, number_used}
use Rattle.rules.specs.Desk.{knowers, number_tests}
use Rattle.rules.specs.Lent.{Answer, success, refusal}
use Rattle.rules.specs.Stock.{in_stock, stock_among, stock, boards_left}
use Rattle.theorems.proofs.StockFalls.{stock_falls_lem}
use Rattle.theorems.specs.StockLaws.{Divided, BoardsDivide, BoardsOnly, Refused39, Undeclared39, InStockFresh, StockFew, StockLaws}

-- a refusal has no values, an answer two
answer_or_refusal : (boards rest number place : ℕ) → success (boards ∷ rest ∷ []) ≡ refusal number place → ⊥
answer_or_refusal boards rest number place e = let z : ◌≡◌ {A = ℕ} 2 0 = ap (λ (a : Answer). length a.values) e in omega arith

-- the two numbers that divide a number are its quotient and what is left of it
divided : (n iaks : ℕ) → (iaks ≡ 0 → ⊥) → Divided n iaks (n / iaks) (n % iaks)
divided n iaks h = let l : 0 < iaks = omega arith in (sym (div-add-mod' n iaks), mod-lt n l)

divided_only : {n iaks boards rest : ℕ} → Divided n iaks boards rest → (n / iaks ≡ boards) × (n % iaks ≡ rest)
divided_only {n} {iaks} {boards} {rest} (e, l) = (ap (λ (m : ℕ). m / iaks) e ∙ digits_div boards l, ap (λ (m : ℕ). m % iaks) e ∙ digits_mod boards l)

module _ (f : File) (s : State) (party iaks : ℕ) where
  abbrev answer : Answer
  answer = success (stock f s party / iaks ∷ stock f s party % iaks ∷ [])

  by_tests : (a b : Bool) → is_role f oem_desk party ≡ a → eqb iaks 0 ≡ b → boards_left party iaks f s ≡ cond (a && not b) answer (refusal 39 0)
  unfolding boards_left
  by_tests a b e q = rw (e, q) refl

  divide : (boards rest : ℕ) → boards_left party iaks f s ≡ success (boards ∷ rest ∷ []) → Divided (stock f s party) iaks boards rest
  divide boards rest e = go (is_role f oem_desk party) (eqb iaks 0) refl refl
    where
      go : (a b : Bool) → is_role f oem_desk party ≡ a → eqb iaks 0 ≡ b → Divided (stock f s party) iaks boards rest
      go true false r k =
          let w : answer ≡ success (boards ∷ rest ∷ []) = sym (by_tests true false r k) ∙ e in
          let d = divided (stock f s party) iaks (eqb-false iaks 0 k) in
          let x : stock f s party / iaks ≡ boards = ap (λ (a : Answer). get_or a.values 0 0) w in
          let y : stock f s party % iaks ≡ rest = ap (λ (a : Answer). get_or a.values 1 0) w in
          (d.0 ∙ ap (λ (m : ℕ). m * iaks + stock f s party % iaks) x ∙ ap (λ (m : ℕ). boards * iaks + m) y, omega (arith, y, d.1))
      go true true r k = absurd (answer_or_refusal boards rest 39 0 (sym e ∙ by_tests true true r k))
      go false b r k = absurd (answer_or_refusal boards rest 39 0 (sym e ∙ by_tests false b r k))

  only : (boards rest : ℕ) → is_role f oem_desk party ≡ true → Divided (stock f s party) iaks boards rest → boards_left party iaks f s ≡ success (boards ∷ rest ∷ [])
  only boards rest r d =
      let w = divided_only d in
      let h : iaks ≡ 0 → ⊥ = λ e. omega (arith, e, d.1) in
      by_tests true false r (ne_eqb iaks 0 h) ∙ (λ i. success (w.0 i ∷ w.1 i ∷ []))

  refused : (number place : ℕ) → boards_left party iaks f s ≡ refusal number place → (number ≡ 39) × (place ≡ 0) × ((is_role f oem_desk party ≡ false) ⊎ (iaks ≡ 0))
  refused number place e = go (is_role f oem_desk party) (eqb iaks 0) refl refl
    where
      is_39 : refusal 39 0 ≡ refusal number place → (is_role f oem_desk party ≡ false) ⊎ (iaks ≡ 0) → (number ≡ 39) × (place ≡ 0) × ((is_role f oem_desk party ≡ false) ⊎ (iaks ≡ 0))
      is_39 w why = (sym (ap (λ (a : Answer). a.number) w), sym (ap (λ (a : Answer). a.place) w), why)

      go : (a b : Bool) → is_role f oem_desk party ≡ a → eqb iaks 0 ≡ b → (number ≡ 39) × (place ≡ 0) × ((is_role f oem_desk party ≡ false) ⊎ (iaks ≡ 0))
      go true false r k = absurd (answer_or_refusal _ _ number place (sym (by_tests true false r k) ∙ e))
      go true true r k = is_39 (sym (by_tests true true r k) ∙ e) (inr (eqb-true iaks 0 k))
      go false b r k = is_39 (sym (by_tests false b r k) ∙ e) (inl r)

  refuses : (is_role f oem_desk party ≡ false) ⊎ (iaks ≡ 0) → boards_left party iaks f s ≡ refusal 39 0
  refuses (inl r) = by_tests false (eqb iaks 0) r refl
  refuses (inr z) = go (is_role f oem_desk party) refl
    where
      go : (a : Bool) → is_role f oem_desk party ≡ a → boards_left party iaks f s ≡ refusal 39 0
      go true r = by_tests true true r (eq-eqb iaks 0 z)
      go false r = by_tests false true r (eq-eqb iaks 0 z)

  undeclared : length f.roles ≤ party → is_role f oem_desk party ≡ false
  unfolding is_role role_of
  undeclared h = ap (λ (x : ℕ). eqb x oem_desk) (get_or-eq_default f.roles role_count h)

-- the tests of a number, as booleans
fresh_is : (kind known one unused : Bool) → (kind && known && one && unused) ≡ (kind && eqb (refusal_of (need 24 known ∷ need 24 one ∷ need 24 unused ∷ [])) 0)
unfolding refusal_of first_of applies
fresh_is false known one unused = refl
fresh_is true false one unused = refl
fresh_is true true false unused = refl
fresh_is true true true false = refl
fresh_is true true true true = refl

few_among : (f : File) (s : State) (desk n : ℕ) → stock_among f s desk n ≤ n
unfolding stock_among
few_among f s desk zero = omega arith
few_among f s desk (suc n) = go (in_stock f s desk n) (few_among f s desk n)
  where
    go : (x : Bool) → stock_among f s desk n ≤ n → stock_among f s desk n + cond x 1 0 ≤ suc n
    go true h = omega arith
    go false h = omega arith

pub boards_divide_lem : BoardsDivide
boards_divide_lem = divide

pub boards_only_lem : BoardsOnly
boards_only_lem = only

pub refused_39 : Refused39
refused_39 f s party iaks = (refused f s party iaks, refuses f s party iaks)

pub undeclared_39 : Undeclared39
undeclared_39 f s party iaks h = refuses f s party iaks (inl (undeclared f s party iaks h))

pub in_stock_fresh_lem : InStockFresh
unfolding in_stock number_tests
in_stock_fresh_lem f s desk t = fresh_is (is_kind f number_kind t) (s.knows desk t) (eqb (knowers s.knows t party_limit) 1) (not (eqb (s.mark t) number_used))

pub stock_few_lem : StockFew
unfolding stock
stock_few_lem f s desk = few_among f s desk (length f.terms)

pub stock_laws : StockLaws
stock_laws = record {
  boards_divide = boards_divide_lem;
  boards_only = boards_only_lem;
  refused39 = refused_39;
  undeclared39 = undeclared_39;
  in_stock_fresh = in_stock_fresh_lem;
  stock_few = stock_few_lem;
  stock_falls = stock_falls_lem;
}
