-- Laws of the calls above Run (`specs/AskLaws.antt`), proved.
--     refused-first, asked-after, left-as-run     the laws
--     asked-loaded                                what is answered of a file that loads
-- Assumes nothing.
use mathlib.Core.Path.{◌≡◌, refl, sym, ap}
use mathlib.Core.Bool.{Bool, true, false, cond}
use mathlib.Core.List.{List, [], ◌∷◌}
use Prim.Native.Nat.{ℕ}
use native.Mathlib.Omega.{arith}
use lib.ListN.{length}
use Rattle.rules.specs.declared.Question.TheVariants.{Totals, Stock}
use Rattle.rules.specs.File.{File}
use Rattle.rules.specs.Load.{Load, loaded, refused, load}
use Rattle.rules.specs.State.{State}
use Rattle.rules.specs.Run.{reached}
use Rattle.rules.specs.Lent.{Answer, success, refusal, Lent, long_enough, answered, run_answer, asked, ask_answer}
use Rattle.rules.specs.Stock.{stock_leaves}
use Rattle.rules.specs.Questions.{count_of, leaves_of}
use Rattle.theorems.specs.AskLaws.{RefusedFirst, AskedAfter, LeftAsRun, AskLaws}

-- an answer with values is no refusal
no_values : {x : ℕ} {xs : List ℕ} (number place : ℕ) → success (x ∷ xs) ≡ refusal number place → ⊥
no_values {x} {xs} number place e = let z : length (x ∷ xs) ≡ 0 = ap (λ (a : Answer). length a.values) e in omega arith

module _ (question : File → State → Answer) (n : ℕ) where
  refused_by : (l : Load) (number place : ℕ) → answered n l ≡ refusal number place → asked question n l ≡ refusal number place
  unfolding answered asked
  refused_by (loaded f) number place e = absurd (no_values number place e)
  refused_by (refused m at) number place e = e

  totals_by : (l : Load) (a r i : ℕ) → answered n l ≡ success (a ∷ r ∷ i ∷ []) → (f : File) × (l ≡ loaded f) × (asked question n l ≡ question f (reached f n))
  unfolding answered asked
  totals_by (loaded f) a r i e = (f, refl, refl)
  totals_by (refused m at) a r i e = absurd (no_values m at (sym e))

  module _ (bytes : List ℕ) (lent : Lent) where
    refused_long : (b : Bool) (number place : ℕ) → cond b (answered n (load bytes)) (refusal 1 0) ≡ refusal number place → cond b (asked question n (load bytes)) (refusal 1 0) ≡ refusal number place
    refused_long true number place e = refused_by (load bytes) number place e
    refused_long false number place e = e

    totals_long : (b : Bool) (a r i : ℕ) → cond b (answered n (load bytes)) (refusal 1 0) ≡ success (a ∷ r ∷ i ∷ [])
        → (f : File) × (load bytes ≡ loaded f) × (cond b (asked question n (load bytes)) (refusal 1 0) ≡ question f (reached f n))
    totals_long true a r i e = totals_by (load bytes) a r i e
    totals_long false a r i e = absurd (no_values 1 0 (sym e))

    pub asked_loaded : long_enough lent ≡ true → (f : File) → load bytes ≡ loaded f → ask_answer question bytes n lent ≡ question f (reached f n)
    unfolding ask_answer asked
    asked_loaded e f l = rw (e, l) refl

pub refused_first_lem : RefusedFirst
unfolding run_answer ask_answer
refused_first_lem question bytes n lent number place e = refused_long question n bytes lent (long_enough lent) number place e

pub asked_after_lem : AskedAfter
unfolding run_answer ask_answer
asked_after_lem question bytes n lent a r i e = totals_long question n bytes lent (long_enough lent) a r i e

pub left_as_run_lem : LeftAsRun
unfolding count_of leaves_of stock_leaves
left_as_run_lem (Totals n) bytes lent = refl
left_as_run_lem (Stock party iaks) bytes lent = refl

pub ask_laws : AskLaws
ask_laws = record { refused_first = refused_first_lem; asked_after = asked_after_lem; left_as_run = left_as_run_lem }
