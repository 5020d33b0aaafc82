-- Whether a term is alike one of the first terms, one by one.
use mathlib.Core.Path.{◌≡◌, refl}
use mathlib.Core.Bool.{Bool, true, false, or-true}
use mathlib.Core.List.{List}
use Prim.Native.Nat.{ℕ, zero, suc, ◌<◌}
use native.Mathlib.Omega.{arith}
use lib.Dec.{eqb}
use borrow.Author.Tests.{eqb-true, eqb-false}
use Rattle.rules.specs.declared.Term.{Term}
use Rattle.rules.specs.Term.{alike}
use Rattle.learning.specs.There.{term_there}
use Rattle.checks.specs.There.{any_alike_there}

module _ (bs : List ℕ) (place : ℕ → ℕ) (x : Term) (t : ℕ) where
  pub found : (n : ℕ) → t < n → alike x (term_there bs (place t)) ≡ true → any_alike_there bs place x n ≡ true
  unfolding any_alike_there
  found zero h e = absurd (omega arith)
  found (suc n) h e = go (λ l. found n l e) (eqb t n) refl
    where
      go : (t < n → any_alike_there bs place x n ≡ true) → (b : Bool) → eqb t n ≡ b → any_alike_there bs place x (suc n) ≡ true
      go more true f = rw (← eqb-true t n f, e) refl
      go more false f =
          let m = eqb-false t n f in
          let l : t < n = omega arith in
          rw (more l) (or-true (alike x (term_there bs (place n))))
