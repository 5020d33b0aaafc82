-- Learning (document 01, "Terms"): "To learn a term is to know it and everything in it".
use Rattle.std.specs.Prelude.{Bool, cond, ◌&&◌, ◌||◌, List, [], ◌∷◌, ℕ, zero, suc, eqb}
use Rattle.rules.specs.File.{File, parts}

-- which party knows which term; and which party's TPM table has it
abbrev pub Knowledge : Type 0
Knowledge = ℕ → ℕ → Bool

-- the same, and party p knows t
unfoldable pub grant : Knowledge → ℕ → ℕ → Knowledge
grant known p t q u = (eqb q p && eqb u t) || known q u

-- what opening does to each of some terms, in order
unfoldable pub each : (ℕ → Knowledge → Knowledge) → List ℕ → Knowledge → Knowledge
each act [] known = known
each act (u ∷ us) known = each act us (act u known)

-- "opening a term opens its parts, and opening the parts opens each of them. A term already known needs no second opening."
-- The number bounds how deep the openings go: parts are lower terms.
unfoldable pub opened : (ℕ → List ℕ) → ℕ → ℕ → ℕ → Knowledge → Knowledge
opened parts p zero t known = known
opened parts p (suc n) t known =
    let more = each (opened parts p n) (parts t) (grant known p t) in
    cond (known p t) known more

-- party p learns t
unfoldable pub learn : File → ℕ → ℕ → Knowledge → Knowledge
learn f p t known = opened (parts f) p (suc t) t known
