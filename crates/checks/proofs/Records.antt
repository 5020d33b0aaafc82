-- What is known of a term whose kind was tested, and of what a hash is of or a signature is over.
-- Assumes nothing.
use mathlib.Core.Path.{◌≡◌, refl, ◌∙◌}
use mathlib.Core.Bool.{Bool, true, false}
use mathlib.Core.Logic.{◌⊎◌, inl, inr}
use mathlib.Core.List.Memᴰ
use mathlib.Core.List.{[], ◌∷◌}
use Prim.Native.Nat.{ℕ, ◌<◌}
use native.Mathlib.Omega.{arith}
use lib.Dec.{eqb, ltb}
use borrow.Author.Tests.{ltb-true, eqb-true}
use Rattle.rules.specs.Limits.{term_limit}
use Rattle.rules.specs.Term.{hash_kind, signature_kind}
use Rattle.rules.specs.Load.{first, refuse_unless}
use Rattle.tables.specs.Columns.{Terms, field_of}
use Rattle.learning.specs.Noted.{parts_by, parts_noted, TermsNoted}
use Rattle.checks.specs.There.{kind_fault_noted}

passed_go : (a b : Bool) → 0 ≡ first (refuse_unless 7 a) (refuse_unless 8 b) → (a ≡ true) × (b ≡ true)
unfolding first refuse_unless
passed_go false b e = cc
passed_go true false e = cc
passed_go true true e = (refl, refl)

-- a declared term of a kind
pub kind_passed : (v : Terms) (terms k t : ℕ) → 0 ≡ kind_fault_noted v terms k t → (t < terms) × (v.kind t ≡ k)
kind_passed v terms k t e =
    let o = passed_go (ltb t terms) (eqb (v.kind t) k) e in
    (ltb-true t terms o.0, eqb-true (v.kind t) k o.1)

signature_parts : (v : Terms) (t : ℕ) → v.kind t ≡ signature_kind → parts_noted v t ≡ field_of v t 0 ∷ []
unfolding parts_noted parts_by
signature_parts v t e = rw e refl

content_lower : {v : Terms} {n k : ℕ} → TermsNoted v n → (t : ℕ) → t < n → v.kind t ≡ k → (k ≡ hash_kind) ⊎ (k ≡ signature_kind) → field_of v t 0 < t
content_lower h t l e (inl o) = h.hashed t l (e ∙ o)
content_lower {v} h t l e (inr o) = h.lower t _ l (rw (signature_parts v t (e ∙ o)) (Memᴰ.head refl))

-- what it is of can be looked up
pub content_few : {v : Terms} {n k : ℕ} (t : ℕ) → TermsNoted v n → 0 ≡ kind_fault_noted v n k t → (k ≡ hash_kind) ⊎ (k ≡ signature_kind) → field_of v t 0 < term_limit
content_few {v} {n} {k} t h e o =
    let p = kind_passed v n k t e in
    let l = content_lower h t p.0 p.1 o in
    omega (arith, h.few, l, p.0)
