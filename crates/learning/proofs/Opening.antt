-- Laws of learning: what a call of `learn_term` or `learn_parts` needs of it.
--     learn-known, learn-new      a known term: nothing. Another: the party knows it, then its parts
--     parts_none, -one, -two      learning the parts of a term, by the list of them
--     lower-one, lower-two        the parts are lower
--     ready-part, ready-after     the precondition at a part, and after a change of what is known
--     opened-same                 learning looks at the parts of the terms up to the one learnt alone
-- Assumes nothing.
use mathlib.Core.Bool.{true, false, cond}
use mathlib.Core.Path.{◌≡◌, refl, ap, subst⁻¹, ◌∙◌}
use mathlib.Core.List.{List, [], ◌∷◌, Memᴰ}
use Prim.Native.Nat.{ℕ, zero, suc, ◌<◌, ◌≤◌}
use native.Mathlib.Omega.{arith}
use native.Mathlib.Nat.{le_refl}
use lib.ListN.{length}
use Rattle.rules.specs.Learning.{Knowledge, grant, each, opened}
use Rattle.state.specs.View.{Columns, with_knows}
use Rattle.tables.specs.Columns.{Terms}
use Rattle.learning.specs.Noted.{parts_noted, learn_noted, learn_parts_noted, Ready}

-- the columns once party p knows t itself, and once it has learned t, or its parts
abbrev pub granted : ℕ → ℕ → Columns → Columns
granted p t v = with_knows v (grant v.knows p t)

abbrev pub learned : Terms → ℕ → ℕ → Columns → Columns
learned terms p t v = with_knows v (learn_noted terms p t v.knows)

abbrev pub learned_parts : Terms → ℕ → ℕ → Columns → Columns
learned_parts terms p t v = with_knows v (learn_parts_noted terms p t v.knows)

-- each part of a term up to t is lower
abbrev pub Lower : (ℕ → List ℕ) → ℕ → Type 0
Lower parts t = (u v : ℕ) → u ≤ t → Memᴰ v (parts u) → v < u

-- two ways to open that agree on some terms
each_same : (f g : ℕ → Knowledge → Knowledge) (us : List ℕ)
    → ((a : ℕ) → Memᴰ a us → (k : Knowledge) → f a k ≡ g a k)
    → (k : Knowledge) → each f us k ≡ each g us k
unfolding each
each_same f g [] h k = refl
each_same f g (u ∷ us) h k = ap (each f us) (h u (Memᴰ.head refl) k) ∙ each_same f g us (λ a m. h a (Memᴰ.tail m)) (g u k)

-- more depth than t changes nothing
deep : (parts : ℕ → List ℕ) (p n m t : ℕ) → t < n → t < m → Lower parts t → (k : Knowledge) → opened parts p n t k ≡ opened parts p m t k
unfolding opened
deep parts p zero m t i j low k = absurd (omega arith)
deep parts p (suc n) zero t i j low k = absurd (omega arith)
deep parts p (suc n) (suc m) t i j low k =
    ap (cond (k p t) k)
    (each_same (opened parts p n) (opened parts p m) (parts t)
    (λ a h. let l = low t a (le_refl t) h in deep parts p n m a (omega arith) (omega arith) (λ u v g. low u v (omega arith)))
    (grant k p t))

pub learn_known : (terms : Terms) (p t : ℕ) (v : Columns) → v.knows p t ≡ true → v ≡ learned terms p t v
unfolding learn_noted opened
learn_known terms p t v e = rw e

pub learn_new : (terms : Terms) (p t : ℕ) (v : Columns) {v₁ v₂ : Columns} → Lower (parts_noted terms) t → v.knows p t ≡ false
    → v₁ ≡ granted p t v → v₂ ≡ learned_parts terms p t v₁ → v₂ ≡ learned terms p t v
unfolding learn_noted learn_parts_noted opened
learn_new terms p t v low e g h =
    let parts : ℕ → List ℕ = parts_noted terms in
    rw (h, g, e)
    (ap (with_knows v)
    (each_same (λ a. opened parts p (suc a) a) (opened parts p t) (parts t)
    (λ a m. let l = low t a (le_refl t) m in deep parts p (suc a) t a (le_refl (suc a)) l (λ u w i. low u w (omega arith)))
    (grant v.knows p t)))

module _ (terms : Terms) (p t : ℕ) (v : Columns) where
  pub parts_none : parts_noted terms t ≡ [] → v ≡ learned_parts terms p t v
  unfolding learn_parts_noted each
  parts_none e = rw e

  pub parts_one : {a : ℕ} {v₁ : Columns} → parts_noted terms t ≡ a ∷ [] → v₁ ≡ learned terms p a v → v₁ ≡ learned_parts terms p t v
  unfolding learn_parts_noted each
  parts_one e g = rw (g, e)

  pub parts_two : {a b : ℕ} {v₁ v₂ : Columns} → parts_noted terms t ≡ a ∷ b ∷ [] → v₁ ≡ learned terms p a v → v₂ ≡ learned terms p b v₁ → v₂ ≡ learned_parts terms p t v
  unfolding learn_parts_noted each
  parts_two e g h = rw (h, g, e)

module _ {terms : Terms} {s : List ℕ} {p t : ℕ} (r : Ready terms s p t) where
  pub lower_one : {a : ℕ} → parts_noted terms t ≡ a ∷ [] → a < t
  lower_one {a} e = r.lower t a (le_refl t) (subst⁻¹ (Memᴰ a) e (Memᴰ.head refl))

  pub lower_two : {a b : ℕ} → parts_noted terms t ≡ a ∷ b ∷ [] → (a < t) × (b < t)
  lower_two {a} {b} e = (
    r.lower t a (le_refl t) (subst⁻¹ (Memᴰ a) e (Memᴰ.head refl)),
    r.lower t b (le_refl t) (subst⁻¹ (Memᴰ b) e (Memᴰ.tail (Memᴰ.head refl))),
  )

  pub ready_part : (a : ℕ) → a < t → Ready terms s p a
  ready_part a h = record {
    party = r.party;
    few = omega (arith, r.few);
    room = omega (arith, r.room);
    lower = λ u v i. r.lower u v (omega arith);
  }

  pub ready_after : {s' : List ℕ} → length s' ≡ length s → Ready terms s' p t
  ready_after e = record { party = r.party; few = r.few; room = omega (arith, r.room); lower = r.lower }

-- two ways to know the parts of the first m terms
module _ (ps qs : ℕ → List ℕ) (m : ℕ) (same : (u : ℕ) → u < m → ps u ≡ qs u) (low : (u v : ℕ) → u < m → Memᴰ v (ps u) → v < u) where
  pub opened_same : (p n t : ℕ) → t < m → (k : Knowledge) → opened ps p n t k ≡ opened qs p n t k
  unfolding opened
  opened_same p zero t h k = refl
  opened_same p (suc n) t h k =
      ap (cond (k p t) k)
      (each_same (opened ps p n) (opened qs p n) (ps t) (λ a i. opened_same p n a (omega (arith, low t a h i))) (grant k p t)
      ∙ ap (λ (us : List ℕ). each (opened qs p n) us (grant k p t)) (same t h))
