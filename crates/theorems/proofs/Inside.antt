-- What lies inside a term, by its parts.
-- Assumes nothing.
use mathlib.Core.Path.{◌≡◌, refl, subst, subst⁻¹}
use mathlib.Core.Logic.{◌⊎◌, inl, inr, ⊎_elim}
use mathlib.Core.List.Memᴰ
use mathlib.Core.List.{List, [], ◌∷◌, Memᴰ}
use Prim.Native.Nat.{ℕ}
use Rattle.rules.specs.File.{File, parts}
use Rattle.theorems.specs.Residency.{Inside, itself, in_part}

inside_cases : {f : File} {t u : ℕ} → Inside f t u → (u ≡ t) ⊎ ((v : ℕ) × (Memᴰ v (parts f t)) × Inside f v u)
inside_cases itself = inl refl
inside_cases (in_part {u = v} m i) = inr (v, m, i)

module _ (f : File) (t u : ℕ) where
  pub inside_none : parts f t ≡ [] → Inside f t u → u ≡ t
  inside_none e i = ⊎_elim (λ h. h) (λ w. absurd (Memᴰ.not-nil (subst (Memᴰ w.0) e w.1))) (inside_cases i)

  pub inside_one : (a : ℕ) → parts f t ≡ a ∷ [] → Inside f t u → (u ≡ t) ⊎ Inside f a u
  inside_one a e i =
      ⊎_elim inl
      (λ w. ⊎_elim (λ h. inr (subst (λ (v : ℕ). Inside f v u) h w.2)) (λ m. absurd (Memᴰ.not-nil m)) (Memᴰ.cases_cons (subst (Memᴰ w.0) e w.1)))
      (inside_cases i)

  pub inside_two : (a b : ℕ) → parts f t ≡ a ∷ b ∷ [] → Inside f t u → (u ≡ t) ⊎ (Inside f a u ⊎ Inside f b u)
  inside_two a b e i =
      ⊎_elim inl
      (λ w. ⊎_elim (λ h. inr (inl (subst (λ (v : ℕ). Inside f v u) h w.2)))
      (λ m. ⊎_elim (λ h. inr (inr (subst (λ (v : ℕ). Inside f v u) h w.2))) (λ m. absurd (Memᴰ.not-nil m)) (Memᴰ.cases_cons m))
      (Memᴰ.cases_cons (subst (Memᴰ w.0) e w.1)))
      (inside_cases i)

-- a part, from the list of parts
pub first_part_lem : (f : File) (t a : ℕ) (more : List ℕ) → parts f t ≡ a ∷ more → Memᴰ a (parts f t)
first_part_lem f t a more e = subst⁻¹ (Memᴰ a) e (Memᴰ.head refl)

pub second_part : (f : File) (t a b : ℕ) (more : List ℕ) → parts f t ≡ a ∷ b ∷ more → Memᴰ b (parts f t)
second_part f t a b more e = subst⁻¹ (Memᴰ b) e (Memᴰ.tail (Memᴰ.head refl))
