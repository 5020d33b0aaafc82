use mathlib.Core.Path.{◌≡◌, refl, sym, ap, ◌∙◌}
use Prim.Native.Nat.{ℕ, zero, suc, ◌-◌}
use native.Mathlib.Omega.{arith}
use lib.ListN.{get_or}
use Rattle.rules.specs.Families.{lak_family, request_families, family_of}
use Rattle.rules.proofs.family_of.Goals as goal

-- any other kind has the first row
other : (k : ℕ) → (k ≡ 0x41 → ⊥) → (k ≡ 0x42 → ⊥) → family_of k ≡ lak_family
unfolding family_of
other k a b = go (k - 0x40) refl
  where
    go : (n : ℕ) → k - 0x40 ≡ n → get_or request_families n lak_family ≡ lak_family
    go zero e = refl
    go (suc zero) e = absurd (a (omega arith))
    go (suc (suc zero)) e = absurd (b (omega arith))
    go (suc (suc (suc n))) e = refl

pub returns-in-65 : goal.returns-in-65
unfolding family_of
returns-in-65 c = c.below_attestation_key.ensures ∙ rw c.devid.ensures (sym (ap family_of c.in-65.is))

pub returns-in-66 : goal.returns-in-66
unfolding family_of
returns-in-66 c = c.below_attestation_key-in-66.ensures ∙ rw c.devid-in-66.ensures (sym (ap family_of c.in-66.is))

pub returns-in_default : goal.returns-in_default
returns-in_default c = c.below_attestation_key-in_default.ensures ∙ rw c.iak.ensures (sym (other _ c.in_default.in_default-own.rest.0.1 c.in_default.in_default-own.rest.1))
