-- A walk over the parties for a signing key of one who may sign.
--     some_found     a party that may sign signs with it
--     some_none      no party does
-- Assumes nothing.
use Rattle.tables.specs.declared.columns.Tables.{Tables}
use mathlib.Core.Path.{◌≡◌, refl, sym}
use mathlib.Core.Logic.{⊎_elim}
use mathlib.Core.Bool.{Bool, true, false, ◌&&◌, ◌||◌, false≢true}
use mathlib.Core.List.{List}
use Prim.Native.Nat.{ℕ, ◌<◌}
use Rattle.rules.specs.declared.Signers.{Signers}
use Rattle.rules.specs.Limits.{party_limit, tpm_maker, oem_desk, owner_desk}
use Rattle.rules.specs.File.{is_role, signs_for, signs_for_role, signs_for_some}
use Rattle.theorems.proofs.Booleans.{and_true, or_true, or_left, or_right}
use Rattle.loaded.specs.Loaded.{file_in, Reads, has_some}
use Rattle.loaded.proofs.Reading.{role_signs, none_signs}

-- tests of which none holds
none_first : (s a b r : Bool) → (s && ((a && b) || r)) ≡ false → a ≡ true → (s && b) ≡ false
none_first false a b r q z = refl
none_first true true true r q z = absurd (false≢true (sym q))
none_first true true false r q z = refl
none_first true false b r q z = absurd (false≢true z)

none_rest : (s a b r : Bool) → (s && ((a && b) || r)) ≡ false → (s && r) ≡ false
none_rest false a b r q = refl
none_rest true true true r q = absurd (false≢true (sym q))
none_rest true true false r q = q
none_rest true false b r q = q

none_last : (s a b : Bool) → (s && (a && b)) ≡ false → a ≡ true → (s && b) ≡ false
none_last s true b q z = q
none_last s false b q z = absurd (false≢true z)

both : {a b : Bool} → a ≡ true → b ≡ true → (a && b) ≡ true
both p q = rw (p, q) refl

module _ {bs : List ℕ} {tables : Tables} (r : Reads bs tables) (who : Signers) (k : ℕ) where
  role_found : (asked : Bool) (role p : ℕ) → signs_for (file_in bs) p k ≡ true → (asked && is_role (file_in bs) role p) ≡ true → (asked && signs_for_role (file_in bs) role k) ≡ true
  role_found asked role p s e =
      let w = and_true asked (is_role (file_in bs) role p) e in
      both w.0 (role_signs r role k p s w.1)

  pub some_found : (p : ℕ) → signs_for (file_in bs) p k ≡ true → has_some (file_in bs) who p ≡ true → signs_for_some (file_in bs) who k ≡ true
  unfolding signs_for_some
  some_found p s e =
      ⊎_elim
      (λ m. or_left _ _ (role_found who.maker tpm_maker p s m))
      (λ o. or_right (who.maker && signs_for_role (file_in bs) tpm_maker k) _
      (⊎_elim
      (λ m. or_left _ _ (role_found who.oem oem_desk p s m))
      (λ m. or_right (who.oem && signs_for_role (file_in bs) oem_desk k) _ (role_found who.owner owner_desk p s m))
      (or_true (who.oem && is_role (file_in bs) oem_desk p) _ o)))
      (or_true (who.maker && is_role (file_in bs) tpm_maker p) _ e)

  role_none : (asked : Bool) (role : ℕ) → ((p : ℕ) → p < party_limit → asked ≡ true → (signs_for (file_in bs) p k && is_role (file_in bs) role p) ≡ false) → (asked && signs_for_role (file_in bs) role k) ≡ false
  role_none true role h = none_signs r role k (λ p l. h p l refl)
  role_none false role h = refl

  abbrev signs : ℕ → Bool
  signs p = signs_for (file_in bs) p k

  abbrev has : ℕ → ℕ → Bool
  has role p = is_role (file_in bs) role p

  abbrev desks : ℕ → Bool
  desks p = (who.oem && has oem_desk p) || (who.owner && has owner_desk p)

  pub some_none : ((p : ℕ) → p < party_limit → (signs_for (file_in bs) p k && has_some (file_in bs) who p) ≡ false) → signs_for_some (file_in bs) who k ≡ false
  unfolding signs_for_some
  some_none n =
      let maker = role_none who.maker tpm_maker (λ p l. none_first (signs p) who.maker (has tpm_maker p) (desks p) (n p l)) in
      let oem = role_none who.oem oem_desk (λ p l. none_first (signs p) who.oem (has oem_desk p) (who.owner && has owner_desk p) (rest p l)) in
      let owner = role_none who.owner owner_desk (λ p l. none_last (signs p) who.owner (has owner_desk p) (none_rest (signs p) who.oem (has oem_desk p) (who.owner && has owner_desk p) (rest p l))) in
      rw (maker, oem, owner) refl
    where
      rest : (p : ℕ) → p < party_limit → (signs p && desks p) ≡ false
      rest p l = none_rest (signs p) who.maker (has tpm_maker p) (desks p) (n p l)
