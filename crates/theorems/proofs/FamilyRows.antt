-- Rows of the table of families: what each has, and that no two are alike.
--     row-of-kind                        the family of a kind is a row of those issued on a request
--     every, every-row                   a test that each row passes
--     barren, no-child                   a family whose certificates are nobody's parents
--     request-row, family-row            what demand 3 needs of a row
--     one-row                            a row is told by its keys' attributes and its desk's role
--     some-signer                        who signed, where one of several may
-- Assumes nothing.
use mathlib.Core.Path.{◌≡◌, refl, sym, ap, subst, ◌∙◌}
use mathlib.Core.Logic.{⊎_elim}
use mathlib.Core.Bool.{Bool, true, false, cond, not, ◌&&◌, ◌||◌}
use mathlib.Core.List.Memᴰ
use mathlib.Core.List.{List, [], ◌∷◌, Memᴰ}
use Prim.Native.Nat.{ℕ, zero, suc, ◌-◌}
use lib.Dec.{eqb}
use lib.ListN.{get_or}
use borrow.Author.Tests.{eq-eqb}
use Rattle.rules.specs.declared.Attributes.{Attributes}
use Rattle.rules.specs.declared.Family.{Family}
use Rattle.rules.specs.declared.Signers.{Signers}
use Rattle.rules.specs.Limits.{tpm_maker, oem_desk, owner_desk}
use Rattle.rules.specs.Attributes.{has, restricted, fixed_tpm, same_attributes}
use Rattle.rules.specs.Families.{signing_role, lak_family, request_families, families, family_of}
use Rattle.rules.specs.File.{File, signs_with, role_of, signs_for_role, signs_for_some}
use Rattle.theorems.proofs.Booleans.{and_true, or_true, not_both}
use Rattle.theorems.proofs.Terms.{signs_role_given}

row_there : (rows : List Family) (n : ℕ) (d : Family) → Memᴰ d rows → Memᴰ (get_or rows n d) rows
row_there rows n d m = go rows n (λ x h. h)
  where
    go : (xs : List Family) (n : ℕ) → ((x : Family) → Memᴰ x xs → Memᴰ x rows) → Memᴰ (get_or xs n d) rows
    go [] n h = m
    go (x ∷ xs) zero h = h x (Memᴰ.head refl)
    go (x ∷ xs) (suc n) h = go xs n (λ y i. h y (Memᴰ.tail i))

pub row_of_kind : (k : ℕ) → Memᴰ (family_of k) request_families
unfolding family_of
row_of_kind k = row_there request_families (k - 0x40) lak_family (Memᴰ.head refl)

-- each row passes a test
abbrev pub every : (Family → Bool) → List Family → Bool
every test [] = true
every test (x ∷ xs) = test x && every test xs

every_row : (test : Family → Bool) (xs : List Family) → every test xs ≡ true → (x : Family) → Memᴰ x xs → test x ≡ true
every_row test [] e x m = absurd (Memᴰ.not-nil m)
every_row test (y ∷ ys) e x m =
    let w = and_true (test y) (every test ys) e in
    ⊎_elim (λ h. subst (λ (z : Family). test z ≡ true) (sym h) w.0) (every_row test ys w.1 x) (Memᴰ.cases_cons m)

-- no family asks of a parent what the keys of this one have
abbrev pub barren : Family → Bool
barren x = every (λ y. not (same_attributes y.parent x.key)) families

pub no_child : (x : Family) → barren x ≡ true → (y : Family) → Memᴰ y families → y.parent ≡ x.key → ⊥
unfolding same_attributes
no_child x b y m e = not_both _ (every_row (λ y. not (same_attributes y.parent x.key)) families b y m) (eq-eqb _ _ (ap (λ (a : Attributes). a.bits) e))

-- what a family has: FixedTPM keys, parents with FixedTPM keys, and desks that are no TPM makers
pub record FamilyRow (x : Family) : Type 0 where
  pub fixed : has x.key fixed_tpm ≡ true
  pub parent_fixed : has x.parent fixed_tpm ≡ true
  pub desk : signing_role x ≡ tpm_maker → ⊥

-- and one whose certificates are issued on a request: parents with Restricted keys, which no TPM maker signed
pub record RequestRow (x : Family) : Type 0 where
  pub fixed : has x.key fixed_tpm ≡ true
  pub desk : signing_role x ≡ tpm_maker → ⊥
  pub restricted : has x.parent Rattle.rules.specs.Attributes.restricted ≡ true
  pub no_maker : x.signers.maker ≡ true → ⊥

abbrev family_test : Family → Bool
family_test x = has x.key fixed_tpm && (has x.parent fixed_tpm && not (eqb (signing_role x) tpm_maker))

abbrev request_test : Family → Bool
request_test x = has x.parent restricted && not x.signers.maker

families_tested : every family_test families ≡ true
unfolding has
families_tested = refl

requests_tested : every request_test request_families ≡ true
unfolding has
requests_tested = refl

pub family_row : (x : Family) → Memᴰ x families → FamilyRow x
family_row x m =
    let w = and_true _ _ (every_row family_test families families_tested x m) in
    let v = and_true _ _ w.1 in
    record { fixed = w.0; parent_fixed = v.0; desk = λ e. not_both _ v.1 (eq-eqb _ _ e) }

pub request_row : (x : Family) → Memᴰ x request_families → RequestRow x
request_row x m =
    let a = family_row x (Memᴰ.tail m) in
    let b = and_true _ _ (every_row request_test request_families requests_tested x m) in
    record { fixed = a.fixed; desk = a.desk; restricted = b.0; no_maker = not_both _ b.1 }

-- rows alike in their keys' attributes and their desk's role
abbrev alike : Family → Family → Bool
alike x y = same_attributes x.key y.key && eqb (signing_role x) (signing_role y)

abbrev single : List Family → Bool
single [] = true
single (x ∷ xs) = every (λ y. not (alike x y)) xs && single xs

families_single : single families ≡ true
unfolding same_attributes
families_single = refl

are_alike : (x y : Family) → x.key ≡ y.key → signing_role x ≡ signing_role y → alike x y ≡ true
unfolding same_attributes
are_alike x y k d = rw (k, d, eq-eqb y.key.bits y.key.bits refl, eq-eqb (signing_role y) (signing_role y) refl) refl

single_row : (xs : List Family) → single xs ≡ true → (a b : Family) → Memᴰ a xs → Memᴰ b xs → a.key ≡ b.key → signing_role a ≡ signing_role b → a ≡ b
single_row [] e a b m n k d = absurd (Memᴰ.not-nil m)
single_row (x ∷ xs) e a b m n k d =
    ⊎_elim (λ h. ⊎_elim (λ i. h ∙ sym i) (λ i. absurd (other b i (first a b h k) (first_desk a b h d))) (Memᴰ.cases_cons n))
    (λ h. ⊎_elim (λ i. absurd (other a h (first b a i (sym k)) (first_desk b a i (sym d)))) (λ i. single_row xs w.1 a b h i k d) (Memᴰ.cases_cons n))
    (Memᴰ.cases_cons m)
  where
    w : (every (λ y. not (alike x y)) xs ≡ true) × (single xs ≡ true)
    w = and_true _ _ e

    first : (y z : Family) → y ≡ x → y.key ≡ z.key → x.key ≡ z.key
    first y z h k = ap (λ (v : Family). v.key) (sym h) ∙ k

    first_desk : (y z : Family) → y ≡ x → signing_role y ≡ signing_role z → signing_role x ≡ signing_role z
    first_desk y z h k = ap signing_role (sym h) ∙ k

    other : (y : Family) → Memᴰ y xs → x.key ≡ y.key → signing_role x ≡ signing_role y → ⊥
    other y i k d = not_both _ (every_row (λ y. not (alike x y)) xs w.0 y i) (are_alike x y k d)

pub one_row : (a b : Family) → Memᴰ a families → Memᴰ b families → a.key ≡ b.key → signing_role a ≡ signing_role b → a ≡ b
one_row = single_row families families_single

-- a role of those who may sign
abbrev pub may : Signers → ℕ → Bool
may who role = cond (eqb role tpm_maker) who.maker (cond (eqb role oem_desk) who.oem (cond (eqb role owner_desk) who.owner false))

pub record Signer (f : File) (who : Signers) (k : ℕ) : Type 0 where
  pub party : ℕ
  pub given : Memᴰ (signs_with party k) f.setup
  pub allowed : may who (role_of f party) ≡ true

pub some_signer : (f : File) (who : Signers) (k : ℕ) → signs_for_some f who k ≡ true → Signer f who k
unfolding signs_for_some
some_signer f who k e =
    ⊎_elim (by tpm_maker who.maker refl) (λ h. ⊎_elim (by oem_desk who.oem refl) (by owner_desk who.owner refl) (or_true _ _ h))
    (or_true (who.maker && signs_for_role f tpm_maker k) ((who.oem && signs_for_role f oem_desk k) || (who.owner && signs_for_role f owner_desk k)) e)
  where
    by : (role : ℕ) (b : Bool) → may who role ≡ b → (b && signs_for_role f role k) ≡ true → Signer f who k
    by role b m h =
        let w = and_true b (signs_for_role f role k) h in
        let g = signs_role_given f role k w.1 in
        record { party = g.0; given = g.1; allowed = ap (may who) g.2 ∙ m ∙ w.0 }
