-- The fields of terms as four numbers: what they are at a subject, and that terms of one kind are alike where the
-- numbers are.
use mathlib.Core.Path.{◌≡◌, refl, ap, sym, ◌∙◌}
use mathlib.Core.Bool.{Bool, true, false, cond, ◌&&◌, and-true}
use mathlib.Core.List.{List, [], ◌∷◌}
use Prim.Native.Nat.{ℕ, zero, suc, ◌+◌, ◌-◌, ◌≤◌}
use native.Mathlib.Omega.{arith}
use lib.Dec.{eqb, lit≤}
use lib.ListN.{length, get_or, drop}
use lib.Seq.{get_or-drop}
use borrow.Author.Tests.{eq-eqb}
use Rattle.rules.specs.declared.Subject.{Subject}
use Rattle.rules.specs.declared.Subject.TheVariants.{Tpm, Device}
use Rattle.rules.specs.declared.Term.{Term}
use Rattle.rules.specs.declared.Term.TheVariants.{PublicKey, PrivateKey, Hash, Signature, Attest, Credential, Number, IdevidRequest, LdevidRequest, Certificate, Pair, Register, Quote}
use Rattle.rules.specs.Term.{kind_of, subject_fields, fields_in, same_list, alike, public_key_kind}
use Rattle.rules.specs.Record.{word}
use Rattle.rules.specs.Load.{subject_at}

pub subject_fields_lem : (s : Subject) (more : List ℕ) → subject_fields s more ≡ get_or (subject_fields s []) 0 0 ∷ get_or (subject_fields s []) 1 0 ∷ more
unfolding subject_fields
subject_fields_lem (Tpm n) more = refl
subject_fields_lem (Device n) more = refl

number_either : (t : Bool) (n : ℕ) → get_or (subject_fields (cond t (Tpm n) (Device n)) []) 1 0 ≡ n
unfolding subject_fields
number_either true n = refl
number_either false n = refl

pub subject_number : (bs : List ℕ) (i : ℕ) → get_or (subject_fields (subject_at bs i) []) 1 0 ≡ word bs (i + 1)
unfolding subject_at
subject_number bs i = number_either (eqb (get_or bs i 0) 0) (word bs (i + 1))

-- how many fields the terms of a kind have
abbrev size_of : ℕ → ℕ
size_of k = get_or (2 ∷ 2 ∷ 1 ∷ 2 ∷ 1 ∷ 3 ∷ 1 ∷ 4 ∷ 2 ∷ 4 ∷ 2 ∷ 1 ∷ 3 ∷ []) (k - public_key_kind) 0

sized : (t : Term) → (length (fields_in t) ≡ size_of (kind_of t)) × (length (fields_in t) ≤ 4)
unfolding fields_in kind_of subject_fields
sized (PublicKey id a) = (refl, lit≤ tt)
sized (PrivateKey id a) = (refl, lit≤ tt)
sized (Hash t) = (refl, lit≤ tt)
sized (Signature t k) = (refl, lit≤ tt)
sized (Attest k) = (refl, lit≤ tt)
sized (Credential t n k) = (refl, lit≤ tt)
sized (Number id) = (refl, lit≤ tt)
sized (IdevidRequest (Tpm m) c k) = (refl, lit≤ tt)
sized (IdevidRequest (Device m) c k) = (refl, lit≤ tt)
sized (LdevidRequest t c) = (refl, lit≤ tt)
sized (Certificate k (Tpm m) p) = (refl, lit≤ tt)
sized (Certificate k (Device m) p) = (refl, lit≤ tt)
sized (Pair t u) = (refl, lit≤ tt)
sized (Register i) = (refl, lit≤ tt)
sized (Quote i t n) = (refl, lit≤ tt)

-- the first n numbers of two lists agree
abbrev same_first : ℕ → List ℕ → List ℕ → Bool
same_first zero xs ys = true
same_first (suc n) xs ys = eqb (get_or xs 0 0) (get_or ys 0 0) && same_first n (drop 1 xs) (drop 1 ys)

same_first_lem : (n : ℕ) (xs ys : List ℕ) → length xs ≡ length ys → length xs ≤ n → same_first n xs ys ≡ same_list xs ys
unfolding same_list
same_first_lem zero [] [] e h = refl
same_first_lem zero [] (y ∷ ys) e h = absurd (omega arith)
same_first_lem zero (x ∷ xs) ys e h = absurd (omega arith)
same_first_lem (suc n) [] [] e h = same_first_lem n [] [] refl (omega arith)
same_first_lem (suc n) [] (y ∷ ys) e h = absurd (omega arith)
same_first_lem (suc n) (x ∷ xs) [] e h = absurd (omega arith)
same_first_lem (suc n) (x ∷ xs) (y ∷ ys) e h = ap (λ b. eqb x y && b) (same_first_lem n xs ys (omega arith) (omega arith))

-- four numbers of two lists agree
abbrev pub same_four : List ℕ → List ℕ → Bool
same_four xs ys = eqb (get_or xs 0 0) (get_or ys 0 0) && (eqb (get_or xs 1 0) (get_or ys 1 0) && (eqb (get_or xs 2 0) (get_or ys 2 0) && eqb (get_or xs 3 0) (get_or ys 3 0)))

same_four_lem : (xs ys : List ℕ) → same_four xs ys ≡ same_first 4 xs ys
same_four_lem xs ys = simp (get_or-drop, and-true)

pub alike_words : (a b : Term) → kind_of a ≡ kind_of b → same_four (fields_in a) (fields_in b) ≡ alike a b
unfolding alike
alike_words a b e =
    rw (eq-eqb (kind_of a) (kind_of b) e)
    (same_four_lem (fields_in a) (fields_in b) ∙ same_first_lem 4 (fields_in a) (fields_in b) ((sized a).0 ∙ ap size_of e ∙ sym (sized b).0) (sized a).1)
