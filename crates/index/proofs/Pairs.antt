-- Keys of one pair have one key: a public key and a private one with the same fields.
use mathlib.Core.Path.{◌≡◌, refl, sym, ◌∙◌}
use mathlib.Core.Bool.{true, ◌&&◌}
use native.Mathlib.Omega.{arith}
use lib.Dec.{eqb}
use lib.ListN.{get_or}
use borrow.Author.Tests.{eqb-true, eq-eqb}
use Rattle.rules.specs.declared.Term.{Term}
use Rattle.rules.specs.declared.Term.TheVariants.{PublicKey, PrivateKey, Hash, Signature, Attest, Credential, Number, IdevidRequest, LdevidRequest, Certificate, Pair, Register, Quote}
use Rattle.rules.specs.Term.{public_key_kind, private_key_kind, kind_of, fields_in, same_list, alike, key_pair}
use Rattle.theorems.proofs.Booleans.{and_true}
use Rattle.records.specs.Keys.{key_of, Small}
use Rattle.records.proofs.Keys.{same_key, alike_key}

-- the public key with the fields of a key
public : Term → Term
public y = PublicKey (get_or (fields_in y) 0 0) (record { bits = get_or (fields_in y) 1 0 })

public_kind : (y : Term) → kind_of (public y) ≡ public_key_kind
unfolding public kind_of
public_kind y = refl

public_fields : (y : Term) → kind_of y ≡ private_key_kind → fields_in (public y) ≡ fields_in y
unfolding public kind_of fields_in
public_fields (PublicKey id a) e = absurd (omega arith)
public_fields (PrivateKey id a) e = refl
public_fields (Hash t) e = absurd (omega arith)
public_fields (Signature t k) e = absurd (omega arith)
public_fields (Attest k) e = absurd (omega arith)
public_fields (Credential t n k) e = absurd (omega arith)
public_fields (Number id) e = absurd (omega arith)
public_fields (IdevidRequest s c k) e = absurd (omega arith)
public_fields (LdevidRequest t c) e = absurd (omega arith)
public_fields (Certificate k s p) e = absurd (omega arith)
public_fields (Pair t u) e = absurd (omega arith)
public_fields (Register i) e = absurd (omega arith)
public_fields (Quote i t n) e = absurd (omega arith)

module _ (x y : Term) where
  module _ (p : kind_of x ≡ public_key_kind) (q : kind_of y ≡ private_key_kind) where
    same_kinds : kind_of x ≡ kind_of (public y)
    same_kinds = p ∙ sym (public_kind y)

    alike_pair : alike x (public y) ≡ key_pair x y
    unfolding alike key_pair
    alike_pair = rw (eq-eqb (kind_of x) (kind_of (public y)) same_kinds, public_fields y q, eq-eqb (kind_of x) public_key_kind p, eq-eqb (kind_of y) private_key_kind q) refl

    pub key_pair_lem : Small x → Small y → key_of (fields_in x) ≡ key_of (fields_in y) → key_pair x y ≡ true
    key_pair_lem h l e = sym alike_pair ∙ same_key x (public y) h (rw (public_fields y q) l) same_kinds (rw (public_fields y q) e)

  module _ (e : key_pair x y ≡ true) where
    kinds : ((eqb (kind_of x) public_key_kind && eqb (kind_of y) private_key_kind) ≡ true)
    unfolding key_pair
    kinds = (and_true (eqb (kind_of x) public_key_kind && eqb (kind_of y) private_key_kind) (same_list (fields_in x) (fields_in y)) e).0

    pub pair_public : kind_of x ≡ public_key_kind
    pair_public = eqb-true _ _ (and_true _ (eqb (kind_of y) private_key_kind) kinds).0

    pub pair_private : kind_of y ≡ private_key_kind
    pair_private = eqb-true _ _ (and_true (eqb (kind_of x) public_key_kind) _ kinds).1

    pub pair_key : key_of (fields_in x) ≡ key_of (fields_in y)
    pair_key = rw (public_fields y pair_private) at (alike_key x (public y) (alike_pair pair_public pair_private ∙ e)).1
