-- Who knows a request knows what it names; and a desk's certificate in a known 18 request is listed.
-- Assumes nothing.
use mathlib.Core.Path.{◌≡◌, sym, ap, ◌∙◌}
use mathlib.Core.Bool.{true}
use mathlib.Core.List.{[], ◌∷◌, Memᴰ}
use Prim.Native.Nat.{ℕ}
use Rattle.rules.specs.declared.Family.{Family}
use Rattle.rules.specs.Families.{request_families}
use Rattle.rules.specs.Term.{ldevid_request_kind, pair_kind}
use Rattle.rules.specs.File.{File, kind, ldevid_message, ldevid_certificate, signer, left_of, right_of, signs_for_some}
use Rattle.rules.specs.Learning.{Knowledge}
use Rattle.rules.specs.State.{State, listed}
use Rattle.rules.specs.Desk.{request_body, parent_certificate_of}
use Rattle.theorems.proofs.Inside.{first_part_lem, second_part}
use Rattle.theorems.proofs.Loading.{Checked}
use Rattle.theorems.proofs.Terms.{parts_pair, parts_ldevid_request}
use Rattle.theorems.proofs.Invariant.{Invariant}
use Rattle.theorems.proofs.FamilyRows.{request_row, may, some_signer}

-- the party p knows the 18 request q, and a desk signed the certificate in it that a family's parents may have as signer
pub record DeskParent (f : File) (knows : Knowledge) (p q : ℕ) : Type 0 where
  pub known : knows p q ≡ true
  pub pair : kind f q ≡ pair_kind
  pub body : kind f (left_of f q) ≡ ldevid_request_kind
  pub family : Family
  pub row : Memᴰ family request_families
  pub signed : signs_for_some f family.signers (signer f (parent_certificate_of f q)) ≡ true

module _ (f : File) (ck : Checked f) (s : State) (inv : Invariant f s) where
  -- who knows a pair knows its two terms
  pub left_known : (p q : ℕ) → kind f q ≡ pair_kind → s.knows p q ≡ true → s.knows p (left_of f q) ≡ true
  left_known p q h k = inv.closed p q (left_of f q) k (first_part_lem f q (left_of f q) (right_of f q ∷ []) (parts_pair f q h))

  module _ (p q : ℕ) (w : DeskParent f s.knows p q) where
    parent_known : s.knows p (parent_certificate_of f q) ≡ true
    unfolding parent_certificate_of request_body
    parent_known =
        inv.closed p (left_of f q) (ldevid_certificate f (left_of f q)) (left_known p q w.pair w.known)
        (second_part f (left_of f q) (ldevid_message f (left_of f q)) (ldevid_certificate f (left_of f q)) [] (parts_ldevid_request f (left_of f q) w.body))

    -- a known certificate of a desk is listed
    pub parent_listed : listed s.ledger (parent_certificate_of f q) ≡ true
    unfolding parent_certificate_of request_body
    parent_listed =
        let g = some_signer f w.family.signers (signer f (parent_certificate_of f q)) w.signed in
        (inv.good p (parent_certificate_of f q) parent_known).issued (ck.ldevid_certificate_kind (left_of f q) w.body) g.party g.given
        (λ d. (request_row w.family w.row).no_maker (sym (ap (may w.family.signers) d) ∙ g.allowed))
