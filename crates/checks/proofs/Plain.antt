-- The fields and the bodies of the frequent commands that share a test. Assumes nothing.
use mathlib.Core.Path.{◌≡◌, refl, ap}
use mathlib.Core.List.{List, [], ◌∷◌}
use Prim.Native.Nat.{ℕ, ◌+◌, ◌-◌, ◌≤◌}
use native.Mathlib.Omega.{arith}
use lib.ListN.{get_or}
use Rattle.rules.specs.declared.Field.{Field}
use Rattle.rules.specs.declared.Field.TheVariants.{RoleField, PartyField, TermOf, SignedAttest}
use Rattle.rules.specs.Term.{hash_kind, signature_kind, credential_kind, idevid_request_kind, ldevid_request_kind, pair_kind}
use Rattle.rules.specs.Record.{section_of, body_length, fields_of, width, widths}
use Rattle.records.proofs.EachKind.{agree}

-- what 30 to 37 make
abbrev made : List Field
made =
    TermOf hash_kind ∷ TermOf signature_kind ∷ SignedAttest ∷ TermOf credential_kind ∷ TermOf credential_kind ∷ TermOf idevid_request_kind ∷ TermOf ldevid_request_kind ∷ TermOf pair_kind ∷ []

-- the second field of 30 to 37 is the last
pub made_fields : (k : ℕ) → 0x30 ≤ k → k ≤ 0x37 → fields_of k ≡ PartyField ∷ get_or made (k - 0x30) RoleField ∷ []
unfolding fields_of section_of
made_fields k l h = agree fields_of (λ k. PartyField ∷ get_or made (k - 0x30) RoleField ∷ []) 0x30 8 refl k l (omega arith)

pub made_body : (k : ℕ) (f : Field) → fields_of k ≡ PartyField ∷ f ∷ [] → body_length k ≡ 1 + width f
unfolding body_length widths width
made_body k f e = let o = ap widths e in omega (arith, o)

pub issue_body : (k : ℕ) → 0x40 ≤ k → k ≤ 0x42 → body_length k ≡ 5
unfolding body_length widths width fields_of section_of
issue_body k l h = agree body_length (λ k. 5) 0x40 3 refl k l (omega arith)
