-- Families of certificates that desks issue (document 01, "Desk commands"; request 1 of document 02), a row each.
use Rattle.std.specs.Prelude.{true, false, List, [], ◌∷◌, ℕ, ◌-◌, get_or}
use Rattle.rules.specs.declared.Family.{Family}
use Rattle.rules.specs.declared.Signers.{Signers}
use Rattle.rules.specs.declared.Role.TheVariants.{OemDesk, OwnerDesk}
use Rattle.rules.specs.Codes.{role_number}
use Rattle.rules.specs.Attributes.{iak_attributes, ek_attributes, devid_attributes}

-- who may have signed a parent
abbrev pub tpm_makers : Signers
tpm_makers = record { maker = true; oem = false; owner = false }

abbrev pub oem_desks : Signers
oem_desks = record { maker = false; oem = true; owner = false }

abbrev pub any_desks : Signers
any_desks = record { maker = false; oem = true; owner = true }

-- the role of the desk that signs, by its number
abbrev pub signing_role : Family → ℕ
signing_role family = role_number family.desk

-- 3F
abbrev pub iak_family : Family
iak_family = record { key = iak_attributes; desk = OemDesk; parent = ek_attributes; signers = tpm_makers }

-- 40
abbrev pub lak_family : Family
lak_family = record { key = iak_attributes; desk = OwnerDesk; parent = iak_attributes; signers = any_desks }

-- 41
abbrev pub idevid_family : Family
idevid_family = record { key = devid_attributes; desk = OemDesk; parent = iak_attributes; signers = oem_desks }

-- 42
abbrev pub ldevid_family : Family
ldevid_family = record { key = devid_attributes; desk = OwnerDesk; parent = iak_attributes; signers = any_desks }

-- those issued on an 18 request, in the order of their commands' kinds, 40 on
abbrev pub request_families : List Family
request_families = lak_family ∷ idevid_family ∷ ldevid_family ∷ []

abbrev pub families : List Family
families = iak_family ∷ request_families

-- the family of a command's kind
unfoldable pub family_of : ℕ → Family
family_of k = get_or request_families (k - 0x40) lak_family
