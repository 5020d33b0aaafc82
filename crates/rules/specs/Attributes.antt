-- Attributes of keys (document 01, "Terms"): "a sum of Restricted 1, Sign 2, Decrypt 4, FixedTPM 8".
use Rattle.std.specs.Prelude.{Bool, ℕ, ◌+◌, ◌/◌, ◌%◌, eqb}
use Rattle.rules.specs.declared.Attributes.{Attributes}

abbrev pub restricted : ℕ
restricted = 1

abbrev pub sign : ℕ
sign = 2

abbrev pub decrypt : ℕ
decrypt = 4

abbrev pub fixed_tpm : ℕ
fixed_tpm = 8

-- the sums are below this
abbrev pub attributes_limit : ℕ
attributes_limit = 16

-- one of the four is in the sum
unfoldable pub has : Attributes → ℕ → Bool
has a flag = eqb (a.bits / flag % 2) 1

unfoldable pub same_attributes : Attributes → Attributes → Bool
same_attributes a b = eqb a.bits b.bits

abbrev pub no_attributes : Attributes
no_attributes = record { bits = 0 }

-- 0B hex, of attestation keys (IAK, LAK)
abbrev pub iak_attributes : Attributes
iak_attributes = record { bits = restricted + sign + fixed_tpm }

-- 0D hex, of endorsement keys
abbrev pub ek_attributes : Attributes
ek_attributes = record { bits = restricted + decrypt + fixed_tpm }

-- 0A hex, of general-purpose keys (IDevID, LDevID)
abbrev pub devid_attributes : Attributes
devid_attributes = record { bits = sign + fixed_tpm }

-- 0A hex, of the signing keys of desks and TPM makers
abbrev pub desk_key_attributes : Attributes
desk_key_attributes = record { bits = sign + fixed_tpm }
