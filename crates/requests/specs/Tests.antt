-- Parts of what a challenge and an issue ask, by the numbers of the terms that they speak of.
use Rattle.std.specs.Prelude.{List, [], ◌∷◌, ℕ, eqb}
use Rattle.rules.specs.Limits.{tpm_maker}
use Rattle.rules.specs.Refusals.{Test, need}
use Rattle.rules.specs.Attributes.{same_attributes, iak_attributes, ek_attributes}
use Rattle.rules.specs.declared.Family.{Family}
use Rattle.rules.specs.declared.Subject.{Subject}
use Rattle.rules.specs.Term.{hash_kind, signature_kind, attest_kind, same_subject, is_tpm_subject}
use Rattle.rules.specs.File.{File, is_kind, hashed_term, message, certified_key, signer, subject, attributes, paired, signs_for, signs_for_role, signs_for_some}

-- the Subject and the signer of the EK's certificate, and both keys
unfoldable pub endorsement_tests : File → Subject → ℕ → ℕ → ℕ → List Test
endorsement_tests f named half iak ek =
    need 21 (is_tpm_subject named)
    ∷ need 21 (signs_for_role f tpm_maker half)
    ∷ need 23 (same_attributes (attributes f iak) iak_attributes)
    ∷ need 23 (same_attributes (attributes f ek) ek_attributes)
    ∷ []

-- what a credential is over and its key, and both keys
unfoldable pub credential_tests : File → ℕ → ℕ → ℕ → ℕ → List Test
credential_tests f content key iak ek =
    need 27 (is_kind f hash_kind content)
    ∷ need 27 (eqb (hashed_term f content) iak)
    ∷ need 27 (eqb key ek)
    ∷ []

-- "r is (key, Subject, the desk's key)", by the Subject
unfoldable pub called_tests : File → ℕ → ℕ → ℕ → Subject → List Test
called_tests f desk r key wanted =
    need 27 (eqb (certified_key f r) key)
    ∷ need 27 (same_subject (subject f r) wanted)
    ∷ need 27 (signs_for f desk (signer f r))
    ∷ []

-- a signature over an attest
unfoldable pub attest_tests : File → ℕ → List Test
attest_tests f signature =
    need 19 (is_kind f signature_kind signature)
    ∷ need 19 (is_kind f attest_kind (message f signature))
    ∷ []

-- the family, the private key that signed an attest, the attested key, and the key and the signer of the parent's
-- certificate
unfoldable pub parentage_tests : File → Family → ℕ → ℕ → ℕ → ℕ → List Test
parentage_tests f family half new key by =
    need 20 (paired f key half)
    ∷ need 21 (signs_for_some f family.signers by)
    ∷ need 23 (same_attributes (attributes f new) family.key)
    ∷ need 23 (same_attributes (attributes f key) family.parent)
    ∷ []
