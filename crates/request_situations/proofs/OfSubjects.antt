-- Situations of Subjects (request 3 of document 02) as one table, each computed on the rules: a second IAK certificate after the first board's.
use mathlib.Core.Path.{refl}
use mathlib.Core.List.{List, [], ◌∷◌, ◌++◌}
use Prim.Native.Nat.{ℕ}
use Rattle.rules.proofs.Computed.{ran, result}
use Rattle.rules.proofs.Records.{Bytes, written, a_device, tpm, device, public_key, private_key, hash, signature, credential, number, idevid_request, certificate, pair, learns, holds, make_hash, sign, activate_credential, make_idevid_request, make_pair, send, challenge, issue_iak}
use Rattle.rules.proofs.Situations.{Situation, Holds, AllHold, fine, oem, dev, oem_key, maker_key, ek, iak, iak_private, iak_hash, ek_certificate, iak_certificate, parties, terms, setup, enrolled}

-- another board
abbrev other : ℕ
other = 3

-- More keys: another EK and another IAK, with the hash of that; a certificate of the other EK, whose TPM Subject is the first one's, and
-- another certificate of the first.
abbrev other_ek : ℕ
other_ek = 15

abbrev other_ek_private : ℕ
other_ek_private = 16

abbrev other_iak : ℕ
other_iak = 17

abbrev other_iak_private : ℕ
other_iak_private = 18

abbrev other_iak_hash : ℕ
other_iak_hash = 19

abbrev other_ek_certificate : ℕ
other_ek_certificate = 20

abbrev second_certificate : ℕ
second_certificate = 21

abbrev keys : List Bytes
keys =
    public_key 5 0x0D
    ∷ private_key 5 0x0D
    ∷ public_key 6 0x0B
    ∷ private_key 6 0x0B
    ∷ hash other_iak
    ∷ certificate other_ek (tpm 7) maker_key
    ∷ certificate ek (tpm 6) maker_key
    ∷ []

-- A second enrolment: the board, its serial number, the EK, its certificate, the IAK with its private half and hash, the certificate that is
-- asked for.
pub record Second : Type 0 where
  pub board : ℕ
  pub serial : ℕ
  pub ek : ℕ
  pub endorsement : ℕ
  pub iak : ℕ
  pub iak_private : ℕ
  pub iak_hash : ℕ
  pub asked : ℕ

-- its number, the request's body, hash, signature and request, and the credential, from term 22 on; then a certificate of a key
abbrev second_terms : Second → ℕ → List Bytes
second_terms x key =
    number 10
    ∷ idevid_request (device x.serial) x.endorsement x.iak
    ∷ hash 23
    ∷ signature 24 x.iak_private
    ∷ pair 23 25
    ∷ credential x.iak_hash 22 x.ek
    ∷ certificate key (device x.serial) oem_key
    ∷ []

abbrev of_second : ℕ
of_second = 28

abbrev second_commands : Second → List Bytes
second_commands x =
    make_idevid_request x.board 23
    ∷ make_hash x.board 24
    ∷ sign x.board 25
    ∷ make_pair x.board 26
    ∷ send x.board oem 26
    ∷ challenge oem 26 27
    ∷ send oem x.board 27
    ∷ activate_credential x.board 27
    ∷ issue_iak oem x.board 27 x.asked
    ∷ []

-- after the first board's enrolment; the other keys are held by the second one's board
abbrev after : Second → ℕ → Bytes
after x key =
    written
    (parties
    ++ (a_device ∷ terms)
    ++ keys
    ++ second_terms x key
    ++ setup
    ++ (holds x.board other_ek_private
    ∷ holds x.board other_iak_private
    ∷ learns x.board x.endorsement
    ∷ learns x.board x.iak
    ∷ learns oem 22
    ∷ [])
    ++ enrolled
    ++ second_commands x)

-- the other IAK with the other EK
abbrev with_other_ek : ℕ → ℕ → Second
with_other_ek board serial = record { board = board; serial = serial; ek = other_ek; endorsement = other_ek_certificate; iak = other_iak; iak_private = other_iak_private; iak_hash = other_iak_hash; asked = of_second }

-- and with the first, by a certificate of it
abbrev with_first_ek : ℕ → Second
with_first_ek endorsement = record { board = dev; serial = 8; ek = ek; endorsement = endorsement; iak = other_iak; iak_private = other_iak_private; iak_hash = other_iak_hash; asked = of_second }

-- Two boards, one Subject.
abbrev pub two_boards : Situation
two_boards = record { file = after (with_other_ek other 8) other_iak; gives = ran (fine 17 (31 ∷ [])) ((iak_certificate, ek_certificate, 1) ∷ []) 17 1 1 }

pub two_boards_holds : Holds two_boards
unfolding result
two_boards_holds = refl

-- Two EKs in one TPM, one Subject: the key decides.
abbrev pub two_eks : Situation
two_eks = record { file = after (with_other_ek dev 8) other_iak; gives = ran (fine 17 (31 ∷ [])) ((iak_certificate, ek_certificate, 1) ∷ []) 17 1 1 }

pub two_eks_holds : Holds two_eks
unfolding result
two_eks_holds = refl

-- The same board's second IAK with that Subject, by the same EK certificate.
abbrev pub same_certificate : Situation
same_certificate = record { file = after (with_first_ek ek_certificate) other_iak; gives = ran (fine 18 []) ((iak_certificate, ek_certificate, 1) ∷ (of_second, ek_certificate, 1) ∷ []) 18 0 2 }

pub same_certificate_holds : Holds same_certificate
unfolding result
same_certificate_holds = refl

-- And by another certificate of the same EK.
abbrev pub other_certificate : Situation
other_certificate = record { file = after (with_first_ek second_certificate) other_iak; gives = ran (fine 18 []) ((iak_certificate, ek_certificate, 1) ∷ (of_second, second_certificate, 1) ∷ []) 18 0 2 }

pub other_certificate_holds : Holds other_certificate
unfolding result
other_certificate_holds = refl

-- Another Subject on the second board.
abbrev pub other_subject : Situation
other_subject = record { file = after (with_other_ek other 9) other_iak; gives = ran (fine 18 []) ((iak_certificate, ek_certificate, 1) ∷ (of_second, other_ek_certificate, 1) ∷ []) 18 0 2 }

pub other_subject_holds : Holds other_subject
unfolding result
other_subject_holds = refl

-- 28 before 31: the issued certificate again, with the other EK of the TPM.
abbrev pub issued_first : Situation
issued_first = record {
  file = after (record { board = dev; serial = 8; ek = other_ek; endorsement = other_ek_certificate; iak = iak; iak_private = iak_private; iak_hash = iak_hash; asked = iak_certificate }) other_iak;
  gives = ran (fine 17 (28 ∷ [])) ((iak_certificate, ek_certificate, 1) ∷ []) 17 1 1;
}

pub issued_first_holds : Holds issued_first
unfolding result
issued_first_holds = refl

-- 27 before 31: a certificate of another key with the Subject.
abbrev pub other_key_first : Situation
other_key_first = record { file = after (with_other_ek other 8) other_ek; gives = ran (fine 17 (27 ∷ [])) ((iak_certificate, ek_certificate, 1) ∷ []) 17 1 1 }

pub other_key_first_holds : Holds other_key_first
unfolding result
other_key_first_holds = refl

abbrev pub of_subjects : List Situation
of_subjects = two_boards ∷ two_eks ∷ same_certificate ∷ other_certificate ∷ other_subject ∷ issued_first ∷ other_key_first ∷ []

pub table : AllHold of_subjects
table = (two_boards_holds, (two_eks_holds, (same_certificate_holds, (other_certificate_holds, (other_subject_holds, (issued_first_holds, (other_key_first_holds, tt)))))))
