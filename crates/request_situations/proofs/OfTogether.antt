-- Situations of IAKs issued together (request 4 of document 02) as one table, each computed on the rules: 43 records after the challenges of a
-- board's IAKs.
use mathlib.Core.Path.{refl}
use mathlib.Core.List.{List, [], ◌∷◌, ◌++◌}
use Prim.Native.Nat.{ℕ, zero, suc, ◌+◌, ◌*◌}
use Rattle.rules.proofs.Computed.{ran, not_loaded, result}
use Rattle.rules.proofs.Records.{Bytes, written, a_device, a_tpm_maker, an_oem_desk, an_owner_desk, tpm, device, public_key, private_key, hash, signature, credential, number, idevid_request, certificate, pair, learns, holds, signs_with, make_hash, sign, activate_credential, make_idevid_request, make_pair, send, challenge, issue_iak, issue_iaks, no_pair}
use Rattle.rules.proofs.Situations.{Situation, Holds, AllHold, fine, oem, dev}

-- parties: the desk, a TPM maker, the board, another board, an owner desk
abbrev maker : ℕ
maker = 1

abbrev other : ℕ
other = 3

abbrev owner : ℕ
owner = 4

abbrev parties : List Bytes
parties = an_oem_desk ∷ a_tpm_maker ∷ a_device ∷ a_device ∷ an_owner_desk ∷ []

-- the desk's and the maker's keys, and two EKs of the board with a certificate each
abbrev oem_key : ℕ
oem_key = 0

abbrev maker_key : ℕ
maker_key = 1

abbrev ek : ℕ
ek = 2

abbrev ek_certificate : ℕ
ek_certificate = 4

abbrev other_ek : ℕ
other_ek = 5

abbrev other_certificate : ℕ
other_certificate = 7

abbrev keys : List Bytes
keys =
    private_key 1 0x0A
    ∷ private_key 2 0x0A
    ∷ public_key 3 0x0D
    ∷ private_key 3 0x0D
    ∷ certificate ek (tpm 7) maker_key
    ∷ public_key 4 0x0D
    ∷ private_key 4 0x0D
    ∷ certificate other_ek (tpm 7) maker_key
    ∷ []

abbrev setup : List Bytes
setup =
    holds oem oem_key
    ∷ signs_with oem oem_key
    ∷ holds maker maker_key
    ∷ signs_with maker maker_key
    ∷ holds dev 3
    ∷ holds dev 6
    ∷ learns dev ek_certificate
    ∷ learns dev other_certificate
    ∷ []

-- What an IAK is asked for with: the board's serial number, the EK and its certificate.
pub record Asked : Type 0 where
  pub serial : ℕ
  pub ek : ℕ
  pub endorsement : ℕ

abbrev first : Asked
first = record { serial = 8; ek = ek; endorsement = ek_certificate }

abbrev second : Asked
second = record { serial = 8; ek = other_ek; endorsement = other_certificate }

abbrev other_serial : Asked
other_serial = record { serial = 9; ek = ek; endorsement = ek_certificate }

-- The n-th IAK, counted from 0, has ten terms, from this number on: the key, its private half, its hash, the number, the request's body, hash,
-- signature and request, the credential, the certificate.
abbrev nth : ℕ → ℕ
nth n = 8 + n * 10

abbrev number_of : ℕ → ℕ
number_of n = nth n + 3

abbrev request_of : ℕ → ℕ
request_of n = nth n + 7

abbrev credential_of : ℕ → ℕ
credential_of n = nth n + 8

abbrev certificate_of : ℕ → ℕ
certificate_of n = nth n + 9

abbrev iak_terms : ℕ → Asked → List Bytes
iak_terms n a =
    public_key (100 + n) 0x0B
    ∷ private_key (100 + n) 0x0B
    ∷ hash (nth n)
    ∷ number (100 + n)
    ∷ idevid_request (device a.serial) a.endorsement (nth n)
    ∷ hash (nth n + 4)
    ∷ signature (nth n + 5) (nth n + 1)
    ∷ pair (nth n + 4) (nth n + 6)
    ∷ credential (nth n + 2) (number_of n) a.ek
    ∷ certificate (nth n) (device a.serial) oem_key
    ∷ []

abbrev all_terms : ℕ → List Asked → List Bytes
all_terms n [] = []
all_terms n (a ∷ more) = iak_terms n a ++ all_terms (suc n) more

-- the board has the IAKs, the desk knows the numbers
abbrev all_given : ℕ → List Asked → List Bytes
all_given n [] = []
all_given n (a ∷ more) = holds dev (nth n + 1) ∷ learns dev (nth n) ∷ learns oem (number_of n) ∷ all_given (suc n) more

-- 35, 30, 31, 37, 3C, 3E, 3C: a challenge of the n-th goes to the board
abbrev challenged : ℕ → List Bytes
challenged n =
    make_idevid_request dev (nth n + 4)
    ∷ make_hash dev (nth n + 5)
    ∷ sign dev (nth n + 6)
    ∷ make_pair dev (request_of n)
    ∷ send dev oem (request_of n)
    ∷ challenge oem (request_of n) (credential_of n)
    ∷ send oem dev (credential_of n)
    ∷ []

-- 34: the board opens it
abbrev answered : ℕ → List Bytes
answered n = challenged n ++ (activate_credential dev (credential_of n) ∷ [])

-- the first so many of them, eight commands each
abbrev all_answered : ℕ → List Bytes
all_answered zero = []
all_answered (suc n) = all_answered n ++ answered n

-- a file of some IAKs, more terms, what the desk knows besides, and commands
abbrev with_more : List Asked → List Bytes → List Bytes → List Bytes → Bytes
with_more iaks terms given commands = written (parties ++ keys ++ all_terms 0 iaks ++ terms ++ setup ++ all_given 0 iaks ++ given ++ commands)

abbrev board : List Asked → List Bytes → Bytes
board iaks commands = with_more iaks [] [] commands

abbrev four : List Asked
four = first ∷ first ∷ first ∷ first ∷ []

-- the n-th as a pair, and as an entry
abbrev pair_of : ℕ → List ℕ
pair_of n = credential_of n ∷ certificate_of n ∷ []

abbrev entry_of : ℕ → ℕ × ℕ × ℕ
entry_of n = (certificate_of n, ek_certificate, 1)

-- 43 by the desk, for the board
abbrev together : List ℕ → List ℕ → List ℕ → List ℕ → Bytes
together a b c d = issue_iaks oem dev (a ++ b ++ c ++ d)

-- What is issued.
-- All four, in the order of the pairs: one accepted command, four entries.
abbrev pub four_pairs : Situation
four_pairs = record {
  file = board four (all_answered 4 ++ (together (pair_of 3) (pair_of 1) (pair_of 0) (pair_of 2) ∷ []));
  gives = ran (fine 33 []) (entry_of 3 ∷ entry_of 1 ∷ entry_of 0 ∷ entry_of 2 ∷ []) 33 0 4;
}

pub four_pairs_holds : Holds four_pairs
unfolding result
four_pairs_holds = refl

-- Three, with an empty pair among them; then the fourth by 3F.
abbrev pub three_pairs : Situation
three_pairs = record {
  file = board four (all_answered 4 ++ (together (pair_of 2) (pair_of 0) no_pair (pair_of 1) ∷ issue_iak oem dev (credential_of 3) (certificate_of 3) ∷ []));
  gives = ran (fine 34 []) (entry_of 2 ∷ entry_of 0 ∷ entry_of 1 ∷ entry_of 3 ∷ []) 34 0 4;
}

pub three_pairs_holds : Holds three_pairs
unfolding result
three_pairs_holds = refl

-- Two, in the first and last places and in those between.
abbrev pub two_pairs : Situation
two_pairs = record {
  file = board four (all_answered 4 ++ (together (pair_of 1) no_pair no_pair (pair_of 0) ∷ together no_pair (pair_of 3) (pair_of 2) no_pair ∷ []));
  gives = ran (fine 34 []) (entry_of 1 ∷ entry_of 0 ∷ entry_of 3 ∷ entry_of 2 ∷ []) 34 0 4;
}

pub two_pairs_holds : Holds two_pairs
unfolding result
two_pairs_holds = refl

-- One, in each place.
abbrev pub one_pair : Situation
one_pair = record {
  file =
      board four
      (all_answered 4
      ++ (together (pair_of 0) no_pair no_pair no_pair
      ∷ together no_pair (pair_of 1) no_pair no_pair
      ∷ together no_pair no_pair (pair_of 2) no_pair
      ∷ together no_pair no_pair no_pair (pair_of 3)
      ∷ []));
  gives = ran (fine 36 []) (entry_of 0 ∷ entry_of 1 ∷ entry_of 2 ∷ entry_of 3 ∷ []) 36 0 4;
}

pub one_pair_holds : Holds one_pair
unfolding result
one_pair_holds = refl

-- Two serial numbers and two EKs in one 43.
abbrev pub two_subjects : Situation
two_subjects = record {
  file = board (other_serial ∷ second ∷ []) (all_answered 2 ++ (together (pair_of 0) (pair_of 1) no_pair no_pair ∷ []));
  gives = ran (fine 17 []) ((certificate_of 0, ek_certificate, 1) ∷ (certificate_of 1, other_certificate, 1) ∷ []) 17 0 2;
}

pub two_subjects_holds : Holds two_subjects
unfolding result
two_subjects_holds = refl

-- The second pair fails, and nothing is left of the first: the desk has not learnt its certificate (3C gets 14), and its credential is open (3F
-- issues).
abbrev unissued : List Bytes
unissued = send oem dev (certificate_of 0) ∷ issue_iak oem dev (credential_of 0) (certificate_of 0) ∷ []

-- 25: no challenge opened the second credential.
abbrev pub second_not_open : Situation
second_not_open = record {
  file = board (first ∷ first ∷ []) (all_answered 1 ++ (together (pair_of 0) (pair_of 1) no_pair no_pair ∷ unissued));
  gives = ran (fine 8 (25 ∷ 14 ∷ 0 ∷ [])) (entry_of 0 ∷ []) 9 2 1;
}

pub second_not_open_holds : Holds second_not_open
unfolding result
second_not_open_holds = refl

-- 25: the second is closed, by an earlier 43.
abbrev pub second_closed : Situation
second_closed = record {
  file =
      board (first ∷ first ∷ [])
      (all_answered 2 ++ (together (pair_of 1) no_pair no_pair no_pair ∷ together (pair_of 0) (pair_of 1) no_pair no_pair ∷ unissued));
  gives = ran (fine 17 (25 ∷ 14 ∷ 0 ∷ [])) (entry_of 1 ∷ entry_of 0 ∷ []) 18 2 2;
}

pub second_closed_holds : Holds second_closed
unfolding result
second_closed_holds = refl

-- 26: no 34 of the second.
abbrev pub second_not_returned : Situation
second_not_returned = record {
  file = board (first ∷ first ∷ []) (all_answered 1 ++ challenged 1 ++ (together (pair_of 0) (pair_of 1) no_pair no_pair ∷ unissued));
  gives = ran (fine 15 (26 ∷ 14 ∷ 0 ∷ [])) (entry_of 0 ∷ []) 16 2 1;
}

pub second_not_returned_holds : Holds second_not_returned
unfolding result
second_not_returned_holds = refl

-- 27: the second certificate is of another IAK.
abbrev pub second_other : Situation
second_other = record {
  file =
      board (first ∷ first ∷ first ∷ [])
      (all_answered 2 ++ (together (pair_of 0) (credential_of 1 ∷ certificate_of 2 ∷ []) no_pair no_pair ∷ unissued));
  gives = ran (fine 16 (27 ∷ 14 ∷ 0 ∷ [])) (entry_of 0 ∷ []) 17 2 1;
}

pub second_other_holds : Holds second_other
unfolding result
second_other_holds = refl

-- 28: the second certificate is issued already. Terms 28 and 29: another number, and a credential of it for the second IAK.
abbrev pub second_issued : Situation
second_issued = record {
  file =
      with_more (first ∷ first ∷ []) (number 30 ∷ credential (nth 1 + 2) 28 ek ∷ []) (learns oem 28 ∷ [])
      (all_answered 2
      ++ (together (pair_of 1) no_pair no_pair no_pair
      ∷ challenge oem (request_of 1) 29
      ∷ send oem dev 29
      ∷ activate_credential dev 29
      ∷ together (pair_of 0) (29 ∷ certificate_of 1 ∷ []) no_pair no_pair
      ∷ unissued));
  gives = ran (fine 20 (28 ∷ 14 ∷ 0 ∷ [])) (entry_of 1 ∷ entry_of 0 ∷ []) 21 2 2;
}

pub second_issued_holds : Holds second_issued
unfolding result
second_issued_holds = refl

-- 31: the second pair's Subject is one that another EK carries, from an earlier command.
abbrev pub second_carried : Situation
second_carried = record {
  file =
      board (other_serial ∷ second ∷ first ∷ [])
      (all_answered 3 ++ (issue_iak oem dev (credential_of 2) (certificate_of 2) ∷ together (pair_of 0) (pair_of 1) no_pair no_pair ∷ unissued));
  gives = ran (fine 25 (31 ∷ 14 ∷ 0 ∷ [])) (entry_of 2 ∷ entry_of 0 ∷ []) 26 2 2;
}

pub second_carried_holds : Holds second_carried
unfolding result
second_carried_holds = refl

-- 31 through an earlier pair, whichever of the two stands first; one alone is issued, and then the other gets 31.
abbrev pub carried_by_pair : Situation
carried_by_pair = record {
  file =
      board (first ∷ second ∷ [])
      (all_answered 2
      ++ (together (pair_of 0) no_pair no_pair (pair_of 1)
      ∷ together no_pair (pair_of 1) (pair_of 0) no_pair
      ∷ together (pair_of 1) no_pair no_pair no_pair
      ∷ together (pair_of 0) no_pair no_pair no_pair
      ∷ []));
  gives = ran (fine 16 (31 ∷ 31 ∷ 0 ∷ 31 ∷ [])) ((certificate_of 1, other_certificate, 1) ∷ []) 17 3 1;
}

pub carried_by_pair_holds : Holds carried_by_pair
unfolding result
carried_by_pair_holds = refl

-- The same credential twice, with its own certificate and another: the first pair closes it.
abbrev pub credential_twice : Situation
credential_twice = record {
  file =
      board (first ∷ first ∷ [])
      (all_answered 2 ++ (together (pair_of 0) (credential_of 0 ∷ certificate_of 1 ∷ []) no_pair no_pair ∷ unissued));
  gives = ran (fine 16 (25 ∷ 14 ∷ 0 ∷ [])) (entry_of 0 ∷ []) 17 2 1;
}

pub credential_twice_holds : Holds credential_twice
unfolding result
credential_twice_holds = refl

-- The refusal is that of the first pair that fails, and no lower one of a later pair: 31 before 25, 27 before 26 and 25.
abbrev pub first_failing : Situation
first_failing = record {
  file =
      board (first ∷ second ∷ first ∷ first ∷ [])
      (all_answered 2
      ++ challenged 2
      ++ (together (pair_of 0) (pair_of 1) (pair_of 3) no_pair
      ∷ together (credential_of 0 ∷ certificate_of 1 ∷ []) (pair_of 2) no_pair (pair_of 3)
      ∷ []));
  gives = ran (fine 23 (31 ∷ 27 ∷ [])) [] 23 2 0;
}

pub first_failing_holds : Holds first_failing
unfolding result
first_failing_holds = refl

-- Returned by another board, or by the desk: 26 at the first pair. By the board: issued.
abbrev pub other_returning : Situation
other_returning = record {
  file =
      board (first ∷ first ∷ [])
      (all_answered 2
      ++ (issue_iaks oem other (pair_of 0 ++ pair_of 1 ++ no_pair ++ no_pair)
      ∷ issue_iaks oem oem (pair_of 0 ++ pair_of 1 ++ no_pair ++ no_pair)
      ∷ together (pair_of 0) (pair_of 1) no_pair no_pair
      ∷ []));
  gives = ran (fine 16 (26 ∷ 26 ∷ 0 ∷ [])) (entry_of 0 ∷ entry_of 1 ∷ []) 17 2 2;
}

pub other_returning_holds : Holds other_returning
unfolding result
other_returning_holds = refl

-- 32.
-- Two certificates alike: in the first two pairs, where the second would be 27; in the last two, where the first pair is 25; of one pair twice.
abbrev pub alike_certificates : Situation
alike_certificates = record {
  file =
      board (first ∷ first ∷ [])
      (all_answered 1
      ++ (together (pair_of 0) (credential_of 1 ∷ certificate_of 0 ∷ []) no_pair no_pair
      ∷ together (pair_of 1) no_pair (pair_of 0) (credential_of 1 ∷ certificate_of 0 ∷ [])
      ∷ together no_pair (pair_of 0) no_pair (pair_of 0)
      ∷ unissued));
  gives = ran (fine 8 (32 ∷ 32 ∷ 32 ∷ 14 ∷ 0 ∷ [])) (entry_of 0 ∷ []) 9 4 1;
}

pub alike_certificates_holds : Holds alike_certificates
unfolding result
alike_certificates_holds = refl

-- All pairs empty; 13 comes before it, for a board and an owner desk, and before certificates alike.
abbrev pub all_empty : Situation
all_empty = record {
  file =
      board (first ∷ [])
      (all_answered 1
      ++ (together no_pair no_pair no_pair no_pair
      ∷ issue_iaks dev dev (no_pair ++ no_pair ++ no_pair ++ no_pair)
      ∷ issue_iaks owner dev (no_pair ++ no_pair ++ no_pair ++ no_pair)
      ∷ issue_iaks owner dev (pair_of 0 ++ pair_of 0 ++ no_pair ++ no_pair)
      ∷ unissued));
  gives = ran (fine 8 (32 ∷ 13 ∷ 13 ∷ 13 ∷ 14 ∷ 0 ∷ [])) (entry_of 0 ∷ []) 9 5 1;
}

pub all_empty_holds : Holds all_empty
unfolding result
all_empty_holds = refl

-- Loading. Terms: 0 a private key, 1 a public key, 2 its certificate, 3 a number, 4 a credential; the 43 stands at byte 30.
abbrev of_pairs : List ℕ → Bytes
of_pairs pairs = written (an_oem_desk ∷ a_device ∷ private_key 1 0x0A ∷ public_key 2 0x0D ∷ certificate 1 (tpm 7) 0 ∷ number 9 ∷ credential 1 3 1 ∷ issue_iaks 0 1 pairs ∷ [])

-- Fields of the right kinds.
abbrev pub kinds_fit : Situation
kinds_fit = record { file = of_pairs (no_pair ++ (4 ∷ 2 ∷ []) ++ no_pair ++ no_pair); gives = ran (25 ∷ []) [] 0 1 0 }

pub kinds_fit_holds : Holds kinds_fit
unfolding result
kinds_fit_holds = refl

-- FFFF hex alone: a credential with no certificate, and the other way round.
abbrev pub no_certificate : Situation
no_certificate = record { file = of_pairs ((4 ∷ 0xFFFF ∷ []) ++ no_pair ++ no_pair ++ no_pair); gives = not_loaded 7 30 }

pub no_certificate_holds : Holds no_certificate
unfolding result
no_certificate_holds = refl

abbrev pub no_credential : Situation
no_credential = record { file = of_pairs (no_pair ++ no_pair ++ no_pair ++ (0xFFFF ∷ 2 ∷ [])); gives = not_loaded 7 30 }

pub no_credential_holds : Holds no_credential
unfolding result
no_credential_holds = refl

-- Two FFFF hex that are not one pair.
abbrev pub across_pairs : Situation
across_pairs = record { file = of_pairs (no_pair ++ (4 ∷ 0xFFFF ∷ 0xFFFF ∷ 2 ∷ []) ++ no_pair); gives = not_loaded 7 30 }

pub across_pairs_holds : Holds across_pairs
unfolding result
across_pairs_holds = refl

-- A credential of a wrong kind before an FFFF hex: the fields go in their order.
abbrev pub wrong_kind_first : Situation
wrong_kind_first = record { file = of_pairs ((2 ∷ 0xFFFF ∷ []) ++ no_pair ++ no_pair ++ no_pair); gives = not_loaded 8 30 }

pub wrong_kind_first_holds : Holds wrong_kind_first
unfolding result
wrong_kind_first_holds = refl

-- What is issued, what is refused, loading.
abbrev pub of_together : List Situation
of_together =
    four_pairs
    ∷ three_pairs
    ∷ two_pairs
    ∷ one_pair
    ∷ two_subjects
    ∷ second_not_open
    ∷ second_closed
    ∷ second_not_returned
    ∷ second_other
    ∷ second_issued
    ∷ second_carried
    ∷ carried_by_pair
    ∷ credential_twice
    ∷ first_failing
    ∷ other_returning
    ∷ alike_certificates
    ∷ all_empty
    ∷ kinds_fit
    ∷ no_certificate
    ∷ no_credential
    ∷ across_pairs
    ∷ wrong_kind_first
    ∷ []

pub table : AllHold of_together
table = (four_pairs_holds, (three_pairs_holds, (two_pairs_holds, (one_pair_holds, (two_subjects_holds, (second_not_open_holds, (second_closed_holds, (second_not_returned_holds, (second_other_holds, (second_issued_holds, (second_carried_holds, (carried_by_pair_holds, (credential_twice_holds, (first_failing_holds, (other_returning_holds, (alike_certificates_holds, (all_empty_holds, (kinds_fit_holds, (no_certificate_holds, (no_credential_holds, (across_pairs_holds, (wrong_kind_first_holds, tt))))))))))))))))))))))
