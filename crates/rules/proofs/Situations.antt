-- The small starred situations of document 01 ("Situations"), and one situation for each wrong engine of must-fail/, computed on the rules.
use mathlib.Core.Path.{◌≡◌, refl}
use mathlib.Core.List.{List, [], ◌∷◌, ◌++◌}
use Prim.Native.Nat.{ℕ, zero, suc, ◌+◌, ◌*◌}
use Rattle.rules.specs.declared.Entry.{Entry}
use Rattle.rules.specs.Limits.{command_limit}
use Rattle.rules.specs.Load.{load}
use Rattle.rules.specs.Lent.{Lent, success, refusal, long_enough, run_leaves, ask_answer}
use Rattle.rules.specs.Stock.{stock_answer, stock_leaves}
use Rattle.rules.specs.Listing.{listing}
use Rattle.rules.proofs.Computed.{Result, ran, not_loaded, result, with_ledger, outcomes_with, outcomes_knowing, all_open, result_open, boards, shown_by}
use Rattle.rules.proofs.Records.{Bytes, written, a_device, a_tpm_maker, an_oem_desk, an_owner_desk, tpm, device, public_key, private_key, hash, signature, attest, credential, number, idevid_request, ldevid_request, certificate, pair, register, quote_body, learns, holds, signs_with, make_hash, sign, certify, make_credential, activate_credential, make_idevid_request, make_ldevid_request, make_pair, send, challenge, issue_iak, issue, issue_iaks, no_pair, extend, quote}

-- A file and what it gives.
pub record Situation : Type 0 where
  pub file : Bytes
  pub gives : Result

abbrev pub Holds : Situation → Type 0
Holds x = result x.file ≡ x.gives

-- a table of situations, each of which holds
abbrev pub AllHold : List Situation → Type 0
AllHold [] = Unit {0}
AllHold (x ∷ xs) = Holds x × AllHold xs

-- outcomes: so many commands accepted, then the others
abbrev pub fine : ℕ → List ℕ → List ℕ
fine zero more = more
fine (suc n) more = 0 ∷ fine n more

-- The enrolment of an IAK.
-- parties
abbrev pub oem : ℕ
oem = 0

abbrev maker : ℕ
maker = 1

abbrev pub dev : ℕ
dev = 2

abbrev pub parties : List Bytes
parties = an_oem_desk ∷ a_tpm_maker ∷ a_device ∷ []

-- terms, by their numbers
abbrev pub oem_key : ℕ
oem_key = 0

abbrev pub maker_key : ℕ
maker_key = 1

abbrev pub ek : ℕ
ek = 2

abbrev ek_private : ℕ
ek_private = 3

abbrev pub iak : ℕ
iak = 4

abbrev pub iak_private : ℕ
iak_private = 5

abbrev pub ek_certificate : ℕ
ek_certificate = 6

abbrev the_number : ℕ
the_number = 7

abbrev body : ℕ
body = 8

abbrev body_hash : ℕ
body_hash = 9

abbrev body_signature : ℕ
body_signature = 10

abbrev pub request : ℕ
request = 11

abbrev pub iak_hash : ℕ
iak_hash = 12

abbrev pub the_credential : ℕ
the_credential = 13

abbrev pub iak_certificate : ℕ
iak_certificate = 14

-- The id of the first key is the number of the request's body: the request of a credential that was never opened, 0, then reads as one.
-- So an engine that does not ask for an open credential issues.
abbrev pub terms : List Bytes
terms =
    private_key body 0x0A
    ∷ private_key 1 0x0A
    ∷ public_key 3 0x0D
    ∷ private_key 3 0x0D
    ∷ public_key 4 0x0B
    ∷ private_key 4 0x0B
    ∷ certificate ek (tpm 7) maker_key
    ∷ number 9
    ∷ idevid_request (device 8) ek_certificate iak
    ∷ hash body
    ∷ signature body_hash iak_private
    ∷ pair body body_signature
    ∷ hash iak
    ∷ credential iak_hash the_number ek
    ∷ certificate iak (device 8) oem_key
    ∷ []

-- the desk's and the TPM maker's signing keys
abbrev signing_keys : List Bytes
signing_keys = holds oem oem_key ∷ signs_with oem oem_key ∷ holds maker maker_key ∷ signs_with maker maker_key ∷ []

-- the device has the IAK and knows the EK's certificate and the IAK; the desk knows the number
abbrev given : List Bytes
given = holds dev iak_private ∷ learns dev ek_certificate ∷ learns dev iak ∷ learns oem the_number ∷ []

abbrev pub setup : List Bytes
setup = signing_keys ++ (holds dev ek_private ∷ given)

-- The commands. 35, 30, 31, 37, 3C: the request goes to the desk.
abbrev pub ask : List Bytes
ask = make_idevid_request dev body ∷ make_hash dev body_hash ∷ sign dev body_signature ∷ make_pair dev request ∷ send dev oem request ∷ []

-- 3E, 3C: the challenge goes to the device
abbrev challenged : List Bytes
challenged = challenge oem request the_credential ∷ send oem dev the_credential ∷ []

-- 34, 3F: the number comes back, and the desk issues
abbrev returned : List Bytes
returned = activate_credential dev the_credential ∷ issue_iak oem dev the_credential iak_certificate ∷ []

abbrev pub enrolled : List Bytes
enrolled = ask ++ challenged ++ returned

-- Empty file.
abbrev pub empty : Situation
empty = record { file = []; gives = ran [] [] 0 0 0 }

pub empty_holds : Holds empty
unfolding result
empty_holds = refl

-- The example of "Checks and listing": the key is not held.
abbrev pub example : Situation
example = record {
  file = written (a_device ∷ public_key 5 0x0B ∷ private_key 5 0x0B ∷ hash 0 ∷ signature 2 1 ∷ learns 0 0 ∷ make_hash 0 2 ∷ sign 0 3 ∷ []);
  gives = ran (0 ∷ 15 ∷ []) [] 1 1 0;
}

pub example_holds : Holds example
unfolding result
example_holds = refl

-- Honest IAK.
abbrev pub honest_iak : Situation
honest_iak = record { file = written (parties ++ terms ++ setup ++ enrolled); gives = ran (fine 9 []) ((iak_certificate, ek_certificate, 1) ∷ []) 9 0 1 }

pub honest_iak_holds : Holds honest_iak
unfolding result
honest_iak_holds = refl

-- Same without 34: the device does not know the number.
abbrev pub without34 : Situation
without34 = record {
  file = written (parties ++ terms ++ setup ++ ask ++ challenged ++ (issue_iak oem dev the_credential iak_certificate ∷ []));
  gives = ran (fine 7 (26 ∷ [])) [] 7 1 0;
}

pub without34_holds : Holds without34
unfolding result
without34_holds = refl

-- Returned by the desk.
abbrev pub returned_by_desk : Situation
returned_by_desk = record {
  file = written (parties ++ terms ++ setup ++ ask ++ challenged ++ (activate_credential dev the_credential ∷ issue_iak oem oem the_credential iak_certificate ∷ []));
  gives = ran (fine 8 (26 ∷ [])) [] 8 1 0;
}

pub returned_by_desk_holds : Holds returned_by_desk
unfolding result
returned_by_desk_holds = refl

-- EK in another TPM, that of party 3: 34 gets 15, and so 3F 26.
abbrev pub ek_elsewhere : Situation
ek_elsewhere = record {
  file = written (parties ++ (a_device ∷ terms) ++ signing_keys ++ (holds 3 ek_private ∷ given) ++ enrolled);
  gives = ran (fine 7 (15 ∷ 26 ∷ [])) [] 7 2 0;
}

pub ek_elsewhere_holds : Holds ek_elsewhere
unfolding result
ek_elsewhere_holds = refl

-- Number used twice: the same challenge again.
abbrev pub number_twice : Situation
number_twice = record {
  file = written (parties ++ terms ++ setup ++ ask ++ (challenge oem request the_credential ∷ challenge oem request the_credential ∷ []));
  gives = ran (fine 6 (24 ∷ [])) [] 6 1 0;
}

pub number_twice_holds : Holds number_twice
unfolding result
number_twice_holds = refl

-- Same certificate again by a new challenge: terms 15 and 16 are a second number and its credential.
abbrev pub same_certificate : Situation
same_certificate = record {
  file =
      written
      (parties
      ++ terms
      ++ (number 10 ∷ credential iak_hash 15 ek ∷ [])
      ++ setup
      ++ (learns oem 15 ∷ enrolled)
      ++ (challenge oem request 16 ∷ send oem dev 16 ∷ activate_credential dev 16 ∷ issue_iak oem dev 16 iak_certificate ∷ []));
  gives = ran (fine 12 (28 ∷ [])) ((iak_certificate, ek_certificate, 1) ∷ []) 12 1 1;
}

pub same_certificate_holds : Holds same_certificate
unfolding result
same_certificate_holds = refl

-- Hash of a 14 signed by a Restricted key. Terms: 0 and 1 the key, 2 its attest, 3 the attest signed, 4 the attest's hash, 5 the hash signed.
abbrev pub attest_hashed : Situation
attest_hashed = record {
  file =
      written
      (a_device
      ∷ public_key 5 0x0B
      ∷ private_key 5 0x0B
      ∷ attest 0
      ∷ signature 2 1
      ∷ hash 2
      ∷ signature 4 1
      ∷ holds 0 1
      ∷ certify 0 3
      ∷ make_hash 0 4
      ∷ sign 0 5
      ∷ []);
  gives = ran (fine 2 (17 ∷ [])) [] 2 1 0;
}

pub attest_hashed_holds : Holds attest_hashed
unfolding result
attest_hashed_holds = refl

-- Certificates on an 18 request under the enrolment: party 3 is an owner desk, term 15 its key.
abbrev pub owner : ℕ
owner = 3

abbrev pub owner_key : ℕ
owner_key = 15

-- What one is: its command's kind, the attributes of its key, the desk that issues it with the desk's key, and its parent with the private
-- half of the parent's key and the desk that issued the parent.
pub record Asked : Type 0 where
  pub kind : ℕ
  pub attributes : ℕ
  pub desk : ℕ
  pub desk_key : ℕ
  pub parent : ℕ
  pub parent_private : ℕ
  pub parent_desk : ℕ

-- The n-th of them, counted from 0, has nine terms, from this number on: the new key, its private half, its attest, the attest signed by the
-- parent's key, the 18, its hash, the hash signed, the request, the certificate.
abbrev pub nth : ℕ → ℕ
nth n = 16 + n * 9

abbrev pub nth_request : ℕ → ℕ
nth_request n = nth n + 7

abbrev pub nth_certificate : ℕ → ℕ
nth_certificate n = nth n + 8

abbrev pub asked_terms : ℕ → Asked → List Bytes
asked_terms n a =
    public_key (100 + n) a.attributes
    ∷ private_key (100 + n) a.attributes
    ∷ attest (nth n)
    ∷ signature (nth n + 2) a.parent_private
    ∷ ldevid_request (nth n + 3) a.parent
    ∷ hash (nth n + 4)
    ∷ signature (nth n + 5) (nth n + 1)
    ∷ pair (nth n + 4) (nth n + 6)
    ∷ certificate (nth n) (device 8) a.desk_key
    ∷ []

-- 3C of the parent to the device, 32, 36, 30, 31, 37, 3C, and 40, 41 or 42
abbrev pub asked_commands : ℕ → Asked → List Bytes
asked_commands n a =
    send a.parent_desk dev a.parent
    ∷ certify dev (nth n + 3)
    ∷ make_ldevid_request dev (nth n + 4)
    ∷ make_hash dev (nth n + 5)
    ∷ sign dev (nth n + 6)
    ∷ make_pair dev (nth_request n)
    ∷ send dev a.desk (nth_request n)
    ∷ issue a.kind a.desk (nth_request n) (nth_certificate n)
    ∷ []

-- 40, 41 or 42 alone
abbrev issuing : ℕ → List Asked → List Bytes
issuing n [] = []
issuing n (a ∷ more) = issue a.kind a.desk (nth_request n) (nth_certificate n) ∷ issuing (suc n) more

-- one under the IAK, or under the n-th, which an owner desk issued
abbrev pub under_iak : ℕ → ℕ → ℕ → ℕ → Asked
under_iak kind attributes desk desk_key = record { kind = kind; attributes = attributes; desk = desk; desk_key = desk_key; parent = iak_certificate; parent_private = iak_private; parent_desk = oem }

abbrev pub under : ℕ → Asked → Asked
under n a = record { kind = a.kind; attributes = a.attributes; desk = a.desk; desk_key = a.desk_key; parent = nth_certificate n; parent_private = nth n + 1; parent_desk = owner }

abbrev pub an_lak : Asked
an_lak = under_iak 0x40 0x0B owner owner_key

abbrev pub an_idevid : Asked
an_idevid = under_iak 0x41 0x0A oem oem_key

abbrev pub an_ldevid : Asked
an_ldevid = under_iak 0x42 0x0A owner owner_key

-- several, the first of them the n-th
abbrev pub all_terms : ℕ → List Asked → List Bytes
all_terms n [] = []
all_terms n (a ∷ more) = asked_terms n a ++ all_terms (suc n) more

abbrev pub all_held : ℕ → List Asked → List Bytes
all_held n [] = []
all_held n (a ∷ more) = holds dev (nth n + 1) ∷ all_held (suc n) more

abbrev pub all_commands : ℕ → List Asked → List Bytes
all_commands n [] = []
all_commands n (a ∷ more) = asked_commands n a ++ all_commands (suc n) more

-- an owner desk beside the parties of an enrolment: more terms and 21 records, then commands
abbrev with_owner : List Bytes → List Bytes → List Bytes → Bytes
with_owner more held commands =
    written
    (parties
    ++ (an_owner_desk ∷ terms)
    ++ (private_key 2 0x0A ∷ more)
    ++ setup
    ++ (holds owner owner_key ∷ signs_with owner owner_key ∷ held)
    ++ commands)

-- an enrolment, those of a list, then more
abbrev pub asking : List Asked → List Bytes → List Bytes → Bytes
asking which terms commands = with_owner (all_terms 0 which ++ terms) (all_held 0 which) (enrolled ++ all_commands 0 which ++ commands)

-- LAKs, each under the one before, from the n-th on
abbrev pub laks_from : ℕ → ℕ → List Asked → List Asked
laks_from n zero more = more
laks_from n (suc m) more = under n an_lak ∷ laks_from (suc n) m more

-- m + 1 LAKs, the first under the IAK, and then more
abbrev pub laks : ℕ → List Asked → List Asked
laks m more = an_lak ∷ laks_from 0 m more

-- certificates, parents and depths of the IAK and seven LAKs
abbrev pub eight_deep : List (ℕ × ℕ × ℕ)
eight_deep = (14, 6, 1) ∷ (24, 14, 2) ∷ (33, 24, 3) ∷ (42, 33, 4) ∷ (51, 42, 5) ∷ (60, 51, 6) ∷ (69, 60, 7) ∷ (78, 69, 8) ∷ []

-- The listing of the example: "R 1 15" and "T 1 1 0".
abbrev space : ℕ
space = 32

abbrev newline : ℕ
newline = 10

abbrev digit : ℕ → ℕ
digit n = 48 + n

abbrev letter_r : ℕ
letter_r = 0x52

abbrev letter_t : ℕ
letter_t = 0x54

abbrev pub example_text : Bytes
example_text =
    (letter_r ∷ space ∷ digit 1 ∷ space ∷ digit 1 ∷ digit 5 ∷ newline ∷ [])
    ++ (letter_t ∷ space ∷ digit 1 ∷ space ∷ digit 1 ∷ space ∷ digit 0 ∷ newline ∷ [])

pub example_listed : listing example.file ≡ example_text
unfolding result
example_listed = refl

-- What the wrong engines of must-fail/ get wrong, where no situation above shows it.

-- The request signed by a key that has the IAK's id and other attributes. Terms: 15 that key, 16 the hash signed by it, 17 the request.
abbrev other_attributes : Situation
other_attributes = record {
  file =
      written
      (parties
      ++ terms
      ++ (private_key 4 0x0A ∷ signature body_hash 15 ∷ pair body 16 ∷ [])
      ++ setup
      ++ (holds dev 15
      ∷ make_idevid_request dev body
      ∷ make_hash dev body_hash
      ∷ sign dev 16
      ∷ make_pair dev 17
      ∷ send dev oem 17
      ∷ challenge oem 17 the_credential
      ∷ []));
  gives = ran (fine 5 (20 ∷ [])) [] 5 1 0;
}

other_attributes_holds : Holds other_attributes
unfolding result
other_attributes_holds = refl

-- The number returned for another credential that has it, term 15; only the first was opened.
abbrev other_credential : Situation
other_credential = record {
  file =
      written
      (parties
      ++ terms
      ++ (credential iak_hash the_number iak ∷ [])
      ++ setup
      ++ ask
      ++ challenged
      ++ (activate_credential dev the_credential ∷ issue_iak oem dev 15 iak_certificate ∷ []));
  gives = ran (fine 8 (25 ∷ [])) [] 8 1 0;
}

other_credential_holds : Holds other_credential
unfolding result
other_credential_holds = refl

-- No challenge: the device was given the number.
abbrev no_challenge : Situation
no_challenge = record {
  file = written (parties ++ terms ++ setup ++ (learns dev the_number ∷ issue_iak oem dev the_credential iak_certificate ∷ []));
  gives = ran (25 ∷ []) [] 0 1 0;
}

no_challenge_holds : Holds no_challenge
unfolding result
no_challenge_holds = refl

-- A number that the device knows too.
abbrev number_shared : Situation
number_shared = record {
  file = written (parties ++ terms ++ setup ++ (learns dev the_number ∷ ask) ++ (challenge oem request the_credential ∷ []));
  gives = ran (fine 5 (24 ∷ [])) [] 5 1 0;
}

number_shared_holds : Holds number_shared
unfolding result
number_shared_holds = refl

-- Credentials that are not the one called for. Terms: 15 has the IAK in place of its hash, 17 the EK's hash (16), 18 the IAK in place of the EK.
abbrev other_credentials : Situation
other_credentials = record {
  file =
      written
      (parties
      ++ terms
      ++ (credential iak the_number ek ∷ hash ek ∷ credential 16 the_number ek ∷ credential iak_hash the_number iak ∷ [])
      ++ setup
      ++ ask
      ++ (challenge oem request 15 ∷ challenge oem request 17 ∷ challenge oem request 18 ∷ []));
  gives = ran (fine 5 (27 ∷ 27 ∷ 27 ∷ [])) [] 5 3 0;
}

other_credentials_holds : Holds other_credentials
unfolding result
other_credentials_holds = refl

-- An LAK that is not Restricted, and another attested by it. Nobody knows the first one's certificate, so all that would name it fails.
abbrev unrestricted_lak : Situation
unrestricted_lak = record {
  file = asking (under_iak 0x40 0x0A owner owner_key ∷ under 0 an_lak ∷ []) [] [];
  gives = ran (fine 16 (23 ∷ 14 ∷ 0 ∷ 14 ∷ 14 ∷ 17 ∷ 14 ∷ 14 ∷ 14 ∷ [])) ((iak_certificate, ek_certificate, 1) ∷ []) 17 8 1;
}

unrestricted_lak_holds : Holds unrestricted_lak
unfolding result
unrestricted_lak_holds = refl

-- The same LAK certificate again.
abbrev same_lak : Situation
same_lak = record {
  file = asking (an_lak ∷ []) [] (issue 0x40 owner (nth_request 0) (nth_certificate 0) ∷ []);
  gives = ran (fine 17 (28 ∷ [])) ((iak_certificate, ek_certificate, 1) ∷ (nth_certificate 0, iak_certificate, 2) ∷ []) 17 1 2;
}

same_lak_holds : Holds same_lak
unfolding result
same_lak_holds = refl

-- Command 16, the 40 of the honest LAK, with other ledgers. It does not ask, under any number, whether its parent is listed; and under a
-- parent of depth 7 it issues, under one of depth 8 it does not.
abbrev lak_issued : List Entry → List ℕ
lak_issued entries = outcomes_with entries 16 (load (asking (an_lak ∷ []) [] []))

abbrev iak_at : ℕ → List Entry
iak_at depth = record { certificate = iak_certificate; parent = ek_certificate; depth = depth } ∷ []

parent_unasked : lak_issued [] ≡ 0 ∷ []
unfolding result outcomes_with with_ledger
parent_unasked = refl

depth_8_issued : lak_issued (iak_at 7) ≡ 0 ∷ []
unfolding result outcomes_with with_ledger
depth_8_issued = refl

depth_9_refused : lak_issued (iak_at 8) ≡ 29 ∷ []
unfolding result outcomes_with with_ledger
depth_9_refused = refl

-- Command 8, the 3F of the honest IAK, with other ledgers (request 3 of document 02). Terms: 15 another EK, 16 its certificate; 17 another
-- certificate of the first EK; 18 and 19 certificates with the IAK's Subject, 20 one with another.
abbrev iak_issued : List Entry → List ℕ
iak_issued entries =
    outcomes_with entries 8
    (load
    (written
    (parties
    ++ terms
    ++ (public_key 5 0x0D
    ∷ certificate 15 (tpm 7) maker_key
    ∷ certificate ek (tpm 6) maker_key
    ∷ certificate 15 (device 8) oem_key
    ∷ certificate ek (device 8) oem_key
    ∷ certificate 15 (device 9) oem_key
    ∷ [])
    ++ setup
    ++ enrolled)))

abbrev entry_under : ℕ → ℕ → ℕ → Entry
entry_under parent depth c = record { certificate = c; parent = parent; depth = depth }

-- the Subject under another EK
other_ek_lem : iak_issued (entry_under 16 1 18 ∷ []) ≡ 31 ∷ []
unfolding result outcomes_with with_ledger
other_ek_lem = refl

-- the same, two steps down: the end of the path counts, and each entry
other_ek_below : iak_issued (entry_under 17 1 19 ∷ entry_under 16 1 20 ∷ entry_under 20 2 18 ∷ []) ≡ 31 ∷ []
unfolding result outcomes_with with_ledger
other_ek_below = refl

-- under the same EK, by another certificate of it
same_ek_lem : iak_issued (entry_under 17 1 18 ∷ entry_under 18 2 19 ∷ []) ≡ 0 ∷ []
unfolding result outcomes_with with_ledger
same_ek_lem = refl

-- another Subject under another EK
other_subject_lem : iak_issued (entry_under 16 1 20 ∷ []) ≡ 0 ∷ []
unfolding result outcomes_with with_ledger
other_subject_lem = refl

-- the certificate itself under another EK: 28 comes before 31
listed_first : iak_issued (entry_under 16 1 iak_certificate ∷ []) ≡ 28 ∷ []
unfolding result outcomes_with with_ledger
listed_first = refl

-- Slips at 40, 41 and 42, in a state that no file comes to: every party knows everything. An LAK (issued); an IDevID and an LDevID with 0B hex;
-- an IDevID under the LAK; an IDevID (issued); an LAK under the IDevID; an IDevID by the owner desk.
abbrev slips : List Asked
slips =
    an_lak
    ∷ under_iak 0x41 0x0B oem oem_key
    ∷ under_iak 0x42 0x0B owner owner_key
    ∷ under 0 an_idevid
    ∷ an_idevid
    ∷ under 4 an_lak
    ∷ under_iak 0x41 0x0A owner owner_key
    ∷ []

slips_refused : outcomes_knowing (load (with_owner (all_terms 0 slips) (all_held 0 slips) (issuing 0 slips))) ≡ 0 ∷ 23 ∷ 23 ∷ 21 ∷ 0 ∷ 23 ∷ 13 ∷ []
unfolding result outcomes_knowing
slips_refused = refl

-- 43 (request 4 of document 02), in a state that no file comes to: every party knows everything, and every credential is open with the request
-- before it. Terms: 0 the desk's key, 1 and 2 EKs, 3 and 4 their certificates, 5 a number; then four IAKs of five terms each, the key, the 17,
-- the request, which is not signed, the credential and the certificate. The second has the first's Subject and the other EK.
abbrev open_iak : ℕ → ℕ → List Bytes
open_iak n endorsement =
    public_key (10 + n) 0x0B
    ∷ idevid_request (device 8) endorsement (6 + n * 5)
    ∷ pair (7 + n * 5) (7 + n * 5)
    ∷ credential 1 5 (6 + n * 5)
    ∷ certificate (6 + n * 5) (device 8) 0
    ∷ []

abbrev open_pair : ℕ → List ℕ
open_pair n = (9 + n * 5) ∷ (10 + n * 5) ∷ []

-- The second fails after the first, which is not issued; then the first alone; then the third and the fourth, in this order.
abbrev together : Bytes
together =
    written
    ((an_oem_desk ∷ a_device ∷ private_key 1 0x0A ∷ public_key 2 0x0D ∷ public_key 3 0x0D ∷ certificate 1 (tpm 7) 0 ∷ certificate 2 (tpm 7) 0 ∷ number 9 ∷ [])
    ++ open_iak 0 3
    ++ open_iak 1 4
    ++ open_iak 2 3
    ++ open_iak 3 3
    ++ (holds 0 0
    ∷ signs_with 0 0
    ∷ issue_iaks 0 1 (open_pair 0 ++ open_pair 1 ++ no_pair ++ no_pair)
    ∷ issue_iaks 0 1 (no_pair ++ open_pair 0 ++ no_pair ++ no_pair)
    ∷ issue_iaks 0 1 (open_pair 2 ++ no_pair ++ no_pair ++ open_pair 3)
    ∷ []))

together_issued : result_open (load together) ≡ (31 ∷ 0 ∷ 0 ∷ [], (10, 3, 1) ∷ (20, 3, 1) ∷ (25, 3, 1) ∷ [])
unfolding result all_open result_open
together_issued = refl

-- A Restricted key that signs a private key of its TPM, itself.
abbrev private_signed : Situation
private_signed = record { file = written (a_device ∷ private_key 5 0x0B ∷ signature 0 0 ∷ holds 0 0 ∷ sign 0 1 ∷ []); gives = ran (17 ∷ []) [] 0 1 0 }

private_signed_holds : Holds private_signed
unfolding result
private_signed_holds = refl

-- Registers and quotes (request 6 of document 02). Parties: two devices and a desk. Terms: 0 the 1B of register 5, 1 a
-- number, 2 and 3 the first device's key, 4 the other's; 5 the pair of 0 and 2, 6 its hash, which register 5 shows once
-- extended; 7 the quote body of 6, signed by either in 8 and 9; 10 that of 0, signed by the other in 11; 12 the hash of
-- 7, signed in 13; 14 a pair that names 6.
abbrev attesting : List Bytes → Bytes
attesting commands =
    written
    ((a_device ∷ a_device ∷ an_owner_desk ∷ [])
    ++ (register 5
    ∷ number 9
    ∷ public_key 5 0x0B
    ∷ private_key 5 0x0B
    ∷ private_key 6 0x0B
    ∷ pair 0 2
    ∷ hash 5
    ∷ quote_body 5 6 1
    ∷ signature 7 3
    ∷ signature 7 4
    ∷ quote_body 5 0 1
    ∷ signature 10 4
    ∷ hash 7
    ∷ signature 12 3
    ∷ pair 6 2
    ∷ [])
    ++ (learns 0 1 ∷ learns 0 2 ∷ learns 1 1 ∷ holds 0 3 ∷ holds 1 4 ∷ [])
    ++ commands)

-- A quote of a value before the register shows it, and then.
abbrev quoted_before : Situation
quoted_before = record { file = attesting (quote 0 8 ∷ extend 0 5 6 ∷ quote 0 8 ∷ []); gives = ran (33 ∷ 0 ∷ 0 ∷ []) [] 2 1 0 }

quoted_before_holds : Holds quoted_before
unfolding result
quoted_before_holds = refl

-- The same extension again: the old value is gone.
abbrev extended_again : Situation
extended_again = record { file = attesting (extend 0 5 6 ∷ extend 0 5 6 ∷ []); gives = ran (0 ∷ 33 ∷ []) [] 1 1 0 }

extended_again_holds : Holds extended_again
unfolding result
extended_again_holds = refl

-- The other device's register still shows its 1B.
abbrev other_register : Situation
other_register = record { file = attesting (extend 0 5 6 ∷ quote 1 9 ∷ quote 1 11 ∷ []); gives = ran (0 ∷ 33 ∷ 0 ∷ []) [] 2 1 0 }

other_register_holds : Holds other_register
unfolding result
other_register_holds = refl

-- An extension teaches nothing: a pair that names its r.
abbrev not_learnt : Situation
not_learnt = record { file = attesting (extend 0 5 6 ∷ make_pair 0 14 ∷ []); gives = ran (0 ∷ 14 ∷ []) [] 1 1 0 }

not_learnt_holds : Holds not_learnt
unfolding result
not_learnt_holds = refl

-- Hash of a 1C signed by a Restricted key.
abbrev quote_hashed : Situation
quote_hashed = record { file = attesting (extend 0 5 6 ∷ quote 0 8 ∷ make_hash 0 12 ∷ sign 0 13 ∷ []); gives = ran (fine 3 (17 ∷ [])) [] 3 1 0 }

quote_hashed_holds : Holds quote_hashed
unfolding result
quote_hashed_holds = refl

-- 14 before 33: the other device does not know term 2, and register 4 is empty.
abbrev unknown_first : Situation
unknown_first = record { file = attesting (extend 1 4 6 ∷ []); gives = ran (14 ∷ []) [] 0 1 0 }

unknown_first_holds : Holds unknown_first
unfolding result
unknown_first_holds = refl

-- A quote by a key that is not Restricted. Terms: 2 the key, 3 the quote body of the 1B, 4 signed by it.
abbrev unrestricted_quote : Situation
unrestricted_quote = record {
  file =
      written
      (a_device
      ∷ register 5
      ∷ number 9
      ∷ private_key 5 0x0A
      ∷ quote_body 5 0 1
      ∷ signature 3 2
      ∷ learns 0 1
      ∷ holds 0 2
      ∷ quote 0 4
      ∷ []);
  gives = ran (16 ∷ []) [] 0 1 0;
}

unrestricted_quote_holds : Holds unrestricted_quote
unfolding result
unrestricted_quote_holds = refl

-- What the registers of a device and of a desk show before the commands.
device_starts : shown_by 0 0 5 (load (attesting [])) ≡ 0
unfolding result shown_by
device_starts = refl

desk_shows_nothing : shown_by 0 2 5 (load (attesting [])) ≡ 0xFFFF
unfolding result shown_by
desk_shows_nothing = refl

-- A desk that sends a number.
abbrev desk_sends : Situation
desk_sends = record { file = written (parties ++ terms ++ setup ++ (send oem dev the_number ∷ [])); gives = ran (13 ∷ []) [] 0 1 0 }

desk_sends_holds : Holds desk_sends
unfolding result
desk_sends_holds = refl

-- A desk that does 33, knowing all three. Term 15: a credential of the IAK, the number and the EK.
abbrev desk_makes : Situation
desk_makes = record {
  file =
      written
      (parties
      ++ terms
      ++ (credential iak the_number ek ∷ [])
      ++ setup
      ++ (learns oem iak ∷ learns oem ek ∷ make_credential oem 15 ∷ []));
  gives = ran (13 ∷ []) [] 0 1 0;
}

desk_makes_holds : Holds desk_makes
unfolding result
desk_makes_holds = refl

-- A FixedTPM key held by two: the second 21, at byte 12.
abbrev held_twice : Situation
held_twice = record { file = written (a_device ∷ a_device ∷ private_key 5 0x08 ∷ holds 0 0 ∷ holds 1 0 ∷ []); gives = not_loaded 11 12 }

held_twice_holds : Holds held_twice
unfolding result
held_twice_holds = refl

-- A 22 for a device, at byte 10.
abbrev device_signer : Situation
device_signer = record { file = written (a_device ∷ private_key 5 0x0A ∷ holds 0 0 ∷ signs_with 0 0 ∷ []); gives = not_loaded 12 10 }

device_signer_holds : Holds device_signer
unfolding result
device_signer_holds = refl

-- The desk's stock of numbers (request 12 of document 02), after a challenge whose credential it has not sent: of terms 15 to 17, numbers that it
-- knows, the device knows 16 too; number 7 is used. Two numbers are no whole board of three IAKs.
abbrev pub stocked : Bytes
stocked =
    written
    (parties
    ++ terms
    ++ (number 20 ∷ number 21 ∷ number 22 ∷ [])
    ++ setup
    ++ (learns oem 15 ∷ learns oem 16 ∷ learns dev 16 ∷ learns oem 17 ∷ [])
    ++ ask
    ++ (challenge oem request the_credential ∷ []))

stocked_gives : boards stocked oem 3 ≡ success (0 ∷ 2 ∷ [])
unfolding result boards
stocked_gives = refl

-- No buffers and no IAKs per board: 1 and not 39.
unlent : Lent
unlent = record { state = []; ledger = []; outcomes = []; registers = [] }

unlent_refused : stock_answer [] unlent 0 0 ≡ refusal 1 0
unfolding unlent long_enough ask_answer stock_answer
unlent_refused = refl

-- At 39, too, the buffers are as Run leaves them.
left_at_39 : (bytes : Bytes) (lent : Lent) → stock_leaves bytes lent 0 0 ≡ run_leaves bytes command_limit lent
unfolding stock_leaves
left_at_39 bytes lent = refl
