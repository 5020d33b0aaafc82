-- Situations of registers and quotes (request 6 of document 02) as two tables, each computed on the rules: what 44 and
-- 45 give, and what registers show after n commands.
use mathlib.Core.Path.{◌≡◌, refl}
use mathlib.Core.List.{List, [], ◌∷◌, ◌++◌}
use Prim.Native.Nat.{ℕ}
use Rattle.rules.specs.Limits.{empty_field}
use Rattle.rules.specs.Load.{load}
use Rattle.rules.proofs.Computed.{ran, not_loaded, result, shown_by}
use Rattle.rules.proofs.Records.{Bytes, written, a_device, a_tpm_maker, an_oem_desk, an_owner_desk, private_key, hash, signature, number, pair, register, quote_body, learns, holds, make_hash, sign, make_pair, send, extend, quote}
use Rattle.rules.proofs.Situations.{Situation, Holds, AllHold, fine}

-- parties: a device, another, and a desk of each kind and a TPM maker
abbrev dev : ℕ
dev = 0

abbrev other : ℕ
other = 1

abbrev owner : ℕ
owner = 2

abbrev maker : ℕ
maker = 3

abbrev oem : ℕ
oem = 4

abbrev parties : List Bytes
parties = a_device ∷ a_device ∷ an_owner_desk ∷ a_tpm_maker ∷ an_oem_desk ∷ []

-- the register that has a 1B, and one that has none
abbrev pcr : ℕ
pcr = 3

abbrev no_pcr : ℕ
no_pcr = 4

-- terms: the 1B; the number of a quote; two numbers that are measured; the device's and the other's attestation keys;
-- keys of the device that are not Restricted and that may not sign; a key that nobody holds
abbrev starting : ℕ
starting = 0

abbrev nonce : ℕ
nonce = 1

abbrev boot : ℕ
boot = 2

abbrev system : ℕ
system = 3

abbrev key : ℕ
key = 4

abbrev other_key : ℕ
other_key = 5

abbrev open_key : ℕ
open_key = 6

abbrev mute_key : ℕ
mute_key = 7

abbrev stray_key : ℕ
stray_key = 8

-- what the register shows after one extension and after two
abbrev once : ℕ
once = 10

abbrev twice : ℕ
twice = 12

-- quote bodies of the values of the register, and of the 1B in the register that has none
abbrev of_twice : ℕ
of_twice = 13

abbrev of_once : ℕ
of_once = 14

abbrev of_starting : ℕ
of_starting = 15

abbrev of_empty : ℕ
of_empty = 16

-- a number that nobody knows, and the quote body of the second value with it; a quote body of the private key
abbrev secret : ℕ
secret = 17

abbrev of_twice_unknown : ℕ
of_twice_unknown = 18

abbrev of_key : ℕ
of_key = 19

-- signatures, from term 20 on; the hash of a quote body is 31
abbrev quote_twice : ℕ
quote_twice = 20

abbrev quote_once : ℕ
quote_once = 21

abbrev quote_starting : ℕ
quote_starting = 22

abbrev quote_empty : ℕ
quote_empty = 23

abbrev quote_unknown : ℕ
quote_unknown = 24

abbrev quote_key : ℕ
quote_key = 25

abbrev other_twice : ℕ
other_twice = 26

abbrev other_starting : ℕ
other_starting = 27

abbrev open_twice : ℕ
open_twice = 28

abbrev mute_twice : ℕ
mute_twice = 29

abbrev stray_twice : ℕ
stray_twice = 30

abbrev body_hash : ℕ
body_hash = 31

abbrev signed_hash : ℕ
signed_hash = 32

abbrev signed_once : ℕ
signed_once = 33

abbrev terms : List Bytes
terms =
    register pcr
    ∷ number 1
    ∷ number 2
    ∷ number 3
    ∷ private_key 5 0x0B
    ∷ private_key 6 0x0B
    ∷ private_key 7 0x0A
    ∷ private_key 8 0x09
    ∷ private_key 9 0x0B
    ∷ pair starting boot
    ∷ hash 9
    ∷ pair once system
    ∷ hash 11
    ∷ quote_body pcr twice nonce
    ∷ quote_body pcr once nonce
    ∷ quote_body pcr starting nonce
    ∷ quote_body no_pcr starting nonce
    ∷ number 4
    ∷ quote_body pcr twice secret
    ∷ quote_body pcr key nonce
    ∷ signature of_twice key
    ∷ signature of_once key
    ∷ signature of_starting key
    ∷ signature of_empty key
    ∷ signature of_twice_unknown key
    ∷ signature of_key key
    ∷ signature of_twice other_key
    ∷ signature of_starting other_key
    ∷ signature of_twice open_key
    ∷ signature of_twice mute_key
    ∷ signature of_twice stray_key
    ∷ hash of_twice
    ∷ signature body_hash key
    ∷ signature once key
    ∷ []

-- the device knows what is measured, the other and the desk all but the second of it; all know the number of the quote
abbrev setup : List Bytes
setup =
    learns dev nonce
    ∷ learns dev boot
    ∷ learns dev system
    ∷ learns other nonce
    ∷ learns other boot
    ∷ learns owner nonce
    ∷ learns owner boot
    ∷ holds dev key
    ∷ holds other other_key
    ∷ holds dev open_key
    ∷ holds dev mute_key
    ∷ []

abbrev sheet : List Bytes → Bytes
sheet commands = written (parties ++ terms ++ setup ++ commands)

-- two extensions
abbrev measured : List Bytes
measured = extend dev pcr once ∷ extend dev pcr twice ∷ []

-- Extended twice and quoted; the quote goes to the desk.
abbrev pub quoted : Situation
quoted = record { file = sheet (measured ++ (quote dev quote_twice ∷ send dev owner quote_twice ∷ [])); gives = ran (fine 4 []) [] 4 0 0 }

pub quoted_holds : Holds quoted
unfolding result
quoted_holds = refl

-- Quotes of old values, and of what the register is yet to show.
abbrev pub old_value : Situation
old_value = record {
  file = sheet (quote dev quote_twice ∷ (measured ++ (quote dev quote_once ∷ quote dev quote_starting ∷ [])));
  gives = ran (33 ∷ 0 ∷ 0 ∷ 33 ∷ 33 ∷ []) [] 2 3 0;
}

pub old_value_holds : Holds old_value
unfolding result
old_value_holds = refl

-- Each value is quoted while the register shows it, the 1B too.
abbrev pub each_in_turn : Situation
each_in_turn = record {
  file = sheet (quote dev quote_starting ∷ extend dev pcr once ∷ quote dev quote_once ∷ extend dev pcr twice ∷ quote dev quote_twice ∷ []);
  gives = ran (fine 5 []) [] 5 0 0;
}

pub each_in_turn_holds : Holds each_in_turn
unfolding result
each_in_turn_holds = refl

-- Extensions on a value that the register does not show yet, or no longer.
abbrev pub stale_value : Situation
stale_value = record {
  file = sheet (extend dev pcr twice ∷ extend dev pcr once ∷ extend dev pcr once ∷ extend dev pcr twice ∷ extend dev pcr once ∷ []);
  gives = ran (33 ∷ 0 ∷ 33 ∷ 0 ∷ 33 ∷ []) [] 2 3 0;
}

pub stale_value_holds : Holds stale_value
unfolding result
stale_value_holds = refl

-- An empty register: neither extended nor quoted.
abbrev pub empty_register : Situation
empty_register = record { file = sheet (extend dev no_pcr once ∷ quote dev quote_empty ∷ []); gives = ran (33 ∷ 33 ∷ []) [] 0 2 0 }

pub empty_register_holds : Holds empty_register
unfolding result
empty_register_holds = refl

-- Another party's register: it still shows its 1B, and is moved by its own device.
abbrev pub other_register : Situation
other_register = record {
  file = sheet (measured ++ (quote other other_twice ∷ quote other other_starting ∷ extend other pcr once ∷ quote other other_starting ∷ quote dev quote_twice ∷ []));
  gives = ran (0 ∷ 0 ∷ 33 ∷ 0 ∷ 0 ∷ 33 ∷ 0 ∷ []) [] 5 2 0;
}

pub other_register_holds : Holds other_register
unfolding result
other_register_holds = refl

-- Desks and a TPM maker at 44 and 45.
abbrev pub no_device : Situation
no_device = record {
  file =
      sheet
      (extend owner pcr once
      ∷ quote owner quote_starting
      ∷ extend maker pcr once
      ∷ quote maker quote_starting
      ∷ extend oem pcr once
      ∷ quote oem quote_starting
      ∷ []);
  gives = ran (13 ∷ 13 ∷ 13 ∷ 13 ∷ 13 ∷ 13 ∷ []) [] 0 6 0;
}

pub no_device_holds : Holds no_device
unfolding result
no_device_holds = refl

-- 14, 15 and 16 before 33: the register shows none of these old and quoted values.
abbrev pub before33 : Situation
before33 = record {
  file = sheet (extend other pcr twice ∷ quote dev quote_unknown ∷ quote dev stray_twice ∷ quote dev open_twice ∷ quote dev mute_twice ∷ []);
  gives = ran (14 ∷ 14 ∷ 15 ∷ 16 ∷ 16 ∷ []) [] 0 5 0;
}

pub before33_holds : Holds before33
unfolding result
before33_holds = refl

-- And where it shows the value: an unknown number, a key that is not held (another device's too), one that is not
-- Restricted, one that may not sign.
abbrev pub shown_refused : Situation
shown_refused = record {
  file = sheet (measured ++ (quote dev quote_unknown ∷ quote dev stray_twice ∷ quote dev other_twice ∷ quote dev open_twice ∷ quote dev mute_twice ∷ []));
  gives = ran (0 ∷ 0 ∷ 14 ∷ 15 ∷ 15 ∷ 16 ∷ 16 ∷ []) [] 2 5 0;
}

pub shown_refused_holds : Holds shown_refused
unfolding result
shown_refused_holds = refl

-- A key that is not Restricted signs a known quote body by 31: such a quote says nothing of a register.
abbrev pub signed_by_open_key : Situation
signed_by_open_key = record {
  file = sheet (sign dev open_twice ∷ (measured ++ (quote dev quote_twice ∷ sign dev open_twice ∷ [])));
  gives = ran (14 ∷ 0 ∷ 0 ∷ 0 ∷ 0 ∷ []) [] 4 1 0;
}

pub signed_by_open_key_holds : Holds signed_by_open_key
unfolding result
signed_by_open_key_holds = refl

-- Under a Restricted key 31 signs neither a quote body nor its hash.
abbrev pub hashed_quote : Situation
hashed_quote = record {
  file = sheet (measured ++ (sign dev quote_twice ∷ quote dev quote_twice ∷ make_hash dev body_hash ∷ sign dev signed_hash ∷ []));
  gives = ran (0 ∷ 0 ∷ 17 ∷ 0 ∷ 0 ∷ 17 ∷ []) [] 4 2 0;
}

pub hashed_quote_holds : Holds hashed_quote
unfolding result
hashed_quote_holds = refl

-- An extension teaches nothing and gives no ticket: a pair that names its r, and r signed by a Restricted key. A quote
-- teaches the value.
abbrev pub teaches_nothing : Situation
teaches_nothing = record {
  file = sheet (extend dev pcr once ∷ make_pair dev 11 ∷ sign dev signed_once ∷ quote dev quote_once ∷ make_pair dev 11 ∷ sign dev signed_once ∷ []);
  gives = ran (0 ∷ 14 ∷ 17 ∷ 0 ∷ 0 ∷ 17 ∷ []) [] 3 3 0;
}

pub teaches_nothing_holds : Holds teaches_nothing
unfolding result
teaches_nothing_holds = refl

-- A quote of a private key: no register shows one.
abbrev pub private_value : Situation
private_value = record { file = sheet (quote dev quote_key ∷ measured ++ (quote dev quote_key ∷ [])); gives = ran (33 ∷ 0 ∷ 0 ∷ 33 ∷ []) [] 2 2 0 }

pub private_value_holds : Holds private_value
unfolding result
private_value_holds = refl

-- Loading: register 23 is the last; 24 in a 1B, a 1C and a 44.
abbrev small : List Bytes → Bytes
small more = written (a_device ∷ number 1 ∷ pair 0 0 ∷ hash 1 ∷ more)

abbrev pub last_register : Situation
last_register = record { file = small (register 23 ∷ quote_body 23 0 0 ∷ extend 0 23 2 ∷ []); gives = ran (14 ∷ []) [] 0 1 0 }

pub last_register_holds : Holds last_register
unfolding result
last_register_holds = refl

abbrev pub register24 : Situation
register24 = record { file = small (register 24 ∷ []); gives = not_loaded 7 13 }

pub register24_holds : Holds register24
unfolding result
register24_holds = refl

abbrev pub quote24 : Situation
quote24 = record { file = small (quote_body 24 0 0 ∷ []); gives = not_loaded 7 13 }

pub quote24_holds : Holds quote24
unfolding result
quote24_holds = refl

abbrev pub extend24 : Situation
extend24 = record { file = small (extend 0 24 2 ∷ []); gives = not_loaded 7 13 }

pub extend24_holds : Holds extend24
unfolding result
extend24_holds = refl

-- Other kinds of terms: the number of a 1C; at 44 an r that is no 12, and one over no pair; at 45 an r that is no 13,
-- and one over no 1C. Two 1Bs of one register are alike.
abbrev pub quote_of_no_number : Situation
quote_of_no_number = record { file = small (quote_body 5 0 1 ∷ []); gives = not_loaded 8 13 }

pub quote_of_no_number_holds : Holds quote_of_no_number
unfolding result
quote_of_no_number_holds = refl

abbrev pub extend_no_hash : Situation
extend_no_hash = record { file = small (extend 0 5 1 ∷ []); gives = not_loaded 8 13 }

pub extend_no_hash_holds : Holds extend_no_hash
unfolding result
extend_no_hash_holds = refl

abbrev pub extend_no_pair : Situation
extend_no_pair = record { file = small (hash 0 ∷ extend 0 5 3 ∷ []); gives = not_loaded 8 16 }

pub extend_no_pair_holds : Holds extend_no_pair
unfolding result
extend_no_pair_holds = refl

abbrev pub quote_no_signature : Situation
quote_no_signature = record { file = small (quote_body 5 0 0 ∷ quote 0 3 ∷ []); gives = not_loaded 8 19 }

pub quote_no_signature_holds : Holds quote_no_signature
unfolding result
quote_no_signature_holds = refl

abbrev pub quote_no_body : Situation
quote_no_body = record { file = small (private_key 5 0x0B ∷ signature 2 3 ∷ quote 0 4 ∷ []); gives = not_loaded 8 22 }

pub quote_no_body_holds : Holds quote_no_body
unfolding result
quote_no_body_holds = refl

abbrev pub register_twice : Situation
register_twice = record { file = small (register 5 ∷ register 5 ∷ []); gives = not_loaded 9 15 }

pub register_twice_holds : Holds register_twice
unfolding result
register_twice_holds = refl

-- A kind above the last of the terms.
abbrev pub kind1_d : Situation
kind1_d = record { file = written (a_device ∷ (0x1D ∷ 0 ∷ []) ∷ []); gives = not_loaded 3 2 }

pub kind1_d_holds : Holds kind1_d
unfolding result
kind1_d_holds = refl

abbrev pub of_registers : List Situation
of_registers =
    quoted
    ∷ old_value
    ∷ each_in_turn
    ∷ stale_value
    ∷ empty_register
    ∷ other_register
    ∷ no_device
    ∷ before33
    ∷ shown_refused
    ∷ signed_by_open_key
    ∷ hashed_quote
    ∷ teaches_nothing
    ∷ private_value
    ∷ last_register
    ∷ register24
    ∷ quote24
    ∷ extend24
    ∷ quote_of_no_number
    ∷ extend_no_hash
    ∷ extend_no_pair
    ∷ quote_no_signature
    ∷ quote_no_body
    ∷ register_twice
    ∷ kind1_d
    ∷ []

pub table : AllHold of_registers
table = (quoted_holds, (old_value_holds, (each_in_turn_holds, (stale_value_holds, (empty_register_holds, (other_register_holds, (no_device_holds, (before33_holds, (shown_refused_holds, (signed_by_open_key_holds, (hashed_quote_holds, (teaches_nothing_holds, (private_value_holds, (last_register_holds, (register24_holds, (quote24_holds, (extend24_holds, (quote_of_no_number_holds, (extend_no_hash_holds, (extend_no_pair_holds, (quote_no_signature_holds, (quote_no_body_holds, (register_twice_holds, (kind1_d_holds, tt))))))))))))))))))))))))

-- A file, how many commands are run, a party, a register, and what it shows then.
pub record Shown : Type 0 where
  pub file : Bytes
  pub n : ℕ
  pub party : ℕ
  pub register : ℕ
  pub shows : ℕ

abbrev pub Shows : Shown → Type 0
Shows x = shown_by x.n x.party x.register (load x.file) ≡ x.shows

abbrev pub AllShow : List Shown → Type 0
AllShow [] = Unit {0}
AllShow (x ∷ xs) = Shows x × AllShow xs

-- extended, the same again (refused), extended further
abbrev moved : Bytes
moved = sheet (extend dev pcr once ∷ extend dev pcr once ∷ extend dev pcr twice ∷ [])

abbrev after : ℕ → ℕ → ℕ → ℕ → Shown
after n party register shows = record { file = moved; n = n; party = party; register = register; shows = shows }

-- n = 0: each device's register shows its 1B, and one without a 1B nothing; a desk, a TPM maker and a party that is not
-- declared show nothing.
at_start_shows : Shows (after 0 dev pcr starting)
unfolding result shown_by
at_start_shows = refl

other_at_start_shows : Shows (after 0 other pcr starting)
unfolding result shown_by
other_at_start_shows = refl

empty_at_start_shows : Shows (after 0 dev no_pcr empty_field)
unfolding result shown_by
empty_at_start_shows = refl

desk_shows : Shows (after 0 owner pcr empty_field)
unfolding result shown_by
desk_shows = refl

maker_shows : Shows (after 0 maker pcr empty_field)
unfolding result shown_by
maker_shows = refl

undeclared_shows : Shows (after 0 7 pcr empty_field)
unfolding result shown_by
undeclared_shows = refl

-- without 1Bs, and in a file without records
abbrev without : Bytes → Shown
without file = record { file = file; n = 0; party = 0; register = 0; shows = empty_field }

without_shows : Shows (without (small []))
unfolding result shown_by
without_shows = refl

no_records_shows : Shows (without [])
unfolding result shown_by
no_records_shows = refl

-- Extended; the refused one moves nothing; extended further; more commands than there are. The other's register, and
-- the empty one, stay.
after_one_shows : Shows (after 1 dev pcr once)
unfolding result shown_by
after_one_shows = refl

after_refused_shows : Shows (after 2 dev pcr once)
unfolding result shown_by
after_refused_shows = refl

after_three_shows : Shows (after 3 dev pcr twice)
unfolding result shown_by
after_three_shows = refl

after_more_shows : Shows (after 9 dev pcr twice)
unfolding result shown_by
after_more_shows = refl

other_after_shows : Shows (after 3 other pcr starting)
unfolding result shown_by
other_after_shows = refl

empty_after_shows : Shows (after 3 dev no_pcr empty_field)
unfolding result shown_by
empty_after_shows = refl

abbrev pub of_shown : List Shown
of_shown =
    after 0 dev pcr starting
    ∷ after 0 other pcr starting
    ∷ after 0 dev no_pcr empty_field
    ∷ after 0 owner pcr empty_field
    ∷ after 0 maker pcr empty_field
    ∷ after 0 7 pcr empty_field
    ∷ without (small [])
    ∷ without []
    ∷ after 1 dev pcr once
    ∷ after 2 dev pcr once
    ∷ after 3 dev pcr twice
    ∷ after 9 dev pcr twice
    ∷ after 3 other pcr starting
    ∷ after 3 dev no_pcr empty_field
    ∷ []

pub shown_table : AllShow of_shown
shown_table = (at_start_shows, (other_at_start_shows, (empty_at_start_shows, (desk_shows, (maker_shows, (undeclared_shows, (without_shows, (no_records_shows, (after_one_shows, (after_refused_shows, (after_three_shows, (after_more_shows, (other_after_shows, (empty_after_shows, tt))))))))))))))
