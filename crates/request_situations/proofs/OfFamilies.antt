-- Situations of the families (request 1 of document 02) as one table, each computed on the rules: what is issued, parents, what is issued already, depths.
use mathlib.Core.Path.{refl}
use mathlib.Core.List.{List, [], ◌∷◌, ◌++◌}
use Prim.Native.Nat.{◌+◌}
use Rattle.rules.proofs.Computed.{ran, not_loaded, result}
use Rattle.rules.proofs.Records.{written, a_device, signature, ldevid_request, hash, pair, certify, make_ldevid_request, make_hash, sign, make_pair, send, issue}
use Rattle.rules.proofs.Situations.{Situation, Holds, AllHold, fine, oem, dev, owner, oem_key, owner_key, iak_certificate, ek_certificate, Asked, nth, nth_request, nth_certificate, under_iak, under, an_lak, an_idevid, an_ldevid, asking, laks, eight_deep}

-- An IAK, an LAK, an IDevID and an LDevID of one board: the IDevID under the IAK, the LDevID under the LAK.
abbrev pub four_families : Situation
four_families = record {
  file = asking (an_lak ∷ an_idevid ∷ under 0 an_ldevid ∷ []) [] [];
  gives = ran (fine 33 []) ((iak_certificate, ek_certificate, 1) ∷ (nth_certificate 0, iak_certificate, 2) ∷ (nth_certificate 1, iak_certificate, 2) ∷ (nth_certificate 2, nth_certificate 0, 3) ∷ []) 33 0 4;
}

pub four_families_holds : Holds four_families
unfolding result
four_families_holds = refl

-- Each asked for under the other's attributes: an LAK with 0A hex, an IDevID and an LDevID with 0B hex.
abbrev pub others_attributes : Situation
others_attributes = record {
  file = asking (under_iak 0x40 0x0A owner owner_key ∷ under_iak 0x41 0x0B oem oem_key ∷ under_iak 0x42 0x0B owner owner_key ∷ []) [] [];
  gives = ran (fine 16 (23 ∷ fine 7 (23 ∷ fine 7 (23 ∷ [])))) ((iak_certificate, ek_certificate, 1) ∷ []) 30 3 1;
}

pub others_attributes_holds : Holds others_attributes
unfolding result
others_attributes_holds = refl

-- 41 with a parent that an owner desk signed, an LAK's certificate.
abbrev pub owners_parent : Situation
owners_parent = record {
  file = asking (an_lak ∷ under 0 an_idevid ∷ []) [] [];
  gives = ran (fine 24 (21 ∷ [])) ((iak_certificate, ek_certificate, 1) ∷ (nth_certificate 0, iak_certificate, 2) ∷ []) 24 1 2;
}

pub owners_parent_holds : Holds owners_parent
unfolding result
owners_parent_holds = refl

-- An IDevID certificate as the parent of an LAK, of an IDevID and of an LDevID. Its key attests: 32 asks for no Restricted key.
abbrev under_idevid : Asked → Asked
under_idevid a = record { kind = a.kind; attributes = a.attributes; desk = a.desk; desk_key = a.desk_key; parent = nth_certificate 0; parent_private = nth 0 + 1; parent_desk = oem }

abbrev pub idevid_parent : Situation
idevid_parent = record {
  file = asking (an_idevid ∷ under_idevid an_lak ∷ under_idevid an_idevid ∷ under_idevid an_ldevid ∷ []) [] [];
  gives = ran (fine 24 (23 ∷ fine 7 (23 ∷ fine 7 (23 ∷ [])))) ((iak_certificate, ek_certificate, 1) ∷ (nth_certificate 0, iak_certificate, 2) ∷ []) 38 3 2;
}

pub idevid_parent_holds : Holds idevid_parent
unfolding result
idevid_parent_holds = refl

-- 41 done by an owner desk and 42 by an OEM desk, each with a certificate that it would sign.
abbrev pub other_desks : Situation
other_desks = record {
  file = asking (under_iak 0x41 0x0A owner owner_key ∷ under_iak 0x42 0x0A oem oem_key ∷ []) [] [];
  gives = ran (fine 16 (13 ∷ fine 7 (13 ∷ []))) ((iak_certificate, ek_certificate, 1) ∷ []) 23 2 1;
}

pub other_desks_holds : Holds other_desks
unfolding result
other_desks_holds = refl

-- An LDevID certificate as a parent: 23, and 21 at 41, since an owner desk signed it.
abbrev pub ldevid_parent : Situation
ldevid_parent = record {
  file = asking (an_ldevid ∷ under 0 an_lak ∷ under 0 an_ldevid ∷ under 0 an_idevid ∷ []) [] [];
  gives = ran (fine 24 (23 ∷ fine 7 (23 ∷ fine 7 (21 ∷ [])))) ((iak_certificate, ek_certificate, 1) ∷ (nth_certificate 0, iak_certificate, 2) ∷ []) 38 3 2;
}

pub ldevid_parent_holds : Holds ldevid_parent
unfolding result
ldevid_parent_holds = refl

-- Issued already: the certificate of an LDevID asked for again by another 42, under an LAK. By 41 it is another desk's (27), by 40 the key's
-- attributes are another family's (23). Terms from 34 on: the LDevID's attest signed by the LAK, the 18, its hash, the hash signed, the request.
abbrev pub issued_already : Situation
issued_already = record {
  file =
      asking (an_ldevid ∷ an_lak ∷ [])
      (signature (nth 0 + 2) (nth 1 + 1) ∷ ldevid_request 34 (nth_certificate 1) ∷ hash 35 ∷ signature 36 (nth 0 + 1) ∷ pair 35 37 ∷ [])
      (send owner dev (nth_certificate 1)
      ∷ certify dev 34
      ∷ make_ldevid_request dev 35
      ∷ make_hash dev 36
      ∷ sign dev 37
      ∷ make_pair dev 38
      ∷ send dev owner 38
      ∷ send dev oem (nth_request 0)
      ∷ issue 0x42 owner 38 (nth_certificate 0)
      ∷ issue 0x41 oem (nth_request 0) (nth_certificate 0)
      ∷ issue 0x40 owner 38 (nth_certificate 0)
      ∷ []);
  gives = ran (fine 33 (28 ∷ 27 ∷ 23 ∷ [])) ((iak_certificate, ek_certificate, 1) ∷ (nth_certificate 0, iak_certificate, 2) ∷ (nth_certificate 1, iak_certificate, 2) ∷ []) 33 3 3;
}

pub issued_already_holds : Holds issued_already
unfolding result
issued_already_holds = refl

-- A kind above the last, at byte 2.
abbrev pub unknown_kind : Situation
unknown_kind = record { file = written (a_device ∷ (0x46 ∷ []) ∷ []); gives = not_loaded 3 2 }

pub unknown_kind_holds : Holds unknown_kind
unfolding result
unknown_kind_holds = refl

-- An LDevID at depth 8, under the last but one of seven LAKs, each under the one before; and at depth 9, under the last.
abbrev pub ldevid_depths : Situation
ldevid_depths = record {
  file = asking (laks 6 (under 5 an_ldevid ∷ under 6 an_ldevid ∷ [])) [] [];
  gives = ran (fine 80 (29 ∷ [])) (eight_deep ++ ((nth_certificate 7, nth_certificate 5, 8) ∷ [])) 80 1 9;
}

pub ldevid_depths_holds : Holds ldevid_depths
unfolding result
ldevid_depths_holds = refl

-- An IDevID beside three LAKs: depth 2.
abbrev pub idevid_at2 : Situation
idevid_at2 = record {
  file = asking (laks 2 (an_idevid ∷ [])) [] [];
  gives = ran (fine 41 []) ((14, 6, 1) ∷ (24, 14, 2) ∷ (33, 24, 3) ∷ (42, 33, 4) ∷ (nth_certificate 3, 14, 2) ∷ []) 41 0 5;
}

pub idevid_at2_holds : Holds idevid_at2
unfolding result
idevid_at2_holds = refl

-- What is issued, what is refused, depths.
abbrev pub of_families : List Situation
of_families =
    four_families
    ∷ others_attributes
    ∷ owners_parent
    ∷ idevid_parent
    ∷ ldevid_parent
    ∷ other_desks
    ∷ issued_already
    ∷ unknown_kind
    ∷ ldevid_depths
    ∷ idevid_at2
    ∷ []

pub table : AllHold of_families
table = (four_families_holds, (others_attributes_holds, (owners_parent_holds, (idevid_parent_holds, (ldevid_parent_holds, (other_desks_holds, (issued_already_holds, (unknown_kind_holds, (ldevid_depths_holds, (idevid_at2_holds, tt))))))))))
