-- Situations of the stock of numbers (request 12 of document 02) as one table, each computed on the rules: the numbers that desks have before,
-- during and after the enrolment of an IAK.
use mathlib.Core.Path.{◌≡◌, refl}
use mathlib.Core.List.{List, [], ◌∷◌, ◌++◌}
use Prim.Native.Nat.{ℕ}
use Rattle.rules.specs.Lent.{Answer, success, refusal}
use Rattle.rules.proofs.Computed.{result, boards}
use Rattle.rules.proofs.Records.{Bytes, written, an_owner_desk, an_oem_desk, number, learns, challenge, send}
use Rattle.rules.proofs.Situations.{oem, dev, parties, terms, setup, ask, enrolled, request, the_credential}

-- A file, a party, the IAKs per board, and what is answered.
pub record Question : Type 0 where
  pub file : Bytes
  pub party : ℕ
  pub iaks : ℕ
  pub gives : Answer

abbrev pub Holds : Question → Type 0
Holds x = boards x.file x.party x.iaks ≡ x.gives

abbrev pub AllHold : List Question → Type 0
AllHold [] = Unit {0}
AllHold (x ∷ xs) = Holds x × AllHold xs

-- parties after those of the enrolment, and numbers after its terms
abbrev maker : ℕ
maker = 1

abbrev owner : ℕ
owner = 3

abbrev other_oem : ℕ
other_oem = 4

-- The desk knows 15 and 17 alone, 16 with the other OEM desk; the device knows 18, the other desk 19, and nobody 20. The desk knows also the
-- number of the enrolment, 7.
abbrev planned : List Bytes → Bytes
planned commands =
    written
    (parties
    ++ (an_owner_desk ∷ an_oem_desk ∷ [])
    ++ terms
    ++ (number 20 ∷ number 21 ∷ number 22 ∷ number 23 ∷ number 24 ∷ number 25 ∷ [])
    ++ setup
    ++ (learns oem 15 ∷ learns oem 16 ∷ learns other_oem 16 ∷ learns oem 17 ∷ learns dev 18 ∷ learns other_oem 19 ∷ [])
    ++ commands)

-- Before the commands: three numbers.
abbrev before : Question
before = record { file = planned []; party = oem; iaks = 2; gives = success (1 ∷ 1 ∷ []) }

before_holds : Holds before
unfolding result boards
before_holds = refl

-- After the challenge: one is used, and its credential, which the desk alone knows, is no number.
abbrev challenged : Question
challenged = record { file = planned (ask ++ (challenge oem request the_credential ∷ [])); party = oem; iaks = 2; gives = success (1 ∷ 0 ∷ []) }

challenged_holds : Holds challenged
unfolding result boards
challenged_holds = refl

-- After the enrolment: the certificate was issued, and its number stays used.
abbrev after : Question
after = record { file = planned enrolled; party = oem; iaks = 1; gives = success (2 ∷ 0 ∷ []) }

after_holds : Holds after
unfolding result boards
after_holds = refl

-- More IAKs per board than there are numbers.
abbrev too_many : Question
too_many = record { file = planned enrolled; party = oem; iaks = 3; gives = success (0 ∷ 2 ∷ []) }

too_many_holds : Holds too_many
unfolding result boards
too_many_holds = refl

-- The other OEM desk's own stock, without the number that both know.
abbrev others : Question
others = record { file = planned enrolled; party = other_oem; iaks = 1; gives = success (1 ∷ 0 ∷ []) }

others_holds : Holds others
unfolding result boards
others_holds = refl

-- A number that the device sends to the desk is known to two.
abbrev sent_to_desk : Question
sent_to_desk = record { file = planned (send dev oem 18 ∷ []); party = oem; iaks = 4; gives = success (0 ∷ 3 ∷ []) }

sent_to_desk_holds : Holds sent_to_desk
unfolding result boards
sent_to_desk_holds = refl

-- A desk without a number: no board, nothing left over, and no refusal.
abbrev no_stock : Question
no_stock = record { file = written (an_oem_desk ∷ []); party = 0; iaks = 4; gives = success (0 ∷ 0 ∷ []) }

no_stock_holds : Holds no_stock
unfolding result boards
no_stock_holds = refl

-- 39: no IAKs per board; a device, a TPM maker, an owner desk; parties that are not declared.
abbrev refuses39 : ℕ → ℕ → Question
refuses39 party iaks = record { file = planned enrolled; party = party; iaks = iaks; gives = refusal 39 0 }

no_iaks_holds : Holds (refuses39 oem 0)
unfolding result boards
no_iaks_holds = refl

device_holds : Holds (refuses39 dev 1)
unfolding result boards
device_holds = refl

maker_holds : Holds (refuses39 maker 1)
unfolding result boards
maker_holds = refl

owner_holds : Holds (refuses39 owner 1)
unfolding result boards
owner_holds = refl

undeclared_holds : Holds (refuses39 5 1)
unfolding result boards
undeclared_holds = refl

beyond_holds : Holds (refuses39 255 1)
unfolding result boards
beyond_holds = refl

-- A file that does not load, by its second record: Run's refusal and not 39.
abbrev not_loaded : Question
not_loaded = record { file = written (an_oem_desk ∷ (0x99 ∷ []) ∷ []); party = 7; iaks = 0; gives = refusal 3 2 }

not_loaded_holds : Holds not_loaded
unfolding result boards
not_loaded_holds = refl

abbrev pub of_stock : List Question
of_stock =
    before
    ∷ challenged
    ∷ after
    ∷ too_many
    ∷ others
    ∷ sent_to_desk
    ∷ no_stock
    ∷ refuses39 oem 0
    ∷ refuses39 dev 1
    ∷ refuses39 maker 1
    ∷ refuses39 owner 1
    ∷ refuses39 5 1
    ∷ refuses39 255 1
    ∷ not_loaded
    ∷ []

pub table : AllHold of_stock
table = (before_holds, (challenged_holds, (after_holds, (too_many_holds, (others_holds, (sent_to_desk_holds, (no_stock_holds, (no_iaks_holds, (device_holds, (maker_holds, (owner_holds, (undeclared_holds, (beyond_holds, (not_loaded_holds, tt))))))))))))))
