-- The numbers of document 01 that the code's enums stand for.
use Rattle.std.specs.Prelude.{Result, Ok, Err, ℕ}
use Rattle.rules.specs.declared.Refusal.{Refusal}
use Rattle.rules.specs.declared.Refusal.TheVariants as refusal
use Rattle.rules.specs.declared.Role.{Role}
use Rattle.rules.specs.declared.Role.TheVariants as role
use Rattle.rules.specs.declared.TermKind.{TermKind}
use Rattle.rules.specs.declared.TermKind.TheVariants as kind
use Rattle.rules.specs.Limits.{device, tpm_maker, oem_desk, owner_desk}

abbrev pub role_number : Role → ℕ
role_number role.Device = device
role_number role.TpmMaker = tpm_maker
role_number role.OemDesk = oem_desk
role_number role.OwnerDesk = owner_desk

-- of a refusal (Refusals.antt)
abbrev pub number_of : Refusal → ℕ
number_of refusal.BufferShort = 1
number_of refusal.FileLong = 2
number_of refusal.KindUnknown = 3
number_of refusal.CutShort = 4
number_of refusal.SectionOrder = 5
number_of refusal.TooMany = 6
number_of refusal.FieldRange = 7
number_of refusal.TermKind = 8
number_of refusal.TermAlike = 9
number_of refusal.NotTaught = 10
number_of refusal.NotHeldAlone = 11
number_of refusal.NotASigner = 12
number_of refusal.RoleForbids = 13
number_of refusal.InputUnknown = 14
number_of refusal.HalfNotHeld = 15
number_of refusal.AttributesForbid = 16
number_of refusal.NoTicket = 17
number_of refusal.CheckFalse = 18
number_of refusal.RequestForm = 19
number_of refusal.NoProof = 20
number_of refusal.CertificateSigner = 21
number_of refusal.KeyAttributes = 23
number_of refusal.NumberTaken = 24
number_of refusal.CredentialNotOpen = 25
number_of refusal.PartyReturning = 26
number_of refusal.NotCalledFor = 27
number_of refusal.IssuedAlready = 28
number_of refusal.TooDeep = 29
number_of refusal.NotInLedger = 30
number_of refusal.SubjectOfAnotherEk = 31
number_of refusal.PairsEmptyOrAlike = 32
number_of refusal.RegisterShowsOther = 33
number_of refusal.NoBoards = 39

-- of an outcome: 0 where nothing is refused
abbrev pub number_in : {A : Type 0} → Result A Refusal → ℕ
number_in (Ok _) = 0
number_in (Err r) = number_of r

-- of a kind of terms, its byte
abbrev pub kind_number : TermKind → ℕ
kind_number kind.PublicKey = 0x10
kind_number kind.PrivateKey = 0x11
kind_number kind.Hash = 0x12
kind_number kind.Signature = 0x13
kind_number kind.Attest = 0x14
kind_number kind.Credential = 0x15
kind_number kind.Number = 0x16
kind_number kind.IdevidRequest = 0x17
kind_number kind.LdevidRequest = 0x18
kind_number kind.Certificate = 0x19
kind_number kind.Pair = 0x1A
kind_number kind.Register = 0x1B
kind_number kind.Quote = 0x1C
