-- Who made a signature that somebody knows: an accepted command that may make it, of a device whose TPM holds the key.
-- A command more that makes signatures is a constructor more of Making, with what it asked.
use Rattle.std.specs.Prelude.{◌≡◌, true, ℕ, ◌<◌}
use mathlib.Core.List.{List, Memᴰ}
use Rattle.rules.specs.Limits.{device}
use Rattle.rules.specs.Attributes as flag
use Rattle.rules.specs.Attributes.{has}
use Rattle.rules.specs.Term.{hash_kind, signature_kind, attest_kind, quote_kind}
use Rattle.rules.specs.File.{File, holds, Command, sign, certify, quote, role_of, kind, attributes, message, signing_key, attested_key, register_of, quoted_value}
use Rattle.rules.specs.Load.{loaded, load}
use Rattle.rules.specs.State.{State}
use Rattle.rules.specs.Run.{reached}
use Rattle.theorems.specs.Residency.{Known, Accepted, Held}
use Rattle.theorems.specs.QuoteLaws.{Restricted, Fixed}

-- what a command of the party that makes the signature u found in the state that it met
pub data Making (f : File) (s : State) (u p : ℕ) : Command → Type 0 where
  -- 31: under a Restricted key, a ticket for the message
  by_sign : (Restricted f u → (kind f (message f u) ≡ hash_kind) × (s.table p (message f u) ≡ true)) → Making f s u p (sign p u)
  -- 32: the attested key's private half
  by_certify : kind f (message f u) ≡ attest_kind → Held f p (attested_key f (message f u)) → Making f s u p (certify p u)
  -- 45: the register shows the value
  by_quote : kind f (message f u) ≡ quote_kind → s.registers p (register_of f (message f u)) ≡ quoted_value f (message f u) → Making f s u p (quote p u)

-- a command of the first n made it
pub record Made (f : File) (n u : ℕ) : Type 0 where
  pub ordinal : ℕ
  pub before : ordinal < n
  pub command : Command
  pub accepted : Accepted f ordinal command
  pub party : ℕ
  pub is_device : role_of f party ≡ device
  -- a 21 gave the key to the device's TPM
  pub held : Memᴰ (holds party (signing_key f u)) f.setup
  pub may_sign : has (attributes f (signing_key f u)) flag.sign ≡ true
  pub making : Making f (reached f ordinal) u party command

-- every signature that somebody knows was made
abbrev pub SignatureMade : Type 0
SignatureMade = (bytes : List ℕ) (f : File) → load bytes ≡ loaded f → (n p u : ℕ) → Known f n p u → kind f u ≡ signature_kind → Made f n u

-- under a FixedTPM key, by the one TPM that holds it
abbrev pub FixedMaker : Type 0
FixedMaker =
    (bytes : List ℕ) (f : File) → load bytes ≡ loaded f → (n u : ℕ) → Fixed f u → (m : Made f n u)
    → (q : ℕ) → Memᴰ (holds q (signing_key f u)) f.setup → q ≡ m.party

-- nobody knows one under a Restricted key over anything but a 12, a 14 or a 1C
abbrev pub OtherMade : Type 0
OtherMade =
    (bytes : List ℕ) (f : File) → load bytes ≡ loaded f → (n p u : ℕ) → Known f n p u → kind f u ≡ signature_kind → Restricted f u
    → (kind f (message f u) ≡ hash_kind → ⊥) → (kind f (message f u) ≡ attest_kind → ⊥) → (kind f (message f u) ≡ quote_kind → ⊥) → ⊥

pub record SignatureLaws : Type 0 where
  pub signature_made : SignatureMade
  pub fixed_maker : FixedMaker
  pub other_made : OtherMade
