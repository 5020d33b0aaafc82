-- The theorem of request 6 of document 02: "a known quote signed by a FixedTPM Restricted key means that its TPM's
-- register showed that value at some earlier command". A quote is a 13 over a 1C; its TPM is that of the device to
-- which a 21 gave the key; showed: in the state before that command.
use Rattle.std.specs.Prelude.{◌≡◌, true, ℕ, ◌<◌}
use mathlib.Core.List.{List, Memᴰ}
use Rattle.rules.specs.Limits.{device}
use Rattle.rules.specs.Attributes as flag
use Rattle.rules.specs.Attributes.{has}
use Rattle.rules.specs.Term.{signature_kind, quote_kind}
use Rattle.rules.specs.File.{File, holds, quote, role_of, kind, attributes, message, signing_key, register_of, quoted_value}
use Rattle.rules.specs.Load.{loaded, load}
use Rattle.theorems.specs.Residency.{Known, Accepted}
use Rattle.theorems.specs.RegisterLaws.{shows, Log}

-- the key that signed u is Restricted; it is FixedTPM
abbrev pub Restricted : File → ℕ → Type 0
Restricted f u = has (attributes f (signing_key f u)) flag.restricted ≡ true

abbrev pub Fixed : File → ℕ → Type 0
Fixed f u = has (attributes f (signing_key f u)) flag.fixed_tpm ≡ true

-- A quote u told the truth: one TPM alone holds its key, a device's, and the register showed the value when an accepted
-- 45 of that device, one of the first n commands, made the quote.
pub record Quoted (f : File) (n u : ℕ) : Type 0 where
  pub tpm : ℕ
  pub is_device : role_of f tpm ≡ device
  pub held : Memᴰ (holds tpm (signing_key f u)) f.setup
  pub only : (q : ℕ) → Memᴰ (holds q (signing_key f u)) f.setup → q ≡ tpm
  pub ordinal : ℕ
  pub before : ordinal < n
  pub made : Accepted f ordinal (quote tpm u)
  pub showed : shows f ordinal tpm (register_of f (message f u)) ≡ quoted_value f (message f u)

-- of every file that loads, every n, every party and every term
abbrev pub QuoteTrue : Type 0
QuoteTrue =
    (bytes : List ℕ) (f : File) → load bytes ≡ loaded f → (n p u : ℕ) → Known f n p u → kind f u ≡ signature_kind → kind f (message f u) ≡ quote_kind → Restricted f u → Fixed f u
    → Quoted f n u

-- and the quoted value is told back through accepted 44s of that device to the register's 1B
abbrev pub QuotedLog : Type 0
QuotedLog =
    (bytes : List ℕ) (f : File) → load bytes ≡ loaded f → (n u : ℕ) → kind f (message f u) ≡ quote_kind → (q : Quoted f n u)
    → Log f q.tpm (register_of f (message f u)) q.ordinal (quoted_value f (message f u))

pub record QuoteLaws : Type 0 where
  pub quote_true : QuoteTrue
  pub quoted_log : QuotedLog
