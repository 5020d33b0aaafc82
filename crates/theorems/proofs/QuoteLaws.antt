-- A quote that somebody knows is true, by who made it: under a Restricted key a 45 alone.
-- Assumes nothing.
use mathlib.Core.Path.{◌≡◌, refl, sym, subst, ◌∙◌}
use Prim.Native.Nat.{ℕ}
use Rattle.rules.specs.Term.{quote_kind}
use Rattle.rules.specs.File.{File, Command, quote, kind, message, register_of, quoted_value}
use Rattle.rules.specs.State.{State}
use Rattle.theorems.specs.Residency.{Accepted}
use Rattle.theorems.specs.RegisterLaws.{Log}
use Rattle.theorems.specs.QuoteLaws.{Restricted, QuoteTrue, QuotedLog, QuoteLaws}
use Rattle.theorems.specs.SignatureLaws.{Making, by_sign, by_certify, by_quote}
use Rattle.theorems.proofs.Loading.{checked}
use Rattle.theorems.proofs.DeviceSteps.{differ}
use Rattle.theorems.proofs.SignatureLaws.{signature_made_lem, fixed_maker_lem}
use Rattle.theorems.proofs.RegisterLaws.{value_declared, register_log_lem}

-- a quote of a Restricted key was made by a 45
quoted_making : {f : File} {s : State} {u p : ℕ} {c : Command} → Restricted f u → kind f (message f u) ≡ quote_kind → Making f s u p c
    → (c ≡ quote p u) × (s.registers p (register_of f (message f u)) ≡ quoted_value f (message f u))
quoted_making {f} {s} {u} b k (by_sign h) = absurd (differ f (message f u) quote_kind (h b).0 tt k)
quoted_making {f} {s} {u} b k (by_certify a h) = absurd (differ f (message f u) quote_kind a tt k)
quoted_making b k (by_quote a v) = (refl, v)

pub quote_true_lem : QuoteTrue
quote_true_lem bytes f loads n p u h k q b x =
    let m = signature_made_lem bytes f loads n p u h k in
    let w = quoted_making b q m.making in
    record {
      ordinal = m.ordinal;
      before = m.before;
      tpm = m.party;
      is_device = m.is_device;
      held = m.held;
      only = fixed_maker_lem bytes f loads n u x m;
      made = subst (Accepted f m.ordinal) w.0 m.accepted;
      showed = w.1;
    }

pub quoted_log_lem : QuotedLog
quoted_log_lem bytes f loads n u k q =
    let b = message f u in
    subst (Log f q.tpm (register_of f b) q.ordinal) q.showed
    (register_log_lem bytes f loads q.ordinal q.tpm (register_of f b) (λ e. value_declared f (checked bytes f loads) b k (sym q.showed ∙ e)))

pub quote_laws : QuoteLaws
quote_laws = record { quote_true = quote_true_lem; quoted_log = quoted_log_lem }
