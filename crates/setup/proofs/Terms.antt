-- The terms that are there.
--     stands              the record of each stands whole at its place
--     certificate-ends    where that of a certificate ends
--     looked-up           the tables have them
--     ready, learns-there each can be learnt by the tables, and that is learning by the records
-- Assumes nothing.
use mathlib.Core.Path.{◌≡◌, ap, subst⁻¹}
use mathlib.Core.List.{List}
use Prim.Native.Nat.{ℕ, ◌+◌, ◌<◌, ◌≤◌}
use native.Mathlib.Omega.{arith}
use lib.ListN.{length}
use Rattle.rules.specs.Limits.{party_limit}
use Rattle.rules.specs.Term.{certificate_kind}
use Rattle.state.specs.View.{view, with_knows}
use Rattle.tables.specs.Columns.{Terms}
use Rattle.learning.specs.There.{kind_there, TermRecord, learn_there}
use Rattle.learning.specs.Noted.{Ready, TermsNoted, Noted}
use Rattle.learning.proofs.Words.{inside}
use Rattle.learning.proofs.Opening.{learned}
use Rattle.learning.proofs.Noted.{terms_noted, learn_there_lem, ready_noted}
use Rattle.checks.specs.There.{TermsThere}

pub stands : {bs s : List ℕ} {n t at : ℕ} → TermsThere bs s n → t < n → at ≡ (view s).place t → TermRecord bs at
stands {bs} {t = t} there h e = subst⁻¹ (TermRecord bs) e (there.whole t h)

pub certificate_ends : {bs s : List ℕ} {n t at : ℕ} → TermsThere bs s n → t < n → at ≡ (view s).place t → kind_there bs at ≡ certificate_kind → at + 8 ≤ length bs
certificate_ends there h e k = omega (arith, inside _ _ certificate_kind k (stands there h e))

module _ {bs s : List ℕ} {v : Terms} {n : ℕ} (there : TermsThere bs s n) (noted : Noted bs (view s).place v n) where
  pub looked_up : TermsNoted v n
  looked_up = terms_noted noted there.whole there.few there.lower there.hashed

  pub ready : {p t : ℕ} → p < party_limit → t < n → Ready v s p t
  ready h l = ready_noted looked_up h (omega (arith, there.few, there.room)) l

  pub learns_there : (p t : ℕ) → t < n → learned v p t (view s) ≡ with_knows (view s) (learn_there bs (view s).place p t (view s).knows)
  learns_there p t l = ap (with_knows (view s)) (learn_there_lem noted there.whole looked_up p t l (view s).knows)
