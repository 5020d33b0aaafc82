-- Before every command there is room for one more entry: a ledger's certificates differ, and each certifies a public key, which is no certificate.
--     ledger-below     a ledger has fewer entries than a file may have terms
-- Assumes nothing.
use mathlib.Core.Path.{◌≡◌, sym, ap, ◌∙◌}
use mathlib.Core.Option.{some}
use Prim.Native.Nat.{ℕ, suc, ◌<◌}
use native.Mathlib.Omega.{arith}
use native.Mathlib.Decide.{dec_lt}
use lib.ListN.{length, get_or, get_elem?}
use Rattle.rules.specs.declared.Entry.{Entry}
use Rattle.rules.specs.Limits.{term_limit}
use Rattle.rules.specs.Term.{public_key_kind, certificate_kind}
use Rattle.rules.specs.File.{File, kind, certified_key}
use Rattle.rules.specs.State.{State}
use Rattle.theorems.proofs.Loading.{Checked}
use Rattle.theorems.proofs.Terms.{declared, public_declared}
use Rattle.theorems.proofs.Ledgers.{at_within}
use Rattle.theorems.proofs.Pigeonhole.{pigeonhole}
use Rattle.theorems.proofs.Invariant.{Invariant}

module _ {f : File} (ck : Checked f) {x : State} (inv : Invariant f x) where
  abbrev at : ℕ → Entry
  at i = get_or x.ledger i (record { certificate = 0; parent = 0; depth = 0 })

  here : (i : ℕ) → i < length x.ledger → get_elem? x.ledger i ≡ some (at i)
  here i l = at_within x.ledger _ i l

  is_certificate_lem : (i : ℕ) → i < length x.ledger → kind f (at i).certificate ≡ certificate_kind
  is_certificate_lem i l = (inv.entries i (at i) (here i l)).of_family.signed.is_certificate

  -- the certificates, and after them a term k
  module _ (k : ℕ) (is_key : kind f k ≡ public_key_kind) where
    abbrev term_at_lem : (i : ℕ) → Dec (i < length x.ledger) → ℕ
    term_at_lem i (yes l) = (at i).certificate
    term_at_lem i (no n) = k

    below : (i : ℕ) (d : Dec (i < length x.ledger)) → term_at_lem i d < length f.terms
    below i (yes l) = declared f (at i).certificate (λ z. omega (arith, is_certificate_lem i l))
    below i (no n) = public_declared f k is_key

    apart : (i : ℕ) → i < length x.ledger → (at i).certificate ≡ k → ⊥
    apart i l e = let z : certificate_kind ≡ public_key_kind = sym (is_certificate_lem i l) ∙ ap (kind f) e ∙ is_key in omega arith

    once : (i j : ℕ) → i < suc (length x.ledger) → j < suc (length x.ledger) → (d : Dec (i < length x.ledger)) (e : Dec (j < length x.ledger)) → term_at_lem i d ≡ term_at_lem j e → i ≡ j
    once i j h g (yes l) (yes m) e = inv.once i j (at i) (at j) (here i l) (here j m) e
    once i j h g (yes l) (no n) e = absurd (apart i l e)
    once i j h g (no n) (yes m) e = absurd (apart j m (sym e))
    once i j h g (no n) (no o) e = omega arith

    fewer : length x.ledger < length f.terms
    fewer =
        pigeonhole (length f.terms) (suc (length x.ledger)) (λ i. term_at_lem i (dec_lt i (length x.ledger))) (λ i l. below i (dec_lt i (length x.ledger)))
        (λ i j h g. once i j h g (dec_lt i (length x.ledger)) (dec_lt j (length x.ledger)))

  pub ledger_below : length x.ledger < term_limit
  ledger_below = go (dec_lt 0 (length x.ledger))
    where
      go : Dec (0 < length x.ledger) → length x.ledger < term_limit
      go (yes l) = omega (arith, fewer (certified_key f (at 0).certificate) (ck.certified_key_kind (at 0).certificate (is_certificate_lem 0 l)), ck.few_terms)
      go (no n) = omega arith
