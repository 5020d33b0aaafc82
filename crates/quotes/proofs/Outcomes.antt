-- 44 and 45 by their tests, one after the other: what each refuses.
-- Assumes nothing.
use mathlib.Core.Path.{◌≡◌, refl}
use mathlib.Core.Bool.{cond}
use Prim.Native.Nat.{ℕ}
use lib.Dec.{eqb}
use Rattle.rules.specs.Limits.{device}
use Rattle.rules.specs.Attributes as flag
use Rattle.rules.specs.File.{File, extend, quote, is_role, hashed_term, message, signing_key, left_of, right_of, register_of, quoted_value, quote_number}
use Rattle.rules.specs.State.{State}
use Rattle.rules.specs.Device.{device_role, key_has, extend_tests, quote_tests}
use Rattle.rules.specs.Run.{tests_of, outcome}
use Rattle.theorems.specs.Chain.{chain}
use Rattle.theorems.proofs.Chain.{in_order_lem}

module _ (f : File) (s : State) where
  pub extend_chain :
      (p i r : ℕ)
      → outcome f s (extend p i r)
      ≡ cond (is_role f device p) (cond (s.knows p (right_of f (hashed_term f r))) (cond (eqb (s.registers p i) (left_of f (hashed_term f r))) 0 33) 14) 13
  unfolding outcome tests_of extend_tests device_role chain
  extend_chain p i r = in_order_lem _ refl

  pub quote_chain :
      (p r : ℕ)
      → outcome f s (quote p r)
      ≡ cond (is_role f device p)
      (cond (s.knows p (quote_number f (message f r)))
      (cond (s.table p (signing_key f r))
      (cond (key_has f (signing_key f r) flag.sign)
      (cond (key_has f (signing_key f r) flag.restricted)
      (cond (eqb (s.registers p (register_of f (message f r))) (quoted_value f (message f r))) 0 33) 16) 16) 15) 14) 13
  unfolding outcome tests_of quote_tests device_role chain
  quote_chain p r = in_order_lem _ refl
