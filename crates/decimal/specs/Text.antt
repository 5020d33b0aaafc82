-- Text in lent bytes, and how often a power of ten can be taken away.
use Rattle.std.specs.Prelude.{◌≡◌, List, ℕ, ◌+◌, ◌*◌, ◌<◌, ◌≤◌, length}
use Rattle.std.proofs.lemmas.List.Edits.{sets}

-- A text has room from a place on.
pub record Room (out : List ℕ) (at : ℕ) (text : List ℕ) : Type 0 where
  pub fits : at + length text ≤ length out

-- The bytes from a place on are replaced by a text, and the next place is the one past it.
pub record Written (before : List ℕ) (at : ℕ) (text after : List ℕ) (next : ℕ) : Type 0 where
  pub bytes : after ≡ sets before at text
  pub place : next ≡ at + length text

-- A number is so many times a power and what is left, which is less than the power.
pub record TakenAway (x power times left : ℕ) : Type 0 where
  pub whole : x ≡ times * power + left
  pub digit : times < 10
  pub less : left < power
