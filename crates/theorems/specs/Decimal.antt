-- What the decimal digits of a number are, by laws and not by how they are formed.
use Rattle.std.specs.Prelude.{◌≡◌, List, [], ◌∷◌, ℕ, ◌+◌, ◌-◌, ◌*◌, ◌^◌, ◌<◌, ◌≤◌, length}
use Rattle.rules.specs.Listing.{decimal}
use Rattle.theorems.specs.Residency.{All}

-- digits of a number of 64 bits at most
abbrev pub digit_limit : ℕ
digit_limit = 20

-- the bytes of "0" and "9"
abbrev pub zero_digit : ℕ
zero_digit = 48

abbrev pub nine_digit : ℕ
nine_digit = 57

-- a byte is a digit
abbrev pub Digit : ℕ → Type 0
Digit b = (zero_digit ≤ b) × (b ≤ nine_digit)

-- read back: the number that digits give, each worth the power of ten of its place
unfoldable pub read_back : List ℕ → ℕ
read_back [] = 0
read_back (b ∷ bs) = (b - zero_digit) * 10 ^ length bs + read_back bs

-- there is a digit, and a 0 in front stands alone
abbrev pub NoZeroInFront : List ℕ → Type 0
NoZeroInFront [] = ⊥
NoZeroInFront (b ∷ bs) = b ≡ zero_digit → bs ≡ []

-- Digits without a 0 in front.
pub record Numeral (bs : List ℕ) : Type 0 where
  pub each : All Digit bs
  pub front : NoZeroInFront bs

-- The digits of a number.
pub record DigitsOf (x : ℕ) (bs : List ℕ) : Type 0 where
  pub numeral : Numeral bs
  pub gives : read_back bs ≡ x
  pub few : length bs ≤ digit_limit

-- what the listing prints for a number of 64 bits are its digits
abbrev pub DecimalLaws : Type 0
DecimalLaws = (x : ℕ) → x < 2 ^ 64 → DigitsOf x (decimal x)

-- two lists of digits without a 0 in front that give one number are equal
abbrev pub DigitsDetermined : Type 0
DigitsDetermined = (bs cs : List ℕ) → Numeral bs → Numeral cs → read_back bs ≡ read_back cs → bs ≡ cs

-- so whatever is the digits of a number is what the listing prints for it
abbrev pub DecimalOnly : Type 0
DecimalOnly = (x : ℕ) (bs : List ℕ) → x < 2 ^ 64 → DigitsOf x bs → bs ≡ decimal x
