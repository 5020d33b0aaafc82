-- How many bytes the lines take.
--     rest_of, last_of     the rest of a line
--     refusal-short, entry-short, total-short, fault-short     the longest lines
--     listed     a text that fits, written from the start on
-- Assumes nothing.
use mathlib.Core.Path.{◌≡◌, ap, subst, ◌∙◌}
use mathlib.Core.List.{List, [], ◌∷◌, ◌++◌}
use Prim.Native.Nat.{ℕ, ◌+◌, ◌^◌, ◌<◌, ◌≤◌}
use native.Mathlib.Omega.{arith}
use Rattle.std.proofs.Common.{add-one}
use lib.ListN.{length, get_or, take, drop, length-append, drop_of_length-le}
use lib.Seq.{sets-eq, take_at, drop_at, drop-cons}
use Rattle.rules.specs.Limits.{command_limit, term_limit}
use Rattle.rules.specs.Listing.{decimal, line, numbers}
use Rattle.decimal.specs.Text.{Written}
use Rattle.lister.specs.Text.{refusal_bytes, entry_bytes, total_bytes, fault_bytes, listing_bytes, Listed}
use Rattle.decimal.proofs.Writing.{Rest}
use Rattle.decimal.proofs.Spelling.{decimal_width}

line_two : (letter a b : ℕ) → length (line letter (a ∷ b ∷ [])) ≡ 4 + length (decimal a) + length (decimal b)
unfolding line numbers
line_two letter a b = simp length-append (omega arith)

line_three : (letter a b c : ℕ) → length (line letter (a ∷ b ∷ c ∷ [])) ≡ 5 + length (decimal a) + length (decimal b) + length (decimal c)
unfolding line numbers
line_three letter a b c = simp length-append (omega arith)

-- what is still to be written of a line, where a number is next, and where none is
module _ {out₀ : List ℕ} {at : ℕ} {text out : List ℕ} {next : ℕ} (xs : List ℕ) (i : ℕ) where
  pub rest_of : i < length xs → Rest out₀ at text out next (numbers (drop i xs)) → Rest out₀ at text out next ((32 ∷ decimal (get_or xs i 0)) ++ numbers (drop (i + 1) xs))
  unfolding numbers
  rest_of h w =
      let e : drop i xs ≡ get_or xs i 0 ∷ drop (i + 1) xs = rw add-one (drop-cons xs i 0 h) in
      subst (λ (ys : List ℕ). Rest out₀ at text out next (numbers ys)) e w

  pub last_of : length xs ≤ i → Rest out₀ at text out next (numbers (drop i xs)) → Rest out₀ at text out next (10 ∷ [])
  unfolding numbers
  last_of h w = subst (λ (ys : List ℕ). Rest out₀ at text out next (numbers ys)) (drop_of_length-le xs h) w

pub refusal_short : (i x : ℕ) → i < command_limit → x < 2 ^ 8 → length (line 0x52 (i ∷ x ∷ [])) ≤ refusal_bytes
refusal_short i x h k = omega (arith, line_two 0x52 i x, decimal_width 4 i (omega arith) (omega arith) (omega arith), decimal_width 3 x (omega arith) (omega arith) (omega arith))

pub entry_short : (a b c : ℕ) → a < 2 ^ 16 → b < 2 ^ 16 → c < 2 ^ 16 → length (line 0x49 (a ∷ b ∷ c ∷ [])) ≤ entry_bytes
entry_short a b c h k l = omega (arith, line_three 0x49 a b c, decimal_width 5 a (omega arith) (omega arith) (omega arith), decimal_width 5 b (omega arith) (omega arith) (omega arith), decimal_width 5 c (omega arith) (omega arith) (omega arith))

pub total_short : (a b c : ℕ) → a < 2 ^ 32 → b < 2 ^ 32 → c ≤ term_limit → length (line 0x54 (a ∷ b ∷ c ∷ [])) ≤ total_bytes
total_short a b c h k l = omega (arith, line_three 0x54 a b c, decimal_width 10 a (omega arith) (omega arith) (omega arith), decimal_width 10 b (omega arith) (omega arith) (omega arith), decimal_width 4 c (omega arith) (omega arith) (omega arith))

pub fault_short : (a b : ℕ) → a < 2 ^ 32 → b < 2 ^ 32 → length (line 0x46 (a ∷ b ∷ [])) ≤ fault_bytes
fault_short a b h k = omega (arith, line_two 0x46 a b, decimal_width 10 a (omega arith) (omega arith) (omega arith), decimal_width 10 b (omega arith) (omega arith) (omega arith))

pub listed : {before text after : List ℕ} {next : ℕ} → Written before 0 text after next → next ≤ listing_bytes → listing_bytes ≤ length before → Listed text before after next
listed {before} {text} {after} {next} w h room =
    let e : length text ≡ next = omega (arith, w.place) in
    let z : 0 + length text ≡ next = omega arith in
    let s : after ≡ text ++ drop next before = w.bytes ∙ sets-eq text before 0 (omega arith) ∙ ap (λ (k : ℕ). text ++ drop k before) z in
    record {
      inside = h;
      front = ap (λ (l : List ℕ). take next l) s ∙ take_at text (drop next before) next e;
      rest = ap (λ (l : List ℕ). drop next l) s ∙ drop_at text (drop next before) next e;
    }
