-- The columns hold all that the bytes do: the bytes of a state are the rows of its columns, and zero beyond them.
--     bits-byte                      a byte is the byte of its bits
--     exact, zero-beyond, whole      the bytes are the rows; zero columns are zero bytes; all bytes of a state
--     rows-length, rows_same         the length of rows; the same columns have the same rows
--     front                          the front of a list of bytes is bytes
--     view-zero                      the columns of zero bytes
-- Assumes nothing.
use mathlib.Core.Bool.{Bool, false, cond}
use mathlib.Core.Path.{◌≡◌, refl, ap, ap₂, sym, subst, subst⁻¹, ◌∙◌}
use mathlib.Core.List.{List, [], ◌∷◌, ◌++◌}
use Prim.Native.Nat.{ℕ, zero, suc, ◌+◌, ◌*◌, ◌-◌, ◌/◌, ◌%◌, ◌^◌, ◌<◌, ◌≤◌}
use native.Mathlib.Omega.{arith}
use native.Mathlib.Nat.{mod-eq_of_lt, zero-div, one-mul, zero-mul}
use native.Mathlib.Numerals.{towards_suc, one-add}
use lib.Pow.{mod-pow-add}
use lib.Dec.{eqb, lit<}
use native.Mathlib.Decide.{dec_lt}
use lib.ListN.{length, get_or, take, drop, replicate, length-drop, length-replicate, get_or-replicate, take-append-drop, get_or-append, get_or-eq_default}
use lib.Seq.{take-add, drop-drop, drop-cons, get_or-drop, ext_get_or}
use Rattle.rules.specs.declared.Entry.{Entry}
use Rattle.rules.specs.Limits.{row_width, party_limit, term_limit, state_bytes, empty_field}
use Rattle.rules.specs.Record.{word}
use Rattle.rules.specs.State.{State}
use Rattle.rules.specs.Lent.{bits, high, low, row, rows}
use Rattle.state.specs.View.{Columns, view, bit}
use Rattle.state.proofs.Bits.{bit_small}

-- a state of the rules with these columns, and a ledger; its registers are empty, and what they show stands in bytes
-- of their own
abbrev pub state_of : Columns → List Entry → State
state_of v ledger = record { knows = v.knows; table = v.table; mark = v.mark; desk = v.desk; request = v.request; registers = λ p i. empty_field; ledger = ledger }

-- the bytes are bytes
abbrev pub Bytes : List ℕ → Type 0
Bytes s = (i : ℕ) → get_or s i 0 < 256

-- the places of the columns are those of a list
abbrev pub Places : Columns → List ℕ → Type 0
Places v places = (t : ℕ) → t < length places → v.place t ≡ get_or places t 0

-- the columns are zero at a term; from term n on
abbrev pub ZeroAt : Columns → ℕ → Type 0
ZeroAt v t = ((p : ℕ) → v.knows p t ≡ false) × ((p : ℕ) → v.table p t ≡ false) × (v.mark t ≡ 0) × (v.desk t ≡ 0) × (v.request t ≡ 0) × (v.place t ≡ 0)

abbrev pub ZeroFrom : Columns → ℕ → Type 0
ZeroFrom v n = (t : ℕ) → n ≤ t → ZeroAt v t

-- the first n bits of a byte
bit_worth : (x w : ℕ) → x < 2 → cond (eqb x 1) w 0 ≡ x * w
bit_worth zero w h = sym (zero-mul w)
bit_worth (suc zero) w h = sym (one-mul w)
bit_worth (suc (suc x)) w h = absurd (omega arith)

bits_mod : (n b : ℕ) → bits n (λ p. eqb (bit b p) 1) ≡ b % 2 ^ n
unfolding bits bit
bits_mod zero b = omega arith
bits_mod (suc n) b =
    let e : b % 2 ^ suc n ≡ b / 2 ^ n % 2 * 2 ^ n + b % 2 ^ n = ap (λ (k : ℕ). b % 2 ^ k) (sym (one-add n)) ∙ mod-pow-add b 1 n in
    omega (arith, bits_mod n b, bit_worth (b / 2 ^ n % 2) (2 ^ n) (bit_small b n), e)

pub bits_byte : (b : ℕ) → b < 256 → bits party_limit (λ p. eqb (bit b p) 1) ≡ b
bits_byte b h = bits_mod 8 b ∙ mod-eq_of_lt h

pub bits_none : (n : ℕ) (test : ℕ → Bool) → ((p : ℕ) → test p ≡ false) → bits n test ≡ 0
unfolding bits
bits_none zero test h = refl
bits_none (suc n) test h = rw (h n, bits_none n test h) refl

-- the two bytes of a number
high_word : (s : List ℕ) (i : ℕ) → Bytes s → high (word s i) ≡ get_or s i 0
unfolding high word
high_word s i b = omega (arith, b i, b (i + 1))

low_word : (s : List ℕ) (i : ℕ) → Bytes s → low (word s i) ≡ get_or s (i + 1) 0
unfolding low word
low_word s i b = omega (arith, b i, b (i + 1))

-- eight bytes from a place on
eight : (s : List ℕ) (i : ℕ) → i + 8 ≤ length s → take 8 (drop i s) ≡ get_or s (i + 0) 0 ∷ get_or s (i + 1) 0 ∷ get_or s (i + 2) 0 ∷ get_or s (i + 3) 0 ∷ get_or s (i + 4) 0 ∷ get_or s (i + 4 + 1) 0 ∷ get_or s (i + 6) 0 ∷ get_or s (i + 6 + 1) 0 ∷ []
eight s i h =
    simp towards_suc
    (rw (drop-cons s i 0 (omega arith), drop-cons s (suc i) 0 (omega arith), drop-cons s (suc (suc i)) 0 (omega arith), drop-cons s (suc (suc (suc i))) 0 (omega arith), drop-cons s (suc (suc (suc (suc i)))) 0 (omega arith), drop-cons s (suc (suc (suc (suc (suc i))))) 0 (omega arith), drop-cons s (suc (suc (suc (suc (suc (suc i)))))) 0 (omega arith), drop-cons s (suc (suc (suc (suc (suc (suc (suc i))))))) 0 (omega arith)))

row_is : (s : List ℕ) (ledger : List Entry) (t place : ℕ) → Bytes s → 8 * t + 8 ≤ length s → (view s).place t ≡ place → take 8 (drop (8 * t) s) ≡ row (state_of (view s) ledger) t place
unfolding row
row_is s ledger t place b h e =
    rw (← e, bits_byte (get_or s (8 * t + 0) 0) (b (8 * t + 0)), bits_byte (get_or s (8 * t + 1) 0) (b (8 * t + 1)), high_word s (8 * t + 4) b, low_word s (8 * t + 4) b, high_word s (8 * t + 6) b, low_word s (8 * t + 6) b)
    (eight s (8 * t) h)

-- the rows from term t on
exact_from : (s : List ℕ) (ledger : List Entry) (t : ℕ) (places : List ℕ) → Bytes s → 8 * t + 8 * length places ≤ length s → ((u : ℕ) → u < length places → (view s).place (t + u) ≡ get_or places u 0) → take (8 * length places) (drop (8 * t) s) ≡ rows (state_of (view s) ledger) t places
unfolding rows
exact_from s ledger t [] b h e = refl
exact_from s ledger t (place ∷ places) b h e =
    let l : 8 * suc (length places) ≡ 8 + 8 * length places = omega arith in
    let d : 8 * t + 8 ≡ 8 * suc t = omega arith in
    let z : t + 0 ≡ t = omega arith in
    let first : (view s).place t ≡ place = rw z at (e 0 (omega arith)) in
    let rest = exact_from s ledger (suc t) places b (omega arith) (λ u k. let q : suc t + u ≡ t + suc u = omega arith in rw q (e (suc u) (omega arith))) in
    ap (λ (k : ℕ). take k (drop (8 * t) s)) l
    ∙ take-add 8 (8 * length places) (drop (8 * t) s)
    ∙ ap₂ ◌++◌ (row_is s ledger t place b (omega arith) first) (ap (λ (k : List ℕ). take (8 * length places) k) (drop-drop 8 (8 * t) s ∙ ap (λ (k : ℕ). drop k s) d) ∙ rest)

pub exact : (s places : List ℕ) → Bytes s → row_width * length places ≤ length s → Places (view s) places → (ledger : List Entry) → take (row_width * length places) s ≡ rows (state_of (view s) ledger) 0 places
exact s places b h e ledger = exact_from s ledger 0 places b (omega arith) (λ u k. let z : 0 + u ≡ u = omega arith in rw z (e u k))

-- a byte of a row whose columns are zero
zero_word : (s : List ℕ) (i : ℕ) → word s i ≡ 0 → (get_or s i 0 ≡ 0) × (get_or s (i + 1) 0 ≡ 0)
unfolding word
zero_word s i e = (omega arith, omega arith)

zero_byte : (s : List ℕ) (t o : ℕ) → Bytes s → ZeroAt (view s) t → o < 8 → get_or s (8 * t + o) 0 ≡ 0
zero_byte s t zero b z h = sym (bits_byte (get_or s (8 * t + 0) 0) (b (8 * t + 0))) ∙ bits_none 8 (λ p. (view s).knows p t) z.0
zero_byte s t (suc zero) b z h = sym (bits_byte (get_or s (8 * t + 1) 0) (b (8 * t + 1))) ∙ bits_none 8 (λ p. (view s).table p t) z.1
zero_byte s t (suc (suc zero)) b z h = z.2
zero_byte s t (suc (suc (suc zero))) b z h = z.3
zero_byte s t (suc (suc (suc (suc zero)))) b z h = (zero_word s (8 * t + 4) z.4).0
zero_byte s t (suc (suc (suc (suc (suc zero))))) b z h = let e : 8 * t + 5 ≡ 8 * t + 4 + 1 = omega arith in rw e (zero_word s (8 * t + 4) z.4).1
zero_byte s t (suc (suc (suc (suc (suc (suc zero)))))) b z h = (zero_word s (8 * t + 6) z.5).0
zero_byte s t (suc (suc (suc (suc (suc (suc (suc zero))))))) b z h = let e : 8 * t + 7 ≡ 8 * t + 6 + 1 = omega arith in rw e (zero_word s (8 * t + 6) z.5).1
zero_byte s t (suc (suc (suc (suc (suc (suc (suc (suc o)))))))) b z h = absurd (omega arith)

pub zero_beyond : (s : List ℕ) (n : ℕ) → Bytes s → ZeroFrom (view s) n → (i : ℕ) → row_width * n ≤ i → get_or s i 0 ≡ 0
zero_beyond s n b z i h =
    let e : i ≡ 8 * (i / 8) + i % 8 = omega arith in
    ap (λ (k : ℕ). get_or s k 0) e ∙ zero_byte s (i / 8) (i % 8) b (z (i / 8) (omega arith)) (omega arith)

-- a list that is zero from k on
zero_rest : (s : List ℕ) (k : ℕ) → k ≤ length s → ((i : ℕ) → k ≤ i → get_or s i 0 ≡ 0) → drop k s ≡ replicate (length s - k) 0
zero_rest s k h z =
    ext_get_or 0 (drop k s) (replicate (length s - k) 0)
    (simp (length-drop, length-replicate))
    (λ i l. get_or-drop k s i 0 ∙ z (k + i) (omega arith) ∙ sym (get_or-replicate (length s - k) i 0 0 (rw length-drop at l)))

whole_of : (m : ℕ) (s places : List ℕ) (ledger : List Entry) → Bytes s → length s ≡ m → 8 * length places ≤ m → Places (view s) places → ZeroFrom (view s) (length places) → s ≡ rows (state_of (view s) ledger) 0 places ++ replicate (m - 8 * length places) 0
whole_of m s places ledger b l h e z =
    sym (take-append-drop (8 * length places) s)
    ∙ ap₂ ◌++◌ (exact s places b (omega arith) e ledger) (zero_rest s (8 * length places) (omega arith) (zero_beyond s (length places) b z) ∙ ap (λ (k : ℕ). replicate (k - 8 * length places) 0) l)

pub whole : (s places : List ℕ) (ledger : List Entry) → Bytes s → length s ≡ state_bytes → length places ≤ term_limit → Places (view s) places → ZeroFrom (view s) (length places) → s ≡ rows (state_of (view s) ledger) 0 places ++ replicate (state_bytes - row_width * length places) 0
whole s places ledger b l h e z = whole_of state_bytes s places ledger b l (omega arith) e z

pub rows_length : (s : State) (t : ℕ) (places : List ℕ) → length (rows s t places) ≡ row_width * length places
unfolding rows row
rows_length s t [] = refl
rows_length s t (place ∷ places) = omega (arith, rows_length s (suc t) places)

row_same : (s s' : State) → s.knows ≡ s'.knows → s.table ≡ s'.table → s.mark ≡ s'.mark → s.desk ≡ s'.desk → s.request ≡ s'.request → (t place : ℕ) → row s t place ≡ row s' t place
unfolding row
row_same s s' k a m d r t place = λ i. bits 8 (λ p. k i p t) ∷ bits 8 (λ p. a i p t) ∷ m i t ∷ d i t ∷ high (r i t) ∷ low (r i t) ∷ high place ∷ low place ∷ []

pub rows_same : (s s' : State) → s.knows ≡ s'.knows → s.table ≡ s'.table → s.mark ≡ s'.mark → s.desk ≡ s'.desk → s.request ≡ s'.request → (t : ℕ) (places : List ℕ) → rows s t places ≡ rows s' t places
unfolding rows
rows_same s s' k a m d r t [] = refl
rows_same s s' k a m d r t (place ∷ places) = ap₂ ◌++◌ (row_same s s' k a m d r t place) (rows_same s s' k a m d r (suc t) places)

-- the front of a list of bytes is bytes
pub front : (a c : List ℕ) → Bytes (a ++ c) → Bytes a
front a c b i = go (dec_lt i (length a))
  where
    go : Dec (i < length a) → get_or a i 0 < 256
    go (yes h) = subst (λ (x : ℕ). x < 256) (get_or-append a c 0 i h) (b i)
    go (no h) = subst⁻¹ (λ (x : ℕ). x < 256) (get_or-eq_default a 0 {n = i} (omega arith)) (lit< tt)

-- zero bytes
get_d_zero : (n i : ℕ) → ◌≡◌ {A = ℕ} (get_or (replicate n 0) i 0) 0
get_d_zero zero i = refl
get_d_zero (suc n) zero = refl
get_d_zero (suc n) (suc i) = get_d_zero n i

bit_zero : (p : ℕ) → bit 0 p ≡ 0
unfolding bit
bit_zero p = ap (λ (x : ℕ). x % 2) (zero-div (2 ^ p))

none_known : (n i p : ℕ) → eqb (bit (get_or (replicate n 0) i 0) p) 1 ≡ false
none_known n i p = rw (get_d_zero n i, bit_zero p) refl

word_zero : (n i : ℕ) → word (replicate n 0) i ≡ 0
unfolding word
word_zero n i = ap₂ (λ (h l : ℕ). h * 256 + l) (get_d_zero n i) (get_d_zero n (i + 1))

pub view_zero : (n : ℕ) → view (replicate n 0) ≡ record { knows = λ p t. false; table = λ p t. false; mark = λ t. 0; desk = λ t. 0; request = λ t. 0; place = λ t. 0 }
view_zero n = λ i. record {
  knows = λ p t. none_known n (8 * t + 0) p i;
  table = λ p t. none_known n (8 * t + 1) p i;
  mark = λ t. get_d_zero n (8 * t + 2) i;
  desk = λ t. get_d_zero n (8 * t + 3) i;
  request = λ t. word_zero n (8 * t + 4) i;
  place = λ t. word_zero n (8 * t + 6) i;
}
