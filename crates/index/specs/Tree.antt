-- Numbers by their keys: a tree for each bucket, in one list of entries. First an entry for each bucket, its root; then
-- two for each number, what is
-- below it by the next bit of a key. An entry is one more than a number, or 0.
use Rattle.std.specs.Prelude.{◌≡◌, Bool, true, false, List, ℕ, zero, suc, ◌+◌, ◌*◌, ◌-◌, ◌/◌, ◌%◌, ◌<◌, ◌≤◌, length, get_or}
use Rattle.rules.specs.Limits.{term_limit}

abbrev pub bucket_count : ℕ
bucket_count = 1024

-- a prime, so that every bit of a key has a part in it
abbrev pub bucket_of : ℕ → ℕ
bucket_of key = key % 1021

abbrev pub link_count : ℕ
link_count = bucket_count + 2 * term_limit

-- the bits of a key, and the kinds of terms that may have the same
abbrev pub key_bits : ℕ
key_bits = 64

abbrev pub term_kinds : ℕ
term_kinds = 13

-- where the entry below t stands, for what is left of a key
abbrev pub below : ℕ → ℕ → ℕ
below t rest = bucket_count + 2 * t + rest % 2

-- u is met on the way down from an entry, by what is left of a key
pub data Met (links : List ℕ) (u : ℕ) : ℕ → ℕ → Type 0 where
  here : {e rest : ℕ} → e ≡ suc u → Met links u e rest
  under : {e rest : ℕ} (t : ℕ) → e ≡ suc t → Met links u (get_or links (below t rest) 0) (rest / 2) → Met links u e rest

-- the way down of a key: at which entry it stands, what is left of the key, and how many numbers it has passed
pub data Way (links : List ℕ) (key : ℕ) : ℕ → ℕ → ℕ → Type 0 where
  root : Way links key (bucket_of key) key 0
  down : {at rest m : ℕ} (t : ℕ) → get_or links at 0 ≡ suc t → Way links key at rest m → Way links key (below t rest) (rest / 2) (suc m)

-- the entries of the first n numbers, each number in one of them
pub record Tree (links : List ℕ) (n : ℕ) : Type 0 where
  pub size : length links ≡ link_count
  pub most : (i : ℕ) → get_or links i 0 ≤ n
  pub later : (t rest : ℕ) → (get_or links (below t rest) 0 ≡ 0 → ⊥) → suc t < get_or links (below t rest) 0
  pub once : (i j t : ℕ) → get_or links i 0 ≡ suc t → get_or links j 0 ≡ suc t → i ≡ j

-- a free entry at the end of a key's way
pub record Free (links : List ℕ) (key at : ℕ) : Type 0 where
  pub rest : ℕ
  pub passed : ℕ
  pub way : Way links key at rest passed
  pub empty : get_or links at 0 ≡ 0

-- r is one more than a number below n that passes, or 0 where none does
pub record Found (test : ℕ → Bool) (n r : ℕ) : Type 0 where
  pub one : (t : ℕ) → r ≡ suc t → (t < n) × (test t ≡ true)
  pub none : r ≡ 0 → (t : ℕ) → t < n → test t ≡ false

-- how many numbers may yet be met
unfoldable pub yet : ℕ → ℕ → ℕ
yet n zero = 0
yet n (suc t) = n - t
