-- The terms so far by their keys, and the private half of each public key among them.
use Rattle.tables.specs.declared.columns.Tables.{Tables}
use Rattle.std.specs.Prelude.{◌≡◌, Bool, true, false, cond, ◌&&◌, List, [], ◌∷◌, ℕ, zero, suc, ◌<◌, ◌≤◌, eqb, length, get_or, Option, None, Some, Result, Ok, Err}
use Rattle.rules.specs.declared.Refusal.{Refusal}
use Rattle.rules.specs.declared.Refusal.TheVariants.{TermAlike}
use Rattle.rules.specs.Limits.{term_limit}
use Rattle.rules.specs.Term.{public_key_kind, private_key_kind, fields_in, alike, key_pair}
use Rattle.rules.specs.Record.{section_of, body_length, term_section}
use Rattle.rules.specs.Load.{term_at}
use Rattle.state.specs.View.{view}
use Rattle.records.specs.Keys.{key_of}
use Rattle.learning.specs.There.{term_there}
use Rattle.learning.specs.Noted.{Noted}
use Rattle.checks.specs.There.{TermsThere}
use Rattle.tables.specs.Columns.{one_more, Unlinked, Terms, field_of, tables_in, with_kind, with_field}
use Rattle.index.specs.declared.Vacancy.{Vacancy}
use Rattle.index.specs.Tree.{bucket_of, Met, Tree, Free, Found}

-- the key of term t
unfoldable pub key_there : List ℕ → (ℕ → ℕ) → ℕ → ℕ
key_there bs place t = key_of (fields_in (term_there bs (place t)))

-- the words that are noted of it
abbrev pub words_noted : Terms → ℕ → List ℕ
words_noted v t = field_of v t 0 ∷ field_of v t 1 ∷ field_of v t 2 ∷ field_of v t 3 ∷ []

-- its key by them
unfoldable pub key_noted : Terms → ℕ → ℕ
key_noted v t = key_of (words_noted v t)

-- the kind of a term and its words noted
abbrev pub term_noted : Terms → ℕ → ℕ → List ℕ → Terms
term_noted v t k w = with_field (with_field (with_field (with_field (with_kind v t k) t 0 (get_or w 0 0)) t 1 (get_or w 1 0)) t 2 (get_or w 2 0)) t 3 (get_or w 3 0)

-- number t is of a kind and has a key
unfoldable pub same_by : (ℕ → ℕ) → (ℕ → ℕ) → ℕ → ℕ → ℕ → Bool
same_by kinds keys kind key t = eqb (kinds t) kind && eqb (keys t) key

-- the same of a kind that may be none
unfoldable pub half_by : (ℕ → ℕ) → (ℕ → ℕ) → Option ℕ → ℕ → ℕ → Bool
half_by kinds keys None key t = false
half_by kinds keys (Some kind) key t = same_by kinds keys kind key t

-- term t is the private half of the public key k
abbrev pub pair_there : List ℕ → (ℕ → ℕ) → ℕ → ℕ → Bool
pair_there bs place k t = key_pair (term_there bs (place k)) (term_there bs (place t))

-- the kind of a key's other half; of another term none
unfoldable pub other_half : ℕ → Option ℕ
other_half k = cond (eqb k public_key_kind) (Some private_key_kind) (cond (eqb k private_key_kind) (Some public_key_kind) None)

-- the private half of each of the first n terms, one more than its number, 0 where it has none
abbrev pub Halves : List ℕ → (ℕ → ℕ) → (ℕ → ℕ) → ℕ → Type 0
Halves bs place half n = (t : ℕ) → t < n → Found (pair_there bs place t) n (half t)

-- no two of the first n terms are alike
abbrev pub Unlike : List ℕ → (ℕ → ℕ) → ℕ → Type 0
Unlike bs place n = (t u : ℕ) → t < n → u < n → alike (term_there bs (place t)) (term_there bs (place u)) ≡ true → t ≡ u

-- the kind and the fields of each of the first n terms, which is met by its key; the halves among them; no certificate
-- has
-- an entry in the ledger, and none is linked
pub record Indexed (bs : List ℕ) (place : ℕ → ℕ) (links : List ℕ) (tables : Tables) (n : ℕ) : Type 0 where
  pub tree : Tree links n
  pub noted : Noted bs place (tables_in tables).terms n
  pub met : (t : ℕ) → t < n → Met links t (get_or links (bucket_of (key_there bs place t)) 0) (key_there bs place t)
  pub unlike : Unlike bs place n
  pub halves : Halves bs place (tables_in tables).half n
  pub unpaired : (t : ℕ) → n ≤ t → (tables_in tables).half t ≡ 0
  pub unlisted : (t : ℕ) → (tables_in tables).entry t ≡ 0
  pub shallow : (t : ℕ) → (tables_in tables).depth t ≡ 0
  pub unlinked : Unlinked (tables_in tables).boards

-- each of the first n numbers is met by its key
pub record Reached (keys : ℕ → ℕ) (links : List ℕ) (n : ℕ) : Type 0 where
  pub tree : Tree links n
  pub few : n ≤ term_limit
  pub met : (t : ℕ) → t < n → Met links t (get_or links (bucket_of (keys t)) 0) (keys t)

-- no number is of the kind with the key; where a new one enters, and the other half, if any number is
pub record Vacant (kinds keys : ℕ → ℕ) (links : List ℕ) (kind key n : ℕ) (v : Vacancy) : Type 0 where
  pub none : (t : ℕ) → t < n → same_by kinds keys kind key t ≡ false
  pub half : Found (half_by kinds keys (other_half kind) key) n (one_more v.half)
  pub free : Free links key v.at

-- what the way of a key found: a number of the kind, which is refused; or where a new one enters
abbrev pub SearchResult : (ℕ → ℕ) → (ℕ → ℕ) → List ℕ → ℕ → ℕ → ℕ → Result Vacancy Refusal → Type 0
SearchResult kinds keys links kind key n (Ok v) = Vacant kinds keys links kind key n v
SearchResult kinds keys links kind key n (Err r) = (r ≡ TermAlike) × ((t : ℕ) × (t < n) × (same_by kinds keys kind key t ≡ true))

-- what entering a term record needs: the index of the terms so far, room, and the body that stands at its place
pub record EntersTerm (bs s links : List ℕ) (tables : Tables) (body : List ℕ) (k at n : ℕ) : Type 0 where
  pub there : TermsThere bs s n
  pub indexed : Indexed bs (view s).place links tables n
  pub room : n < term_limit
  pub near : at < 65536
  pub is_term : section_of k ≡ term_section
  pub whole : body_length k ≤ length body
  pub kind : k ≡ get_or bs at 0
  pub stands : term_there bs at ≡ term_at k body

-- the term of an entry passes
unfoldable pub passes : (ℕ → Bool) → ℕ → Bool
passes test zero = false
passes test (suc t) = test t
