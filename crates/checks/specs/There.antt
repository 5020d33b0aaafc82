-- Refusals 3 to 9 by the bytes, the counts and the terms so far.
use Rattle.std.specs.Prelude.{◌≡◌, Bool, false, cond, ◌||◌, ℕ, zero, suc, ◌+◌, ◌*◌, ◌<◌, ◌≤◌, eqb, ltb, length, get_or}
use mathlib.Core.List.{List, Memᴰ}
use Rattle.rules.specs.declared.Field.{Field}
use Rattle.rules.specs.declared.Field.TheVariants.{RoleField, IdentifierField, AttributesField, SubjectField, PartyField, AnyTerm, TermOf, SignedAttest, IakPairField, RegisterField, HashedPair, SignedQuote}
use Rattle.rules.specs.declared.Term.{Term}
use Rattle.rules.specs.Limits.{row_width, party_limit, term_limit, role_count, register_count}
use Rattle.rules.specs.Attributes.{attributes_limit}
use Rattle.rules.specs.Term.{hash_kind, signature_kind, attest_kind, credential_kind, certificate_kind, pair_kind, quote_kind, fields_in, alike}
use Rattle.rules.specs.Record.{party_section, term_section, word}
use Rattle.rules.specs.Load.{first, refuse_unless, empty_pair}
use Rattle.state.specs.View.{view}
use Rattle.tables.specs.Columns.{Terms, field_of}
use Rattle.learning.specs.There.{TermRecord, kind_there, term_there, parts_there}

-- 3 to 6 at a record: its section and the place where it ends, the file's length, the section and the counts so far
unfoldable pub head_fault : ℕ → ℕ → ℕ → ℕ → ℕ → ℕ → ℕ
head_fault own end length section parties terms =
    cond (eqb own 0) 3
    (cond (ltb length end) 4
    (cond (ltb own section) 5
    (cond (eqb own party_section) (refuse_unless 6 (ltb parties party_limit))
    (cond (eqb own term_section) (refuse_unless 6 (ltb terms term_limit))
    0))))

-- a party's role stands in its record, of two bytes
abbrev pub role_there : List ℕ → ℕ → ℕ
role_there bs p = get_or bs (2 * p + 1) 0

-- the records of the first n terms stand whole at their places, their parts are lower, and so is what a hash is of;
-- there is room for all terms
pub record TermsThere (bs s : List ℕ) (n : ℕ) : Type 0 where
  pub few : n ≤ term_limit
  pub room : row_width * term_limit ≤ length s
  pub whole : (t : ℕ) → t < n → TermRecord bs ((view s).place t)
  pub lower : (t u : ℕ) → t < n → Memᴰ u (parts_there bs (view s).place t) → u < t
  pub hashed : (t : ℕ) → t < n → kind_there bs ((view s).place t) ≡ hash_kind → get_or (fields_in (term_there bs ((view s).place t))) 0 0 < t

-- the kind of term t
abbrev pub kind_of_there : List ℕ → (ℕ → ℕ) → ℕ → ℕ
kind_of_there bs place t = kind_there bs (place t)

-- 7, 8: a term number that is not declared, or not of a kind
abbrev pub kind_fault_noted : Terms → ℕ → ℕ → ℕ → ℕ
kind_fault_noted v terms k t = first (refuse_unless 7 (ltb t terms)) (refuse_unless 8 (eqb (v.kind t) k))

-- 7, 8: a term number that is not declared, or not of a kind whose first field is a term of another
abbrev pub inner_fault_noted : Terms → ℕ → ℕ → ℕ → ℕ → ℕ
inner_fault_noted v terms outer inner t =
    first (refuse_unless 7 (ltb t terms))
    (first (refuse_unless 8 (eqb (v.kind t) outer))
    (refuse_unless 8 (eqb (v.kind (field_of v t 0)) inner)))

-- 7, 8: what is wrong with a field at a place of a body, by the kinds and fields of the terms so far
unfoldable pub field_fault_noted : Terms → ℕ → ℕ → Field → ℕ → List ℕ → ℕ
field_fault_noted v parties terms RoleField i body = refuse_unless 7 (ltb (get_or body i 0) role_count)
field_fault_noted v parties terms IdentifierField i body = 0
field_fault_noted v parties terms AttributesField i body = refuse_unless 7 (ltb (get_or body i 0) attributes_limit)
field_fault_noted v parties terms SubjectField i body = refuse_unless 7 (ltb (get_or body i 0) 2)
field_fault_noted v parties terms PartyField i body = refuse_unless 7 (ltb (get_or body i 0) parties)
field_fault_noted v parties terms AnyTerm i body = refuse_unless 7 (ltb (word body i) terms)
field_fault_noted v parties terms (TermOf k) i body = kind_fault_noted v terms k (word body i)
field_fault_noted v parties terms SignedAttest i body = inner_fault_noted v terms signature_kind attest_kind (word body i)
field_fault_noted v parties terms IakPairField i body =
    cond (empty_pair body i) 0
    (first (kind_fault_noted v terms credential_kind (word body i)) (kind_fault_noted v terms certificate_kind (word body (i + 2))))
field_fault_noted v parties terms RegisterField i body = refuse_unless 7 (ltb (get_or body i 0) register_count)
field_fault_noted v parties terms HashedPair i body = inner_fault_noted v terms hash_kind pair_kind (word body i)
field_fault_noted v parties terms SignedQuote i body = inner_fault_noted v terms signature_kind quote_kind (word body i)

-- a term is alike one of the first n
unfoldable pub any_alike_there : List ℕ → (ℕ → ℕ) → Term → ℕ → Bool
any_alike_there bs place x zero = false
any_alike_there bs place x (suc n) = alike x (term_there bs (place n)) || any_alike_there bs place x n
