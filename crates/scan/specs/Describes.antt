-- What the file's bytes, the state's bytes, the signing keys and the counts say of the file declared so far.
use Rattle.std.specs.Prelude.{◌≡◌, cond, not, List, [], ◌∷◌, ℕ, ◌+◌, ◌*◌, ◌<◌, ◌≤◌, eqb, length, get_or, replicate, Result, IfOk, IfErr}
use Rattle.rules.specs.declared.Refused.{Refused}
use Rattle.rules.specs.Codes.{number_of}
use Rattle.rules.specs.Limits.{file_limit, party_limit, term_limit, state_bytes}
use Rattle.rules.specs.Record.{section_of, fields_of, body_length, party_section, term_section, setup_section, command_section, word}
use Rattle.rules.specs.File.{File, Setup, learns, holds, signs_with, term, role_of, holds_key}
use Rattle.rules.specs.Load.{first, refuse_unless, term_at, setup_at, feed, load, loaded, refused}
use Rattle.rules.specs.State.{taught, put}
use Rattle.state.specs.View.{Columns, view, with_place}
use Rattle.tables.specs.declared.columns.Tables.{Tables}
use Rattle.tables.specs.Columns.{Terms, tables_in}
use Rattle.learning.specs.There.{term_there}
use Rattle.index.specs.Indexed.{Indexed}
use Rattle.checks.specs.There.{TermsThere, role_there, any_alike_there, head_fault}
use Rattle.checks.specs.Fields.{fields_fault_noted}
use Rattle.setup.specs.Allowed.{allowed_there, setup_leaves, signers_leave}
use Rattle.theorems.proofs.Loading.{Good}
use Rattle.theorems.proofs.Pieces.{from, body_at}
use Rattle.reader.specs.Place.{next_place}
use Rattle.scan.specs.declared.Tally.{Tally}
use Rattle.scan.specs.declared.Scanned.{Scanned}

-- one more than the signing key of a party, by the set-up records; 0 where it has none
unfoldable pub signer_of : List Setup → ℕ → ℕ
signer_of [] p = 0
signer_of (learns q t ∷ xs) p = signer_of xs p
signer_of (holds q k ∷ xs) p = signer_of xs p
signer_of (signs_with q k ∷ xs) p = cond (eqb q p) (k + 1) (signer_of xs p)

-- the file declared by the records before a place
pub record Describes (f : File) (bs s : List ℕ) (signers : ℕ → ℕ) (n : Tally) (at : ℕ) : Type 0 where
  pub section_is : f.section ≡ n.section
  pub parties_are : length f.roles ≡ n.parties
  pub terms_are : length f.terms ≡ n.terms
  pub commands_are : length f.commands ≡ n.commands
  pub places_are : length f.places ≡ n.terms
  pub few_parties : n.parties ≤ party_limit
  -- parties come first, of two bytes each
  pub parties_whole : 2 * n.parties ≤ at
  pub parties_first : n.section ≤ party_section → at ≡ 2 * n.parties
  pub role : (p : ℕ) → p < n.parties → role_there bs p ≡ role_of f p
  pub there : TermsThere bs s n.terms
  pub term_is : (t : ℕ) → t < n.terms → term_there bs ((view s).place t) ≡ term f t
  pub place : (t : ℕ) → t < n.terms → (view s).place t ≡ get_or f.places t 0
  pub place_beyond : (t : ℕ) → n.terms ≤ t → (view s).place t ≡ 0
  pub knows : (view s).knows ≡ taught f f.setup
  pub table : (view s).table ≡ holds_key f
  pub signer : (p : ℕ) → p < party_limit → signers p ≡ signer_of f.setup p
  -- nothing else is written
  pub mark : (t : ℕ) → (view s).mark t ≡ 0
  pub desk : (t : ℕ) → (view s).desk t ≡ 0
  pub request : (t : ℕ) → (view s).request t ≡ 0

-- the counts with one record more of a section
unfoldable pub counted : ℕ → Tally → Tally
counted own n =
    cond (eqb own party_section) (record { section = own; parties = n.parties + 1; terms = n.terms; commands = n.commands })
    (cond (eqb own term_section) (record { section = own; parties = n.parties; terms = n.terms + 1; commands = n.commands })
    (cond (eqb own setup_section) (record { section = own; parties = n.parties; terms = n.terms; commands = n.commands })
    (record { section = own; parties = n.parties; terms = n.terms; commands = n.commands + 1 })))

-- 3 to 8 at the record at a place, by the section, the parties and the terms so far
unfoldable pub checked_fault : List ℕ → Terms → ℕ → ℕ → ℕ → ℕ → ℕ
checked_fault bs v section parties terms at =
    first (head_fault (section_of (get_or bs at 0)) (next_place bs at) (length bs) section parties terms)
    (fields_fault_noted v parties terms (fields_of (get_or bs at 0)) 0 (body_at bs at))

-- 9 to 12 at a record whose fields are right
unfoldable pub last_fault : List ℕ → Columns → (ℕ → ℕ) → Tally → ℕ → List ℕ → ℕ
last_fault bs v signers n k body =
    cond (eqb (section_of k) term_section) (refuse_unless 9 (not (any_alike_there bs v.place (term_at k body) n.terms)))
    (cond (eqb (section_of k) setup_section) (allowed_there bs v signers n.parties (setup_at k body))
    0)

-- the columns and the signing keys after a record that is not refused
unfoldable pub columns_after : List ℕ → Columns → Tally → ℕ → List ℕ → ℕ → Columns
columns_after bs v n k body at =
    cond (eqb (section_of k) term_section) (with_place v (put v.place n.terms at))
    (cond (eqb (section_of k) setup_section) (setup_leaves bs v (setup_at k body))
    v)

unfoldable pub signers_after : (ℕ → ℕ) → ℕ → List ℕ → ℕ → ℕ
signers_after signers k body = cond (eqb (section_of k) setup_section) (signers_leave signers (setup_at k body)) signers

-- what entering a record needs: its fields are right, and there is room for it
pub record EnterReady (bs s body : List ℕ) (k at : ℕ) (n : Tally) : Type 0 where
  pub there : TermsThere bs s n.terms
  pub few_parties : n.parties ≤ party_limit
  pub parties_whole : 2 * n.parties ≤ length bs
  pub whole : body_length k ≤ length body
  pub near : at < 65536
  pub room_for_term : section_of k ≡ term_section → n.terms < term_limit
  pub party : section_of k ≡ setup_section → get_or body 0 0 < n.parties
  pub declared : section_of k ≡ setup_section → word body 1 < n.terms

-- what holds where the scan stands at the place of a record: the file declared so far is described, and feeding it what
-- is left is loading the file
pub record At (bs s : List ℕ) (signers : ℕ → ℕ) (n : Tally) (at : ℕ) : Type 0 where
  pub file : File
  pub describes : Describes file bs s signers n at
  pub good : Good file
  pub inside : at ≤ length bs
  pub short : length bs ≤ file_limit
  pub few : n.commands ≤ at
  pub in_order : n.section ≤ command_section
  pub left : feed (loaded file) (from bs at) ≡ load bs

-- and before the commands: the terms so far are indexed
pub record Stands (bs s links : List ℕ) (tables : Tables) (n : Tally) (at : ℕ) : Type 0 where
  pub here : At bs s (tables_in tables).signer n at
  pub indexed : Indexed bs (view s).place links tables n.terms

-- it stands where the commands begin, or at the file's end
pub record Begins (bs s : List ℕ) (tables : Tables) (n : Tally) (at : ℕ) : Type 0 where
  pub links : List ℕ
  pub stands : Stands bs s links tables n at
  pub begun : at < length bs → section_of (get_or bs at 0) ≡ command_section

-- what the scan starts from: no party has a signing key, and the tables are indexed for no term
pub record ScanReady (bs s : List ℕ) (tables : Tables) : Type 0 where
  pub short : length bs ≤ file_limit
  pub room : length s ≡ state_bytes
  pub clear : s ≡ replicate state_bytes 0
  pub unsigned : (p : ℕ) → p < party_limit → (tables_in tables).signer p ≡ 0
  pub links : List ℕ
  pub indexed : Indexed bs (view s).place links tables 0

-- what the scan leaves: the file that the bytes declare, described; or the refusal
pub record ScanResult (bs s : List ℕ) (signers : ℕ → ℕ) (r : Result Scanned Refused) : Type 0 where
  pub described : IfOk r (λ x. (f : File) × (load bs ≡ loaded f) × Describes f bs s signers x.tally (length bs))
  pub refused : IfErr r (λ x. load bs ≡ refused (number_of x.refusal) x.place)
