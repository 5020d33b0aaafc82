-- Demand 3, its words and its statement (document 01, "The words of demand 3").
use Rattle.std.specs.Prelude.{◌≡◌, ◌⊎◌, ◌↔◌, true, ℕ, suc, ◌≤◌, ◌<◌, length}
use mathlib.Core.List.{List, [], ◌∷◌, Memᴰ}
use Rattle.std.proofs.Math.Option.{some}
use Rattle.std.proofs.Math.ListN.{get_elem?}
use Rattle.rules.specs.declared.Family.{Family}
use Rattle.rules.specs.declared.Entry.{Entry}
use Rattle.rules.specs.declared.Subject.TheVariants.{Device}
use Rattle.rules.specs.Limits.{device, depth_limit}
use Rattle.rules.specs.Families.{signing_role, iak_family, families}
use Rattle.rules.specs.Term.{private_key_kind, certificate_kind}
use Rattle.rules.specs.File.{File, learns, holds, signs_with, Command, hash, sign, certify, make_credential, activate_credential, make_idevid_request, make_ldevid_request, make_pair, check_hash, check_signature, check_certificate, check_attributes, send, self_issue, challenge, issue_iak, issue, issue_iaks, extend, quote, IakPair, role_of, kind, parts, subject, attributes, paired, certified_key, signer, credential_number, signs_for_some}
use Rattle.rules.specs.Load.{loaded, load, commands_of}
use Rattle.rules.specs.Desk.{ek_certificate_of, parent_certificate_of, certificates_of}
use Rattle.rules.specs.Run.{outcome, reached}

-- "everything in it": the second term is the first, or is in one of its parts
pub data Inside (f : File) : ℕ → ℕ → Type 0 where
  itself : {t : ℕ} → Inside f t t
  in_part : {t u v : ℕ} → Memᴰ u (parts f t) → Inside f u v → Inside f t v

-- what an accepted command teaches: the party q learns the term t
abbrev pub Teaches : File → Command → ℕ → ℕ → Type 0
Teaches f (hash p r) q t = (q ≡ p) × (t ≡ r)
Teaches f (sign p r) q t = (q ≡ p) × (t ≡ r)
Teaches f (certify p r) q t = (q ≡ p) × (t ≡ r)
Teaches f (make_credential p r) q t = (q ≡ p) × (t ≡ r)
Teaches f (activate_credential p r) q t = (q ≡ p) × (t ≡ credential_number f r)
Teaches f (make_idevid_request p r) q t = (q ≡ p) × (t ≡ r)
Teaches f (make_ldevid_request p r) q t = (q ≡ p) × (t ≡ r)
Teaches f (make_pair p r) q t = (q ≡ p) × (t ≡ r)
Teaches f (check_hash p h u) q t = ⊥
Teaches f (check_signature p u k) q t = ⊥
Teaches f (check_certificate p c k) q t = ⊥
Teaches f (check_attributes p k a) q t = ⊥
Teaches f (send p receiver u) q t = (q ≡ receiver) × (t ≡ u)
Teaches f (self_issue p r) q t = (q ≡ p) × (t ≡ r)
Teaches f (challenge p request r) q t = (q ≡ p) × (t ≡ r)
Teaches f (issue_iak p returning c r) q t = (q ≡ p) × (t ≡ r)
Teaches f (issue family p request r) q t = (q ≡ p) × (t ≡ r)
Teaches f (issue_iaks p returning xs) q t = (q ≡ p) × Memᴰ t (certificates_of xs)
Teaches f (extend p i r) q t = ⊥
Teaches f (quote p r) q t = (q ≡ p) × (t ≡ r)

-- Accepted: the command of ordinal i is c, and its outcome is 0
pub record Accepted (f : File) (i : ℕ) (c : Command) : Type 0 where
  pub here : get_elem? (commands_of f) i ≡ some c
  pub zero_outcome : outcome f (reached f i) c ≡ 0

-- Known: learned by a 20 or by an accepted command of the first n, with everything in it
pub data Known (f : File) (n p u : ℕ) : Type 0 where
  by_setup : (t : ℕ) → Memᴰ (learns p t) f.setup → Inside f t u → Known f n p u
  by_command : (i : ℕ) (c : Command) (t : ℕ) → i < n → Accepted f i c → Teaches f c p t → Inside f t u → Known f n p u

-- Held: a 21 gave the private half to that TPM
pub record Held (f : File) (tpm public_key : ℕ) : Type 0 where
  pub half : ℕ
  pub pairs : paired f public_key half ≡ true
  pub given : Memᴰ (holds tpm half) f.setup

-- Desk key: given by a 22 to a party of a family's signing role (2 or 3)
pub record SignedBy (f : File) (family : Family) (t : ℕ) : Type 0 where
  pub is_certificate : kind f t ≡ certificate_kind
  pub desk : ℕ
  pub desk_key : Memᴰ (signs_with desk (signer f t)) f.setup
  pub desk_role : role_of f desk ≡ signing_role family

-- a certificate that a desk of some family signed
pub record DeskSigned (f : File) (t : ℕ) : Type 0 where
  pub family : Family
  pub known : Memᴰ family families
  pub signed : SignedBy f family t

-- the entry at a place of the ledger after the first n commands
abbrev pub EntryAt : File → ℕ → ℕ → Entry → Type 0
EntryAt f n i e = get_elem? (reached f n).ledger i ≡ some e

-- Listed: the ledger has an entry for it
pub record Listed (f : File) (n t : ℕ) : Type 0 where
  pub place : ℕ
  pub entry : Entry
  pub here : EntryAt f n place entry
  pub same : entry.certificate ≡ t

-- Parent: the certificate in the 17 or 18 of the request; for 3F and for a pair of a 43, of the request that its credential was opened with.
-- The family is that of the command that issued the certificate.
pub data Parent (f : File) (n : ℕ) (family : Family) (t g : ℕ) : Type 0 where
  of_iak :
      (i j p returning c q : ℕ) → i < n → Accepted f i (issue_iak p returning c t) → j < i → Accepted f j (challenge p q c) → family ≡ iak_family → g ≡ ek_certificate_of f q
      → Parent f n family t g
  of_pair :
      (i j p returning c q : ℕ) (xs : List IakPair) → i < n → Accepted f i (issue_iaks p returning xs) → Memᴰ (record { credential = c; certificate = t }) xs
      → j < i → Accepted f j (challenge p q c) → family ≡ iak_family → g ≡ ek_certificate_of f q → Parent f n family t g
  on_request : (i p q : ℕ) → i < n → Accepted f i (issue family p q t) → g ≡ parent_certificate_of f q → Parent f n family t g

-- Endorsement certificate of the set-up: a 19 that a 20 gave
pub record Endorsement (f : File) (t : ℕ) : Type 0 where
  pub is_certificate : kind f t ≡ certificate_kind
  pub party : ℕ
  pub given : Memᴰ (learns party t) f.setup

-- A path and its certificates: a step goes from a listed certificate to its parent, and the last is an endorsement certificate.
pub data Path (f : File) (n : ℕ) : ℕ → List ℕ → Type 0 where
  ends : {t : ℕ} → Endorsement f t → Path f n t (t ∷ [])
  step : {t g : ℕ} {family : Family} {more : List ℕ} → Listed f n t → Parent f n family t g → Path f n g more → Path f n t (t ∷ more)

-- the certificate at a place of the ledger
abbrev pub CertificateAt : File → ℕ → ℕ → ℕ → Type 0
CertificateAt f n i t = (e : Entry) × EntryAt f n i e × (e.certificate ≡ t)

-- The ledger places fall along a path: its first certificate is listed at place i, and each next one at a lower place than the one before
-- it, but for the last, an endorsement certificate, which need not be listed.
pub data Falls (f : File) (n : ℕ) : ℕ → List ℕ → Type 0 where
  to_last : {i t g : ℕ} → CertificateAt f n i t → Falls f n i (t ∷ g ∷ [])
  to_lower : {i j t : ℕ} {more : List ℕ} → CertificateAt f n i t → j < i → Falls f n j more → Falls f n i (t ∷ more)

abbrev pub All : (ℕ → Type 0) → List ℕ → Type 0
All P [] = Unit {0}
All P (x ∷ xs) = P x × All P xs

abbrev pub AllButLast : (ℕ → Type 0) → List ℕ → Type 0
AllButLast P [] = Unit {0}
AllButLast P (x ∷ []) = Unit {0}
AllButLast P (x ∷ y ∷ ys) = P x × AllButLast P (y ∷ ys)

-- An entry is of a family: the desk that signed its certificate, the attributes of its key, and the signer and key of its parent are
-- those of the family's row.
pub record OfFamily (f : File) (family : Family) (e : Entry) : Type 0 where
  pub row : Memᴰ family families
  pub signed : SignedBy f family e.certificate
  pub key_attributes : attributes f (certified_key f e.certificate) ≡ family.key
  pub parent_signed : signs_for_some f family.signers (signer f e.parent) ≡ true
  pub parent_attributes : attributes f (certified_key f e.parent) ≡ family.parent

-- What holds of the entry at a place of the ledger.
pub record Sound (f : File) (n i : ℕ) (e : Entry) : Type 0 where
  -- which family it is of
  pub family : Family
  pub of_family : OfFamily f family e
  -- the entry names its certificate's parent, and that is listed earlier at a depth one less, or is an endorsement certificate
  pub parent : Parent f n family e.certificate e.parent
  pub earlier :
      ((e.depth ≡ 1) × Endorsement f e.parent)
      ⊎ ((j : ℕ) × (g : Entry) × (j < i) × EntryAt f n j g × (g.certificate ≡ e.parent) × (e.depth ≡ suc g.depth))
  -- as many steps as the depth says, 1 to 8, to an endorsement certificate
  pub path : List ℕ
  pub is_path : Path f n e.certificate path
  pub steps : length path ≡ suc e.depth
  pub least : 1 ≤ e.depth
  pub most : e.depth ≤ depth_limit
  -- each certificate of the path, from this place on, is listed earlier than the one before it
  pub falls : Falls f n i path
  -- the keys certified on the path are held by one device's TPM
  pub tpm : ℕ
  pub is_device : role_of f tpm ≡ device
  pub held : All (λ c. Held f tpm (certified_key f c)) path
  -- all but the last carry one device Subject
  pub serial : ℕ
  pub subjects : AllButLast (λ c. subject f c ≡ Device serial) path

-- One device's TPM holds the keys certified on two paths.
pub record OneTpm (f : File) (path other : List ℕ) : Type 0 where
  pub tpm : ℕ
  pub is_device : role_of f tpm ≡ device
  pub held : All (λ c. Held f tpm (certified_key f c)) path
  pub other_held : All (λ c. Held f tpm (certified_key f c)) other

-- Demand 3 of a file after its first n commands.
pub record Resident (f : File) (n : ℕ) : Type 0 where
  -- the state's known-by bits are those of the word
  pub bits : (p t : ℕ) → ((reached f n).knows p t ≡ true) ↔ Known f n p t
  -- the ledger lists exactly the desk-signed certificates that some party knows
  pub listed_known : (t : ℕ) → Listed f n t → DeskSigned f t × ((p : ℕ) × (p < length f.roles) × Known f n p t)
  pub known_listed : (p t : ℕ) → Known f n p t → DeskSigned f t → Listed f n t
  -- each once
  pub once : (i j : ℕ) (e g : Entry) → EntryAt f n i e → EntryAt f n j g → e.certificate ≡ g.certificate → i ≡ j
  -- its parents, its path, its TPM, its Subject
  pub sound : (i : ℕ) (e : Entry) → EntryAt f n i e → Sound f n i e
  -- two entries of equal Subject, of whatever families: one and the same TPM holds all keys of both paths (request 3 of document 02)
  pub one_board :
      (i j : ℕ) (e g : Entry) → EntryAt f n i e → EntryAt f n j g → subject f e.certificate ≡ subject f g.certificate
      → (a : Sound f n i e) (b : Sound f n j g) → OneTpm f a.path b.path
  -- no party knows a private key
  pub no_private_key : (p t : ℕ) → Known f n p t → kind f t ≡ private_key_kind → ⊥

-- Demand 3: of every file that loads and every n
abbrev pub Demand3 : Type 0
Demand3 = (bytes : List ℕ) (f : File) → load bytes ≡ loaded f → (n : ℕ) → Resident f n
