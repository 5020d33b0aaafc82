-- What loading checked holds of every file that loads.
-- Assumes nothing.
use mathlib.Core.Path.{◌≡◌, refl, sym, subst, ◌∙◌}
use mathlib.Core.Bool.{Bool, true, false, cond, ◌&&◌, false≢true}
use mathlib.Core.Logic.{◌⊎◌, inl, inr}
use mathlib.Core.List.Memᴰ
use mathlib.Core.List.{List, [], ◌∷◌, Memᴰ}
use Prim.Native.Nat.{ℕ, zero, suc, ◌+◌, ◌-◌, ◌<◌, ◌≤◌}
use native.Mathlib.Omega.{arith}
use lib.Dec.{eqb, ltb, leb}
use borrow.Author.Tests.{ltb-true, leb-true, eqb-true, eqb-false, not-true}
use lib.ListN.{get_or, length, length-append, take, drop}
use Rattle.rules.specs.declared.Term.{Term}
use Rattle.rules.specs.Limits.{file_limit, party_limit, term_limit, pair_count, pair_width, register_count, device, tpm_maker}
use Rattle.rules.specs.Attributes.{fixed_tpm, has, desk_key_attributes}
use Rattle.rules.specs.Families.{request_families}
use Rattle.rules.specs.Term.{public_key_kind, private_key_kind, hash_kind, signature_kind, attest_kind, credential_kind, number_kind, idevid_request_kind, ldevid_request_kind, certificate_kind, pair_kind, register_kind, quote_kind, fields_in, is_tpm_subject, any_alike}
use Rattle.rules.specs.Record.{fields_of, last_kind, kind_count, section_of, party_section, term_section, setup_section, command_section, body_length, word, Piece, whole, fault, cut, pieces}
use Rattle.rules.specs.File.{File, Setup, learns, holds, signs_with, Command, hash, sign, certify, make_credential, activate_credential, make_idevid_request, make_ldevid_request, make_pair, check_hash, check_signature, check_certificate, check_attributes, send, self_issue, challenge, issue_iak, issue, issue_iaks, extend, quote, IakPair, role_of, term, kind, parts, names, field, hashed_term, message, register_of, quote_number, signing_key, subject, attributes, signer, credential_number, attested_key, certified_key, idevid_certificate, ldevid_certificate, signs_for_role}
use Rattle.rules.specs.Load.{term_at, setup_at, empty_pair, pairs_at, command_at, section_fault, count_fault, fields_fault, alike_fault, setup_fault, allowed_fault, record_fault, with_party, with_term, with_setup, with_command, enter, Load, loaded, refused, settle, step, feed, empty_file, load}
use Rattle.theorems.proofs.Terms.{declared}
use Rattle.theorems.proofs.FamilyRows.{row_of_kind}
use Rattle.theorems.proofs.LoadingTerms.{Named, Names, AllName, Distinct, all_name, distinct_more, named_lower, parts_lower}
use Rattle.theorems.proofs.LoadingFields.{first_zero, refuse_zero, SetupFields, AllPassed, passed, Each, each, fourth, within, term_names, setup_passed}
use Rattle.theorems.proofs.LoadingSetup.{Setups, no_mem, none_yet, one_more, setups_stay}

-- what loading checked of the pairs of a 43
abbrev pub PairsFormed : File → List IakPair → Type 0
PairsFormed f [] = Unit {0}
PairsFormed f (x ∷ xs) = (kind f x.credential ≡ credential_kind) × (kind f x.certificate ≡ certificate_kind) × PairsFormed f xs

-- what loading checked of a command's fields
abbrev pub Wellformed : File → Command → Type 0
Wellformed f (hash p r) = (p < length f.roles) × (kind f r ≡ hash_kind) × (r < length f.terms)
Wellformed f (sign p r) = (p < length f.roles) × (kind f r ≡ signature_kind)
Wellformed f (certify p r) = (p < length f.roles) × (kind f r ≡ signature_kind) × (kind f (message f r) ≡ attest_kind)
Wellformed f (make_credential p r) = (p < length f.roles) × (kind f r ≡ credential_kind)
Wellformed f (activate_credential p r) = (p < length f.roles) × (kind f r ≡ credential_kind)
Wellformed f (make_idevid_request p r) = (p < length f.roles) × (kind f r ≡ idevid_request_kind)
Wellformed f (make_ldevid_request p r) = (p < length f.roles) × (kind f r ≡ ldevid_request_kind)
Wellformed f (make_pair p r) = (p < length f.roles) × (kind f r ≡ pair_kind)
Wellformed f (check_hash p h t) = (p < length f.roles) × (kind f h ≡ hash_kind) × (h < length f.terms) × (t < length f.terms)
Wellformed f (check_signature p t k) = (p < length f.roles) × (kind f t ≡ signature_kind) × (kind f k ≡ public_key_kind)
Wellformed f (check_certificate p c k) = (p < length f.roles) × (kind f c ≡ certificate_kind) × (kind f k ≡ public_key_kind)
Wellformed f (check_attributes p k a) = (p < length f.roles) × (kind f k ≡ public_key_kind)
Wellformed f (send p q t) = (p < length f.roles) × (q < length f.roles) × (t < length f.terms)
Wellformed f (self_issue p r) = (p < length f.roles) × (kind f r ≡ certificate_kind)
Wellformed f (challenge p q r) = (p < length f.roles) × (kind f r ≡ credential_kind) × (q < length f.terms)
Wellformed f (issue_iak p q c r) = (p < length f.roles) × (q < length f.roles) × (kind f c ≡ credential_kind) × (kind f r ≡ certificate_kind)
Wellformed f (issue family p q r) = (p < length f.roles) × (kind f r ≡ certificate_kind) × (q < length f.terms) × Memᴰ family request_families
Wellformed f (issue_iaks p q xs) = (p < length f.roles) × (q < length f.roles) × PairsFormed f xs
Wellformed f (extend p i r) = (p < length f.roles) × (kind f r ≡ hash_kind) × (kind f (hashed_term f r) ≡ pair_kind) × (i < register_count) × (r < length f.terms)
Wellformed f (quote p r) = (p < length f.roles) × (kind f r ≡ signature_kind) × (kind f (message f r) ≡ quote_kind)

-- what holds of every file that loads
pub record Checked (f : File) : Type 0 where
  pub lower : (t u : ℕ) → Memᴰ u (parts f t) → u < t
  pub names_lower : (t u : ℕ) → t < length f.terms → Memᴰ u (names f t) → u < t
  pub distinct : (i j : ℕ) → i < length f.terms → j < length f.terms → term f i ≡ term f j → i ≡ j
  pub parties : length f.roles ≤ party_limit
  pub credential_number_kind : (t : ℕ) → kind f t ≡ credential_kind → kind f (credential_number f t) ≡ number_kind
  pub attested_key_kind : (t : ℕ) → kind f t ≡ attest_kind → kind f (attested_key f t) ≡ public_key_kind
  pub certified_key_kind : (t : ℕ) → kind f t ≡ certificate_kind → kind f (certified_key f t) ≡ public_key_kind
  pub idevid_certificate_kind : (t : ℕ) → kind f t ≡ idevid_request_kind → kind f (idevid_certificate f t) ≡ certificate_kind
  pub ldevid_certificate_kind : (t : ℕ) → kind f t ≡ ldevid_request_kind → kind f (ldevid_certificate f t) ≡ certificate_kind
  pub signer_kind : (t : ℕ) → kind f t ≡ certificate_kind → kind f (signer f t) ≡ private_key_kind
  pub signing_key_kind : (t : ℕ) → kind f t ≡ signature_kind → kind f (signing_key f t) ≡ private_key_kind
  pub quote_number_kind : (t : ℕ) → kind f t ≡ quote_kind → kind f (quote_number f t) ≡ number_kind
  pub quote_register : (t : ℕ) → kind f t ≡ quote_kind → register_of f t < register_count
  pub start_register : (t : ℕ) → kind f t ≡ register_kind → register_of f t < register_count
  pub learns_party : (p t : ℕ) → Memᴰ (learns p t) f.setup → p < length f.roles
  pub learns_allowed :
      (p t : ℕ) → Memᴰ (learns p t) f.setup
      → (kind f t ≡ public_key_kind)
      ⊎ ((kind f t ≡ number_kind)
      ⊎ ((kind f t ≡ certificate_kind) × (is_tpm_subject (subject f t) ≡ true) × (signs_for_role f tpm_maker (signer f t) ≡ true)))
  pub holds_party : (p k : ℕ) → Memᴰ (holds p k) f.setup → p < length f.roles
  pub holds_kind : (p k : ℕ) → Memᴰ (holds p k) f.setup → kind f k ≡ private_key_kind
  pub holds_once : (p q k : ℕ) → Memᴰ (holds p k) f.setup → Memᴰ (holds q k) f.setup → has (attributes f k) fixed_tpm ≡ true → p ≡ q
  pub signs_role : (p k : ℕ) → Memᴰ (signs_with p k) f.setup → role_of f p ≡ device → ⊥
  pub signs_attributes : (p k : ℕ) → Memᴰ (signs_with p k) f.setup → attributes f k ≡ desk_key_attributes
  pub signs_held : (p k : ℕ) → Memᴰ (signs_with p k) f.setup → Memᴰ (holds p k) f.setup
  pub signs_one : (p j k : ℕ) → Memᴰ (signs_with p j) f.setup → Memᴰ (signs_with p k) f.setup → j ≡ k
  pub wellformed : (c : Command) → Memᴰ c f.commands → Wellformed f c
  pub few_terms : length f.terms ≤ term_limit

-- every command that passed is well formed
abbrev CommandPassed : File → List ℕ → ℕ → Type 0
CommandPassed f bs k = AllPassed f (fields_of k) 0 bs → Wellformed f (command_at k bs)

pair_formed : (f : File) (bs : List ℕ) (i : ℕ) (xs : List IakPair) (b : Bool) → empty_pair bs i ≡ b → (empty_pair bs i ≡ true) ⊎ ((kind f (word bs i) ≡ credential_kind) × (kind f (word bs (i + 2)) ≡ certificate_kind))
    → PairsFormed f xs → PairsFormed f (cond b xs (record { credential = word bs i; certificate = word bs (i + 2) } ∷ xs))
pair_formed f bs i xs true e h more = more
pair_formed f bs i xs false e (inl z) more = absurd (false≢true (sym e ∙ z))
pair_formed f bs i xs false e (inr w) more = (w.0, w.1, more)

-- n fields of pairs that passed
abbrev PairsPassed : File → ℕ → List ℕ → ℕ → Type 0
PairsPassed f zero bs i = Unit {0}
PairsPassed f (suc n) bs i = ((empty_pair bs i ≡ true) ⊎ ((kind f (word bs i) ≡ credential_kind) × (kind f (word bs (i + 2)) ≡ certificate_kind))) × PairsPassed f n bs (i + pair_width)

pairs_formed : (f : File) (n : ℕ) (bs : List ℕ) (i : ℕ) → PairsPassed f n bs i → PairsFormed f (pairs_at n bs i)
unfolding pairs_at
pairs_formed f zero bs i h = tt
pairs_formed f (suc n) bs i h = pair_formed f bs i (pairs_at n bs (i + pair_width)) (empty_pair bs i) refl h.0 (pairs_formed f n bs (i + pair_width) h.1)

module _ (f : File) (bs : List ℕ) where
  each_command : Each (CommandPassed f bs) (kind_count - 0x30) 0x30
  unfolding fields_of section_of command_at
  each_command = ((λ h. (h.0, h.1.0.1, h.1.0.0)), ((λ h. (h.0, h.1.0.1)), ((λ h. (h.0, h.1.0.0, h.1.0.1)), ((λ h. (h.0, h.1.0.1)), ((λ h. (h.0, h.1.0.1)), ((λ h. (h.0, h.1.0.1)), ((λ h. (h.0, h.1.0.1)), ((λ h. (h.0, h.1.0.1)), ((λ h. (h.0, h.1.0.1, h.1.0.0, h.1.1.0)), ((λ h. (h.0, h.1.0.1, h.1.1.0.1)), ((λ h. (h.0, h.1.0.1, h.1.1.0.1)), ((λ h. (h.0, h.1.0.1)), ((λ h. (h.0, h.1.0, h.1.1.0)), ((λ h. (h.0, h.1.0.1)), ((λ h. (h.0, h.1.1.0.1, h.1.0)), ((λ h. (h.0, h.1.0, h.1.1.0.1, h.1.1.1.0.1)), ((λ h. (h.0, h.1.1.0.1, h.1.0, row_of_kind _)), ((λ h. (h.0, h.1.1.0.1, h.1.0, row_of_kind _)), ((λ h. (h.0, h.1.1.0.1, h.1.0, row_of_kind _)), ((λ h. (h.0, h.1.0, pairs_formed f pair_count bs 2 h.1.1)), ((λ h. (h.0, h.1.1.0.1, h.1.1.0.2, h.1.0, h.1.1.0.0)), ((λ h. (h.0, h.1.0.0, h.1.0.1)), tt))))))))))))))))))))))

  command_passed : (k : ℕ) → section_of k ≡ command_section → fields_fault f (fields_of k) 0 bs ≡ 0 → Wellformed f (command_at k bs)
  unfolding section_of
  command_passed k s e =
      let r = within 0x30 k last_kind (fourth (eqb k 1) (leb 0x10 k && leb k 0x1C) (leb 0x20 k && leb k 0x22) _ s) in
      each (CommandPassed f bs) (kind_count - 0x30) 0x30 each_command k r.0 (omega arith) (passed f bs (fields_of k) 0 e)

-- The invariant: what holds after every record. A section that has not begun is empty.
pub record Good (f : File) : Type 0 where
  names : AllName f.terms
  distinct : Distinct f.terms
  parties : length f.roles ≤ party_limit
  few_terms : length f.terms ≤ term_limit
  setups : Setups f
  wellformed : (c : Command) → Memᴰ c f.commands → Wellformed f c
  no_terms : f.section < term_section → f.terms ≡ []
  no_setup : f.section < setup_section → f.setup ≡ []
  no_commands : f.section < command_section → f.commands ≡ []

pairs_stay : (f : File) (section : ℕ) (c : Command) (xs : List IakPair) → PairsFormed f xs → PairsFormed (with_command f section c) xs
unfolding with_command kind term
pairs_stay f section c [] w = tt
pairs_stay f section c (x ∷ xs) w = (w.0, w.1, pairs_stay f section c xs w.2)

wellformed_stays : (f : File) (section : ℕ) (c b : Command) → Wellformed f b → Wellformed (with_command f section c) b
unfolding with_command kind term hashed_term message field
wellformed_stays f section c (hash p r) w = w
wellformed_stays f section c (sign p r) w = w
wellformed_stays f section c (certify p r) w = w
wellformed_stays f section c (make_credential p r) w = w
wellformed_stays f section c (activate_credential p r) w = w
wellformed_stays f section c (make_idevid_request p r) w = w
wellformed_stays f section c (make_ldevid_request p r) w = w
wellformed_stays f section c (make_pair p r) w = w
wellformed_stays f section c (check_hash p h t) w = w
wellformed_stays f section c (check_signature p t k) w = w
wellformed_stays f section c (check_certificate p d k) w = w
wellformed_stays f section c (check_attributes p k a) w = w
wellformed_stays f section c (send p q t) w = w
wellformed_stays f section c (self_issue p r) w = w
wellformed_stays f section c (challenge p q r) w = w
wellformed_stays f section c (issue_iak p q d r) w = w
wellformed_stays f section c (issue family p q r) w = w
wellformed_stays f section c (issue_iaks p q xs) w = (w.0, w.1, pairs_stay f section c xs w.2)
wellformed_stays f section c (extend p i r) w = w
wellformed_stays f section c (quote p r) w = w

module _ (f : File) (g : Good f) where
  party_good : (role : ℕ) → f.section ≤ party_section → length f.roles < party_limit → Good (with_party f role)
  unfolding with_party
  party_good role s few = record {
    names = g.names;
    distinct = g.distinct;
    parties = (omega (arith, length-append f.roles (role ∷ [])));
    few_terms = g.few_terms;
    setups = none_yet (with_party f role) (g.no_setup (omega arith));
    wellformed = λ c m. absurd (no_mem (g.no_commands (omega arith)) m);
    no_terms = λ h. g.no_terms (omega arith);
    no_setup = λ h. g.no_setup (omega arith);
    no_commands = λ h. g.no_commands (omega arith);
  }

  term_good :
      (t : Term) (at : ℕ) → f.section ≤ term_section → length f.terms < term_limit → any_alike t f.terms ≡ false → Names f.terms (length f.terms) t
      → Good (with_term f t at)
  unfolding with_term
  term_good t at s few new n = record {
    names = all_name f.terms t g.names n;
    distinct = distinct_more f.terms t g.distinct new;
    parties = g.parties;
    few_terms = (omega (arith, length-append f.terms (t ∷ [])));
    setups = none_yet (with_term f t at) (g.no_setup (omega arith));
    wellformed = λ c m. absurd (no_mem (g.no_commands (omega arith)) m);
    no_terms = λ h. absurd (omega arith);
    no_setup = λ h. g.no_setup (omega arith);
    no_commands = λ h. g.no_commands (omega arith);
  }

  setup_good : (x : Setup) → f.section ≤ setup_section → SetupFields f x → allowed_fault f x ≡ 0 → Good (with_setup f x)
  unfolding with_setup
  setup_good x s fields allowed = record {
    names = g.names;
    distinct = g.distinct;
    parties = g.parties;
    few_terms = g.few_terms;
    setups = one_more f x g.setups fields allowed;
    wellformed = λ c m. absurd (no_mem (g.no_commands (omega arith)) m);
    no_terms = λ h. absurd (omega arith);
    no_setup = λ h. absurd (omega arith);
    no_commands = λ h. g.no_commands (omega arith);
  }

  module _ (section : ℕ) (c : Command) where
    wellformed_go : Wellformed f c → (b : Command) → (b ≡ c) ⊎ Memᴰ b f.commands → Wellformed f b
    wellformed_go w b (inl e) = subst (Wellformed f) (sym e) w
    wellformed_go w b (inr m) = g.wellformed b m

    command_good : section ≡ command_section → Wellformed f c → Good (with_command f section c)
    unfolding with_command
    command_good e w = record {
      names = g.names;
      distinct = g.distinct;
      parties = g.parties;
      few_terms = g.few_terms;
      setups = setups_stay f section c g.setups;
      wellformed = λ b m. wellformed_stays f section c b (wellformed_go w b (Memᴰ.cases_cons m));
      no_terms = λ h. absurd (omega arith);
      no_setup = λ h. absurd (omega arith);
      no_commands = λ h. absurd (omega arith);
    }

-- a kind of no other section is a command's
abbrev section_by : Bool → Bool → Bool → Bool → ℕ
section_by a b c d = cond a 1 (cond b 2 (cond c 3 (cond d 4 0)))

last_section :
    (a b c d : Bool) → 0 < section_by a b c d → (section_by a b c d ≡ party_section → ⊥) → (section_by a b c d ≡ term_section → ⊥) → (section_by a b c d ≡ setup_section → ⊥)
    → section_by a b c d ≡ command_section
last_section true b c d h x y z = absurd (x refl)
last_section false true c d h x y z = absurd (y refl)
last_section false false true d h x y z = absurd (z refl)
last_section false false false true h x y z = refl
last_section false false false false h x y z = absurd (omega arith)

pub command_section_lem : (k : ℕ) → 0 < section_of k → (section_of k ≡ party_section → ⊥) → (section_of k ≡ term_section → ⊥) → (section_of k ≡ setup_section → ⊥) → section_of k ≡ command_section
unfolding section_of
command_section_lem k h x y z = last_section (eqb k 1) (leb 0x10 k && leb k 0x1C) (leb 0x20 k && leb k 0x22) (leb 0x30 k && leb k last_kind) h x y z

module _ (f : File) (place k : ℕ) (bs : List ℕ) (g : Good f) (known : 0 < section_of k) (none : record_fault f k bs ≡ 0) where
  in_order_lem : f.section ≤ section_of k
  unfolding record_fault section_fault
  in_order_lem = leb-true f.section (section_of k) (refuse_zero 5 (leb f.section (section_of k)) (omega arith) (first_zero _ _ none).0)

  not_many : count_fault f k ≡ 0
  unfolding record_fault
  not_many = (first_zero _ _ (first_zero _ _ none).1).0

  fields_right : fields_fault f (fields_of k) 0 bs ≡ 0
  unfolding record_fault
  fields_right = (first_zero _ _ (first_zero _ _ (first_zero _ _ none).1).1).0

  not_alike : alike_fault f k bs ≡ 0
  unfolding record_fault
  not_alike = (first_zero _ _ (first_zero _ _ (first_zero _ _ (first_zero _ _ none).1).1).1).0

  setup_right : setup_fault f k bs ≡ 0
  unfolding record_fault
  setup_right = (first_zero _ _ (first_zero _ _ (first_zero _ _ (first_zero _ _ none).1).1).1).1

  entered_go :
      (u v w : Bool) → eqb (section_of k) party_section ≡ u → eqb (section_of k) term_section ≡ v → eqb (section_of k) setup_section ≡ w
      → Good (cond u (with_party f (get_or bs 0 0)) (cond v (with_term f (term_at k bs) place) (cond w (with_setup f (setup_at k bs)) (with_command f (section_of k) (command_at k bs)))))
  unfolding count_fault alike_fault setup_fault
  entered_go true v w a b c =
      let e : section_of k ≡ party_section = eqb-true (section_of k) party_section a in
      let o : f.section ≤ section_of k = in_order_lem in
      party_good f g (get_or bs 0 0) (omega arith) (ltb-true (length f.roles) party_limit (refuse_zero 6 _ (omega arith) (rw a at not_many)))
  entered_go false true w a b c =
      let e : section_of k ≡ term_section = eqb-true (section_of k) term_section b in
      let o : f.section ≤ section_of k = in_order_lem in
      term_good f g (term_at k bs) place (omega arith) (ltb-true (length f.terms) term_limit (refuse_zero 6 _ (omega arith) (rw (a, b) at not_many)))
      (not-true (any_alike (term_at k bs) f.terms) (refuse_zero 9 _ (omega arith) (rw b at not_alike)))
      (term_names f bs k e fields_right)
  entered_go false false true a b c =
      let e : section_of k ≡ setup_section = eqb-true (section_of k) setup_section c in
      let o : f.section ≤ section_of k = in_order_lem in
      setup_good f g (setup_at k bs) (omega arith) (setup_passed f bs k e fields_right) (rw c at setup_right)
  entered_go false false false a b c =
      let e : section_of k ≡ command_section = command_section_lem k known (eqb-false (section_of k) party_section a) (eqb-false (section_of k) term_section b) (eqb-false (section_of k) setup_section c) in
      command_good f g (section_of k) (command_at k bs) e (command_passed f bs k e fields_right)

  pub entered : Good (enter f place k bs)
  unfolding enter
  entered = entered_go (eqb (section_of k) party_section) (eqb (section_of k) term_section) (eqb (section_of k) setup_section) refl refl refl

-- a whole piece has a section
abbrev Known : List Piece → Type 0
Known [] = Unit {0}
Known (whole place k bs ∷ ps) = (0 < section_of k) × Known ps
Known (fault r place ∷ ps) = Known ps

cut_known : (a b : Bool) (place k : ℕ) (body : List ℕ) (more : List Piece) → ltb 0 (section_of k) ≡ a → Known more → Known (cut a b place k body more)
unfolding cut
cut_known false b place k body more e h = tt
cut_known true false place k body more e h = tt
cut_known true true place k body more e h = (ltb-true 0 (section_of k) e, h)

pieces_known : (n place : ℕ) (bs : List ℕ) → Known (pieces n place bs)
unfolding pieces
pieces_known zero place bs = tt
pieces_known (suc n) place [] = tt
pieces_known (suc n) place (k ∷ bs) =
    cut_known (ltb 0 (section_of k)) (eqb (length (take (body_length k) bs)) (body_length k)) place k (take (body_length k) bs) _ refl
    (pieces_known n (place + 1 + body_length k) (drop (body_length k) bs))

-- the invariant of what loading gives
abbrev Sound : Load → Type 0
Sound (loaded f) = Good f
Sound (refused r place) = Unit {0}

settled : (f : File) (r place : ℕ) → (r ≡ 0 → Good f) → Sound (settle r place f)
unfolding settle
settled f zero place h = h refl
settled f (suc r) place h = tt

fed : (ps : List Piece) (l : Load) → Known ps → Sound l → Sound (feed l ps)
unfolding feed step
fed [] l known g = g
fed (whole place k bs ∷ ps) (refused r at) known g = fed ps (refused r at) known.1 tt
fed (whole place k bs ∷ ps) (loaded f) known g =
    fed ps (settle (record_fault f k bs) place (enter f place k bs)) known.1
    (settled (enter f place k bs) (record_fault f k bs) place (λ none. entered f place k bs g known.0 none))
fed (fault r place ∷ ps) (refused q at) known g = fed ps (refused q at) known tt
fed (fault r place ∷ ps) (loaded f) known g = fed ps (refused r place) known tt

pub empty_good : Good empty_file
unfolding empty_file
empty_good = record {
  names = λ i h. absurd (omega arith);
  distinct = λ i j hi hj e. absurd (omega arith);
  parties = (omega arith);
  few_terms = (omega arith);
  setups = none_yet empty_file refl;
  wellformed = λ c m. absurd (no_mem refl m);
  no_terms = λ h. refl;
  no_setup = λ h. refl;
  no_commands = λ h. refl;
}

cond_sound : (t : Bool) (l m : Load) → Sound l → Sound m → Sound (cond t l m)
cond_sound true l m g h = g
cond_sound false l m g h = h

load_sound : (bytes : List ℕ) → Sound (load bytes)
unfolding load
load_sound bytes =
    cond_sound (leb (length bytes) file_limit) _ _ (fed (pieces (length bytes) 0 bytes) (loaded empty_file) (pieces_known (length bytes) 0 bytes) empty_good) tt

-- what loading checked of the fields of a term, by its kind
fields_by : (f : File) → Good f → (t k : ℕ) → kind f t ≡ k → (k ≡ hash_kind → ⊥) → Named f.terms t (fields_of k) 0 (fields_in (term f t))
unfolding term kind
fields_by f g t k e other =
    subst (λ (j : ℕ). Named f.terms t (fields_of j) 0 (fields_in (term f t))) e (g.names t (declared f t (λ h. other (sym e ∙ h))))

pub good_checked : (f : File) → Good f → Checked f
unfolding parts names term kind fields_of section_of credential_number attested_key certified_key idevid_certificate ldevid_certificate signer signing_key register_of quote_number field
good_checked f g =
    let s = g.setups in
    record {
      lower = parts_lower f.terms g.names;
      names_lower = named_lower f.terms g.names;
      distinct = g.distinct;
      parties = g.parties;
      credential_number_kind = λ t e. (fields_by f g t credential_kind e (omega arith)).1.0.1;
      attested_key_kind = λ t e. (fields_by f g t attest_kind e (omega arith)).0.1;
      certified_key_kind = λ t e. (fields_by f g t certificate_kind e (omega arith)).0.1;
      idevid_certificate_kind = λ t e. (fields_by f g t idevid_request_kind e (omega arith)).1.0.1;
      ldevid_certificate_kind = λ t e. (fields_by f g t ldevid_request_kind e (omega arith)).1.0.1;
      signer_kind = λ t e. (fields_by f g t certificate_kind e (omega arith)).1.1.0.1;
      signing_key_kind = λ t e. (fields_by f g t signature_kind e (omega arith)).1.0.1;
      quote_number_kind = λ t e. (fields_by f g t quote_kind e (omega arith)).1.1.0.1;
      quote_register = λ t e. (fields_by f g t quote_kind e (omega arith)).0;
      start_register = λ t e. (fields_by f g t register_kind e (omega arith)).0;
      learns_party = s.learns_party;
      learns_allowed = s.learns_allowed;
      holds_party = s.holds_party;
      holds_kind = s.holds_kind;
      holds_once = s.holds_once;
      signs_role = λ p k m. (s.signing p k m).role;
      signs_attributes = λ p k m. (s.signing p k m).key_attributes;
      signs_held = s.signs_held;
      signs_one = s.signs_one;
      wellformed = g.wellformed;
      few_terms = g.few_terms;
    }

pub checked : (bytes : List ℕ) (f : File) → load bytes ≡ loaded f → Checked f
checked bytes f e = good_checked f (subst Sound e (load_sound bytes))
