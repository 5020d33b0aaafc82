-- What holds of every state that a list of commands leaves, and that a step which meets some conditions keeps it.
-- Assumes nothing.
use mathlib.Core.Path.{◌≡◌, refl, sym, ap, subst, subst⁻¹, subst₂, ◌∙◌}
use mathlib.Core.Logic.{◌⊎◌, inl, inr, ⊎_elim}
use mathlib.Core.Bool.{Bool, true, false, false≢true}
use mathlib.Core.List.{List, [], ◌∷◌, ◌++◌, Memᴰ}
use mathlib.Core.Option.{some}
use Prim.Native.Nat.{ℕ, suc, ◌<◌, ◌≤◌}
use native.Mathlib.Omega.{arith}
use lib.ListN.{length, get_elem?}
use Rattle.rules.specs.declared.Entry.{Entry}
use Rattle.rules.specs.declared.Family.{Family}
use Rattle.rules.specs.declared.Subject.TheVariants.{Device}
use Rattle.rules.specs.Limits.{device, tpm_maker, oem_desk, depth_limit}
use Rattle.rules.specs.Attributes.{has, restricted, fixed_tpm, iak_attributes, ek_attributes}
use Rattle.rules.specs.Term.{private_key_kind, hash_kind, signature_kind, attest_kind, credential_kind, number_kind, certificate_kind, register_kind, is_device_subject}
use Rattle.rules.specs.File.{File, holds, signs_with, role_of, kind, subject, attributes, message, signing_key, certified_key, signer, hashed_term, attested_key, credential_term, credential_number, credential_key, signs_for_role}
use Rattle.rules.specs.Learning.{Knowledge, learn}
use Rattle.rules.specs.State.{State, number_used, credential_open, listed}
use Rattle.rules.specs.Desk.{request_body, iak_of, ek_of, ek_certificate_of, end_ek}
use Rattle.theorems.specs.Residency.{Inside, Held, Endorsement, OfFamily}
use Rattle.theorems.proofs.Learning.{Closed, learn_only, learn_closed}
use Rattle.theorems.proofs.Loading.{Checked}
use Rattle.theorems.proofs.Ledgers.{at_kept, at_appended, at_listed}
use Rattle.theorems.proofs.Ends.{Descends, OneEk, end_kept}

-- one device's TPM holds the private halves of two keys
pub record DeviceHolds (f : File) (a b : ℕ) : Type 0 where
  pub tpm : ℕ
  pub is_device : role_of f tpm ≡ device
  pub first : Held f tpm a
  pub second : Held f tpm b

pub record KnownToDevice (f : File) (s : State) (u : ℕ) : Type 0 where
  pub party : ℕ
  pub is_device : role_of f party ≡ device
  pub knows : s.knows party u ≡ true

-- the signature of an attest: one device's TPM holds its key and the attested key's private half
pub record Attested (f : File) (s : State) (u : ℕ) : Type 0 where
  pub tpm : ℕ
  pub is_device : role_of f tpm ≡ device
  pub signing : s.table tpm (signing_key f u) ≡ true
  pub attested : Held f tpm (attested_key f (message f u))

-- what holds of a term that some party knows
pub record Good (f : File) (s : State) (u : ℕ) : Type 0 where
  pub not_private : kind f u ≡ private_key_kind → ⊥
  pub attested : kind f u ≡ signature_kind → kind f (message f u) ≡ attest_kind → has (attributes f (signing_key f u)) restricted ≡ true → Attested f s u
  pub endorsed : kind f u ≡ certificate_kind → (m : ℕ) → Memᴰ (signs_with m (signer f u)) f.setup → role_of f m ≡ tpm_maker → Endorsement f u
  pub issued : kind f u ≡ certificate_kind → (m : ℕ) → Memᴰ (signs_with m (signer f u)) f.setup → (role_of f m ≡ tpm_maker → ⊥) → listed s.ledger u ≡ true
  pub numbered : kind f u ≡ credential_kind → (s.mark (credential_number f u) ≡ number_used) ⊎ KnownToDevice f s (credential_number f u)

-- the secret of an open credential: its desk alone knows the number, and no other credential with that number is known
pub record Secret (f : File) (s : State) (c d : ℕ) : Type 0 where
  pub alone : (p : ℕ) → s.knows p (credential_number f c) ≡ true → p ≡ d
  pub only : (p x : ℕ) → s.knows p x ≡ true → kind f x ≡ credential_kind → credential_number f x ≡ credential_number f c → x ≡ c

-- what holds of a credential c that the desk d opened with the request q
pub record Open (f : File) (s : State) (c d q : ℕ) : Type 0 where
  pub used : s.mark (credential_number f c) ≡ number_used
  pub desk_role : role_of f d ≡ oem_desk
  pub device_subject : is_device_subject (subject f (request_body f q)) ≡ true
  pub iak : attributes f (iak_of f q) ≡ iak_attributes
  pub ek : attributes f (ek_of f q) ≡ ek_attributes
  pub endorsement : Endorsement f (ek_certificate_of f q)
  pub maker : signs_for_role f tpm_maker (signer f (ek_certificate_of f q)) ≡ true
  pub name : hashed_term f (credential_term f c) ≡ iak_of f q
  pub key : credential_key f c ≡ ek_of f q
  pub challenge : DeviceHolds f (iak_of f q) (ek_of f q) ⊎ Secret f s c d

-- the parent of an entry: an endorsement certificate, or listed earlier
abbrev pub Earlier : File → List Entry → ℕ → Entry → Type 0
Earlier f ledger i e =
    ((e.depth ≡ 1) × Endorsement f e.parent × ((n : ℕ) × (subject f e.certificate ≡ Device n)))
    ⊎ ((j : ℕ) × (g : Entry) × (j < i) × (get_elem? ledger j ≡ some g) × (g.certificate ≡ e.parent) × (e.depth ≡ suc g.depth) × (subject f e.certificate ≡ subject f e.parent))

-- what holds of an entry of the ledger
pub record EntryGood (f : File) (s : State) (i : ℕ) (e : Entry) : Type 0 where
  pub family : Family
  pub of_family : OfFamily f family e
  pub fixed : has (attributes f (certified_key f e.certificate)) fixed_tpm ≡ true
  pub known : s.knows of_family.signed.desk e.certificate ≡ true
  pub least : 1 ≤ e.depth
  pub most : e.depth ≤ depth_limit
  pub earlier : Earlier f s.ledger i e
  pub held : DeviceHolds f (certified_key f e.certificate) (certified_key f e.parent)

-- What a register may show: a starting value or a hash. Opening a quote opens its value, and the value is what a
-- register shows (refusal 33): it has no parts and is no private key, so a 45 teaches no private key, nor any signature
-- or certificate but r. (No term of the file has the number that an empty register shows, and what is not declared
-- counts as a hash.)
abbrev pub Shown : File → ℕ → Type 0
Shown f t = (kind f t ≡ register_kind) ⊎ (kind f t ≡ hash_kind)

pub record Invariant (f : File) (s : State) : Type 0 where
  pub closed : Closed f s.knows
  pub party : (p t : ℕ) → s.knows p t ≡ true → p < length f.roles
  pub held : (p k : ℕ) → kind f k ≡ private_key_kind → s.table p k ≡ true → Memᴰ (holds p k) f.setup
  pub good : (p u : ℕ) → s.knows p u ≡ true → Good f s u
  pub opened : (c : ℕ) → kind f c ≡ credential_kind → s.mark c ≡ credential_open → Open f s c (s.desk c) (s.request c)
  pub entries : (i : ℕ) (e : Entry) → get_elem? s.ledger i ≡ some e → EntryGood f s i e
  pub once : (i j : ℕ) (e g : Entry) → get_elem? s.ledger i ≡ some e → get_elem? s.ledger j ≡ some g → e.certificate ≡ g.certificate → i ≡ j
  pub one_ek : OneEk f s.ledger
  pub shown : (p i : ℕ) → Shown f (s.registers p i)

-- parents stand earlier
pub descends : (f : File) (s : State) → Invariant f s → Descends s.ledger
descends f s inv i e h = ⊎_elim (λ w. inl w.0) (λ w. inr (w.0, w.1, w.2, w.3, w.4, w.5)) (inv.entries i e h).earlier

-- a device activated a credential with the number u
pub record Activated (f : File) (s : State) (u : ℕ) : Type 0 where
  pub party : ℕ
  pub is_device : role_of f party ≡ device
  pub credential : ℕ
  pub knows : s.knows party credential ≡ true
  pub is_credential : kind f credential ≡ credential_kind
  pub number : credential_number f credential ≡ u
  pub name : Held f party (hashed_term f (credential_term f credential))
  pub key : Held f party (credential_key f credential)

-- what a step asks of each term u that the party q learns
pub record Fresh (f : File) (s s' : State) (q u : ℕ) : Type 0 where
  pub good : Good f s' u
  pub number : kind f u ≡ number_kind → (s.knows q u ≡ true) ⊎ (KnownToDevice f s u ⊎ Activated f s u)
  pub credential :
      kind f u ≡ credential_kind
      → ((p : ℕ) × (s.knows p u ≡ true)) ⊎ (KnownToDevice f s (credential_number f u) ⊎ (s.mark (credential_number f u) ≡ number_used → ⊥))

-- what only grows from one state to the next
pub record Grows (f : File) (s s' : State) : Type 0 where
  pub knows : (p u : ℕ) → s.knows p u ≡ true → s'.knows p u ≡ true
  pub table : (p k : ℕ) → s.table p k ≡ true → s'.table p k ≡ true
  pub used : (n : ℕ) → kind f n ≡ number_kind → s.mark n ≡ number_used → s'.mark n ≡ number_used
  pub listed : (c : ℕ) → Rattle.rules.specs.State.listed s.ledger c ≡ true → Rattle.rules.specs.State.listed s'.ledger c ≡ true

-- the ledger gained an entry
pub record Gained (f : File) (s s' : State) : Type 0 where
  pub entry : Entry
  pub appended : s'.ledger ≡ s.ledger ++ (entry ∷ [])
  pub new : listed s.ledger entry.certificate ≡ true → ⊥
  pub entry_good : EntryGood f s' (length s.ledger) entry
  pub same_ek : (i : ℕ) (e : Entry) → get_elem? s.ledger i ≡ some e → subject f e.certificate ≡ subject f entry.certificate → end_ek f s.ledger e ≡ end_ek f s'.ledger entry

-- a step from one state to the next
pub record Step (f : File) (s s' : State) : Type 0 where
  pub learner : ℕ
  pub lesson : ℕ
  pub declared : learner < length f.roles
  pub learnt : s'.knows ≡ learn f learner lesson s.knows
  pub fresh : (u : ℕ) → Inside f lesson u → Fresh f s s' learner u
  pub table_only : (p k : ℕ) → s'.table p k ≡ true → (s.table p k ≡ true) ⊎ (kind f k ≡ hash_kind)
  pub grows : Grows f s s'
  pub opened :
      (c : ℕ) → kind f c ≡ credential_kind → s'.mark c ≡ credential_open
      → ((s.mark c ≡ credential_open) × (s.desk c ≡ s'.desk c) × (s.request c ≡ s'.request c)) ⊎ Open f s' c (s'.desk c) (s'.request c)
  pub ledger : (s'.ledger ≡ s.ledger) ⊎ Gained f s s'
  pub shows : (p i : ℕ) → (s'.registers p i ≡ s.registers p i) ⊎ (kind f (s'.registers p i) ≡ hash_kind)

module _ (f : File) (ck : Checked f) (s s' : State) (g : Grows f s s') where
  device_grows : (u : ℕ) → KnownToDevice f s u → KnownToDevice f s' u
  device_grows u k = record { party = k.party; is_device = k.is_device; knows = g.knows k.party u k.knows }

  -- what holds of a known term goes on to hold
  pub good_grows : (u : ℕ) → Good f s u → Good f s' u
  good_grows u h = record {
    not_private = h.not_private;
    attested = λ a b c. let r = h.attested a b c in record { tpm = r.tpm; is_device = r.is_device; signing = g.table r.tpm (signing_key f u) r.signing; attested = r.attested };
    endorsed = h.endorsed;
    issued = λ a m b c. g.listed u (h.issued a m b c);
    numbered = λ a. ⊎_elim (λ k. inl (g.used (credential_number f u) (ck.credential_number_kind u a) k)) (λ k. inr (device_grows (credential_number f u) k)) (h.numbered a);
  }

module _ (f : File) (ck : Checked f) (s s' : State) (inv : Invariant f s) (st : Step f s s') where
  pub knows_only : (p u : ℕ) → s'.knows p u ≡ true → (s.knows p u ≡ true) ⊎ ((p ≡ st.learner) × Inside f st.lesson u)
  knows_only p u h = learn_only f st.learner st.lesson s.knows p u (subst (λ (k : Knowledge). k p u ≡ true) st.learnt h)

  ledger_at : (i : ℕ) (e : Entry) → get_elem? s.ledger i ≡ some e → get_elem? s'.ledger i ≡ some e
  ledger_at i e h =
      ⊎_elim (λ q. subst⁻¹ (λ (l : List Entry). get_elem? l i ≡ some e) q h)
      (λ g. subst⁻¹ (λ (l : List Entry). get_elem? l i ≡ some e) g.appended (at_kept s.ledger (g.entry ∷ []) i e h)) st.ledger

  good_next : (p u : ℕ) → s'.knows p u ≡ true → Good f s' u
  good_next p u h = ⊎_elim (λ k. good_grows f ck s s' st.grows u (inv.good p u k)) (λ k. (st.fresh u k.1).good) (knows_only p u h)

  -- a device does not know the number of a secret
  no_device_lem : (c d : ℕ) → role_of f d ≡ oem_desk → Secret f s c d → KnownToDevice f s (credential_number f c) → ⊥
  no_device_lem c d r x k =
      let e : oem_desk ≡ device = sym r ∙ ap (role_of f) (sym (x.alone k.party k.knows)) ∙ k.is_device in
      omega arith

  only_next : (c d q : ℕ) → kind f c ≡ credential_kind → Open f s c d q → Secret f s c d
      → (p x : ℕ) → s'.knows p x ≡ true → kind f x ≡ credential_kind → credential_number f x ≡ credential_number f c → x ≡ c
  only_next c d q ic o x p y h iy e =
      ⊎_elim (λ k. x.only p y k iy e)
      (λ k. ⊎_elim (λ w. x.only w.0 y w.1 iy e)
      (⊎_elim (λ w. absurd (no_device_lem c d o.desk_role x (subst (KnownToDevice f s) e w)))
      (λ w. absurd (w (subst⁻¹ (λ (n : ℕ). s.mark n ≡ number_used) e o.used)))) ((st.fresh y k.1).credential iy))
      (knows_only p y h)

  -- a device that activated the credential holds both keys
  activated_holds : (c d q : ℕ) → Open f s c d q → Secret f s c d → Activated f s (credential_number f c) → DeviceHolds f (iak_of f q) (ek_of f q)
  activated_holds c d q o x a =
      let e : a.credential ≡ c = x.only a.party a.credential a.knows a.is_credential a.number in
      record {
        tpm = a.party;
        is_device = a.is_device;
        first = subst (Held f a.party) (ap (λ (y : ℕ). hashed_term f (credential_term f y)) e ∙ o.name) a.name;
        second = subst (Held f a.party) (ap (credential_key f) e ∙ o.key) a.key;
      }

  challenge_next : (c d q : ℕ) → kind f c ≡ credential_kind → Open f s c d q → Secret f s c d → DeviceHolds f (iak_of f q) (ek_of f q) ⊎ Secret f s' c d
  challenge_next c d q ic o x = go (s'.knows st.learner (credential_number f c)) refl
    where
      N : ℕ
      N = credential_number f c

      next : ((p : ℕ) → s'.knows p N ≡ true → p ≡ d) → DeviceHolds f (iak_of f q) (ek_of f q) ⊎ Secret f s' c d
      next alone = inr (record { alone = alone; only = only_next c d q ic o x })

      learner_is : s.knows st.learner N ≡ true → (p : ℕ) → s'.knows p N ≡ true → p ≡ d
      learner_is k p h = ⊎_elim (x.alone p) (λ w. w.0 ∙ x.alone st.learner k) (knows_only p N h)

      go : (b : Bool) → s'.knows st.learner N ≡ b → DeviceHolds f (iak_of f q) (ek_of f q) ⊎ Secret f s' c d
      go false e = next (λ p h. ⊎_elim (x.alone p) (λ w. absurd (false≢true (sym e ∙ subst (λ (r : ℕ). s'.knows r N ≡ true) w.0 h))) (knows_only p N h))
      go true e =
          ⊎_elim (λ k. next (learner_is k))
          (λ w. ⊎_elim (λ k. next (learner_is k))
          (⊎_elim (λ k. absurd (no_device_lem c d o.desk_role x k)) (λ a. inl (activated_holds c d q o x a)))
          ((st.fresh N w.1).number (ck.credential_number_kind c ic)))
          (knows_only st.learner N e)

  open_kept : (c d q : ℕ) → kind f c ≡ credential_kind → Open f s c d q → Open f s' c d q
  open_kept c d q ic o = record {
    used = st.grows.used (credential_number f c) (ck.credential_number_kind c ic) o.used;
    desk_role = o.desk_role;
    device_subject = o.device_subject;
    iak = o.iak;
    ek = o.ek;
    endorsement = o.endorsement;
    maker = o.maker;
    name = o.name;
    key = o.key;
    challenge = ⊎_elim inl (challenge_next c d q ic o) o.challenge;
  }

  open_next : (c : ℕ) → kind f c ≡ credential_kind → s'.mark c ≡ credential_open → Open f s' c (s'.desk c) (s'.request c)
  open_next c ic h =
      ⊎_elim
      (λ w. subst (λ (q : ℕ). Open f s' c (s'.desk c) q) w.2
      (subst (λ (d : ℕ). Open f s' c d (s.request c)) w.1 (open_kept c (s.desk c) (s.request c) ic (inv.opened c ic w.0))))
      (λ o. o) (st.opened c ic h)

  earlier_kept : (i : ℕ) (e : Entry) → Earlier f s.ledger i e → Earlier f s'.ledger i e
  earlier_kept i e =
      ⊎_elim inl (λ w. inr (w.0, w.1, w.2, ledger_at w.0 w.1 w.3, w.4, w.5, w.6))

  entry_kept : (i : ℕ) (e : Entry) → EntryGood f s i e → EntryGood f s' i e
  entry_kept i e g = record {
    family = g.family;
    of_family = g.of_family;
    fixed = g.fixed;
    known = st.grows.knows g.of_family.signed.desk e.certificate g.known;
    least = g.least;
    most = g.most;
    earlier = earlier_kept i e g.earlier;
    held = g.held;
  }

  entries_next : (i : ℕ) (e : Entry) → get_elem? s'.ledger i ≡ some e → EntryGood f s' i e
  entries_next i e h =
      ⊎_elim (λ q. entry_kept i e (inv.entries i e (subst (λ (l : List Entry). get_elem? l i ≡ some e) q h)))
      (λ g. ⊎_elim (λ k. entry_kept i e (inv.entries i e k)) (λ w. subst₂ (EntryGood f s') (sym w.0) (sym w.1) g.entry_good)
      (at_appended s.ledger g.entry i e (subst (λ (l : List Entry). get_elem? l i ≡ some e) g.appended h)))
      st.ledger

  -- a new entry's certificate is that of no earlier one
  gained_new : (g : Gained f s s') (i : ℕ) (e x : Entry) → get_elem? s.ledger i ≡ some e → x ≡ g.entry → e.certificate ≡ x.certificate → ⊥
  gained_new g i e x h q c =
      g.new (subst (λ (n : ℕ). listed s.ledger n ≡ true) (c ∙ ap (λ (y : Entry). y.certificate) q) (at_listed s.ledger i e h))

  once_next : (i j : ℕ) (e x : Entry) → get_elem? s'.ledger i ≡ some e → get_elem? s'.ledger j ≡ some x → e.certificate ≡ x.certificate → i ≡ j
  once_next i j e x h k c =
      ⊎_elim (λ q. inv.once i j e x (subst (λ (l : List Entry). get_elem? l i ≡ some e) q h) (subst (λ (l : List Entry). get_elem? l j ≡ some x) q k) c)
      (λ g. both g
      (at_appended s.ledger g.entry i e (subst (λ (l : List Entry). get_elem? l i ≡ some e) g.appended h))
      (at_appended s.ledger g.entry j x (subst (λ (l : List Entry). get_elem? l j ≡ some x) g.appended k)))
      st.ledger
    where
      both : (g : Gained f s s')
          → (get_elem? s.ledger i ≡ some e) ⊎ ((i ≡ length s.ledger) × (e ≡ g.entry))
          → (get_elem? s.ledger j ≡ some x) ⊎ ((j ≡ length s.ledger) × (x ≡ g.entry)) → i ≡ j
      both g (inl a) (inl b) = inv.once i j e x a b c
      both g (inl a) (inr b) = absurd (gained_new g i e x a b.1 c)
      both g (inr a) (inl b) = absurd (gained_new g j x e b a.1 (sym c))
      both g (inr a) (inr b) = a.0 ∙ sym b.0

  -- an entry's path ends where it did
  ek_kept : (g : Gained f s s') (i : ℕ) (e : Entry) → get_elem? s.ledger i ≡ some e → end_ek f s'.ledger e ≡ end_ek f s.ledger e
  unfolding end_ek
  ek_kept g i e h =
      ap (λ (l : List Entry). end_ek f l e) g.appended
      ∙ ap (certified_key f) (end_kept s.ledger inv.once (descends f s inv) (g.entry ∷ []) i e h)

  one_ek_next : OneEk f s'.ledger
  one_ek_next i j e x h k c =
      ⊎_elim (λ q. subst⁻¹ (OneEk f) q inv.one_ek i j e x h k c)
      (λ g. both g
      (at_appended s.ledger g.entry i e (subst (λ (l : List Entry). get_elem? l i ≡ some e) g.appended h))
      (at_appended s.ledger g.entry j x (subst (λ (l : List Entry). get_elem? l j ≡ some x) g.appended k)))
      st.ledger
    where
      -- an earlier entry and the new one
      new : (g : Gained f s s') (i : ℕ) (e x : Entry) → get_elem? s.ledger i ≡ some e → x ≡ g.entry → subject f e.certificate ≡ subject f x.certificate → end_ek f s'.ledger e ≡ end_ek f s'.ledger x
      new g i e x a q c =
          ek_kept g i e a ∙ g.same_ek i e a (c ∙ ap (λ (y : Entry). subject f y.certificate) q) ∙ ap (end_ek f s'.ledger) (sym q)

      both : (g : Gained f s s')
          → (get_elem? s.ledger i ≡ some e) ⊎ ((i ≡ length s.ledger) × (e ≡ g.entry))
          → (get_elem? s.ledger j ≡ some x) ⊎ ((j ≡ length s.ledger) × (x ≡ g.entry)) → end_ek f s'.ledger e ≡ end_ek f s'.ledger x
      both g (inl a) (inl b) = ek_kept g i e a ∙ inv.one_ek i j e x a b c ∙ sym (ek_kept g j x b)
      both g (inl a) (inr b) = new g i e x a b.1 c
      both g (inr a) (inl b) = sym (new g j x e b a.1 (sym c))
      both g (inr a) (inr b) = ap (end_ek f s'.ledger) (a.1 ∙ sym b.1)

  pub invariant_next : Invariant f s'
  invariant_next = record {
    closed = subst⁻¹ (Closed f) st.learnt (learn_closed f ck.lower st.learner st.lesson s.knows inv.closed);
    party = λ p t h. ⊎_elim (inv.party p t) (λ w. subst⁻¹ (λ (q : ℕ). q < length f.roles) w.0 st.declared) (knows_only p t h);
    held = λ p k h e. ⊎_elim (inv.held p k h) (λ w. absurd (let z : hash_kind ≡ private_key_kind = sym w ∙ h in omega arith)) (st.table_only p k e);
    good = good_next;
    opened = open_next;
    entries = entries_next;
    once = once_next;
    one_ek = one_ek_next;
    shown = λ p i. ⊎_elim (λ e. subst⁻¹ (Shown f) e (inv.shown p i)) inr (st.shows p i);
  }
