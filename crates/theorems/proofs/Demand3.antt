-- Demand 3, proved: of every file that loads and every n.
-- Assumes nothing.
use mathlib.Core.Path.{◌≡◌, refl, sym, ap, subst, subst⁻¹, ◌∙◌}
use mathlib.Core.Logic.{◌⊎◌, inl, inr, ⊎_elim}
use mathlib.Core.Bool.{true}
use mathlib.Core.List.{List, [], ◌∷◌, Memᴰ}
use mathlib.Core.Option.{some}
use Prim.Native.Nat.{ℕ, zero, suc, ◌<◌}
use native.Mathlib.Omega.{arith}
use native.Mathlib.Nat.{le_refl}
use lib.ListN.{length, get_elem?}
use Rattle.rules.specs.declared.Attributes.{Attributes}
use Rattle.rules.specs.declared.Entry.{Entry}
use Rattle.rules.specs.declared.Subject.TheVariants.{Device}
use Rattle.rules.specs.Limits.{device}
use Rattle.rules.specs.Attributes.{has, fixed_tpm}
use Rattle.rules.specs.File.{File, holds, role_of, subject, attributes, certified_key}
use Rattle.rules.specs.State.{end_of}
use Rattle.rules.specs.Desk.{end_ek}
use Rattle.rules.specs.Run.{reached}
use Rattle.theorems.specs.Residency.{Known, Held, DeskSigned, EntryAt, Listed, Endorsement, Path, ends, step, Falls, to_last, to_lower, All, AllButLast, Sound, OneTpm, Resident, Demand3}
use Rattle.theorems.proofs.Loading.{Checked, checked}
use Rattle.theorems.proofs.Terms.{pair_kinds, pair_attributes, pair_term, private_declared}
use Rattle.theorems.proofs.FamilyRows.{family_row}
use Rattle.theorems.proofs.Ledgers.{listed_found}
use Rattle.theorems.proofs.Ends.{end_one, end_step}
use Rattle.theorems.proofs.Invariant.{DeviceHolds, EntryGood, Invariant}
use Rattle.theorems.proofs.Reaching.{reached_invariant}
use Rattle.theorems.proofs.History.{bits_known, known_bits_lem, entry_issued}

module _ (f : File) (ck : Checked f) (n : ℕ) where
  inv : Invariant f (reached f n)
  inv = reached_invariant f ck n

  -- the private half of a FixedTPM key is held by one TPM
  pub held_once : (p q k : ℕ) → has (attributes f k) fixed_tpm ≡ true → Held f p k → Held f q k → p ≡ q
  held_once p q k h a b =
      ck.holds_once p q a.half a.given (subst⁻¹ (λ (j : ℕ). Memᴰ (holds q j) f.setup) same b.given)
      (subst (λ (x : Attributes). has x fixed_tpm ≡ true) (pair_attributes f k a.half a.pairs) h)
    where
      same : a.half ≡ b.half
      same =
          ck.distinct a.half b.half (private_declared f a.half (pair_kinds f k a.half a.pairs).1)
          (private_declared f b.half (pair_kinds f k b.half b.pairs).1) (pair_term f k a.half b.half a.pairs b.pairs)

  good : (i : ℕ) (e : Entry) → EntryAt f n i e → EntryGood f (reached f n) i e
  good i e h = inv.entries i e h

  is_listed_lem : (i : ℕ) (e : Entry) → EntryAt f n i e → Listed f n e.certificate
  is_listed_lem i e h = record { place = i; entry = e; here = h; same = refl }

  -- the path of an entry: its certificate, its parent and those above
  record Chain (i : ℕ) (e : Entry) : Type 0 where
    more : List ℕ
    is_path : Path f n e.certificate (e.certificate ∷ e.parent ∷ more)
    steps : suc (length more) ≡ e.depth
    falls : Falls f n i (e.certificate ∷ e.parent ∷ more)
    tpm : ℕ
    is_device : role_of f tpm ≡ device
    held : Held f tpm (certified_key f e.certificate)
    held_more : All (λ c. Held f tpm (certified_key f c)) (e.parent ∷ more)
    serial : ℕ
    subject_is : subject f e.certificate ≡ Device serial
    subject_more : AllButLast (λ c. subject f c ≡ Device serial) (e.parent ∷ more)
    endorsed : Endorsement f (end_of (reached f n).ledger e.depth e.certificate)
    ek_held : Held f tpm (end_ek f (reached f n).ledger e)
    ek_fixed : has (attributes f (end_ek f (reached f n).ledger e)) fixed_tpm ≡ true

  -- one step to an endorsement certificate
  chain_ends : (i : ℕ) (e : Entry) → EntryAt f n i e → e.depth ≡ 1 → Endorsement f e.parent → (m : ℕ) → subject f e.certificate ≡ Device m → Chain i e
  unfolding end_ek
  chain_ends i e h d x m u =
      let g = (good i e h).held in
      let w = (good i e h).of_family in
      let z = end_one (reached f n).ledger inv.once i e h d in
      record {
        more = [];
        is_path = step (is_listed_lem i e h) (entry_issued f ck n i e h).parent (ends x);
        steps = sym d;
        falls = to_last (e, h, refl);
        tpm = g.tpm;
        is_device = g.is_device;
        held = g.first;
        held_more = (g.second, tt);
        serial = m;
        subject_is = u;
        subject_more = tt;
        endorsed = subst⁻¹ (Endorsement f) z x;
        ek_held = subst⁻¹ (λ (t : ℕ). Held f g.tpm (certified_key f t)) z g.second;
        ek_fixed =
            subst⁻¹ (λ (t : ℕ). has (attributes f (certified_key f t)) fixed_tpm ≡ true) z
            (subst⁻¹ (λ (a : Attributes). has a fixed_tpm ≡ true) w.parent_attributes (family_row _ w.row).parent_fixed);
      }

  -- one step to a certificate that is listed earlier
  chain_more : (i j : ℕ) (e g : Entry) → EntryAt f n i e → EntryAt f n j g → j < i → g.certificate ≡ e.parent → e.depth ≡ suc g.depth → subject f e.certificate ≡ subject f e.parent → Chain j g → Chain i e
  unfolding end_ek
  chain_more i j e g h k l c d u r = record {
    more = g.parent ∷ r.more;
    is_path = step (is_listed_lem i e h) (entry_issued f ck n i e h).parent (subst (λ (x : ℕ). Path f n x (x ∷ g.parent ∷ r.more)) c r.is_path);
    steps = let q = r.steps in omega arith;
    falls = to_lower (e, h, refl) l (subst (λ (x : ℕ). Falls f n j (x ∷ g.parent ∷ r.more)) c r.falls);
    tpm = r.tpm;
    is_device = r.is_device;
    held = subst (λ (p : ℕ). Held f p (certified_key f e.certificate)) one x.first;
    held_more = (parent_held, r.held_more);
    serial = r.serial;
    subject_is = u ∙ parent_subject;
    subject_more = (parent_subject, r.subject_more);
    endorsed = subst⁻¹ (Endorsement f) end r.endorsed;
    ek_held = subst⁻¹ (λ (t : ℕ). Held f r.tpm (certified_key f t)) end r.ek_held;
    ek_fixed = subst⁻¹ (λ (t : ℕ). has (attributes f (certified_key f t)) fixed_tpm ≡ true) end r.ek_fixed;
  }
    where
      end : end_of (reached f n).ledger e.depth e.certificate ≡ end_of (reached f n).ledger g.depth g.certificate
      end = end_step (reached f n).ledger inv.once i e g h c d

      x : DeviceHolds f (certified_key f e.certificate) (certified_key f e.parent)
      x = (good i e h).held

      parent_held : Held f r.tpm (certified_key f e.parent)
      parent_held = subst (λ (t : ℕ). Held f r.tpm (certified_key f t)) c r.held

      parent_subject : subject f e.parent ≡ Device r.serial
      parent_subject = ap (subject f) (sym c) ∙ r.subject_is

      one : x.tpm ≡ r.tpm
      one =
          held_once x.tpm r.tpm (certified_key f e.parent)
          (subst (λ (t : ℕ). has (attributes f (certified_key f t)) fixed_tpm ≡ true) c (good j g k).fixed) x.second parent_held

  chain : (k i : ℕ) → i < k → (e : Entry) → EntryAt f n i e → Chain i e
  chain zero i l e h = absurd (omega arith)
  chain (suc k) i l e h = go (good i e h).earlier (chain k)
    where
      go : ((e.depth ≡ 1) × Endorsement f e.parent × ((m : ℕ) × (subject f e.certificate ≡ Device m)))
          ⊎ ((j : ℕ) × (g : Entry) × (j < i) × (get_elem? (reached f n).ledger j ≡ some g) × (g.certificate ≡ e.parent) × (e.depth ≡ suc g.depth) × (subject f e.certificate ≡ subject f e.parent))
          → ((j : ℕ) → j < k → (g : Entry) → EntryAt f n j g → Chain j g) → Chain i e
      go (inl w) below = chain_ends i e h w.0 w.1 w.2.0 w.2.1
      go (inr w) below =
          let l' = w.2 in
          chain_more i w.0 e w.1 h w.3 w.2 w.4 w.5 w.6 (below w.0 (omega arith) w.1 w.3)

  the_chain : (i : ℕ) (e : Entry) → EntryAt f n i e → Chain i e
  the_chain i e h = chain (suc i) i (le_refl (suc i)) e h

  sound : (i : ℕ) (e : Entry) → EntryAt f n i e → Sound f n i e
  sound i e h =
      let g = good i e h in
      let x = entry_issued f ck n i e h in
      let c = the_chain i e h in
      record {
        family = x.family;
        of_family = x.of_family;
        parent = x.parent;
        earlier = ⊎_elim (λ w. inl (w.0, w.1)) (λ w. inr (w.0, w.1, w.2, w.3, w.4, w.5)) g.earlier;
        path = e.certificate ∷ e.parent ∷ c.more;
        is_path = c.is_path;
        steps = ap suc c.steps;
        least = g.least;
        most = g.most;
        falls = c.falls;
        tpm = c.tpm;
        is_device = c.is_device;
        held = (c.held, c.held_more);
        serial = c.serial;
        subjects = (c.subject_is, c.subject_more);
      }

  -- a path ends at an endorsement certificate
  pub ends_endorsed_lem : (i : ℕ) (e : Entry) → EntryAt f n i e → Endorsement f (end_of (reached f n).ledger e.depth e.certificate)
  ends_endorsed_lem i e h = (the_chain i e h).endorsed

  -- a path begins with its certificate
  begins : (t : ℕ) (path : List ℕ) → Path f n t path → (tpm : ℕ) → All (λ c. Held f tpm (certified_key f c)) path → Held f tpm (certified_key f t)
  begins t path (ends x) tpm h = h.0
  begins t path (step l p x) tpm h = h.0

  -- whatever path is shown for an entry, the TPM that holds its keys holds the EK
  tpm_one : (i : ℕ) (e : Entry) (h : EntryAt f n i e) (a : Sound f n i e) → a.tpm ≡ (the_chain i e h).tpm
  tpm_one i e h a =
      held_once a.tpm (the_chain i e h).tpm (certified_key f e.certificate) (good i e h).fixed (begins e.certificate a.path a.is_path a.tpm a.held) (the_chain i e h).held

  one_board_lem : (i j : ℕ) (e g : Entry) → EntryAt f n i e → EntryAt f n j g → subject f e.certificate ≡ subject f g.certificate → (a : Sound f n i e) (b : Sound f n j g) → OneTpm f a.path b.path
  one_board_lem i j e g h k s a b = record {
    tpm = a.tpm;
    is_device = a.is_device;
    held = a.held;
    other_held = subst⁻¹ (λ (t : ℕ). All (λ c. Held f t (certified_key f c)) b.path) same b.held;
  }
    where
      c : Chain i e
      c = the_chain i e h

      d : Chain j g
      d = the_chain j g k

      same : a.tpm ≡ b.tpm
      same =
          tpm_one i e h a
          ∙ held_once c.tpm d.tpm (end_ek f (reached f n).ledger e) c.ek_fixed c.ek_held (subst⁻¹ (Held f d.tpm) (inv.one_ek i j e g h k s) d.ek_held)
          ∙ sym (tpm_one j g k b)

  listed_known_lem : (t : ℕ) → Listed f n t → DeskSigned f t × ((p : ℕ) × (p < length f.roles) × Known f n p t)
  listed_known_lem t l =
      subst (λ (x : ℕ). DeskSigned f x × ((p : ℕ) × (p < length f.roles) × Known f n p x)) l.same (
        record { family = g.family; known = g.of_family.row; signed = g.of_family.signed },
        (g.of_family.signed.desk, inv.party g.of_family.signed.desk l.entry.certificate g.known, bits_known f n g.of_family.signed.desk l.entry.certificate g.known),
      )
    where
      g : EntryGood f (reached f n) l.place l.entry
      g = good l.place l.entry l.here

  known_listed_lem : (p t : ℕ) → Known f n p t → DeskSigned f t → Listed f n t
  known_listed_lem p t k d =
      let x = d.signed in
      let r = (inv.good p t (known_bits_lem f ck n p t k)).issued x.is_certificate x.desk x.desk_key (λ e. (family_row d.family d.known).desk (sym x.desk_role ∙ e)) in
      let w = listed_found (reached f n).ledger t r in
      record { place = w.place; entry = w.entry; here = w.here; same = w.same }

  resident : Resident f n
  resident = record {
    bits = λ p t. (bits_known f n p t, known_bits_lem f ck n p t);
    listed_known = listed_known_lem;
    known_listed = known_listed_lem;
    once = inv.once;
    sound = sound;
    one_board = one_board_lem;
    no_private_key = λ p t k. (inv.good p t (known_bits_lem f ck n p t k)).not_private;
  }

pub demand3 : Demand3
demand3 bytes f e n = resident f (checked bytes f e) n
