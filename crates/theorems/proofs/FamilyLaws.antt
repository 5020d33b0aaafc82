-- The laws of families: by what a row of the table has, and by demand 3.
--     signed-once, maker-signed     who signed a certificate; a TPM maker signed an endorsement certificate
--     parent-key                    the key of a parent has the attributes that the family asks for
--     may-maker, may-oem            a role that is the only one that may sign
--     family-laws                   the laws
-- Assumes nothing.
use mathlib.Core.Path.{◌≡◌, refl, sym, ap, subst, ◌∙◌}
use mathlib.Core.Logic.{⊎_elim}
use mathlib.Core.Bool.{Bool, true, false, false≢true, cond}
use mathlib.Core.List.{List, Memᴰ}
use Prim.Native.Nat.{ℕ, suc}
use native.Mathlib.Omega.{arith}
use lib.Dec.{eqb}
use borrow.Author.Tests.{eqb-true}
use Rattle.rules.specs.declared.Entry.{Entry}
use Rattle.rules.specs.declared.Family.{Family}
use Rattle.rules.specs.Limits.{tpm_maker, oem_desk, owner_desk}
use Rattle.rules.specs.Refusals.{order, applies}
use Rattle.rules.specs.Attributes.{same_attributes, ek_attributes}
use Rattle.rules.specs.Term.{public_key_kind, number_kind, ldevid_request_kind, certificate_kind, pair_kind}
use Rattle.rules.specs.Families.{signing_role, tpm_makers, oem_desks, iak_family, idevid_family, request_families, families}
use Rattle.rules.specs.File.{File, signs_with, challenge, issue, role_of, attributes, certified_key, signer, left_of, signs_for_some}
use Rattle.rules.specs.Load.{loaded, load}
use Rattle.rules.specs.State.{depth_of}
use Rattle.rules.specs.Desk.{request_body, form_tests, proof_tests, ek_certificate_of, ek_of, called_for, parent_certificate_of, issue_tests}
use Rattle.rules.specs.Run.{tests_of, outcome, reached}
use Rattle.theorems.specs.Residency.{SignedBy, Accepted, EntryAt, Parent, of_iak, of_pair, on_request, Endorsement, OfFamily, Sound}
use Rattle.theorems.specs.FamilyLaws.{OneFamily, NeverParent, FamilyLaws}
use Rattle.theorems.proofs.FamilyRows.{barren, no_child, family_row, one_row, may, Signer, some_signer}
use Rattle.theorems.proofs.Loading.{Checked, checked}
use Rattle.theorems.proofs.Passing.{among, before, Clear, earlier_passed, applied}
use Rattle.theorems.proofs.Terms.{is_kind_kind, is_role_role, same_attributes_lem, signs_given, signs_role_given}
use Rattle.theorems.proofs.Running.{command_member}
use Rattle.theorems.proofs.DeviceSteps.{signer_alone}
use Rattle.theorems.proofs.Ledgers.{Listing, listed_found}
use Rattle.theorems.proofs.Requests.{parent_listed}
use Rattle.theorems.proofs.DeskSteps.{challenge_ek, issue_family}
use Rattle.theorems.proofs.Reaching.{reached_invariant}
use Rattle.theorems.proofs.Demand3.{demand3}

module _ (f : File) (ck : Checked f) where
  -- one party signs with a key
  signed_once_lem : (p m k : ℕ) → Memᴰ (signs_with p k) f.setup → Memᴰ (signs_with m k) f.setup → role_of f p ≡ role_of f m
  signed_once_lem p m k g h = ap (role_of f) (signer_alone f ck p m k h (ck.signs_held p k g))

  -- the role of who signed a family's certificate is one that may sign, where that is asked
  may_sign_lem : (family : Family) (t : ℕ) → SignedBy f family t → (other : Family) → (x : Signer f other.signers (signer f t)) → may other.signers (signing_role family) ≡ true
  may_sign_lem family t s other x = ap (may other.signers) (sym s.desk_role ∙ signed_once_lem s.desk x.party (signer f t) s.desk_key x.given) ∙ x.allowed

  -- a TPM maker signed an endorsement certificate
  maker_signed : (t : ℕ) → Endorsement f t → (other : Family) → (x : Signer f other.signers (signer f t)) → other.signers.maker ≡ true
  maker_signed t e other x =
      ⊎_elim (λ k. absurd (let z : public_key_kind ≡ certificate_kind = sym k ∙ e.is_certificate in omega arith))
      (⊎_elim (λ k. absurd (let z : number_kind ≡ certificate_kind = sym k ∙ e.is_certificate in omega arith))
      (λ w. let g = signs_role_given f tpm_maker (signer f t) w.2 in
      ap (may other.signers) (sym g.2 ∙ signed_once_lem g.0 x.party (signer f t) g.1 x.given) ∙ x.allowed))
      (ck.learns_allowed e.party t e.given)

  -- the key of the certificate in a request that a challenge was accepted for
  challenged_key : (j p q c : ℕ) → Accepted f j (challenge p q c) → attributes f (ek_of f q) ≡ ek_attributes
  challenged_key j p q c b =
      challenge_ek f ck (reached f j) (reached_invariant f ck j) p q c (ck.wellformed (challenge p q c) (command_member f j (challenge p q c) b.here)) b.zero_outcome

  iak_parent : (family : Family) (g j p q c : ℕ) → Accepted f j (challenge p q c) → family ≡ iak_family → g ≡ ek_certificate_of f q
      → Memᴰ family families × (attributes f (certified_key f g) ≡ family.parent)
  unfolding ek_of
  iak_parent family g j p q c b h e = (
    subst (λ (x : Family). Memᴰ x families) (sym h) (Memᴰ.head refl),
    ap (λ (x : ℕ). attributes f (certified_key f x)) e ∙ challenged_key j p q c b ∙ sym (ap (λ (x : Family). x.parent) h),
  )

  parent_key : (n : ℕ) (family : Family) (t g : ℕ) → Parent f n family t g → Memᴰ family families × (attributes f (certified_key f g) ≡ family.parent)
  parent_key n family t g (of_iak i j p returning c q l a k b h e) = iak_parent family g j p q c b h e
  parent_key n family t g (of_pair i j p returning c q xs l a m k b h e) = iak_parent family g j p q c b h e
  parent_key n family t g (on_request i p q l a e) =
      let o = issue_family f ck (reached f i) (reached_invariant f ck i) family p q t (ck.wellformed (issue family p q t) (command_member f i (issue family p q t) a.here)) a.zero_outcome in
      (o.row, ap (λ (x : ℕ). attributes f (certified_key f x)) e ∙ o.parent_attributes)

one_family : OneFamily
one_family bytes f e x a b c d =
    let ck = checked bytes f e in
    one_row a b c.row d.row (sym c.key_attributes ∙ d.key_attributes)
    (sym c.signed.desk_role ∙ signed_once_lem f ck c.signed.desk d.signed.desk (signer f x.certificate) c.signed.desk_key d.signed.desk_key ∙ d.signed.desk_role)

never_parent : (family : Family) → barren family ≡ true → NeverParent family
never_parent family h bytes f e n i x at o other t p =
    let w = parent_key f (checked bytes f e) n other t x.certificate p in
    no_child family h other w.0 (sym w.1 ∙ o.key_attributes)

-- a role that is the only one that may sign
may_maker : (role : ℕ) → may tpm_makers role ≡ true → role ≡ tpm_maker
may_maker role = go (eqb role tpm_maker) refl (eqb role oem_desk) (eqb role owner_desk)
  where
    go : (a : Bool) → eqb role tpm_maker ≡ a → (b c : Bool) → cond a true (cond b false (cond c false false)) ≡ true → role ≡ tpm_maker
    go true e b c h = eqb-true role tpm_maker e
    go false e true c h = absurd (false≢true h)
    go false e false true h = absurd (false≢true h)
    go false e false false h = absurd (false≢true h)

may_oem : (role : ℕ) → may oem_desks role ≡ true → role ≡ oem_desk
may_oem role = go (eqb role tpm_maker) (eqb role oem_desk) refl (eqb role owner_desk)
  where
    go : (a b : Bool) → eqb role oem_desk ≡ b → (c : Bool) → cond a false (cond b true (cond c false false)) ≡ true → role ≡ oem_desk
    go true b e c h = absurd (false≢true h)
    go false true e c h = eqb-true role oem_desk e
    go false false e true h = absurd (false≢true h)
    go false false e false h = absurd (false≢true h)

module _ (bytes : List ℕ) (f : File) (loads : load bytes ≡ loaded f) (n : ℕ) where
  ck : Checked f
  ck = checked bytes f loads

  sound_at : (i : ℕ) (e : Entry) → EntryAt f n i e → Sound f n i e
  sound_at = (demand3 bytes f loads n).sound

  -- the desk that signed a listed parent is one that may sign it
  parent_desk_lem : (family : Family) (e g : Entry) → OfFamily f family e → (other : Family) → OfFamily f other g → g.certificate ≡ e.parent → may family.signers (signing_role other) ≡ true
  parent_desk_lem family e g o other x c =
      may_sign_lem f ck other e.parent (subst (SignedBy f other) c x.signed) family (some_signer f family.signers (signer f e.parent) o.parent_signed)

  iak_depth_lem : (i : ℕ) (e : Entry) → EntryAt f n i e → OfFamily f iak_family e → e.depth ≡ 1
  iak_depth_lem i e at o = ⊎_elim (λ w. w.0) (λ w. absurd (below w.1 w.4 (sound_at w.0 w.1 w.3))) (sound_at i e at).earlier
    where
      -- its parent is listed under no family, since a TPM maker signed it
      below : (g : Entry) → g.certificate ≡ e.parent → {j : ℕ} → Sound f n j g → ⊥
      below g c s =
          (family_row s.family s.of_family.row).desk (may_maker (signing_role s.family) (parent_desk_lem iak_family e g o s.family s.of_family c))

  -- an entry is an IAK's where an OEM desk signed its certificate, of a key with an IAK's attributes
  iak_entry_lem : (g : Entry) (family : Family) → OfFamily f family g → may oem_desks (signing_role family) ≡ true → attributes f (certified_key f g.certificate) ≡ iak_family.key → OfFamily f iak_family g
  iak_entry_lem g family x m a =
      subst (λ (y : Family). OfFamily f y g) (one_row family iak_family x.row (Memᴰ.head refl) (sym x.key_attributes ∙ a) (may_oem (signing_role family) m)) x

  idevid_depth_lem : (i : ℕ) (e : Entry) → EntryAt f n i e → OfFamily f idevid_family e → e.depth ≡ 2
  idevid_depth_lem i e at o =
      ⊎_elim (λ w. absurd (false≢true (maker_signed f ck e.parent w.1 idevid_family (some_signer f oem_desks (signer f e.parent) o.parent_signed))))
      (λ w. w.5 ∙ ap suc (iak_depth_lem w.0 w.1 w.3 (iak w.1 w.4 (sound_at w.0 w.1 w.3)))) (sound_at i e at).earlier
    where
      iak : (g : Entry) → g.certificate ≡ e.parent → {j : ℕ} → Sound f n j g → OfFamily f iak_family g
      iak g c s =
          iak_entry_lem g s.family s.of_family (parent_desk_lem idevid_family e g o s.family s.of_family c)
          (ap (λ (t : ℕ). attributes f (certified_key f t)) c ∙ o.parent_attributes)

  -- the tests of the refusals before the one that a 40, 41 or 42 got
  clear : (family : Family) (p q r x : ℕ) → outcome f (reached f n) (issue family p q r) ≡ x → (m : ℕ) → among m (before x order) ≡ true → Clear m (issue_tests f (reached f n) family p q r)
  unfolding outcome tests_of
  clear family p q r x = earlier_passed (issue_tests f (reached f n) family p q r) x

  module _ (p q r : ℕ) (refused : outcome f (reached f n) (issue idevid_family p q r) ≡ 29) where
    passes : (m : ℕ) → among m (before 29 order) ≡ true → Clear m (issue_tests f (reached f n) idevid_family p q r)
    passes = clear idevid_family p q r 29 refused

    signed : signs_for_some f oem_desks (signer f (parent_certificate_of f q)) ≡ true
    unfolding issue_tests form_tests proof_tests called_for
    signed = (passes 21 refl).1.1.1.1.1.1.1.1.1.1.1.0 refl

    parent_attributes : attributes f (certified_key f (parent_certificate_of f q)) ≡ iak_family.key
    unfolding issue_tests form_tests proof_tests called_for
    parent_attributes = same_attributes_lem _ _ ((passes 23 refl).1.1.1.1.1.1.1.1.1.1.1.1.1.0 refl)

    parent : Listing (reached f n).ledger (parent_certificate_of f q)
    unfolding issue_tests form_tests proof_tests called_for request_body
    parent =
        listed_found (reached f n).ledger (parent_certificate_of f q)
        (parent_listed f ck (reached f n) (reached_invariant f ck n) p q
        (record {
          known = (passes 14 refl).1.0 refl;
          pair = is_kind_kind f pair_kind q ((passes 19 refl).1.1.0 refl);
          body = is_kind_kind f ldevid_request_kind (left_of f q) ((passes 19 refl).1.1.1.0 refl);
          family = idevid_family;
          row = Memᴰ.tail (Memᴰ.head refl);
          signed = signed;
        }))

    parent_depth : depth_of (reached f n).ledger (parent_certificate_of f q) ≡ 1
    parent_depth =
        let s = sound_at parent.place parent.entry parent.here in
        let m = may_sign_lem f ck s.family (parent_certificate_of f q) (subst (SignedBy f s.family) parent.same s.of_family.signed) idevid_family (some_signer f oem_desks (signer f (parent_certificate_of f q)) signed) in
        let a = ap (λ (t : ℕ). attributes f (certified_key f t)) parent.same ∙ parent_attributes in
        sym parent.depth ∙ iak_depth_lem parent.place parent.entry parent.here (iak_entry_lem parent.entry s.family s.of_family m a)

    idevid_not_too_deep : ⊥
    unfolding outcome tests_of issue_tests form_tests proof_tests called_for applies
    idevid_not_too_deep =
        false≢true (sym (rw parent_depth refl) ∙ applied (issue_tests f (reached f n) idevid_family p q r) 29 (omega arith) refused)

  module _ (p q r : ℕ) (family : Family) (row : Memᴰ family request_families) (refused : outcome f (reached f n) (issue family p q r) ≡ 28) where
    asked : (m : ℕ) → among m (before 28 order) ≡ true → Clear m (issue_tests f (reached f n) family p q r)
    asked = clear family p q r 28 refused

    issuer : role_of f p ≡ signing_role family
    unfolding issue_tests form_tests proof_tests called_for
    issuer = is_role_role f (signing_role family) p ((asked 13 refl).0 refl)

    issuer_key_lem : Memᴰ (signs_with p (signer f r)) f.setup
    unfolding issue_tests form_tests proof_tests called_for
    issuer_key_lem = signs_given f p (signer f r) ((asked 27 refl).1.1.1.1.1.1.1.1.1.1.1.1.1.1.1.1.0 refl)

    key_attributes_lem : attributes f (certified_key f r) ≡ family.key
    unfolding issue_tests form_tests proof_tests called_for
    key_attributes_lem =
        ap (attributes f) (eqb-true _ _ ((asked 27 refl).1.1.1.1.1.1.1.1.1.1.1.1.1.1.0 refl))
        ∙ same_attributes_lem _ _ ((asked 23 refl).1.1.1.1.1.1.1.1.1.1.1.1.0 refl)

    issued_by_own_lem : (i : ℕ) (e : Entry) → EntryAt f n i e → e.certificate ≡ r → OfFamily f family e
    issued_by_own_lem i e at c =
        let s = sound_at i e at in
        let by = subst (SignedBy f s.family) c s.of_family.signed in
        subst (λ (x : Family). OfFamily f x e)
        (one_row s.family family s.of_family.row (Memᴰ.tail row)
        (sym s.of_family.key_attributes ∙ ap (λ (t : ℕ). attributes f (certified_key f t)) c ∙ key_attributes_lem)
        (sym by.desk_role ∙ signed_once_lem f ck by.desk p (signer f r) by.desk_key issuer_key_lem ∙ issuer)) s.of_family

pub family_laws : FamilyLaws
unfolding same_attributes
family_laws = record {
  one = one_family;
  idevid_never_parent = never_parent _ refl;
  ldevid_never_parent = never_parent _ refl;
  iak_depth = iak_depth_lem;
  idevid_depth = idevid_depth_lem;
  idevid_never_too_deep = idevid_not_too_deep;
  issued_by_own = issued_by_own_lem;
}
