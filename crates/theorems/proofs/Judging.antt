-- A pair of a 43 after those before it, by the state before the command.
--     desk-pairs to ends-pairs     what pairs that were issued leave of what a 3F asks
--     judged-pair                  what a pair is judged by after others
-- Assumes nothing.
use mathlib.Core.Path.{◌≡◌, refl, sym, ap, subst, subst⁻¹, ◌∙◌}
use mathlib.Core.Logic.{⊎_elim}
use mathlib.Core.Bool.{Bool, true, false, cond, not, ◌&&◌, ◌||◌, false≢true}
use mathlib.Core.List.Memᴰ
use mathlib.Core.List.{List, [], ◌∷◌, ◌++◌, Memᴰ}
use mathlib.Core.Option.{some}
use Prim.Native.Nat.{ℕ, zero, suc, ◌<◌}
use native.Mathlib.Omega.{arith}
use lib.Dec.{eqb}
use lib.ListN.{length, get_elem?}
use borrow.Author.Tests.{eq-eqb, ne_eqb, eqb-true, eqb-false, not-true}
use Rattle.rules.specs.declared.Entry.{Entry}
use Rattle.rules.specs.declared.Subject.{Subject}
use Rattle.rules.specs.Limits.{device, oem_desk}
use Rattle.rules.specs.Refusals.{Test, need, order}
use Rattle.rules.specs.Term.{public_key_kind, number_kind, certificate_kind, credential_kind, same_subject}
use Rattle.rules.specs.File.{File, IakPair, issue_iak, kind, is_role, subject, certified_key, credential_number}
use Rattle.rules.specs.Load.{first, refuse_unless}
use Rattle.rules.specs.Learning.{Knowledge}
use Rattle.rules.specs.State.{State, credential_open, credential_closed, put, listed, learnt, closing, entered}
use Rattle.rules.specs.Desk.{request_body, iak_of, ek_of, ek_certificate_of, called_for, end_ek, all_end_at, issue_iak_tests, issue_iak_effect, certificates_of, is_among, issue_iaks_effect}
use Rattle.rules.specs.Run.{tests_of, effect_of, outcome}
use Rattle.theorems.specs.Residency.{Inside}
use Rattle.theorems.specs.Chain.{chain}
use Rattle.theorems.specs.Judging.{credentials_of, others_end, judged}
use Rattle.theorems.proofs.Booleans.{and_true, both_ways}
use Rattle.theorems.proofs.Passing.{among, ordered}
use Rattle.theorems.proofs.Inside.{inside_none, inside_one}
use Rattle.theorems.proofs.Loading.{Checked, PairsFormed}
use Rattle.theorems.proofs.Terms.{same_subject_lem, subject_same, parts_public_key, parts_certificate}
use Rattle.theorems.proofs.Ledgers.{at_kept, at_appended, at_last}
use Rattle.theorems.proofs.Ends.{end_kept, new_one, ends_each, each_ends}
use Rattle.theorems.proofs.Invariant.{Invariant, descends, invariant_next}
use Rattle.theorems.proofs.DeskSteps.{issue_iak_passed, issue_iak_step}
use Rattle.theorems.proofs.Together.{with_pair, PairsAccepted}
use Rattle.theorems.proofs.History.{each_kept, each_only, pairs_knows}
use Rattle.theorems.proofs.Chain.{in_order_lem}

-- a certificate has no number in it
no_number : (f : File) → Checked f → (t n : ℕ) → kind f t ≡ certificate_kind → kind f n ≡ number_kind → Inside f t n → ⊥
no_number f ck t n c k i =
    ⊎_elim (λ e. let z : certificate_kind ≡ number_kind = sym c ∙ ap (kind f) (sym e) ∙ k in omega arith)
    (λ j. let e = inside_none f (certified_key f t) n (parts_public_key f (certified_key f t) (ck.certified_key_kind t c)) j in
    let z : public_key_kind ≡ number_kind = sym (ck.certified_key_kind t c) ∙ ap (kind f) (sym e) ∙ k in
    omega arith)
    (inside_one f t n (certified_key f t) (parts_certificate f t c) i)

pub formed_certificate : (f : File) (xs : List IakPair) → PairsFormed f xs → (t : ℕ) → Memᴰ t (certificates_of xs) → kind f t ≡ certificate_kind
unfolding certificates_of
formed_certificate f [] w t m = elim m [ ]
formed_certificate f (x ∷ xs) w t m = ⊎_elim (λ e. ap (kind f) e ∙ w.1) (λ n. formed_certificate f xs w.2 t n) (Memᴰ.cases_cons m)

listed_other : (l : List Entry) (e : Entry) (r : ℕ) → (e.certificate ≡ r → ⊥) → listed (l ++ (e ∷ [])) r ≡ listed l r
unfolding listed
listed_other [] e r n = rw (ne_eqb e.certificate r n) refl
listed_other (y ∷ l) e r n = ap (λ (b : Bool). eqb y.certificate r || b) (listed_other l e r n)

or_false : (a b : Bool) → (a || b) ≡ false → (a ≡ false) × (b ≡ false)
or_false true b e = absurd (false≢true (sym e))
or_false false b e = (refl, e)

module _ (f : File) (p q : ℕ) where
  pub desk_pairs : (xs : List IakPair) (s : State) → (issue_iaks_effect f s p q xs).desk ≡ s.desk
  unfolding issue_iaks_effect issue_iak_effect entered closing learnt
  desk_pairs [] s = refl
  desk_pairs (x ∷ xs) s = desk_pairs xs (with_pair f s p q x)

  pub request_pairs : (xs : List IakPair) (s : State) → (issue_iaks_effect f s p q xs).request ≡ s.request
  unfolding issue_iaks_effect issue_iak_effect entered closing learnt
  request_pairs [] s = refl
  request_pairs (x ∷ xs) s = request_pairs xs (with_pair f s p q x)

  -- no credential of theirs is open
  mark_pairs : (xs : List IakPair) (s : State) (c : ℕ) → eqb ((issue_iaks_effect f s p q xs).mark c) credential_open ≡ (not (is_among c (credentials_of xs)) && eqb (s.mark c) credential_open)
  unfolding issue_iaks_effect issue_iak_effect entered closing learnt put is_among credentials_of
  mark_pairs [] s c = refl
  mark_pairs (x ∷ xs) s c = mark_pairs xs (with_pair f s p q x) c ∙ go (eqb c x.credential) (is_among c (credentials_of xs))
    where
      go : (a b : Bool) → (not b && eqb (cond a credential_closed (s.mark c)) credential_open) ≡ (not (a || b) && eqb (s.mark c) credential_open)
      go true true = refl
      go true false = refl
      go false true = refl
      go false false = refl

  -- their certificates teach no number
  knows_pairs : Checked f → (xs : List IakPair) → PairsFormed f xs → (s : State) (u n : ℕ) → kind f n ≡ number_kind → (issue_iaks_effect f s p q xs).knows u n ≡ s.knows u n
  knows_pairs ck xs w s u n k =
      both_ways _ _
      (λ h. ⊎_elim (λ i. i) (λ v. absurd (no_number f ck v.1.0 n (formed_certificate f xs w v.1.0 v.1.1) k v.1.2))
      (each_only f p (certificates_of xs) s.knows u n (subst (λ (known : Knowledge). known u n ≡ true) (pairs_knows f p q xs s) h)))
      (λ h. subst⁻¹ (λ (known : Knowledge). known u n ≡ true) (pairs_knows f p q xs s) (each_kept f p (certificates_of xs) s.knows u n h))

  -- another certificate is listed where it was
  listed_pairs : (xs : List IakPair) (s : State) (r : ℕ) → is_among r (certificates_of xs) ≡ false → listed (issue_iaks_effect f s p q xs).ledger r ≡ listed s.ledger r
  unfolding issue_iaks_effect issue_iak_effect entered closing learnt is_among certificates_of
  listed_pairs [] s r h = refl
  listed_pairs (x ∷ xs) s r h =
      let w = or_false (eqb r x.certificate) (is_among r (certificates_of xs)) h in
      listed_pairs xs (with_pair f s p q x) r w.1 ∙ listed_other s.ledger _ r (λ e. eqb-false r x.certificate w.0 (sym e))

-- one pair more: its EK is looked at where it has the Subject
module _ (f : File) (ck : Checked f) (s : State) (inv : Invariant f s) (p q : ℕ) (y : IakPair) (e : outcome f s (issue_iak p q y.credential y.certificate) ≡ 0) where
  abbrev new_entry : Entry
  new_entry = record { certificate = y.certificate; parent = ek_certificate_of f (s.request y.credential); depth = 1 }

  abbrev more : List Entry
  more = s.ledger ++ (new_entry ∷ [])

  new : listed s.ledger y.certificate ≡ true → ⊥
  unfolding issue_iak_tests called_for
  new h = false≢true (sym (not-true (listed s.ledger y.certificate) (issue_iak_passed f ck s inv p q y.credential y.certificate e).1.1.1.1.1.1.1.1.0) ∙ h)

  new_end_lem : end_ek f more new_entry ≡ ek_of f (s.request y.credential)
  unfolding end_ek ek_of
  new_end_lem = ap (certified_key f) (new_one s.ledger new_entry new refl)

  old_end : (i : ℕ) (g : Entry) → get_elem? s.ledger i ≡ some g → end_ek f more g ≡ end_ek f s.ledger g
  unfolding end_ek
  old_end i g h = ap (certified_key f) (end_kept s.ledger inv.once (descends f s inv) (new_entry ∷ []) i g h)

  module _ (x : Subject) (ek : ℕ) where
    abbrev own : Bool
    own = not (same_subject (subject f y.certificate) x) || eqb (ek_of f (s.request y.credential)) ek

    old_ends : all_end_at f more x ek more ≡ true → all_end_at f s.ledger x ek s.ledger ≡ true
    old_ends h = each_ends f s.ledger x ek s.ledger (λ i g k u. sym (old_end i g k) ∙ ends_each f more x ek more h i g (at_kept s.ledger (new_entry ∷ []) i g k) u)

    own_ends : all_end_at f more x ek more ≡ true → own ≡ true
    own_ends h = go (same_subject (subject f y.certificate) x) refl
      where
        go : (b : Bool) → same_subject (subject f y.certificate) x ≡ b → (not b || eqb (ek_of f (s.request y.credential)) ek) ≡ true
        go true u = eq-eqb _ _ (sym new_end_lem ∙ ends_each f more x ek more h (length s.ledger) new_entry (at_last s.ledger new_entry) (same_subject_lem _ _ u))
        go false u = refl

    all_ends : all_end_at f s.ledger x ek s.ledger ≡ true → own ≡ true → all_end_at f more x ek more ≡ true
    all_ends h o =
        each_ends f more x ek more
        (λ i g k u.
        ⊎_elim (λ m. old_end i g m ∙ ends_each f s.ledger x ek s.ledger h i g m u)
        (λ m. ap (end_ek f more) m.1 ∙ new_end_lem ∙ eqb-true _ _ (past (same_subject (subject f y.certificate) x) (subject_same _ _ (ap (λ (v : Entry). subject f v.certificate) (sym m.1) ∙ u)) o))
        (at_appended s.ledger new_entry i g k))
      where
        past : (a : Bool) {b : Bool} → a ≡ true → (not a || b) ≡ true → b ≡ true
        past true h e = e
        past false h e = absurd (false≢true h)

    ends_pair : all_end_at f (with_pair f s p q y).ledger x ek (with_pair f s p q y).ledger ≡ (all_end_at f s.ledger x ek s.ledger && own)
    unfolding issue_iak_effect entered closing learnt
    ends_pair =
        both_ways _ _ (λ h. rw (old_ends h, own_ends h) refl) (λ h. let w = and_true (all_end_at f s.ledger x ek s.ledger) own h in all_ends w.0 w.1)

and_assoc : (a b c : Bool) → ((a && b) && c) ≡ (a && (b && c))
and_assoc true b c = refl
and_assoc false b c = refl

module _ (f : File) (ck : Checked f) (p q : ℕ) (l : p < length f.roles) (m : q < length f.roles) where
  ends_pairs :
      (xs : List IakPair) (s : State) → Invariant f s → PairsFormed f xs → PairsAccepted f s p q xs → (x : Subject) (ek : ℕ)
      → all_end_at f (issue_iaks_effect f s p q xs).ledger x ek (issue_iaks_effect f s p q xs).ledger ≡ (all_end_at f s.ledger x ek s.ledger && others_end f s.request x ek xs)
  unfolding issue_iaks_effect effect_of others_end
  ends_pairs [] s inv w a x ek = and_right (all_end_at f s.ledger x ek s.ledger)
    where
      and_right : (b : Bool) → b ≡ (b && true)
      and_right true = refl
      and_right false = refl
  ends_pairs (y ∷ xs) s inv w a x ek =
      let st = issue_iak_step f ck s inv p q y.credential y.certificate (l, m, w.0, w.1) a.0 in
      ends_pairs xs (with_pair f s p q y) (invariant_next f ck s _ inv st) w.2 a.1 x ek
      ∙ ap (λ (b : Bool). b && others_end f (with_pair f s p q y).request x ek xs) (ends_pair f ck s inv p q y a.0 x ek)
      ∙ and_assoc (all_end_at f s.ledger x ek s.ledger) _ _
      ∙ ap (λ (r : ℕ → ℕ). all_end_at f s.ledger x ek s.ledger && ((not (same_subject (subject f y.certificate) x) || eqb (ek_of f (s.request y.credential)) ek) && others_end f r x ek xs)) (request_pairs f p q (y ∷ []) s)

-- a last test in two parts
chain_last : (xs : List Test) (n : ℕ) (a b : Bool) → ordered order xs ≡ true → chain (xs ++ (need (suc n) (a && b) ∷ [])) ≡ first (chain (xs ++ (need (suc n) a ∷ []))) (refuse_unless (suc n) b)
unfolding chain first refuse_unless
chain_last [] n true true o = refl
chain_last [] n true false o = refl
chain_last [] n false b o = refl
chain_last (x ∷ xs) n a b o = go x.passes x.refusal w.0 (chain_last xs n a b w.1)
  where
    w : (among x.refusal order ≡ true) × (ordered order xs ≡ true)
    w = and_true (among x.refusal order) (ordered order xs) o

    go : (t : Bool) (k : ℕ) → among k order ≡ true → chain (xs ++ (need (suc n) (a && b) ∷ [])) ≡ first (chain (xs ++ (need (suc n) a ∷ []))) (refuse_unless (suc n) b)
        → cond t (chain (xs ++ (need (suc n) (a && b) ∷ []))) k ≡ first (cond t (chain (xs ++ (need (suc n) a ∷ []))) k) (refuse_unless (suc n) b)
    go true k h more = more
    go false zero h more = absurd (false≢true h)
    go false (suc k) h more = refl

first_some : (m n : ℕ) → first (suc m) n ≡ suc m
unfolding first
first_some m n = refl

module _ (f : File) (s : State) (p q : ℕ) (x : IakPair) where
  -- what a 3F asks of a pair before its last test, where its credential is open or not
  abbrev asked_first : Bool → List Test
  asked_first opened =
      need 13 (is_role f oem_desk p)
      ∷ need 25 opened
      ∷ need 25 (eqb (s.desk x.credential) p)
      ∷ need 26 (is_role f device q)
      ∷ need 26 (s.knows q (credential_number f x.credential))
      ∷ (called_for f p x.certificate (iak_of f (s.request x.credential)) (request_body f (s.request x.credential)) ++ (need 28 (not (listed s.ledger x.certificate)) ∷ []))

  abbrev asked_last : Bool → List Test
  asked_last ends = need 31 ends ∷ []

  abbrev is_open : Bool
  is_open = eqb (s.mark x.credential) credential_open

  abbrev ends : Bool
  ends = all_end_at f s.ledger (subject f x.certificate) (ek_of f (s.request x.credential)) s.ledger

  asked : outcome f s (issue_iak p q x.credential x.certificate) ≡ chain (asked_first is_open ++ asked_last ends)
  unfolding outcome tests_of issue_iak_tests called_for
  asked = in_order_lem _ refl

  asked_ordered : (opened : Bool) → ordered order (asked_first opened) ≡ true
  unfolding called_for
  asked_ordered opened = refl

  -- one that is not open
  asked_closed : (last : Bool) → is_role f oem_desk p ≡ true → chain (asked_first false ++ asked_last last) ≡ 25
  unfolding chain called_for
  asked_closed last role = rw role refl

module _ (f : File) (ck : Checked f) (s : State) (inv : Invariant f s) (p q : ℕ) (l : p < length f.roles) (m : q < length f.roles) (before : List IakPair) (w : PairsFormed f before) (a : PairsAccepted f s p q before) (x : IakPair) (k : kind f x.credential ≡ credential_kind) (n : is_among x.certificate (certificates_of before) ≡ false) where
  abbrev Later : State
  Later = issue_iaks_effect f s p q before

  abbrev others : Bool
  others = others_end f s.request (subject f x.certificate) (ek_of f (s.request x.credential)) before

  asked_later : outcome f Later (issue_iak p q x.credential x.certificate) ≡ chain (asked_first f s p q x (not (is_among x.credential (credentials_of before)) && is_open f s p q x) ++ asked_last f s p q x (ends f s p q x && others))
  unfolding called_for
  asked_later =
      asked f Later p q x
      ∙ rw (request_pairs f p q before s, desk_pairs f p q before s, mark_pairs f p q before s x.credential, knows_pairs f p q ck before w s q (credential_number f x.credential) (ck.credential_number_kind x.credential k), listed_pairs f p q before s x.certificate n, ends_pairs f ck p q l m before s inv w a (subject f x.certificate) (ek_of f (s.request x.credential))) refl

  -- what a pair is judged by after others
  pub judged_pair : is_role f oem_desk p ≡ true → outcome f Later (issue_iak p q x.credential x.certificate) ≡ judged f s p q before x
  unfolding judged
  judged_pair role = asked_later ∙ chain_last (asked_first f s p q x _) 30 _ others (asked_ordered f s p q x (not (is_among x.credential (credentials_of before)) && is_open f s p q x)) ∙ go (is_among x.credential (credentials_of before))
    where
      go : (t : Bool) → first (chain (asked_first f s p q x (not t && is_open f s p q x) ++ asked_last f s p q x (ends f s p q x))) (refuse_unless 31 others)
          ≡ cond t 25 (first (outcome f s (issue_iak p q x.credential x.certificate)) (refuse_unless 31 others))
      go true = ap (λ (r : ℕ). first r (refuse_unless 31 others)) (asked_closed f s p q x (ends f s p q x) role) ∙ first_some 24 (refuse_unless 31 others)
      go false = ap (λ (r : ℕ). first r (refuse_unless 31 others)) (sym (asked f s p q x))
