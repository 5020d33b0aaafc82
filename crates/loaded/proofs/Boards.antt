-- What finds the ledger's entries by their Subject.
--     tells_none, tells-one, tells-tpm     refusal 31's test by what a serial number finds
--     entered-falls                no list goes beyond the ledger
--     boarded-none                 no entries
--     boarded-linked               an entry more, whose parent ends its path, linked by its Subject
--     boarded-known                one whose Subject finds an entry already
--     boarded-below                one below another
-- Assumes nothing.
use Rattle.tables.specs.declared.columns.Tables.{Tables}
use mathlib.Core.Path.{◌≡◌, refl, sym, ap, subst, subst⁻¹, ◌∙◌}
use mathlib.Core.Logic.{⊎_elim}
use mathlib.Core.Bool.{Bool, true, false, false≢true, cond}
use mathlib.Core.List.{List, [], ◌∷◌, ◌++◌}
use mathlib.Core.Option.{some}
use Prim.Native.Nat.{ℕ, suc, ◌+◌, ◌-◌, ◌<◌}
use native.Mathlib.Omega.{arith}
use lib.Dec.{eqb}
use lib.ListN.{length, get_elem?}
use borrow.Author.Tests.{eqb-true, eq-eqb}
use Rattle.rules.specs.declared.Entry.{Entry}
use Rattle.rules.specs.declared.Subject.{Subject}
use Rattle.rules.specs.declared.Subject.TheVariants.{Tpm, Device}
use Rattle.rules.specs.Limits.{term_limit}
use Rattle.rules.specs.Term.{same_subject}
use Rattle.rules.specs.File.{File, subject, certified_key}
use Rattle.rules.specs.State.{listed, put}
use Rattle.rules.specs.Desk.{end_ek, all_end_at}
use Rattle.theorems.proofs.Terms.{subject_same}
use Rattle.theorems.proofs.Ledgers.{at_kept, at_appended, at_below, at_last}
use Rattle.theorems.proofs.Ends.{Descends, OneEk, Once, end_kept, new_one, new_below, by_entry, by_none}
use Rattle.theorems.proofs.DeskSteps.{put_same, put_other}
use Rattle.tables.specs.Columns.{Boards, Unlinked, tables_in, with_ek, linked}
use Rattle.boards.specs.Linked.{Falls, entry_of}
use Rattle.boards.proofs.Walk.{found_linked, found_none}
use Rattle.loaded.specs.Entries.{Entered, Boarded}

-- two serial numbers of one device Subject
same_serial : (m k : ℕ) → Device m ≡ Device k → m ≡ k
unfolding same_subject
same_serial m k e = eqb-true m k (subject_same (Device m) (Device k) e)

not_both_kinds : (m k : ℕ) → Device m ≡ Tpm k → ⊥
unfolding same_subject
not_both_kinds m k e = false≢true (subject_same (Device m) (Tpm k) e)

module _ (f : File) (l : List Entry) (b : Boards) (w : Boarded f b l) (ek : ℕ) where
  -- a serial number that finds nothing is of no entry
  allowed_none : (m : ℕ) → entry_of b m ≡ 0 → all_end_at f l (Device m) ek l ≡ true
  allowed_none m z =
      by_none f l (Device m) ek
      (λ i e h s.
      let v = w.found i e h in
      let q = same_serial v.0 m (sym v.1 ∙ s) in
      let p = v.2 in
      omega (arith, ap (entry_of b) q))

  -- of one that finds an entry, that entry's EK tells
  allowed_one : OneEk f l → (m : ℕ) → 0 < entry_of b m → all_end_at f l (Device m) ek l ≡ eqb (b.ek (entry_of b m - 1)) ek
  allowed_one one m p =
      let v = w.right m p in
      by_entry f l (Device m) ek one (entry_of b m - 1) v.0 v.1 v.2 ∙ ap (λ (k : ℕ). eqb k ek) (sym (w.ek (entry_of b m - 1) v.0 v.1))

  -- no entry has a TPM's
  allowed_tpm : (m : ℕ) → all_end_at f l (Tpm m) ek l ≡ true
  allowed_tpm m = by_none f l (Tpm m) ek (λ i e h s. let v = w.found i e h in not_both_kinds v.0 m (sym v.1 ∙ s))

  -- by what was read
  pub tells_tpm : {x : Subject} {m : ℕ} → x ≡ Tpm m → true ≡ all_end_at f l x ek l
  tells_tpm {x} {m} q = sym (ap (λ (y : Subject). all_end_at f l y ek l) q ∙ allowed_tpm m)

  pub tells_none : {x : Subject} {m e : ℕ} → x ≡ Device m → e ≡ entry_of b m → e ≡ 0 → true ≡ all_end_at f l x ek l
  tells_none {x} {m} q k z = sym (ap (λ (y : Subject). all_end_at f l y ek l) q ∙ allowed_none m (sym k ∙ z))

  pub tells_one : {x : Subject} {m e kept : ℕ} → OneEk f l → x ≡ Device m → e ≡ entry_of b m → (e ≡ 0 → ⊥) → kept ≡ b.ek (e - 1) → eqb kept ek ≡ all_end_at f l x ek l
  tells_one {x} {m} {e} {kept} one q k z h =
      sym (ap (λ (y : Subject). all_end_at f l y ek l) q
      ∙ allowed_one one m (omega arith)
      ∙ ap (λ (t : ℕ). eqb t ek) (ap (λ (t : ℕ). b.ek (t - 1)) (sym k) ∙ sym h))

pub entered_falls : {tables : Tables} → Entered tables → Falls (tables_in tables).boards term_limit
entered_falls (n, l, e) = record { newest = λ i. omega (arith, e.falls.newest i, e.few); earlier = e.falls.earlier }

pub boarded_none : (f : File) (b : Boards) → Unlinked b → Boarded f b []
boarded_none f b u = record {
  ek = λ i e h. absurd (let z : ◌≡◌ {A = ℕ} 0 1 = cc in omega arith);
  found = λ i e h. absurd (let z : ◌≡◌ {A = ℕ} 0 1 = cc in omega arith);
  right = λ m p. absurd (omega (arith, found_none b u.newest m));
}

-- what a serial number finds, and the lists, by columns other than the EKs
pub found_ek : (b : Boards) (c : ℕ → ℕ) (s : ℕ) → entry_of (with_ek b c) s ≡ entry_of b s
unfolding entry_of
found_ek b c s = refl

pub falls_ek : (b : Boards) (c : ℕ → ℕ) (n : ℕ) → Falls b n → Falls (with_ek b c) n
falls_ek b c n f = record { newest = f.newest; earlier = f.earlier }

module _
    (f : File) (l : List Entry) (once : Once l) (descends : Descends l) (b : Boards) (w : Boarded f b l)
    (e : Entry) (new : listed l e.certificate ≡ true → ⊥) (n : ℕ) (many : length l ≡ n) where
  ek_next : (k : ℕ) → k ≡ end_ek f (l ++ (e ∷ [])) e → (i : ℕ) (x : Entry) → get_elem? (l ++ (e ∷ [])) i ≡ some x → put b.ek n k i ≡ end_ek f (l ++ (e ∷ [])) x
  unfolding end_ek
  ek_next k q i x h =
      ⊎_elim
      (λ a. put_other b.ek n k i (λ z. let u = at_below l i x a in omega arith) ∙ w.ek i x a ∙ ap (certified_key f) (sym (end_kept l once descends (e ∷ []) i x a)))
      (λ a. ap (put b.ek n k) (a.0 ∙ many) ∙ put_same b.ek n k ∙ q ∙ ap (end_ek f (l ++ (e ∷ []))) (sym a.1))
      (at_appended l e i x h)

  module _ (falls : Falls b n) (m : ℕ) (named : subject f e.certificate ≡ Device m) (d : e.depth ≡ 1) where
    -- where it finds none, it is linked
    pub boarded_linked : Boarded f (linked (with_ek b (put b.ek n (certified_key f e.parent))) n m) (l ++ (e ∷ []))
    unfolding end_ek
    boarded_linked = record {
      ek = ek_next (certified_key f e.parent) (ap (certified_key f) (sym (new_one l e new d)));
      found = λ i x h. ⊎_elim (λ a. let v = w.found i x a in (v.0, v.1, some_found v.0 v.2)) (λ a. (m, ap (λ (y : Entry). subject f y.certificate) a.1 ∙ named, own_found)) (at_appended l e i x h);
      right = λ s p. of s (eqb s m) refl (entry_of next s) (now s) p;
    }
      where
        next : Boards
        next = linked (with_ek b (put b.ek n (certified_key f e.parent))) n m

        now : (s : ℕ) → entry_of next s ≡ cond (eqb s m) (n + 1) (entry_of b s)
        now s = found_linked (with_ek b (put b.ek n (certified_key f e.parent))) n m (falls_ek b _ n falls) s ∙ ap (cond (eqb s m) (n + 1)) (found_ek b _ s)

        some_found : (s : ℕ) → 0 < entry_of b s → 0 < entry_of next s
        some_found s p = subst⁻¹ (λ (t : ℕ). 0 < t) (now s) (go (eqb s m))
          where
            go : (c : Bool) → 0 < cond c (n + 1) (entry_of b s)
            go true = omega arith
            go false = p

        own_found : 0 < entry_of next m
        own_found = subst⁻¹ (λ (t : ℕ). 0 < t) (now m ∙ ap (λ (c : Bool). cond c (n + 1) (entry_of b m)) (eq-eqb m m refl)) (omega arith)

        of : (s : ℕ) (c : Bool) → eqb s m ≡ c → (t : ℕ) → t ≡ cond c (n + 1) (entry_of b s) → 0 < t → (x : Entry) × (get_elem? (l ++ (e ∷ [])) (t - 1) ≡ some x) × (subject f x.certificate ≡ Device s)
        of s true r t q p =
            (e, ap (get_elem? (l ++ (e ∷ []))) (let z : t - 1 ≡ length l = omega arith in z) ∙ at_last l e, named ∙ ap Device (sym (eqb-true s m r)))
        of s false r t q p =
            let v = w.right s (subst (λ (u : ℕ). 0 < u) q p) in
            (v.0, ap (λ (u : ℕ). get_elem? (l ++ (e ∷ [])) (u - 1)) q ∙ at_kept l (e ∷ []) (entry_of b s - 1) v.0 v.1, v.2)

  -- a serial number that finds an entry already
  pub boarded_known : (k m : ℕ) → k ≡ end_ek f (l ++ (e ∷ [])) e → subject f e.certificate ≡ Device m → 0 < entry_of b m → Boarded f (with_ek b (put b.ek n k)) (l ++ (e ∷ []))
  boarded_known k m q named known = record {
    ek = ek_next k q;
    found =
        λ i x h.
        ⊎_elim (λ a. let v = w.found i x a in (v.0, v.1, some_found v.0 v.2)) (λ a. (m, ap (λ (y : Entry). subject f y.certificate) a.1 ∙ named, some_found m known))
        (at_appended l e i x h);
    right =
        λ s p.
        let v = w.right s (subst (λ (t : ℕ). 0 < t) (found_ek b (put b.ek n k) s) p) in
        (v.0, ap (λ (u : ℕ). get_elem? (l ++ (e ∷ [])) (u - 1)) (found_ek b (put b.ek n k) s) ∙ at_kept l (e ∷ []) (entry_of b s - 1) v.0 v.1, v.2);
  }
    where
      some_found : (s : ℕ) → 0 < entry_of b s → 0 < entry_of (with_ek b (put b.ek n k)) s
      some_found s p = subst⁻¹ (λ (t : ℕ). 0 < t) (found_ek b (put b.ek n k) s) p

  module _ (j : ℕ) (g : Entry) (here : get_elem? l j ≡ some g) (above : g.certificate ≡ e.parent) (d : e.depth ≡ suc g.depth) (named : subject f e.certificate ≡ subject f g.certificate) where
    pub boarded_below : Boarded f (with_ek b (put b.ek n (b.ek j))) (l ++ (e ∷ []))
    unfolding end_ek
    boarded_below =
        let v = w.found j g here in
        boarded_known (b.ek j) v.0 (w.ek j g here ∙ ap (certified_key f) (sym (new_below l e new once descends j g here above d))) (named ∙ v.1) v.2
