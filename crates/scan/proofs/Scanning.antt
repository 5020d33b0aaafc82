-- The scan of a file, record by record: what holds at a record's place, and what each of its ends gives.
--     at_start                          before the first record
--     at_end                            at the end of the file
--     number_some                       a refusal's number is not 0
--     checked_refused, last_refused     a record that is refused
--     enter_asks, record_taken          one that is entered
--     command_taken                     a command
-- Assumes nothing.
use mathlib.Core.Path.{◌≡◌, refl, sym, ap, subst, subst⁻¹, ◌∙◌}
use mathlib.Core.Bool.{Bool, true, false, cond}
use mathlib.Core.List.{List}
use Prim.Native.Nat.{ℕ, zero, suc, ◌+◌, ◌-◌, ◌<◌, ◌≤◌}
use native.Mathlib.Omega.{arith}
use lib.Dec.{eqb, ltb}
use lib.ListN.{length, get_or, take, drop, replicate}
use borrow.Author.Tests.{eqb-true, ltb-false}
use Rattle.rules.specs.declared.Refusal.{Refusal}
use Rattle.rules.specs.declared.Refusal.TheVariants as refusal
use Rattle.rules.specs.Codes.{number_of}
use Rattle.rules.specs.Record.{section_of, body_length, fields_of, party_section, term_section, setup_section, command_section}
use Rattle.rules.specs.File.{File}
use Rattle.rules.specs.Load.{first, fields_fault, enter, load, loaded, refused, empty_file}
use Rattle.state.specs.View.{view}
use Rattle.tables.specs.declared.columns.Tables.{Tables}
use Rattle.tables.specs.Columns.{Terms, tables_in}
use Rattle.learning.specs.Noted.{Noted}
use Rattle.checks.specs.There.{head_fault}
use Rattle.checks.specs.Fields.{fields_fault_noted}
use Rattle.index.specs.Tree.{link_count}
use Rattle.index.proofs.Empty.{indexed_anew}
use Rattle.records.proofs.Lengths.{section_most}
use Rattle.theorems.proofs.Loading.{entered, empty_good}
use Rattle.theorems.proofs.Pieces.{body_at, load_from, feed_end}
use Rattle.reader.specs.Place.{next_place}
use Rattle.reader.proofs.Places.{next_record}
use Rattle.scan.specs.declared.Tally.{Tally}
use Rattle.scan.specs.Describes.{Describes, counted, checked_fault, last_fault, columns_after, signers_after, EnterReady, At, Stands, ScanReady}
use Rattle.scan.proofs.Faults.{fields_same, head_zero, refuse_head, refuse_fields, refuse_last, taken}
use Rattle.scan.proofs.Entering.{described_empty, described_next, enter_ready}

abbrev none : Tally
none = record { section = 0; parties = 0; terms = 0; commands = 0 }

at_none : (bs s : List ℕ) (tables : Tables) → ScanReady bs s tables → At bs s (tables_in tables).signer none 0
at_none bs s tables r = record {
  file = empty_file;
  describes = described_empty bs s tables r;
  good = empty_good;
  inside = omega arith;
  short = r.short;
  few = omega arith;
  in_order = omega arith;
  left = sym (load_from bs r.short);
}

pub at_start : {bs s links : List ℕ} {tables : Tables} {n : Tally} → (n.section ≡ 0) × ((n.parties ≡ 0) × ((n.terms ≡ 0) × (n.commands ≡ 0)))
    → ScanReady bs s tables → links ≡ replicate link_count 0 → Stands bs s links tables n 0
at_start {bs} {s} {links} {tables} z r e =
    subst⁻¹ (λ (m : Tally). Stands bs s links tables m 0) (λ i. record { section = z.0 i; parties = z.1.0 i; terms = z.1.1.0 i; commands = z.1.1.1 i })
    (record { here = at_none bs s tables r; indexed = indexed_anew r.indexed links e })

-- a refusal's number is not 0
pub number_some : (r : Refusal) → 0 < number_of r
number_some refusal.BufferShort = omega arith
number_some refusal.FileLong = omega arith
number_some refusal.KindUnknown = omega arith
number_some refusal.CutShort = omega arith
number_some refusal.SectionOrder = omega arith
number_some refusal.TooMany = omega arith
number_some refusal.FieldRange = omega arith
number_some refusal.TermKind = omega arith
number_some refusal.TermAlike = omega arith
number_some refusal.NotTaught = omega arith
number_some refusal.NotHeldAlone = omega arith
number_some refusal.NotASigner = omega arith
number_some refusal.RoleForbids = omega arith
number_some refusal.InputUnknown = omega arith
number_some refusal.HalfNotHeld = omega arith
number_some refusal.AttributesForbid = omega arith
number_some refusal.NoTicket = omega arith
number_some refusal.CheckFalse = omega arith
number_some refusal.RequestForm = omega arith
number_some refusal.NoProof = omega arith
number_some refusal.CertificateSigner = omega arith
number_some refusal.KeyAttributes = omega arith
number_some refusal.NumberTaken = omega arith
number_some refusal.CredentialNotOpen = omega arith
number_some refusal.PartyReturning = omega arith
number_some refusal.NotCalledFor = omega arith
number_some refusal.IssuedAlready = omega arith
number_some refusal.TooDeep = omega arith
number_some refusal.NotInLedger = omega arith
number_some refusal.SubjectOfAnotherEk = omega arith
number_some refusal.PairsEmptyOrAlike = omega arith
number_some refusal.RegisterShowsOther = omega arith
number_some refusal.NoBoards = omega arith

-- a number that is not 0
some : (x : ℕ) → 0 < x → (m : ℕ) × (x ≡ suc m)
some zero h = absurd (omega arith)
some (suc m) h = (m, refl)

first_none : (a b : ℕ) → first a b ≡ 0 → (a ≡ 0) × (b ≡ 0)
unfolding first
first_none zero b e = (refl, e)
first_none (suc a) b e = absurd (omega (arith, e))

-- a head that is not refused: the record is whole, and in order
head_go : (a b c : Bool) (x : ℕ) → cond a 3 (cond b 4 (cond c 5 x)) ≡ 0 → (b ≡ false) × (c ≡ false)
head_go true b c x e = absurd (omega arith)
head_go false true c x e = absurd (omega arith)
head_go false false true x e = absurd (omega arith)
head_go false false false x e = (refl, refl)

pub head_right : (own end size section parties terms : ℕ) → head_fault own end size section parties terms ≡ 0 → (end ≤ size) × (section ≤ own)
unfolding head_fault
head_right own end size section parties terms e =
    let h = head_go (eqb own 0) (ltb size end) (ltb own section) _ e in
    (ltb-false size end h.0, ltb-false own section h.1)

-- the part of the file that is handed on is the record's body
pub body_same : (bs : List ℕ) (at x : ℕ) → x ≡ next_place bs at → take (x - (at + 1)) (drop (at + 1) bs) ≡ body_at bs at
unfolding body_at
body_same bs at x e = let q : x - (at + 1) ≡ body_length (get_or bs at 0) = omega (arith, next_record bs at) in ap (λ (m : ℕ). take m (drop (at + 1) bs)) q

-- what holds of the counts with one record more, by its section
pub counted_is : (P : Tally → Type 0) (own : ℕ) (n : Tally)
    → P (record { section = own; parties = n.parties + 1; terms = n.terms; commands = n.commands })
    → (own ≡ term_section → P (record { section = own; parties = n.parties; terms = n.terms + 1; commands = n.commands }))
    → P (record { section = own; parties = n.parties; terms = n.terms; commands = n.commands })
    → P (record { section = own; parties = n.parties; terms = n.terms; commands = n.commands + 1 })
    → P (counted own n)
unfolding counted
counted_is P own n party term setup command = go (eqb own party_section) (eqb own term_section) (eqb own setup_section) refl
  where
    go : (a b c : Bool) → eqb own term_section ≡ b
        → P (cond a (record { section = own; parties = n.parties + 1; terms = n.terms; commands = n.commands })
        (cond b (record { section = own; parties = n.parties; terms = n.terms + 1; commands = n.commands })
        (cond c (record { section = own; parties = n.parties; terms = n.terms; commands = n.commands })
        (record { section = own; parties = n.parties; terms = n.terms; commands = n.commands + 1 }))))
    go true b c e = party
    go false true c e = term (eqb-true own term_section e)
    go false false true e = setup
    go false false false e = command

-- a record adds at most one command
one_more : (own : ℕ) (n : Tally) → (counted own n).commands ≤ n.commands + 1
one_more own n = counted_is (λ (m : Tally). m.commands ≤ n.commands + 1) own n (omega arith) (λ _. omega arith) (omega arith) (omega arith)

counted_section : (own : ℕ) (n : Tally) → (counted own n).section ≡ own
counted_section own n = counted_is (λ (m : Tally). m.section ≡ own) own n refl (λ _. refl) refl refl

-- the counts are small
pub counts_small : {bs s : List ℕ} {signers : ℕ → ℕ} {n : Tally} {at : ℕ} → At bs s signers n at → (n.parties < 65536) × (n.terms < 65536) × (n.commands < 65536)
counts_small a =
    let p = a.describes.few_parties in
    let t = a.describes.there.few in
    let f = a.few in
    let i = a.inside in
    let h = a.short in
    (omega arith, omega arith, omega arith)

module _ {bs s : List ℕ} {signers : ℕ → ℕ} {n : Tally} {at : ℕ} (a : At bs s signers n at) where
  -- the end of the file
  pub at_end : length bs ≤ at → (f : File) × (load bs ≡ loaded f) × Describes f bs s signers n (length bs)
  at_end h =
      let e : at ≡ length bs = let i = a.inside in omega arith in
      (a.file, sym a.left ∙ feed_end bs at a.file h, subst (Describes a.file bs s signers n) e a.describes)

  module _ {v : Terms} (noted : Noted bs (view s).place v n.terms) (h : at < length bs) where
    abbrev checked : ℕ
    checked = checked_fault bs v n.section n.parties n.terms at

    -- 3 to 8
    checked_go : (m : ℕ) → checked ≡ suc m → load bs ≡ refused (suc m) at
    unfolding checked_fault first next_place
    checked_go m e = go (head_fault (section_of (get_or bs at 0)) (next_place bs at) (length bs) n.section n.parties n.terms) refl e
      where
        go : (x : ℕ) → head_fault (section_of (get_or bs at 0)) (next_place bs at) (length bs) n.section n.parties n.terms ≡ x
            → first x (fields_fault_noted v n.parties n.terms (fields_of (get_or bs at 0)) 0 (body_at bs at)) ≡ suc m → load bs ≡ refused (suc m) at
        go zero q r =
            sym a.left
            ∙ refuse_fields a.file bs s signers n at a.describes a.good h q m (sym (fields_same a.file bs s signers n at a.describes a.good noted (fields_of (get_or bs at 0)) 0 (body_at bs at)) ∙ r)
        go (suc x) q r = sym a.left ∙ refuse_head a.file bs s signers n at a.describes a.good h m (q ∙ r)

    pub checked_refused : (x : ℕ) → 0 < x → x ≡ checked → load bs ≡ refused x at
    checked_refused x l e = let w = some x l in subst⁻¹ (λ (y : ℕ). load bs ≡ refused y at) w.1 (checked_go w.0 (sym e ∙ w.1))

    module _ (z : checked ≡ 0) where
      head : head_fault (section_of (get_or bs at 0)) (at + 1 + body_length (get_or bs at 0)) (length bs) n.section n.parties n.terms ≡ 0
      unfolding checked_fault next_place
      head = (first_none _ _ z).0

      right : fields_fault a.file (fields_of (get_or bs at 0)) 0 (body_at bs at) ≡ 0
      unfolding checked_fault
      right = sym (fields_same a.file bs s signers n at a.describes a.good noted (fields_of (get_or bs at 0)) 0 (body_at bs at)) ∙ (first_none _ _ z).1

      pub fits : at + 1 + body_length (get_or bs at 0) ≤ length bs
      fits = (head_right _ _ _ _ _ _ head).0

      pub order : n.section ≤ section_of (get_or bs at 0)
      order = (head_right _ _ _ _ _ _ head).1

      known : 0 < section_of (get_or bs at 0)
      known = (head_zero a.file bs s signers n at a.describes a.good (get_or bs at 0) _ head).0

      -- what entering the record asks
      pub enter_asks : EnterReady bs s (body_at bs at) (get_or bs at 0) at n
      enter_asks =
          let z = head_zero a.file bs s signers n at a.describes a.good (get_or bs at 0) _ head in
          enter_ready a.file bs s signers n at a.describes a.good h a.short known fits z.2 z.3 right

      abbrev last : ℕ
      last = last_fault bs (view s) signers n (get_or bs at 0) (body_at bs at)

      -- 9 to 12
      pub last_refused : (x : ℕ) → 0 < x → x ≡ last → load bs ≡ refused x at
      last_refused x l e =
          let w = some x l in
          subst⁻¹ (λ (y : ℕ). load bs ≡ refused y at) w.1 (sym a.left ∙ refuse_last a.file bs s signers n at a.describes a.good h head right w.0 (sym e ∙ w.1))

      -- a record that is taken
      pub record_taken : {s' : List ℕ} {signers' : ℕ → ℕ} → last ≡ 0 → length s' ≡ length s
          → view s' ≡ columns_after bs (view s) n (get_or bs at 0) (body_at bs at) at
          → signers' ≡ signers_after signers (get_or bs at 0) (body_at bs at)
          → At bs s' signers' (counted (section_of (get_or bs at 0)) n) (next_place bs at)
      unfolding next_place
      record_taken {s'} {signers'} e l v k =
          let t = taken a.file bs s signers n at a.describes a.good h head right e in
          record {
            file = enter a.file at (get_or bs at 0) (body_at bs at);
            describes = described_next a.file bs s s' signers signers' n at a.describes a.good h a.short known fits t.0 l v k;
            good = entered a.file at (get_or bs at 0) (body_at bs at) a.good known t.0;
            inside = fits;
            short = a.short;
            few = let f = a.few in omega (arith, one_more (section_of (get_or bs at 0)) n);
            in_order = omega (arith, counted_section (section_of (get_or bs at 0)) n, section_most (get_or bs at 0));
            left = sym t.1 ∙ a.left;
          }

      -- a command leaves the state and the signing keys
      pub command_taken : section_of (get_or bs at 0) ≡ command_section → At bs s signers (counted command_section n) (next_place bs at)
      unfolding last_fault columns_after signers_after
      command_taken q = subst (λ (own : ℕ). At bs s signers (counted own n) (next_place bs at)) q (record_taken (rw q refl) refl (rw q refl) (rw q refl))
