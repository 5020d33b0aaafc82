-- What accepted commands that issue a certificate leave.
--     iak_open, request_accepted     tests that an accepted 3F, or an accepted 40, 41 or 42 passed
--     parent_place                   the place of the parent of a 40, 41 or 42
--     certificate_few, parent_few    the numbers of a certificate and of that parent
--     parent_some, parent_at_place   its place, as the tables answer it
--     iak_issued_lem, request_issued 3F; 40, 41, 42
-- Assumes nothing.
use Rattle.tables.specs.declared.columns.Tables.{Tables}
use Rattle.std.specs.Prelude.{Option, None, Some}
use Rattle.std.specs.Option.{IsSome}
use borrow.Author.Rules.{rules}
use mathlib.Core.Path.{◌≡◌, refl, sym, ap, subst⁻¹, ◌∙◌}
use mathlib.Core.Bool.{Bool, true, false, false≢true, cond}
use mathlib.Core.List.{List, [], ◌∷◌, ◌++◌, Memᴰ}
use Prim.Native.Nat.{ℕ, ◌+◌, ◌-◌, ◌<◌, ◌≤◌}
use native.Mathlib.Omega.{arith}
use lib.Dec.{eqb}
use borrow.Author.Tests.{eqb-true, eqb-false, leb-true, not-true}
use Rattle.rules.specs.declared.Entry.{Entry}
use Rattle.rules.specs.declared.Family.{Family}
use Rattle.rules.specs.declared.Subject.{Subject}
use Rattle.rules.specs.declared.Subject.TheVariants.{Device}
use Rattle.rules.specs.Limits.{term_limit, depth_limit}
use Rattle.rules.specs.Families.{request_families}
use Rattle.rules.specs.Term.{certificate_kind}
use Rattle.rules.specs.File.{File, issue_iak, issue, kind, subject, certified_key, idevid_certificate, ldevid_certificate, left_of}
use Rattle.rules.specs.State.{State, credential_open, credential_closed, put, listed, depth_of, learnt, closing, entered}
use Rattle.rules.specs.Desk.{request_body, form_tests, proof_tests, ek_certificate_of, parent_certificate_of, called_for, end_ek, issue_iak_tests, issue_iak_effect, issue_tests, issue_effect}
use Rattle.rules.specs.Run.{tests_of, outcome, effect_of}
use Rattle.theorems.proofs.Passing.{passed}
use Rattle.theorems.proofs.Terms.{same_subject_lem, device_subject_lem}
use Rattle.theorems.proofs.Ends.{new_one}
use Rattle.theorems.proofs.Invariant.{descends}
use Rattle.theorems.proofs.Requests.{DeskParent}
use Rattle.state.specs.View.{Columns, view, with_mark}
use Rattle.state.proofs.Exact.{state_of}
use Rattle.tables.specs.Columns.{Boards, TableColumns, tables_in, one_more, with_boards, with_ek, linked}
use Rattle.boards.specs.Linked.{Falls, entry_of}
use Rattle.loaded.specs.Loaded.{file_in, Holds, Learns}
use Rattle.loaded.proofs.Standing.{checked_here, kind_declared}
use Rattle.loaded.specs.Entries.{Boarded, DeskLeaves}
use Rattle.loaded.proofs.Ledger.{ledger_length, entry_most, entry_listed}
use Rattle.loaded.proofs.Boards.{found_ek, falls_ek, boarded_linked, boarded_known, boarded_below}
use Rattle.issuance.specs.Appends.{Appends, linked_by}
use Rattle.issuance.specs.Issues.{IssuesIak, ParentsEntered, IssuesOnRequest}
use Rattle.requests.proofs.Within.{is_kind_kind_lem}
use Rattle.issuance.proofs.IssueOnRequest.{parent_at}
use Rattle.issuance.proofs.Appending.{enters_linked, keys_linked}

-- an accepted 3F is of a certificate that is not listed
iak_new_lem : (f : File) (s : State) (p q c r : ℕ) → outcome f s (issue_iak p q c r) ≡ 0 → listed s.ledger r ≡ false
unfolding outcome tests_of issue_iak_tests called_for
iak_new_lem f s p q c r e = not-true _ (passed (issue_iak_tests f s p q c r) refl e).1.1.1.1.1.1.1.1.0

-- and of an open credential
pub iak_open : (f : File) (s : State) (p q c r : ℕ) → outcome f s (issue_iak p q c r) ≡ 0 → s.mark c ≡ credential_open
unfolding outcome tests_of issue_iak_tests called_for
iak_open f s p q c r e = eqb-true _ _ (passed (issue_iak_tests f s p q c r) refl e).1.0

-- whose request's Subject the certificate has
iak_subject_lem : (f : File) (s : State) (p q c r : ℕ) → outcome f s (issue_iak p q c r) ≡ 0 → subject f r ≡ subject f (request_body f (s.request c))
unfolding outcome tests_of issue_iak_tests called_for
iak_subject_lem f s p q c r e = same_subject_lem _ _ (passed (issue_iak_tests f s p q c r) refl e).1.1.1.1.1.1.0

-- an accepted 40, 41 or 42: a request whose parent a desk signed
pub record RequestPassed (f : File) (s : State) (p q r : ℕ) : Type 0 where
  pub parent : DeskParent f s.knows p q
  pub depth : depth_of s.ledger (ldevid_certificate f (left_of f q)) + 1 ≤ depth_limit

-- and a certificate of its Subject that is not listed
pub record RequestNew (f : File) (s : State) (q r : ℕ) : Type 0 where
  pub named : subject f r ≡ subject f (ldevid_certificate f (left_of f q))
  pub new : listed s.ledger r ≡ false

request_passed : (f : File) (s : State) (family : Family) (p q r : ℕ) → Memᴰ family request_families → outcome f s (issue family p q r) ≡ 0 → RequestPassed f s p q r
unfolding outcome tests_of issue_tests form_tests proof_tests called_for request_body parent_certificate_of
request_passed f s family p q r row e =
    let tests = passed (issue_tests f s family p q r) refl e in
    let signed = tests.1.1.1.1.1.1.1.1.1.1.1 in
    record {
      parent = record { known = tests.1.0; pair = is_kind_kind_lem f q tests.1.1.0; body = is_kind_kind_lem f (left_of f q) tests.1.1.1.0; family = family; row = row; signed = signed.0 };
      depth = leb-true _ depth_limit signed.1.1.1.1.1.1.1.0;
    }

request_new : (f : File) (s : State) (family : Family) (p q r : ℕ) → outcome f s (issue family p q r) ≡ 0 → RequestNew f s q r
unfolding outcome tests_of issue_tests form_tests proof_tests called_for request_body parent_certificate_of
request_new f s family p q r e =
    let tests = passed (issue_tests f s family p q r) refl e in
    let signed = tests.1.1.1.1.1.1.1.1.1.1.1 in
    record { named = same_subject_lem _ _ signed.1.1.1.1.0; new = not-true _ signed.1.1.1.1.1.1.0 }

pub request_accepted : {bs s : List ℕ} {tables : Tables} {n p q r : ℕ} (i : IssuesOnRequest bs s tables n p q r) → RequestPassed (file_in bs) (state_of (view s) i.accepts.ledger) p q r
request_accepted {bs} {s} {p = p} {q} {r} i = request_passed (file_in bs) (state_of (view s) i.accepts.ledger) i.family p q r i.wellformed.3 i.accepts.accepted

parent_noted : (bs s : List ℕ) (tables : Tables) (p q : ℕ) → ParentsEntered bs s tables → DeskParent (file_in bs) (view s).knows p q → 0 < (tables_in tables).entry (parent_at (file_in bs) q)
unfolding parent_certificate_of request_body
parent_noted bs s tables p q entered w = entered p q w

-- the place of its parent's entry
pub parent_place :
    {bs s : List ℕ} {tables : Tables} {n p q r : ℕ} → IssuesOnRequest bs s tables n p q r
    → (0 < (tables_in tables).entry (parent_at (file_in bs) q)) × ((tables_in tables).entry (parent_at (file_in bs) q) ≤ term_limit)
parent_place {bs} {s} {tables} {p = p} {q} i = (parent_noted bs s tables p q i.parents (request_accepted i).parent, entry_most (parent_at (file_in bs) q) i.accepts.enters)

-- a certificate's number, and that of the parent
pub certificate_few : {bs s : List ℕ} {r : ℕ} → Holds bs s → kind (file_in bs) r ≡ certificate_kind → r < term_limit
certificate_few {bs} h e = let l = kind_declared bs e (λ q. omega arith) in let few = (checked_here h).few_terms in omega arith

pub parent_few : {bs s : List ℕ} {tables : Tables} {n p q r : ℕ} → Holds bs s → IssuesOnRequest bs s tables n p q r → parent_at (file_in bs) q < term_limit
parent_few {q = q} h i = certificate_few h ((checked_here h).ldevid_certificate_kind _ (request_accepted i).parent.body)

-- the tables have its entry
pub parent_some : {bs s : List ℕ} {tables : Tables} {n p q r : ℕ} → IssuesOnRequest bs s tables n p q r → (o : Option ℕ) → one_more o ≡ (tables_in tables).entry (parent_at (file_in bs) q) → IsSome o
parent_some i None e = let l = (parent_place i).0 in absurd (omega arith)
parent_some i (Some n) e = search rules

pub parent_at_place : {b : ℕ} (o : Option ℕ) (place : ℕ) → one_more o ≡ b → o ≡ Some place → place + 1 ≡ b
parent_at_place o place e k = ap one_more (sym k) ∙ e

-- an IAK certificate's entry, linked where its Subject finds none
iak_boarded :
    (f : File) (tables tables₁ tables' : Tables) {l : List Entry} {ek : ℕ} (e : Entry) (n m : ℕ) → ek ≡ certified_key f e.parent
    → (tables_in tables₁).boards ≡ with_ek (tables_in tables).boards (put (tables_in tables).boards.ek n ek) → tables_in tables' ≡ linked_by (tables_in tables₁) n (Device m)
    → Boarded f (tables_in tables).boards l
    → Boarded f (linked (with_ek (tables_in tables).boards (put (tables_in tables).boards.ek n (certified_key f e.parent))) n m) (l ++ (e ∷ []))
    → (0 < entry_of (tables_in tables).boards m → Boarded f (with_ek (tables_in tables).boards (put (tables_in tables).boards.ek n (certified_key f e.parent))) (l ++ (e ∷ [])))
    → Boarded f (tables_in tables').boards (l ++ (e ∷ []))
iak_boarded f tables tables₁ tables' {l} {ek} e n m x a k v new known = go (eqb (entry_of (tables_in tables₁).boards m) 0) refl k
  where
    before : Boards
    before = with_ek (tables_in tables).boards (put (tables_in tables).boards.ek n (certified_key f e.parent))

    noted : (tables_in tables₁).boards ≡ before
    noted = a ∙ ap (λ (y : ℕ). with_ek (tables_in tables).boards (put (tables_in tables).boards.ek n y)) x

    go : (b : Bool) → eqb (entry_of (tables_in tables₁).boards m) 0 ≡ b → tables_in tables' ≡ cond b (with_boards (tables_in tables₁) (linked (tables_in tables₁).boards n m)) (tables_in tables₁)
        → Boarded f (tables_in tables').boards (l ++ (e ∷ []))
    go true q k = subst⁻¹ (λ (y : Boards). Boarded f y (l ++ (e ∷ []))) (ap (λ (y : TableColumns). y.boards) k ∙ ap (λ (y : Boards). linked y n m) noted) new
    go false q k =
        let z = eqb-false (entry_of (tables_in tables₁).boards m) 0 q in
        let t : entry_of (tables_in tables₁).boards m ≡ entry_of (tables_in tables).boards m = ap (λ (y : Boards). entry_of y m) noted ∙ found_ek (tables_in tables).boards _ m in
        subst⁻¹ (λ (y : Boards). Boarded f y (l ++ (e ∷ []))) (ap (λ (y : TableColumns). y.boards) k ∙ noted) (known (omega (arith, t)))

pub iak_issued_lem :
    {bs s s₁ s₂ : List ℕ} {tables tables₁ tables' : Tables} {n p c r request body parent ek : ℕ} {named : Subject}
    → IssuesIak bs s tables n p c r → request ≡ (view s).request c → body ≡ left_of (file_in bs) request → parent ≡ idevid_certificate (file_in bs) body → named ≡ subject (file_in bs) body → ek ≡ certified_key (file_in bs) parent
    → Learns bs s s₁ p r → view s₂ ≡ with_mark (view s₁) (put (view s₁).mark c credential_closed) → Appends tables n r 1 ek tables₁
    → tables_in tables' ≡ linked_by (tables_in tables₁) n named
    → (other : ℕ) → DeskLeaves bs s tables n (issue_iak p other c r) s₂ tables' (record { certificate = r; parent = parent; depth = 1 } ∷ [])
unfolding effect_of issue_iak_effect entered closing ek_certificate_of request_body end_ek
iak_issued_lem {bs} {s} {s₁} {s₂} {tables} {tables₁} {tables'} {n = n} {p} {c} {r} {request} {body} {parent} {ek} {named} i q b e u x w m a k other =
    let f = file_in bs in
    let above : parent ≡ ek_certificate_of f ((view s).request c) = e ∙ ap (idevid_certificate f) (b ∙ ap (left_of f) q) in
    let next : ℕ → Entry = λ t. record { certificate = r; parent = t; depth = 1 } in
    record {
      on = λ old on.
          let h = on.ledgered.enters in
          let inv = on.ledgered.sound in
          let v = on.ledgered.boards in
          let fresh = iak_new_lem f (state_of (view s) old) p other c r on.accepted in
          let z = inv.opened c i.wellformed.2 (iak_open f (state_of (view s) old) p other c r on.accepted) in
          let d = device_subject_lem _ z.device_subject in
          let own : subject f (request_body f ((view s).request c)) ≡ subject f body = ap (subject f) (sym (b ∙ ap (left_of f) q)) in
          let new : listed old r ≡ true → ⊥ = λ t. false≢true (sym fresh ∙ t) in
          let known = iak_subject_lem f (state_of (view s) old) p other c r on.accepted ∙ d.1 in
          record {
            columns =
                ap (λ (v : Columns). state_of v (old ++ (next parent ∷ []))) m
                ∙ ap (λ (x : State). entered (closing x c) (next parent)) (w.columns old)
                ∙ ap (λ (t : ℕ). entered (closing (learnt f (state_of (view s) old) p r) c) (next t)) above;
            enters = enters_linked tables₁ tables' n named k (subst⁻¹ (λ (v : Boards). Falls v n) a.boards (falls_ek _ _ n h.falls)) (a.enters old (next parent) refl refl h i.accepts.more fresh);
            boards =
                iak_boarded f tables tables₁ tables' {l = old} (next parent) n d.0 x a.boards (k ∙ ap (linked_by (tables_in tables₁) n) (u ∙ sym own ∙ d.1)) v
                (boarded_linked f old inv.once (descends f (state_of (view s) old) inv) (tables_in tables).boards v (next parent) new n (ledger_length r h) h.falls d.0 known refl)
                (λ q. boarded_known f old inv.once (descends f (state_of (view s) old) inv) (tables_in tables).boards v (next parent) new n (ledger_length r h) (certified_key f parent) d.0 (ap (certified_key f) (sym (new_one old (next parent) new refl))) known q);
          };
      places = ap (λ (v : Columns). v.place) m ∙ w.places;
      keys = keys_linked tables₁ tables' n named k a.keys;
    }

pub request_issued :
    {bs s s₁ : List ℕ} {tables tables' : Tables} {n p q r body parent depth ek : ℕ} → IssuesOnRequest bs s tables n p q r → body ≡ left_of (file_in bs) q → parent ≡ ldevid_certificate (file_in bs) body
    → depth ≡ (tables_in tables).depth parent
    → ek ≡ (tables_in tables).boards.ek ((tables_in tables).entry parent - 1)
    → Learns bs s s₁ p r → Appends tables n r (depth + 1) ek tables'
    → (family : Family) → DeskLeaves bs s tables n (issue family p q r) s₁ tables' (record { certificate = r; parent = parent; depth = depth + 1 } ∷ [])
unfolding effect_of issue_effect entered parent_certificate_of request_body
request_issued {bs} {s} {tables = tables} {n = n} {p} {q} {r} {body} {parent} {depth} {ek} i b e d x w a family =
    let f = file_in bs in
    let above : parent ≡ parent_certificate_of f q = e ∙ ap (ldevid_certificate f) b in
    let next : ℕ → ℕ → Entry = λ t m. record { certificate = r; parent = t; depth = m + 1 } in
    record {
      on = λ old on.
          let h = on.ledgered.enters in
          let inv = on.ledgered.sound in
          let v = on.ledgered.boards in
          let passed = request_new f (state_of (view s) old) family p q r on.accepted in
          let deep : depth ≡ depth_of old parent = d ∙ h.depth parent in
          let g = entry_listed parent h (subst⁻¹ (λ (t : ℕ). 0 < (tables_in tables).entry t) (e ∙ ap (ldevid_certificate f) b) (parent_place i).0) in
          record {
            columns =
                ap (λ (x : State). entered x (next parent depth)) (w.columns old)
                ∙ ap (λ (m : ℕ). entered (learnt f (state_of (view s) old) p r) (next parent m)) deep
                ∙ ap (λ (t : ℕ). entered (learnt f (state_of (view s) old) p r) (next t (depth_of old t))) above;
            enters = a.enters old (next parent depth) refl refl h i.accepts.more passed.new;
            boards =
                subst⁻¹ (λ (y : Boards). Boarded f y (old ++ (next parent depth ∷ [])))
                (a.boards ∙ ap (λ (y : ℕ). with_ek (tables_in tables).boards (put (tables_in tables).boards.ek n y)) x)
                (boarded_below f old inv.once (descends f (state_of (view s) old) inv) (tables_in tables).boards v (next parent depth) (λ t. false≢true (sym passed.new ∙ t)) n (ledger_length r h)
                ((tables_in tables).entry parent - 1) g.0 g.1 g.2
                (let l = g.3 in omega (arith, deep))
                (passed.named ∙ ap (subject f) (sym (e ∙ ap (ldevid_certificate f) b) ∙ sym g.2)));
          };
      places = w.places;
      keys = a.keys;
    }
