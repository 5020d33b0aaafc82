-- The description of the file declared so far holds of the empty file, and of a file with one record more.
--     described_empty      no record
--     described_next       one record more
--     enter_ready          what entering a record needs
--     learnt_declared      a term that a 20 teaches is declared
-- Assumes nothing.
use mathlib.Core.Path.{◌≡◌, refl, sym, ap, subst, subst⁻¹, ◌∙◌}
use mathlib.Core.Bool.{Bool, true, false, cond, ◌&&◌, ◌||◌}
use mathlib.Core.Logic.{inl, inr}
use mathlib.Core.List.{List, [], ◌∷◌, ◌++◌, Memᴰ}
use Prim.Native.Nat.{ℕ, suc, ◌+◌, ◌*◌, ◌<◌, ◌≤◌}
use native.Mathlib.Omega.{arith}
use native.Mathlib.Decide.{dec_lt}
use lib.Dec.{eqb, leb}
use lib.ListN.{get_or, length, drop, replicate, length-append, get_or-append}
use lib.Seq.{get_or_at, get_or-take, get_or-drop}
use borrow.Author.Tests.{eqb-true, eqb-false, eq-eqb, ne_eqb, ltb-true, leb-true}
use Rattle.rules.specs.declared.Term.{Term}
use Rattle.rules.specs.declared.Term.TheVariants.{Hash}
use Rattle.rules.specs.Limits.{file_limit, party_limit, term_limit, row_width, state_bytes, role_count}
use Rattle.rules.specs.Term.{hash_kind, fields_in, parts_of, names_of}
use Rattle.rules.specs.Record.{last_kind, width, widths, fields_of, section_of, body_length, word, party_section, term_section, setup_section, command_section}
use Rattle.rules.specs.File.{File, Setup, learns, holds, signs_with, Command, term, parts, names, role_of, holds_key, some_setup, is_hold}
use Rattle.rules.specs.Load.{term_at, setup_at, command_at, section_fault, count_fault, fields_fault, record_fault, with_party, with_term, with_setup, with_command, enter, empty_file}
use Rattle.rules.specs.Learning.{grant, opened, learn}
use Rattle.rules.specs.State.{nothing, taught, put}
use Rattle.theorems.proofs.Loading.{Good, Checked, good_checked, entered}
use Rattle.theorems.proofs.LoadingFields.{first_zero, refuse_zero, passed, AllPassed, Each, within}
use Rattle.theorems.proofs.LoadingFields as fields
use Rattle.theorems.proofs.LoadingSetup.{Learnable}
use Rattle.theorems.proofs.Pieces.{body_at, body_length_lem}
use Rattle.theorems.proofs.Terms.{declared}
use Rattle.tables.specs.declared.columns.Tables.{Tables}
use Rattle.tables.specs.Columns.{tables_in}
use Rattle.state.specs.View.{Columns, view, with_knows, with_table, with_place}
use Rattle.state.proofs.Exact.{view_zero}
use Rattle.learning.specs.There.{kind_there, term_there, TermRecord, parts_there, learn_there}
use Rattle.learning.proofs.Opening.{opened_same}
use Rattle.checks.specs.There.{role_there, TermsThere}
use Rattle.setup.specs.Allowed.{setup_leaves, signers_leave}
use Rattle.scan.specs.declared.Tally.{Tally}
use Rattle.scan.specs.Describes.{signer_of, Describes, counted, columns_after, signers_after, EnterReady, ScanReady}

eqb_swap : (a b : ℕ) → eqb a b ≡ eqb b a
eqb_swap a b = go (eqb a b) refl
  where
    go : (t : Bool) → eqb a b ≡ t → eqb a b ≡ eqb b a
    go true e = e ∙ sym (eq-eqb b a (sym (eqb-true a b e)))
    go false e = e ∙ sym (ne_eqb b a (λ h. eqb-false a b e (sym h)))

-- a file with the same terms teaches the same
taught_parts : (f f' : File) → parts f ≡ parts f' → (xs : List Setup) → taught f xs ≡ taught f' xs
unfolding taught learn
taught_parts f f' e [] = refl
taught_parts f f' e (learns q u ∷ xs) = λ i. opened (e i) q (suc u) u (taught_parts f f' e xs i)
taught_parts f f' e (holds q k ∷ xs) = taught_parts f f' e xs
taught_parts f f' e (signs_with q k ∷ xs) = taught_parts f f' e xs

-- so does one with the same terms as far as they are taught
taught_same : (f f' : File) (m : ℕ) → ((u : ℕ) → u < m → parts f u ≡ parts f' u) → ((u v : ℕ) → Memᴰ v (parts f u) → v < u)
    → (xs : List Setup) → ((p t : ℕ) → Memᴰ (learns p t) xs → t < m) → taught f xs ≡ taught f' xs
unfolding taught learn
taught_same f f' m same low [] h = refl
taught_same f f' m same low (learns q u ∷ xs) h =
    opened_same (parts f) (parts f') m same (λ t v l. low t v) q (suc u) u (h q u (Memᴰ.head refl)) (taught f xs)
    ∙ ap (opened (parts f') q (suc u) u) (taught_same f f' m same low xs (λ p t i. h p t (Memᴰ.tail i)))
taught_same f f' m same low (holds q k ∷ xs) h = taught_same f f' m same low xs (λ p t i. h p t (Memᴰ.tail i))
taught_same f f' m same low (signs_with q k ∷ xs) h = taught_same f f' m same low xs (λ p t i. h p t (Memᴰ.tail i))

-- a term that a 20 teaches is declared
pub learnt_declared : (f : File) → Checked f → (p t : ℕ) → Memᴰ (learns p t) f.setup → t < length f.terms
learnt_declared f c p t m = go (c.learns_allowed p t m)
  where
    go : Learnable f t → t < length f.terms
    go (inl e) = declared f t (λ h. omega arith)
    go (inr (inl e)) = declared f t (λ h. omega arith)
    go (inr (inr w)) = let e = w.0 in declared f t (λ h. omega arith)

-- no record
empty_of : (m : ℕ) (bs s : List ℕ) (signers : ℕ → ℕ) → s ≡ replicate m 0 → length s ≡ m → row_width * term_limit ≤ m → ((p : ℕ) → p < party_limit → signers p ≡ 0)
    → Describes empty_file bs s signers (record { section = 0; parties = 0; terms = 0; commands = 0 }) 0
unfolding empty_file taught nothing holds_key some_setup signer_of
empty_of m bs s signers clear l room unsigned =
    let v = ap (λ (x : List ℕ). view x) clear ∙ view_zero m in
    record {
      section_is = refl;
      parties_are = refl;
      terms_are = refl;
      commands_are = refl;
      places_are = refl;
      few_parties = (omega arith);
      parties_whole = (omega arith);
      parties_first = λ h. refl;
      role = λ p h. absurd (omega arith);
      there = record { few = (omega arith); room = (omega arith); whole = λ t h. absurd (omega arith); lower = λ t u h. absurd (omega arith); hashed = λ t h. absurd (omega arith) };
      term_is = λ t h. absurd (omega arith);
      place = λ t h. absurd (omega arith);
      place_beyond = λ t h. ap (λ (c : Columns). c.place t) v;
      knows = ap (λ (c : Columns). c.knows) v;
      table = ap (λ (c : Columns). c.table) v;
      signer = unsigned;
      mark = λ t. ap (λ (c : Columns). c.mark t) v;
      desk = λ t. ap (λ (c : Columns). c.desk t) v;
      request = λ t. ap (λ (c : Columns). c.request t) v;
    }

pub described_empty : (bs s : List ℕ) (tables : Tables) → ScanReady bs s tables → Describes empty_file bs s (tables_in tables).signer (record { section = 0; parties = 0; terms = 0; commands = 0 }) 0
described_empty bs s tables r = empty_of state_bytes bs s (tables_in tables).signer r.clear r.room (omega arith) r.unsigned

-- what the columns say of the terms is kept where the places are
there_kept : (bs s s' : List ℕ) (n : ℕ) → length s' ≡ length s → (view s).place ≡ (view s').place → TermsThere bs s n → TermsThere bs s' n
unfolding parts_there
there_kept bs s s' n l e d = record {
  few = d.few;
  room = (omega (arith, d.room));
  whole = λ t h. subst (λ (c : ℕ → ℕ). TermRecord bs (c t)) e (d.whole t h);
  lower = λ t u h m. d.lower t u h (subst⁻¹ (λ (c : ℕ → ℕ). Memᴰ u (parts_there bs c t)) e m);
  hashed = λ t h. subst (λ (c : ℕ → ℕ). kind_there bs (c t) ≡ hash_kind → get_or (fields_in (term_there bs (c t))) 0 0 < t) e (d.hashed t h);
}

-- the columns but knows and table
record Steady (v w : Columns) : Type 0 where
  place : v.place ≡ w.place
  mark : v.mark ≡ w.mark
  desk : v.desk ≡ w.desk
  request : v.request ≡ w.request

-- a record that declares no term
module _ (f f' : File) (bs s s' : List ℕ) (signers signers' : ℕ → ℕ) (n n' : Tally) (at at' : ℕ) (d : Describes f bs s signers n at)
    (terms : f.terms ≡ f'.terms) (places : f.places ≡ f'.places) (count : n'.terms ≡ n.terms)
    (size : length s' ≡ length s) (same : Steady (view s) (view s')) where
  steady : f'.section ≡ n'.section → length f'.roles ≡ n'.parties → length f'.commands ≡ n'.commands → n'.parties ≤ party_limit → 2 * n'.parties ≤ at'
      → (n'.section ≤ party_section → at' ≡ 2 * n'.parties)
      → ((p : ℕ) → p < n'.parties → role_there bs p ≡ role_of f' p)
      → (view s').knows ≡ taught f' f'.setup → (view s').table ≡ holds_key f'
      → ((p : ℕ) → p < party_limit → signers' p ≡ signer_of f'.setup p)
      → Describes f' bs s' signers' n' at'
  unfolding term
  steady section parties commands few whole first role knows table signer = record {
    section_is = section;
    parties_are = parties;
    terms_are = ap (λ (ts : List Term). length ts) (sym terms) ∙ d.terms_are ∙ sym count;
    commands_are = commands;
    places_are = ap (λ (ts : List ℕ). length ts) (sym places) ∙ d.places_are ∙ sym count;
    few_parties = few;
    parties_whole = whole;
    parties_first = first;
    role = role;
    there = subst⁻¹ (TermsThere bs s') count (there_kept bs s s' n.terms size same.place d.there);
    term_is = λ t h. ap (λ (c : ℕ → ℕ). term_there bs (c t)) (sym same.place) ∙ d.term_is t (omega arith) ∙ ap (λ (ts : List Term). get_or ts t (Hash 0)) terms;
    place = λ t h. ap (λ (c : ℕ → ℕ). c t) (sym same.place) ∙ d.place t (omega arith) ∙ ap (λ (ts : List ℕ). get_or ts t 0) places;
    place_beyond = λ t h. ap (λ (c : ℕ → ℕ). c t) (sym same.place) ∙ d.place_beyond t (omega arith);
    knows = knows;
    table = table;
    signer = signer;
    mark = λ t. ap (λ (c : ℕ → ℕ). c t) (sym same.mark) ∙ d.mark t;
    desk = λ t. ap (λ (c : ℕ → ℕ). c t) (sym same.desk) ∙ d.desk t;
    request = λ t. ap (λ (c : ℕ → ℕ). c t) (sym same.request) ∙ d.request t;
  }

-- the first byte of a body
body_first : (bs : List ℕ) (at : ℕ) → 0 < body_length (get_or bs at 0) → get_or (body_at bs at) 0 0 ≡ get_or bs (at + 1) 0
unfolding body_at
body_first bs at h = get_or-take (body_length (get_or bs at 0)) (drop (at + 1) bs) 0 0 h ∙ get_or-drop (at + 1) bs 0 0 ∙ ap (λ (i : ℕ). get_or bs i 0) (omega arith)

party_body : (k : ℕ) → section_of k ≡ party_section → body_length k ≡ 1
unfolding body_length fields_of widths width
party_body k e = rw e refl

steady_of : (v w w' : Columns) → w ≡ w' → Steady v w' → Steady v w
steady_of v w w' e h = subst⁻¹ (Steady v) e h

steady_refl : (v : Columns) → Steady v v
steady_refl v = record { place = refl; mark = refl; desk = refl; request = refl }

module _ (f : File) (bs s s' : List ℕ) (signers signers' : ℕ → ℕ) (n : Tally) (at k : ℕ) (d : Describes f bs s signers n at) (size : length s' ≡ length s) where
  -- a record at a place after all the parties
  after : 2 * n.parties ≤ at + 1 + body_length k
  after = omega (arith, d.parties_whole)

  signer_kept : signers' ≡ signers → (p : ℕ) → p < party_limit → signers' p ≡ signer_of f.setup p
  signer_kept e p h = ap (λ (l : ℕ → ℕ). l p) e ∙ d.signer p h

  party_next : (role : ℕ) → section_of k ≡ party_section → f.section ≤ party_section → Checked (with_party f role) → get_or bs (at + 1) 0 ≡ role → view s' ≡ view s → signers' ≡ signers
      → Describes (with_party f role) bs s' signers' (record { section = section_of k; parties = n.parties + 1; terms = n.terms; commands = n.commands }) (at + 1 + body_length k)
  unfolding with_party parts term holds_key role_of
  party_next role e o c r v g =
      let first : at ≡ 2 * n.parties = d.parties_first (subst (λ (x : ℕ). x ≤ party_section) d.section_is o) in
      let b = party_body k e in
      let m = length-append f.roles (role ∷ []) in
      let a = d.parties_are in
      let few = c.parties in
      steady f (with_party f role) bs s s' signers signers' n (record { section = section_of k; parties = n.parties + 1; terms = n.terms; commands = n.commands }) at (at + 1 + body_length k) d refl refl refl size
      (steady_of (view s) (view s') (view s) v (steady_refl (view s)))
      (sym e) (omega arith) d.commands_are (omega arith) (omega arith) (λ h. omega arith)
      (λ p h. role_go first a p h (dec_lt p n.parties))
      (ap (λ (x : Columns). x.knows) v ∙ d.knows ∙ taught_parts f (with_party f role) refl f.setup)
      (ap (λ (x : Columns). x.table) v ∙ d.table)
      (signer_kept g)
    where
      role_go : at ≡ 2 * n.parties → length f.roles ≡ n.parties → (p : ℕ) → p < n.parties + 1 → Dec (p < n.parties) → get_or bs (2 * p + 1) 0 ≡ get_or (f.roles ++ (role ∷ [])) p role_count
      role_go first a p h (yes l) = d.role p l ∙ sym (get_or-append f.roles (role ∷ []) role_count p (omega arith))
      role_go first a p h (no l) =
          let i : 2 * p + 1 ≡ at + 1 = omega arith in
          ap (λ (x : ℕ). get_or bs x 0) i ∙ r ∙ sym (get_or_at f.roles role [] role_count p (omega arith))

  command_next : (x : Command) → section_of k ≡ command_section → view s' ≡ view s → signers' ≡ signers
      → Describes (with_command f (section_of k) x) bs s' signers' (record { section = section_of k; parties = n.parties; terms = n.terms; commands = n.commands + 1 }) (at + 1 + body_length k)
  unfolding with_command parts term holds_key role_of
  command_next x e v g =
      let m = d.commands_are in
      steady f (with_command f (section_of k) x) bs s s' signers signers' n (record { section = section_of k; parties = n.parties; terms = n.terms; commands = n.commands + 1 }) at (at + 1 + body_length k) d refl refl refl size
      (steady_of (view s) (view s') (view s) v (steady_refl (view s)))
      refl d.parties_are (omega arith) d.few_parties after (λ h. absurd (omega arith))
      d.role
      (ap (λ (x : Columns). x.knows) v ∙ d.knows ∙ taught_parts f (with_command f (section_of k) x) refl f.setup)
      (ap (λ (x : Columns). x.table) v ∙ d.table)
      (signer_kept g)

  -- the counts with one set-up record more
  abbrev setup_counted : Tally
  setup_counted = record { section = section_of k; parties = n.parties; terms = n.terms; commands = n.commands }

  setup_steady : (x : Setup) → section_of k ≡ setup_section → Steady (view s) (view s')
      → (view s').knows ≡ taught (with_setup f x) (x ∷ f.setup) → (view s').table ≡ holds_key (with_setup f x)
      → ((p : ℕ) → p < party_limit → signers' p ≡ signer_of (x ∷ f.setup) p)
      → Describes (with_setup f x) bs s' signers' setup_counted (at + 1 + body_length k)
  unfolding with_setup role_of
  setup_steady x e same knows table signer =
      steady f (with_setup f x) bs s s' signers signers' n setup_counted at (at + 1 + body_length k) d refl refl refl size same
      (sym e) d.parties_are d.commands_are d.few_parties after (λ h. absurd (omega arith))
      d.role knows table signer

  learns_next : (p t : ℕ) → section_of k ≡ setup_section → Checked (with_setup f (learns p t)) → view s' ≡ setup_leaves bs (view s) (learns p t) → signers' ≡ signers
      → Describes (with_setup f (learns p t)) bs s' signers' setup_counted (at + 1 + body_length k)
  unfolding with_setup setup_leaves learn_there parts_there taught learn parts term holds_key some_setup is_hold signer_of
  learns_next p t e c v g =
      let l : t < length f.terms = learnt_declared (with_setup f (learns p t)) c p t (Memᴰ.head refl) in
      let a = d.terms_are in
      setup_steady (learns p t) e
      (steady_of (view s) (view s') (with_knows (view s) (learn_there bs (view s).place p t (view s).knows)) v (record { place = refl; mark = refl; desk = refl; request = refl }))
      (ap (λ (x : Columns). x.knows) v
      ∙ opened_same (parts_there bs (view s).place) (parts f) n.terms (λ u h. ap parts_of (d.term_is u h)) d.there.lower p (suc t) t (omega arith) (view s).knows
      ∙ ap (opened (parts f) p (suc t) t) (d.knows ∙ taught_parts f (with_setup f (learns p t)) refl f.setup))
      (ap (λ (x : Columns). x.table) v ∙ d.table)
      (signer_kept g)

  holds_next : (p j : ℕ) → section_of k ≡ setup_section → view s' ≡ setup_leaves bs (view s) (holds p j) → signers' ≡ signers
      → Describes (with_setup f (holds p j)) bs s' signers' setup_counted (at + 1 + body_length k)
  unfolding with_setup setup_leaves taught parts term holds_key some_setup is_hold signer_of grant
  holds_next p j e v g =
      setup_steady (holds p j) e
      (steady_of (view s) (view s') (with_table (view s) (grant (view s).table p j)) v (record { place = refl; mark = refl; desk = refl; request = refl }))
      (ap (λ (x : Columns). x.knows) v ∙ d.knows ∙ taught_parts f (with_setup f (holds p j)) refl f.setup)
      (ap (λ (x : Columns). x.table) v ∙ (λ i q u. (eqb_swap q p i && eqb_swap u j i) || d.table i q u))
      (signer_kept g)

  signs_next : (p j : ℕ) → section_of k ≡ setup_section → view s' ≡ setup_leaves bs (view s) (signs_with p j) → signers' ≡ put signers p (j + 1)
      → Describes (with_setup f (signs_with p j)) bs s' signers' setup_counted (at + 1 + body_length k)
  unfolding with_setup setup_leaves taught parts term holds_key some_setup is_hold signer_of put
  signs_next p j e v g =
      setup_steady (signs_with p j) e
      (steady_of (view s) (view s') (view s) v (steady_refl (view s)))
      (ap (λ (x : Columns). x.knows) v ∙ d.knows ∙ taught_parts f (with_setup f (signs_with p j)) refl f.setup)
      (ap (λ (x : Columns). x.table) v ∙ d.table)
      (λ q h. ap (λ (l : ℕ → ℕ). l q) g ∙ rw (eqb_swap q p) (ap (cond (eqb p q) (j + 1)) (d.signer q h)))

  setup_next : (x : Setup) → section_of k ≡ setup_section → Checked (with_setup f x) → view s' ≡ setup_leaves bs (view s) x → signers' ≡ signers_leave signers x
      → Describes (with_setup f x) bs s' signers' setup_counted (at + 1 + body_length k)
  unfolding signers_leave
  setup_next (learns p t) e c v g = learns_next p t e c v g
  setup_next (holds p j) e c v g = holds_next p j e v g
  setup_next (signs_with p j) e c v g = signs_next p j e v g

put_same : (c : ℕ → ℕ) (t x u : ℕ) → u ≡ t → put c t x u ≡ x
unfolding put
put_same c t x u e = rw (eq-eqb u t e) refl

put_other : (c : ℕ → ℕ) (t x u : ℕ) → (u ≡ t → ⊥) → put c t x u ≡ c u
unfolding put
put_other c t x u e = rw (ne_eqb u t e) refl

-- what a hash is of is among the terms that it names
hash_names : (bs : List ℕ) (at : ℕ) → kind_there bs at ≡ hash_kind → Memᴰ (get_or (fields_in (term_there bs at)) 0 0) (names_of (term_there bs at))
unfolding term_there term_at fields_in names_of
hash_names bs at e = rw e (Memᴰ.head refl)

-- a term record
module _ (f : File) (bs s s' : List ℕ) (signers signers' : ℕ → ℕ) (n : Tally) (at : ℕ) (d : Describes f bs s signers n at) (size : length s' ≡ length s)
    (first : at < length bs) (is_term : section_of (get_or bs at 0) ≡ term_section) (rest : at + 1 + body_length (get_or bs at 0) ≤ length bs)
    (c : Checked f) (c' : Checked (with_term f (term_at (get_or bs at 0) (body_at bs at)) at))
    (v : view s' ≡ with_place (view s) (put (view s).place n.terms at)) where
  abbrev made : Term
  made = term_at (get_or bs at 0) (body_at bs at)

  abbrev after_term : File
  after_term = with_term f made at

  place_before : (t : ℕ) → t < n.terms → (view s').place t ≡ (view s).place t
  place_before t h = ap (λ (x : Columns). x.place t) v ∙ put_other (view s).place n.terms at t (omega arith)

  place_last : (t : ℕ) → t ≡ n.terms → (view s').place t ≡ at
  place_last t h = ap (λ (x : Columns). x.place t) v ∙ put_same (view s).place n.terms at t h

  term_before : (t : ℕ) → t < n.terms → term f t ≡ term after_term t
  unfolding term with_term
  term_before t h = sym (get_or-append f.terms (made ∷ []) (Hash 0) t (omega (arith, d.terms_are)))

  whole_go : (t : ℕ) → t < n.terms + 1 → Dec (t < n.terms) → TermRecord bs ((view s').place t)
  whole_go t h (yes l) = subst⁻¹ (TermRecord bs) (place_before t l) (d.there.whole t l)
  whole_go t h (no l) = subst⁻¹ (TermRecord bs) (place_last t (omega arith)) (record { first = first; is_term = is_term; rest = rest })

  term_go : (t : ℕ) → t < n.terms + 1 → Dec (t < n.terms) → term_there bs ((view s').place t) ≡ term after_term t
  unfolding term with_term term_there body_at
  term_go t h (yes l) = ap (term_there bs) (place_before t l) ∙ d.term_is t l ∙ term_before t l
  term_go t h (no l) = ap (term_there bs) (place_last t (omega arith)) ∙ sym (get_or_at f.terms made [] (Hash 0) t (omega (arith, d.terms_are)))

  place_go : (t : ℕ) → t < n.terms + 1 → Dec (t < n.terms) → (view s').place t ≡ get_or (f.places ++ (at ∷ [])) t 0
  place_go t h (yes l) = place_before t l ∙ d.place t l ∙ sym (get_or-append f.places (at ∷ []) 0 t (omega (arith, d.places_are)))
  place_go t h (no l) = place_last t (omega arith) ∙ sym (get_or_at f.places at [] 0 t (omega (arith, d.places_are)))

  term_is_lem : (t : ℕ) → t < n.terms + 1 → term_there bs ((view s').place t) ≡ term after_term t
  term_is_lem t h = term_go t h (dec_lt t n.terms)

  more_terms : length (f.terms ++ (made ∷ [])) ≡ n.terms + 1
  more_terms = length-append f.terms (made ∷ []) ∙ ap (λ (x : ℕ). x + 1) d.terms_are

  few_terms_lem : n.terms + 1 ≤ term_limit
  unfolding with_term
  few_terms_lem = subst (λ (x : ℕ). x ≤ term_limit) more_terms c'.few_terms

  there_next : TermsThere bs s' (n.terms + 1)
  unfolding parts_there parts names with_term
  there_next = record {
    few = few_terms_lem;
    room = (omega (arith, d.there.room));
    whole = λ t h. whole_go t h (dec_lt t n.terms);
    lower = λ t u h m. c'.lower t u (subst (λ (x : Term). Memᴰ u (parts_of x)) (term_is_lem t h) m);
    hashed = λ t h k. subst⁻¹ (λ (x : Term). get_or (fields_in x) 0 0 < t) (term_is_lem t h) (c'.names_lower t _ (rw more_terms (omega arith)) (subst (λ (x : Term). Memᴰ (get_or (fields_in x) 0 0) (names_of x)) (term_is_lem t h) (hash_names bs ((view s').place t) k)));
  }

  knows_next : (view s').knows ≡ taught after_term f.setup
  unfolding parts
  knows_next =
      ap (λ (x : Columns). x.knows) v ∙ d.knows
      ∙ taught_same f after_term n.terms (λ u h. ap parts_of (term_before u h)) c.lower f.setup (λ p t m. subst (λ (x : ℕ). t < x) d.terms_are (learnt_declared f c p t m))

  term_next : signers' ≡ signers
      → Describes after_term bs s' signers' (record { section = section_of (get_or bs at 0); parties = n.parties; terms = n.terms + 1; commands = n.commands }) (at + 1 + body_length (get_or bs at 0))
  unfolding with_term holds_key role_of
  term_next g = record {
    section_is = sym is_term;
    parties_are = d.parties_are;
    terms_are = more_terms;
    commands_are = d.commands_are;
    places_are = length-append f.places (at ∷ []) ∙ ap (λ (x : ℕ). x + 1) d.places_are;
    few_parties = d.few_parties;
    parties_whole = (omega (arith, d.parties_whole));
    parties_first = λ h. absurd (omega (arith, is_term));
    role = d.role;
    there = there_next;
    term_is = term_is_lem;
    place = λ t h. place_go t h (dec_lt t n.terms);
    place_beyond = λ t h. ap (λ (x : Columns). x.place t) v ∙ put_other (view s).place n.terms at t (omega arith) ∙ d.place_beyond t (omega arith);
    knows = knows_next;
    table = ap (λ (x : Columns). x.table) v ∙ d.table;
    signer = λ p h. ap (λ (l : ℕ → ℕ). l p) g ∙ d.signer p h;
    mark = λ t. ap (λ (x : Columns). x.mark t) v ∙ d.mark t;
    desk = λ t. ap (λ (x : Columns). x.desk t) v ∙ d.desk t;
    request = λ t. ap (λ (x : Columns). x.request t) v ∙ d.request t;
  }

-- sections are at most that of commands
section_go : (a b c d : Bool) → cond a 1 (cond b 2 (cond c 3 (cond d 4 0))) ≤ 4
section_go true b c d = omega arith
section_go false true c d = omega arith
section_go false false true d = omega arith
section_go false false false true = omega arith
section_go false false false false = omega arith

last_section : (k : ℕ) → section_of k ≤ command_section
unfolding section_of
last_section k = section_go (eqb k 1) (leb 0x10 k && leb k 0x1C) (leb 0x20 k && leb k 0x22) (leb 0x30 k && leb k last_kind)

section_right : (f : File) (k : ℕ) → section_fault f k ≡ 0 → f.section ≤ section_of k
unfolding section_fault
section_right f k e = leb-true f.section (section_of k) (refuse_zero 5 (leb f.section (section_of k)) (omega arith) e)

in_order_lem : (f : File) (k : ℕ) (body : List ℕ) → record_fault f k body ≡ 0 → f.section ≤ section_of k
unfolding record_fault
in_order_lem f k body e = section_right f k (first_zero _ _ e).0

module _ (f : File) (bs s s' : List ℕ) (signers signers' : ℕ → ℕ) (n : Tally) (at : ℕ) (d : Describes f bs s signers n at) (g : Good f) (first : at < length bs)
    (known : 0 < section_of (get_or bs at 0)) (rest : at + 1 + body_length (get_or bs at 0) ≤ length bs)
    (size : length s' ≡ length s) (order : f.section ≤ section_of (get_or bs at 0)) where
  next_go : (a b c : Bool) → eqb (section_of (get_or bs at 0)) party_section ≡ a → eqb (section_of (get_or bs at 0)) term_section ≡ b → eqb (section_of (get_or bs at 0)) setup_section ≡ c
      → Checked (cond a (with_party f (get_or (body_at bs at) 0 0)) (cond b (with_term f (term_at (get_or bs at 0) (body_at bs at)) at) (cond c (with_setup f (setup_at (get_or bs at 0) (body_at bs at))) (with_command f (section_of (get_or bs at 0)) (command_at (get_or bs at 0) (body_at bs at))))))
      → view s' ≡ cond b (with_place (view s) (put (view s).place n.terms at)) (cond c (setup_leaves bs (view s) (setup_at (get_or bs at 0) (body_at bs at))) (view s))
      → signers' ≡ cond c (signers_leave signers (setup_at (get_or bs at 0) (body_at bs at))) signers
      → Describes (cond a (with_party f (get_or (body_at bs at) 0 0)) (cond b (with_term f (term_at (get_or bs at 0) (body_at bs at)) at) (cond c (with_setup f (setup_at (get_or bs at 0) (body_at bs at))) (with_command f (section_of (get_or bs at 0)) (command_at (get_or bs at 0) (body_at bs at)))))) bs s' signers'
      (cond a (record { section = section_of (get_or bs at 0); parties = n.parties + 1; terms = n.terms; commands = n.commands })
      (cond b (record { section = section_of (get_or bs at 0); parties = n.parties; terms = n.terms + 1; commands = n.commands })
      (cond c (record { section = section_of (get_or bs at 0); parties = n.parties; terms = n.terms; commands = n.commands })
      (record { section = section_of (get_or bs at 0); parties = n.parties; terms = n.terms; commands = n.commands + 1 }))))
      (at + 1 + body_length (get_or bs at 0))
  next_go true true c p q r h v w = absurd (omega (arith, eqb-true (section_of (get_or bs at 0)) party_section p, eqb-true (section_of (get_or bs at 0)) term_section q))
  next_go true false true p q r h v w = absurd (omega (arith, eqb-true (section_of (get_or bs at 0)) party_section p, eqb-true (section_of (get_or bs at 0)) setup_section r))
  next_go true false false p q r h v w =
      let e = eqb-true (section_of (get_or bs at 0)) party_section p in
      let b = party_body (get_or bs at 0) e in
      party_next f bs s s' signers signers' n at (get_or bs at 0) d size (get_or (body_at bs at) 0 0) e (omega arith) h (sym (body_first bs at (omega arith))) v w
  next_go false true true p q r h v w = absurd (omega (arith, eqb-true (section_of (get_or bs at 0)) term_section q, eqb-true (section_of (get_or bs at 0)) setup_section r))
  next_go false true false p q r h v w =
      term_next f bs s s' signers signers' n at d size first (eqb-true (section_of (get_or bs at 0)) term_section q) rest (good_checked f g) h v w
  next_go false false true p q r h v w =
      setup_next f bs s s' signers signers' n at (get_or bs at 0) d size (setup_at (get_or bs at 0) (body_at bs at)) (eqb-true (section_of (get_or bs at 0)) setup_section r) h v w
  next_go false false false p q r h v w =
      let x = eqb-false (section_of (get_or bs at 0)) party_section p in
      let y = eqb-false (section_of (get_or bs at 0)) term_section q in
      let z = eqb-false (section_of (get_or bs at 0)) setup_section r in
      let l = last_section (get_or bs at 0) in
      command_next f bs s s' signers signers' n at (get_or bs at 0) d size (command_at (get_or bs at 0) (body_at bs at)) (omega arith) v w

-- one record more
pub described_next : (f : File) (bs s s' : List ℕ) (signers signers' : ℕ → ℕ) (n : Tally) (at : ℕ) → Describes f bs s signers n at → Good f → at < length bs → length bs ≤ file_limit
    → 0 < section_of (get_or bs at 0) → at + 1 + body_length (get_or bs at 0) ≤ length bs
    → record_fault f (get_or bs at 0) (body_at bs at) ≡ 0
    → length s' ≡ length s
    → view s' ≡ columns_after bs (view s) n (get_or bs at 0) (body_at bs at) at
    → signers' ≡ signers_after signers (get_or bs at 0) (body_at bs at)
    → Describes (enter f at (get_or bs at 0) (body_at bs at)) bs s' signers' (counted (section_of (get_or bs at 0)) n) (at + 1 + body_length (get_or bs at 0))
unfolding enter counted columns_after signers_after
described_next f bs s s' signers signers' n at d g first short known rest none size v w =
    next_go f bs s s' signers signers' n at d g first known rest size (in_order_lem f (get_or bs at 0) (body_at bs at) none)
    (eqb (section_of (get_or bs at 0)) party_section) (eqb (section_of (get_or bs at 0)) term_section) (eqb (section_of (get_or bs at 0)) setup_section) refl refl refl
    (good_checked (enter f at (get_or bs at 0) (body_at bs at)) (entered f at (get_or bs at 0) (body_at bs at) g known none)) v w

-- the party and the term of a set-up record
third : (a b c d : Bool) → ◌≡◌ {A = ℕ} (cond a 1 (cond b 2 (cond c 3 (cond d 4 0)))) 3 → c ≡ true
third true b c d e = absurd (omega arith)
third false true c d e = absurd (omega arith)
third false false true d e = refl
third false false false true e = absurd (omega arith)
third false false false false e = absurd (omega arith)

abbrev Named : File → List ℕ → ℕ → Type 0
Named f body k = AllPassed f (fields_of k) 0 body → (get_or body 0 0 < length f.roles) × (word body 1 < length f.terms)

each_named : (f : File) (body : List ℕ) → Each (Named f body) 3 0x20
unfolding fields_of section_of
each_named f body = ((λ h. (h.0, h.1.0)), ((λ h. (h.0, h.1.0.0)), ((λ h. (h.0, h.1.0.0)), tt)))

named : (f : File) (body : List ℕ) (k : ℕ) → section_of k ≡ setup_section → fields_fault f (fields_of k) 0 body ≡ 0 → (get_or body 0 0 < length f.roles) × (word body 1 < length f.terms)
unfolding section_of
named f body k e none =
    let r = within 0x20 k 0x22 (third (eqb k 1) (leb 0x10 k && leb k 0x1C) _ (leb 0x30 k && leb k last_kind) e) in
    fields.each (Named f body) 3 0x20 (each_named f body) k r.0 (omega arith) (passed f body (fields_of k) 0 none)

room_for_term_lem : (f : File) (k : ℕ) → count_fault f k ≡ 0 → section_of k ≡ term_section → length f.terms < term_limit
unfolding count_fault
room_for_term_lem f k none e = ltb-true (length f.terms) term_limit (refuse_zero 6 _ (omega arith) (rw e at none))

-- what entering a record needs
pub enter_ready : (f : File) (bs s : List ℕ) (signers : ℕ → ℕ) (n : Tally) (at : ℕ) → Describes f bs s signers n at → Good f → at < length bs → length bs ≤ file_limit
    → 0 < section_of (get_or bs at 0) → at + 1 + body_length (get_or bs at 0) ≤ length bs
    → section_fault f (get_or bs at 0) ≡ 0 → count_fault f (get_or bs at 0) ≡ 0 → fields_fault f (fields_of (get_or bs at 0)) 0 (body_at bs at) ≡ 0
    → EnterReady bs s (body_at bs at) (get_or bs at 0) at n
enter_ready f bs s signers n at d g first short known rest order few right = record {
  there = d.there;
  few_parties = d.few_parties;
  parties_whole = (omega (arith, d.parties_whole));
  whole = (omega (arith, body_length_lem bs at rest));
  near = (omega arith);
  room_for_term = λ e. subst (λ (x : ℕ). x < term_limit) d.terms_are (room_for_term_lem f (get_or bs at 0) few e);
  party = λ e. subst (λ (x : ℕ). get_or (body_at bs at) 0 0 < x) d.parties_are (named f (body_at bs at) (get_or bs at 0) e right).0;
  declared = λ e. subst (λ (x : ℕ). word (body_at bs at) 1 < x) d.terms_are (named f (body_at bs at) (get_or bs at 0) e right).1;
}
