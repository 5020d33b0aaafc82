-- The bytes of a file cut where a command's record begins: they load, to the commands before it.
--     Taken, taken        a file that loads from a place on: its next record is taken
--     only-commands       after a command's record there are commands' records only
--     CutAt, walk         what is cut off at the place of the command of ordinal n
-- Assumes nothing.
use mathlib.Core.Path.{◌≡◌, refl, sym, ap, ◌∙◌}
use mathlib.Core.Logic.{◌⊎◌, inl, inr}
use mathlib.Core.Bool.{Bool, true, false, cond}
use mathlib.Core.List.{List, [], ◌∷◌, ◌++◌, append_assoc, reverse, reverse-append, reverse-cons}
use mathlib.Core.Option.{none, some}
use Prim.Native.Nat.{ℕ, zero, suc, ◌+◌, ◌-◌, ◌<◌, ◌≤◌}
use native.Mathlib.Omega.{arith}
use native.Mathlib.Numerals.{unary_clauses}
use lib.Dec.{eqb, ltb, leb}
use lib.ListN.{length, get_or, get_elem?, take, drop, length-take, length-reverse}
use lib.Seq.{get_or-take, take_all, take_at, take-take}
use borrow.Author.Tests.{ltb-true, ltb-false, leb-true, eqb-true, eqb-false, eq-eqb, ne_eqb, lt-ltb, le-ltb}
use Rattle.rules.specs.Record.{section_of, party_section, term_section, setup_section, command_section, body_length}
use Rattle.rules.specs.File.{File, Command}
use Rattle.rules.specs.Load.{term_at, setup_at, command_at, section_fault, record_fault, with_party, with_term, with_setup, with_command, enter, loaded, refused, feed}
use Rattle.theorems.specs.CutLaws.{record_after, is_command_at, place_from}
use Rattle.theorems.proofs.LoadingFields.{first_zero, refuse_zero}
use Rattle.theorems.proofs.Loading.{command_section_lem}
use Rattle.theorems.proofs.Pieces.{from, body_at, feed_end, feed_unknown, feed_short, feed_refusal, feed_taken}

never : (f : File) (r at : ℕ) → refused r at ≡ loaded f → ⊥
never f r at e = let z : ◌≡◌ {A = ℕ} 0 1 = cc in omega arith

same_file : (f h : File) → loaded h ≡ loaded f → f ≡ h
same_file f h e = cc

-- the next record of a file that loads from a place on is known, whole and not refused
record Taken (bs : List ℕ) (at : ℕ) (h f : File) : Type 0 where
  known : 0 < section_of (get_or bs at 0)
  fits : at + 1 + body_length (get_or bs at 0) ≤ length bs
  right : record_fault h (get_or bs at 0) (body_at bs at) ≡ 0
  rest : feed (loaded (enter h at (get_or bs at 0) (body_at bs at))) (from bs (at + 1 + body_length (get_or bs at 0))) ≡ loaded f

module _ (bs : List ℕ) (at : ℕ) (h f : File) (l : at < length bs) (e : feed (loaded h) (from bs at) ≡ loaded f) where
  is_known : (x : ℕ) → section_of (get_or bs at 0) ≡ x → 0 < section_of (get_or bs at 0)
  is_known zero z = absurd (never f 3 at (sym (feed_unknown bs at l h z) ∙ e))
  is_known (suc x) z = omega arith

  is_whole : 0 < section_of (get_or bs at 0) → (b : Bool) → ltb (length bs - (at + 1)) (body_length (get_or bs at 0)) ≡ b → at + 1 + body_length (get_or bs at 0) ≤ length bs
  is_whole k true z = absurd (never f 4 at (sym (feed_short bs at l h k (ltb-true _ _ z)) ∙ e))
  is_whole k false z = let w = ltb-false (length bs - (at + 1)) (body_length (get_or bs at 0)) z in omega arith

  is_right : 0 < section_of (get_or bs at 0) → at + 1 + body_length (get_or bs at 0) ≤ length bs → (r : ℕ) → record_fault h (get_or bs at 0) (body_at bs at) ≡ r → record_fault h (get_or bs at 0) (body_at bs at) ≡ 0
  is_right k w zero z = z
  is_right k w (suc r) z = absurd (never f (suc r) at (sym (feed_refusal bs at l h k w r z) ∙ e))

  taken : Taken bs at h f
  taken =
      let k = is_known (section_of (get_or bs at 0)) refl in
      let w = is_whole k (ltb (length bs - (at + 1)) (body_length (get_or bs at 0))) refl in
      let r = is_right k w (record_fault h (get_or bs at 0) (body_at bs at)) refl in
      record { known = k; fits = w; right = r; rest = sym (feed_taken bs at l h k w r) ∙ e }

in_order_lem : (h : File) (k : ℕ) (body : List ℕ) → record_fault h k body ≡ 0 → h.section ≤ section_of k
unfolding record_fault section_fault
in_order_lem h k body e = leb-true h.section (section_of k) (refuse_zero 5 (leb h.section (section_of k)) (omega arith) (first_zero _ _ e).0)

enter_command : (h : File) (at k : ℕ) (body : List ℕ) → command_section ≤ section_of k → enter h at k body ≡ with_command h (section_of k) (command_at k body)
unfolding enter
enter_command h at k body l =
    rw (ne_eqb (section_of k) party_section (omega arith), ne_eqb (section_of k) term_section (omega arith), ne_eqb (section_of k) setup_section (omega arith))

-- f is h and more commands
record Follows (h f : File) : Type 0 where
  roles : f.roles ≡ h.roles
  terms : f.terms ≡ h.terms
  places : f.places ≡ h.places
  setup : f.setup ≡ h.setup
  more : List Command
  commands : f.commands ≡ more ++ h.commands

follows_none : (h f : File) → f ≡ h → Follows h f
follows_none h f e = record {
  roles = ap (λ (x : File). x.roles) e;
  terms = ap (λ (x : File). x.terms) e;
  places = ap (λ (x : File). x.places) e;
  setup = ap (λ (x : File). x.setup) e;
  more = [];
  commands = ap (λ (x : File). x.commands) e;
}

follows_one : (h f : File) (section : ℕ) (c : Command) → Follows (with_command h section c) f → Follows h f
unfolding with_command
follows_one h f section c w = record {
  roles = w.roles;
  terms = w.terms;
  places = w.places;
  setup = w.setup;
  more = w.more ++ (c ∷ []);
  commands = w.commands ∙ sym (append_assoc w.more (c ∷ []) h.commands);
}

module _ (bs : List ℕ) where
  command_next : (at : ℕ) (h f : File) → Taken bs at h f → command_section ≤ section_of (get_or bs at 0)
      → feed (loaded (with_command h (section_of (get_or bs at 0)) (command_at (get_or bs at 0) (body_at bs at)))) (from bs (at + 1 + body_length (get_or bs at 0))) ≡ loaded f
  command_next at h f t l =
      ap (λ (x : File). feed (loaded x) (from bs (at + 1 + body_length (get_or bs at 0)))) (sym (enter_command h at (get_or bs at 0) (body_at bs at) l)) ∙ t.rest

  only_commands : (m at : ℕ) (h f : File) → length bs ≤ at + m → command_section ≤ h.section → feed (loaded h) (from bs at) ≡ loaded f → Follows h f
  unfolding with_command
  only_commands zero at h f n s e = follows_none h f (same_file f h (sym (feed_end bs at h (omega arith)) ∙ e))
  only_commands (suc m) at h f n s e =
      go (ltb at (length bs)) refl (only_commands m (at + 1 + body_length (get_or bs at 0)) (with_command h (section_of (get_or bs at 0)) (command_at (get_or bs at 0) (body_at bs at))) f)
    where
      go : (b : Bool) → ltb at (length bs) ≡ b
          → (length bs ≤ at + 1 + body_length (get_or bs at 0) + m → command_section ≤ section_of (get_or bs at 0)
          → feed (loaded (with_command h (section_of (get_or bs at 0)) (command_at (get_or bs at 0) (body_at bs at)))) (from bs (at + 1 + body_length (get_or bs at 0))) ≡ loaded f
          → Follows (with_command h (section_of (get_or bs at 0)) (command_at (get_or bs at 0) (body_at bs at))) f)
          → Follows h f
      go false z later = follows_none h f (same_file f h (sym (feed_end bs at h (ltb-false _ _ z)) ∙ e))
      go true z later =
          let t = taken bs at h f (ltb-true _ _ z) e in
          let o = in_order_lem h (get_or bs at 0) (body_at bs at) t.right in
          let l : command_section ≤ section_of (get_or bs at 0) = omega arith in
          follows_one h f (section_of (get_or bs at 0)) (command_at (get_or bs at 0) (body_at bs at)) (later (omega arith) l (command_next at h f t l))

-- where commands' places are
module _ (bs : List ℕ) (at : ℕ) where
  place_end : (m n : ℕ) → length bs ≤ at → place_from m bs n at ≡ length bs
  unfolding place_from
  place_end zero n h = refl
  place_end (suc m) n h = rw (le-ltb at (length bs) h)

  module _ (m : ℕ) (l : at < length bs) where
    place_here : is_command_at bs at ≡ true → place_from (suc m) bs 0 at ≡ at
    unfolding place_from
    place_here e = rw (lt-ltb at (length bs) l, e)

    place_past : (n : ℕ) → is_command_at bs at ≡ true → place_from (suc m) bs (suc n) at ≡ place_from m bs n (at + 1 + body_length (get_or bs at 0))
    unfolding place_from record_after
    place_past n e = rw (lt-ltb at (length bs) l, e, ne_eqb (suc n) 0 (omega arith)) (ap (λ (i : ℕ). place_from m bs i (at + 1 + body_length (get_or bs at 0))) (let z : suc n - 1 ≡ n = omega arith in z))

    place_before : (n : ℕ) → is_command_at bs at ≡ false → place_from (suc m) bs n at ≡ place_from m bs n (at + 1 + body_length (get_or bs at 0))
    unfolding place_from record_after
    place_before n e = rw (lt-ltb at (length bs) l, e) (ap (λ (i : ℕ). place_from m bs i (at + 1 + body_length (get_or bs at 0))) (let z : n - 0 ≡ n = omega arith in z))

-- the bytes up to a place have the records that end before it
module _ {A : Type 0} where
  drop_take : (i a : ℕ) (l : List A) → drop i (take a l) ≡ take (a - i) (drop i l)
  drop_take zero a l = simp unary_clauses refl
  drop_take (suc i) zero l = ap (λ (n : ℕ). take n (drop (suc i) l)) (let z : 0 ≡ 0 - suc i = omega arith in z)
  drop_take (suc i) (suc a) [] = none (suc a - suc i)
    where
      none : (n : ℕ) → ◌≡◌ {A = List A} [] (take n [])
      none zero = refl
      none (suc n) = refl
  drop_take (suc i) (suc a) (x ∷ l) = simp unary_clauses (drop_take i a l)

module _ (bs : List ℕ) (at a : ℕ) (l : at + 1 + body_length (get_or bs at 0) ≤ a) where
  same_kind : get_or (take a bs) at 0 ≡ get_or bs at 0
  same_kind = get_or-take a bs at 0 (omega arith)

  same_body : body_at (take a bs) at ≡ body_at bs at
  unfolding body_at
  same_body = rw (same_kind, drop_take (at + 1) a bs) (take-take (body_length (get_or bs at 0)) (a - (at + 1)) (drop (at + 1) bs) (omega arith))

  module _ (h f : File) (w : a ≤ length bs) (t : Taken bs at h f) where
    cut_length : length (take a bs) ≡ a
    cut_length = simp length-take (omega arith)

    taken_too : feed (loaded h) (from (take a bs) at) ≡ feed (loaded (enter h at (get_or bs at 0) (body_at bs at))) (from (take a bs) (at + 1 + body_length (get_or bs at 0)))
    taken_too =
        feed_taken (take a bs) at (omega (arith, cut_length)) h (rw same_kind t.known) (rw (same_kind, cut_length) l) (rw (same_kind, same_body) t.right)
        ∙ rw (same_kind, same_body)

-- What is cut off at a place a, of a file that h has been read of up to the place at, and that f is read from: the commands from ordinal j on.
pub record CutAt (bs : List ℕ) (at : ℕ) (h f : File) (j a later : ℕ) : Type 0 where
  pub beyond : at ≤ a
  pub within : a ≤ length bs
  pub stands :
      ((a ≡ length bs) × (get_elem? (reverse f.commands) j ≡ none))
      ⊎ ((section_of (get_or bs a 0) ≡ command_section) × (a + 1 + body_length (get_or bs a 0) ≤ length bs)
      × (get_elem? (reverse f.commands) j ≡ some (command_at (get_or bs a 0) (body_at bs a)))
      × (later ≡ a + 1 + body_length (get_or bs a 0)))
  pub file : File
  -- cut there or further on, the bytes up to there are read to this file
  pub reads : (b : ℕ) → a ≤ b → b ≤ length bs → feed (loaded h) (from (take b bs) at) ≡ feed (loaded file) (from (take b bs) a)
  pub roles : file.roles ≡ f.roles
  pub terms : file.terms ≡ f.terms
  pub places : file.places ≡ f.places
  pub setup : file.setup ≡ f.setup
  pub commands : reverse file.commands ≡ take j (reverse f.commands)

module _ {A : Type 0} where
  at_none : (l : List A) (n : ℕ) → length l ≤ n → get_elem? l n ≡ none
  at_none [] n h = refl
  at_none (x ∷ l) zero h = absurd (omega arith)
  at_none (x ∷ l) (suc n) h = at_none l n (omega arith)

  at_seam : (l : List A) (x : A) (r : List A) (n : ℕ) → length l ≡ n → get_elem? (l ++ (x ∷ r)) n ≡ some x
  at_seam [] x r zero e = refl
  at_seam [] x r (suc n) e = absurd (omega arith)
  at_seam (y ∷ l) x r zero e = absurd (omega arith)
  at_seam (y ∷ l) x r (suc n) e = at_seam l x r n (omega arith)

  reversed : (more l : List A) (x : A) → reverse (more ++ (x ∷ l)) ≡ reverse l ++ (x ∷ reverse more)
  reversed more l x = reverse-append more (x ∷ l) ∙ ap (λ (r : List A). r ++ reverse more) (reverse-cons x l) ∙ append_assoc (reverse l) (x ∷ []) (reverse more)

module _ (bs : List ℕ) where
  -- the file's end
  cut_end : (at : ℕ) (h f : File) (n later : ℕ) → at ≡ length bs → feed (loaded h) (from bs at) ≡ loaded f → CutAt bs at h f (length h.commands + n) (length bs) later
  cut_end at h f n later l e =
      let s : f ≡ h = same_file f h (sym (feed_end bs at h (omega arith)) ∙ e) in
      let b : length (reverse f.commands) ≤ length h.commands + n = rw s (omega (arith, length-reverse h.commands)) in
      record {
        beyond = (omega arith);
        within = (omega arith);
        stands = inl (refl, at_none (reverse f.commands) (length h.commands + n) b);
        file = f;
        reads = λ b x y. rw (s, l);
        roles = refl;
        terms = refl;
        places = refl;
        setup = refl;
        commands = sym (take_all (length h.commands + n) (reverse f.commands) b);
      }

  -- a command's record, the one to cut at
  cut_here : (m at : ℕ) (h f : File) (later : ℕ) → at < length bs → length bs ≤ at + suc m → section_of (get_or bs at 0) ≡ command_section → Taken bs at h f → later ≡ at + 1 + body_length (get_or bs at 0)
      → CutAt bs at h f (length h.commands + 0) at later
  unfolding with_command
  cut_here m at h f later l fuel s t e =
      let c = command_at (get_or bs at 0) (body_at bs at) in
      let w = only_commands bs m (at + 1 + body_length (get_or bs at 0)) (with_command h (section_of (get_or bs at 0)) c) f (omega arith) (omega arith) (command_next bs at h f t (omega arith)) in
      let r : reverse f.commands ≡ reverse h.commands ++ (c ∷ reverse w.more) = ap reverse w.commands ∙ reversed w.more h.commands c in
      let n : length (reverse h.commands) ≡ length h.commands + 0 = omega (arith, length-reverse h.commands) in
      record {
        beyond = (omega arith);
        within = (omega arith);
        stands = inr (s, t.fits, ap (λ (x : List Command). get_elem? x (length h.commands + 0)) r ∙ at_seam (reverse h.commands) c (reverse w.more) (length h.commands + 0) n, e);
        file = h;
        reads = λ b x y. refl;
        roles = sym w.roles;
        terms = sym w.terms;
        places = sym w.places;
        setup = sym w.setup;
        commands = sym (ap (take (length h.commands + 0)) r ∙ take_at (reverse h.commands) (c ∷ reverse w.more) (length h.commands + 0) n);
      }

  -- a record before it
  cut_later : (at : ℕ) (h f : File) (i j a later : ℕ) → Taken bs at h f → i ≡ j
      → CutAt bs (at + 1 + body_length (get_or bs at 0)) (enter h at (get_or bs at 0) (body_at bs at)) f i a later → CutAt bs at h f j a later
  cut_later at h f i j a later t e w = rw (sym e) (record {
    beyond = (omega (arith, w.beyond));
    within = w.within;
    stands = w.stands;
    file = w.file;
    reads = λ b x y. taken_too bs at b (omega (arith, w.beyond)) h f y t ∙ w.reads b x y;
    roles = w.roles;
    terms = w.terms;
    places = w.places;
    setup = w.setup;
    commands = w.commands;
  })

-- a record that is no command's leaves the commands as they were
enter_other : (h : File) (at k : ℕ) (body : List ℕ) → 0 < section_of k → (section_of k ≡ command_section → ⊥) → (enter h at k body).commands ≡ h.commands
unfolding enter with_party with_term with_setup
enter_other h at k body known other = go (eqb (section_of k) party_section) (eqb (section_of k) term_section) (eqb (section_of k) setup_section) refl refl refl
  where
    go : (party term setup : Bool) → eqb (section_of k) party_section ≡ party → eqb (section_of k) term_section ≡ term → eqb (section_of k) setup_section ≡ setup
        → (cond party (with_party h (get_or body 0 0)) (cond term (with_term h (term_at k body) at) (cond setup (with_setup h (setup_at k body)) (with_command h (section_of k) (command_at k body))))).commands ≡ h.commands
    go true term setup x y z = refl
    go false true setup x y z = refl
    go false false true x y z = refl
    go false false false x y z = absurd (other (command_section_lem k known (eqb-false _ _ x) (eqb-false _ _ y) (eqb-false _ _ z)))

module _ (bs : List ℕ) (at : ℕ) where
  command_there_lem : is_command_at bs at ≡ true → section_of (get_or bs at 0) ≡ command_section
  unfolding is_command_at
  command_there_lem e = eqb-true _ _ e

  other_there : is_command_at bs at ≡ false → section_of (get_or bs at 0) ≡ command_section → ⊥
  unfolding is_command_at
  other_there e = eqb-false _ _ e

  is_command_lem : section_of (get_or bs at 0) ≡ command_section → is_command_at bs at ≡ true
  unfolding is_command_at
  is_command_lem e = eq-eqb _ _ e

-- after a command's record the next place is that of a command's record, or the file's end
place_next : (bs : List ℕ) (m at : ℕ) (h f : File) → at ≤ length bs → length bs ≤ at + m → command_section ≤ h.section → feed (loaded h) (from bs at) ≡ loaded f → place_from m bs 0 at ≡ at
place_next bs zero at h f l fuel s e = place_end bs at 0 0 (omega arith) ∙ (let z : length bs ≡ at = omega arith in z)
place_next bs (suc m) at h f l fuel s e = go (ltb at (length bs)) refl
  where
    go : (b : Bool) → ltb at (length bs) ≡ b → place_from (suc m) bs 0 at ≡ at
    go false z = let w = ltb-false at (length bs) z in place_end bs at (suc m) 0 w ∙ (let y : length bs ≡ at = omega arith in y)
    go true z =
        let w = ltb-true at (length bs) z in
        let t = taken bs at h f w e in
        let o = in_order_lem h (get_or bs at 0) (body_at bs at) t.right in
        place_here bs at m w (is_command_lem bs at (command_section_lem (get_or bs at 0) t.known (omega arith) (omega arith) (omega arith)))

module _ (bs : List ℕ) (f : File) where
  abbrev pub Walked : ℕ → ℕ → File → ℕ → Type 0
  Walked m at h n = CutAt bs at h f (length h.commands + n) (place_from m bs n at) (place_from m bs (suc n) at)

  module _ (m at : ℕ) (h : File) (l : at < length bs) (fuel : length bs ≤ at + suc m) (t : Taken bs at h f) where
    by_kind : (b : Bool) → is_command_at bs at ≡ b → ((n : ℕ) → Walked m (at + 1 + body_length (get_or bs at 0)) (enter h at (get_or bs at 0) (body_at bs at)) n) → (n : ℕ) → Walked (suc m) at h n
    unfolding with_command
    by_kind true z later zero =
        let s = command_there_lem bs at z in
        rw (place_here bs at m l z)
        (cut_here bs m at h f (place_from (suc m) bs 1 at) l fuel s t
        (place_past bs at m l 0 z
        ∙ place_next bs m (at + 1 + body_length (get_or bs at 0)) (with_command h (section_of (get_or bs at 0)) (command_at (get_or bs at 0) (body_at bs at))) f t.fits (omega arith) (omega arith) (command_next bs at h f t (omega arith))))
    by_kind true z later (suc n) =
        let s = command_there_lem bs at z in
        let c = ap (λ (x : File). length x.commands) (enter_command h at (get_or bs at 0) (body_at bs at) (omega arith)) in
        rw (place_past bs at m l n z, place_past bs at m l (suc n) z) (cut_later bs at h f _ _ _ _ t (omega arith) (later n))
    by_kind false z later n =
        let c = ap length (enter_other h at (get_or bs at 0) (body_at bs at) t.known (other_there bs at z)) in
        rw (place_before bs at m l n z, place_before bs at m l (suc n) z) (cut_later bs at h f _ _ _ _ t (omega arith) (later n))

  pub walk : (m at : ℕ) (h : File) (n : ℕ) → at ≤ length bs → length bs ≤ at + m → feed (loaded h) (from bs at) ≡ loaded f → Walked m at h n
  walk zero at h n l fuel e = rw (place_end bs at zero n (omega arith)) (cut_end bs at h f n _ (omega arith) e)
  walk (suc m) at h n l fuel e = go (ltb at (length bs)) refl (walk m (at + 1 + body_length (get_or bs at 0)) (enter h at (get_or bs at 0) (body_at bs at)))
    where
      go : (b : Bool) → ltb at (length bs) ≡ b
          → ((i : ℕ) → at + 1 + body_length (get_or bs at 0) ≤ length bs → length bs ≤ at + 1 + body_length (get_or bs at 0) + m
          → feed (loaded (enter h at (get_or bs at 0) (body_at bs at))) (from bs (at + 1 + body_length (get_or bs at 0))) ≡ loaded f
          → Walked m (at + 1 + body_length (get_or bs at 0)) (enter h at (get_or bs at 0) (body_at bs at)) i)
          → Walked (suc m) at h n
      go false z later = let w = ltb-false at (length bs) z in rw (place_end bs at (suc m) n w) (cut_end bs at h f n _ (omega arith) e)
      go true z later =
          let w = ltb-true at (length bs) z in
          let t = taken bs at h f w e in
          by_kind m at h w fuel t (is_command_at bs at) refl (λ i. later i t.fits (omega arith) t.rest) n
