-- The commands of a file that loads are the records from the first command's place on.
-- Assumes nothing.
use mathlib.Core.Path.{◌≡◌, refl, sym, ap, subst⁻¹, ◌∙◌}
use mathlib.Core.Bool.{Bool, true, false, cond}
use mathlib.Core.List.{List, [], ◌∷◌, ◌++◌, append_assoc, append-nil, reverse-cons, Memᴰ}
use Prim.Native.Nat.{ℕ, zero, suc, ◌+◌, ◌<◌, ◌≤◌}
use native.Mathlib.Omega.{arith}
use lib.Dec.{eqb, ltb, leb}
use lib.ListN.{length, get_or}
use borrow.Author.Tests.{ltb-true, ltb-false, leb-true, leb-false, eqb-true, eqb-false, lt-ltb, le-ltb, eq-eqb, ne_eqb}
use Rattle.rules.specs.Limits.{file_limit}
use Rattle.rules.specs.Record.{section_of, party_section, term_section, setup_section, command_section, body_length}
use Rattle.rules.specs.File.{File, Command}
use Rattle.rules.specs.Load.{term_at, setup_at, command_at, section_fault, record_fault, with_party, with_term, with_setup, with_command, enter, loaded, refused, feed, empty_file, load, commands_of}
use Rattle.learning.specs.There.{kind_there}
use Rattle.records.proofs.Lengths.{section_most}
use Rattle.theorems.proofs.LoadingFields.{first_zero, refuse_zero}
use Rattle.theorems.proofs.Pieces.{from, body_at, load_from, feed_end, feed_unknown, feed_short, feed_refusal, feed_taken}
use Rattle.reader.specs.Place.{next_place}
use Rattle.reader.proofs.Places.{next_later, record_at}
use Rattle.lookup.specs.There.{command_there}
use Rattle.lookup.specs.Commands.{commands_there, commands_from, Stand}

-- enough fuel is enough
fuel : (bs : List ℕ) (n m at : ℕ) → length bs ≤ at + n → length bs ≤ at + m → commands_from n bs at ≡ commands_from m bs at
unfolding commands_from
fuel bs zero zero at p q = refl
fuel bs zero (suc m) at p q = rw (le-ltb at (length bs) (omega arith)) refl
fuel bs (suc n) zero at p q = rw (le-ltb at (length bs) (omega arith)) refl
fuel bs (suc n) (suc m) at p q =
    let l = next_later bs at in
    rw (fuel bs n m (next_place bs at) (omega arith) (omega arith)) refl

module _ (bs : List ℕ) (at : ℕ) where
  by_fuel : (n : ℕ) → length bs ≡ suc n → commands_from (length bs) bs at ≡ commands_from (suc n) bs at
  by_fuel n e = ap (λ (m : ℕ). commands_from m bs at) e

  -- the file's end
  pub commands_end : length bs ≤ at → commands_from (length bs) bs at ≡ length bs
  unfolding commands_from
  commands_end h = fuel bs (length bs) 0 at (omega arith) (omega arith)

  module _ (h : at < length bs) where
    some_fuel : (n : ℕ) × (length bs ≡ suc n)
    some_fuel = go (length bs) refl
      where
        go : (m : ℕ) → length bs ≡ m → (n : ℕ) × (length bs ≡ suc n)
        go zero e = absurd (omega arith)
        go (suc n) e = (n, e)

    -- a command's record
    pub commands_here : section_of (kind_there bs at) ≡ command_section → commands_from (length bs) bs at ≡ at
    unfolding commands_from
    commands_here s =
        by_fuel some_fuel.0 some_fuel.1
        ∙ rw (lt-ltb at (length bs) h, eq-eqb (section_of (kind_there bs at)) command_section s) refl

    -- another record is passed
    pub commands_later : (section_of (kind_there bs at) ≡ command_section → ⊥) → commands_from (length bs) bs at ≡ commands_from (length bs) bs (next_place bs at)
    unfolding commands_from
    commands_later s =
        let l = next_later bs at in
        let e = some_fuel.1 in
        by_fuel some_fuel.0 some_fuel.1
        ∙ rw (lt-ltb at (length bs) h, ne_eqb (section_of (kind_there bs at)) command_section s) refl
        ∙ fuel bs some_fuel.0 (length bs) (next_place bs at) (omega arith) (omega arith)

-- What a record adds to the commands.
module _ (f : File) (at k : ℕ) (body : List ℕ) where
  enter_command : section_of k ≡ command_section → enter f at k body ≡ with_command f command_section (command_at k body)
  unfolding enter
  enter_command s = rw s refl

  enter_other : 0 < section_of k → (section_of k ≡ command_section → ⊥) → (enter f at k body).commands ≡ f.commands
  unfolding enter with_party with_term with_setup
  enter_other known s = go (eqb (section_of k) party_section) (eqb (section_of k) term_section) (eqb (section_of k) setup_section) refl refl refl
    where
      go : (u v w : Bool) → eqb (section_of k) party_section ≡ u → eqb (section_of k) term_section ≡ v → eqb (section_of k) setup_section ≡ w
          → (cond u (with_party f (get_or body 0 0)) (cond v (with_term f (term_at k body) at) (cond w (with_setup f (setup_at k body)) (with_command f (section_of k) (command_at k body))))).commands ≡ f.commands
      go true v w a b c = refl
      go false true w a b c = refl
      go false false true a b c = refl
      go false false false a b c =
          let x = eqb-false (section_of k) party_section a in
          let y = eqb-false (section_of k) term_section b in
          let z = eqb-false (section_of k) setup_section c in
          let m = section_most k in
          absurd (omega arith)

-- what holds of the record at a place, where the file loads from there on
module _ (bs : List ℕ) (at : ℕ) (h : at < length bs) (f g : File) (e : feed (loaded f) (from bs at) ≡ loaded g) where
  never : (r p : ℕ) → feed (loaded f) (from bs at) ≡ refused r p → ⊥
  never r p q = let z : ◌≡◌ {A = ℕ} 0 1 = cc in omega arith

  known : 0 < section_of (kind_there bs at)
  known = go (section_of (kind_there bs at)) refl
    where
      go : (s : ℕ) → section_of (kind_there bs at) ≡ s → 0 < section_of (kind_there bs at)
      go zero q = absurd (never 3 at (feed_unknown bs at h f q))
      go (suc s) q = omega arith

  fits : at + 1 + body_length (kind_there bs at) ≤ length bs
  fits = go (leb (at + 1 + body_length (kind_there bs at)) (length bs)) refl
    where
      go : (b : Bool) → leb (at + 1 + body_length (kind_there bs at)) (length bs) ≡ b → at + 1 + body_length (kind_there bs at) ≤ length bs
      go true q = leb-true _ _ q
      go false q = let l = leb-false (at + 1 + body_length (kind_there bs at)) (length bs) q in absurd (never 4 at (feed_short bs at h f known (omega arith)))

  none : record_fault f (kind_there bs at) (body_at bs at) ≡ 0
  none = go (record_fault f (kind_there bs at) (body_at bs at)) refl
    where
      go : (r : ℕ) → record_fault f (kind_there bs at) (body_at bs at) ≡ r → record_fault f (kind_there bs at) (body_at bs at) ≡ 0
      go zero q = q
      go (suc r) q = absurd (never (suc r) at (feed_refusal bs at h f known fits r q))

  in_order_lem : f.section ≤ section_of (kind_there bs at)
  unfolding record_fault section_fault
  in_order_lem = leb-true f.section (section_of (kind_there bs at)) (refuse_zero 5 (leb f.section (section_of (kind_there bs at))) (omega arith) (first_zero _ _ none).0)

  left : feed (loaded (enter f at (kind_there bs at) (body_at bs at))) (from bs (next_place bs at)) ≡ loaded g
  unfolding next_place
  left = sym (feed_taken bs at h f known fits none) ∙ e

  left_command : section_of (kind_there bs at) ≡ command_section → feed (loaded (with_command f command_section (command_there bs at))) (from bs (next_place bs at)) ≡ loaded g
  unfolding command_there body_at
  left_command s = ap (λ (x : File). feed (loaded x) (from bs (next_place bs at))) (sym (enter_command f at (kind_there bs at) (body_at bs at) s)) ∙ left

commands_more : (f : File) (c : Command) → commands_of (with_command f command_section c) ≡ commands_of f ++ (c ∷ [])
unfolding commands_of with_command
commands_more f c = reverse-cons c f.commands

in_middle : (xs ys : List Command) (c : Command) → Memᴰ c (xs ++ (c ∷ ys))
in_middle [] ys c = Memᴰ.head refl
in_middle (x ∷ xs) ys c = Memᴰ.tail (in_middle xs ys c)

-- a command is one of the file's
abbrev pub CommandOf : File → Command → Type 0
CommandOf g c = Memᴰ c (commands_of g)

-- after a command come commands alone
module _ (bs : List ℕ) (g : File) where
  -- m commands more from a place on
  abbrev More : File → ℕ → Type 0
  More f at = (m : ℕ) × (length g.commands ≡ length f.commands + m) × (commands_of g ≡ commands_of f ++ commands_there bs at m) × Stand (CommandOf g) bs at m

  no_more : (f : File) (at : ℕ) → length bs ≤ at → feed (loaded f) (from bs at) ≡ loaded g → More f at
  unfolding commands_there Stand
  no_more f at h e =
      let q : g ≡ f = cc (feed_end bs at f h) in
      (0, rw q (omega arith), rw q (sym (append-nil (commands_of f))), h)

  one_more : (f : File) (at : ℕ) → at + 1 + body_length (kind_there bs at) ≤ length bs → section_of (kind_there bs at) ≡ command_section
      → More (with_command f command_section (command_there bs at)) (next_place bs at) → More f at
  unfolding commands_there with_command Stand
  one_more f at l s w =
      let rest = commands_there bs (next_place bs at) w.0 in
      let q : commands_of g ≡ commands_of f ++ (command_there bs at ∷ rest) =
      w.2
      ∙ ap (λ (l : List Command). l ++ rest) (commands_more f (command_there bs at))
      ∙ append_assoc (commands_of f) (command_there bs at ∷ []) rest
      in (
        suc w.0,
        (let e = w.1 in omega arith),
        q,
        (record { whole = record_at bs at l; is_command = s; known = subst⁻¹ (λ (l : List Command). Memᴰ (command_there bs at) l) q (in_middle (commands_of f) rest (command_there bs at)) }, w.3),
      )

  more : (n : ℕ) (f : File) (at : ℕ) → length bs ≤ at + n → f.section ≡ command_section → feed (loaded f) (from bs at) ≡ loaded g → More f at
  unfolding with_command
  more zero f at h s e = no_more f at (omega arith) e
  more (suc n) f at h s e = go (ltb at (length bs)) refl (λ l k. more n (with_command f command_section (command_there bs at)) (next_place bs at) (let i = next_later bs at in omega arith) refl (left_command bs at l f g e k))
    where
      go : (b : Bool) → ltb at (length bs) ≡ b
          → (at < length bs → section_of (kind_there bs at) ≡ command_section → More (with_command f command_section (command_there bs at)) (next_place bs at)) → More f at
      go false q again = no_more f at (ltb-false _ _ q) e
      go true q again =
          let l = ltb-true _ _ q in
          let o = in_order_lem bs at l f g e in
          let m = section_most (kind_there bs at) in
          let s : section_of (kind_there bs at) ≡ command_section = omega arith in
          one_more f at (fits bs at l f g e) s (again l s)

  -- without commands before them they are all of them
  alone : (f : File) (at : ℕ) → f.commands ≡ [] → More f at → (commands_of g ≡ commands_there bs at (length g.commands)) × Stand (CommandOf g) bs at (length g.commands)
  unfolding commands_of
  alone f at none w =
      let e : length g.commands ≡ w.0 = let l = w.1 in omega (arith, ap length none) in
      (w.2 ∙ rw (none, e) refl, subst⁻¹ (Stand (CommandOf g) bs at) e w.3)

  -- all the commands from the first one's place on
  abbrev All : ℕ → Type 0
  All at = (commands_of g ≡ commands_there bs (commands_from (length bs) bs at) (length g.commands)) × Stand (CommandOf g) bs (commands_from (length bs) bs at) (length g.commands)

  all_none : (f : File) (at : ℕ) → length bs ≤ at → f.commands ≡ [] → feed (loaded f) (from bs at) ≡ loaded g → All at
  unfolding commands_of commands_there Stand
  all_none f at h none e =
      let q : g ≡ f = cc (feed_end bs at f h) in
      let z : length g.commands ≡ 0 = ap (λ (x : File). length x.commands) q ∙ ap length none in
      (rw (q, none) refl, subst⁻¹ (Stand (CommandOf g) bs (commands_from (length bs) bs at)) z (omega (arith, commands_end bs at h)))

  all_from : (n : ℕ) (f : File) (at : ℕ) → length bs ≤ at + n → f.commands ≡ [] → feed (loaded f) (from bs at) ≡ loaded g → All at
  unfolding with_command
  all_from zero f at h none e = all_none f at (omega arith) none e
  all_from (suc n) f at h none e =
      go (ltb at (length bs)) (eqb (section_of (kind_there bs at)) command_section) refl refl
      (λ c r. all_from n (enter f at (kind_there bs at) (body_at bs at)) (next_place bs at) (let i = next_later bs at in omega arith) c r)
    where
      go : (b c : Bool) → ltb at (length bs) ≡ b → eqb (section_of (kind_there bs at)) command_section ≡ c
          → ((enter f at (kind_there bs at) (body_at bs at)).commands ≡ [] → feed (loaded (enter f at (kind_there bs at) (body_at bs at))) (from bs (next_place bs at)) ≡ loaded g → All (next_place bs at))
          → All at
      go false c q t again = all_none f at (ltb-false _ _ q) none e
      go true true q t again =
          let l = ltb-true at (length bs) q in
          let s = eqb-true (section_of (kind_there bs at)) command_section t in
          let i = next_later bs at in
          rw (commands_here bs at l s)
          (alone f at none (one_more f at (fits bs at l f g e) s (more n (with_command f command_section (command_there bs at)) (next_place bs at) (omega arith) refl (left_command bs at l f g e s))))
      go true false q t again =
          let l = ltb-true at (length bs) q in
          let s = eqb-false (section_of (kind_there bs at)) command_section t in
          rw (commands_later bs at l s)
          (again (enter_other f at (kind_there bs at) (body_at bs at) (known bs at l f g e) s ∙ none) (left bs at l f g e))

all_commands_lem : (bytes : List ℕ) (f : File) → load bytes ≡ loaded f → All bytes f 0
unfolding empty_file load
all_commands_lem bytes f e = all_from bytes f (length bytes) empty_file 0 (omega arith) refl (sym (load_from bytes short) ∙ e)
  where
    go : (b : Bool) → leb (length bytes) file_limit ≡ b → length bytes ≤ file_limit
    go true q = leb-true (length bytes) file_limit q
    go false q =
        let r : load bytes ≡ refused 2 0 = rw q refl in
        let z : ◌≡◌ {A = ℕ} 0 1 = cc in
        absurd (omega arith)

    short : length bytes ≤ file_limit
    short = go (leb (length bytes) file_limit) refl

module _ (bytes : List ℕ) (f : File) (e : load bytes ≡ loaded f) where
  pub commands_there_lem : commands_of f ≡ commands_there bytes (commands_from (length bytes) bytes 0) (length f.commands)
  commands_there_lem = (all_commands_lem bytes f e).0

  pub commands_stand : Stand (CommandOf f) bytes (commands_from (length bytes) bytes 0) (length f.commands)
  commands_stand = (all_commands_lem bytes f e).1
