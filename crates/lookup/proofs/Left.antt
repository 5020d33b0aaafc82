-- What a loop over commands has left: the laws of the next command and of the end.
--     command-range, command-long     the kinds of commands, and their least length
--     command-here, commands-next     the record at a place inside the file, and what stands after it
--     left-next, left-inside     the commands left, by the next one; at the end of the file, however many are asked for
--     first-commands, commands-of, commands-wellformed     what holds before the loop, of a file that loads
-- Assumes nothing.
use mathlib.Core.Path.{◌≡◌, refl, sym, ap, ◌∙◌}
use mathlib.Core.Bool.{Bool, true, false, cond, ◌&&◌}
use mathlib.Core.Logic.{◌⊎◌, inl, inr, ⊎_elim}
use mathlib.Core.List.Memᴰ
use mathlib.Core.List.{List, [], ◌∷◌, reverse_aux, Memᴰ}
use Prim.Native.Nat.{ℕ, zero, suc, ◌+◌, ◌*◌, ◌-◌, ◌<◌, ◌≤◌}
use native.Mathlib.Omega.{arith}
use lib.Dec.{eqb, leb, ltb}
use lib.ListN.{length, take}
use borrow.Author.Tests.{lt-ltb, le-ltb, ltb-false, leb-true}
use Rattle.rules.specs.Record.{last_kind, kind_count, section_of, command_section, body_length, widths, width, fields_of}
use Rattle.rules.specs.File.{File, Command}
use Rattle.rules.specs.Load.{load, loaded, commands_of}
use Rattle.rules.specs.Run.{first_commands}
use Rattle.theorems.proofs.Loading.{Wellformed, checked}
use Rattle.learning.specs.There.{kind_there}
use Rattle.records.proofs.EachKind.{agree}
use Rattle.reader.specs.Place.{next_place}
use Rattle.lookup.specs.There.{command_there}
use Rattle.lookup.specs.Commands.{commands_there, commands_from, commands_left, CommandAt, Stand, Commands}
use Rattle.lookup.proofs.Commands.{CommandOf, commands_there_lem, commands_stand}

and_true : (a b : Bool) → (a && b) ≡ true → (a ≡ true) × (b ≡ true)
and_true true b e = (refl, e)
and_true false b e = let z : ◌≡◌ {A = ℕ} 0 1 = cc in absurd (omega arith)

-- the kinds of commands
pub command_range : (k : ℕ) → section_of k ≡ command_section → (0x30 ≤ k) × (k ≤ last_kind)
unfolding section_of
command_range k = go (eqb k 1) (leb 0x10 k && leb k 0x1C) (leb 0x20 k && leb k 0x22) (leb 0x30 k && leb k last_kind) refl
  where
    go : (a b c d : Bool) → (leb 0x30 k && leb k last_kind) ≡ d → ◌≡◌ {A = ℕ} (cond a 1 (cond b 2 (cond c 3 (cond d 4 0)))) 4 → (0x30 ≤ k) × (k ≤ last_kind)
    go true b c d e s = absurd (omega arith)
    go false true c d e s = absurd (omega arith)
    go false false true d e s = absurd (omega arith)
    go false false false true e s = let w = and_true (leb 0x30 k) (leb k last_kind) e in (leb-true 0x30 k w.0, leb-true k last_kind w.1)
    go false false false false e s = absurd (omega arith)

-- a command's record has four bytes at least
pub command_long : (bs : List ℕ) (at : ℕ) → section_of (kind_there bs at) ≡ command_section → at + 4 ≤ next_place bs at
unfolding next_place body_length widths width section_of fields_of
command_long bs at s =
    let r = command_range (kind_there bs at) s in
    let l = leb-true 3 (body_length (kind_there bs at)) (agree (λ j. leb 3 (body_length j)) (λ j. true) 0x30 (kind_count - 0x30) refl (kind_there bs at) r.0 (omega (arith, r.1))) in
    omega arith

module _ (P : Command → Type 0) (bs : List ℕ) (at : ℕ) where
  pub command_here : Commands P bs at → at < length bs → CommandAt P bs at
  unfolding Stand
  command_here (zero, s) h = absurd (omega arith)
  command_here (suc m, s) h = s.0

  pub commands_next : Commands P bs at → at < length bs → Commands P bs (next_place bs at)
  unfolding Stand
  commands_next (zero, s) h = absurd (omega arith)
  commands_next (suc m, s) h = (m, s.1)

-- something else is known of the commands
pub stand_map : (P Q : Command → Type 0) → ((c : Command) → P c → Q c) → (bs : List ℕ) (m at : ℕ) → Stand P bs at m → Stand Q bs at m
unfolding Stand
stand_map P Q f bs zero at s = s
stand_map P Q f bs (suc m) at s = (record { whole = s.0.whole; is_command = s.0.is_command; known = f _ s.0.known }, stand_map P Q f bs m (next_place bs at) s.1)

module _ (bs : List ℕ) (at : ℕ) where
  -- a command more
  pub left_next : (n : ℕ) → 0 < n → at < length bs → commands_left bs at n ≡ command_there bs at ∷ commands_left bs (next_place bs at) (n - 1)
  unfolding commands_left
  left_next n l h =
      let e : n ≡ suc (n - 1) = omega arith in
      ap (commands_left bs at) e ∙ rw (lt-ltb at (length bs) h) refl

  left_end : (n : ℕ) → length bs ≤ at → commands_left bs at n ≡ []
  unfolding commands_left
  left_end zero h = refl
  left_end (suc n) h = rw (le-ltb at (length bs) h) refl

  -- at the end of the file none is asked for
  pub left_inside : (n : ℕ) → commands_left bs at (cond (ltb at (length bs)) n 0) ≡ commands_left bs at n
  unfolding commands_left
  left_inside n = go (ltb at (length bs)) refl
    where
      go : (b : Bool) → ltb at (length bs) ≡ b → commands_left bs at (cond b n 0) ≡ commands_left bs at n
      go true e = refl
      go false e = sym (left_end n (ltb-false at (length bs) e))

take_left : (P : Command → Type 0) (bs : List ℕ) (n m at : ℕ) → Stand P bs at m → take n (commands_there bs at m) ≡ commands_left bs at n
unfolding Stand commands_there commands_left
take_left P bs zero m at s = refl
take_left P bs (suc n) zero at s = rw (le-ltb at (length bs) s) refl
take_left P bs (suc n) (suc m) at s = rw (lt-ltb at (length bs) s.0.whole.inside, take_left P bs n m (next_place bs at) s.1) refl

-- how many there are at most
pub left_few : (P : Command → Type 0) (bs : List ℕ) (n m at : ℕ) → Stand P bs at m → at ≤ length bs → at + 4 * length (commands_left bs at n) ≤ length bs
unfolding Stand commands_left
left_few P bs zero m at s h = omega arith
left_few P bs (suc n) zero at s h = rw (le-ltb at (length bs) s) (omega arith)
left_few P bs (suc n) (suc m) at s h =
    let l = command_long bs at s.0.is_command in
    let r = left_few P bs n m (next_place bs at) s.1 s.0.whole.whole in
    rw (lt-ltb at (length bs) s.0.whole.inside) (omega (arith, l, r))

-- the first n commands of a file that loads are those left at the first one's place
pub first_commands_lem : (bytes : List ℕ) (f : File) → load bytes ≡ loaded f → (n : ℕ) → first_commands f n ≡ commands_left bytes (commands_from (length bytes) bytes 0) n
unfolding first_commands
first_commands_lem bytes f e n =
    ap (take n) (commands_there_lem bytes f e) ∙ take_left (CommandOf f) bytes n (length f.commands) (commands_from (length bytes) bytes 0) (commands_stand bytes f e)

-- and commands alone stand from there on
pub commands_of_lem : (bytes : List ℕ) (f : File) → load bytes ≡ loaded f → Commands (CommandOf f) bytes (commands_from (length bytes) bytes 0)
commands_of_lem bytes f e = (length f.commands, commands_stand bytes f e)

-- a member of a list in reverse (as in theorems' Running)
reversed_member : {A : Type 0} (xs ys : List A) (x : A) → Memᴰ x (reverse_aux xs ys) → Memᴰ x xs ⊎ Memᴰ x ys
reversed_member [] ys x m = inr m
reversed_member (y ∷ xs) ys x m =
    ⊎_elim (λ i. inl (Memᴰ.tail i)) (λ i. ⊎_elim (λ h. inl (Memᴰ.head h)) inr (Memᴰ.cases_cons i)) (reversed_member xs (y ∷ ys) x m)

-- each of them passed the field checks of loading
pub commands_wellformed : (bytes : List ℕ) (f : File) → load bytes ≡ loaded f → Commands (Wellformed f) bytes (commands_from (length bytes) bytes 0)
unfolding commands_of
commands_wellformed bytes f e = (
  length f.commands,
  stand_map (CommandOf f) (Wellformed f) (λ c m. (checked bytes f e).wellformed c (⊎_elim (λ i. i) (λ i. elim i [ ]) (reversed_member f.commands [] c m))) bytes (length f.commands) (commands_from (length bytes) bytes 0) (commands_stand bytes f e),
)
