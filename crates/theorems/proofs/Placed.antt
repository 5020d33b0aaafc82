-- Each term of a file that loads has a place.
-- Assumes nothing.
use mathlib.Core.Path.{◌≡◌, refl, subst}
use mathlib.Core.Bool.{Bool, true, false, cond}
use mathlib.Core.List.{List, [], ◌∷◌}
use Prim.Native.Nat.{ℕ, zero, suc}
use native.Mathlib.Omega.{arith}
use lib.Dec.{eqb, leb}
use lib.ListN.{get_or, length, length-append}
use Rattle.rules.specs.Limits.{file_limit}
use Rattle.rules.specs.Record.{section_of, party_section, term_section, setup_section, Piece, whole, fault, pieces}
use Rattle.rules.specs.File.{File}
use Rattle.rules.specs.Load.{term_at, setup_at, command_at, record_fault, with_party, with_term, with_setup, with_command, enter, Load, loaded, refused, settle, step, feed, empty_file, load}

abbrev Placed : File → Type 0
Placed f = length f.places ≡ length f.terms

-- of what loading gives
abbrev AllPlaced : Load → Type 0
AllPlaced (loaded f) = Placed f
AllPlaced (refused r at) = Unit {0}

enter_placed : (f : File) (at k : ℕ) (bs : List ℕ) → Placed f → Placed (enter f at k bs)
unfolding enter with_party with_term with_setup with_command
enter_placed f at k bs e = go (eqb (section_of k) party_section) (eqb (section_of k) term_section) (eqb (section_of k) setup_section)
  where
    go : (party term setup : Bool) → Placed (cond party (with_party f (get_or bs 0 0)) (cond term (with_term f (term_at k bs) at) (cond setup (with_setup f (setup_at k bs)) (with_command f (section_of k) (command_at k bs)))))
    go true term setup = e
    go false true setup = omega (arith, length-append f.places (at ∷ []), length-append f.terms (term_at k bs ∷ []))
    go false false true = e
    go false false false = e

settle_placed : (r at : ℕ) (f : File) → Placed f → AllPlaced (settle r at f)
unfolding settle
settle_placed zero at f e = e
settle_placed (suc r) at f e = tt

feed_placed : (ps : List Piece) (l : Load) → AllPlaced l → AllPlaced (feed l ps)
unfolding feed step
feed_placed [] l e = e
feed_placed (whole at k bs ∷ ps) (loaded f) e =
    feed_placed ps (settle (record_fault f k bs) at (enter f at k bs)) (settle_placed (record_fault f k bs) at (enter f at k bs) (enter_placed f at k bs e))
feed_placed (whole at k bs ∷ ps) (refused r place) e = feed_placed ps (refused r place) tt
feed_placed (fault r at ∷ ps) (loaded f) e = feed_placed ps (refused r at) tt
feed_placed (fault r at ∷ ps) (refused q place) e = feed_placed ps (refused q place) tt

load_placed : (bytes : List ℕ) → AllPlaced (load bytes)
unfolding load empty_file
load_placed bytes = go (leb (length bytes) file_limit)
  where
    go : (b : Bool) → AllPlaced (cond b (feed (loaded empty_file) (pieces (length bytes) 0 bytes)) (refused 2 0))
    go true = feed_placed (pieces (length bytes) 0 bytes) (loaded empty_file) refl
    go false = tt

pub each_placed : (bytes : List ℕ) (f : File) → load bytes ≡ loaded f → length f.places ≡ length f.terms
each_placed bytes f e = subst AllPlaced e (load_placed bytes)
