-- The numbers of a load answer are small.
--     few-commands      a file has no more commands than bytes
--     near-refusal      the place of a refusal is at most the length of the file times that of the longest record
-- Assumes nothing.
use mathlib.Core.Path.{◌≡◌, subst}
use mathlib.Core.Bool.{Bool, true, false, cond}
use mathlib.Core.List.{List, [], ◌∷◌}
use Prim.Native.Nat.{ℕ, zero, suc, ◌+◌, ◌*◌, ◌≤◌}
use native.Mathlib.Omega.{arith}
use lib.Dec.{eqb, ltb, leb}
use lib.ListN.{length, get_or, take, drop}
use Rattle.rules.specs.Limits.{file_limit}
use Rattle.rules.specs.Record.{section_of, body_length, party_section, term_section, setup_section, Piece, whole, fault, cut, pieces}
use Rattle.rules.specs.File.{File}
use Rattle.rules.specs.Load.{term_at, setup_at, command_at, record_fault, with_party, with_term, with_setup, with_command, enter, Load, loaded, refused, settle, step, feed, empty_file, load}
use Rattle.records.proofs.Lengths.{body_limit, body_small}

-- the bytes of a record at most
abbrev pub record_limit : ℕ
record_limit = 1 + body_limit

-- every piece begins at m or before
abbrev Near : ℕ → List Piece → Type 0
Near m [] = Unit {0}
Near m (whole at k body ∷ ps) = (at ≤ m) × Near m ps
Near m (fault r at ∷ ps) = (at ≤ m) × Near m ps

cut_near : (m : ℕ) (a b : Bool) (at k : ℕ) (body : List ℕ) (more : List Piece) → at ≤ m → Near m more → Near m (cut a b at k body more)
unfolding cut
cut_near m false b at k body more h near = (h, tt)
cut_near m true false at k body more h near = (h, tt)
cut_near m true true at k body more h near = (h, near)

pieces_near : (m n at : ℕ) (bs : List ℕ) → at + record_limit * n ≤ m → Near m (pieces n at bs)
unfolding pieces
pieces_near m zero at bs h = tt
pieces_near m (suc n) at [] h = tt
pieces_near m (suc n) at (k ∷ bs) h =
    cut_near m (ltb 0 (section_of k)) (eqb (length (take (body_length k) bs)) (body_length k)) at k (take (body_length k) bs) _ (omega arith)
    (pieces_near m n (at + 1 + body_length k) (drop (body_length k) bs) (omega (arith, body_small k)))

-- there are no more pieces than bytes
cut_few : (a b : Bool) (at k : ℕ) (body : List ℕ) (more : List Piece) → length (cut a b at k body more) ≤ suc (length more)
unfolding cut
cut_few false b at k body more = omega arith
cut_few true false at k body more = omega arith
cut_few true true at k body more = omega arith

pieces_few : (n at : ℕ) (bs : List ℕ) → length (pieces n at bs) ≤ n
unfolding pieces
pieces_few zero at bs = omega arith
pieces_few (suc n) at [] = omega arith
pieces_few (suc n) at (k ∷ bs) =
    omega
    (arith, cut_few (ltb 0 (section_of k)) (eqb (length (take (body_length k) bs)) (body_length k)) at k (take (body_length k) bs) (pieces n (at + 1 + body_length k) (drop (body_length k) bs)), pieces_few n (at + 1 + body_length k) (drop (body_length k) bs))

-- a record is one command at most
entered_few : (f : File) (at k : ℕ) (body : List ℕ) → length (enter f at k body).commands ≤ suc (length f.commands)
unfolding enter with_party with_term with_setup with_command
entered_few f at k body = go (eqb (section_of k) party_section) (eqb (section_of k) term_section) (eqb (section_of k) setup_section)
  where
    go : (a b c : Bool)
        → length (cond a (with_party f (get_or body 0 0)) (cond b (with_term f (term_at k body) at) (cond c (with_setup f (setup_at k body)) (with_command f (section_of k) (command_at k body))))).commands
        ≤ suc (length f.commands)
    go true b c = omega arith
    go false true c = omega arith
    go false false true = omega arith
    go false false false = omega arith

-- n commands at most, or a refusal at m or before
abbrev Within : ℕ → ℕ → Load → Type 0
Within n m (loaded f) = length f.commands ≤ n
Within n m (refused r at) = at ≤ m

settled : (n m r at : ℕ) (f : File) → at ≤ m → length f.commands ≤ n → Within n m (settle r at f)
unfolding settle
settled n m zero at f h l = l
settled n m (suc r) at f h l = h

fed : (t m n : ℕ) (ps : List Piece) (l : Load) → n + length ps ≤ t → Near m ps → Within n m l → Within t m (feed l ps)
unfolding feed step
fed t m n [] (loaded f) h near w = omega arith
fed t m n [] (refused r at) h near w = w
fed t m n (whole place k body ∷ ps) (refused r at) h near w = fed t m n ps (refused r at) (omega arith) near.1 w
fed t m n (fault q place ∷ ps) (refused r at) h near w = fed t m n ps (refused r at) (omega arith) near.1 w
fed t m n (fault q place ∷ ps) (loaded f) h near w = fed t m n ps (refused q place) (omega arith) near.1 near.0
fed t m n (whole place k body ∷ ps) (loaded f) h near w =
    fed t m (suc n) ps (settle (record_fault f k body) place (enter f place k body)) (omega arith) near.1
    (settled (suc n) m (record_fault f k body) place (enter f place k body) near.0 (omega (arith, entered_few f place k body)))

either_within : (n m : ℕ) (t : Bool) (l l' : Load) → Within n m l → Within n m l' → Within n m (cond t l l')
either_within n m true l l' w w' = w
either_within n m false l l' w w' = w'

load_within : (bytes : List ℕ) → Within (length bytes) (record_limit * length bytes) (load bytes)
unfolding load empty_file
load_within bytes =
    either_within (length bytes) (record_limit * length bytes) (leb (length bytes) file_limit) _ (refused 2 0)
    (fed (length bytes) (record_limit * length bytes) 0 (pieces (length bytes) 0 bytes) (loaded empty_file) (omega (arith, pieces_few (length bytes) 0 bytes)) (pieces_near (record_limit * length bytes) (length bytes) 0 bytes (omega arith)) (omega arith))
    (omega arith)

pub few_commands : (bytes : List ℕ) (f : File) → load bytes ≡ loaded f → length f.commands ≤ length bytes
few_commands bytes f e = subst (Within (length bytes) (record_limit * length bytes)) e (load_within bytes)

pub near_refusal : (bytes : List ℕ) (r at : ℕ) → load bytes ≡ refused r at → at ≤ record_limit * length bytes
near_refusal bytes r at e = subst (Within (length bytes) (record_limit * length bytes)) e (load_within bytes)
