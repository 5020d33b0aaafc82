-- A scenario file cut before or after a command: the cut file loads, and its run is the run of the whole file's first commands.
use Rattle.std.specs.Prelude.{◌≡◌, ◌⊎◌, Bool, cond, ◌&&◌, List, ℕ, zero, suc, ◌+◌, ◌-◌, ◌<◌, ◌≤◌, eqb, ltb, get_or, length, take, drop}
use Rattle.std.proofs.Math.Option.{none, some}
use Rattle.std.proofs.Math.ListN.{get_elem?}
use Rattle.rules.specs.Record.{section_of, command_section, body_length}
use Rattle.rules.specs.File.{File, Command}
use Rattle.rules.specs.Load.{command_at, loaded, refused, load, commands_of}
use Rattle.rules.specs.Run.{first_commands, reached, outcomes_of}
use Rattle.rules.specs.Lent.{Lent, run_answer, run_leaves, ask_answer, path_answer, path_buffers, path_leaves}
use Rattle.rules.specs.Stock.{boards_left}

-- Files.
-- g declares what f does, and its commands are the first n of f
pub record CutTo (n : ℕ) (f g : File) : Type 0 where
  pub roles : g.roles ≡ f.roles
  pub terms : g.terms ≡ f.terms
  pub places : g.places ≡ f.places
  pub setup : g.setup ≡ f.setup
  pub commands : commands_of g ≡ first_commands f n

-- a run of g, of n commands or more, leaves what a run of the first n of f does, with the same outcomes
abbrev pub FirstOnly : ℕ → File → File → Type 0
FirstOnly n f g = (m : ℕ) → n ≤ m → (reached g m ≡ reached f n) × (outcomes_of g m ≡ outcomes_of f n)

-- of any files
abbrev pub FilesCovered : Type 0
FilesCovered = (n : ℕ) (f g : File) → CutTo n f g → FirstOnly n f g

-- Bytes.
-- where the record after the one at a place begins
unfoldable pub record_after : List ℕ → ℕ → ℕ
record_after bs at = at + 1 + body_length (get_or bs at 0)

-- the record at a place is a command's; the command
unfoldable pub is_command_at : List ℕ → ℕ → Bool
is_command_at bs at = eqb (section_of (get_or bs at 0)) command_section

unfoldable pub command_of_record : List ℕ → ℕ → Command
command_of_record bs at = command_at (get_or bs at 0) (take (body_length (get_or bs at 0)) (drop (at + 1) bs))

-- where the record of the command of ordinal n begins, of those from a place on, or the file's end where there are at most n; the first number
-- bounds how many records are passed
unfoldable pub place_from : ℕ → List ℕ → ℕ → ℕ → ℕ
place_from zero bs n at = length bs
place_from (suc m) bs n at =
    let later = place_from m bs (n - cond (is_command_at bs at) 1 0) (record_after bs at) in
    cond (ltb at (length bs)) (cond (is_command_at bs at && eqb n 0) at later) (length bs)

-- the same, of all commands of the file
unfoldable pub command_place : List ℕ → ℕ → ℕ
command_place bs n = place_from (length bs) bs n 0

-- it is what it says: the record of the command of ordinal n begins there and ends where that of ordinal n + 1 begins, or the file has at most n
-- commands and ends there
abbrev pub PlaceNamed : Type 0
PlaceNamed =
    (bytes : List ℕ) (f : File) → load bytes ≡ loaded f → (n : ℕ)
    → ((get_elem? (commands_of f) n ≡ none) × (command_place bytes n ≡ length bytes))
    ⊎ ((get_elem? (commands_of f) n ≡ some (command_of_record bytes (command_place bytes n)))
    × (command_place bytes n < length bytes)
    × (command_place bytes (suc n) ≡ record_after bytes (command_place bytes n)))

-- cut there, the file loads, to its first n commands
abbrev pub CutLoads : Type 0
CutLoads =
    (bytes : List ℕ) (f : File) → load bytes ≡ loaded f → (n : ℕ)
    → (command_place bytes n ≤ length bytes) × ((g : File) × (load (take (command_place bytes n) bytes) ≡ loaded g) × CutTo n f g)

-- A file cut before the command of ordinal n leaves what came before that command, and one cut after it, at the place of ordinal n + 1, what the
-- whole command leaves: there is no state between.
abbrev pub CutCovered : Type 0
CutCovered =
    (bytes : List ℕ) (f : File) → load bytes ≡ loaded f → (n : ℕ)
    → (g : File) × (load (take (command_place bytes n) bytes) ≡ loaded g) × FirstOnly n f g

-- cut inside a command's record, the file is refused there with 4
abbrev pub CutInside : Type 0
CutInside =
    (bytes : List ℕ) (f : File) → load bytes ≡ loaded f → (n b : ℕ) → command_place bytes n < b → b < command_place bytes (suc n)
    → load (take b bytes) ≡ refused 4 (command_place bytes n)

-- Run and Path, of m commands of one file and of n of another, answer the same and leave the same in every lent place; and the stock of numbers
-- after them is the same
pub record SameAnswers (part : List ℕ) (m : ℕ) (whole : List ℕ) (n : ℕ) : Type 0 where
  pub run : (lent : Lent) → run_answer part m lent ≡ run_answer whole n lent
  pub run_lent : (lent : Lent) → run_leaves part m lent ≡ run_leaves whole n lent
  pub path : (lent : Lent) (t : ℕ) (list : List ℕ) → path_answer part m lent t list ≡ path_answer whole n lent t list
  pub path_lent : (lent : Lent) (t : ℕ) (list : List ℕ) → path_buffers part m lent t list ≡ path_buffers whole n lent t list
  pub path_list : (lent : Lent) (t : ℕ) (list : List ℕ) → path_leaves part m lent t list ≡ path_leaves whole n lent t list
  pub stock : (lent : Lent) (party iaks : ℕ) → ask_answer (boards_left party iaks) part m lent ≡ ask_answer (boards_left party iaks) whole n lent

abbrev pub CutAnswers : Type 0
CutAnswers = (bytes : List ℕ) (f : File) → load bytes ≡ loaded f → (n m : ℕ) → n ≤ m → SameAnswers (take (command_place bytes n) bytes) m bytes n

pub record CutLaws : Type 0 where
  pub files_covered : FilesCovered
  pub place_named : PlaceNamed
  pub cut_loads : CutLoads
  pub cut_covered : CutCovered
  pub cut_inside : CutInside
  pub cut_answers : CutAnswers
