-- Laws of registers (request 6 of document 02): what moves them, what they show before the commands and after n of
-- them, and how that is told back to the start.
use Rattle.std.specs.Prelude.{◌≡◌, ◌⊎◌, true, List, ℕ, suc, ◌<◌, ◌≤◌}
use Rattle.rules.specs.Limits.{device, empty_field}
use Rattle.rules.specs.Refusals.{applies}
use Rattle.rules.specs.Term.{pair_kind, register_kind, quote_kind}
use Rattle.rules.specs.File.{File, Command, extend, quote, role_of, kind, message, hashed_term, left_of, right_of, register_of}
use Rattle.rules.specs.Load.{loaded, load}
use Rattle.rules.specs.State.{State}
use Rattle.rules.specs.Run.{tests_of, outcome, after, reached}
use Rattle.theorems.specs.Residency.{Known, Accepted}

-- what register i of the party p shows after the first n commands
abbrev pub shows : File → ℕ → ℕ → ℕ → ℕ
shows f n p i = (reached f n).registers p i

-- a refused command, so a refused 44, moves no register, whatever the file and the state
abbrev pub RefusedMovesNone : Type 0
RefusedMovesNone = (f : File) (s : State) (c : Command) → (outcome f s c ≡ 0 → ⊥) → (after f s c).registers ≡ s.registers

-- a register is moved by an accepted 44 of its party and itself alone, and shows that command's r then
abbrev pub OnlyExtendMoves : Type 0
OnlyExtendMoves = (f : File) (n p i : ℕ) → (shows f (suc n) p i ≡ shows f n p i) ⊎ ((r : ℕ) × Accepted f n (extend p i r) × (shows f (suc n) p i ≡ r))

abbrev pub ExtendShows : Type 0
ExtendShows = (f : File) (n p i r : ℕ) → Accepted f n (extend p i r) → shows f (suc n) p i ≡ r

-- before the commands a device's register shows its 1B, where the file has one
abbrev pub StartsAtItsTerm : Type 0
StartsAtItsTerm =
    (bytes : List ℕ) (f : File) → load bytes ≡ loaded f → (p i t : ℕ) → role_of f p ≡ device → kind f t ≡ register_kind → register_of f t ≡ i → shows f 0 p i ≡ t

-- and nothing, where it has none
abbrev pub StartsEmpty : Type 0
StartsEmpty = (f : File) (p i : ℕ) → ((t : ℕ) → kind f t ≡ register_kind → register_of f t ≡ i → ⊥) → shows f 0 p i ≡ empty_field

-- What a register shows after n commands: what it started with, where no 44 of its party and itself among them was
-- accepted; else the last such one's r.
pub data Showing (f : File) (n p i : ℕ) : Type 0 where
  as_started : ((j r : ℕ) → j < n → Accepted f j (extend p i r) → ⊥) → shows f n p i ≡ shows f 0 p i → Showing f n p i
  by_last :
      (j r : ℕ) → j < n → Accepted f j (extend p i r) → ((k x : ℕ) → j < k → k < n → Accepted f k (extend p i x) → ⊥) → shows f n p i ≡ r
      → Showing f n p i

abbrev pub LastExtendShows : Type 0
LastExtendShows = (f : File) (n p i : ℕ) → Showing f n p i

-- a party that is no device, declared or not, never shows anything
abbrev pub OnlyDevicesShow : Type 0
OnlyDevicesShow = (f : File) (n p i : ℕ) → (role_of f p ≡ device → ⊥) → shows f n p i ≡ empty_field

-- an empty register stays empty
abbrev pub EmptyStays : Type 0
EmptyStays = (bytes : List ℕ) (f : File) → load bytes ≡ loaded f → (m n p i : ℕ) → m ≤ n → shows f m p i ≡ empty_field → shows f n p i ≡ empty_field

-- and 33 applies to every 44 and every 45 on it
abbrev pub EmptyNotExtended : Type 0
EmptyNotExtended =
    (bytes : List ℕ) (f : File) → load bytes ≡ loaded f → (n p i r : ℕ) → kind f (hashed_term f r) ≡ pair_kind → shows f n p i ≡ empty_field
    → applies 33 (tests_of f (reached f n) (extend p i r)) ≡ true

abbrev pub EmptyNotQuoted : Type 0
EmptyNotQuoted =
    (bytes : List ℕ) (f : File) → load bytes ≡ loaded f → (n p r : ℕ) → kind f (message f r) ≡ quote_kind → shows f n p (register_of f (message f r)) ≡ empty_field
    → applies 33 (tests_of f (reached f n) (quote p r)) ≡ true

-- What a register shows, told back to its start: its 1B, or a 12 over a pair of what it showed before and a term that
-- the device knew, which an accepted 44 made it show.
pub data Log (f : File) (p i : ℕ) : ℕ → ℕ → Type 0 where
  started : {n t : ℕ} → role_of f p ≡ device → kind f t ≡ register_kind → register_of f t ≡ i → Log f p i n t
  extended :
      {n t : ℕ} (j : ℕ) → j < n → Accepted f j (extend p i t) → Known f j p (right_of f (hashed_term f t)) → Log f p i j (left_of f (hashed_term f t)) → Log f p i n t

-- a register that is not empty has such a log
abbrev pub RegisterLog : Type 0
RegisterLog = (bytes : List ℕ) (f : File) → load bytes ≡ loaded f → (n p i : ℕ) → (shows f n p i ≡ empty_field → ⊥) → Log f p i n (shows f n p i)

pub record RegisterLaws : Type 0 where
  pub refused_moves_none : RefusedMovesNone
  pub only_extend_moves : OnlyExtendMoves
  pub extend_shows : ExtendShows
  pub starts_at_its_term : StartsAtItsTerm
  pub starts_empty : StartsEmpty
  pub last_extend_shows : LastExtendShows
  pub only_devices_show : OnlyDevicesShow
  pub empty_stays : EmptyStays
  pub empty_not_extended : EmptyNotExtended
  pub empty_not_quoted : EmptyNotQuoted
  pub register_log : RegisterLog
