-- Laws of a 43, all IAKs of a board together (request 4 of document 02): of every file, in any state.
use Rattle.std.specs.Prelude.{◌≡◌, ◌⊎◌, true, false, List, [], ◌∷◌, ◌++◌, ℕ, length, replicate}
use Rattle.rules.specs.declared.Entry.{Entry}
use Rattle.rules.specs.Limits.{oem_desk}
use Rattle.rules.specs.File.{File, IakPair, Command, issue_iak, issue_iaks, is_role}
use Rattle.rules.specs.Load.{first}
use Rattle.rules.specs.State.{State}
use Rattle.rules.specs.Desk.{certificates_of, any_twice}
use Rattle.rules.specs.Run.{outcome, after, run, outcomes}

-- the 3F of each pair
unfoldable pub singles : ℕ → ℕ → List IakPair → List Command
singles p q [] = []
singles p q (x ∷ xs) = issue_iak p q x.credential x.certificate ∷ singles p q xs

-- the refusal of the first command of a list that is refused, 0 where none is
unfoldable pub first_refused : File → State → List Command → ℕ
first_refused f s [] = 0
first_refused f s (c ∷ cs) = first (outcome f s c) (first_refused f (after f s c) cs)

-- 13 before all else
abbrev pub RoleFirst : Type 0
RoleFirst = (f : File) (s : State) (p q : ℕ) (xs : List IakPair) → is_role f oem_desk p ≡ false → outcome f s (issue_iaks p q xs) ≡ 13

-- then 32: no pair, or two certificates alike
abbrev pub PairsNext : Type 0
PairsNext =
    (f : File) (s : State) (p q : ℕ) (xs : List IakPair) → is_role f oem_desk p ≡ true → (length xs ≡ 0) ⊎ (any_twice (certificates_of xs) ≡ true)
    → outcome f s (issue_iaks p q xs) ≡ 32

-- then the refusal of the first pair that fails: what its 3Fs, one after the other, are refused with first
abbrev pub InTurn : Type 0
InTurn =
    (f : File) (s : State) (p q : ℕ) (xs : List IakPair) → is_role f oem_desk p ≡ true → (length xs ≡ 0 → ⊥) → any_twice (certificates_of xs) ≡ false
    → outcome f s (issue_iaks p q xs) ≡ first_refused f s (singles p q xs)

-- an accepted 43 leaves what its 3Fs leave, one after the other, each of them accepted
abbrev pub All : Type 0
All =
    (f : File) (s : State) (p q : ℕ) (xs : List IakPair) → outcome f s (issue_iaks p q xs) ≡ 0
    → (after f s (issue_iaks p q xs) ≡ run f (singles p q xs) s) × (outcomes f (singles p q xs) s ≡ replicate (length xs) 0)

-- a refused one changes nothing
abbrev pub OrNone : Type 0
OrNone = (f : File) (s : State) (p q : ℕ) (xs : List IakPair) → (outcome f s (issue_iaks p q xs) ≡ 0 → ⊥) → after f s (issue_iaks p q xs) ≡ s

-- the ledger gains the certificates of the pairs in their order
unfoldable pub certificates_in : List Entry → List ℕ
certificates_in [] = []
certificates_in (e ∷ es) = e.certificate ∷ certificates_in es

abbrev pub InOrder : Type 0
InOrder =
    (f : File) (s : State) (p q : ℕ) (xs : List IakPair) → outcome f s (issue_iaks p q xs) ≡ 0
    → certificates_in (after f s (issue_iaks p q xs)).ledger ≡ certificates_in s.ledger ++ certificates_of xs

pub record TogetherLaws : Type 0 where
  pub role_first : RoleFirst
  pub pairs_next : PairsNext
  pub in_turn : InTurn
  pub all : All
  pub or_none : OrNone
  pub in_order : InOrder
