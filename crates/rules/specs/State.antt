-- The state between commands (document 01, "Run and Path"), and what the set-up leaves.
use Rattle.std.specs.Prelude.{Bool, false, cond, ◌||◌, ◌&&◌, List, [], ◌∷◌, ◌++◌, ℕ, zero, suc, eqb, get_or}
use Rattle.rules.specs.declared.Entry.{Entry}
use Rattle.rules.specs.declared.Term.{Term}
use Rattle.rules.specs.Limits.{device, empty_field}
use Rattle.rules.specs.Term.{register_kind, kind_of, fields_in}
use Rattle.rules.specs.File.{File, Setup, learns, holds, signs_with, is_role, holds_key}
use Rattle.rules.specs.Learning.{Knowledge, grant, learn}

-- marks of numbers and credentials
abbrev pub number_used : ℕ
number_used = 1

abbrev pub credential_open : ℕ
credential_open = 2

abbrev pub credential_closed : ℕ
credential_closed = 3

-- Known by, TPM table (of a private key: held), mark, desk that opened a credential, request that it was opened with;
-- what each register of a TPM shows; the ledger.
pub record State : Type 0 where
  pub knows : Knowledge
  pub table : Knowledge
  pub mark : ℕ → ℕ
  pub desk : ℕ → ℕ
  pub request : ℕ → ℕ
  pub registers : ℕ → ℕ → ℕ
  pub ledger : List Entry

unfoldable pub nothing : Knowledge
nothing p t = false

-- what the 20 records taught
unfoldable pub taught : File → List Setup → Knowledge
taught f [] = nothing
taught f (learns q u ∷ xs) = learn f q u (taught f xs)
taught f (holds q k ∷ xs) = taught f xs
taught f (signs_with q k ∷ xs) = taught f xs

-- the number of a register's 1B; empty_field where the file has none
unfoldable pub starting_at : List Term → ℕ → ℕ → ℕ
starting_at [] i n = empty_field
starting_at (t ∷ ts) i n =
    let later = starting_at ts i (suc n) in
    cond (eqb (kind_of t) register_kind && eqb (get_or (fields_in t) 0 0) i) n later

-- "Each device TPM gets 24 registers": a party that is no device shows none
unfoldable pub start_registers : File → ℕ → ℕ → ℕ
start_registers f p i = cond (is_role f device p) (starting_at f.terms i 0) empty_field

-- what the set-up leaves
unfoldable pub start : File → State
start f = record { knows = taught f f.setup; table = holds_key f; mark = λ t. 0; desk = λ t. 0; request = λ t. 0; registers = start_registers f; ledger = [] }

-- a column with x at t
unfoldable pub put : (ℕ → ℕ) → ℕ → ℕ → ℕ → ℕ
put column t x u = cond (eqb u t) x (column u)

-- the ledger has an entry for a certificate; the depth of that entry, 0 where there is none; its parent
unfoldable pub listed : List Entry → ℕ → Bool
listed [] c = false
listed (e ∷ es) c = eqb e.certificate c || listed es c

unfoldable pub depth_of : List Entry → ℕ → ℕ
depth_of [] c = 0
depth_of (e ∷ es) c = cond (eqb e.certificate c) e.depth (depth_of es c)

unfoldable pub parent_of : List Entry → ℕ → ℕ
parent_of [] c = 0
parent_of (e ∷ es) c = cond (eqb e.certificate c) e.parent (parent_of es c)

-- the certificate that so many steps lead to, each of them to the parent
unfoldable pub end_of : List Entry → ℕ → ℕ → ℕ
end_of es zero c = c
end_of es (suc n) c = end_of es n (parent_of es c)

-- What commands do to the state.
unfoldable pub learnt : File → State → ℕ → ℕ → State
learnt f s p t = record { knows = learn f p t s.knows; table = s.table; mark = s.mark; desk = s.desk; request = s.request; registers = s.registers; ledger = s.ledger }

unfoldable pub ticketed : State → ℕ → ℕ → State
ticketed s p h = record { knows = s.knows; table = grant s.table p h; mark = s.mark; desk = s.desk; request = s.request; registers = s.registers; ledger = s.ledger }

-- the number is used; the credential is open, with the request and the desk
unfoldable pub opening : State → ℕ → ℕ → ℕ → ℕ → State
opening s number credential request desk =
    record { knows = s.knows; table = s.table; mark = put (put s.mark number number_used) credential credential_open; desk = put s.desk credential desk; request = put s.request credential request; registers = s.registers; ledger = s.ledger }

unfoldable pub closing : State → ℕ → State
closing s credential = record { knows = s.knows; table = s.table; mark = put s.mark credential credential_closed; desk = s.desk; request = s.request; registers = s.registers; ledger = s.ledger }

unfoldable pub entered : State → Entry → State
entered s e = record { knows = s.knows; table = s.table; mark = s.mark; desk = s.desk; request = s.request; registers = s.registers; ledger = s.ledger ++ (e ∷ []) }

-- a register of a party's TPM shows r
unfoldable pub showing : State → ℕ → ℕ → ℕ → State
showing s p i r =
    record { knows = s.knows; table = s.table; mark = s.mark; desk = s.desk; request = s.request; registers = λ q j. cond (eqb q p && eqb j i) r (s.registers q j); ledger = s.ledger }
