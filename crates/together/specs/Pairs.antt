-- The pairs of a 43 as the code has read them.
use Rattle.std.specs.Prelude.{List, [], ◌∷◌, ℕ, map}
use Rattle.rules.specs.File.{File, IakPair}
use Rattle.requests.specs.Formed.{Requested}
use Rattle.together.specs.declared.Pair.{Pair}

-- the rules' pair
abbrev pub pair_of : Pair → IakPair
pair_of x = record { credential = x.credential; certificate = x.certificate }

abbrev pub pairs_of : List Pair → List IakPair
pairs_of xs = map pair_of xs

-- the credential of each pair was opened with a request of the form that a challenge asks for
abbrev pub PairsRequested : File → (ℕ → ℕ) → List IakPair → Type 0
PairsRequested f request [] = Unit {0}
PairsRequested f request (x ∷ xs) = Requested f (request x.credential) × PairsRequested f request xs
