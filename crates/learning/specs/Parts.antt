-- The parts of a term as the code hands them on.
use Rattle.std.specs.Prelude.{List, [], ◌∷◌, ℕ}
use Rattle.learning.specs.declared.Parts.{Parts}
use Rattle.learning.specs.declared.Parts.TheVariants.{Nothing, One, Two}

abbrev pub listed : Parts → List ℕ
listed Nothing = []
listed (One a) = a ∷ []
listed (Two a b) = a ∷ b ∷ []
