-- A pair of a 43 judged on the state before the command (request 4 of document 02): what the rules of 3F ask of it there, and what the pairs
-- before it add.
use Rattle.std.specs.Prelude.{Bool, true, cond, not, ◌&&◌, ◌||◌, List, [], ◌∷◌, ℕ, eqb}
use Rattle.rules.specs.declared.Subject.{Subject}
use Rattle.rules.specs.Term.{same_subject}
use Rattle.rules.specs.File.{File, IakPair, issue_iak, subject}
use Rattle.rules.specs.Load.{first, refuse_unless}
use Rattle.rules.specs.State.{State}
use Rattle.rules.specs.Desk.{ek_of, is_among}
use Rattle.rules.specs.Run.{outcome}

unfoldable pub credentials_of : List IakPair → List ℕ
credentials_of [] = []
credentials_of (x ∷ xs) = x.credential ∷ credentials_of xs

-- each pair with a Subject has an EK, by the requests of the credentials
unfoldable pub others_end : File → (ℕ → ℕ) → Subject → ℕ → List IakPair → Bool
others_end f request x ek [] = true
others_end f request x ek (y ∷ ys) = (not (same_subject (subject f y.certificate) x) || eqb (ek_of f (request y.credential)) ek) && others_end f request x ek ys

-- 25 where a pair before it has its credential; what its 3F is refused with; 31 where a pair before it has its Subject and another EK
unfoldable pub judged : File → State → ℕ → ℕ → List IakPair → IakPair → ℕ
judged f s p q before x =
    cond (is_among x.credential (credentials_of before)) 25
    (first (outcome f s (issue_iak p q x.credential x.certificate))
    (refuse_unless 31 (others_end f s.request (subject f x.certificate) (ek_of f (s.request x.credential)) before)))
