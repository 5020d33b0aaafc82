-- A term's fields as one number, by which terms are looked for.
use Rattle.std.specs.Prelude.{List, [], ◌∷◌, ℕ, ◌+◌, ◌*◌, ◌<◌, get_or}
use Rattle.rules.specs.declared.Term.{Term}
use Rattle.rules.specs.Term.{fields_in}

-- four words, the first the lowest; the kind is left out, so that both halves of a key pair have one number
unfoldable pub key_of : List ℕ → ℕ
key_of xs = get_or xs 0 0 + 65536 * (get_or xs 1 0 + 65536 * (get_or xs 2 0 + 65536 * get_or xs 3 0))

-- the first four of a term's fields, 0 where it has fewer
abbrev pub words_of : List ℕ → List ℕ
words_of xs = get_or xs 0 0 ∷ get_or xs 1 0 ∷ get_or xs 2 0 ∷ get_or xs 3 0 ∷ []

-- each field of a term is a word
abbrev pub Small : Term → Type 0
Small x = (i : ℕ) → get_or (fields_in x) i 0 < 65536
