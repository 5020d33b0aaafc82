-- Refusals looked for one after the other, as code does: the first test that fails.
use Rattle.std.specs.Prelude.{cond, List, [], ◌∷◌, ℕ}
use Rattle.rules.specs.Refusals.{Test}

unfoldable pub chain : List Test → ℕ
chain [] = 0
chain (t ∷ ts) = cond t.passes (chain ts) t.refusal
