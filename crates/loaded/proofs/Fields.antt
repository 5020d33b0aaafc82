-- The kind of a term of the file by the byte where it stands.
-- Assumes nothing.
use mathlib.Core.Path.{◌≡◌, sym, ap, ◌∙◌}
use mathlib.Core.List.{List}
use Prim.Native.Nat.{ℕ, ◌+◌}
use lib.ListN.{take, drop}
use Rattle.rules.specs.Term.{kind_of}
use Rattle.rules.specs.Record.{body_length}
use Rattle.rules.specs.File.{kind}
use Rattle.state.specs.View.{view}
use Rattle.records.proofs.Keys.{term_kind}
use Rattle.learning.specs.There.{kind_there, term_there}
use Rattle.loaded.specs.Loaded.{file_in, TermHere}

pub kind_here : {bs s : List ℕ} {t : ℕ} → TermHere bs s t → kind_there bs ((view s).place t) ≡ kind (file_in bs) t
unfolding kind term_there
kind_here {bs} {s} {t} w =
    sym (term_kind (kind_there bs ((view s).place t)) (take (body_length (kind_there bs ((view s).place t))) (drop ((view s).place t + 1) bs)) w.whole.is_term) ∙ ap kind_of w.same
