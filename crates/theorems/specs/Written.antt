-- What Run writes into the lent buffers is what demand 3 speaks of: the ledger, and who knows what.
use Rattle.std.specs.Prelude.{◌≡◌, ◌↔◌, List, [], ◌∷◌, ℕ, ◌*◌, ◌/◌, ◌%◌, ◌^◌, ◌<◌, ◌≤◌, length, get_or}
use Rattle.std.proofs.Math.Option.{some}
use Rattle.std.proofs.Math.ListN.{get_elem?}
use Rattle.rules.specs.Limits.{party_limit, term_limit, row_width}
use Rattle.rules.specs.File.{File}
use Rattle.rules.specs.Load.{loaded, load}
use Rattle.rules.specs.Run.{reached}
use Rattle.rules.specs.Lent.{success, Lent, no_entry, run_answer, run_leaves}
use Rattle.theorems.specs.Residency.{Known, Resident}

-- What a run of the first n commands that answers i issued certificates leaves in the buffers that were lent.
pub record Written (bytes : List ℕ) (n : ℕ) (lent : Lent) (i : ℕ) : Type 0 where
  -- the bytes are a file that loads, and demand 3 holds of it
  pub file : File
  pub loads : load bytes ≡ loaded file
  pub resident : Resident file n
  -- the first i places hold the ledger that demand 3 speaks of, all of it; the places from i to 1,023 hold zeros
  pub count : i ≡ length (reached file n).ledger
  pub fits : i ≤ term_limit
  pub entries : (k : ℕ) → k < i → get_elem? (run_leaves bytes n lent).ledger k ≡ get_elem? (reached file n).ledger k
  pub no_others : (k : ℕ) → i ≤ k → k < term_limit → get_elem? (run_leaves bytes n lent).ledger k ≡ some no_entry
  -- of every declared term, bit p of the first of its state bytes is set exactly if the party p knows it
  pub known_bits :
      (p t : ℕ) → p < party_limit → t < length file.terms
      → (get_or (run_leaves bytes n lent).state (row_width * t) 0 / 2 ^ p % 2 ≡ 1) ↔ Known file n p t

-- of any bytes, any n and any buffers: a run that is not refused writes this
abbrev pub RunWrites : Type 0
RunWrites = (bytes : List ℕ) (n : ℕ) (lent : Lent) (a r i : ℕ) → run_answer bytes n lent ≡ success (a ∷ r ∷ i ∷ []) → Written bytes n lent i
