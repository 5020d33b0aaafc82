-- What the tables of a loaded file say of a key. Assumes nothing.
use mathlib.Core.Path.{◌≡◌, refl, sym, ◌∙◌}
use mathlib.Core.Bool.{true}
use mathlib.Core.List.{List}
use Prim.Native.Nat.{ℕ, ◌+◌, ◌<◌}
use lib.Dec.{eqb}
use borrow.Author.Tests.{eq-eqb, eqb-true}
use Rattle.rules.specs.Limits.{party_limit}
use Rattle.rules.specs.File.{File, signs_for, is_signing_key}
use Rattle.rules.specs.Load.{load, loaded}
use Rattle.tables.specs.Columns.{TableColumns}
use Rattle.theorems.proofs.Loading.{checked}
use Rattle.theorems.proofs.Terms.{setup_finds, signs_given}
use Rattle.loader.specs.Tabled.{Tabled}
use Rattle.scan.proofs.Faults.{same_test, signer_is, signer_given}

-- a 22 made the key the party's where the key stands at the party's place
pub signs_for_table : (bytes : List ℕ) (f : File) (v : TableColumns) → load bytes ≡ loaded f → Tabled f v → (p k : ℕ) → p < party_limit → signs_for f p k ≡ eqb (v.signer p) (k + 1)
unfolding signs_for is_signing_key
signs_for_table bytes f v e t p k h = same_test _ _ to back
  where
    to : signs_for f p k ≡ true → eqb (v.signer p) (k + 1) ≡ true
    to s = eq-eqb _ _ (t.signer p h ∙ signer_is f (checked bytes f e) p k (signs_given f p k s))

    back : eqb (v.signer p) (k + 1) ≡ true → signs_for f p k ≡ true
    back s = setup_finds (is_signing_key p k) (simp (eq-eqb p p refl, eq-eqb k k refl)) (signer_given f p k (sym (t.signer p h) ∙ eqb-true _ _ s))
