-- Laws of the families of issued certificates (request 1 of document 02): of every file that loads and every n.
use Rattle.std.specs.Prelude.{◌≡◌, ℕ}
use mathlib.Core.List.{List, Memᴰ}
use Rattle.rules.specs.declared.Entry.{Entry}
use Rattle.rules.specs.declared.Family.{Family}
use Rattle.rules.specs.Families.{iak_family, idevid_family, ldevid_family, request_families}
use Rattle.rules.specs.File.{File, issue}
use Rattle.rules.specs.Load.{loaded, load}
use Rattle.rules.specs.Run.{outcome, reached}
use Rattle.theorems.specs.Residency.{EntryAt, Parent, OfFamily}

-- an entry is of one family alone
abbrev pub OneFamily : Type 0
OneFamily = (bytes : List ℕ) (f : File) → load bytes ≡ loaded f → (e : Entry) (a b : Family) → OfFamily f a e → OfFamily f b e → a ≡ b

-- a certificate of the family is never a parent, of whatever family the other is
abbrev pub NeverParent : Family → Type 0
NeverParent family =
    (bytes : List ℕ) (f : File) → load bytes ≡ loaded f → (n i : ℕ) (e : Entry) → EntryAt f n i e → OfFamily f family e
    → (other : Family) (t : ℕ) → Parent f n other t e.certificate → ⊥

-- every entry of the family has this depth
abbrev pub AlwaysAt : ℕ → Family → Type 0
AlwaysAt depth family = (bytes : List ℕ) (f : File) → load bytes ≡ loaded f → (n i : ℕ) (e : Entry) → EntryAt f n i e → OfFamily f family e → e.depth ≡ depth

-- no command that issues one of the family is refused for the depth
abbrev pub NeverTooDeep : Family → Type 0
NeverTooDeep family = (bytes : List ℕ) (f : File) → load bytes ≡ loaded f → (n p q r : ℕ) → outcome f (reached f n) (issue family p q r) ≡ 29 → ⊥

-- what a 40, 41 or 42 finds issued already is a certificate of its own family
abbrev pub IssuedByOwn : Type 0
IssuedByOwn =
    (bytes : List ℕ) (f : File) → load bytes ≡ loaded f → (n p q r : ℕ) (family : Family) → Memᴰ family request_families → outcome f (reached f n) (issue family p q r) ≡ 28
    → (i : ℕ) (e : Entry) → EntryAt f n i e → e.certificate ≡ r → OfFamily f family e

pub record FamilyLaws : Type 0 where
  pub one : OneFamily
  pub idevid_never_parent : NeverParent idevid_family
  pub ldevid_never_parent : NeverParent ldevid_family
  pub iak_depth : AlwaysAt 1 iak_family
  pub idevid_depth : AlwaysAt 2 idevid_family
  pub idevid_never_too_deep : NeverTooDeep idevid_family
  pub issued_by_own : IssuedByOwn
