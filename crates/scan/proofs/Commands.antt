-- The records after the first command's: a record is a command's where the section so far is that of the commands, or it
-- is the first.
-- Assumes nothing.
use mathlib.Core.Path.{◌≡◌, ap, subst}
use mathlib.Core.Logic.{◌⊎◌, inl, inr}
use mathlib.Core.List.{List}
use Prim.Native.Nat.{ℕ, ◌<◌, ◌≤◌}
use native.Mathlib.Omega.{arith}
use lib.ListN.{length, get_or}
use borrow.Author.Tests.{le-ltb}
use Rattle.rules.specs.Record.{section_of, command_section}
use Rattle.rules.specs.Load.{first}
use Rattle.tables.specs.Columns.{Terms, tables_in}
use Rattle.tables.specs.declared.columns.Tables.{Tables}
use Rattle.checks.specs.There.{head_fault}
use Rattle.checks.specs.Fields.{Plain}
use Rattle.records.proofs.Lengths.{section_most}
use Rattle.theorems.proofs.Pieces.{body_at}
use Rattle.reader.specs.Place.{next_place}
use Rattle.scan.specs.declared.Tally.{Tally}
use Rattle.scan.specs.Describes.{counted, checked_fault, Stands}
use Rattle.scan.proofs.Scanning.{order, command_taken}

-- a command whose fields are seen to be right at once is right
pub plain_right : {bs : List ℕ} {v : Terms} {parties terms at end : ℕ} (section : ℕ) → section ≤ command_section → Plain bs v parties terms at end → checked_fault bs v section parties terms at ≡ 0
unfolding checked_fault first head_fault next_place body_at
plain_right {bs} {at = at} section o d =
    let w = d.whole in
    let e = d.ends in
    rw (d.command, le-ltb (length bs) (next_place bs at) (omega arith), le-ltb command_section section o) d.right

-- the section so far is that of the commands, or the record at hand is the first of them
abbrev pub Begun : List ℕ → Tally → ℕ → Type 0
Begun bs n at = (n.section ≡ command_section) ⊎ (section_of (get_or bs at 0) ≡ command_section)

-- a command is taken
module _ {bs s links : List ℕ} {tables : Tables} {n : Tally} {at : ℕ} (w : Stands bs s links tables n at) (b : Begun bs n at) (h : at < length bs)
    (z : checked_fault bs (tables_in tables).terms n.section n.parties n.terms at ≡ 0) where
  a_command : section_of (get_or bs at 0) ≡ command_section
  a_command = go b
    where
      go : Begun bs n at → section_of (get_or bs at 0) ≡ command_section
      go (inl e) = omega (arith, e, order w.here w.indexed.noted h z, section_most (get_or bs at 0))
      go (inr e) = e

  next_command : Stands bs s links tables (counted command_section n) (next_place bs at)
  unfolding counted
  next_command = record { here = command_taken w.here w.indexed.noted h z a_command; indexed = w.indexed }

  pub commands_next : {m : Tally} {next : ℕ} → m ≡ counted command_section n → next ≡ next_place bs at
      → Stands bs s links tables m next × Begun bs m next × (m.parties ≡ n.parties) × (m.terms ≡ n.terms)
  unfolding counted
  commands_next c e = (rw (c, e) next_command, inl (ap (λ (t : Tally). t.section) c), ap (λ (t : Tally). t.parties) c, ap (λ (t : Tally). t.terms) c)

-- at the file's end
pub stands_end : {bs s links : List ℕ} {tables : Tables} {n : Tally} {at : ℕ} → Stands bs s links tables n at → length bs ≤ at → Stands bs s links tables n (length bs)
stands_end {bs} {s} {links} {tables} {n} {at} w h =
    let e : at ≡ length bs = let i = w.here.inside in omega arith in
    subst (Stands bs s links tables n) e w
