-- Accepted commands that issue a certificate.
use Rattle.tables.specs.declared.columns.Tables.{Tables}
use Rattle.std.specs.Prelude.{List, ℕ, ◌<◌}
use Rattle.rules.specs.declared.Family.{Family}
use Rattle.rules.specs.File.{issue_iak, issue}
use Rattle.rules.specs.Desk.{parent_certificate_of}
use Rattle.theorems.proofs.Loading.{Wellformed}
use Rattle.theorems.proofs.Requests.{DeskParent}
use Rattle.state.specs.View.{view}
use Rattle.tables.specs.Columns.{tables_in}
use Rattle.loaded.specs.Loaded.{file_in, Finds}
use Rattle.loaded.specs.Entries.{Accepts}
use Rattle.requests.specs.Formed.{Requested}

-- 3F, with the returning party that it was accepted for
pub record IssuesIak (bs s : List ℕ) (tables : Tables) (n party c r : ℕ) : Type 0 where
  pub other : ℕ
  pub wellformed : Wellformed (file_in bs) (issue_iak party other c r)
  pub requested : Requested (file_in bs) ((view s).request c)
  pub accepts : Accepts bs s tables n (issue_iak party other c r)
  pub finds : Finds bs tables

-- the tables have an entry for the certificate in each known 18 request, where a desk signed it that may
abbrev pub ParentsEntered : List ℕ → List ℕ → Tables → Type 0
ParentsEntered bs s tables = (p q : ℕ) → DeskParent (file_in bs) (view s).knows p q → 0 < (tables_in tables).entry (parent_certificate_of (file_in bs) q)

-- 40, 41 or 42, with the family that it was accepted for
pub record IssuesOnRequest (bs s : List ℕ) (tables : Tables) (n party q r : ℕ) : Type 0 where
  pub family : Family
  pub wellformed : Wellformed (file_in bs) (issue family party q r)
  pub accepts : Accepts bs s tables n (issue family party q r)
  pub finds : Finds bs tables
  pub parents : ParentsEntered bs s tables
