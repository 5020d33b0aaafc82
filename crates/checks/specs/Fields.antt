-- Refusals 7 and 8 at all fields of a body, and commands without any.
use Rattle.std.specs.Prelude.{◌≡◌, List, [], ◌∷◌, ℕ, ◌+◌, ◌≤◌, length, get_or, take, drop}
use Rattle.rules.specs.declared.Field.{Field}
use Rattle.rules.specs.Record.{section_of, body_length, fields_of, width, command_section}
use Rattle.rules.specs.Load.{first}
use Rattle.tables.specs.Columns.{Terms}
use Rattle.checks.specs.There.{field_fault_noted}

-- 7, 8: the fields of a body in their order, from an offset on
unfoldable pub fields_fault_noted : Terms → ℕ → ℕ → List Field → ℕ → List ℕ → ℕ
fields_fault_noted v parties terms [] i body = 0
fields_fault_noted v parties terms (x ∷ xs) i body = first (field_fault_noted v parties terms x i body) (fields_fault_noted v parties terms xs (i + width x) body)

-- a whole command stands from a place to another, and its fields are right
pub record Plain (bs : List ℕ) (v : Terms) (parties terms at end : ℕ) : Type 0 where
  pub command : section_of (get_or bs at 0) ≡ command_section
  pub ends : end ≡ at + 1 + body_length (get_or bs at 0)
  pub whole : end ≤ length bs
  pub right : fields_fault_noted v parties terms (fields_of (get_or bs at 0)) 0 (take (body_length (get_or bs at 0)) (drop (at + 1) bs)) ≡ 0
