-- The faults of the fields of a body, one field after the other. Assumes nothing.
use mathlib.Core.Bool.{true, false≢true}
use mathlib.Core.Path.{◌≡◌, refl, sym, ap, ◌∙◌}
use mathlib.Core.List.{List, ◌∷◌}
use Prim.Native.Nat.{ℕ, zero, suc, ◌+◌, ◌-◌, ◌<◌, ◌≤◌}
use native.Mathlib.Omega.{arith}
use lib.ListN.{length, get_or, drop}
use Rattle.std.proofs.Common.{add-one, drop-cons, Result, Ok, Err}
use Rattle.std.specs.Result.{is_ok}
use Rattle.std.proofs.lemmas.List.{drop_all}
use Rattle.rules.specs.declared.Field.{Field}
use Rattle.rules.specs.declared.Field.TheVariants.{RoleField}
use Rattle.rules.specs.declared.Refusal.{Refusal}
use Rattle.rules.specs.Codes.{number_of, number_in}
use Rattle.rules.specs.Record.{body_length, section_of, fields_of, width, widths}
use Rattle.rules.specs.Load.{first}
use Rattle.tables.specs.Columns.{Terms}
use Rattle.checks.specs.There.{field_fault_noted}
use Rattle.checks.specs.Fields.{fields_fault_noted}

pub refused_some : (r : Refusal) → number_of r ≡ 0 → ⊥
refused_some r e = grind arith

-- a refusal comes before what would be next
pub first_refused : (a : ℕ) (r : Refusal) (b : ℕ) → number_of r ≡ a → number_of r ≡ first a b
unfolding first
first_refused zero r b e = absurd (refused_some r e)
first_refused (suc a) r b e = e

pub first_passed : {a : ℕ} (b : ℕ) → 0 ≡ a → first a b ≡ b
unfolding first
first_passed b e = rw (← e) refl

module _ (xs : List Field) (i : ℕ) (h : i < length xs) where
  this_field : drop i xs ≡ get_or xs i RoleField ∷ drop (i + 1) xs
  this_field = rw (add-one, drop-cons xs i RoleField) refl

  pub widths_left : widths (drop i xs) ≡ width (get_or xs i RoleField) + widths (drop (i + 1) xs)
  unfolding widths
  widths_left = ap widths this_field

  pub faults_left : (v : Terms) (parties terms at : ℕ) (body : List ℕ) → fields_fault_noted v parties terms (drop i xs) at body ≡ first (field_fault_noted v parties terms (get_or xs i RoleField) at body) (fields_fault_noted v parties terms (drop (i + 1) xs) (at + width (get_or xs i RoleField)) body)
  unfolding fields_fault_noted
  faults_left v parties terms at body = ap (λ (fs : List Field). fields_fault_noted v parties terms fs at body) this_field

pub none_left : (xs : List Field) (i : ℕ) → length xs ≤ i → (v : Terms) (parties terms at : ℕ) (body : List ℕ) → fields_fault_noted v parties terms (drop i xs) at body ≡ 0
unfolding fields_fault_noted
none_left xs i h v parties terms at body = rw (drop_all i xs h) refl

-- the fields of a kind's body that were checked are right, whatever the parties
pub right_of : (v : Terms) (terms m k : ℕ) (body : List ℕ) (r : Result Unit Refusal) → fields_of k ≡ fields_of m → ((parties : ℕ) → number_in r ≡ fields_fault_noted v parties terms (fields_of m) 0 body) → is_ok r ≡ true
    → (parties : ℕ) → fields_fault_noted v parties terms (fields_of k) 0 body ≡ 0
right_of v terms m k body (Ok _) e h o parties = rw e (sym (h parties))
right_of v terms m k body (Err x) e h o parties = absurd (false≢true o)

-- a private key has the fields of a public one
pub key_fields : (k : ℕ) → 0x10 ≤ k → k < 0x12 → fields_of k ≡ fields_of 0x10
unfolding section_of fields_of
key_fields k l u = let e : k ≡ 0x10 + (k - 0x10) = omega (arith, l) in rw e (go (k - 0x10) (omega (arith, l, u)))
  where
    go : (d : ℕ) → d < 2 → fields_of (0x10 + d) ≡ fields_of 0x10
    go zero h = refl
    go (suc zero) h = refl
    go (suc (suc d)) h = absurd (omega (arith, h))

-- where a walk over the fields of a kind's body stands: what is left of them is in the body, and what is wrong with it is
-- all that is wrong
pub record Walk (v : Terms) (parties terms k : ℕ) (body : List ℕ) (xs : List Field) (i : ℕ) : Type 0 where
  pub inside : i + widths xs ≤ length body
  pub left : fields_fault_noted v parties terms (fields_of k) 0 body ≡ fields_fault_noted v parties terms xs i body

pub walk_begins : (v : Terms) (parties terms k : ℕ) (body : List ℕ) {xs : List Field} → body_length k ≤ length body → xs ≡ fields_of k → Walk v parties terms k body xs 0
unfolding body_length
walk_begins v parties terms k body l e = record { inside = omega (arith, l, ap widths e); left = rw e refl }

module _ {v : Terms} {parties terms k i : ℕ} {body : List ℕ} (xs : List Field) (j : ℕ) (w : Walk v parties terms k body (drop j xs) i) where
  pub walk_done : length xs ≤ j → fields_fault_noted v parties terms (fields_of k) 0 body ≡ 0
  walk_done h = w.left ∙ none_left xs j h v parties terms i body

  module _ (h : j < length xs) where
    pub walk_here : i + width (get_or xs j RoleField) ≤ length body
    walk_here = omega (arith, widths_left xs j h, w.inside)

    pub walk_refused : (r : Refusal) → number_of r ≡ field_fault_noted v parties terms (get_or xs j RoleField) i body → number_of r ≡ fields_fault_noted v parties terms (fields_of k) 0 body
    walk_refused r e = first_refused _ _ _ e ∙ sym (w.left ∙ faults_left xs j h v parties terms i body)

    pub walk_next : {m : ℕ} → 0 ≡ field_fault_noted v parties terms (get_or xs j RoleField) i body → m ≡ width (get_or xs j RoleField) → Walk v parties terms k body (drop (j + 1) xs) (i + m)
    walk_next e n = record {
      inside = omega (arith, widths_left xs j h, w.inside, n);
      left = w.left ∙ faults_left xs j h v parties terms i body ∙ first_passed _ e ∙ rw n refl;
    }
