-- The stock by its tests: what is read of a term and of a party.
--     number_here     whether a term is a number, by the kind that is read
--     desk_here, no_desk     whether a party is an OEM desk, by the role that is read; one that is not declared is none
-- Assumes nothing.
use Rattle.std.proofs.Common.{◌≡◌, ap, sym, ℕ, List, ◌<◌, ◌≤◌, length, false}
use lib.Dec.{eqb}
use lib.ListN.{get_or-eq_default}
use Rattle.rules.specs.Limits.{oem_desk, role_count}
use Rattle.rules.specs.Term.{number_kind}
use Rattle.rules.specs.File.{File, is_kind, role_of, is_role}
use Rattle.state.specs.View.{view}
use Rattle.learning.specs.There.{kind_there}
use Rattle.checks.specs.There.{role_there}
use Rattle.loaded.specs.Loaded.{file_in, Holds, TermHere}
use Rattle.loaded.proofs.Fields.{kind_here}

pub number_here : {bs s : List ℕ} {t : ℕ} → TermHere bs s t → is_kind (file_in bs) number_kind t ≡ eqb (kind_there bs ((view s).place t)) number_kind
unfolding is_kind
number_here w = ap (λ (k : ℕ). eqb k number_kind) (sym (kind_here w))

pub desk_here : {bs s : List ℕ} {p : ℕ} → Holds bs s → p < length (file_in bs).roles → is_role (file_in bs) oem_desk p ≡ eqb (role_there bs p) oem_desk
unfolding is_role
desk_here {bs} {s} {p} h l = ap (λ (r : ℕ). eqb r oem_desk) (sym (h.role p l))

pub no_desk : (f : File) {p : ℕ} → length f.roles ≤ p → is_role f oem_desk p ≡ false
unfolding is_role role_of
no_desk f h = ap (λ (x : ℕ). eqb x oem_desk) (get_or-eq_default f.roles role_count h)
