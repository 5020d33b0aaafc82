-- Set-up by the bytes alone: refusals 10 to 12, and what an allowed record leaves.
use Rattle.tables.specs.declared.columns.Tables.{Tables}
use Rattle.std.specs.Prelude.{◌≡◌, Bool, false, not, ◌&&◌, ◌||◌, List, ℕ, zero, suc, ◌+◌, ◌*◌, ◌<◌, ◌≤◌, eqb, length, get_or}
use Rattle.rules.specs.Limits.{party_limit, device, tpm_maker}
use Rattle.rules.specs.Attributes.{has, fixed_tpm, same_attributes, desk_key_attributes}
use Rattle.rules.specs.Term.{public_key_kind, number_kind, certificate_kind, fields_in, attributes_of, subject_of, is_tpm_subject}
use Rattle.rules.specs.File.{Setup, learns, holds, signs_with}
use Rattle.rules.specs.Record.{section_of, setup_section, word}
use Rattle.rules.specs.Load.{refuse_unless}
use Rattle.rules.specs.Learning.{grant}
use Rattle.rules.specs.State.{put}
use Rattle.state.specs.View.{Columns, view, in_other, with_knows, with_table}
use Rattle.tables.specs.Columns.{tables_in}
use Rattle.learning.specs.There.{term_there, learn_there}
use Rattle.learning.specs.Noted.{Noted}
use Rattle.checks.specs.There.{role_there, kind_of_there, TermsThere}

-- a key is the signing key of a party of the role, among the first n
unfoldable pub signs_there : List ℕ → (ℕ → ℕ) → ℕ → ℕ → ℕ → Bool
signs_there bs signers role k zero = false
signs_there bs signers role k (suc p) = (eqb (signers p) (k + 1) && eqb (role_there bs p) role) || signs_there bs signers role k p

-- 20, 21, 22 are allowed
unfoldable pub may_learn_there : List ℕ → (ℕ → ℕ) → (ℕ → ℕ) → ℕ → ℕ → Bool
may_learn_there bs place signers parties t =
    eqb (kind_of_there bs place t) public_key_kind
    || eqb (kind_of_there bs place t) number_kind
    || (eqb (kind_of_there bs place t) certificate_kind
    && is_tpm_subject (subject_of (term_there bs (place t)))
    && signs_there bs signers tpm_maker (get_or (fields_in (term_there bs (place t))) 3 0) parties)

unfoldable pub may_hold_there : List ℕ → Columns → ℕ → ℕ → Bool
may_hold_there bs v p k = not (has (attributes_of (term_there bs (v.place k))) fixed_tpm) || not (in_other v.table p k party_limit)

unfoldable pub may_sign_there : List ℕ → Columns → (ℕ → ℕ) → ℕ → ℕ → Bool
may_sign_there bs v signers p k =
    not (eqb (role_there bs p) device)
    && eqb (signers p) 0
    && same_attributes (attributes_of (term_there bs (v.place k))) desk_key_attributes
    && v.table p k

-- 10, 11, 12
unfoldable pub allowed_there : List ℕ → Columns → (ℕ → ℕ) → ℕ → Setup → ℕ
allowed_there bs v signers parties (learns p t) = refuse_unless 10 (may_learn_there bs v.place signers parties t)
allowed_there bs v signers parties (holds p k) = refuse_unless 11 (may_hold_there bs v p k)
allowed_there bs v signers parties (signs_with p k) = refuse_unless 12 (may_sign_there bs v signers p k)

-- the columns after an allowed record
unfoldable pub setup_leaves : List ℕ → Columns → Setup → Columns
setup_leaves bs v (learns p t) = with_knows v (learn_there bs v.place p t v.knows)
setup_leaves bs v (holds p k) = with_table v (grant v.table p k)
setup_leaves bs v (signs_with p k) = v

-- the signing keys after an allowed record
unfoldable pub signers_leave : (ℕ → ℕ) → Setup → ℕ → ℕ
signers_leave signers (learns p t) = signers
signers_leave signers (holds p k) = signers
signers_leave signers (signs_with p k) = put signers p (k + 1)

-- what entering a set-up record needs: the terms, which the tables have; its fields are right
pub record EntersSetup (bs s : List ℕ) (tables : Tables) (body : List ℕ) (kind parties terms : ℕ) : Type 0 where
  pub there : TermsThere bs s terms
  pub noted : Noted bs (view s).place (tables_in tables).terms terms
  pub is_setup : section_of kind ≡ setup_section
  pub few_parties : parties ≤ party_limit
  pub parties_whole : 2 * parties ≤ length bs
  pub body_whole : 3 ≤ length body
  pub party : get_or body 0 0 < parties
  pub declared : word body 1 < terms
