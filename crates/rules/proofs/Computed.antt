-- What a scenario file gives, computed on the rules; and a name that opens every rule.
use mathlib.Core.Bool.{true}
use mathlib.Core.List.{List, [], ◌∷◌}
use Prim.Native.Nat.{ℕ, ◌-◌}
use lib.ListN.{length, drop}
use Rattle.rules.specs.declared.Entry.{Entry}
use Rattle.rules.specs.Refusals.{applies, first_of, refusal_of}
use Rattle.rules.specs.Attributes.{has, same_attributes}
use Rattle.rules.specs.Families.{family_of}
use Rattle.rules.specs.Term.{kind_of, subject_fields, fields_in, subject_of, attributes_of, same_subject, is_device_subject, is_tpm_subject, same_list, alike, any_alike, key_pair, parts_of}
use Rattle.rules.specs.Record.{width, widths, section_of, fields_of, body_length, word, cut, pieces}
use Rattle.rules.specs.File.{File, role_of, is_role, term, kind, is_kind, parts, field, hashed_term, message, signing_key, attested_key, credential_term, credential_number, credential_key, idevid_certificate, idevid_key, ldevid_message, ldevid_certificate, certified_key, signer, left_of, right_of, register_of, quoted_value, quote_number, subject, attributes, paired, some_term, half_in, some_setup, is_hold, is_other_hold, is_signing_key, is_signer, is_signing_key_for, holds_key, signs_for, signs_for_role, signs_for_some}
use Rattle.rules.specs.Load.{Load, loaded, refused, first, refuse_unless, subject_at, term_at, setup_at, empty_pair, pairs_at, command_at, section_fault, count_fault, declared_fault, field_fault, fields_fault, alike_fault, may_learn, may_hold, may_sign, allowed_fault, setup_fault, record_fault, with_party, with_term, with_setup, with_command, enter, settle, step, feed, empty_file, load, commands_of}
use Rattle.rules.specs.Learning.{grant, each, opened, learn}
use Rattle.rules.specs.State.{State, credential_open, nothing, taught, starting_at, start_registers, start, put, listed, depth_of, parent_of, end_of, learnt, ticketed, opening, closing, entered, showing}
use Rattle.rules.specs.Device.{device_role, key_has, holds_half, hash_tests, no_ticket, hash_effect, sign_tests, certify_tests, make_credential_tests, activate_credential_tests, both_known_tests, may_be_sent_by_desk, may_send, send_tests, self_issue_tests, check_role, check_tests, extend_tests, quote_tests}
use Rattle.rules.specs.Desk.{request_body, request_signature, form_tests, proof_tests, knowers, number_tests, iak_of, ek_certificate_of, ek_of, challenge_tests, challenge_effect, called_for, end_ek, all_end_at, issue_iak_tests, issue_iak_effect, attest_signature_of, new_key_of, parent_certificate_of, issue_tests, issue_effect, pair_tests, certificates_of, is_among, any_twice, issue_iaks_tests, issue_iaks_effect}
use Rattle.rules.specs.Run.{tests_of, effect_of, outcome, after, run, outcomes, first_commands, reached, outcomes_of, zeros, others, accepted, refusals, issued}
use Rattle.rules.specs.Limits.{command_limit}
use Rattle.rules.specs.Lent.{Answer, asked}
use Rattle.rules.specs.Stock.{in_stock, stock_among, stock, boards_left}
use Rattle.rules.specs.Listing.{digits, decimal, numbers, line, refusal_lines, entry_lines, lines, listing}

pub data Result : Type 0 where
  -- the outcomes; the ledger as (certificate, parent, depth); accepted, refused, issued
  ran : List ℕ → List (ℕ × ℕ × ℕ) → ℕ → ℕ → ℕ → Result
  -- the refusal and its place
  not_loaded : ℕ → ℕ → Result

unfoldable pub triples : List Entry → List (ℕ × ℕ × ℕ)
triples [] = []
triples (e ∷ es) = (e.certificate, e.parent, e.depth) ∷ triples es

-- all commands of the file are run
unfoldable pub result_of : Load → Result
result_of (loaded f) =
    let n = length f.commands in
    ran (outcomes_of f n) (triples (reached f n).ledger) (accepted f n) (refusals f n) (issued f n)
result_of (refused number place) = not_loaded number place

-- "unfolding result" opens the rules, loading and the listing with them
unfoldable pub result : List ℕ → Result
unfolding triples result_of applies first_of refusal_of has same_attributes kind_of subject_fields fields_in subject_of attributes_of same_subject is_device_subject is_tpm_subject same_list alike any_alike key_pair parts_of width widths section_of fields_of body_length word cut pieces role_of is_role term kind is_kind parts field hashed_term message signing_key attested_key credential_term credential_number credential_key idevid_certificate idevid_key ldevid_message ldevid_certificate certified_key signer left_of right_of register_of quoted_value quote_number subject attributes paired some_term half_in some_setup is_hold is_other_hold is_signing_key is_signer is_signing_key_for holds_key signs_for signs_for_role signs_for_some first refuse_unless subject_at term_at setup_at family_of empty_pair pairs_at command_at section_fault count_fault declared_fault field_fault fields_fault alike_fault may_learn may_hold may_sign allowed_fault setup_fault record_fault with_party with_term with_setup with_command enter settle step feed empty_file load commands_of grant each opened learn nothing taught starting_at start_registers start put listed depth_of parent_of end_of learnt ticketed opening closing entered showing device_role key_has holds_half hash_tests no_ticket hash_effect sign_tests certify_tests make_credential_tests activate_credential_tests both_known_tests may_be_sent_by_desk may_send send_tests self_issue_tests check_role check_tests extend_tests quote_tests request_body request_signature form_tests proof_tests knowers number_tests iak_of ek_certificate_of ek_of challenge_tests challenge_effect called_for end_ek all_end_at issue_iak_tests issue_iak_effect attest_signature_of new_key_of parent_certificate_of issue_tests issue_effect pair_tests certificates_of is_among any_twice issue_iaks_tests issue_iaks_effect tests_of effect_of outcome after run outcomes first_commands reached outcomes_of zeros others accepted refusals issued digits decimal numbers line refusal_lines entry_lines lines listing
result bytes = result_of (load bytes)

-- what the commands from place n on give where the ledger is another before them, a state that no file comes to
unfoldable pub with_ledger : State → List Entry → State
with_ledger s entries = record { knows = s.knows; table = s.table; mark = s.mark; desk = s.desk; request = s.request; registers = s.registers; ledger = entries }

unfoldable pub outcomes_with : List Entry → ℕ → Load → List ℕ
outcomes_with entries n (loaded f) = outcomes f (drop n (commands_of f)) (with_ledger (reached f n) entries)
outcomes_with entries n (refused number place) = number ∷ []

-- what the commands of a file give where every party knows everything before them, a state that no file comes to either
unfoldable pub outcomes_knowing : Load → List ℕ
outcomes_knowing (loaded f) =
    outcomes f (commands_of f)
    (record { knows = λ p t. true; table = (start f).table; mark = (start f).mark; desk = (start f).desk; request = (start f).request; registers = (start f).registers; ledger = [] })
outcomes_knowing (refused number place) = number ∷ []

-- the same where besides every credential is open at party 0 with the request that stands before it: the outcomes and the ledger
unfoldable pub all_open : File → State
all_open f = record { knows = λ p t. true; table = (start f).table; mark = λ t. credential_open; desk = λ t. 0; request = λ t. t - 1; registers = (start f).registers; ledger = [] }

unfoldable pub result_open : Load → List ℕ × List (ℕ × ℕ × ℕ)
result_open (loaded f) = (outcomes f (commands_of f) (all_open f), triples (run f (commands_of f) (all_open f)).ledger)
result_open (refused number place) = (number ∷ [], [])

-- the boards left after all commands, by a party and the IAKs per board; "unfolding result boards" opens the rules
unfoldable pub boards : List ℕ → ℕ → ℕ → Answer
unfolding asked in_stock stock_among stock boards_left
boards bytes party iaks = asked (boards_left party iaks) command_limit (load bytes)

-- what a register of a party shows after the first n commands, the refusal where the file does not load
unfoldable pub shown_by : ℕ → ℕ → ℕ → Load → ℕ
shown_by n party i (loaded f) = (reached f n).registers party i
shown_by n party i (refused number place) = number
