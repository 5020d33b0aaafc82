-- The listing by what a run leaves.
--     listed_run       what a run of all commands leaves is listed as the rules say
--     listed_fault     so is a refusal of the run
-- Assumes nothing.
use Rattle.std.proofs.Common.{◌≡◌, refl, sym, ap, subst, ◌∙◌, true, List, [], ◌∷◌, ◌++◌, ℕ, ◌+◌, ◌*◌, ◌≤◌, arith, length, take, Result, Ok, Err}
use Rattle.std.proofs.Math.ListN.{replicate, length-replicate}
use lib.Seq.{take_at}
use borrow.Author.Tests.{le-leb}
use Rattle.tables.specs.declared.columns.Tables.{Tables}
use Rattle.rules.specs.declared.Entry.{Entry}
use Rattle.rules.specs.declared.Refused.{Refused}
use Rattle.rules.specs.Codes.{number_of}
use Rattle.rules.specs.Limits.{file_limit, term_limit, command_limit, state_bytes, register_bytes}
use Rattle.rules.specs.File.{File, Command}
use Rattle.rules.specs.Load.{Load, loaded, refused, load}
use Rattle.rules.specs.State.{start}
use Rattle.rules.specs.Run.{run, outcomes, first_commands, reached, outcomes_of, zeros, others, accepted, refusals, issued}
use Rattle.rules.specs.Lent.{Answer, refusal, in_numbers, no_entry, Lent, long_enough, first_part, written, leaves, answered, run_answer, run_leaves}
use Rattle.rules.specs.Listing.{line, refusal_lines, entry_lines, lines, listing}
use Rattle.theorems.proofs.Laws.{totals}
use Rattle.loaded.specs.Loaded.{file_in}
use Rattle.decimal.specs.Text.{Written}
use Rattle.decimal.proofs.Writing.{written_then, written_length}
use Rattle.lister.specs.Text.{refusal_bytes, entry_bytes, total_bytes, fault_bytes, listing_bytes, Listed}
use Rattle.lister.proofs.Room.{listed}
use Rattle.engine.proofs.Few.{loaded_short, all_commands_lem}
use Rattle.engine.specs.Runs.{lent_with}
use Rattle.engine.specs.declared.Finished.{Finished}
use Rattle.engine.specs.Raw.{ran_in, Ran, Stood}

-- the lines of a file that loads, by any run of all its commands
lines_of : (f : File) (n : ℕ) → first_commands f n ≡ first_commands f (length f.commands)
    → refusal_lines 0 (outcomes_of f n) ++ (entry_lines (reached f n).ledger ++ line 0x54 (accepted f n ∷ refusals f n ∷ issued f n ∷ [])) ≡ lines (loaded f)
unfolding lines outcomes_of reached accepted refusals issued
lines_of f n e =
    ap
    (λ (cs : List Command).
    refusal_lines 0 (outcomes f cs (start f))
    ++ (entry_lines (run f cs (start f)).ledger ++ line 0x54 (zeros (outcomes f cs (start f)) ∷ others (outcomes f cs (start f)) ∷ length (run f cs (start f)).ledger ∷ [])))
    e

lines_refused : (number place : ℕ) → line 0x46 (number ∷ place ∷ []) ≡ lines (refused number place)
unfolding lines
lines_refused number place = refl

listing_by : (bs : List ℕ) (l : Load) → load bs ≡ l → lines l ≡ listing bs
unfolding listing
listing_by bs l e = ap lines (sym e)

answered_refusal : (n : ℕ) (l : Load) (number place : ℕ) → refusal number place ≡ answered n l → l ≡ refused number place
unfolding answered
answered_refusal n (loaded f) number place e = absurd (let z : ◌≡◌ {A = ℕ} 0 3 = ap (λ (x : Answer). length x.values) e in omega arith)
answered_refusal n (refused m at) number place e = sym (λ k. refused (e k).number (e k).place)

run_by : (bs : List ℕ) (n : ℕ) (lent : Lent) → long_enough lent ≡ true → run_answer bs n lent ≡ answered n (load bs)
unfolding run_answer
run_by bs n lent e = rw e refl

-- a run leaves the outcomes and the entries in front
outcomes_front : (bs : List ℕ) (n : ℕ) (lent : Lent) (f : File) → load bs ≡ loaded f → long_enough lent ≡ true → {out : List ℕ} → out ≡ (run_leaves bs n lent).outcomes → {k : ℕ} → length (outcomes_of f n) ≡ k → take k out ≡ outcomes_of f n
unfolding run_leaves leaves written first_part
outcomes_front bs n lent f l e {out} same {k} h =
    let same' : out ≡ first_part command_limit 0 (outcomes_of f n) lent.outcomes = rw (e, le-leb (length bs) file_limit (loaded_short bs f l), l) at same in
    ap (take k) same' ∙ take_at (outcomes_of f n) _ k h

entries_front : (es old : List Entry) {l : List Entry} → l ≡ first_part term_limit no_entry es old → {k : ℕ} → length es ≡ k → take k l ≡ es
unfolding first_part
entries_front es old e {k} h = ap (take k) e ∙ take_at es _ k h

enough : (lent : Lent) → state_bytes ≤ length lent.state → term_limit ≤ length lent.ledger → command_limit ≤ length lent.outcomes → register_bytes ≤ length lent.registers → long_enough lent ≡ true
unfolding long_enough
enough lent s l o g = rw (le-leb state_bytes (length lent.state) s, le-leb term_limit (length lent.ledger) l, le-leb command_limit (length lent.outcomes) o, le-leb register_bytes (length lent.registers) g) refl

-- of buffers of zeros
pub enough_zeros : (e : Entry) → long_enough (lent_with (replicate state_bytes 0) (replicate term_limit e) (replicate command_limit 0) (replicate register_bytes 0)) ≡ true
enough_zeros e =
    enough (lent_with (replicate state_bytes 0) (replicate term_limit e) (replicate command_limit 0) (replicate register_bytes 0)) (omega (arith, length-replicate {A = ℕ} state_bytes 0)) (omega (arith, length-replicate term_limit e))
    (omega (arith, length-replicate {A = ℕ} command_limit 0)) (omega (arith, length-replicate {A = ℕ} register_bytes 0))

module _ (bs : List ℕ) (lent : Lent) where
  abbrev n : ℕ
  n = length bs

  -- the lines of a run
  text_is : {after : Lent} {tables : Tables} (r : Finished) → Ran bs n lent after (Ok r) → Stood bs n lent after tables r
      → refusal_lines 0 (take (r.progress.accepted + r.progress.refused) after.outcomes) ++ (entry_lines (take r.progress.issued after.ledger) ++ line 0x54 (r.progress.accepted ∷ r.progress.refused ∷ r.progress.issued ∷ [])) ≡ listing bs
  text_is {after} r run st =
      let file = file_in bs in
      let a = r.progress.accepted in
      let b = r.progress.refused in
      let i = r.progress.issued in
      let loads : load bs ≡ loaded file = st.stands.holds.loads in
      let m : length (outcomes_of file n) ≡ a + b = omega (arith, (totals file n).0, st.accepted, st.refused) in
      let ea = st.accepted in
      let eb = st.refused in
      let ei = st.issued in
      ap (λ (xs : List ℕ). refusal_lines 0 xs ++ (entry_lines (take i after.ledger) ++ line 0x54 (a ∷ b ∷ i ∷ []))) (outcomes_front bs n lent file loads st.enough (ap (λ (y : Lent). y.outcomes) run.buffers) m)
      ∙ ap (λ (es : List Entry). refusal_lines 0 (outcomes_of file n) ++ (entry_lines es ++ line 0x54 (a ∷ b ∷ i ∷ []))) (entries_front (reached file n).ledger lent.ledger st.ledger st.stands.enters.count)
      ∙ (λ j. refusal_lines 0 (outcomes_of file n) ++ (entry_lines (reached file n).ledger ++ line 0x54 (ea j ∷ eb j ∷ ei j ∷ [])))
      ∙ lines_of file n (all_commands_lem bs file loads)
      ∙ listing_by bs (loaded file) loads

  pub listed_run : {after : Lent} {tables : Tables} (r : Finished) → Ran bs n lent after (Ok r) → Stood bs n lent after tables r → {t₀ t₁ t₂ t₃ : List ℕ} {at next end : ℕ} → listing_bytes ≤ length t₀
      → Written t₀ 0 (refusal_lines 0 (take (r.progress.accepted + r.progress.refused) after.outcomes)) t₁ at → at ≤ 0 + refusal_bytes * (r.progress.accepted + r.progress.refused)
      → Written t₁ at (entry_lines (take r.progress.issued after.ledger)) t₂ next × (next ≤ at + entry_bytes * r.progress.issued)
      → Written t₂ next (line 0x54 (r.progress.accepted ∷ r.progress.refused ∷ r.progress.issued ∷ [])) t₃ end → end ≤ next + total_bytes
      → Listed (listing bs) t₀ t₃ end
  listed_run {after} r run st {t₀} {t₁} {t₂} {t₃} {at} {next} {end} room head short mid last few =
      listed (subst (λ (t : List ℕ). Written t₀ 0 t t₃ end) (text_is r run st) (written_then head (written_then mid.0 last)))
      (omega (arith, short, mid.1, few, st.few, st.stands.enters.few)) room

  pub listed_fault : {after : Lent} (r : Refused) → Ran bs n lent after (Err r) → long_enough lent ≡ true → {t t' : List ℕ} {end : ℕ} → listing_bytes ≤ length t
      → Written t 0 (line 0x46 (number_of r.refusal ∷ r.place ∷ [])) t' end → end ≤ 0 + fault_bytes → Listed (listing bs) t t' end
  unfolding in_numbers
  listed_fault {after} r run long {t} {t'} {end} room only few =
      let number = number_of r.refusal in
      let e : load bs ≡ refused number r.place = answered_refusal n (load bs) number r.place (run.answer ∙ run_by bs n lent long) in
      listed (subst (λ (xs : List ℕ). Written t 0 xs t' end) (lines_refused number r.place ∙ listing_by bs (refused number r.place) e) only) (omega (arith, few)) room
