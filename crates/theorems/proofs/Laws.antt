-- Laws of the rules: of every file, and of every file that loads.
-- Assumes nothing.
use mathlib.Core.Path.{◌≡◌, refl, sym, ap, ◌∙◌}
use mathlib.Core.Logic.{◌⊎◌, ⊎_elim}
use mathlib.Core.Bool.{Bool, true, false, false≢true, cond}
use mathlib.Core.List.{List, [], ◌∷◌, Memᴰ}
use mathlib.Core.Option.{none, some}
use Prim.Native.Nat.{ℕ, zero, suc, ◌+◌, ◌<◌, ◌≤◌}
use native.Mathlib.Omega.{arith}
use lib.Dec.{eqb}
use lib.ListN.{length, get_or, get_elem?}
use Rattle.rules.specs.declared.Entry.{Entry}
use Rattle.rules.specs.Limits.{term_limit}
use Rattle.rules.specs.Refusals.{order, refusal_of}
use Rattle.rules.specs.Attributes.{fixed_tpm, has}
use Rattle.rules.specs.Term.{private_key_kind, hash_kind, certificate_kind}
use Rattle.rules.specs.File.{File, Command, kind, attributes, names, holds_key}
use Rattle.rules.specs.Load.{load, loaded, commands_of}
use Rattle.rules.specs.Learning.{Knowledge, learn}
use Rattle.rules.specs.State.{State, start}
use Rattle.rules.specs.Run.{tests_of, outcome, after, outcomes, first_commands, reached, outcomes_of, zeros, others, accepted, refusals, issued}
use Rattle.theorems.specs.Residency.{Inside}
use Rattle.theorems.proofs.Learning.{Closed, learn_kept, learn_inside, learn_only}
use Rattle.theorems.proofs.Booleans.{both_ways}
use Rattle.theorems.proofs.Passing.{among, found_among}
use Rattle.theorems.proofs.Loading.{Checked, checked}
use Rattle.theorems.proofs.Terms.{declared, holds_given}
use Rattle.theorems.proofs.Running.{after_refused, reached_none, reached_next, reached_end}
use Rattle.theorems.proofs.Ledgers.{at_within}
use Rattle.theorems.proofs.Invariant.{Invariant}
use Rattle.theorems.proofs.Reaching.{Steps, still, further, reached_invariant, reached_steps}
use Rattle.theorems.proofs.Pigeonhole.{pigeonhole}

-- a refused command changes nothing
pub refused_changes_nothing : (f : File) (s : State) (c : Command) → (outcome f s c ≡ 0 → ⊥) → after f s c ≡ s
refused_changes_nothing = after_refused

-- an outcome is 0 or a number of the order; 22 is none, in whatever state
pub outcome_in_order : (f : File) (s : State) (c : Command) (n : ℕ) → 0 < n → outcome f s c ≡ n → among n order ≡ true
unfolding outcome refusal_of
outcome_in_order f s c n h e = found_among order (tests_of f s c) n h e

pub never_22 : (f : File) (s : State) (c : Command) → outcome f s c ≡ 22 → ⊥
never_22 f s c e = false≢true (outcome_in_order f s c 22 (omega arith) e)

-- the first n + 1 commands are the first n and then the next; where there is none, they are the first n
pub first_and_next :
    (f : File) (n : ℕ)
    → ((c : Command) → get_elem? (commands_of f) n ≡ some c → reached f (suc n) ≡ after f (reached f n) c) × (get_elem? (commands_of f) n ≡ none → reached f (suc n) ≡ reached f n)
first_and_next f n = (reached_next f n, reached_end f n)

-- what was known before somebody learns a term is known afterwards
pub learning_keeps : (f : File) (p t : ℕ) (known : Knowledge) (q u : ℕ) → known q u ≡ true → learn f p t known q u ≡ true
learning_keeps = learn_kept

-- who learns a term learns nothing but what is in it, and nobody else learns anything
pub learning_only : (f : File) (p t : ℕ) (known : Knowledge) (q u : ℕ) → learn f p t known q u ≡ true → (known q u ≡ true) ⊎ ((q ≡ p) × Inside f t u)
learning_only = learn_only

counted : (xs : List ℕ) → zeros xs + others xs ≡ length xs
unfolding zeros others
counted [] = refl
counted (x ∷ xs) = one (eqb x 0) (counted xs)
  where
    one : (b : Bool) → zeros xs + others xs ≡ length xs → (cond b 1 0 + zeros xs) + (cond b 0 1 + others xs) ≡ suc (length xs)
    one true h = omega arith
    one false h = omega arith

pub outcome_each : (f : File) (cs : List Command) (s : State) → length (outcomes f cs s) ≡ length cs
unfolding outcomes
outcome_each f [] s = refl
outcome_each f (c ∷ cs) s = ap suc (outcome_each f cs (after f s c))

-- every command that is executed is accepted or refused
pub totals : (f : File) (n : ℕ) → (accepted f n + refusals f n ≡ length (outcomes_of f n)) × (length (outcomes_of f n) ≡ length (first_commands f n))
unfolding accepted refusals outcomes_of
totals f n = (counted (outcomes_of f n), outcome_each f (first_commands f n) (start f))

module _ (bytes : List ℕ) (f : File) (loads : load bytes ≡ loaded f) where
  ck : Checked f
  ck = checked bytes f loads

  -- a term names only lower ones
  pub names_lower_lem : (t u : ℕ) → t < length f.terms → Memᴰ u (names f t) → u < t
  names_lower_lem = ck.names_lower

  -- who learns a term knows it and everything in it
  pub learning_all : (p t : ℕ) (known : Knowledge) → Closed f known → (u : ℕ) → Inside f t u → learn f p t known p u ≡ true
  learning_all = learn_inside f ck.lower

  -- a FixedTPM private key is held by at most one TPM
  pub fixed_held_once : (p q k : ℕ) → holds_key f p k ≡ true → holds_key f q k ≡ true → has (attributes f k) fixed_tpm ≡ true → p ≡ q
  fixed_held_once p q k h g = ck.holds_once p q k (holds_given f p k h) (holds_given f q k g)

  -- which TPM holds which private key never changes
  pub held_never_changes : (n p k : ℕ) → kind f k ≡ private_key_kind → (reached f n).table p k ≡ holds_key f p k
  unfolding start
  held_never_changes zero p k e = ap (λ (s : State). s.table p k) (reached_none f)
  held_never_changes (suc n) p k e =
      same (reached_steps f ck n) ∙ held_never_changes n p k e
    where
      same : {s t : State} → Steps f s t → t.table p k ≡ s.table p k
      same still = refl
      same (further {s} {t} st more) =
          same more
          ∙ both_ways (t.table p k) (s.table p k)
          (λ h. ⊎_elim (λ i. i) (λ i. absurd (let z : hash_kind ≡ private_key_kind = sym i ∙ e in omega arith)) (st.table_only p k h))
          (st.grows.table p k)

  -- a ledger has no more entries than the file has terms
  module _ (s : State) (inv : Invariant f s) where
    abbrev at : ℕ → Entry
    at i = get_or s.ledger i (record { certificate = 0; parent = 0; depth = 0 })

    here : (i : ℕ) → i < length s.ledger → get_elem? s.ledger i ≡ some (at i)
    here i h = at_within s.ledger _ i h

    below : (i : ℕ) → i < length s.ledger → (at i).certificate < length f.terms
    below i h = declared f (at i).certificate (λ k. let z : hash_kind ≡ certificate_kind = sym k ∙ (inv.entries i (at i) (here i h)).of_family.signed.is_certificate in omega arith)

    once : (i j : ℕ) → i < length s.ledger → j < length s.ledger → (at i).certificate ≡ (at j).certificate → i ≡ j
    once i j h k e = inv.once i j (at i) (at j) (here i h) (here j k) e

    pub entries_fit : length s.ledger ≤ length f.terms
    entries_fit = pigeonhole (length f.terms) (length s.ledger) (λ i. (at i).certificate) below once

  pub ledger_fits : (n : ℕ) → length (reached f n).ledger ≤ length f.terms
  ledger_fits n = entries_fit (reached f n) (reached_invariant f ck n)

  -- and so no more than a file may have
  pub few_issued : (n : ℕ) → issued f n ≤ term_limit
  unfolding issued
  few_issued n = omega (arith, ledger_fits n, ck.few_terms)
