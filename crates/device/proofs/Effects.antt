-- What the device commands leave of a state, as the rules have it.
-- Assumes nothing.
use mathlib.Core.Path.{◌≡◌, refl, sym, ap, ap₂, subst, ◌∙◌}
use mathlib.Core.Bool.{Bool, true, false, cond, ◌||◌, ◌&&◌}
use mathlib.Core.List.{List}
use Prim.Native.Nat.{ℕ, ◌+◌, ◌<◌, ◌≤◌}
use native.Mathlib.Omega.{arith}
use lib.Dec.{eqb, leb, ltb}
use lib.ListN.{get_or, take, drop}
use borrow.Author.Tests.{ne_eqb, leb-true, ltb-true}
use Rattle.rules.specs.Record.{body_length, word}
use Rattle.rules.specs.File.{hash, activate_credential, hashed_term, credential_number}
use Rattle.rules.specs.Load.{command_at}
use Rattle.rules.specs.Learning.{grant}
use Rattle.rules.specs.State.{State, learnt, ticketed}
use Rattle.rules.specs.Device.{no_ticket, hash_effect}
use Rattle.rules.specs.Run.{effect_of}
use Rattle.theorems.proofs.Loading.{Wellformed}
use Rattle.records.proofs.EachKind.{agree}
use Rattle.learning.specs.There.{kind_there}
use Rattle.learning.proofs.Words.{byte_at, word_at}
use Rattle.lookup.specs.There.{command_there}
use Rattle.lookup.specs.Commands.{CommandAt}
use Rattle.lookup.proofs.Fields.{three_bytes, send_there}
use Rattle.lookup.proofs.Left.{command_range}
use Rattle.state.specs.View.{Columns, view, with_table}
use Rattle.state.proofs.Exact.{state_of}
use Rattle.loaded.specs.Loaded.{file_in, Learns, Leaves}

-- a kind that is no 30, no 34 and none of 38 to 3C
abbrev pub Made : ℕ → Type 0
Made k = (k ≡ 0x30 → ⊥) × (k ≡ 0x34 → ⊥) × (0x38 ≤ k → k < 0x3D → ⊥)

outside : (k : ℕ) → (0x38 ≤ k → k < 0x3D → ⊥) → (leb 0x38 k && ltb k 0x3D) ≡ false
outside k o = go (leb 0x38 k) (ltb k 0x3D) refl refl
  where
    go : (a b : Bool) → leb 0x38 k ≡ a → ltb k 0x3D ≡ b → (a && b) ≡ false
    go false b e q = refl
    go true false e q = refl
    go true true e q = absurd (o (leb-true 0x38 k e) (ltb-true k 0x3D q))

module _ {bs s s' : List ℕ} {p r : ℕ} (w : Learns bs s s' p r) where
  -- 30 of an attest or of a quote body
  pub hash_bare : no_ticket (file_in bs) (hashed_term (file_in bs) r) ≡ true → Leaves bs s s' (hash p r)
  unfolding effect_of hash_effect
  hash_bare e = record { columns = λ ledger. rw e (w.columns ledger); places = w.places }

  -- 30 of another term
  pub hash_ticketed : {s'' : List ℕ} → no_ticket (file_in bs) (hashed_term (file_in bs) r) ≡ false → view s'' ≡ with_table (view s') (grant (view s').table p r) → Leaves bs s s'' (hash p r)
  unfolding effect_of hash_effect ticketed
  hash_ticketed e v = record {
    columns = λ ledger. rw e (ap (λ (c : Columns). state_of c ledger) v ∙ ap (λ (x : State). ticketed x p r) (w.columns ledger));
    places = ap (λ (c : Columns). c.place) v ∙ w.places;
  }

-- 34: the number
pub activate_left : {bs s s' : List ℕ} {p r n : ℕ} → n ≡ credential_number (file_in bs) r → Learns bs s s' p n → Leaves bs s s' (activate_credential p r)
unfolding effect_of
activate_left {bs} {s} {s'} {p} {r} e w = record { columns = λ ledger. w.columns ledger ∙ ap (learnt (file_in bs) (state_of (view s) ledger) p) e; places = w.places }

-- by the record at a place
module _ {bs : List ℕ} {at : ℕ} (w : CommandAt (Wellformed (file_in bs)) bs at) where
  abbrev body : List ℕ
  body = take (body_length (kind_there bs at)) (drop (at + 1) bs)

  -- 38 to 3B leave the state as it is
  pub checks_left : (s : List ℕ) → 0x38 ≤ kind_there bs at → kind_there bs at < 0x3C → Leaves bs s s (command_there bs at)
  unfolding command_there command_at effect_of
  checks_left s l h = record {
    columns = λ ledger. sym (agree (λ k. effect_of (file_in bs) (state_of (view s) ledger) (command_at k body)) (λ k. state_of (view s) ledger) 0x38 4 refl (kind_there bs at) l h);
    places = refl;
  }

  -- 3C: the other party learns the term
  pub send_left : {s s' : List ℕ} {t : ℕ} → kind_there bs at ≡ 0x3C → t ≡ word bs (at + 3) → Learns bs s s' (get_or bs (at + 2) 0) t → Leaves bs s s' (command_there bs at)
  unfolding effect_of
  send_left {s} e q g = record {
    columns = λ ledger. let st = state_of (view s) ledger in g.columns ledger ∙ ap (learnt (file_in bs) st (get_or bs (at + 2) 0)) q ∙ sym (ap (effect_of (file_in bs) st) (send_there bs at e));
    places = g.places;
  }

  made_effect :
      (st : State) → 0x30 ≤ kind_there bs at → kind_there bs at < 0x3E → Made (kind_there bs at)
      → effect_of (file_in bs) st (command_there bs at) ≡ learnt (file_in bs) st (get_or bs (at + 1) 0) (word bs (at + 2))
  unfolding command_there command_at effect_of
  made_effect st l h (m, n, o) =
      let x = learnt (file_in bs) st (get_or body 0 0) (word body 1) in
      let other : (eqb (kind_there bs at) 0x30 || eqb (kind_there bs at) 0x34 || (leb 0x38 (kind_there bs at) && ltb (kind_there bs at) 0x3D)) ≡ false = rw (ne_eqb _ 0x30 m, ne_eqb _ 0x34 n) (outside (kind_there bs at) o) in
      let e = agree (λ k. cond (eqb k 0x30 || eqb k 0x34 || (leb 0x38 k && ltb k 0x3D)) x (effect_of (file_in bs) st (command_at k body))) (λ k. x) 0x30 14 refl (kind_there bs at) l (omega arith) in
      let size = body_length (kind_there bs at) in
      subst (λ (t : Bool). cond t x (effect_of (file_in bs) st (command_at (kind_there bs at) body)) ≡ x) other e
      ∙ ap₂ (learnt (file_in bs) st) (byte_at bs at size 0 (omega (arith, three_bytes w))) (word_at bs at size 1 (omega (arith, three_bytes w)))

  -- 31 to 33, 35 to 37 and 3D: the party learns the term
  pub made_left :
      {s s' : List ℕ} {t : ℕ} → kind_there bs at < 0x3E → Made (kind_there bs at)
      → t ≡ word bs (at + 2) → Learns bs s s' (get_or bs (at + 1) 0) t → Leaves bs s s' (command_there bs at)
  made_left {s} h m e g = record {
    columns = λ ledger. let st = state_of (view s) ledger in g.columns ledger ∙ ap (learnt (file_in bs) st (get_or bs (at + 1) 0)) e ∙ sym (made_effect st (command_range _ w.is_command).0 h m);
    places = g.places;
  }
