-- What registers show is looked at by 44 and 45 alone, and moved by 44 alone: any other command decides the same beside
-- any registers, and leaves them.
--     beside, Registerless            a state with other registers; a command that is no 44 and no 45
--     outcome-beside, effect-beside   what such a command decides and leaves
--     invariant-beside                what holds of every state holds beside other registers that show what they may
-- Assumes nothing.
use mathlib.Core.Path.{◌≡◌, refl}
use mathlib.Core.Logic.{⊎_elim, inl, inr}
use mathlib.Core.Bool.{Bool, true, false, cond}
use mathlib.Core.List.{List, [], ◌∷◌}
use Prim.Native.Nat.{ℕ}
use Rattle.rules.specs.File.{File, Command, IakPair, hash, sign, certify, make_credential, activate_credential, make_idevid_request, make_ldevid_request, make_pair, check_hash, check_signature, check_certificate, check_attributes, send, self_issue, challenge, issue_iak, issue, issue_iaks, extend, quote, hashed_term}
use Rattle.rules.specs.State.{State, learnt, ticketed, opening, closing, entered}
use Rattle.rules.specs.Device.{no_ticket, hash_effect, hash_tests, sign_tests, certify_tests, make_credential_tests, activate_credential_tests, both_known_tests, send_tests, self_issue_tests, check_tests, holds_half}
use Rattle.rules.specs.Desk.{number_tests, proof_tests, challenge_tests, challenge_effect, issue_iak_tests, issue_iak_effect, issue_tests, issue_effect, pair_tests, issue_iaks_tests, issue_iaks_effect}
use Rattle.rules.specs.Run.{tests_of, effect_of, outcome}
use Rattle.theorems.proofs.Loading.{Checked}
use Rattle.theorems.proofs.Invariant.{Shown, Grows, Invariant, good_grows}

abbrev pub beside : (ℕ → ℕ → ℕ) → State → State
beside r s = record { knows = s.knows; table = s.table; mark = s.mark; desk = s.desk; request = s.request; registers = r; ledger = s.ledger }

abbrev pub Registerless : Command → Type 0
Registerless (hash p r) = Unit {0}
Registerless (sign p r) = Unit {0}
Registerless (certify p r) = Unit {0}
Registerless (make_credential p r) = Unit {0}
Registerless (activate_credential p r) = Unit {0}
Registerless (make_idevid_request p r) = Unit {0}
Registerless (make_ldevid_request p r) = Unit {0}
Registerless (make_pair p r) = Unit {0}
Registerless (check_hash p h t) = Unit {0}
Registerless (check_signature p t k) = Unit {0}
Registerless (check_certificate p c k) = Unit {0}
Registerless (check_attributes p k a) = Unit {0}
Registerless (send p q t) = Unit {0}
Registerless (self_issue p r) = Unit {0}
Registerless (challenge p q r) = Unit {0}
Registerless (issue_iak p q c r) = Unit {0}
Registerless (issue family p q r) = Unit {0}
Registerless (issue_iaks p q xs) = Unit {0}
Registerless (extend p i r) = ⊥
Registerless (quote p r) = ⊥

module _ (f : File) (registers : ℕ → ℕ → ℕ) where
  iak_tests_lem : (s : State) (p q c r : ℕ) → issue_iak_tests f (beside registers s) p q c r ≡ issue_iak_tests f s p q c r
  unfolding issue_iak_tests
  iak_tests_lem s p q c r = refl

  iak_effect : (s : State) (p q c r : ℕ) → issue_iak_effect f (beside registers s) p q c r ≡ beside registers (issue_iak_effect f s p q c r)
  unfolding issue_iak_effect learnt closing entered
  iak_effect s p q c r = refl

  pairs_tests : (s : State) (p q : ℕ) (xs : List IakPair) → pair_tests f (beside registers s) p q xs ≡ pair_tests f s p q xs
  unfolding pair_tests
  pairs_tests s p q [] = refl
  pairs_tests s p q (x ∷ xs) =
      rw (iak_tests_lem s p q x.credential x.certificate, iak_effect s p q x.credential x.certificate, pairs_tests (issue_iak_effect f s p q x.credential x.certificate) p q xs)

  pairs_effect : (s : State) (p q : ℕ) (xs : List IakPair) → issue_iaks_effect f (beside registers s) p q xs ≡ beside registers (issue_iaks_effect f s p q xs)
  unfolding issue_iaks_effect
  pairs_effect s p q [] = refl
  pairs_effect s p q (x ∷ xs) = rw (iak_effect s p q x.credential x.certificate) (pairs_effect (issue_iak_effect f s p q x.credential x.certificate) p q xs)

  hash_effect_lem : (s : State) (p r : ℕ) → hash_effect f (beside registers s) p r ≡ beside registers (hash_effect f s p r)
  unfolding hash_effect learnt ticketed
  hash_effect_lem s p r = go (no_ticket f (hashed_term f r))
    where
      go : (b : Bool) → cond b (learnt f (beside registers s) p r) (ticketed (learnt f (beside registers s) p r) p r) ≡ beside registers (cond b (learnt f s p r) (ticketed (learnt f s p r) p r))
      go true = refl
      go false = refl

  tests_beside : (s : State) (c : Command) → Registerless c → tests_of f (beside registers s) c ≡ tests_of f s c
  unfolding tests_of hash_tests sign_tests certify_tests make_credential_tests activate_credential_tests both_known_tests send_tests self_issue_tests check_tests holds_half number_tests proof_tests challenge_tests issue_tests issue_iaks_tests
  tests_beside s (hash p r) h = refl
  tests_beside s (sign p r) h = refl
  tests_beside s (certify p r) h = refl
  tests_beside s (make_credential p r) h = refl
  tests_beside s (activate_credential p r) h = refl
  tests_beside s (make_idevid_request p r) h = refl
  tests_beside s (make_ldevid_request p r) h = refl
  tests_beside s (make_pair p r) h = refl
  tests_beside s (check_hash p t u) h = refl
  tests_beside s (check_signature p t k) h = refl
  tests_beside s (check_certificate p c k) h = refl
  tests_beside s (check_attributes p k a) h = refl
  tests_beside s (send p q t) h = refl
  tests_beside s (self_issue p r) h = refl
  tests_beside s (challenge p q r) h = refl
  tests_beside s (issue_iak p q c r) h = iak_tests_lem s p q c r
  tests_beside s (issue family p q r) h = refl
  tests_beside s (issue_iaks p q xs) h = rw (pairs_tests s p q xs)
  tests_beside s (extend p i r) h = absurd h
  tests_beside s (quote p r) h = absurd h

  pub outcome_beside : (s : State) (c : Command) → Registerless c → outcome f (beside registers s) c ≡ outcome f s c
  unfolding outcome
  outcome_beside s c h = rw (tests_beside s c h)

  pub effect_beside : (s : State) (c : Command) → Registerless c → effect_of f (beside registers s) c ≡ beside registers (effect_of f s c)
  unfolding effect_of learnt opening entered challenge_effect issue_effect
  effect_beside s (hash p r) h = hash_effect_lem s p r
  effect_beside s (sign p r) h = refl
  effect_beside s (certify p r) h = refl
  effect_beside s (make_credential p r) h = refl
  effect_beside s (activate_credential p r) h = refl
  effect_beside s (make_idevid_request p r) h = refl
  effect_beside s (make_ldevid_request p r) h = refl
  effect_beside s (make_pair p r) h = refl
  effect_beside s (check_hash p t u) h = refl
  effect_beside s (check_signature p t k) h = refl
  effect_beside s (check_certificate p c k) h = refl
  effect_beside s (check_attributes p k a) h = refl
  effect_beside s (send p q t) h = refl
  effect_beside s (self_issue p r) h = refl
  effect_beside s (challenge p q r) h = refl
  effect_beside s (issue_iak p q c r) h = iak_effect s p q c r
  effect_beside s (issue family p q r) h = refl
  effect_beside s (issue_iaks p q xs) h = pairs_effect s p q xs
  effect_beside s (extend p i r) h = absurd h
  effect_beside s (quote p r) h = absurd h

module _ (f : File) (ck : Checked f) (registers : ℕ → ℕ → ℕ) (s : State) (w : Invariant f s) where
  pub invariant_beside : ((p i : ℕ) → Shown f (registers p i)) → Invariant f (beside registers s)
  invariant_beside shows = record {
    closed = w.closed;
    party = w.party;
    held = w.held;
    good = λ p u h. good_grows f ck s (beside registers s) same u (w.good p u h);
    opened = λ c k h.
        let o = w.opened c k h in
        record {
          used = o.used;
          desk_role = o.desk_role;
          device_subject = o.device_subject;
          iak = o.iak;
          ek = o.ek;
          endorsement = o.endorsement;
          maker = o.maker;
          name = o.name;
          key = o.key;
          challenge = ⊎_elim inl (λ x. inr (record { alone = x.alone; only = x.only })) o.challenge;
        };
    entries = λ i e h.
        let g = w.entries i e h in
        record { family = g.family; of_family = g.of_family; fixed = g.fixed; known = g.known; least = g.least; most = g.most; earlier = g.earlier; held = g.held };
    once = w.once;
    one_ek = w.one_ek;
    shown = shows;
  }
    where
      same : Grows f s (beside registers s)
      same = record { knows = λ p u x. x; table = λ p k x. x; used = λ n k x. x; listed = λ c x. x }
