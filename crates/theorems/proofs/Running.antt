-- Laws of a command and of the first n commands.
--     after-accepted, after-refused     an accepted command has its effect; a refused one changes nothing
--     tests-ordered                     the refusals of a command's tests are in the order
--     first_member                      the first n commands are commands of the file
--     reached-next, reached-end         the first n + 1 commands are the first n and then one, where there is one more
-- Assumes nothing.
use mathlib.Core.Path.{◌≡◌, refl, ap, ◌∙◌}
use mathlib.Core.Logic.{◌⊎◌, inl, inr, ⊎_elim}
use mathlib.Core.Bool.{Bool, true, false, cond}
use mathlib.Core.List.Memᴰ
use mathlib.Core.List.{List, [], ◌∷◌, ◌++◌, reverse_aux, Memᴰ}
use mathlib.Core.Option.{none, some}
use Prim.Native.Nat.{ℕ, zero, suc}
use native.Mathlib.Omega.{arith}
use lib.Dec.{eqb}
use lib.ListN.{take, get_elem?}
use borrow.Author.Tests.{eq-eqb, ne_eqb}
use Rattle.rules.specs.Refusals.{Test, order, refusal_of}
use Rattle.rules.specs.File.{File, Command, hash, sign, certify, make_credential, activate_credential, make_idevid_request, make_ldevid_request, make_pair, check_hash, check_signature, check_certificate, check_attributes, send, self_issue, challenge, issue_iak, issue, issue_iaks, extend, quote, IakPair}
use Rattle.rules.specs.Load.{commands_of}
use Rattle.rules.specs.State.{State, start}
use Rattle.rules.specs.Device.{device_role, hash_tests, sign_tests, certify_tests, make_credential_tests, activate_credential_tests, both_known_tests, send_tests, self_issue_tests, check_role, check_tests, extend_tests, quote_tests}
use Rattle.rules.specs.Desk.{form_tests, proof_tests, number_tests, challenge_tests, called_for, issue_iak_tests, issue_iak_effect, issue_tests, pair_tests, issue_iaks_tests}
use Rattle.rules.specs.Run.{tests_of, effect_of, outcome, after, run, first_commands, reached}
use Rattle.theorems.proofs.Passing.{ordered, ordered_both}

pub after_accepted : (f : File) (s : State) (c : Command) → outcome f s c ≡ 0 → after f s c ≡ effect_of f s c
unfolding after
after_accepted f s c e = rw (eq-eqb (outcome f s c) 0 e)

pub after_refused : (f : File) (s : State) (c : Command) → (outcome f s c ≡ 0 → ⊥) → after f s c ≡ s
unfolding after
after_refused f s c n = rw (ne_eqb (outcome f s c) 0 n)

iak_ordered : (f : File) (s : State) (p q c r : ℕ) → ordered order (issue_iak_tests f s p q c r) ≡ true
unfolding issue_iak_tests called_for
iak_ordered f s p q c r = refl

pairs_ordered : (f : File) (s : State) (p q : ℕ) (xs : List IakPair) → ordered order (pair_tests f s p q xs) ≡ true
unfolding pair_tests
pairs_ordered f s p q [] = refl
pairs_ordered f s p q (x ∷ xs) =
    ordered_both order (issue_iak_tests f s p q x.credential x.certificate) _ (iak_ordered f s p q x.credential x.certificate)
    (go (eqb (refusal_of (issue_iak_tests f s p q x.credential x.certificate)) 0) _ (pairs_ordered f (issue_iak_effect f s p q x.credential x.certificate) p q xs))
  where
    go : (b : Bool) (ys : List Test) → ordered order ys ≡ true → ordered order (cond b ys []) ≡ true
    go true ys h = h
    go false ys h = refl

pub tests_ordered : (f : File) (s : State) (c : Command) → ordered order (tests_of f s c) ≡ true
unfolding tests_of device_role hash_tests sign_tests certify_tests make_credential_tests activate_credential_tests both_known_tests send_tests self_issue_tests check_role check_tests extend_tests quote_tests challenge_tests form_tests proof_tests number_tests issue_iak_tests called_for issue_tests issue_iaks_tests
tests_ordered f s (hash p r) = refl
tests_ordered f s (sign p r) = refl
tests_ordered f s (certify p r) = refl
tests_ordered f s (make_credential p r) = refl
tests_ordered f s (activate_credential p r) = refl
tests_ordered f s (make_idevid_request p r) = refl
tests_ordered f s (make_ldevid_request p r) = refl
tests_ordered f s (make_pair p r) = refl
tests_ordered f s (check_hash p h t) = refl
tests_ordered f s (check_signature p t k) = refl
tests_ordered f s (check_certificate p c k) = refl
tests_ordered f s (check_attributes p k a) = refl
tests_ordered f s (send p q t) = refl
tests_ordered f s (self_issue p r) = refl
tests_ordered f s (challenge p q r) = refl
tests_ordered f s (issue_iak p q c r) = refl
tests_ordered f s (issue family p q r) = refl
tests_ordered f s (issue_iaks p q xs) = pairs_ordered f s p q xs
tests_ordered f s (extend p i r) = refl
tests_ordered f s (quote p r) = refl

-- the commands in two parts
pub run_append : (f : File) (xs ys : List Command) (s : State) → run f (xs ++ ys) s ≡ run f ys (run f xs s)
unfolding run
run_append f [] ys s = refl
run_append f (x ∷ xs) ys s = run_append f xs ys (after f s x)

module _ {A : Type 0} where
  pub take_next : (xs : List A) (n : ℕ) (x : A) → get_elem? xs n ≡ some x → take (suc n) xs ≡ take n xs ++ (x ∷ [])
  take_next [] n x e = absurd (let z : ◌≡◌ {A = ℕ} 0 1 = cc in omega arith)
  take_next (y ∷ xs) zero x e = let h : y ≡ x = cc in rw h
  take_next (y ∷ xs) (suc n) x e = ap (λ (l : List A). y ∷ l) (take_next xs n x e)

  take_end : (xs : List A) (n : ℕ) → get_elem? xs n ≡ none → take (suc n) xs ≡ take n xs
  take_end [] zero e = refl
  take_end [] (suc n) e = refl
  take_end (y ∷ xs) zero e = absurd (let z : ◌≡◌ {A = ℕ} 0 1 = cc in omega arith)
  take_end (y ∷ xs) (suc n) e = ap (λ (l : List A). y ∷ l) (take_end xs n e)

  pub at_member : (xs : List A) (n : ℕ) (x : A) → get_elem? xs n ≡ some x → Memᴰ x xs
  at_member [] n x e = absurd (let z : ◌≡◌ {A = ℕ} 0 1 = cc in omega arith)
  at_member (y ∷ xs) zero x e = Memᴰ.head (let h : x ≡ y = cc in h)
  at_member (y ∷ xs) (suc n) x e = Memᴰ.tail (at_member xs n x e)

  take_member : (n : ℕ) (xs : List A) (x : A) → Memᴰ x (take n xs) → Memᴰ x xs
  take_member zero xs x m = elim m [ ]
  take_member (suc n) [] x m = elim m [ ]
  take_member (suc n) (y ∷ xs) x m = ⊎_elim (λ h. Memᴰ.head h) (λ i. Memᴰ.tail (take_member n xs x i)) (Memᴰ.cases_cons m)

  reversed_member : (xs ys : List A) (x : A) → Memᴰ x (reverse_aux xs ys) → Memᴰ x xs ⊎ Memᴰ x ys
  reversed_member [] ys x m = inr m
  reversed_member (y ∷ xs) ys x m =
      ⊎_elim (λ i. inl (Memᴰ.tail i)) (λ i. ⊎_elim (λ h. inl (Memᴰ.head h)) inr (Memᴰ.cases_cons i)) (reversed_member xs (y ∷ ys) x m)

-- a command of the file's order is one of the file
in_file : (f : File) (c : Command) → Memᴰ c (commands_of f) → Memᴰ c f.commands
unfolding commands_of
in_file f c m = ⊎_elim (λ i. i) (λ i. elim i [ ]) (reversed_member f.commands [] c m)

pub command_member : (f : File) (n : ℕ) (c : Command) → get_elem? (commands_of f) n ≡ some c → Memᴰ c f.commands
command_member f n c e = in_file f c (at_member (commands_of f) n c e)

pub first_member : (f : File) (n : ℕ) (c : Command) → Memᴰ c (first_commands f n) → Memᴰ c f.commands
unfolding first_commands
first_member f n c m = in_file f c (take_member n (commands_of f) c m)

pub reached_next : (f : File) (n : ℕ) (c : Command) → get_elem? (commands_of f) n ≡ some c → reached f (suc n) ≡ after f (reached f n) c
unfolding reached first_commands run
reached_next f n c e = ap (λ (l : List Command). run f l (start f)) (take_next (commands_of f) n c e) ∙ run_append f (take n (commands_of f)) (c ∷ []) (start f)

pub reached_end : (f : File) (n : ℕ) → get_elem? (commands_of f) n ≡ none → reached f (suc n) ≡ reached f n
unfolding reached first_commands
reached_end f n e = ap (λ (l : List Command). run f l (start f)) (take_end (commands_of f) n e)

pub reached_none : (f : File) → reached f 0 ≡ start f
unfolding reached first_commands run
reached_none f = refl
