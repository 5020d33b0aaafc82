-- Laws of the stock of numbers (request 12 of document 02).
use Rattle.std.specs.Prelude.{◌≡◌, ◌⊎◌, Bool, true, false, cond, ◌&&◌, List, [], ◌∷◌, ℕ, ◌+◌, ◌*◌, ◌<◌, ◌≤◌, eqb, length}
use Rattle.rules.specs.Limits.{oem_desk}
use Rattle.rules.specs.Refusals.{refusal_of}
use Rattle.rules.specs.Term.{number_kind}
use Rattle.rules.specs.File.{File, Command, hash, sign, certify, make_credential, activate_credential, make_idevid_request, make_ldevid_request, make_pair, check_hash, check_signature, check_certificate, check_attributes, send, self_issue, challenge, issue_iak, issue, issue_iaks, extend, quote, is_role, is_kind}
use Rattle.rules.specs.Load.{loaded, load}
use Rattle.rules.specs.State.{State, start}
use Rattle.rules.specs.Desk.{number_tests}
use Rattle.rules.specs.Run.{outcome, after, first_commands, reached}
use Rattle.rules.specs.Lent.{success, refusal}
use Rattle.rules.specs.Stock.{in_stock, stock, boards_left}

-- "stock = boards times IAKs per board + rest, with the rest below the IAKs per board"
abbrev pub Divided : ℕ → ℕ → ℕ → ℕ → Type 0
Divided stock iaks boards rest = (stock ≡ boards * iaks + rest) × (rest < iaks)

-- what is answered divides the stock so
abbrev pub BoardsDivide : Type 0
BoardsDivide =
    (f : File) (s : State) (party iaks boards rest : ℕ) → boards_left party iaks f s ≡ success (boards ∷ rest ∷ []) → Divided (stock f s party) iaks boards rest

-- and nothing else does: of an OEM desk the two numbers that divide it are what is answered
abbrev pub BoardsOnly : Type 0
BoardsOnly =
    (f : File) (s : State) (party iaks boards rest : ℕ) → is_role f oem_desk party ≡ true → Divided (stock f s party) iaks boards rest
    → boards_left party iaks f s ≡ success (boards ∷ rest ∷ [])

-- 39 and no other refusal, exactly where the IAKs per board are 0 or the party is no OEM desk
abbrev pub Refused39 : Type 0
Refused39 =
    (f : File) (s : State) (party iaks : ℕ)
    → ((number place : ℕ) → boards_left party iaks f s ≡ refusal number place → (number ≡ 39) × (place ≡ 0) × ((is_role f oem_desk party ≡ false) ⊎ (iaks ≡ 0)))
    × ((is_role f oem_desk party ≡ false) ⊎ (iaks ≡ 0) → boards_left party iaks f s ≡ refusal 39 0)

-- a party that the file does not declare is no OEM desk
abbrev pub Undeclared39 : Type 0
Undeclared39 = (f : File) (s : State) (party iaks : ℕ) → length f.roles ≤ party → boards_left party iaks f s ≡ refusal 39 0

-- a number is in a desk's stock exactly if a 3E of that desk may still use it: no 24
abbrev pub InStockFresh : Type 0
InStockFresh = (f : File) (s : State) (desk t : ℕ) → in_stock f s desk t ≡ (is_kind f number_kind t && eqb (refusal_of (number_tests s desk t)) 0)

-- the stock is of terms of the file
abbrev pub StockFew : Type 0
StockFew = (f : File) (s : State) (desk : ℕ) → stock f s desk ≤ length f.terms

-- What commands take from a stock: an accepted 3E of the desk takes one number, and nothing else takes or adds any.
unfoldable pub challenged_by : ℕ → Command → Bool
challenged_by desk (challenge p q r) = eqb p desk
challenged_by desk (hash p r) = false
challenged_by desk (sign p r) = false
challenged_by desk (certify p r) = false
challenged_by desk (make_credential p r) = false
challenged_by desk (activate_credential p r) = false
challenged_by desk (make_idevid_request p r) = false
challenged_by desk (make_ldevid_request p r) = false
challenged_by desk (make_pair p r) = false
challenged_by desk (check_hash p h t) = false
challenged_by desk (check_signature p t k) = false
challenged_by desk (check_certificate p c k) = false
challenged_by desk (check_attributes p k a) = false
challenged_by desk (send p q t) = false
challenged_by desk (self_issue p r) = false
challenged_by desk (issue_iak p q c r) = false
challenged_by desk (issue family p q r) = false
challenged_by desk (issue_iaks p q xs) = false
challenged_by desk (extend p i r) = false
challenged_by desk (quote p r) = false

-- how many accepted 3Es of a desk a list of commands has
unfoldable pub challenges : File → ℕ → List Command → State → ℕ
challenges f desk [] s = 0
challenges f desk (c ∷ cs) s = cond (challenged_by desk c && eqb (outcome f s c) 0) 1 0 + challenges f desk cs (after f s c)

-- Of every file that loads, every n and every OEM desk: what the set-up gave is what the first n commands challenged with, and what is left.
abbrev pub StockFalls : Type 0
StockFalls =
    (bytes : List ℕ) (f : File) → load bytes ≡ loaded f → (desk : ℕ) → is_role f oem_desk desk ≡ true → (n : ℕ)
    → stock f (start f) desk ≡ challenges f desk (first_commands f n) (start f) + stock f (reached f n) desk

pub record StockLaws : Type 0 where
  pub boards_divide : BoardsDivide
  pub boards_only : BoardsOnly
  pub refused39 : Refused39
  pub undeclared39 : Undeclared39
  pub in_stock_fresh : InStockFresh
  pub stock_few : StockFew
  pub stock_falls : StockFalls
