-- Laws of Subjects (request 3 of document 02): of every file that loads and every n.
use Rattle.std.specs.Prelude.{◌≡◌, true, List, ℕ, eqb, get_or}
use Rattle.rules.specs.declared.Entry.{Entry}
use Rattle.rules.specs.declared.Family.{Family}
use Rattle.rules.specs.declared.Subject.{Subject}
use Rattle.rules.specs.File.{File, issue, subject}
use Rattle.rules.specs.Load.{loaded, load}
use Rattle.rules.specs.State.{State, end_of}
use Rattle.rules.specs.Desk.{end_ek, all_end_at}
use Rattle.rules.specs.Run.{outcome, reached}
use Rattle.rules.specs.Lent.{steps}
use Rattle.theorems.specs.Residency.{EntryAt, Endorsement}

-- entries of one Subject, of whatever families, have paths that end at one EK
abbrev pub SubjectOneEk : Type 0
SubjectOneEk =
    (bytes : List ℕ) (f : File) → load bytes ≡ loaded f → (n i j : ℕ) (e g : Entry) → EntryAt f n i e → EntryAt f n j g
    → subject f e.certificate ≡ subject f g.certificate → end_ek f (reached f n).ledger e ≡ end_ek f (reached f n).ledger g

-- so one entry of a Subject is enough to look at, whichever it is: what refusal 31 asks of all is what it asks of that one
abbrev pub AnyEntryTells : Type 0
AnyEntryTells =
    (bytes : List ℕ) (f : File) → load bytes ≡ loaded f → (n i : ℕ) (e : Entry) → EntryAt f n i e → (ek : ℕ)
    → all_end_at f (reached f n).ledger (subject f e.certificate) ek (reached f n).ledger ≡ eqb (end_ek f (reached f n).ledger e) ek

-- and where the ledger has none of the Subject, nothing is asked
abbrev pub NoEntryAllows : Type 0
NoEntryAllows =
    (bytes : List ℕ) (f : File) → load bytes ≡ loaded f → (n : ℕ) (x : Subject)
    → ((i : ℕ) (e : Entry) → EntryAt f n i e → subject f e.certificate ≡ x → ⊥) → (ek : ℕ)
    → all_end_at f (reached f n).ledger x ek (reached f n).ledger ≡ true

-- where a path ends is an endorsement certificate of the set-up
abbrev pub EndsEndorsed : Type 0
EndsEndorsed = (bytes : List ℕ) (f : File) → load bytes ≡ loaded f → (n i : ℕ) (e : Entry) → EntryAt f n i e → Endorsement f (end_of (reached f n).ledger e.depth e.certificate)

-- and it is the last certificate of those that Path writes, in whatever ledger
abbrev pub EndsLast : Type 0
EndsLast = (ledger : List Entry) (n t : ℕ) → get_or (steps ledger n t) n 0 ≡ end_of ledger n t

-- no 40, 41 or 42 is refused with 31, in whatever state
abbrev pub NotOnRequest : Type 0
NotOnRequest = (f : File) (s : State) (family : Family) (p q r : ℕ) → outcome f s (issue family p q r) ≡ 31 → ⊥

pub record SubjectLaws : Type 0 where
  pub one_ek : SubjectOneEk
  pub any_entry_tells : AnyEntryTells
  pub no_entry_allows : NoEntryAllows
  pub ends_endorsed : EndsEndorsed
  pub ends_last : EndsLast
  pub not_on_request : NotOnRequest
