-- A request of the form that desks take: a pair, the second of which is a signature over a hash.
use Rattle.std.specs.Prelude.{◌≡◌, List, ℕ, ◌<◌, length}
use Rattle.rules.specs.Term.{hash_kind, signature_kind, idevid_request_kind, pair_kind}
use Rattle.rules.specs.File.{File, kind, message, left_of, right_of}
use Rattle.rules.specs.State.{credential_open}
use Rattle.state.specs.View.{view}
use Rattle.loaded.specs.Loaded.{file_in}

pub record Formed (f : File) (q : ℕ) : Type 0 where
  pub pair : kind f q ≡ pair_kind
  pub signature : kind f (right_of f q) ≡ signature_kind
  pub hash : kind f (message f (right_of f q)) ≡ hash_kind

-- one that a challenge was accepted for
pub record Requested (f : File) (q : ℕ) : Type 0 where
  pub declared : q < length f.terms
  pub formed : Formed f q
  pub body : kind f (left_of f q) ≡ idevid_request_kind

-- each open credential's request is
abbrev pub OpenRequested : List ℕ → List ℕ → Type 0
OpenRequested bs s = (c : ℕ) → (view s).mark c ≡ credential_open → Requested (file_in bs) ((view s).request c)
