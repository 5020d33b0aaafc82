-- What a request of the form that desks take names: its body, what its hash is of, and the private key that signed.
use Rattle.std.specs.Prelude.{◌≡◌, ℕ, ◌<◌, length}
use Rattle.rules.specs.File.{File, hashed_term, message, signing_key, left_of, right_of}

pub record Names (f : File) (q body content signer : ℕ) : Type 0 where
  pub named : body ≡ left_of f q
  pub hashed : content ≡ hashed_term f (message f (right_of f q))
  pub signed : signer ≡ signing_key f (right_of f q)
  pub known : signer < length f.terms
