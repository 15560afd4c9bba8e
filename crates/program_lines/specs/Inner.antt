-- What the parts of a line say: the contracts of the code's own functions, of which the public ones are made.
use Rattle.std.specs.Prelude.{◌≡◌, List, ℕ, ◌+◌, ◌≤◌, length}
use Rattle.std.proofs.lemmas.List.Edits.{sets}

-- a part of a line put at a place with room for `most` bytes: what the buffer holds then, and the place behind the part
pub record PartPut (bytes : List ℕ) (most : ℕ) (buffer : List ℕ) (at : ℕ) (after : List ℕ) (r : ℕ) : Type 0 where
  pub content : after ≡ sets buffer at bytes
  pub behind : r ≡ at + length bytes
  pub short : length bytes ≤ most
