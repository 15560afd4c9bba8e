-- The entries "as a part of the caller's own image": where the part lies in it, and what it holds.
use Rattle.std.specs.Prelude.{◌≡◌, List, ℕ, ◌+◌}
use Rattle.std.specs.Borrow.{Bor}
use Rattle.rules.specs.Calls.{EntriesHanded}

-- r lies in the memory of the image, `start` bytes behind its front, and is what the rules hand on
pub record EntriesPart (image r : Bor (List ℕ)) : Type 0 where
  pub block : r.ref_ptr.0 ≡ image.ref_ptr.0
  pub start : ℕ
  pub place : r.ref_ptr.1 ≡ image.ref_ptr.1 + start
  pub handed : EntriesHanded image.now start r.now
