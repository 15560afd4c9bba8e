-- The buffer filled by turns, and what the fillings one after the other are.
use Rattle.std.specs.Prelude.{◌≡◌, true, false, List, [], ◌++◌, ℕ, ◌≤◌, ◌<◌, length, take}
use Rattle.program_listing.specs.declared.Held.{Held}
use Rattle.program_listing.specs.declared.Turned.{Turned}
use Rattle.program_listing.specs.Listing.{listing_of}
use Rattle.program_listing.specs.Turning.{goes_on, to_go, put_out, held_after, at_first}

-- from what was held some turns were made: what is held now, and at the front of the buffer what they put out; while more was to come,
-- less is to go
pub record Filled (input : List ℕ) (from : Held) (after : List ℕ) (r : Turned) : Type 0 where
  pub turns : ℕ
  pub held : r.held ≡ held_after turns input from
  pub bytes : take r.filled after ≡ put_out turns input from
  pub inside : r.filled ≤ length after
  pub less : goes_on from.stage ≡ true → to_go input r.held < to_go input from

-- fillings one after the other, the first from the beginning, each from what the last one held; and their bytes joined
pub data Fillings (input : List ℕ) : Held → List ℕ → Type 0 where
  begun : Fillings input at_first []
  filled : {h : Held} {bytes : List ℕ} → Fillings input h bytes → (after : List ℕ) (r : Turned) → Filled input h after r
      → Fillings input r.held (bytes ++ take r.filled after)

-- once the program is over, they are the listing of the input
abbrev pub FillingsAreListing : Type 0
FillingsAreListing = (input : List ℕ) (h : Held) (bytes : List ℕ) → Fillings input h bytes → goes_on h.stage ≡ false → bytes ≡ listing_of input
