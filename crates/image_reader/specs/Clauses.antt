-- Numbers of an image that a reader asks for at any place: where they do not stand there whole, they read as 0.
use Rattle.std.specs.Prelude.{◌≡◌, cond, List, ℕ, ◌+◌, ◌-◌, ◌*◌, ◌<◌, ◌^◌, leb, length}
use Rattle.rules.specs.Image.{field, trailer_at}
use Rattle.image_reader.specs.declared.Pair.{Pair}
use Rattle.image_reader.specs.declared.Trailer.{Trailer}

-- the number in `width` bytes at `at`, or 0 where they run past the end
unfoldable pub number_at : ℕ → ℕ → List ℕ → ℕ
number_at width at bytes = cond (leb (at + width) (length bytes)) (field width at bytes) 0

-- the place `width` bytes behind `at`; past the largest number of 64 bits there is none, and it stays there
unfoldable pub behind_of : ℕ → ℕ → ℕ
behind_of at width = cond (leb (at + width) (2 ^ 64 - 1)) (at + width) (2 ^ 64 - 1)

-- the number in `width` bytes at a place, which is not too large for them
abbrev pub NumberRead : ℕ → List ℕ → ℕ → ℕ → Type 0
NumberRead width bytes at r = (r ≡ number_at width at bytes) × (r < 2 ^ (8 * width))

-- the four numbers of the trailer, one behind the other
pub record TrailerRead (image : List ℕ) (t : Trailer) : Type 0 where
  pub frame : NumberRead 4 image (trailer_at image) t.frame
  pub offset : NumberRead 4 image (trailer_at image + 4) t.offset
  pub count : NumberRead 2 image (trailer_at image + 8) t.count
  pub edition : NumberRead 2 image (trailer_at image + 10) t.edition

-- an entry's two numbers, one behind the other
pub record EntryRead (part : List ℕ) (at : ℕ) (e : Pair) : Type 0 where
  pub budget : NumberRead 4 part at e.budget
  pub period : NumberRead 4 part (behind_of at 4) e.period

-- any two answers that a predicate allows are equal
pub record OneAnswer : Type 0 where
  pub number : (width : ℕ) (bytes : List ℕ) (at a b : ℕ) → NumberRead width bytes at a → NumberRead width bytes at b → a ≡ b
  pub entry : (part : List ℕ) (at : ℕ) (a b : Pair) → EntryRead part at a → EntryRead part at b → a ≡ b
  pub trailer : (image : List ℕ) (a b : Trailer) → TrailerRead image a → TrailerRead image b → a ≡ b
