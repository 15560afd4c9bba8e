-- Rows that hold the numbers of an image: where they stand whole and where they do not, the trailer's and an entry's.
use Rattle.std.specs.Prelude.{◌≡◌, List, [], ◌∷◌, ℕ, ◌<◌}
use Rattle.image_reader.specs.Clauses.{number_at, behind_of, NumberRead, EntryRead, TrailerRead}

-- two bytes, H = 67,305,985, offset 134,678,021, n = 2,569, edition 3,083
abbrev pub twelve : List ℕ
twelve = 7 ∷ 7 ∷ 1 ∷ 2 ∷ 3 ∷ 4 ∷ 5 ∷ 6 ∷ 7 ∷ 8 ∷ 9 ∷ 10 ∷ 11 ∷ 12 ∷ []

pub record NumbersHeld : Type 0 where
  -- 4 bytes that end the image, and the same one byte further on
  pub at_the_end : (number_at 4 1 (9 ∷ 1 ∷ 2 ∷ 3 ∷ 4 ∷ []) ∷ number_at 4 2 (9 ∷ 1 ∷ 2 ∷ 3 ∷ 4 ∷ []) ∷ []) ≡ 67305985 ∷ 0 ∷ []
  -- the largest place is 2^64 - 1, and a reader stays there
  pub behind : (behind_of 3 4 ∷ behind_of 18446744073709551611 4 ∷ behind_of 18446744073709551612 4 ∷ []) ≡ 7 ∷ 18446744073709551615 ∷ 18446744073709551615 ∷ []
  -- what is read fits its bytes
  pub fits : (bytes : List ℕ) (at r : ℕ) → NumberRead 4 bytes at r → r < 4294967296
  pub fits_two : (bytes : List ℕ) (at r : ℕ) → NumberRead 2 bytes at r → r < 65536
  pub number : NumberRead 2 twelve 3 770
  pub entry : EntryRead twelve 2 (record { budget = 67305985; period = 134678021 })
  pub trailer : TrailerRead twelve (record { frame = 67305985; offset = 134678021; count = 2569; edition = 3083 })
