-- Rows that hold what C reads of each call on an image: accepted and refused, every number written out.
use Rattle.std.specs.Prelude.{[], ◌∷◌, ◌++◌, replicate}
use Rattle.rules.specs.Samples.{◌by◌, two}
use Rattle.rules.specs.HeldTable.{counted}
use Rattle.rules.specs.HeldImage.{behind_three, short, trailer, two_image}
use Rattle.c_images.specs.Clauses.{ReadInPlace, EntriesPlaced, WrittenInPlace}

pub record InPlaceHeld : Type 0 where
  pub read : ReadInPlace behind_three (counted 1000000 1 (66051 by 1000000 ∷ [])) 0
  -- 9: "edition is not 1"; "a refused table .. is all zeros"
  pub read_refused : ReadInPlace (short 3 4 ++ trailer 4 0 1 2) (counted 0 0 []) 9
  -- one entry of 8 bytes behind 3 others
  pub entries : EntriesPlaced behind_three (record { refusal = 0; offset = 3; length = 8 })
  pub two_entries : EntriesPlaced two_image (record { refusal = 0; offset = 0; length = 16 })
  -- "after a refusal that part is the empty one at the front"
  pub entries_refused : EntriesPlaced (0 ∷ short 3 4 ++ trailer 4 1 1 2) (record { refusal = 9; offset = 0; length = 0 })
  pub wrote : WrittenInPlace two (replicate 29 9) (two_image ++ (9 ∷ [])) 0
  -- 15: "write buffer shorter than 8n + 12"; "lent bytes keep their values"
  pub wrote_refused : WrittenInPlace two (replicate 27 9) (replicate 27 9) 15
