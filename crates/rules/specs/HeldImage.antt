-- Rows that hold `Image`: an image byte by byte, each refusal and each two at once, and what is written into a buffer.
use Rattle.std.specs.Prelude.{◌≡◌, false, List, [], ◌∷◌, ◌++◌, ℕ, length, replicate, Ok, Err}
use Rattle.rules.specs.declared.Table.{Table}
use Rattle.rules.specs.declared.Refusal.TheVariants.{UnknownEdition, BufferShort}
use Rattle.rules.specs.Refusals.{first, holds}
use Rattle.rules.specs.Table.{no_table}
use Rattle.rules.specs.Image.{little, field, trailer_at, frame_in, offset_in, count_in, edition_in, entries_in, entries_part, table_in, read_rows, bytes_of, image_of, image_length, write_rows, overwritten}
use Rattle.rules.specs.Calls.{TableRead, EntriesHanded, ImageChecked, TableWritten}
use Rattle.rules.specs.Samples.{◌by◌, two}
use Rattle.rules.specs.HeldTable.{counted}

-- the number that reading an image gives
abbrev pub read_gives : List ℕ → ℕ
read_gives image = first (read_rows image)

-- the number that writing a table into a buffer of so many bytes gives
abbrev pub write_gives : Table → ℕ → ℕ
write_gives t long = first (write_rows t (replicate long 9))

-- Q = 66,051 and T = 1,000,000 in 4 bytes each
abbrev pub entry : List ℕ
entry = 3 ∷ 2 ∷ 1 ∷ 0 ∷ 64 ∷ 66 ∷ 15 ∷ 0 ∷ []

-- 3 bytes, that entry, H = 1,000,000, offset 3, n = 1, edition 1
abbrev pub behind_three : List ℕ
behind_three = (7 ∷ 7 ∷ 7 ∷ []) ++ entry ++ (64 ∷ 66 ∷ 15 ∷ 0 ∷ 3 ∷ 0 ∷ 0 ∷ 0 ∷ 1 ∷ 0 ∷ 1 ∷ 0 ∷ [])

-- an entry (Q, T), each in its first byte
abbrev pub short : ℕ → ℕ → List ℕ
short Q T = Q ∷ 0 ∷ 0 ∷ 0 ∷ T ∷ 0 ∷ 0 ∷ 0 ∷ []

-- a trailer with H, the offset, n and the edition, each in its first byte
abbrev pub trailer : ℕ → ℕ → ℕ → ℕ → List ℕ
trailer H offset n edition = H ∷ 0 ∷ 0 ∷ 0 ∷ offset ∷ 0 ∷ 0 ∷ 0 ∷ n ∷ 0 ∷ edition ∷ 0 ∷ []

-- (3, 4) and (2, 8), H = 8, as bytes with offset 0
abbrev pub two_image : List ℕ
two_image = short 3 4 ++ short 2 8 ++ trailer 8 0 2 1

pub record ImageHeld : Type 0 where
  -- "Little-endian."
  pub little_endian : little (1 ∷ 2 ∷ 3 ∷ []) ≡ 197121
  pub at_a_place : field 2 1 (9 ∷ 1 ∷ 2 ∷ 9 ∷ []) ≡ 513
  -- "a trailer of 12 bytes that ends the image: H (4), offset of the first entry from the image's start (4), n (2), edition (2)"
  pub numbers : (trailer_at behind_three ∷ frame_in behind_three ∷ offset_in behind_three ∷ count_in behind_three ∷ edition_in behind_three ∷ []) ≡ 11 ∷ 1000000 ∷ 3 ∷ 1 ∷ 1 ∷ []
  pub every_byte :
      (let image = replicate 8 0 ++ (8 ∷ 9 ∷ 10 ∷ 11 ∷ 0 ∷ 1 ∷ 2 ∷ 3 ∷ 4 ∷ 5 ∷ 6 ∷ 7 ∷ []) in frame_in image ∷ offset_in image ∷ count_in image ∷ edition_in image ∷ [])
      ≡ 185207048 ∷ 50462976 ∷ 1284 ∷ 1798 ∷ []
  -- "n entries of 8 bytes: Q in 4 bytes, T in 4"
  pub whole_entry : entries_in 1 (1 ∷ 2 ∷ 3 ∷ 4 ∷ 5 ∷ 6 ∷ 7 ∷ 8 ∷ []) ≡ 67305985 by 134678021 ∷ []
  pub entries : entries_in 2 (entry ++ short 3 4 ++ short 2 8) ≡ 66051 by 1000000 ∷ 3 by 4 ∷ []
  -- "the entries as a part of the caller's own image", at an offset above 0
  pub part : entries_part behind_three ≡ 3 ∷ 2 ∷ 1 ∷ 0 ∷ 64 ∷ 66 ∷ 15 ∷ 0 ∷ []
  pub table : table_in behind_three ≡ counted 1000000 1 (66051 by 1000000 ∷ [])
  pub two_entries : table_in two_image ≡ counted 8 2 (3 by 4 ∷ 2 by 8 ∷ [])
  -- accepted: at an offset above 0, and with a share of exactly H
  pub accepted : (read_gives behind_three ∷ read_gives two_image ∷ []) ≡ 0 ∷ 0 ∷ []
  -- 9: "edition is not 1"
  pub edition : (read_gives (short 3 4 ++ trailer 4 0 1 0) ∷ read_gives (short 3 4 ++ trailer 4 0 1 2) ∷ []) ≡ 9 ∷ 9 ∷ []
  -- 10: "n is 0 or above 16"
  pub count : (read_gives (short 3 4 ++ trailer 4 8 0 1) ∷ read_gives (replicate 136 1 ++ trailer 4 0 17 1) ∷ []) ≡ 10 ∷ 10 ∷ []
  -- 11: "offset + 8n + 12 is not the image's length"; the sum is not cut off at 2^32
  pub offset : (read_gives (0 ∷ short 3 4 ++ trailer 4 0 1 1) ∷ read_gives (0 ∷ short 3 4 ++ trailer 4 1 1 1) ∷ read_gives (0 ∷ short 3 4 ++ trailer 4 2 1 1) ∷ []) ≡ 11 ∷ 0 ∷ 11 ∷ []
  pub offset_exact : read_gives (short 3 4 ++ (4 ∷ 0 ∷ 0 ∷ 0 ∷ 248 ∷ 255 ∷ 255 ∷ 255 ∷ 2 ∷ 0 ∷ 1 ∷ 0 ∷ [])) ≡ 11
  -- 12, 13, 14 of the table that the image says
  pub of-table : (read_gives (short 1 1 ++ trailer 0 0 1 1) ∷ read_gives (short 5 4 ++ trailer 4 0 1 1) ∷ read_gives (short 3 4 ++ short 3 8 ++ trailer 8 0 2 1) ∷ []) ≡ 12 ∷ 13 ∷ 14 ∷ []
  -- "Where several apply, the smallest number is given.": 8, 9, 10, 11 beside each larger number
  pub eight_first : (read_gives (trailer 0 0 0 0) ∷ read_gives (0 ∷ trailer 4 9 1 1) ∷ []) ≡ 8 ∷ 8 ∷ []
  pub nine_first :
      (read_gives (short 3 4 ++ trailer 4 8 0 2) ∷ read_gives (short 3 4 ++ trailer 4 1 1 2) ∷ read_gives (short 3 4 ++ trailer 0 0 1 2) ∷ read_gives (short 5 4 ++ trailer 4 0 1 2) ∷ read_gives (short 3 4 ++ short 3 8 ++ trailer 8 0 2 2) ∷ [])
      ≡ 9 ∷ 9 ∷ 9 ∷ 9 ∷ 9 ∷ []
  pub ten_first : (read_gives (short 3 4 ++ trailer 4 0 0 1) ∷ read_gives (short 3 4 ++ trailer 0 8 0 1) ∷ read_gives (replicate 136 3 ++ trailer 8 0 17 1) ∷ []) ≡ 10 ∷ 10 ∷ 10 ∷ []
  pub eleven_first :
      (read_gives (short 3 4 ++ trailer 0 1 1 1) ∷ read_gives (short 5 4 ++ trailer 4 1 1 1) ∷ read_gives (0 ∷ short 3 4 ++ short 3 8 ++ short 3 8 ++ trailer 8 2 2 1) ∷ []) ≡ 11 ∷ 11 ∷ 11 ∷ []
  -- whole outcomes of reading, accepted and refused
  pub read : TableRead behind_three (Ok (counted 1000000 1 (66051 by 1000000 ∷ [])))
  pub read_refused : TableRead (short 3 4 ++ trailer 4 0 1 2) (Err UnknownEdition)
  pub handed : EntriesHanded behind_three 3 (3 ∷ 2 ∷ 1 ∷ 0 ∷ 64 ∷ 66 ∷ 15 ∷ 0 ∷ [])
  -- "after a refusal that part is the empty one at the front"
  pub handed_refused : EntriesHanded (0 ∷ short 3 4 ++ trailer 4 1 1 2) 0 []
  pub checked : ImageChecked behind_three 0
  pub checked_refused : ImageChecked (short 3 4 ++ trailer 4 0 1 2) 9

-- "The image's length is 20 to 65,536.": 8 for every image that is shorter or longer, and for no other
pub record LengthHeld : Type 0 where
  pub too_short : (image : List ℕ) → length image ≡ 19 → read_gives image ≡ 8
  pub shortest : (image : List ℕ) → length image ≡ 20 → holds 8 (read_rows image) ≡ false
  pub longest : (image : List ℕ) → length image ≡ 65536 → holds 8 (read_rows image) ≡ false
  pub too_long : (image : List ℕ) → length image ≡ 65537 → read_gives image ≡ 8

-- "Writing takes a table and puts 8n + 12 bytes at the front of a lent buffer with offset 0; bytes behind them stay."
pub record WritingHeld : Type 0 where
  pub bytes : (bytes_of 4 66051 ∷ bytes_of 2 513 ∷ bytes_of 2 255 ∷ []) ≡ (3 ∷ 2 ∷ 1 ∷ 0 ∷ []) ∷ (1 ∷ 2 ∷ []) ∷ (255 ∷ 0 ∷ []) ∷ []
  pub written :
      image_of two
      ≡ 3 ∷ 0 ∷ 0 ∷ 0 ∷ 4 ∷ 0 ∷ 0 ∷ 0 ∷ 2 ∷ 0 ∷ 0 ∷ 0 ∷ 8 ∷ 0 ∷ 0 ∷ 0 ∷ 8 ∷ 0 ∷ 0 ∷ 0 ∷ 0 ∷ 0 ∷ 0 ∷ 0 ∷ 2 ∷ 0 ∷ 1 ∷ 0 ∷ []
  pub large : image_of (counted 1000000 1 (66051 by 1000000 ∷ [])) ≡ entry ++ (64 ∷ 66 ∷ 15 ∷ 0 ∷ 0 ∷ 0 ∷ 0 ∷ 0 ∷ 1 ∷ 0 ∷ 1 ∷ 0 ∷ [])
  pub long : image_length two ≡ 28
  pub behind : overwritten two (replicate 30 9) ≡ two_image ++ (9 ∷ 9 ∷ [])
  -- 15: "write buffer shorter than 8n + 12"
  pub buffer : (write_gives two 27 ∷ write_gives two 28 ∷ write_gives two 29 ∷ []) ≡ 15 ∷ 0 ∷ 0 ∷ []
  -- 10, 12, 13, 14 of the table, beside 15 too
  pub of-table :
      (write_gives (counted 8 0 []) 27 ∷ write_gives (counted 0 1 (1 by 1 ∷ [])) 27 ∷ write_gives (counted 8 1 (5 by 4 ∷ [])) 27 ∷ write_gives (counted 8 2 (3 by 4 ∷ 3 by 8 ∷ [])) 28 ∷ [])
      ≡ 10 ∷ 12 ∷ 13 ∷ 14 ∷ []
  pub before_fifteen :
      (write_gives (counted 8 0 []) 0 ∷ write_gives (counted 0 1 (1 by 1 ∷ [])) 0 ∷ write_gives (counted 8 1 (5 by 4 ∷ [])) 0 ∷ write_gives (counted 8 2 (3 by 4 ∷ 3 by 8 ∷ [])) 27 ∷ [])
      ≡ 10 ∷ 12 ∷ 13 ∷ 14 ∷ []
  -- whole outcomes
  pub wrote : TableWritten two (replicate 29 9) (Ok tt) (two_image ++ (9 ∷ []))
  pub wrote_refused : TableWritten two (replicate 27 9) (Err BufferShort) (replicate 27 9)
