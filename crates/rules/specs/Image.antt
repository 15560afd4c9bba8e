-- "The table image": a list of bytes read as a table, and a table written as bytes.
use Rattle.std.specs.Prelude.{not, List, [], ◌∷◌, ◌++◌, ℕ, zero, suc, ◌+◌, ◌-◌, ◌*◌, ◌/◌, ◌%◌, ltb, eqb, length, take, drop}
use Rattle.laws.specs.Lists.{padded}
use Rattle.rules.specs.declared.Entry.{Entry}
use Rattle.rules.specs.declared.Table.{Table}
use Rattle.rules.specs.Limits.{guest_places, shortest_image, longest_image}
use Rattle.rules.specs.Refusals.{Row, ◌gives◌, outside}
use Rattle.rules.specs.Table.{entries_of, no_entry, count_row, range_rows, table_rows}

-- "n entries of 8 bytes"
abbrev pub entry_bytes : ℕ
entry_bytes = 8

-- "a trailer of 12 bytes that ends the image"
abbrev pub trailer_bytes : ℕ
trailer_bytes = 12

-- ---- reading

-- "Little-endian."
abbrev pub little : List ℕ → ℕ
little [] = 0
little (b ∷ bs) = b + 256 * little bs

-- the number that stands in `width` bytes at `at`
abbrev pub field : ℕ → ℕ → List ℕ → ℕ
field width at bytes = little (take width (drop at bytes))

-- "a trailer .. that ends the image"
abbrev pub trailer_at : List ℕ → ℕ
trailer_at image = length image - trailer_bytes

-- "H (4), offset of the first entry from the image's start (4), n (2), edition (2)": H stands first
abbrev pub frame_in : List ℕ → ℕ
frame_in image = field 4 (trailer_at image) image

-- the offset, behind H
abbrev pub offset_in : List ℕ → ℕ
offset_in image = field 4 (trailer_at image + 4) image

-- n, behind the offset
abbrev pub count_in : List ℕ → ℕ
count_in image = field 2 (trailer_at image + 8) image

-- the edition, behind n
abbrev pub edition_in : List ℕ → ℕ
edition_in image = field 2 (trailer_at image + 10) image

-- "Q in 4 bytes, T in 4"
abbrev pub entry_in : List ℕ → Entry
entry_in bytes = record { budget = field 4 0 bytes; period = field 4 4 bytes }

-- n of them, one behind the other
abbrev pub entries_in : ℕ → List ℕ → List Entry
entries_in zero bytes = []
entries_in (suc n) bytes = entry_in bytes ∷ entries_in n (drop entry_bytes bytes)

-- the entries' own bytes, "as a part of the caller's own image"
abbrev pub entries_part : List ℕ → List ℕ
entries_part image = take (entry_bytes * count_in image) (drop (offset_in image) image)

-- the table that an image says
unfoldable pub table_in : List ℕ → Table
table_in image =
    record {
      frame = frame_in image;
      count = count_in image;
      entries = padded guest_places no_entry (entries_in (count_in image) (entries_part image));
    }

-- 8: "image shorter than 20 or longer than 65,536"; 9: "edition is not 1"; 10; 11: "offset + 8n + 12 is not the image's length"; 12 to 14
abbrev pub read_rows : List ℕ → List Row
read_rows image =
    outside shortest_image longest_image (length image) gives 8
    ∷ not (eqb (edition_in image) 1) gives 9
    ∷ count_row (table_in image)
    ∷ not (eqb (offset_in image + entry_bytes * count_in image + trailer_bytes) (length image)) gives 11
    ∷ range_rows (table_in image)

-- ---- writing

-- x in `width` bytes
abbrev pub bytes_of : ℕ → ℕ → List ℕ
bytes_of zero x = []
bytes_of (suc width) x = x % 256 ∷ bytes_of width (x / 256)

-- "Q in 4 bytes, T in 4"
abbrev pub entry_image : Entry → List ℕ
entry_image e = bytes_of 4 e.budget ++ bytes_of 4 e.period

-- one behind the other
abbrev pub entries_image : List Entry → List ℕ
entries_image [] = []
entries_image (e ∷ es) = entry_image e ++ entries_image es

-- "H (4), offset .. (4), n (2), edition (2)", with offset 0 and edition 1
abbrev pub trailer_image : ℕ → ℕ → List ℕ
trailer_image H n = bytes_of 4 H ++ bytes_of 4 0 ++ bytes_of 2 n ++ bytes_of 2 1

-- "8n + 12 bytes .. with offset 0"
unfoldable pub image_of : Table → List ℕ
image_of t = entries_image (entries_of t) ++ trailer_image t.frame t.count

-- "8n + 12"
abbrev pub image_length : Table → ℕ
image_length t = entry_bytes * t.count + trailer_bytes

-- 10, 12 to 14; 15: "write buffer shorter than 8n + 12"
abbrev pub write_rows : Table → List ℕ → List Row
write_rows t buffer = table_rows t ++ (ltb (length buffer) (image_length t) gives 15 ∷ [])

-- "at the front of a lent buffer .. bytes behind them stay"
abbrev pub overwritten : Table → List ℕ → List ℕ
overwritten t buffer = image_of t ++ drop (image_length t) buffer
