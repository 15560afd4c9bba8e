-- Images: what is written reads back as the same table, and what was read is written as the same image.
use mathlib.Core.Path.{◌≡◌, refl, sym, ap, ap₂, ◌∙◌}
use mathlib.Core.Bool.{true}
use mathlib.Core.List.{List, [], ◌∷◌, ◌++◌}
use Prim.Native.Nat.{ℕ, zero, suc, ◌+◌, ◌*◌, ◌/◌, ◌%◌, ◌^◌, ◌≤◌, ◌<◌}
use native.Mathlib.Nat.{mod-add-div, div-lt_iff_lt-mul, pow-suc}
use native.Mathlib.Omega.{arith}
use lib.Dec.{ltb, eqb}
use lib.ListN.{length, take, drop, length-append, take-append-drop, length-drop}
use lib.Pow.{are_bytes}
use lib.Seq.{length-take-le, take_at, take_all, drop_at, drop-append-add}
use borrow.Author.Tests.{ltb-true, ltb-false, eqb-true, eq-eqb, not-false}
use Rattle.std.specs.Prelude.{⊤, Result, Ok}
use Rattle.laws.specs.Lists.{padded}
use Rattle.laws.proofs.Cases.{and_both}
use Rattle.laws.proofs.Elements.{All, none, each}
use Rattle.laws.proofs.Parts.{parts_join, bytes_split}
use Rattle.rules.specs.declared.Entry.{Entry}
use Rattle.rules.specs.declared.Table.{Table}
use Rattle.rules.specs.declared.Refusal.{Refusal}
use Rattle.rules.specs.Limits.{guest_places, shortest_image, longest_image}
use Rattle.rules.specs.Refusals.{◌gives◌, first, number_of}
use Rattle.rules.specs.Table.{entries_of, no_entry, no_table, table_rows}
use Rattle.rules.specs.Image.{
  entry_bytes,
  trailer_bytes,
  little,
  field,
  trailer_at,
  frame_in,
  offset_in,
  count_in,
  edition_in,
  entry_in,
  entries_in,
  entries_part,
  table_in,
  read_rows,
  bytes_of,
  entry_image,
  entries_image,
  trailer_image,
  image_of,
  image_length,
  write_rows,
  overwritten,
}
use Rattle.rules.specs.Calls.{TableRead, TableWritten}
use Rattle.promises.specs.Promises.{WrittenIsRead, BehindStays, ReadIsWritten, RoundTrip}
use Rattle.promises.proofs.Refusing.{Clear, clear, clear_front, none_given}
use Rattle.promises.proofs.GoodTable.{between, not-outside, Fits, Good, good}
use Rattle.promises.proofs.Outcomes.{answer_same}

-- ---- a number in its bytes

-- a number's bytes read as the number
pub little_bytes : (width x : ℕ) → x < 256 ^ width → little (bytes_of width x) ≡ x
little_bytes zero x h = omega arith
little_bytes (suc width) x h = rw (little_bytes width (x / 256) ((div-lt_iff_lt-mul (omega arith)).1 (rw (← pow-suc) h))) (mod-add-div x 256)

-- bytes are those of the number that they read as
pub bytes_little : (bytes : List ℕ) → are_bytes bytes ≡ true → bytes_of (length bytes) (little bytes) ≡ bytes
bytes_little [] h = refl
bytes_little (b ∷ bytes) h =
    let (byte, others) = and_both (ltb b 256) (are_bytes bytes) h in
    let low = ltb-true b 256 byte in
    let e₁ : (b + 256 * little bytes) % 256 ≡ b = omega arith in
    let e₂ : (b + 256 * little bytes) / 256 ≡ little bytes = omega arith in
    rw (e₁, e₂, bytes_little bytes others)

module _ (bytes : List ℕ) (h : are_bytes bytes ≡ true) where
  -- the bytes of a field are those that stand there
  bytes_field : (width at : ℕ) → at + width ≤ length bytes → bytes_of width (field width at bytes) ≡ take width (drop at bytes)
  bytes_field width at fit =
      let part = take width (drop at bytes) in
      let long : length part ≡ width = length-take-le width (drop at bytes) (rw length-drop (omega arith)) in
      rw long at (bytes_little part (bytes_split width (drop at bytes) (bytes_split at bytes h).1).0)

  -- a part and the bytes of the field behind it are one part
  field_joins : (at m width : ℕ) {front : List ℕ} {x : ℕ} → at + m + width ≤ length bytes → front ≡ take m (drop at bytes)
      → x ≡ field width (at + m) bytes → front ++ bytes_of width x ≡ take (m + width) (drop at bytes)
  field_joins at m width fit e₁ e₂ = rw (e₁, e₂, bytes_field width (at + m) fit) (parts_join at m width bytes)

-- ---- entries in their bytes

-- "n entries of 8 bytes"
pub entries_image_long : (es : List Entry) → length (entries_image es) ≡ 8 * length es
entries_image_long [] = refl
entries_image_long (e ∷ es) = simp length-append (omega (arith, entries_image_long es))

-- n entries are read
pub entries_in_long : (n : ℕ) (bytes : List ℕ) → length (entries_in n bytes) ≡ n
entries_in_long zero bytes = refl
entries_in_long (suc n) bytes = ap suc (entries_in_long n (drop 8 bytes))

-- the bytes of entries that fit a frame read as the entries
entries_back : (H : ℕ) → H < 256 ^ 4 → {es : List Entry} → All (Fits H) es → entries_in (length es) (entries_image es) ≡ es
entries_back H high none = refl
entries_back H high (each {x = e} f fs) =
    let Q = little_bytes 4 e.budget (omega arith) in
    let T = little_bytes 4 e.period (omega arith) in
    let rest = entries_back H high fs in
    λ j. record { budget = Q j; period = T j } ∷ rest j

-- bytes of so many entries are those of the entries that they read as
entries_kept : (n : ℕ) (bytes : List ℕ) → are_bytes bytes ≡ true → length bytes ≡ 8 * n → entries_image (entries_in n bytes) ≡ bytes
entries_kept zero bytes h long = take_all 0 bytes (omega arith)
entries_kept (suc n) bytes h long =
    let one : entry_image (entry_in bytes) ≡ take 8 bytes = field_joins bytes h 0 4 4 (omega arith) (bytes_field bytes h 4 0 (omega arith)) refl in
    let others = entries_kept n (drop 8 bytes) (bytes_split 8 bytes h).1 (length-drop 8 bytes ∙ omega arith) in
    ap₂ (λ (a b : List ℕ). a ++ b) one others ∙ take-append-drop 8 bytes

-- ---- what was read is written as it was

-- an image's last 12 bytes are those of the trailer that they read as
trailer-kept : (image : List ℕ) → are_bytes image ≡ true → 12 ≤ length image → offset_in image ≡ 0 → edition_in image ≡ 1
    → trailer_image (frame_in image) (count_in image) ≡ drop (trailer_at image) image
trailer-kept image h long offset edition =
    let at = trailer_at image in
    let front = bytes_field image h 4 at (omega arith) in
    let offset-joins = field_joins image h at 4 4 (omega arith) front (sym offset) in
    let count-joins = field_joins image h at 8 2 (omega arith) offset-joins refl in
    field_joins image h at 10 2 (omega arith) count-joins (sym edition) ∙ take_all 12 (drop at image) (rw length-drop (omega arith))

-- what an image that is not refused has
pub record Readable (image : List ℕ) : Type 0 where
  pub length_low : shortest_image ≤ length image
  pub edition_known : edition_in image ≡ 1
  pub whole : offset_in image + entry_bytes * count_in image + trailer_bytes ≡ length image

-- an image that gives no number has that
pub readable : (image : List ℕ) → first (read_rows image) ≡ 0 → Readable image
readable image h =
    let p = clear (read_rows image) refl h in
    let size = offset_in image + entry_bytes * count_in image + trailer_bytes in
    record {
      length_low = (between shortest_image longest_image (length image) p.0).0;
      edition_known = eqb-true (edition_in image) 1 (not-false (eqb (edition_in image) 1) p.1.0);
      whole = eqb-true size (length image) (not-false (eqb size (length image)) p.1.1.1.0);
    }

-- "writing what was read from an image with offset 0 gives that image"
pub read_is_written : ReadIsWritten
unfolding image_of table_in
read_is_written image bytes h offset =
    let r = readable image h in
    let n = count_in image in
    let at = trailer_at image in
    let part = entries_part image in
    let ends : 8 * n ≡ at = omega arith in
    let front : part ≡ take at image = rw (offset, ends) in
    let long : length part ≡ 8 * n = rw (front, ends) (length-take-le at image (omega arith)) in
    let same : entries_of (table_in image) ≡ entries_in n part = take_at (entries_in n part) _ n (entries_in_long n part) in
    let kept : entries_image (entries_in n part) ≡ part = entries_kept n part (rw front (bytes_split at image bytes).0) long in
    let trailer_same = trailer-kept image bytes (omega arith) offset r.edition_known in
    ap₂ (λ (a b : List ℕ). a ++ b) (ap entries_image same ∙ kept ∙ front) trailer_same ∙ take-append-drop at image

-- ---- what is written reads back

-- a field behind the front is a field of the rest
field-behind : (front rest : List ℕ) (width k at : ℕ) → at ≡ length front + k → field width at (front ++ rest) ≡ field width k rest
field-behind front rest width k at e = rw (e, drop-append-add)

module _ (t : Table) (g : Good t) where
  -- "8n" bytes of entries
  pub part_long : length (entries_image (entries_of t)) ≡ 8 * t.count
  part_long = entries_image_long (entries_of t) ∙ rw g.long

  -- "8n + 12 bytes"
  pub image_long : length (image_of t) ≡ image_length t
  unfolding image_of
  image_long = simp (length-append, part_long)

  -- a field of the trailer
  trailer-field : (width k at : ℕ) → at ≡ trailer_at (image_of t) + k → field width at (image_of t) ≡ field width k (trailer_image t.frame t.count)
  unfolding image_of
  trailer-field width k at e =
      field-behind (entries_image (entries_of t)) (trailer_image t.frame t.count) width k at (omega (arith, image_long, part_long))

  -- each field of the trailer reads as what was written
  frame_back : frame_in (image_of t) ≡ t.frame
  frame_back = trailer-field 4 0 (trailer_at (image_of t)) (omega arith) ∙ little_bytes 4 t.frame (omega arith)

  offset_back : offset_in (image_of t) ≡ 0
  offset_back = trailer-field 4 4 (trailer_at (image_of t) + 4) refl

  count_back : count_in (image_of t) ≡ t.count
  count_back = trailer-field 2 8 (trailer_at (image_of t) + 8) refl ∙ little_bytes 2 t.count (omega arith)

  edition_back : edition_in (image_of t) ≡ 1
  edition_back = trailer-field 2 10 (trailer_at (image_of t) + 10) refl

  -- and so do the entries' own bytes
  part_back : entries_part (image_of t) ≡ entries_image (entries_of t)
  unfolding image_of
  part_back =
      rw (offset_back, count_back) (take_at (entries_image (entries_of t)) (trailer_image t.frame t.count) (8 * t.count) part_long)

  -- the entries read as they were
  entries_same : entries_in t.count (entries_image (entries_of t)) ≡ entries_of t
  entries_same = rw g.long at (entries_back t.frame (omega arith) g.fit)

  -- the image of a good table reads as the table
  table_back : table_in (image_of t) ≡ t
  unfolding table_in
  table_back = λ j. record { frame = frame_back j; count = count_back j; entries = all j }
    where
      all : padded guest_places no_entry (entries_in (count_in (image_of t)) (entries_part (image_of t))) ≡ t.entries
      all = rw (part_back, count_back, entries_same) g.filled

  -- and it is not refused
  read_passes : Clear (table_rows t) → Clear (read_rows (image_of t))
  read_passes p =
      let length-fits = not-outside shortest_image longest_image (length (image_of t)) (omega (arith, image_long)) (omega (arith, image_long)) in
      let size_fits = eq-eqb (0 + entry_bytes * t.count + trailer_bytes) (image_length t) (omega arith) in
      (length-fits, (rw edition_back, (rw table_back p.0, (rw (offset_back, count_back, image_long, size_fits), rw table_back p.1))))

-- "Reading those bytes gives the same table"
pub written_is_read : WrittenIsRead
written_is_read t buffer h =
    let c = clear_front (table_rows t) (ltb (length buffer) (image_length t) gives 15 ∷ []) (clear (write_rows t buffer) refl h) in
    let g = good t (none_given (table_rows t) c) in
    let front : take (image_length t) (overwritten t buffer) ≡ image_of t = take_at (image_of t) _ (image_length t) (image_long t g) in
    rw front (none_given (read_rows (image_of t)) (read_passes t g c), table_back t g)

-- "bytes behind them stay"
pub behind_stays : BehindStays
behind_stays t buffer h =
    let c = clear (write_rows t buffer) refl h in
    let g = good t (none_given (table_rows t) (clear_front (table_rows t) (ltb (length buffer) (image_length t) gives 15 ∷ []) c)) in
    let room = ltb-false (length buffer) (image_length t) c.1.1.1.1.0 in
    (length-append (image_of t) _ ∙ omega (arith, image_long t g, length-drop (image_length t) buffer), drop_at (image_of t) _ (image_length t) (image_long t g))

-- ---- of the calls

pub round_trip : RoundTrip
round_trip = record { written_read = there; read_written = back }
  where
    there : (t : Table) (buffer after : List ℕ) (l : Result Table Refusal) → TableWritten t buffer (Ok tt) after → TableRead (take (image_length t) after) l → l ≡ Ok t
    there t buffer after l w r =
        let none = sym w.answer in
        let content : after ≡ overwritten t buffer = w.content ∙ rw none in
        let read = written_is_read t buffer none in
        let number : first (read_rows (take (image_length t) after)) ≡ 0 = rw content read.0 in
        let table : table_in (take (image_length t) after) ≡ t = rw content read.1 in
        answer_same no_table l (Ok t) (r.answer ∙ number) (r.table ∙ rw number table)

    back : (image buffer after : List ℕ) (t : Table) → are_bytes image ≡ true → TableRead image (Ok t) → offset_in image ≡ 0 → TableWritten t buffer (Ok tt) after → take (length image) after ≡ image
    back image buffer after t bytes r offset w =
        let number = sym r.answer in
        let table : t ≡ table_in image = r.table ∙ rw number in
        let same : image_of t ≡ image = ap image_of table ∙ read_is_written image bytes number offset in
        let content : after ≡ overwritten t buffer = w.content ∙ rw (sym w.answer) in
        rw (content, same) (take_at image _ (length image) refl)
