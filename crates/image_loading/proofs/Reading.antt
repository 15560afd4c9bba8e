-- What the parts of an image read as: an entry, the entries in their places, and each answer of the reading.
use mathlib.Core.Path.{◌≡◌, refl, sym, ap, ◌∙◌}
use mathlib.Core.List.{List, [], ◌∷◌, ◌++◌}
use mathlib.Core.Bool.{true, not}
use Prim.Native.Nat.{ℕ, zero, suc, ◌+◌, ◌-◌, ◌*◌, ◌≤◌, ◌<◌, ◌^◌}
use native.Mathlib.Numerals.{add-one}
use native.Mathlib.Omega.{arith}
use denote.Ref.{Bor}
use lib.Dec.{eqb}
use lib.ListN.{length, take, drop, set}
use borrow.Author.Tests.{eq-eqb, ne_eqb}
use lib.Seq.{drop-drop}
use Rattle.std.specs.Prelude.{Result, Ok, Err}
use Rattle.std.specs.Result.{is_ok, IsErrAnd}
use Rattle.laws.specs.Lists.{padded}
use Rattle.laws.proofs.Places.{set_padded}
use Rattle.rules.specs.declared.Entry.{Entry}
use Rattle.rules.specs.declared.Table.{Table}
use Rattle.rules.specs.declared.Refusal.{Refusal}
use Rattle.rules.specs.Limits.{guest_places, shortest_image, longest_image}
use Rattle.rules.specs.Refusals.{Row, ◌gives◌, first, outside, number_of, refusal_number}
use Rattle.rules.specs.Table.{no_entry, no_table, count_row, range_rows, table_rows}
use Rattle.rules.specs.Image.{entry_bytes, trailer_bytes, field, trailer_at, frame_in, offset_in, count_in, edition_in, entry_in, entries_in, entries_part, table_in, read_rows}
use Rattle.rules.specs.Calls.{kept, TableChecked, TableRead, EntriesHanded}
use Rattle.promises.proofs.Refusing.{given_here, given-later}
use Rattle.promises.proofs.GoodTable.{not-outside}
use Rattle.promises.proofs.Images.{entries_in_long, readable}
use Rattle.promises.proofs.Outcomes.{refusal_counts, kept_back, one_outcome}
use Rattle.image_reader.specs.declared.Trailer.{Trailer}
use Rattle.image_reader.specs.Clauses.{number_at, behind_of, TrailerRead}
use Rattle.image_loading.specs.Clauses.{EntriesPart}
use Rattle.image_loading.specs.Inner.{Whole}
use Rattle.image_reader.proofs.Laws.{number_in, behind_in}

-- two numbers side by side are an entry
pub entry_whole :
    (part : List ℕ) (at Q T : ℕ) → at + 8 ≤ length part → length part < 2 ^ 64 → Q ≡ number_at 4 at part → T ≡ number_at 4 (behind_of at 4) part
    → record { budget = Q; period = T } ≡ entry_in (drop at part)
entry_whole part at Q T h fits q t =
    let budget = q ∙ number_in part 4 at (omega arith) in
    let place = ap (λ (n : ℕ). number_at 4 n part) (sym (behind_in at 4 (omega arith))) in
    let period = t ∙ place ∙ number_in part 4 (at + 4) (omega arith) ∙ ap (λ (l : List ℕ). field 4 0 l) (sym (drop-drop 4 at part)) in
    λ i. record { budget = budget i; period = period i }

-- one entry more
entries_more : (n : ℕ) (part : List ℕ) → entries_in (suc n) part ≡ entries_in n part ++ (entry_in (drop (8 * n) part) ∷ [])
entries_more zero part = refl
entries_more (suc n) part =
    let e : 8 * suc n ≡ 8 + 8 * n = omega arith in
    rw (e, ← drop-drop (8 * n) 8 part) (ap {B = List Entry} (λ r. entry_in part ∷ r) (entries_more n (drop 8 part)))

-- the first i entries stand in their places
pub record Filled (part : List ℕ) (entries : List Entry) (i : ℕ) : Type 0 where
  pub so : entries ≡ padded guest_places no_entry (entries_in i part)

pub filled_more : {part : List ℕ} {entries : List Entry} {i : ℕ} → Filled part entries i → (e : Entry) → e ≡ entry_in (drop (8 * i) part) → i < guest_places → Filled part (set entries i e) (i + 1)
filled_more {part} {entries} {i} f e q h =
    record {
      so =
          ap (λ (l : List Entry). set l i e) f.so
          ∙ set_padded guest_places no_entry i (entries_in i part) e (entries_in_long i part) h
          ∙ ap (λ (x : Entry). padded guest_places no_entry (entries_in i part ++ (x ∷ []))) q
          ∙ ap (λ (l : List Entry). padded guest_places no_entry l) (sym (entries_more i part))
          ∙ ap (λ (k : ℕ). padded guest_places no_entry (entries_in k part)) (sym (add-one i));
    }

-- ---- the rows of a reading, one after the other

module _ (image : List ℕ) where
  abbrev size : ℕ
  size = offset_in image + entry_bytes * count_in image + trailer_bytes

  abbrev rows_11 : List Row
  rows_11 = not (eqb size (length image)) gives 11 ∷ range_rows (table_in image)

  abbrev rows_9 : List Row
  rows_9 = not (eqb (edition_in image) 1) gives 9 ∷ count_row (table_in image) ∷ rows_11

  module _ (low : shortest_image ≤ length image) (high : length image ≤ longest_image) where
    past_8 : {m : ℕ} → m ≡ first rows_9 → m ≡ first (read_rows image)
    past_8 e = given-later (outside shortest_image longest_image (length image)) 8 rows_9 (not-outside shortest_image longest_image (length image) low high) e

    pub gives_9 : (edition_in image ≡ 1 → ⊥) → 9 ≡ first (read_rows image)
    gives_9 h = past_8 (given_here (not (eqb (edition_in image) 1)) 9 (count_row (table_in image) ∷ rows_11) (ap not (ne_eqb (edition_in image) 1 h)))

    module _ (edition : edition_in image ≡ 1) where
      past_9 : {m : ℕ} → m ≡ first (count_row (table_in image) ∷ rows_11) → m ≡ first (read_rows image)
      past_9 e = past_8 (given-later (not (eqb (edition_in image) 1)) 9 (count_row (table_in image) ∷ rows_11) (ap not (eq-eqb (edition_in image) 1 edition)) e)

      pub gives_10 : outside 1 guest_places (count_in image) ≡ true → 10 ≡ first (read_rows image)
      unfolding table_in
      gives_10 h = past_9 (given_here (outside 1 guest_places (count_in image)) 10 rows_11 h)

      module _ (some : 1 ≤ count_in image) (few : count_in image ≤ guest_places) where
        past_10 : {m : ℕ} → m ≡ first rows_11 → m ≡ first (read_rows image)
        unfolding table_in
        past_10 e = past_9 (given-later (outside 1 guest_places (count_in image)) 10 rows_11 (not-outside 1 guest_places (count_in image) some few) e)

        pub gives_11 : (size ≡ length image → ⊥) → 11 ≡ first (read_rows image)
        gives_11 h = past_10 (given_here (not (eqb size (length image))) 11 (range_rows (table_in image)) (ap not (ne_eqb size (length image) h)))

        -- what is left is the table's own check
        pub as_table : size ≡ length image → first (table_rows (table_in image)) ≡ first (read_rows image)
        as_table h =
            past_10
            (given-later (not (eqb size (length image))) 11 (range_rows (table_in image)) (ap not (eq-eqb size (length image) h)) counted)
          where
            counted : first (table_rows (table_in image)) ≡ first (range_rows (table_in image))
            counted = unfold table_in in sym (given-later (outside 1 guest_places (count_in image)) 10 (range_rows (table_in image)) (not-outside 1 guest_places (count_in image) some few) refl)

-- ---- what a reading gives back

-- a refused one
pub refused_read : (image : List ℕ) (n : ℕ) (r : Refusal) → suc n ≡ first (read_rows image) → refusal_number r ≡ suc n → TableRead image (Err r)
refused_read image n r e a = record { answer = a ∙ e; table = ap (λ (k : ℕ). kept k (table_in image) no_table) e }

-- one that the table's own check decides
module _ (image : List ℕ) (e : first (table_rows (table_in image)) ≡ first (read_rows image)) {table : Table} (t : table ≡ table_in image) where
  pub tested_bad : {r : Refusal} → TableChecked table (Err r) → (b : Result Table Refusal) → IsErrAnd b (λ x. x ≡ r) → TableRead image b
  tested_bad c (Ok x) h = absurd h
  tested_bad {r} c (Err x) h =
      let number : refusal_number x ≡ first (read_rows image) = ap refusal_number h ∙ c.answer ∙ ap (λ (t : Table). first (table_rows t)) t ∙ e in
      record { answer = number; table = sym (kept_back (first (read_rows image)) (table_in image) no_table (omega (arith, number, refusal_counts x))) }

  pub tested_good : TableChecked table (Ok tt) → TableRead image (Ok table)
  tested_good c =
      let none : 0 ≡ first (read_rows image) = c.answer ∙ ap (λ (t : Table). first (table_rows t)) t ∙ e in
      record { answer = none; table = t ∙ ap (λ (k : ℕ). kept k (table_in image) no_table) none }

-- ---- the trailer's numbers, of an image that is long enough

pub record Numbers (image : List ℕ) (t : Trailer) : Type 0 where
  pub frame : t.frame ≡ frame_in image
  pub offset : t.offset ≡ offset_in image
  pub count : t.count ≡ count_in image
  pub edition : t.edition ≡ edition_in image

pub numbers_of : (image : List ℕ) (t : Trailer) → shortest_image ≤ length image → TrailerRead image t → Numbers image t
numbers_of image t h r =
    record {
      frame = r.frame.0 ∙ number_in image 4 (trailer_at image) (omega arith);
      offset = r.offset.0 ∙ number_in image 4 (trailer_at image + 4) (omega arith);
      count = r.count.0 ∙ number_in image 2 (trailer_at image + 8) (omega arith);
      edition = r.edition.0 ∙ number_in image 2 (trailer_at image + 10) (omega arith);
    }

-- the part between the offset and the trailer is the entries' own
pub part_between : (image : List ℕ) → size image ≡ length image → take (length image - 12 - offset_in image) (drop (offset_in image) image) ≡ entries_part image
part_between image h =
    let e : length image - 12 - offset_in image ≡ entry_bytes * count_in image = omega arith in
    rw e

-- the table of the numbers read and the part handed on
pub table_whole : (image : List ℕ) (t : Trailer) → Whole image t → (entries : List Entry) → entries ≡ padded guest_places no_entry (entries_in t.count (take (length image - 12 - t.offset) (drop t.offset image)))
    → record { frame = t.frame; count = t.count; entries = entries } ≡ table_in image
unfolding table_in
table_whole image t w entries e =
    let frame = w.frame in
    let count = w.count in
    let ends : size image ≡ length image = rw (w.offset, w.count) at w.ends in
    let all : entries ≡ padded guest_places no_entry (entries_in (count_in image) (entries_part image)) = rw (w.offset, w.count, part_between image ends) at e in
    λ i. record { frame = frame i; count = count i; entries = all i }

-- ---- the entries that are handed on

-- an answer that is none went
pub went : {A : Type 0} (r : Result A Refusal) {n : ℕ} → number_of r ≡ n → is_ok r ≡ true → n ≡ 0
went (Ok x) e h = sym e
went (Err r) e h = cc

pub went_hands : (image : List ℕ) (t : Trailer) → first (read_rows image) ≡ 0 → Numbers image t → EntriesHanded image t.offset (take (length image - 12 - t.offset) (drop t.offset image))
went_hands image t e n =
    record {
      place = n.offset ∙ rw e;
      bytes = rw (n.offset, part_between image (readable image e).whole, e);
    }

-- ---- one outcome

-- any two parts that the contract of `entries` allows lie at one place and hold the same bytes
pub one_part : (image x y : Bor (List ℕ)) → EntriesPart image x → EntriesPart image y → (x.ref_ptr.0 ≡ y.ref_ptr.0) × (x.ref_ptr.1 ≡ y.ref_ptr.1) × (x.now ≡ y.now)
one_part image x y p q =
    let same = entries_same image.now p.start q.start x.now y.now p.handed q.handed in
    (p.block ∙ sym q.block, p.place ∙ ap (λ (k : ℕ). image.ref_ptr.1 + k) same.0 ∙ sym q.place, same.1)
  where
    entries_same : (l : List ℕ) (i j : ℕ) (a b : List ℕ) → EntriesHanded l i a → EntriesHanded l j b → (i ≡ j) × (a ≡ b)
    entries_same = one_outcome.entries
