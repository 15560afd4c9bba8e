-- What is stored one entry after the other, and what writing answers.
use mathlib.Core.Path.{◌≡◌, refl, sym, ap, ◌∙◌}
use mathlib.Core.List.{List, [], ◌∷◌, ◌++◌, append_assoc}
use Prim.Native.Nat.{ℕ, zero, suc, ◌+◌, ◌*◌, ◌/◌, ◌%◌, ◌^◌, ◌≤◌, ◌<◌}
use native.Mathlib.Numerals.{add-one}
use native.Mathlib.Omega.{arith}
use lib.Dec.{ltb}
use lib.ListN.{length, get_or, take}
use lib.Seq.{take-suc, length-take-le, sets}
use borrow.Author.Tests.{le-ltb}
use borrow.Rule.Slice.PartMut.{put_mid}
use Rattle.std.specs.Prelude.{Ok}
use Rattle.std.specs.Int.{w64, byte_at, bytes_low_first, to_le_bytes}
use Rattle.std.proofs.Math.Nat.{div-div-eq-div-mul, pow-suc}
use Rattle.std.proofs.lemmas.List.{take_all}
use Rattle.std.proofs.lemmas.List.Edits.{sets-eq}
use Rattle.std.proofs.lemmas.Slice.{put_mid-paste}
use Rattle.laws.proofs.Parts.{stored_on, stored_front}
use Rattle.rules.specs.declared.Entry.{Entry}
use Rattle.rules.specs.declared.Table.{Table}
use Rattle.rules.specs.Refusals.{Row, ◌gives◌, first}
use Rattle.rules.specs.Table.{no_entry, entries_of, table_rows}
use Rattle.rules.specs.Image.{entry_image, entries_image, trailer_image, image_of, image_length, write_rows, bytes_of}
use Rattle.rules.specs.Calls.{TableWritten}
use Rattle.promises.proofs.Refusing.{clear, first-behind}
use Rattle.promises.proofs.GoodTable.{good}
use Rattle.promises.proofs.Images.{entries_image_long, part_long, image_long}

-- ---- a number's bytes

bytes_long : (width x : ℕ) → length (bytes_of width x) ≡ width
bytes_long zero x = refl
bytes_long (suc width) x = ap suc (bytes_long width (x / 256))

bytes_front : (width more x : ℕ) → width ≤ more → take width (bytes_of more x) ≡ bytes_of width x
bytes_front zero more x h = refl
bytes_front (suc width) zero x h = absurd (omega arith)
bytes_front (suc width) (suc more) x h = ap {B = List ℕ} (λ r. x % 256 ∷ r) (bytes_front width more (x / 256) (omega arith))

-- the library's bytes of a number are the rules'
byte_at_lem : (i x : ℕ) → byte_at i x ≡ x / 256 ^ i % 256
byte_at_lem zero x = omega arith
byte_at_lem (suc i) x = refl

low_first : (i width x : ℕ) → bytes_low_first i width x ≡ bytes_of width (x / 256 ^ i)
low_first i zero x = refl
low_first i (suc width) x =
    let next : x / 256 ^ suc i ≡ x / 256 ^ i / 256 = ap (λ (n : ℕ). x / n) (pow-suc 256 i) ∙ sym (div-div-eq-div-mul x (256 ^ i) 256) in
    rw (byte_at_lem i x, low_first (suc i) width x, next) refl

-- a part of the buffer that a number's bytes were copied to
pub stored_number : (before : List ℕ) (at k width x : ℕ) {part : List ℕ} → width ≤ 8 → at + width ≤ length before → k ≡ width → part ≡ take width (to_le_bytes w64 x)
    → put_mid at k before part ≡ sets before at (bytes_of width x)
stored_number before at k width x h l n e =
    let whole : x / 256 ^ 0 ≡ x = omega arith in
    let same = e ∙ ap (take width) (low_first 0 8 x ∙ ap (bytes_of 8) whole) ∙ bytes_front width 8 x h in
    let long = bytes_long width x in
    put_mid-paste at k before _ (bytes_of width x) width same (sym n) (sym long)
    ∙ rw (take_all width (bytes_of width x) (omega arith), sets-eq (bytes_of width x) before at (omega arith), long) refl

-- ---- entries, one after the other

entries_append : (es fs : List Entry) → entries_image (es ++ fs) ≡ entries_image es ++ entries_image fs
entries_append [] fs = refl
entries_append (e ∷ es) fs = rw (entries_append es fs, append_assoc)

-- one entry more
entries_more : (es : List Entry) (i : ℕ) → i < length es → entries_image (take (i + 1) es) ≡ entries_image (take i es) ++ entry_image (get_or es i no_entry)
entries_more es i h = rw (add-one i, take-suc es i no_entry h, entries_append (take i es) (get_or es i no_entry ∷ []))

-- after is what was before, with the first i entries stored at its front
pub record Stored (es : List Entry) (before : List ℕ) (i : ℕ) (after : List ℕ) : Type 0 where
  pub so : after ≡ sets before 0 (entries_image (take i es))

pub stored_all : {es : List Entry} {before : List ℕ} {i : ℕ} {after : List ℕ} → Stored es before i after → length es ≤ i → after ≡ sets before 0 (entries_image es)
stored_all {es} {before} {i} s h = s.so ∙ ap (λ (fs : List Entry). sets before 0 (entries_image fs)) (take_all i es h)

module _ (es : List Entry) (before : List ℕ) (i : ℕ) {after : List ℕ} (s : Stored es before i after) where
  pub stored_more : {next : List ℕ} → i < length es → next ≡ sets after (8 * i) (entry_image (get_or es i no_entry)) → Stored es before (i + 1) next
  stored_more h e =
      let front = entries_image (take i es) in
      let end : 0 + length front ≡ 8 * i = omega (arith, entries_image_long (take i es), length-take-le i es (omega arith)) in
      record { so = rw (entries_more es i h) (stored_on before 0 (8 * i) front (entry_image (get_or es i no_entry)) end s.so e) }

-- ---- the answers

-- 15: "write buffer shorter than 8n + 12"
abbrev length_row : Table → List ℕ → Row
length_row t buffer = ltb (length buffer) (image_length t) gives 15

module _ (t : Table) (buffer : List ℕ) where
  module _ (none : first (table_rows t) ≡ 0) where
    -- only the buffer's length is left to refuse
    by_length : first (write_rows t buffer) ≡ first (length_row t buffer ∷ [])
    by_length = first-behind (table_rows t) (length_row t buffer ∷ []) (clear (table_rows t) refl none)

    -- the entries and a trailer behind them are the table's image
    pub written : {entries after : List ℕ} → image_length t ≤ length buffer → entries ≡ sets buffer 0 (entries_image (entries_of t))
        → after ≡ sets entries (8 * t.count) (trailer_image t.frame t.count) → TableWritten t buffer (Ok tt) after
    unfolding image_of
    written h e₁ e₂ =
        let g = good t none in
        let part = entries_image (entries_of t) in
        let given : first (write_rows t buffer) ≡ 0 = by_length ∙ rw (le-ltb (length buffer) (image_length t) h) in
        let whole = stored_on buffer 0 (8 * t.count) part (trailer_image t.frame t.count) (omega (arith, part_long t g)) e₁ e₂ in
        record { answer = sym given; content = rw given (whole ∙ stored_front buffer (image_of t) (image_length t) (image_long t g) h) }
