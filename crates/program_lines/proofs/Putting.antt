-- Parts of a line put one behind the other, and the line that they make.
use mathlib.Core.Path.{◌≡◌, refl, sym, ◌∙◌}
use mathlib.Core.Bool.{Bool, true}
use mathlib.Core.List.{List, [], ◌∷◌, ◌++◌, append_assoc}
use Prim.Native.Nat.{ℕ, ◌+◌, ◌-◌, ◌≤◌}
use native.Mathlib.Omega.{arith}
use lib.ListN.{length, set, take, drop, length-append}
use lib.Seq.{sets-eq, drop-drop}
use borrow.Rule.Slice.PartMut.{put_mid}
use Rattle.laws.proofs.Parts.{stored_on}
use Rattle.rules.specs.declared.Line.{Line as LinePlace}
use Rattle.program_text.specs.Decimal.{decimal}
use Rattle.program_text.specs.Lines.{spaced, closed, used_bytes, portion_bytes, refusal_bytes, end_bytes, line_room, has_room, LinePut}
use Rattle.program_lines.specs.Inner.{PartPut}

-- ---- parts

-- one byte
pub part_byte : (b : ℕ) (buffer : List ℕ) (at : ℕ) {r : ℕ} → r ≡ at + 1 → PartPut (b ∷ []) 1 buffer at (set buffer at b) r
part_byte b buffer at e = record { content = refl; behind = e; short = omega arith }

-- two parts, the second behind the first, are one
pub part_on : {front back : List ℕ} {most more : ℕ} {before between after : List ℕ} {at to r : ℕ}
    → PartPut front most before at between to → PartPut back more between to after r → PartPut (front ++ back) (most + more) before at after r
part_on {front} {back} {before = before} {at = at} {to = to} p q =
    let long = length-append front back in
    record {
      content = stored_on before at to front back (sym p.behind) p.content q.content;
      behind = omega (arith, long, p.behind, q.behind);
      short = omega (arith, long, p.short, q.short);
    }

-- a part with room for more bytes
pub part_within : {bytes : List ℕ} {most more : ℕ} {before after : List ℕ} {at r : ℕ} → most ≤ more → PartPut bytes most before at after r → PartPut bytes more before at after r
part_within h p = record { content = p.content; behind = p.behind; short = omega (arith, p.short) }

-- ---- the parts of each line

module _ (before : List ℕ) (filled : ℕ) {after : List ℕ} {r : ℕ} where
  pub portion_parts : (p : LinePlace) {one two : List ℕ} {at to : ℕ} → PartPut (decimal p.first) 20 before filled one at → PartPut (spaced p.end) 21 one at two to
      → PartPut (used_bytes p.used) 43 two to after r → PartPut (portion_bytes p) line_room before filled (set after r 10) (r + 1)
  unfolding portion_bytes
  portion_parts p first end used = part_on (part_on (part_on first end) used) (part_byte 10 after r refl)

  pub refusal_parts : (n : ℕ) → PartPut (closed n 10) 22 (set before filled 33) (filled + 1) after r → PartPut (refusal_bytes n) line_room before filled after r
  unfolding refusal_bytes
  refusal_parts n number = part_within (omega arith) (part_on (part_byte 33 before filled refl) number)

  pub end_parts : (tick : ℕ) {word : List ℕ} → word ≡ 101 ∷ 110 ∷ 100 ∷ [] → filled + 3 ≤ length before
      → PartPut (closed tick 10) 22 (put_mid filled (filled + 3 - filled) before word) (filled + 3) after r → PartPut (end_bytes tick) line_room before filled after r
  unfolding end_bytes
  end_parts tick {word} e h number =
      let bytes : List ℕ = 101 ∷ 110 ∷ 100 ∷ [] in
      let room : filled + 3 - filled ≡ 3 = omega arith in
      let put : PartPut bytes 3 before filled (put_mid filled (filled + 3 - filled) before word) (filled + 3) =
      record { content = rw (room, e, drop-drop) (sym (sets-eq bytes before filled h ∙ append_assoc (take filled before) bytes (drop (filled + 3) before))); behind = refl; short = omega arith } in
      part_within (omega arith) (part_on put number)

-- ---- the whole line

-- with room all of it is put
pub line_put : (buffer : List ℕ) (filled : ℕ) {room : Bool} → room ≡ has_room line_room (length buffer) filled → room ≡ true → {bytes after : List ℕ} {r : ℕ} → PartPut bytes line_room buffer filled after r → LinePut bytes buffer filled after r
line_put buffer filled told e p =
    let some : has_room line_room (length buffer) filled ≡ true = sym told ∙ e in
    record { content = rw some p.content; holds = rw some p.behind; short = omega (arith, p.behind, p.short) }
