-- What the parts of a turn put into the buffer, as the turn that they make.
use mathlib.Core.Path.{◌≡◌, refl, sym, ap, ◌∙◌}
use mathlib.Core.Bool.{true}
use mathlib.Core.List.{List, [], ◌∷◌, ◌++◌, append-nil, append_assoc}
use Prim.Native.Nat.{ℕ, ◌+◌, ◌*◌, ◌≤◌, ◌<◌}
use native.Mathlib.Numerals.{add-one}
use native.Mathlib.Omega.{arith}
use lib.ListN.{length, get_or, take, length-append}
use lib.Seq.{take-suc, sets, length-sets}
use borrow.Author.Tests.{le-leb}
use Rattle.laws.proofs.Parts.{stored_on}
use Rattle.rules.specs.declared.Line.{Line as LinePlace}
use Rattle.program_text.specs.Lines.{portion_bytes, line_room, has_room, LinePut}
use Rattle.program_listing.specs.Listing.{portions_bytes}

-- ---- one line

module _ {bytes buffer after : List ℕ} {filled r : ℕ} (l : LinePut bytes buffer filled after r) (h : filled + line_room ≤ length buffer) where
  some_room : has_room line_room (length buffer) filled ≡ true
  some_room = le-leb (filled + line_room) (length buffer) h

  pub line_holds : r ≡ filled + length bytes
  line_holds = l.holds ∙ rw some_room refl

  pub line_content : after ≡ sets buffer filled bytes
  line_content = l.content ∙ rw some_room refl

-- ---- portions, one behind the other

portions_join : (ps qs : List LinePlace) → portions_bytes (ps ++ qs) ≡ portions_bytes ps ++ portions_bytes qs
portions_join [] qs = refl
portions_join (p ∷ ps) qs = rw (portions_join ps qs, append_assoc)

-- one portion more
portions_more : (ps : List LinePlace) (i : ℕ) (z : LinePlace) → i < length ps → portions_bytes (take (i + 1) ps) ≡ portions_bytes (take i ps) ++ portion_bytes (get_or ps i z)
portions_more ps i z h = rw (add-one i, take-suc ps i z h, portions_join (take i ps) (get_or ps i z ∷ []), append-nil)

-- after is what was before, with the lines of the first i portions behind the bytes that it held
pub record Shown (ps : List LinePlace) (before : List ℕ) (filled i : ℕ) (after : List ℕ) (end : ℕ) : Type 0 where
  pub holds : end ≡ filled + length (portions_bytes (take i ps))
  pub content : after ≡ sets before filled (portions_bytes (take i ps))
  pub short : end ≤ filled + i * line_room

module _ {ps : List LinePlace} {before : List ℕ} {filled i : ℕ} {after : List ℕ} {end : ℕ} (s : Shown ps before filled i after end) where
  pub shown_long : length after ≡ length before
  shown_long = ap length s.content ∙ length-sets before filled (portions_bytes (take i ps))

  pub shown_more : (z : LinePlace) {next : List ℕ} {r : ℕ} → i < length ps → end + line_room ≤ length after → LinePut (portion_bytes (get_or ps i z)) after end next r
      → Shown ps before filled (i + 1) next r
  shown_more z h room l =
      let line = portion_bytes (get_or ps i z) in
      let front = portions_bytes (take i ps) in
      let more = portions_more ps i z h in
      record {
        holds = rw more (omega (arith, line_holds l room, s.holds, length-append front line));
        content = rw more (stored_on before filled end front line (sym s.holds) s.content (line_content l room));
        short = omega (arith, s.short, l.short);
      }
