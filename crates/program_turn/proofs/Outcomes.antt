-- A turn with room is that of its stage, and what a caller learns of it.
use mathlib.Core.Path.{◌≡◌, refl, sym, ap, ◌∙◌}
use mathlib.Core.Bool.{Bool, true, false, cond, not}
use mathlib.Core.List.{List}
use Prim.Native.Nat.{ℕ, ◌+◌, ◌≤◌}
use lib.ListN.{length}
use lib.Seq.{sets, length-sets}
use borrow.Author.Tests.{le-leb, not-false}
use Rattle.laws.proofs.Cases.{by_test}
use Rattle.program_text.specs.Lines.{has_room}
use Rattle.program_listing.specs.declared.Stage.{Stage}
use Rattle.program_listing.specs.declared.Held.{Held}
use Rattle.program_listing.specs.declared.Turned.{Turned}
use Rattle.program_listing.specs.Turning.{Turn, put_of, held_of, turn_in, turn_of, turn_room, Turning}
use Rattle.program_turn.specs.Inner.{Did}

-- ---- a turn, and its case

module _ (input : List ℕ) (h : Held) (buffer : List ℕ) (filled : ℕ) {may : Bool} (told : may ≡ has_room turn_room (length buffer) filled) (e : not may ≡ false) where
  -- with room the turn of its stage does
  pub turn_done : (stage : Stage) → h.stage ≡ stage → {after : List ℕ} {r : Turned} → Did (turn_in stage input h) buffer filled after r → Turning input h buffer filled after r
  unfolding turn_of
  turn_done stage f d =
      let some : has_room turn_room (length buffer) filled ≡ true = sym told ∙ not-false may e in
      let same : turn_in stage input h ≡ turn_of input h = ap (λ (x : Stage). turn_in x input h) (sym f) in
      record {
        held = rw some (d.held ∙ ap held_of same);
        holds = rw some (d.holds ∙ ap (λ (x : Turn). filled + length (put_of x)) same);
        content = rw some (d.content ∙ ap (λ (x : Turn). sets buffer filled (put_of x)) same);
        short = d.short;
      }

-- ---- what a caller learns of a turn

module _ {input : List ℕ} {h : Held} {buffer after : List ℕ} {filled : ℕ} {r : Turned} (s : Turning input h buffer filled after r) where
  -- the buffer is as long as before
  pub turning_long : length after ≡ length buffer
  turning_long =
      ap length s.content
      ∙ by_test (λ t. length (cond t (sets buffer filled (put_of (turn_of input h))) buffer) ≡ length buffer) (has_room turn_room (length buffer) filled) (λ _. length-sets buffer filled (put_of (turn_of input h))) (λ _. refl)

  module _ (k : filled + turn_room ≤ length buffer) where
    some : has_room turn_room (length buffer) filled ≡ true
    some = le-leb (filled + turn_room) (length buffer) k

    -- with room the next is held, and the bytes are put
    pub turning_held : r.held ≡ held_of (turn_of input h)
    turning_held = s.held ∙ rw some refl

    pub turning_holds : r.filled ≡ filled + length (put_of (turn_of input h))
    turning_holds = s.holds ∙ rw some refl

    pub turning_content : after ≡ sets buffer filled (put_of (turn_of input h))
    turning_content = s.content ∙ rw some refl
