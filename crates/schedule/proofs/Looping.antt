-- What the loop that fills the buffer knows between two turns.
use mathlib.Core.Path.{◌≡◌, refl, sym, ap, ◌∙◌}
use mathlib.Core.Logic.{◌⊎◌, inl, inr}
use mathlib.Core.Bool.{Bool, true, false, false≢true}
use mathlib.Core.List.{List, ◌++◌}
use Prim.Native.Nat.{ℕ, suc, ◌+◌, ◌≤◌, ◌<◌}
use native.Mathlib.Omega.{arith}
use lib.ListN.{length, take, drop, length-append}
use lib.Seq.{sets, sets-eq, take_at, length-take-le}
use borrow.Author.Tests.{le-leb}
use Rattle.program_text.specs.Lines.{RoomTold}
use Rattle.program_listing.specs.declared.Held.{Held}
use Rattle.program_listing.specs.declared.Turned.{Turned}
use Rattle.program_listing.specs.Turning.{put_of, held_of, turn_of, goes_on, to_go, turn_room, put_out, held_after, GoingTold, Turning}
use Rattle.program_turns.proofs.Falling.{turn_falls}
use Rattle.program_turns.proofs.Turns.{put_more, held_more}
use Rattle.program_turn.proofs.Outcomes.{turning_long, turning_held, turning_holds, turning_content}
use Rattle.schedule.specs.Clauses.{Filled}

-- what is stored behind the front comes behind it
taken_on : (l vs : List ℕ) (i : ℕ) → i + length vs ≤ length l → take (i + length vs) (sets l i vs) ≡ take i l ++ vs
taken_on l vs i h =
    ap (take (i + length vs)) (sets-eq vs l i h)
    ∙ take_at (take i l ++ vs) (drop (i + length vs) l) (i + length vs) (length-append (take i l) vs ∙ ap (λ (n : ℕ). n + length vs) (length-take-le i l (omega arith)))

-- some turns were made from what was held, or none yet; `before` is the buffer at first
pub record Filling (input before : List ℕ) (from : Held) (buffer : List ℕ) (r : Turned) : Type 0 where
  pub long : length buffer ≡ length before
  pub inside : r.filled ≤ length before
  pub turns : ℕ
  pub reached : r.held ≡ held_after turns input from
  pub bytes : take r.filled buffer ≡ put_out turns input from
  pub less : (r ≡ record { held = from; filled = 0 }) ⊎ (to_go input r.held < to_go input from)

pub filling_start : (input before : List ℕ) (from : Held) → Filling input before from before (record { held = from; filled = 0 })
unfolding put_out held_after
filling_start input before from = record { long = refl; inside = omega arith; turns = 0; reached = refl; bytes = refl; less = inl refl }

module _ {input before : List ℕ} {from : Held} {buffer : List ℕ} {t : Turned} (w : Filling input before from buffer t) where
  -- some were made
  filling_end : ((t ≡ record { held = from; filled = 0 }) → goes_on from.stage ≡ true → ⊥) → Filled input from buffer t
  filling_end some =
      record {
        turns = w.turns;
        held = w.reached;
        bytes = w.bytes;
        inside = omega (arith, w.long, w.inside);
        less = λ f. elim w.less [ inl e ↦ absurd (some e f) | inr k ↦ k ];
      }

  -- no more is to come
  pub filling_over : {going : Bool} → GoingTold t.held.stage going → going ≡ false → Filled input from buffer t
  filling_over told e = filling_end (λ first f. false≢true (sym e ∙ told.answer ∙ ap (λ (x : Turned). goes_on x.held.stage) first ∙ f))

  -- no more has room
  pub filling_full : {room : Bool} → RoomTold (length buffer) t.filled turn_room room → room ≡ false → turn_room ≤ length before → Filled input from buffer t
  filling_full told e long =
      filling_end
      (λ first f.
      let none : t.filled ≡ 0 = ap (λ (x : Turned). x.filled) first in
      false≢true (sym e ∙ told ∙ le-leb (t.filled + turn_room) (length buffer) (omega (arith, w.long))))

  module _ (goes : goes_on t.held.stage ≡ true) (some : t.filled + turn_room ≤ length buffer) {after : List ℕ} {r : Turned} (s : Turning input t.held buffer t.filled after r) where
    -- one turn more
    pub filling_less : to_go input r.held < to_go input t.held
    filling_less = rw (turning_held s some) (turn_falls input t.held goes)

    filling_reached : r.held ≡ held_after (suc w.turns) input from
    filling_reached = turning_held s some ∙ ap (λ (h : Held). held_of (turn_of input h)) w.reached ∙ sym (held_more w.turns input from)

    filling_bytes : take r.filled after ≡ put_out (suc w.turns) input from
    filling_bytes =
        let out = put_of (turn_of input t.held) in
        let fits : t.filled + length out ≤ length buffer = omega (arith, turning_holds s some, s.short, some) in
        let front : take r.filled after ≡ take t.filled buffer ++ out = rw (turning_holds s some, turning_content s some) (taken_on buffer out t.filled fits) in
        let same : put_out w.turns input from ++ out ≡ put_out (suc w.turns) input from = ap (λ (h : Held). put_out w.turns input from ++ put_of (turn_of input h)) w.reached ∙ sym (put_more w.turns input from) in
        front ∙ ap (λ (x : List ℕ). x ++ out) w.bytes ∙ same

    within : to_go input t.held ≤ to_go input from
    within = elim w.less [ inl e ↦ rw e (omega arith) | inr k ↦ omega (arith, k) ]

    pub filling_more : Filling input before from after r
    filling_more =
        record {
          long = turning_long s ∙ w.long;
          inside = omega (arith, s.short, some, w.long);
          turns = suc w.turns;
          reached = filling_reached;
          bytes = filling_bytes;
          less = inr (omega (arith, filling_less, within));
        }
