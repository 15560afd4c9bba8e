-- Each turn makes the number smaller that says what is to go.
use mathlib.Core.Path.{◌≡◌, refl}
use mathlib.Core.Bool.{true, cond, false≢true}
use mathlib.Core.List.{List}
use Prim.Native.Nat.{ℕ, zero, suc, ◌+◌, ◌*◌, ◌≤◌, ◌<◌}
use native.Mathlib.Nat.{mul-le-mul_right, suc-mul}
use native.Mathlib.Omega.{arith}
use lib.Dec.{leb, ltb}
use lib.ListN.{length}
use Rattle.laws.proofs.Cases.{by_test, by_leb, by_ltb}
use Rattle.rules.specs.Refusals.{first}
use Rattle.rules.specs.Table.{table_rows}
use Rattle.rules.specs.Walks.{walk_left}
use Rattle.promises.proofs.Walks.{walk_left_falls, walk_left_bound}
use Rattle.program_text.specs.declared.Call.{Call}
use Rattle.program_text.specs.declared.Call.TheVariants.{Arrive, Done, Advance}
use Rattle.program_text.specs.declared.Line.{Line}
use Rattle.program_text.specs.declared.Line.TheVariants.{Malformed}
use Rattle.program_text.specs.Script.{malformed}
use Rattle.program_listing.specs.declared.Stage.{Stage}
use Rattle.program_listing.specs.declared.Stage.TheVariants.{Frames, Guests, Commands, Over}
use Rattle.program_listing.specs.declared.Held.{Held}
use Rattle.program_listing.specs.Listing.{frame_in, guest_in, command_in, most_input}
use Rattle.program_listing.specs.Turning.{line_at, behind, Turn, held_of, stops, over, ends, frame_line, checks, guest_line, walks, carries_out, command_line, turn_in, turn_of, goes_on, stages_left, to_go, TurnFalls}
use Rattle.program_turns.proofs.Giving.{by_given}
use Rattle.program_turns.proofs.Inputs.{line_end, behind_low, behind_high}

-- the first number is smaller, and the second no greater than the weight allows
pub weigh : (a b w x y : ℕ) → a < b → x < w → a * w + x < b * w + y
weigh a b w x y h k = let more : suc a ≤ b = omega arith in omega (arith, mul-le-mul_right w more, suc-mul a w)

-- or no greater than it was
weigh_same : (a b w x : ℕ) → a < b → 0 < w → a * w + x < b * w + x
weigh_same a b w x h k = let more : suc a ≤ b = omega arith in omega (arith, mul-le-mul_right w more, suc-mul a w)

module _ (input : List ℕ) (h : Held) where
  -- what a turn leaves is less
  abbrev Less : Turn → Type 0
  Less s = to_go input (held_of s) < to_go input h

  -- nothing comes any more
  over_less : 0 < stages_left h.stage → to_go input (over h) < to_go input h
  over_less k = weigh_same _ _ _ h.left (omega arith) (omega arith)

  check_less : h.stage ≡ Guests → (n : ℕ) → Less (checks n h)
  check_less e zero = rw e (weigh _ _ _ 0 h.left (omega arith) (omega arith))
  check_less e (suc n) = over_less (rw e (omega arith))

  walk_less : h.stage ≡ Commands → 0 < h.left → Less (walks h.left h.at h)
  walk_less e k = rw e (omega (arith, walk_left_falls h.state h.left k))

  -- a line behind which the input goes on, or ends
  module _ (end : ℕ) (low : h.at < end) (high : end ≤ length input) where
    frame_less : h.stage ≡ Frames → (l : Line) → Less (frame_line l end h)
    frame_less e l = by_given Less (frame_in l) (λ f. rw e (weigh _ _ _ 0 h.left (omega arith) (omega arith))) (over_less (rw e (omega arith)))

    guest_less : h.stage ≡ Guests → (l : Line) → Less (guest_line l end h)
    guest_less e l =
        by_given Less (guest_in l) (λ guest. rw e (weigh _ _ _ 0 h.left (omega arith) (omega arith))) (check_less e (first (table_rows h.table)))

    call_less : h.stage ≡ Commands → (c : Call) → Less (carries_out c end h)
    call_less e (Arrive i) = rw e (weigh _ _ _ 0 h.left (omega arith) (omega arith))
    call_less e (Done i) = rw e (weigh _ _ _ 0 h.left (omega arith) (omega arith))
    call_less e (Advance k) = rw e (weigh _ _ _ (walk_left k h.state) h.left (omega arith) (omega (arith, walk_left_bound h.state k)))

    command_less : h.stage ≡ Commands → (l : Line) → Less (command_line l end h)
    command_less e l = by_given Less (command_in l) (call_less e) (over_less (rw e (omega arith)))

  -- a turn that looks at the line which comes next: at the end of the input there is none, and else it has an end
  by_line : (f : Line → ℕ → Held → Turn) → ((end : ℕ) → Less (f Malformed end h))
      → ((end : ℕ) → h.at < end → end ≤ length input → (l : Line) → Less (f l end h)) → Less (f (line_at input h.at) (behind input h.at) h)
  by_line f none some =
      let end = behind input h.at in
      by_leb (λ _. Less (f (line_at input h.at) end h)) (length input) h.at
      (λ k. rw (line_end input h.at k) (none end))
      (λ k. some end (behind_low input h.at k) (behind_high input h.at k) (line_at input h.at))

  falls_in : (stage : Stage) → h.stage ≡ stage → goes_on stage ≡ true → Less (turn_in stage input h)
  falls_in Frames e g =
      by_test (λ t. Less (cond t (stops malformed h) (frame_line (line_at input h.at) (behind input h.at) h))) (ltb most_input (length input))
      (λ _. over_less (rw e (omega arith)))
      (λ _. by_line frame_line (λ end. over_less (rw e (omega arith))) (λ end low high. frame_less end low high e))
  falls_in Guests e g = by_line guest_line (λ end. check_less e (first (table_rows h.table))) (λ end low high. guest_less end low high e)
  falls_in Commands e g =
      let line = command_line (line_at input h.at) (behind input h.at) h in
      let last = cond (leb (length input) h.at) (ends h) line in
      by_ltb (λ t. Less (cond t (walks h.left h.at h) last)) 0 h.left
      (walk_less e)
      (λ _.
      by_leb (λ t. Less (cond t (ends h) line)) (length input) h.at
      (λ _. over_less (rw e (omega arith)))
      (λ k. command_less (behind input h.at) (behind_low input h.at k) (behind_high input h.at k) e (line_at input h.at)))
  falls_in Over e g = absurd (false≢true g)

pub turn_falls : TurnFalls
unfolding turn_of
turn_falls input h g = falls_in input h h.stage refl g
