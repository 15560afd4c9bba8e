-- How long a stretch lasts: the span, or the room before the event and the end, whichever is less.
use mathlib.Core.Logic.{◌⊎◌, inl, inr}
use mathlib.Core.Path.{◌≡◌, ap}
use Prim.Native.Nat.{ℕ, ◌+◌, ◌-◌, ◌≤◌, ◌<◌, min}
use native.Mathlib.Decide.{dec_le}
use native.Mathlib.Omega.{arith}
use Rattle.rules.specs.declared.Portion.{Portion}
use Rattle.rules.specs.Calls.{portion_of}
use Rattle.rules.specs.Steps.{Span, limited, endless, span_of}
use Rattle.promises.specs.Spans.{Within}
use Rattle.example_loop.specs.Clauses.{WithinSpan, Stops}

-- the ticks of a stretch with so much room
abbrev lasting_on : Span → ℕ → ℕ
lasting_on (limited span) room = min span room
lasting_on endless room = room

abbrev pub lasting : Portion → ℕ → ℕ
lasting next room = lasting_on (span_of (portion_of next)) room

module _ (clock event end r : ℕ) (h : (clock < event) × (clock < end)) where
  -- all of the room reaches the event or the end
  room_over' : Dec (event ≤ end) → r ≡ min event end - clock → (clock + r ≡ event) ⊎ (clock + r ≡ end)
  room_over' (yes p) e = inl (omega arith)
  room_over' (no p) e = inr (omega arith)

  room_over : r ≡ min event end - clock → (clock + r ≡ event) ⊎ (clock + r ≡ end)
  room_over = room_over' (dec_le event end)

  stops' : (span : ℕ) → Dec (span ≤ min event end - clock) → r ≡ min span (min event end - clock) → (limited span ≡ limited r) ⊎ (clock + r ≡ event) ⊎ (clock + r ≡ end)
  stops' span (yes p) e = let whole : span ≡ r = omega arith in inl (ap limited whole)
  stops' span (no p) e = inr (room_over (omega arith))

  stops : (span : Span) → r ≡ lasting_on span (min event end - clock) → (span ≡ limited r) ⊎ (clock + r ≡ event) ⊎ (clock + r ≡ end)
  stops (limited span) e = stops' span (dec_le span (min event end - clock)) e
  stops endless e = inr (room_over e)

  within : (span : Span) → r ≡ lasting_on span (min event end - clock) → Within r span
  within (limited span) e = omega arith
  within endless e = tt

  some : (span : Span) → Within 1 span → r ≡ lasting_on span (min event end - clock) → 1 ≤ r
  some (limited span) w e = omega arith
  some endless w e = omega arith

  fits : (span : Span) → r ≡ lasting_on span (min event end - clock) → clock + r ≤ min event end
  fits (limited span) e = omega arith
  fits endless e = omega arith

  pub decided : (next : Portion) → WithinSpan 1 next → r ≡ lasting next (min event end - clock)
      → (1 ≤ r) × (WithinSpan r next × ((clock + r ≤ event) × ((clock + r ≤ end) × Stops next clock event end r)))
  decided next w e =
      let span = span_of (portion_of next) in
      let f : clock + r ≤ min event end = fits span e in
      (some span w e, (within span e, (omega arith, (omega arith, stops span e))))
