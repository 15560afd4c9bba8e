-- How long a stretch lasts: what the loop's decision needs of Ask's answer, and what it promises.
use Rattle.std.specs.Prelude.{◌⊎◌, ◌≡◌, ℕ, ◌+◌}
use Rattle.rules.specs.declared.Portion.{Portion}
use Rattle.rules.specs.Calls.{portion_of}
use Rattle.rules.specs.Steps.{limited, span_of}
use Rattle.promises.specs.Spans.{Within}

-- so many ticks are not past the span that Ask gave; nothing to do has no span, and so no end
abbrev pub WithinSpan : ℕ → Portion → Type 0
WithinSpan ticks next = Within ticks (span_of (portion_of next))

-- nothing else ends a stretch: it stops at the end of its span, at the event or at the end
abbrev pub Stops : Portion → ℕ → ℕ → ℕ → ℕ → Type 0
Stops next clock event end ticks = (span_of (portion_of next) ≡ limited ticks) ⊎ (clock + ticks ≡ event) ⊎ (clock + ticks ≡ end)
