-- What the span of a portion promises: so many ticks stay on the portion, and the next one does not.
use Rattle.std.specs.Prelude.{◌≡◌, true, ℕ, suc, ◌-◌, ◌≤◌}
use Rattle.rules.specs.declared.State.{State}
use Rattle.rules.specs.Model.{Model}
use Rattle.rules.specs.Steps.{Use, Span, limited, endless, Portion, portion, span_of, advance, ask}
use Rattle.rules.specs.Places.{model}
use Rattle.rules.specs.Sound.{sound}

-- the span with n ticks fewer
abbrev pub fewer : ℕ → Span → Span
fewer n (limited ticks) = limited (ticks - n)
fewer n endless = endless

-- the portion with n ticks fewer left in it
abbrev pub shorter : ℕ → Portion → Portion
shorter n (portion u d span) = portion u d (fewer n span)

-- n ticks are within the span; nothing to do has no end
abbrev pub Within : ℕ → Span → Type 0
Within n (limited ticks) = n ≤ ticks
Within n endless = Unit {0}

-- the portion without its span: the use and the deadline
abbrev pub whose : Portion → Use × ℕ
whose (portion u d span) = (u, d)

-- "The span is the capacity left in that portion: the longest advance that stays on that portion if no other call comes, the end of time
-- (refusal 7) put aside.": after fewer ticks than the span, the portion is the same with as many ticks fewer left in it
abbrev pub SpanHolds : Type 0
SpanHolds =
    (s : State) → sound s ≡ true → (j : ℕ) → Within (suc j) (span_of (ask (model s)))
    → ask (advance j (model s)) ≡ shorter j (ask (model s))

-- the span's ticks over, what comes is not that portion; nothing to do has no span
abbrev pub Ends : Model → Portion → Type 0
Ends m (portion u d (limited ticks)) = whose (ask (advance ticks m)) ≡ (u, d) → ⊥
Ends m (portion u d endless) = Unit {0}

-- "the longest advance": no tick more stays on it
abbrev pub SpanEnds : Type 0
SpanEnds = (s : State) → sound s ≡ true → Ends (model s) (ask (model s))
