-- The end of time is reached, and the bounds are needed: line 212 and a share above H, stepped all the same.
use mathlib.Core.Path.{◌≡◌, refl, sym, ap, ◌∙◌}
use mathlib.Core.List.{[], ◌∷◌}
use Prim.Native.Nat.{ℕ, zero, suc, ◌+◌}
use native.Mathlib.Nat.{add-zero}
use native.Mathlib.Omega.{arith}
use Rattle.rules.specs.Limits.{last_tick}
use Rattle.rules.specs.Table.{good_table}
use Rattle.rules.specs.Model.{guest, Model}
use Rattle.rules.specs.Steps.{arrive, renewed, next, serve, tick, advance}
use Rattle.rules.specs.Places.{model, packed, fresh_state}
use Rattle.rules.specs.Sound.{in_range, sound}
use Rattle.rules.specs.Calls.{Call, arrives, finishes, advances, asks, asks_active, asks_margin, number_given, state_after}
use Rattle.promises.specs.Borders.{end_of_time}
use Rattle.promises.proofs.Borders.{Hold, hold_each, all_hold}
use Rattle.promises.specs.Needed.{line212_state, overfull_rows, line212_rows}
use Rattle.promises.specs.Promises.{EndReached, ShareNeeded, Line212}

-- ---- the end of time

-- n ticks of that guest
abbrev waited : ℕ → Model
waited n = record { frame = 1; now = n; guests = guest 1 1 0 0 0 0 0 ∷ []; spares = []; burned = 0; empty = n }

waits : (k n : ℕ) → advance k (waited n) ≡ waited (n + k)
unfolding advance tick serve renewed next
waits zero n = ap waited (sym (add-zero n))
waits (suc k) n = waits k (n + 1) ∙ ap waited (omega arith)

pub end_reached : EndReached
unfolding end_of_time state_after model fresh_state sound good_table in_range
end_reached = (refl, ap packed (waits last_tick 0) ∙ unfold packed in refl)

-- ---- the bounds are needed

overfull-holds : Hold overfull_rows
unfolding overfull_rows arrive renewed next serve tick model fresh_state
overfull-holds = (refl, (refl, tt))

pub share_needed : ShareNeeded
share_needed = all_hold (hold_each overfull_rows overfull-holds)

line212-holds : Hold line212_rows
unfolding line212_rows renewed next serve tick
line212-holds = (refl, tt)

line212-refused : (c : Call) → number_given c line212_state ≡ 1
unfolding line212_state good_table model packed in_range sound
line212-refused (arrives i) = refl
line212-refused (finishes i) = refl
line212-refused (advances k) = refl
line212-refused asks = refl
line212-refused asks_active = refl
line212-refused (asks_margin i) = refl

pub line212_regression : Line212
line212_regression = record { refused = line212-refused; starves = all_hold (hold_each line212_rows line212-holds) }
