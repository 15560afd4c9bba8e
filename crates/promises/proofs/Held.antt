-- The rows of the promises' words hold: by computing, and where a row is a statement, by its numbers.
use mathlib.Core.Path.{◌≡◌, refl, ap}
use mathlib.Core.List.{[], ◌∷◌}
use mathlib.Core.Bool.{true}
use Prim.Native.Nat.{ℕ, zero, suc, ◌≤◌, ◌<◌}
use native.Mathlib.Omega.{arith}
use Rattle.laws.proofs.Cases.{never}
use Rattle.rules.specs.Table.{good_table}
use Rattle.rules.specs.Model.{active, current_of, deadline_of, guest_at, capacity_of, due_of, spare_at, spare}
use Rattle.rules.specs.Steps.{arrive, done, own_budget, Use, runs, renewed, next, serve, tick, advance, ask}
use Rattle.rules.specs.Places.{model, packed}
use Rattle.rules.specs.Sound.{in_range, sound}
use Rattle.rules.specs.Calls.{state_after}
use Rattle.rules.specs.Lines.{lines}
use Rattle.rules.specs.Walks.{ticks_in, walk_lines, walk_state, walk_left}
use Rattle.rules.specs.Samples.{sample, lone}
use Rattle.rules.specs.HeldSteps.{of}
use Rattle.promises.specs.Joining.{joined, walked_to, left_after, uses}
use Rattle.promises.specs.Runs.{after_all, events_of, events, counted}
use Rattle.promises.specs.Promises.{bit, actives}
use Rattle.promises.specs.Held.{JoiningHeld, SpansHeld, RunsHeld, WordsHeld}

pub joining_held : JoiningHeld
unfolding sample lone good_table renewed next serve tick advance ask model packed in_range sound lines ticks_in walk_lines walk_state walk_left joined walked_to left_after uses
joining_held =
    record {
      left = refl;
      reached = refl;
      portions = refl;
      second_walk = refl;
      two-walks = refl;
      each_tick = refl;
      of_a_portion = refl;
    }

-- a renewed budget has another deadline
renewed_apart : ◌≡◌ {A = Use × ℕ} (runs 0 own_budget, 32) (runs 0 own_budget, 20) → ⊥
renewed_apart e = let d : ◌≡◌ {A = ℕ} 32 20 = ap (λ (w : Use × ℕ). w.1) e in omega arith

pub spans_held : SpansHeld
unfolding renewed next serve tick advance ask
spans_held =
    record {
      fewer-left = refl;
      same_portion = refl;
      without_span = refl;
      within = (omega arith, λ h. omega arith, tt);
      over = renewed_apart;
      not-over = λ h. h refl;
    }

pub runs_held : RunsHeld
unfolding sample lone good_table arrive done renewed next serve tick advance ask model packed in_range sound state_after after_all events_of events counted
runs_held =
    record {
      arrival_made = refl;
      completion_made = refl;
      tick_made = refl;
      steps = refl;
      refused_steps = refl;
      handed_on = refl;
      all_steps = refl;
      inside = refl;
      own_tick = refl;
      spare_tick = refl;
      counts = refl;
    }

-- a guest and a spare with deadline 11 at tick 10, and places with neither
budget_ahead : (i : ℕ) → 0 < current_of (guest_at i (of 1 1 11 ∷ [])) → 10 < deadline_of (guest_at i (of 1 1 11 ∷ []))
budget_ahead zero h = omega arith
budget_ahead (suc i) h = absurd (omega arith)

spare_ahead : (k : ℕ) → 0 < capacity_of (spare_at k (spare 11 0 1 ∷ [])) → 10 < due_of (spare_at k (spare 11 0 1 ∷ []))
spare_ahead zero h = omega arith
spare_ahead (suc k) h = absurd (omega arith)

-- of two guests with deadline 11, whoever is active has it
all_at_11 : (k : ℕ) → active (guest_at k (of 1 1 11 ∷ of 1 2 11 ∷ [])) ≡ true → 11 ≤ deadline_of (guest_at k (of 1 1 11 ∷ of 1 2 11 ∷ []))
all_at_11 zero h = omega arith
all_at_11 (suc zero) h = omega arith
all_at_11 (suc (suc k)) h = absurd (let z : ◌≡◌ {A = ℕ} 0 1 = cc in omega arith)

pub words_held : WordsHeld
unfolding bit actives
words_held =
    record {
      conditions = refl;
      row-numbers = refl;
      second-decides = (refl, λ j l. let z : j ≡ 0 = omega arith in rw z refl);
      first_does_not = λ d. never d.0 refl;
      third_does_not = λ d. never refl (d.1 1 (omega arith));
      rise = refl;
      can_run_row = refl;
      runs_first = record { place = omega arith; is_active = refl; smallest = all_at_11; lowest = λ k below is. absurd (omega (arith, below)) };
      not_first = λ r. let lower : 11 < 11 = r.lowest 0 (omega arith) refl in omega arith;
      none_by = (tt, omega arith, λ h. omega arith);
      ahead = (budget_ahead, spare_ahead);
      budget_overdue = λ h. let late : 11 < 11 = h.0 0 (omega arith) in omega arith;
      spare_overdue = λ h. let late : 11 < 11 = h.1 0 (omega arith) in omega arith;
      walk_made = refl;
      walk_refused = refl;
      bits = refl;
      active_ones = refl;
    }
