-- Walk after walk: the rows of an advance, what a walk gives, and what an advance knows between two walks.
use mathlib.Core.Path.{◌≡◌, refl, sym, ap, ◌∙◌}
use mathlib.Core.Bool.{true}
use mathlib.Core.List.{List, [], ◌∷◌, map}
use Prim.Native.Nat.{ℕ, ◌+◌, ◌-◌, ◌≤◌, ◌<◌}
use native.Mathlib.Nat.{sub_self}
use native.Mathlib.Omega.{arith}
use lib.Dec.{ltb}
use lib.ListN.{length}
use Rattle.std.specs.Prelude.{Result, Ok, Err}
use Rattle.std.specs.Result.{IsErrAnd}
use borrow.Author.Tests.{le-ltb}
use Rattle.laws.specs.Lists.{padded}
use Rattle.rules.specs.declared.Refusal.{Refusal}
use Rattle.rules.specs.declared.State.{State}
use Rattle.rules.specs.declared.Walk.{Walk}
use Rattle.rules.specs.Calls.{advance_rows}
use Rattle.rules.specs.Limits.{last_tick, line_places}
use Rattle.rules.specs.Lines.{Line, lines}
use Rattle.rules.specs.Model.{Model}
use Rattle.rules.specs.Places.{model, packed}
use Rattle.rules.specs.Refusals.{Row, ◌gives◌, first, refusal_number}
use Rattle.rules.specs.Sound.{sound}
use Rattle.rules.specs.Steps.{advance}
use Rattle.rules.specs.Walks.{ticks_in, line_place, no_line, walk_lines, walk_state, walk_left, Walked}
use Rattle.promises.proofs.Calling.{MayAdvance}
use Rattle.promises.proofs.Facts.{sane_model, packed_back, packed-sound}
use Rattle.promises.proofs.Packing.{model-packed}
use Rattle.promises.proofs.Refusing.{given-later}
use Rattle.promises.proofs.Ticking.{advance_now, advance-add, advance_sane}
use Rattle.promises.proofs.Walks.{ticks_in_le, ticks_in_some, walk_state_lem, walk_left_lem}
use Rattle.engine_time.proofs.Rows.{past_1, told_nothing}

-- ---- the rows

module _ (s : State) (k : ℕ) where
  -- 7 stands alone behind 1
  abbrev rows : List Row
  rows = ltb last_tick (s.now + k) gives 7 ∷ []

  module _ (h : sound s ≡ true) where
    pub in_time : s.now ≤ last_tick
    unfolding model
    in_time = (sane_model s h).time

    pub gives_advanced : k ≤ last_tick - s.now → 0 ≡ first (advance_rows s k)
    gives_advanced l = past_1 s rows h (given-later (ltb last_tick (s.now + k)) 7 [] (le-ltb last_tick (s.now + k) (omega (arith, in_time))) refl)

  module _ {r : Refusal} (e : refusal_number r ≡ first (advance_rows s k)) where
    walk_refused : Walked s k (Err r)
    unfolding walk_lines walk_state walk_left
    walk_refused =
        let none : [] ≡ walk_lines k s = told_nothing (lines line_places k) [] s (advance_rows s k) r e in
        record {
          answer = e;
          state = told_nothing _ s s (advance_rows s k) r e;
          left = told_nothing _ 0 s (advance_rows s k) r e;
          shown = ap length none;
          lines = ap (λ (l : List Line). padded line_places no_line (map line_place l)) none;
        }

  -- a refusal handed on
  pub walk_refused_by : (r : Refusal) → refusal_number r ≡ first (advance_rows s k) → (w : Result Walk Refusal) → IsErrAnd w (λ x. x ≡ r) → Walked s k w
  walk_refused_by r e (Ok w) h = absurd h
  walk_refused_by r e (Err x) h = walk_refused (ap refusal_number h ∙ e)

-- ---- between two walks

-- so many of k ticks are left, and the others are made
pub record Going (s : State) (k : ℕ) (state : State) (left : ℕ) : Type 0 where
  pub few : left ≤ k
  pub so : state ≡ packed (advance (k - left) (model s))

module _ (s : State) (k : ℕ) (h : sound s ≡ true) (time : s.now + k ≤ last_tick) where
  pub going_start : Going s k s k
  unfolding advance
  going_start = record { few = omega arith; so = rw (sub_self k) (sym (packed_back s h)) }

  module _ {state : State} {left : ℕ} (g : Going s k state left) where
    abbrev made : Model
    made = advance (k - left) (model s)

    made_time : made.now + left ≤ last_tick
    unfolding model
    made_time = omega (arith, advance_now (k - left) (model s), g.few, time)

    pub going_may : (sound state ≡ true) × (state.now + left ≤ last_tick)
    unfolding packed model
    going_may =
        let whole = packed-sound made (advance_sane (k - left) (model s) (omega (arith, time)) (sane_model s h)) in
        (rw g.so whole, rw g.so made_time)

    allowed : MayAdvance state left
    unfolding model
    allowed = record { whole = going_may.0; time = going_may.1 }

    here : model state ≡ made
    here = ap model g.so ∙ model-packed made

    module _ {w : Walk} (r : Walked state left (Ok w)) where
      abbrev n : ℕ
      n = ticks_in line_places left made

      left_after : w.left ≡ left - n
      left_after = r.left ∙ walk_left_lem state left allowed ∙ ap (λ (m : Model). left - ticks_in line_places left m) here

      -- each walk makes some ticks
      pub going_less : 0 < left → w.left < left
      going_less l = omega (arith, left_after, ticks_in_some line_places left state allowed here l (omega arith), ticks_in_le line_places left made)

      pub going_more : Going s k w.state w.left
      going_more =
          let all : k - w.left ≡ k - left + n = omega (arith, left_after, ticks_in_le line_places left made, g.few) in
          record {
            few = omega (arith, left_after, g.few);
            so = r.state ∙ walk_state_lem state left allowed ∙ ap (λ (m : Model). packed (advance (ticks_in line_places left m) m)) here ∙ ap packed (sym (advance-add (k - left) n (model s)) ∙ ap (λ (j : ℕ). advance j (model s)) (sym all));
          }
