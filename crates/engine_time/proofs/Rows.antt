-- The two rows that calls on a guest begin with, and what a call gives back that is refused, and one that is not.
use mathlib.Core.Path.{◌≡◌, refl, ap, ◌∙◌}
use mathlib.Core.Bool.{true, not}
use mathlib.Core.List.{List, ◌∷◌}
use Prim.Native.Nat.{ℕ, zero, suc, ◌<◌}
use native.Mathlib.Omega.{arith}
use lib.Dec.{leb}
use Rattle.std.specs.Prelude.{Result, Ok, Err}
use Rattle.std.specs.Result.{IsErrAnd}
use borrow.Author.Tests.{lt-leb}
use Rattle.rules.specs.declared.Refusal.{Refusal}
use Rattle.rules.specs.declared.State.{State}
use Rattle.rules.specs.Calls.{told, sound_row, guest_row, Moved}
use Rattle.rules.specs.Model.{Model}
use Rattle.rules.specs.Places.{model, packed}
use Rattle.rules.specs.Refusals.{Row, first, refusal_number}
use Rattle.rules.specs.Sound.{sound}
use Rattle.promises.proofs.Outcomes.{refusal_counts}
use Rattle.promises.proofs.Refusing.{given-later}

-- ---- rows 1 and 2, and those behind them

module _ (s : State) (rows : List Row) where
  pub past_1 : sound s ≡ true → {n : ℕ} → n ≡ first rows → n ≡ first (sound_row s ∷ rows)
  past_1 h e = given-later (not (sound s)) 1 rows (ap not h) e

module _ (s : State) (i : ℕ) (rows : List Row) (h : sound s ≡ true) where
  pub past_2 : i < s.table.count → {n : ℕ} → n ≡ first rows → n ≡ first (sound_row s ∷ guest_row s i ∷ rows)
  past_2 l e = past_1 s (guest_row s i ∷ rows) h (given-later (leb s.table.count i) 2 rows (lt-leb s.table.count i l) e)

-- ---- what comes back

-- nothing is told that was asked for
pub told_nothing : {A : Type 0} (f : Model → A) (z : A) (s : State) (rows : List Row) (r : Refusal) → refusal_number r ≡ first rows → z ≡ told (first rows) f z s
told_nothing f z s rows r e = go (refusal_number r) (refusal_counts r) ∙ ap (λ (n : ℕ). told n f z s) e
  where
    go : (n : ℕ) → 0 < n → z ≡ told n f z s
    go zero h = absurd (omega arith)
    go (suc n) h = refl

module _ {rows : List Row} {step : Model → Model} {s : State} where
  -- the state as it was
  pub refused : (r : Refusal) → refusal_number r ≡ first rows → Moved rows step s (Err r)
  refused r e = record { answer = e; state = told_nothing (λ (m : Model). packed (step m)) s s rows r e }

  -- a refusal handed on
  pub refused_by : (r : Refusal) → refusal_number r ≡ first rows → (o : Result State Refusal) → IsErrAnd o (λ x. x ≡ r) → Moved rows step s o
  refused_by r e (Ok t) h = absurd h
  refused_by r e (Err x) h = refused x (ap refusal_number h ∙ e)

  -- the state after the step
  pub went : 0 ≡ first rows → {t : State} → t ≡ packed (step (model s)) → Moved rows step s (Ok t)
  went e p = record { answer = e; state = p ∙ ap (λ (n : ℕ). told n (λ (m : Model). packed (step m)) s s) e }
