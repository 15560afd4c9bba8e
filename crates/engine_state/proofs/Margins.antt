-- The margin over ℤ: a sound state's deadline and tick are small enough for their difference to fit an i64.
use mathlib.Core.Path.{◌≡◌, refl, sym, ap, ◌∙◌}
use mathlib.Core.Bool.{Bool, true, false, cond}
use mathlib.Core.List.{[]}
use Prim.Native.Nat.{ℕ, zero, suc, ◌-◌, ◌<◌, ◌^◌}
use native.Mathlib.Omega.{arith}
use lib.Dec.{ltb}
use lib.IntN.{ℤ, pos, negsuc, ◌-ℤ◌}
use lib.Signed.{mag}
use mir.Syntax.{w64}
use mir.Val.{SFits}
use Rattle.std.specs.Prelude.{Ok}
use Rattle.rules.specs.declared.State.{State}
use Rattle.rules.specs.Calls.{told, margin_rows, MarginTold}
use Rattle.rules.specs.Model.{Guest, deadline_of}
use Rattle.rules.specs.Places.{model}
use Rattle.rules.specs.Refusals.{first}
use Rattle.rules.specs.Sound.{sound}
use Rattle.rules.specs.Steps.{margin}
use Rattle.promises.proofs.Facts.{sane_model}
use Rattle.engine_time.proofs.Placing.{place_at, guest_here, guest_good}
use Rattle.engine_time.proofs.Rows.{past_2}

-- ---- the difference of two numbers

either_small : (t : Bool) (x y h : ℕ) → x < h → y < h → mag (cond t (negsuc x) (pos y)) < h
either_small true x y h p q = p
either_small false x y h p q = q

small : (a b : ℕ) → a < 2 ^ 61 → b < 2 ^ 61 → mag (pos a -ℤ pos b) < 2 ^ 63
small a zero p q = omega arith
small a (suc b) p q = either_small (ltb a (suc b)) (suc b - suc a) (a - suc b) (2 ^ 63) (omega arith) (omega arith)

module _ (a b : ℕ) (p : a < 2 ^ 61) (q : b < 2 ^ 61) where
  pub difference_fits : SFits w64 (pos a -ℤ pos b)
  difference_fits = record { sfits = small a b p q }

-- ---- the answers

module _ (s : State) (i : ℕ) where
  module _ (h : sound s ≡ true) where
    pub tick_small : s.now < 2 ^ 61
    unfolding model
    tick_small = omega (arith, (sane_model s h).time)

    module _ (inside : i < s.table.count) where
      pub deadline_small : (place_at s i).deadline < 2 ^ 61
      unfolding model
      deadline_small = omega (arith, (sane_model s h).time, (guest_good s h i inside).early)

      pub margin-told : {ticks : ℤ} → ticks ≡ pos (place_at s i).deadline -ℤ pos s.now → MarginTold s i (Ok ticks)
      unfolding margin model
      margin-told e =
          let n : 0 ≡ first (margin_rows s i) = past_2 s i [] h inside refl in
          let here = ap (λ (g : Guest). pos (deadline_of g) -ℤ pos s.now) (guest_here s h i inside) in
          record { answer = n; ticks = e ∙ sym here ∙ ap (λ (k : ℕ). told k (margin i) (pos 0) s) n }
