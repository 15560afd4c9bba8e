-- Deadlines as plain numbers decide as the guests do.
use mathlib.Core.Path.{◌≡◌, refl, ◌∙◌}
use mathlib.Core.Bool.{not, cond, ◌&&◌, ◌||◌}
use mathlib.Core.List.{List, [], ◌∷◌, map}
use Prim.Native.Nat.{ℕ, zero, suc, ◌≤◌, ◌<◌}
use native.Mathlib.Omega.{arith}
use lib.Count.{count_trailing_zeros}
use lib.Dec.{ltb, eqb, eqb-suc-zero}
use lib.ListN.{length, get_or, drop}
use borrow.Author.Tests.{lt-ltb, le-ltb}
use Rattle.laws.proofs.Cases.{by_ltb}
use Rattle.rules.specs.declared.Guest.{Guest as GuestPlace}
use Rattle.rules.specs.Model.{Guest, mask_of}
use Rattle.rules.specs.Places.{no_guest_place}
use Rattle.rules.specs.Steps.{earliest}
use Rattle.engine_time.proofs.Searching.{lowest_first}
use Rattle.engine_time.specs.Inner.{never, due_at, AllDue, Mirrors}

due_beats : (b g : GuestPlace) (m n : ℕ) → b.deadline < never → g.deadline < never
    → ltb (cond (eqb n 0) never g.deadline) (cond (eqb m 0) never b.deadline) ≡ not (eqb n 0) && (eqb m 0 || ltb g.deadline b.deadline)
due_beats b g zero zero h l = le-ltb never never (omega arith)
due_beats b g (suc m) zero h l = rw (eqb-suc-zero m) (le-ltb never b.deadline (omega arith))
due_beats b g zero (suc n) h l = rw (eqb-suc-zero n) (lt-ltb g.deadline never l)
due_beats b g (suc m) (suc n) h l = rw (eqb-suc-zero n, eqb-suc-zero m)

due_at_lem : (gs : List GuestPlace) (i : ℕ) → i < length gs → get_or (map due_at gs) i 0 ≡ due_at (get_or gs i no_guest_place)
due_at_lem [] i h = absurd (omega arith)
due_at_lem (g ∷ gs) zero h = refl
due_at_lem (g ∷ gs) (suc i) h = due_at_lem gs i (omega arith)

-- where no deadline is that late
pub mirrors : (gs : List GuestPlace) {ds : List ℕ} → ds ≡ map due_at gs → AllDue gs → Mirrors ds gs
mirrors gs e h i k l m =
    let b = get_or gs i no_guest_place in
    let g = get_or gs k no_guest_place in
    rw (e, due_at_lem gs i l, due_at_lem gs k m) (due_beats b g b.jobs g.jobs (h i l) (h k m))

-- ---- where the search starts

module _ (count lowest from : ℕ) (start : (lowest < count → from ≡ lowest) × (count ≤ lowest → from ≡ 0)) where
  -- at the lowest active guest, or anywhere where there is none
  pub starts_first : (gs : List Guest) → lowest ≡ count_trailing_zeros 32 (mask_of gs) → length gs ≤ 32 → earliest from (drop from gs) ≡ earliest 0 gs
  starts_first gs e l =
      by_ltb (λ _. earliest from (drop from gs) ≡ earliest 0 gs) lowest count
      (λ h. lowest_first 32 gs (start.0 h ∙ e) l)
      (λ h. rw (start.1 h))

  pub starts_inside : 0 < count → from < count
  starts_inside some = by_ltb (λ _. from < count) lowest count (λ l. omega (arith, start.0 l)) (λ l. omega (arith, start.1 l))
