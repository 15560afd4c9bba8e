-- Many ticks: time and the tallies grow with them, they add up, and they keep the facts.
use mathlib.Core.Path.{◌≡◌, refl}
use mathlib.Core.List.{List}
use Prim.Native.Nat.{ℕ, zero, suc, ◌+◌, ◌≤◌, ◌<◌}
use native.Mathlib.Nat.{zero-add, suc-add}
use native.Mathlib.Omega.{arith}
use lib.ListN.{length}
use Rattle.laws.specs.Lists.{total, changed}
use Rattle.laws.proofs.Elements.{total_map, total_changed}
use Rattle.rules.specs.Limits.{last_tick}
use Rattle.rules.specs.Model.{Guest, Model, tallies_of, no_guest, guest_at, tallies}
use Rattle.rules.specs.Steps.{renew, renewed, own_budget, spare_of, Use, runs, burns, nothing, use_of, next, ran, charge, serve, tick, advance}
use Rattle.promises.specs.Promises.{TalliesGrow}
use Rattle.promises.proofs.Facts.{Sane}
use Rattle.promises.proofs.Keeping.{Names, next_names, tallies-renew, tallies-ran, tick_sane}

-- ---- time

charge_now : (n : ℕ) (u : Use) (m : Model) → (charge n u m).now ≡ m.now + n
charge_now n (runs i own_budget) m = refl
charge_now n (runs i (spare_of owner)) m = refl
charge_now n (burns owner) m = refl
charge_now n nothing m = refl

tick_now : (m : Model) → (tick m).now ≡ m.now + 1
unfolding tick serve renewed
tick_now m = charge_now 1 (use_of (next (renewed m))) (renewed m)

pub advance_now : (k : ℕ) (m : Model) → (advance k m).now ≡ m.now + k
unfolding advance
advance_now zero m = omega arith
advance_now (suc k) m = omega (arith, advance_now k (tick m), tick_now m)

-- ---- tallies

-- each tick counts once
run-tallies : (n k i : ℕ) (gs : List Guest) → i < length gs → total tallies_of (changed i (ran n k) gs) ≡ total tallies_of gs + (n + k)
run-tallies n k i gs h = omega (arith, total_changed no_guest tallies_of i (ran n k) gs h, tallies-ran n k (guest_at i gs))

charge-tallies : (n : ℕ) (u : Use) (m : Model) → Names (length m.guests) u → tallies (charge n u m) ≡ tallies m + n
charge-tallies n (runs i own_budget) m h = omega (arith, run-tallies n 0 i m.guests h)
charge-tallies n (runs i (spare_of owner)) m h = omega (arith, run-tallies 0 n i m.guests h)
charge-tallies n (burns owner) m h = omega arith
charge-tallies n nothing m h = omega arith

tick-tallies : (m : Model) → tallies (tick m) ≡ tallies m + 1
unfolding tick serve renewed
tick-tallies m = omega (arith, charge-tallies 1 (use_of (next (renewed m))) (renewed m) (next_names (renewed m)), total_map tallies_of renew tallies-renew m.guests)

pub tallies_grow : TalliesGrow
unfolding advance
tallies_grow zero m = omega arith
tallies_grow (suc k) m = omega (arith, tallies_grow k (tick m), tick-tallies m)

-- ---- a + b ticks are a ticks and then b

pub advance-add : (a b : ℕ) (m : Model) → advance (a + b) m ≡ advance b (advance a m)
unfolding advance
advance-add zero b m = rw zero-add
advance-add (suc a) b m = rw suc-add (advance-add a b (tick m))

-- ---- the facts are kept

pub advance_sane : (k : ℕ) (m : Model) → m.now + k ≤ last_tick → Sane m → Sane (advance k m)
unfolding advance
advance_sane zero m h s = s
advance_sane (suc k) m h s = advance_sane k (tick m) (omega (arith, tick_now m)) (tick_sane m (omega arith) s)
