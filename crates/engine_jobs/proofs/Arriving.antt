-- An arrival: each answer by its row, and the guest that joins or wakes.
use mathlib.Core.Path.{◌≡◌, refl, sym, ap₂}
use mathlib.Core.Bool.{true, false, ◌&&◌}
use mathlib.Core.List.{List, [], ◌∷◌}
use Prim.Native.Nat.{ℕ, zero, suc, ◌+◌, ◌≤◌, ◌<◌, ◌^◌, max}
use native.Mathlib.Omega.{arith}
use lib.Count.{ones}
use lib.Dec.{ltb, eqb}
use lib.ListN.{set}
use borrow.Author.Tests.{eq-eqb, ne_eqb, lt-ltb, le-ltb}
use Rattle.rules.specs.declared.Entry.{Entry}
use Rattle.rules.specs.declared.Guest.{Guest as GuestPlace}
use Rattle.rules.specs.declared.State.{State}
use Rattle.rules.specs.Calls.{named, arrive_rows}
use Rattle.rules.specs.Limits.{spare_places, most_jobs, deadline_cap}
use Rattle.rules.specs.Model.{Guest, guest, jobs_of, deadline_of, idle_guest, mask_of, occupied}
use Rattle.rules.specs.Places.{model, guest_of, guest_place, packed}
use Rattle.rules.specs.Refusals.{Row, ◌gives◌, first}
use Rattle.rules.specs.Sound.{sound}
use Rattle.rules.specs.Steps.{wake, join, arrive}
use Rattle.promises.proofs.Facts.{sane_model}
use Rattle.promises.proofs.Keeping.{entry-join}
use Rattle.engine_choice.specs.Choice.{in_use}
use Rattle.engine_choice.proofs.Choosing.{count_active}
use Rattle.engine_state.proofs.Answering.{mask_told}
use Rattle.engine_time.proofs.Placing.{entry_at, place_at, Here, spares_count, guests_long, entries_long, guest_here, guest_good, guest_stored}
use Rattle.engine_time.proofs.Rows.{past_2}

-- ---- the guest

module _ (e : Entry) (g : GuestPlace) where
  pub idle_known : g.jobs ≤ 0 → idle_guest (guest_of e g) ≡ true
  idle_known h = go g.jobs h
    where
      go : (j : ℕ) → j ≤ 0 → idle_guest (guest e.budget e.period j g.current g.deadline g.own g.borrowed) ≡ true
      go zero h = refl
      go (suc j) h = absurd (omega arith)

  pub active_known : 0 < g.jobs → idle_guest (guest_of e g) ≡ false
  active_known h = go g.jobs h
    where
      go : (j : ℕ) → 0 < j → idle_guest (guest e.budget e.period j g.current g.deadline g.own g.borrowed) ≡ false
      go zero h = absurd (omega arith)
      go (suc j) h = refl

  -- an idle guest joins by waking
  pub wakes : (now : ℕ) → g.jobs ≤ 0 → wake now (guest_of e g) ≡ join now (guest_of e g)
  wakes now h = go g.jobs h
    where
      go : (j : ℕ) → j ≤ 0 → wake now (guest e.budget e.period j g.current g.deadline g.own g.borrowed) ≡ join now (guest e.budget e.period j g.current g.deadline g.own g.borrowed)
      go zero h = refl
      go (suc j) h = absurd (omega arith)

-- ---- the room

module _ (s : State) (h : sound s ≡ true) where
  pub occupied-told : {mask count : ℕ} → mask ≡ mask_of (in_use s.table.count s.guests) → count ≡ ones mask → s.listed + count ≡ occupied (model s)
  occupied-told e f =
      let active = count_active (model s).guests (mask_told s h (entries_long s h) (guests_long s h) e) f in
      ap₂ (λ (a b : ℕ). a + b) (sym (spares_count s h)) active

-- ---- the rows

module _ (s : State) (i : ℕ) where
  -- those behind 1 and 2, of the guest in hand
  abbrev pub RowsOf : Guest → List Row
  RowsOf g =
      eqb (jobs_of g) most_jobs gives 4
      ∷ (idle_guest g && eqb (occupied (model s)) spare_places) gives 5
      ∷ (idle_guest g && ltb deadline_cap (deadline_of (wake s.now g))) gives 6
      ∷ []

  module _ (h : sound s ≡ true) where
    module _ (inside : i < s.table.count) where
      pub wake_fits : max s.now (place_at s i).deadline + (entry_at s i).period < 2 ^ 64
      unfolding model
      wake_fits = let g = guest_good s h i inside in omega (arith, g.served, g.early, (sane_model s h).time)

      past_named : {n : ℕ} → n ≡ first (RowsOf (Here s i)) → n ≡ first (arrive_rows s i)
      past_named e = past_2 s i (RowsOf (named s i)) h inside (rw (guest_here s h i inside) e)

      pub gives_jobs_full : (place_at s i).jobs ≡ most_jobs → 4 ≡ first (arrive_rows s i)
      gives_jobs_full j = past_named (rw (eq-eqb (place_at s i).jobs most_jobs j))

      module _ (few : (place_at s i).jobs ≡ most_jobs → ⊥) where
        pub gives_joined : 0 < (place_at s i).jobs → 0 ≡ first (arrive_rows s i)
        gives_joined j = past_named (rw (ne_eqb (place_at s i).jobs most_jobs few, active_known (entry_at s i) (place_at s i) j))

        module _ (idle : (place_at s i).jobs ≤ 0) where
          pub gives_no_room : eqb (occupied (model s)) spare_places ≡ true → 5 ≡ first (arrive_rows s i)
          gives_no_room f = past_named (rw (ne_eqb (place_at s i).jobs most_jobs few, idle_known (entry_at s i) (place_at s i) idle, f))

          module _ (room : eqb (occupied (model s)) spare_places ≡ false) where
            pub gives_too_far : deadline_cap < max s.now (place_at s i).deadline + (entry_at s i).period → 6 ≡ first (arrive_rows s i)
            gives_too_far d = past_named (rw (ne_eqb (place_at s i).jobs most_jobs few, idle_known (entry_at s i) (place_at s i) idle, room, lt-ltb deadline_cap (max s.now (place_at s i).deadline + (entry_at s i).period) d))

            pub gives_woken : max s.now (place_at s i).deadline + (entry_at s i).period ≤ deadline_cap → 0 ≡ first (arrive_rows s i)
            gives_woken d = past_named (rw (ne_eqb (place_at s i).jobs most_jobs few, idle_known (entry_at s i) (place_at s i) idle, room, le-ltb deadline_cap (max s.now (place_at s i).deadline + (entry_at s i).period) d))

-- ---- the state that an arrival leaves

module _ (s : State) (h : sound s ≡ true) (i : ℕ) (inside : i < s.table.count) where
  pub arrival_stored : {g : GuestPlace} → g ≡ guest_place (join s.now (Here s i))
      → record { table = s.table; now = s.now; guests = set s.guests i g; listed = s.listed; spares = s.spares; burned = s.burned; empty = s.empty } ≡ packed (arrive i (model s))
  unfolding arrive model
  arrival_stored e = guest_stored s h i inside (join s.now) (entry-join s.now) e
