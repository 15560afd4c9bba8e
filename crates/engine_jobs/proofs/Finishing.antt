-- A job is done: each answer by its row, and the leftover that a guest leaves as it goes idle.
use mathlib.Core.Path.{◌≡◌, refl, sym, ap, ◌∙◌}
use mathlib.Core.Bool.{true, false, ◌&&◌}
use mathlib.Core.List.{List, [], ◌∷◌, map}
use Prim.Native.Nat.{ℕ, zero, suc, ◌+◌, ◌<◌}
use native.Mathlib.Omega.{arith}
use lib.Dec.{ltb, eqb}
use lib.ListN.{length, take, set}
use borrow.Author.Tests.{lt-ltb, ne_eqb, eqb-true}
use Rattle.laws.specs.Lists.{changed}
use Rattle.laws.proofs.Cases.{and_both, never}
use Rattle.laws.proofs.Elements.{total_changed}
use Rattle.rules.specs.declared.Entry.{Entry}
use Rattle.rules.specs.declared.Guest.{Guest as GuestPlace}
use Rattle.rules.specs.declared.Spare.{Spare as SparePlace}
use Rattle.rules.specs.declared.State.{State}
use Rattle.rules.specs.Calls.{named, done_rows}
use Rattle.rules.specs.Limits.{spare_places}
use Rattle.rules.specs.Model.{Guest, guest, Spare, spare, idle_guest, no_guest, guest_at, bit_of}
use Rattle.rules.specs.Places.{spare_of, model, guest_place, packed}
use Rattle.rules.specs.Refusals.{◌gives◌, first}
use Rattle.rules.specs.Sound.{sound}
use Rattle.rules.specs.Steps.{but, insert_spare, finish, leave, done}
use Rattle.promises.proofs.Facts.{sane_model}
use Rattle.promises.proofs.Keeping.{entry-finish, length_insert}
use Rattle.engine_jobs.proofs.Arriving.{idle_known, active_known}
use Rattle.engine_time.specs.Inner.{listed}
use Rattle.engine_time.proofs.Placing.{entry_at, place_at, Here, spares_count, guest_inside, guest_here, step_packed, guest_stored}
use Rattle.engine_time.proofs.Rows.{past_2}

-- ---- the leftover

module _ (i : ℕ) (e : Entry) (d own borrowed : ℕ) (ss : List Spare) where
  leaves_none : (j c : ℕ) → eqb j 1 && ltb 0 c ≡ false → leave i (guest e.budget e.period j c d own borrowed) ss ≡ ss
  leaves_none zero c h = refl
  leaves_none (suc zero) zero h = refl
  leaves_none (suc zero) (suc c) h = never (lt-ltb 0 (suc c) (omega arith)) h
  leaves_none (suc (suc j)) c h = refl

  leaves_spare : (j c : ℕ) → eqb j 1 && ltb 0 c ≡ true → leave i (guest e.budget e.period j c d own borrowed) ss ≡ insert_spare (spare d i c) ss
  leaves_spare zero c h = never h refl
  leaves_spare (suc zero) zero h = never h refl
  leaves_spare (suc zero) (suc c) h = refl
  leaves_spare (suc (suc j)) c h = never h (rw (ne_eqb (suc (suc j)) 1 (λ e. omega arith)))

leaving_active : (j c : ℕ) → eqb j 1 && ltb 0 c ≡ true → 0 < j
leaving_active j c h = let one : j ≡ 1 = eqb-true j 1 (and_both (eqb j 1) (ltb 0 c) h).0 in omega arith

active-bit : (Q T j c d own borrowed : ℕ) → 0 < j → bit_of (guest Q T j c d own borrowed) ≡ 1
active-bit Q T zero c d own borrowed h = absurd (omega arith)
active-bit Q T (suc j) c d own borrowed h = refl

-- ---- the rows

module _ (s : State) (i : ℕ) where
  module _ (h : sound s ≡ true) where
    module _ (inside : i < s.table.count) where
      past_named : {n : ℕ} → n ≡ first (idle_guest (Here s i) gives 3 ∷ []) → n ≡ first (done_rows s i)
      past_named e = past_2 s i (idle_guest (named s i) gives 3 ∷ []) h inside (rw (guest_here s h i inside) e)

      pub gives_idle : (place_at s i).jobs ≡ 0 → 3 ≡ first (done_rows s i)
      gives_idle j = past_named (rw (idle_known (entry_at s i) (place_at s i) (omega arith)))

      pub gives_finished : 0 < (place_at s i).jobs → 0 ≡ first (done_rows s i)
      gives_finished j = past_named (rw (active_known (entry_at s i) (place_at s i) j))

-- ---- the state that is left

module _ (s : State) (h : sound s ≡ true) (i : ℕ) (inside : i < s.table.count) where
  abbrev here : GuestPlace
  here = place_at s i

  abbrev gs : List Guest
  gs = (model s).guests

  abbrev ss : List Spare
  ss = (model s).spares

  abbrev leftover : Spare
  leftover = spare here.deadline i here.current

  -- each active guest has a place in the list of spares
  spare_fits : 0 < here.jobs → s.listed < spare_places
  spare_fits j =
      let e = entry_at s i in
      let bit : bit_of (guest_at i gs) ≡ 1 = ap bit_of (guest_here s h i inside) ∙ active-bit e.budget e.period here.jobs here.current here.deadline here.own here.borrowed j in
      omega (arith, total_changed no_guest bit_of i (λ _. no_guest) gs (guest_inside s h i inside), bit, (sane_model s h).room, spares_count s h)

  pub has_place : eqb here.jobs 1 && ltb 0 here.current ≡ true → s.listed < spare_places
  has_place l = spare_fits (leaving_active here.jobs here.current l)

  leave_here : {xs : List Spare} → leave i (Here s i) ss ≡ xs → leave i (guest_at i gs) ss ≡ xs
  leave_here e = ap (λ (g : Guest). leave i g ss) (guest_here s h i inside) ∙ e

  pub none_left : eqb here.jobs 1 && ltb 0 here.current ≡ false → {g : GuestPlace} → g ≡ guest_place (finish (Here s i))
      → record { table = s.table; now = s.now; guests = set s.guests i g; listed = s.listed; spares = s.spares; burned = s.burned; empty = s.empty } ≡ packed (done i (model s))
  unfolding done
  none_left l e =
      let none = leave_here (leaves_none i (entry_at s i) here.deadline here.own here.borrowed ss here.jobs here.current l) in
      guest_stored s h i inside finish entry-finish e ∙ ap (λ (xs : List Spare). packed (but (model s) (changed i finish gs) xs)) (sym none)

  pub some_left : eqb here.jobs 1 && ltb 0 here.current ≡ true → {g : GuestPlace} → g ≡ guest_place (finish (Here s i))
      → {xs : List SparePlace} → xs ≡ listed (insert_spare leftover (map spare_of (take s.listed s.spares)))
      → record { table = s.table; now = s.now; guests = set s.guests i g; listed = s.listed + 1; spares = xs; burned = s.burned; empty = s.empty } ≡ packed (done i (model s))
  unfolding done model
  some_left l e x =
      let some = leave_here (leaves_spare i (entry_at s i) here.deadline here.own here.borrowed ss here.jobs here.current l) in
      let count : length (leave i (guest_at i gs) ss) ≡ s.listed + 1 = ap length some ∙ length_insert leftover ss ∙ omega (arith, spares_count s h) in
      let spares = ap listed some ∙ sym x in
      sym
      (step_packed s h i inside finish entry-finish (leave i (guest_at i gs) ss)
      ∙ (λ j. record { table = s.table; now = s.now; guests = set s.guests i (sym e j); listed = count j; spares = spares j; burned = s.burned; empty = s.empty }))
