-- The fresh state of a good table is sound, and so is every state that calls lead to from there.
use mathlib.Core.Path.{◌≡◌, refl}
use mathlib.Core.Bool.{true}
use mathlib.Core.List.{List, [], ◌∷◌, zip_with}
use Prim.Native.Nat.{ℕ, zero, suc}
use native.Mathlib.Omega.{arith}
use lib.ListN.{take, replicate}
use borrow.Author.Tests.{eq-eqb}
use Rattle.laws.specs.Lists.{total}
use Rattle.laws.proofs.Cases.{and_intro}
use Rattle.laws.proofs.Elements.{All, none, each, all_imp, all_both}
use Rattle.laws.proofs.Places.{unused_replicate}
use Rattle.rules.specs.declared.Entry.{Entry}
use Rattle.rules.specs.declared.Table.{Table}
use Rattle.rules.specs.Limits.{guest_places, spare_places, deadline_bound}
use Rattle.rules.specs.Refusals.{first}
use Rattle.rules.specs.Table.{entries_of, table_rows, good_table}
use Rattle.rules.specs.Model.{Guest, guest, tallies_of, bit_of}
use Rattle.rules.specs.Places.{guest_of, model, table_of, no_guest_place, no_spare_place, guest_place_is_zero, spare_place_is_zero, unused_zero, fresh_state}
use Rattle.rules.specs.Sound.{sound}
use Rattle.rules.specs.Calls.{run}
use Rattle.promises.specs.Promises.{FreshIsSound, NeverUnsound}
use Rattle.promises.proofs.GoodTable.{good_table_lem}
use Rattle.promises.proofs.Packing.{table-model}
use Rattle.promises.proofs.Facts.{Served, GuestGood, Sane, served, range_sane}
use Rattle.promises.proofs.Calling.{run_sound, sound_not_one}

-- every changing number is 0
abbrev pub Still : Guest → Type 0
Still (guest Q T jobs c d own borrowed) = (jobs ≡ 0) × (c ≡ 0) × (d ≡ 0) × (own ≡ 0) × (borrowed ≡ 0)

all_still : (es : List Entry) (n k : ℕ) → All Still (zip_with guest_of es (take n (replicate k no_guest_place)))
unfolding zip_with
all_still [] n k = none
all_still (e ∷ es) zero k = none
all_still (e ∷ es) (suc n) zero = none
all_still (e ∷ es) (suc n) (suc k) = each {x = guest e.budget e.period 0 0 0 0 0} (refl, refl, refl, refl, refl) (all_still es n k)

still_good : (bound : ℕ) (g : Guest) → Served g × Still g → GuestGood bound g
still_good bound (guest Q T zero c d own borrowed) p = record { served = p.0; range = p.1.1; early = omega arith }
still_good bound (guest Q T (suc jobs) c d own borrowed) p = absurd (omega arith)

no_tallies : {gs : List Guest} → All Still gs → total tallies_of gs ≡ 0
no_tallies none = refl
no_tallies (each {x = guest Q T jobs c d own borrowed} p ps) = omega (arith, no_tallies ps)

nobody_active : {gs : List Guest} → All Still gs → total bit_of gs ≡ 0
nobody_active none = refl
nobody_active (each {x = guest Q T zero c d own borrowed} p ps) = omega (arith, nobody_active ps)
nobody_active (each {x = guest Q T (suc jobs) c d own borrowed} p ps) = absurd (omega arith)

module _ (t : Table) (ok : good_table t ≡ true) where
  fresh_unused : unused_zero (fresh_state t) ≡ true
  unfolding fresh_state
  fresh_unused =
      and_intro (unused_replicate guest_place_is_zero guest_places t.count no_guest_place refl)
      (unused_replicate spare_place_is_zero spare_places 0 no_spare_place refl)

  pub fresh_table : table_of (model (fresh_state t)) ≡ t
  unfolding fresh_state
  fresh_table = table-model (fresh_state t) (good_table_lem t ok) (omega arith) fresh_unused

  pub fresh_still : All Still (model (fresh_state t)).guests
  unfolding model fresh_state
  fresh_still = all_still (entries_of t) t.count guest_places

  pub fresh_sane : Sane (model (fresh_state t))
  unfolding model fresh_state
  fresh_sane =
      let m = model (fresh_state t) in
      let whole : good_table (table_of m) ≡ true = rw fresh_table ok in
      let gs = all_both (served m (good_table_lem (table_of m) whole)) fresh_still in
      record {
        table = whole;
        time = omega arith;
        guests = all_imp (λ g p. still_good (deadline_bound 0) g p) gs;
        spares = none;
        tally = omega (arith, no_tallies fresh_still);
        order = refl;
        room = omega (arith, nobody_active fresh_still);
      }

  fresh_sound : sound (fresh_state t) ≡ true
  unfolding sound fresh_state
  fresh_sound = and_intro (and_intro (and_intro ok refl) (range_sane (model (fresh_state t)) fresh_sane)) fresh_unused

pub fresh_is_sound : FreshIsSound
unfolding good_table
fresh_is_sound t h = fresh_sound t (eq-eqb (first (table_rows t)) 0 h)

pub never_unsound : NeverUnsound
never_unsound t h cs c e = sound_not_one c (run cs (fresh_state t)) (run_sound cs (fresh_state t) (fresh_is_sound t h)) e
