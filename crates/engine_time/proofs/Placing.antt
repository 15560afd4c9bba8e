-- One guest of a sound state in its place: what stands there, what a step on it changes in the places, and what stays.
use mathlib.Core.Path.{◌≡◌, refl, sym, ap, ap₂, ◌∙◌}
use mathlib.Core.Bool.{true}
use mathlib.Core.List.{List, [], ◌∷◌, map}
use Prim.Native.Nat.{ℕ, zero, suc, ◌-◌, ◌≤◌, ◌<◌}
use native.Mathlib.Omega.{arith}
use lib.ListN.{length, get_or, take, set, replicate, length-map, length-set, get_or-append, get_or-map}
use lib.Seq.{get_or-take, length-take-le, set-append_left}
use Rattle.laws.specs.Lists.{changed, padded, unused}
use Rattle.laws.proofs.Cases.{and_both}
use Rattle.laws.proofs.Elements.{all_at, map_changed}
use Rattle.laws.proofs.Places.{length_padded, length_places}
use Rattle.rules.specs.declared.Entry.{Entry}
use Rattle.rules.specs.declared.Guest.{Guest as GuestPlace}
use Rattle.rules.specs.declared.State.{State}
use Rattle.rules.specs.Limits.{guest_places, spare_places, most_jobs, deadline_bound}
use Rattle.rules.specs.Model.{Guest, guest, Spare, Model, no_guest, guest_at}
use Rattle.rules.specs.Places.{guest_of, model, entry_of, guest_place, no_guest_place, no_spare_place, table_of, packed, guest_place_is_zero, spare_place_is_zero}
use Rattle.rules.specs.Sound.{sound}
use Rattle.rules.specs.Steps.{but}
use Rattle.rules.specs.Table.{entries_of, no_entry}
use Rattle.promises.proofs.Facts.{InRange, GuestGood, points, sane_model, packed_back, guests_count}
use Rattle.promises.proofs.GoodTable.{Good, good_table_lem}
use Rattle.promises.proofs.Packing.{zip_at, guest_zero, spare_zero}
use Rattle.engine_time.specs.Inner.{placed, listed}

-- ---- any guests in places

-- the change of one is one store
map_at : {A B : Type 0} (p : A → B) (z : A) (i : ℕ) (f : A → A) (xs : List A) → i < length xs → map p (changed i f xs) ≡ set (map p xs) i (p (f (get_or xs i z)))
map_at p z i f [] h = absurd (omega arith)
map_at p z zero f (x ∷ xs) h = refl
map_at p z (suc i) f (x ∷ xs) h = rw (map_at p z i f xs (omega arith))

module _ (gs : List Guest) (i : ℕ) (inside : i < length gs) where
  pub placed_at : get_or (placed gs) i no_guest_place ≡ guest_place (guest_at i gs)
  placed_at =
      get_or-append (map guest_place gs) _ no_guest_place i (rw (length-map gs guest_place) inside) ∙ get_or-map guest_place gs i no_guest

  pub placed_changed : (f : Guest → Guest) → placed (changed i f gs) ≡ set (placed gs) i (guest_place (f (guest_at i gs)))
  placed_changed f =
      let g = guest_place (f (guest_at i gs)) in
      let ps = map guest_place gs in
      let rest = replicate (guest_places - length ps) no_guest_place in
      rw (map_at guest_place no_guest i f gs inside, length-set ps i g) (sym (set-append_left ps rest i g (rw (length-map gs guest_place) inside)))

-- ---- the places of a sound state

-- guest i's entry in the table
abbrev pub entry_at : State → ℕ → Entry
entry_at s i = get_or s.table.entries i no_entry

-- its changing numbers
abbrev pub place_at : State → ℕ → GuestPlace
place_at s i = get_or s.guests i no_guest_place

-- and both together
abbrev pub Here : State → ℕ → Guest
Here s i = guest_of (entry_at s i) (place_at s i)

in_range : (Q T jobs c d own borrowed : ℕ) → InRange (guest Q T jobs c d own borrowed) → jobs ≤ most_jobs
in_range Q T zero c d own borrowed r = omega arith
in_range Q T (suc jobs) c d own borrowed r = r.0

module _ (s : State) (h : sound s ≡ true) where
  pub guests_back : placed (model s).guests ≡ s.guests
  unfolding packed
  guests_back = ap (λ (t : State). t.guests) (packed_back s h)

  pub spares_back : listed (model s).spares ≡ s.spares
  unfolding packed
  spares_back = ap (λ (t : State). t.spares) (packed_back s h)

  pub spares_count : length (model s).spares ≡ s.listed
  unfolding packed
  spares_count = ap (λ (t : State). t.listed) (packed_back s h)

  table_back : table_of (model s) ≡ s.table
  unfolding packed
  table_back = ap (λ (t : State). t.table) (packed_back s h)

  pub table_good : Good s.table
  table_good = good_table_lem s.table (points s h).table

  both_unused : (unused guest_place_is_zero guest_places s.table.count s.guests ≡ true) × (unused spare_place_is_zero spare_places s.listed s.spares ≡ true)
  both_unused = and_both _ (unused spare_place_is_zero spare_places s.listed s.spares) (points s h).rest

  pub spares_unused : unused spare_place_is_zero spare_places s.listed s.spares ≡ true
  spares_unused = both_unused.1

  pub guests_long : length s.guests ≡ guest_places
  guests_long = length_places guest_place_is_zero no_guest_place guest_zero guest_places s.table.count s.guests both_unused.0

  pub spares_long : length s.spares ≡ spare_places
  spares_long = length_places spare_place_is_zero no_spare_place spare_zero spare_places s.listed s.spares spares_unused

  pub entries_long : length s.table.entries ≡ guest_places
  entries_long =
      let t = table_good in
      sym (ap length t.filled) ∙ length_padded guest_places no_entry (entries_of s.table) (omega (arith, t.long, t.count_high))

  -- ---- the places after a step that keeps the table

  -- in fields, whatever the step did to the guests' numbers and to the spares
  pub packed_fields : (m : Model) → m.frame ≡ s.table.frame → map entry_of m.guests ≡ map entry_of (model s).guests
      → packed m ≡ record { table = s.table; now = m.now; guests = placed m.guests; listed = length m.spares; spares = listed m.spares; burned = m.burned; empty = m.empty }
  unfolding packed table_of model
  packed_fields m f e =
      let long : length m.guests ≡ length (model s).guests = sym (length-map m.guests entry_of) ∙ ap length e ∙ length-map (model s).guests entry_of in
      let same : table_of m ≡ table_of (model s) = λ j. record { frame = f j; count = long j; entries = padded guest_places no_entry (e j) } in
      let table = same ∙ table_back in
      λ j. record { table = table j; now = m.now; guests = placed m.guests; listed = length m.spares; spares = listed m.spares; burned = m.burned; empty = m.empty }

  -- ---- one of its guests

  module _ (i : ℕ) (inside : i < s.table.count) where
    pub guest_inside : i < length (model s).guests
    guest_inside = omega (arith, guests_count s h, inside)

    pub guest_here : guest_at i (model s).guests ≡ Here s i
    unfolding model
    guest_here =
        let n = s.table.count in
        let high = table_good.count_high in
        zip_at i (take n s.table.entries) (take n s.guests) (rw (length-take-le n s.table.entries (omega (arith, high, entries_long))) inside) (rw (length-take-le n s.guests (omega (arith, high, guests_long))) inside)
        ∙ ap₂ guest_of (get_or-take n s.table.entries i no_entry inside) (get_or-take n s.guests i no_guest_place inside)

    pub guest_good : GuestGood (deadline_bound s.now) (Here s i)
    unfolding model
    guest_good = rw guest_here at (all_at (sane_model s h).guests no_guest i guest_inside)

    pub jobs_few : (place_at s i).jobs ≤ most_jobs
    jobs_few =
        let e = entry_at s i in
        let g = place_at s i in
        in_range e.budget e.period g.jobs g.current g.deadline g.own g.borrowed guest_good.range

    pub guest_changed : (f : Guest → Guest) → placed (changed i f (model s).guests) ≡ set s.guests i (guest_place (f (guest_at i (model s).guests)))
    guest_changed f = placed_changed (model s).guests i guest_inside f ∙ ap (λ (gs : List GuestPlace). set gs i (guest_place (f (guest_at i (model s).guests)))) guests_back

    -- the whole state after a step that changes this guest and the spares
    pub step_packed : (f : Guest → Guest) → ((g : Guest) → entry_of (f g) ≡ entry_of g) → (ss : List Spare)
        → packed (but (model s) (changed i f (model s).guests) ss) ≡ record { table = s.table; now = s.now; guests = set s.guests i (guest_place (f (Here s i))); listed = length ss; spares = listed ss; burned = s.burned; empty = s.empty }
    unfolding model
    step_packed f keeps ss =
        let guests = guest_changed f ∙ ap (λ (g : Guest). set s.guests i (guest_place (f g))) guest_here in
        packed_fields (but (model s) (changed i f (model s).guests) ss) refl (map_changed entry_of f keeps i (model s).guests)
        ∙ (λ j. record { table = s.table; now = s.now; guests = guests j; listed = length ss; spares = listed ss; burned = s.burned; empty = s.empty })

    -- and where the spares stay, with what the code stored
    pub guest_stored : (f : Guest → Guest) → ((g : Guest) → entry_of (f g) ≡ entry_of g) → {g : GuestPlace} → g ≡ guest_place (f (Here s i))
        → record { table = s.table; now = s.now; guests = set s.guests i g; listed = s.listed; spares = s.spares; burned = s.burned; empty = s.empty } ≡ packed (but (model s) (changed i f (model s).guests) (model s).spares)
    guest_stored f keeps e =
        let count = spares_count in
        let spares = spares_back in
        sym
        (step_packed f keeps (model s).spares
        ∙ (λ j. record { table = s.table; now = s.now; guests = set s.guests i (sym e j); listed = count j; spares = spares j; burned = s.burned; empty = s.empty }))
