-- What a sound state has, as facts on its model; and a model with these facts is sound in its places.
use mathlib.Core.Path.{◌≡◌, refl}
use mathlib.Core.Bool.{true, not, ◌&&◌, ◌||◌}
use mathlib.Core.List.{List, [], ◌∷◌, map}
use Prim.Native.Nat.{ℕ, zero, suc, ◌≤◌, ◌<◌}
use native.Mathlib.Omega.{arith}
use lib.Dec.{ltb, leb, eqb}
use lib.ListN.{length}
use borrow.Author.Tests.{ltb-true, leb-true, eqb-true, lt-ltb, le-leb, eq-eqb}
use Rattle.laws.specs.Lists.{every}
use Rattle.laws.proofs.Cases.{and_both, and_intro}
use Rattle.laws.proofs.Elements.{All, none, each, all_of, every_of, all_both, all_imp}
use Rattle.rules.specs.declared.State.{State}
use Rattle.rules.specs.Limits.{spare_places, most_jobs, last_tick, longest_frame, deadline_bound}
use Rattle.rules.specs.Table.{good_table}
use Rattle.rules.specs.Model.{Guest, guest, Spare, spare, Model, budget_of, deadline_of, due_of, owner_of, capacity_of, active, guest_at, occupied, tallies}
use Rattle.rules.specs.Places.{model, entry_of, table_of, packed, unused_zero}
use Rattle.rules.specs.Sound.{guest_in_range, spare_in_range, rising, behind_owner, in_range, sound}
use Rattle.promises.proofs.GoodTable.{Good, Fits, good_table_lem}
use Rattle.promises.proofs.Packing.{table_entries, model-packed, packed_unused, model_long, table-model, packed-model}

-- ---- the facts of a guest and of a spare

-- jobs and current budget in range
abbrev pub InRange : Guest → Type 0
InRange (guest Q T zero c d own borrowed) = c ≡ 0
InRange (guest Q T (suc jobs) c d own borrowed) = (suc jobs ≤ most_jobs) × (c ≤ Q)

-- the table's part of a guest
abbrev pub Served : Guest → Type 0
Served (guest Q T jobs c d own borrowed) = (1 ≤ Q) × (Q ≤ T) × (T ≤ longest_frame)

-- a spare against its owner
abbrev pub Covers : Guest → Spare → Type 0
Covers (guest Q T zero c d own borrowed) (spare e owner b) = (1 ≤ b) × (b ≤ Q) × (e ≤ d)
Covers (guest Q T (suc jobs) c d own borrowed) (spare e owner b) = (1 ≤ b) × (b ≤ Q) × (e < d)

pub record GuestGood (bound : ℕ) (g : Guest) : Type 0 where
  pub served : Served g
  pub range : InRange g
  pub early : deadline_of g ≤ bound

pub record SpareGood (bound : ℕ) (gs : List Guest) (x : Spare) : Type 0 where
  pub owned : owner_of x < length gs
  pub covered : Covers (guest_at (owner_of x) gs) x
  pub early : due_of x ≤ bound

pub record Sane (m : Model) : Type 0 where
  pub table : good_table (table_of m) ≡ true
  pub time : m.now ≤ last_tick
  pub guests : All (GuestGood (deadline_bound m.now)) m.guests
  pub spares : All (SpareGood (deadline_bound m.now) m.guests) m.spares
  pub tally : tallies m ≡ m.now
  pub order : rising m.spares ≡ true
  pub room : occupied m ≤ spare_places

-- ---- each test is its fact

range_of : (g : Guest) → guest_in_range g ≡ true → InRange g
range_of (guest Q T zero c d own borrowed) h = eqb-true c 0 (and_both (leb 0 most_jobs && leb c Q) (eqb c 0) h).1
range_of (guest Q T (suc jobs) c d own borrowed) h =
    let a = and_both (leb (suc jobs) most_jobs && leb c Q) true h in
    let b = and_both (leb (suc jobs) most_jobs) (leb c Q) a.0 in
    (leb-true (suc jobs) most_jobs b.0, leb-true c Q b.1)

test_range : (g : Guest) → InRange g → guest_in_range g ≡ true
test_range (guest Q T zero c d own borrowed) h = and_intro (and_intro refl (le-leb c Q (omega arith))) (eq-eqb c 0 h)
test_range (guest Q T (suc jobs) c d own borrowed) h = and_intro (and_intro (le-leb (suc jobs) most_jobs h.0) (le-leb c Q h.1)) refl

-- a spare's two tests, with the owner in hand
covers_of : (g : Guest) (x : Spare) → 1 ≤ capacity_of x → capacity_of x ≤ budget_of g → leb (due_of x) (deadline_of g) && (not (active g) || ltb (due_of x) (deadline_of g)) ≡ true → Covers g x
covers_of (guest Q T zero c d own borrowed) (spare e owner b) l k h = (l, k, leb-true e d (and_both (leb e d) true h).0)
covers_of (guest Q T (suc jobs) c d own borrowed) (spare e owner b) l k h = (l, k, ltb-true e d (and_both (leb e d) (ltb e d) h).1)

spare_of_row : (bound : ℕ) (gs : List Guest) (x : Spare) → spare_in_range gs x ≡ true → leb (due_of x) bound ≡ true → behind_owner gs x ≡ true → SpareGood bound gs x
spare_of_row bound gs x h e k =
    let a = and_both (ltb (owner_of x) (length gs) && leb 1 (capacity_of x)) (leb (capacity_of x) (budget_of (guest_at (owner_of x) gs))) h in
    let b = and_both (ltb (owner_of x) (length gs)) (leb 1 (capacity_of x)) a.0 in
    record {
      owned = ltb-true (owner_of x) (length gs) b.0;
      covered = covers_of (guest_at (owner_of x) gs) x (leb-true 1 (capacity_of x) b.1) (leb-true (capacity_of x) _ a.1) k;
      early = leb-true (due_of x) bound e;
    }

test_covers : (g : Guest) (x : Spare) → Covers g x → (leb 1 (capacity_of x) ≡ true) × (leb (capacity_of x) (budget_of g) ≡ true) × (leb (due_of x) (deadline_of g) && (not (active g) || ltb (due_of x) (deadline_of g)) ≡ true)
test_covers (guest Q T zero c d own borrowed) (spare e owner b) h = (le-leb 1 b h.0, le-leb b Q h.1, and_intro (le-leb e d h.2) refl)
test_covers (guest Q T (suc jobs) c d own borrowed) (spare e owner b) h = (le-leb 1 b h.0, le-leb b Q h.1, and_intro (le-leb e d (omega arith)) (lt-ltb e d h.2))

test_spare : (bound : ℕ) (gs : List Guest) (x : Spare) → SpareGood bound gs x → spare_in_range gs x ≡ true
test_spare bound gs x h =
    let c = test_covers (guest_at (owner_of x) gs) x h.covered in
    and_intro (and_intro (lt-ltb (owner_of x) (length gs) h.owned) c.0) c.1

-- the table's fact of every guest
served_of : (H : ℕ) → H ≤ longest_frame → (gs : List Guest) → All (Fits H) (map entry_of gs) → All Served gs
served_of H l [] none = none
served_of H l (guest Q T jobs c d own borrowed ∷ gs) (each f fs) = each {x = guest Q T jobs c d own borrowed} (f.budget_low, f.budget_high, omega (arith, f.period_high)) (served_of H l gs fs)

-- a model's table has as many entries as there are guests
pub served : (m : Model) → Good (table_of m) → All Served m.guests
unfolding table_of
served m t = served_of m.frame t.frame_high m.guests (rw (table_entries m) at t.fit)

-- ---- a sound state's model, and back

sane_of : (m : Model) → good_table (table_of m) ≡ true → in_range m ≡ true → Sane m
unfolding in_range
sane_of m t h =
    let bound = deadline_bound m.now in
    let p₀ = and_both _ (every (behind_owner m.guests) m.spares) h in
    let p₁ = and_both _ (every (λ x. leb (due_of x) bound) m.spares) p₀.0 in
    let p₂ = and_both _ (every (λ g. leb (deadline_of g) bound) m.guests) p₁.0 in
    let p₃ = and_both _ (leb (occupied m) spare_places) p₂.0 in
    let p₄ = and_both _ (rising m.spares) p₃.0 in
    let p₅ = and_both _ (eqb (tallies m) m.now) p₄.0 in
    let p₆ = and_both _ (every (spare_in_range m.guests) m.spares) p₅.0 in
    let p₇ = and_both (leb m.now last_tick) (every guest_in_range m.guests) p₆.0 in
    let gs = all_both (served m (good_table_lem (table_of m) t)) (all_both (all_of guest_in_range range_of m.guests p₇.1) (all_of _ (λ g e. leb-true (deadline_of g) bound e) m.guests p₂.1)) in
    let xs = all_both (all_of _ (λ x e. e) m.spares p₆.1) (all_both (all_of _ (λ x e. e) m.spares p₁.1) (all_of _ (λ x e. e) m.spares p₀.1)) in
    record {
      table = t;
      time = leb-true m.now last_tick p₇.0;
      guests = all_imp (λ g q. record { served = q.0; range = q.1.0; early = q.1.1 }) gs;
      spares = all_imp (λ x q. spare_of_row bound m.guests x q.0 q.1.0 q.1.1) xs;
      tally = eqb-true (tallies m) m.now p₅.1;
      order = p₄.1;
      room = leb-true (occupied m) spare_places p₃.1;
    }

pub range_sane : (m : Model) → Sane m → in_range m ≡ true
unfolding in_range
range_sane m s =
    let bound = deadline_bound m.now in
    and_intro
    (and_intro
    (and_intro
    (and_intro
    (and_intro
    (and_intro
    (and_intro
    (and_intro (le-leb m.now last_tick s.time) (every_of guest_in_range (λ g q. test_range g q.range) s.guests))
    (every_of (spare_in_range m.guests) (λ x q. test_spare bound m.guests x q) s.spares))
    (eq-eqb (tallies m) m.now s.tally))
    s.order)
    (le-leb (occupied m) spare_places s.room))
    (every_of (λ g. leb (deadline_of g) bound) (λ g q. le-leb (deadline_of g) bound q.early) s.guests))
    (every_of (λ x. leb (due_of x) bound) (λ x q. le-leb (due_of x) bound q.early) s.spares))
    (every_of (behind_owner m.guests) (λ x q. (test_covers (guest_at (owner_of x) m.guests) x q.covered).2) s.spares)

-- the four points of a sound state
pub record Points (s : State) : Type 0 where
  pub table : good_table s.table ≡ true
  pub few : s.listed ≤ spare_places
  pub range : in_range (model s) ≡ true
  pub rest : unused_zero s ≡ true

pub points : (s : State) → sound s ≡ true → Points s
unfolding sound
points s h =
    let a = and_both (good_table s.table && leb s.listed spare_places && in_range (model s)) (unused_zero s) h in
    let b = and_both (good_table s.table && leb s.listed spare_places) (in_range (model s)) a.0 in
    let c = and_both (good_table s.table) (leb s.listed spare_places) b.0 in
    record { table = c.0; few = leb-true s.listed spare_places c.1; range = b.1; rest = a.1 }

pub sane_model : (s : State) → sound s ≡ true → Sane (model s)
sane_model s h =
    let p = points s h in
    sane_of (model s) (rw (table-model s (good_table_lem s.table p.table) p.few p.rest) p.table) p.range

pub packed-sound : (m : Model) → Sane m → sound (packed m) ≡ true
unfolding sound packed table_of
packed-sound m s =
    let t : Good (table_of m) = good_table_lem (table_of m) s.table in
    let l : length m.spares ≤ spare_places = omega (arith, s.room) in
    and_intro (and_intro (and_intro s.table (le-leb (length m.spares) spare_places l)) (rw (model-packed m) (range_sane m s)))
    (packed_unused m t.count_high l)

-- a sound state is its model in places
pub packed_back : (s : State) → sound s ≡ true → packed (model s) ≡ s
packed_back s h = let p = points s h in packed-model s (good_table_lem s.table p.table) p.few p.rest

-- and has as many guests as its table says
pub guests_count : (s : State) → sound s ≡ true → length (model s).guests ≡ s.table.count
guests_count s h = let p = points s h in model_long s (good_table_lem s.table p.table) p.few p.rest
