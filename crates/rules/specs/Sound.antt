-- When a state is sound: the points of "Quantities and bounds", in its order. Every sum is exact.
use Rattle.std.specs.Prelude.{Bool, true, not, ◌&&◌, ◌||◌, List, [], ◌∷◌, ltb, leb, eqb, length}
use Rattle.laws.specs.Lists.{every}
use Rattle.rules.specs.declared.State.{State}
use Rattle.rules.specs.Limits.{spare_places, most_jobs, last_tick, deadline_bound}
use Rattle.rules.specs.Table.{good_table}
use Rattle.rules.specs.Model.{Guest, Spare, Model, budget_of, jobs_of, current_of, deadline_of, due_of, owner_of, capacity_of, active, guest_at, occupied, tallies}
use Rattle.rules.specs.Steps.{before}
use Rattle.rules.specs.Places.{model, unused_zero}

-- "waiting jobs 0 to 255 .., a current budget c from 0 to Q .. An idle guest has c = 0."
abbrev pub guest_in_range : Guest → Bool
guest_in_range g = leb (jobs_of g) most_jobs && leb (current_of g) (budget_of g) && (active g || eqb (current_of g) 0)

-- "Each has an owner (a guest number below n), a capacity from 1 to the owner's Q"
abbrev pub spare_in_range : List Guest → Spare → Bool
spare_in_range gs x =
    ltb (owner_of x) (length gs) && leb 1 (capacity_of x) && leb (capacity_of x) (budget_of (guest_at (owner_of x) gs))

-- "spares stand in strictly rising order of (deadline, owner)"
abbrev pub rising : List Spare → Bool
rising [] = true
rising (x ∷ []) = true
rising (x ∷ y ∷ ys) = before x y && rising (y ∷ ys)

-- "a spare's deadline is at most its owner's d, and below it where the owner is active"
abbrev pub behind_owner : List Guest → Spare → Bool
behind_owner gs x =
    let g = guest_at (owner_of x) gs in
    leb (due_of x) (deadline_of g) && (not (active g) || ltb (due_of x) (deadline_of g))

-- all but the table and the unused places
unfoldable pub in_range : Model → Bool
in_range m =
    leb m.now last_tick
    && every guest_in_range m.guests
    && every (spare_in_range m.guests) m.spares
    && eqb (tallies m) m.now
    && rising m.spares
    && leb (occupied m) spare_places
    && every (λ g. leb (deadline_of g) (deadline_bound m.now)) m.guests
    && every (λ x. leb (due_of x) (deadline_bound m.now)) m.spares
    && every (behind_owner m.guests) m.spares

-- "A state is sound if all of the above holds and .."
unfoldable pub sound : State → Bool
sound s = good_table s.table && leb s.listed spare_places && in_range (model s) && unused_zero s
