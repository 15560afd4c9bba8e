-- The soundness test, one guest and one spare at a time.
use Rattle.std.specs.Prelude.{Bool, not, ◌&&◌, ◌||◌, ℕ, ◌+◌, leb, ltb, take, length}
use mathlib.Core.List.{List, zip_with}
use Rattle.rules.specs.declared.Entry.{Entry}
use Rattle.rules.specs.declared.Guest.{Guest as GuestPlace}
use Rattle.rules.specs.declared.Spare.{Spare as SparePlace}
use Rattle.rules.specs.Limits.{deadline_bound}
use Rattle.rules.specs.Model.{Guest, Spare, guest_at, active, budget_of, deadline_of, due_of, capacity_of}
use Rattle.rules.specs.Places.{guest_of, spare_of}
use Rattle.rules.specs.Sound.{guest_in_range}

-- the guests of a state's places
unfoldable pub guests_of : List Entry → List GuestPlace → ℕ → List Guest
unfolding zip_with
guests_of entries guests count = zip_with guest_of (take count entries) (take count guests)

-- all that is asked of one guest, its tallies aside
abbrev pub guest_holds : ℕ → Guest → Bool
guest_holds now g = guest_in_range g && leb (deadline_of g) (deadline_bound now)

-- all that is asked of one spare whose owner is g, its place in the order aside
abbrev pub spare_fits : ℕ → Guest → Spare → Bool
spare_fits now g x =
    leb 1 (capacity_of x)
    && leb (capacity_of x) (budget_of g)
    && leb (due_of x) (deadline_bound now)
    && leb (due_of x) (deadline_of g)
    && (not (active g) || ltb (due_of x) (deadline_of g))

-- and of one spare in its place, whoever its owner is
abbrev pub spare_place_holds : ℕ → List Guest → SparePlace → Bool
spare_place_holds now gs x = ltb x.owner (length gs) && spare_fits now (guest_at x.owner gs) (spare_of x)

-- both tallies of a guest in its place
abbrev pub place_tallies : GuestPlace → ℕ
place_tallies g = g.own + g.borrowed
