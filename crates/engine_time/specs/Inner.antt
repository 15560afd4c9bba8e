-- The contracts of time's own functions: what a charge takes, where a walk stands between two portions, and deadlines as plain numbers.
use Rattle.std.specs.Prelude.{List, map, ◌≡◌, Bool, cond, not, ◌&&◌, ◌||◌, ℕ, zero, suc, ◌+◌, ◌-◌, ◌≤◌, ◌<◌, ltb, eqb, length, get_or, drop}
use Rattle.std.proofs.Math.Seq.{slice}
use Rattle.laws.specs.Lists.{padded}
use Rattle.rules.specs.declared.Guest.{Guest as GuestPlace}
use Rattle.rules.specs.declared.Spare.{Spare as SparePlace}
use Rattle.rules.specs.declared.Line.{Line as LinePlace}
use Rattle.rules.specs.declared.State.{State}
use Rattle.rules.specs.declared.Walk.{Walk}
use Rattle.rules.specs.Limits.{guest_places, spare_places}
use Rattle.rules.specs.Model.{Guest, Spare, Model}
use Rattle.rules.specs.Places.{guest_place, spare_place, no_guest_place, no_spare_place}
use Rattle.rules.specs.Steps.{renewed, ready, earliest}
use Rattle.engine_choice.specs.Choice.{shown, in_use}
use Rattle.engine_choice.specs.declared.Charge.{Charge}
use Rattle.engine_time.specs.declared.walking.Clock.{Clock}

-- ---- what is charged

-- a guest in its place, after what is charged
abbrev pub ran_place : Charge → GuestPlace → GuestPlace
ran_place c g = record { jobs = g.jobs; current = g.current - c.own; deadline = g.deadline; own = g.own + c.own; borrowed = g.borrowed + c.borrowed }

-- the first spare in its place, after it
abbrev pub spent_place : Charge → SparePlace → SparePlace
spent_place c x = record { deadline = x.deadline; owner = x.owner; capacity = x.capacity - c.spent }

-- ---- where a walk stands

-- guests in their places
abbrev pub placed : List Guest → List GuestPlace
placed gs = padded guest_places no_guest_place (map guest_place gs)

-- spares in theirs
abbrev pub listed : List Spare → List SparePlace
listed ss = padded spare_places no_spare_place (map spare_place ss)

-- what a walk of k ticks begins with: no tick, no renewal
abbrev pub begun_from : ℕ → Model → Model
begun_from zero m = m
begun_from (suc k) m = renewed m

-- before the first portion
abbrev pub started_at : State → ℕ → Clock
started_at s k = record { now = s.now; left = k; burned = s.burned; empty = s.empty; head = 0; last = 0 }

-- after what was charged
abbrev pub later_by : Charge → Clock → Clock
later_by c h =
    record {
      now = h.now + c.ticks;
      left = h.left - c.ticks;
      burned = h.burned + c.burned;
      empty = h.empty + c.empty;
      head = h.head + c.removed;
      last = c.guest;
    }

-- the state in the walk's variables: the spares that are left stand at the front
abbrev pub state_of : State → List GuestPlace → List SparePlace → Clock → State
state_of s guests spares h =
    record {
      table = s.table;
      now = h.now;
      guests = guests;
      listed = s.listed - h.head;
      spares = padded spare_places no_spare_place (slice h.head s.listed spares);
      burned = h.burned;
      empty = h.empty;
    }

-- what the walk gives back
abbrev pub walk_of : State → List GuestPlace → List SparePlace → List LinePlace → Clock → ℕ → Walk
walk_of s guests spares lines h count =
    record { state = state_of s guests spares h; left = h.left; shown = count; lines = lines }

-- ---- deadlines as plain numbers

-- past every deadline of a sound state
abbrev pub never : ℕ
never = 18446744073709551615

-- a guest's deadline where it is active
abbrev pub due_at : GuestPlace → ℕ
due_at g = cond (eqb g.jobs 0) never g.deadline

-- every deadline comes before it
abbrev pub AllDue : List GuestPlace → Type 0
AllDue gs = (i : ℕ) → i < length gs → (get_or gs i no_guest_place).deadline < never

-- g runs before b, where b has the lower number: an idle guest never does, and before an idle one any other
abbrev pub beats : GuestPlace → GuestPlace → Bool
beats b g = not (eqb g.jobs 0) && (eqb b.jobs 0 || ltb g.deadline b.deadline)

-- the numbers decide between any two guests as the guests do
abbrev pub Mirrors : List ℕ → List GuestPlace → Type 0
Mirrors ds gs = (i k : ℕ) → i < length gs → k < length gs → ltb (get_or ds k 0) (get_or ds i 0) ≡ beats (get_or gs i no_guest_place) (get_or gs k no_guest_place)

-- step 2 of a tick from a number on, of whatever guests the numbers decide for
abbrev pub SoonestFrom : List ℕ → ℕ → ℕ → ℕ → Type 0
SoonestFrom ds from count r =
    (gs : List GuestPlace) → Mirrors ds gs → count ≤ length gs → ready r (shown (get_or gs r no_guest_place)) ≡ earliest from (drop from (in_use count gs))
