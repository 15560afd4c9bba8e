-- Runs: any calls from a fresh state, the single steps that they make, and the ticks that a guest runs.
use Rattle.std.specs.Prelude.{List, [], ◌∷◌, ◌++◌, cond, ℕ, ◌+◌, eqb, take, replicate}
use Rattle.rules.specs.declared.State.{State}
use Rattle.rules.specs.Model.{Model}
use Rattle.rules.specs.Steps.{arrive, done, Source, own_budget, spare_of, Use, runs, burns, nothing, use_of, tick, ask}
use Rattle.rules.specs.Places.{model}
use Rattle.rules.specs.Calls.{told, Call, arrives, finishes, advances, asks, asks_active, asks_margin, number_given, state_after}

-- ---- single steps

-- an arrival, a completion or one tick
pub data Event : Type 0 where
  arrival : (i : ℕ) → Event
  completion : (i : ℕ) → Event
  one_tick : Event

-- what a single step does
abbrev pub happen : Event → Model → Model
happen (arrival i) m = arrive i m
happen (completion i) m = done i m
happen one_tick m = tick m

-- one after the other
unfoldable pub after_all : List Event → Model → Model
after_all [] m = m
after_all (e ∷ es) m = after_all es (happen e m)

-- the single steps of a call: none of a refused one or of a question, and k ticks of an advance by k
unfoldable pub events_of : Call → State → List Event
events_of (arrives i) s = told (number_given (arrives i) s) (λ m. arrival i ∷ []) [] s
events_of (finishes i) s = told (number_given (finishes i) s) (λ m. completion i ∷ []) [] s
events_of (advances k) s = told (number_given (advances k) s) (λ m. replicate k one_tick) [] s
events_of asks s = []
events_of asks_active s = []
events_of (asks_margin i) s = []

-- the single steps of any calls, each on the state that the last one left
unfoldable pub events : List Call → State → List Event
unfolding events_of state_after
events [] s = []
events (c ∷ cs) s = events_of c s ++ events cs (state_after c s)

-- where a run of calls from s stands after its first k single steps, inside an advance too
abbrev pub passed : ℕ → List Call → State → Model
passed k cs s = after_all (take k (events cs s)) (model s)

-- ---- ticks that a guest runs

-- whether a running guest's tick is on its own budget, as 1 or 0
abbrev pub on_budget : Source → ℕ
on_budget own_budget = 1
on_budget (spare_of owner) = 0

-- or on a spare
abbrev pub on_spare : Source → ℕ
on_spare own_budget = 0
on_spare (spare_of owner) = 1

-- what a tick counts for guest i, where f says what it counts for the guest that runs
abbrev pub tick_by : (Source → ℕ) → ℕ → Use → ℕ
tick_by f i (runs k source) = cond (eqb i k) (f source) 0
tick_by f i (burns owner) = 0
tick_by f i nothing = 0

-- a count over the ticks of single steps
unfoldable pub counted : (Use → ℕ) → List Event → Model → ℕ
counted f [] m = 0
counted f (arrival i ∷ es) m = counted f es (arrive i m)
counted f (completion i ∷ es) m = counted f es (done i m)
counted f (one_tick ∷ es) m = f (use_of (ask m)) + counted f es (tick m)

-- the ticks that guest i runs on its own budget in the first k single steps of a run of calls from s
abbrev pub own_ticks : ℕ → ℕ → List Call → State → ℕ
own_ticks i k cs s = counted (tick_by on_budget i) (take k (events cs s)) (model s)

-- and those on spares
abbrev pub borrowed_ticks : ℕ → ℕ → List Call → State → ℕ
borrowed_ticks i k cs s = counted (tick_by on_spare i) (take k (events cs s)) (model s)
