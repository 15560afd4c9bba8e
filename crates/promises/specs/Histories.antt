-- Calls of the code one after the other, known by their contracts alone, and that they are runs in the sense of the promises.
use Rattle.std.specs.Prelude.{◌≡◌, List, [], ◌∷◌, ◌++◌, ℕ, ◌+◌, ◌-◌, ◌≤◌, ℤ, Result, Ok, Err}
use Rattle.std.specs.Result.{result_unwrap_or}
use Rattle.rules.specs.declared.Table.{Table}
use Rattle.rules.specs.declared.State.{State}
use Rattle.rules.specs.declared.Activity.{Activity}
use Rattle.rules.specs.declared.Portion.{Portion}
use Rattle.rules.specs.declared.Refusal.{Refusal}
use Rattle.rules.specs.declared.Walk.{Walk}
use Rattle.rules.specs.Refusals.{first, number_of}
use Rattle.rules.specs.Table.{table_rows}
use Rattle.rules.specs.Model.{budget_of, deadline_of, own_of}
use Rattle.rules.specs.Places.{model, fresh_state}
use Rattle.rules.specs.Calls.{named, Arrived, Finished, Advanced, AskedFor, ActiveTold, MarginTold, Freshened, Call, arrives, finishes, advances, asks, asks_active, asks_margin, state_after, run}
use Rattle.rules.specs.Walks.{no_walk, Walked}
use Rattle.promises.specs.Runs.{passed}
use Rattle.promises.specs.Promises.{NothingOverdue, Wakes, StaysActive}

-- ---- what was called, and the state that it left

-- a walk is an advance by the ticks that it made; a refused one made none
abbrev pub walk_call : ℕ → Result Walk Refusal → Call
walk_call k (Ok w) = advances (k - w.left)
walk_call k (Err r) = advances k

-- a fresh state that was accepted, and then any calls, accepted or refused, each on the state that the last one gave back; of each call
-- nothing is known but its contract
pub data History (t : Table) : List Call → State → Type 0 where
  begun : (s : State) → Freshened t (Ok s) → History t [] s
  arrived : {cs : List Call} {s : State} → History t cs s → (i : ℕ) (r : Result State Refusal) → Arrived s i r → History t (cs ++ (arrives i ∷ [])) (result_unwrap_or r s)
  finished : {cs : List Call} {s : State} → History t cs s → (i : ℕ) (r : Result State Refusal) → Finished s i r → History t (cs ++ (finishes i ∷ [])) (result_unwrap_or r s)
  advanced : {cs : List Call} {s : State} → History t cs s → (k : ℕ) (r : Result State Refusal) → Advanced s k r → History t (cs ++ (advances k ∷ [])) (result_unwrap_or r s)
  walked : {cs : List Call} {s : State} → History t cs s → (k : ℕ) (r : Result Walk Refusal) → Walked s k r → History t (cs ++ (walk_call k r ∷ [])) (result_unwrap_or r (no_walk s)).state
  asked : {cs : List Call} {s : State} → History t cs s → (r : Result Portion Refusal) → AskedFor s r → History t (cs ++ (asks ∷ [])) s
  asked_active : {cs : List Call} {s : State} → History t cs s → (r : Result Activity Refusal) → ActiveTold s r → History t (cs ++ (asks_active ∷ [])) s
  asked_margin : {cs : List Call} {s : State} → History t cs s → (i : ℕ) (r : Result ℤ Refusal) → MarginTold s i r → History t (cs ++ (asks_margin i ∷ [])) s

-- ---- it is a run

-- the table is good, and the state is that of the run of these calls
abbrev pub HistoryIsRun : Type 0
HistoryIsRun = (t : Table) (cs : List Call) (s : State) → History t cs s → (first (table_rows t) ≡ 0) × (s ≡ run cs (fresh_state t))

-- so none of the calls answers 1
pub record NeverOne : Type 0 where
  pub arrive : (t : Table) (cs : List Call) (s : State) → History t cs s → (i : ℕ) (r : Result State Refusal) → Arrived s i r → number_of r ≡ 1 → ⊥
  pub done : (t : Table) (cs : List Call) (s : State) → History t cs s → (i : ℕ) (r : Result State Refusal) → Finished s i r → number_of r ≡ 1 → ⊥
  pub advance : (t : Table) (cs : List Call) (s : State) → History t cs s → (k : ℕ) (r : Result State Refusal) → Advanced s k r → number_of r ≡ 1 → ⊥
  pub walk : (t : Table) (cs : List Call) (s : State) → History t cs s → (k : ℕ) (r : Result Walk Refusal) → Walked s k r → number_of r ≡ 1 → ⊥
  pub ask : (t : Table) (cs : List Call) (s : State) → History t cs s → (r : Result Portion Refusal) → AskedFor s r → number_of r ≡ 1 → ⊥
  pub active : (t : Table) (cs : List Call) (s : State) → History t cs s → (r : Result Activity Refusal) → ActiveTold s r → number_of r ≡ 1 → ⊥
  pub margin : (t : Table) (cs : List Call) (s : State) → History t cs s → (i : ℕ) (r : Result ℤ Refusal) → MarginTold s i r → number_of r ≡ 1 → ⊥

-- ---- demand 3 of the states that come back

-- no capacity above zero has a deadline at or before now
abbrev pub FirstHalfReached : Type 0
FirstHalfReached = (t : Table) (cs : List Call) (s : State) → History t cs s → NothingOverdue (model s)

-- a guest woken with deadline D has run at least its full budget by tick D, unless it went idle; `before` is the state that guest i
-- was woken in, w the one that the wake-up left, and `after` any later one, with tick D reached on the way; by then the stored tally of own
-- ticks has grown by Q, whatever the guest did after tick D
abbrev pub SecondHalfReached : Type 0
SecondHalfReached =
    (t : Table) (earlier later : List Call) (before after : State) (i : ℕ) → History t earlier before → Wakes before i
    → History t (earlier ++ (arrives i ∷ later)) after
    → let w = state_after (arrives i) before in
    (k : ℕ) → StaysActive i k later w → (passed k later w).now ≡ deadline_of (named w i)
    → own_of (named w i) + budget_of (named w i) ≤ own_of (named after i)
