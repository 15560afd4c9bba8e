-- Calls of the code one after the other are a run of the rules, so what is promised of runs holds of the states that come back.
use mathlib.Core.Path.{◌≡◌, refl, ap, sym, subst, ◌∙◌}
use mathlib.Core.List.{List, [], ◌∷◌, ◌++◌}
use Prim.Native.Nat.{ℕ, zero, suc, ◌+◌, ◌-◌, ◌≤◌}
use native.Mathlib.Omega.{arith}
use lib.ListN.{length}
use lib.Seq.{take_all, take-length}
use Rattle.std.specs.Prelude.{Result, Ok, Err}
use Rattle.std.specs.Result.{result_unwrap_or}
use Rattle.rules.specs.declared.Table.{Table}
use Rattle.rules.specs.declared.State.{State}
use Rattle.rules.specs.declared.Walk.{Walk}
use Rattle.rules.specs.Limits.{line_places}
use Rattle.rules.specs.declared.Refusal.{Refusal}
use Rattle.rules.specs.Refusals.{first, refusal_number}
use Rattle.rules.specs.Table.{table_rows}
use Rattle.rules.specs.Model.{budget_of, deadline_of, own_of, guest_at}
use Rattle.rules.specs.Places.{model, fresh_state}
use Rattle.rules.specs.Calls.{advance_rows, named, Call, arrives, finishes, advances, asks, asks_active, asks_margin, number_given, state_after, run}
use Rattle.rules.specs.Walks.{ticks_in, no_walk, Walked}
use Rattle.promises.specs.Runs.{events, passed, own_ticks}
use Rattle.promises.specs.Promises.{Wakes, StaysActive}
use Rattle.promises.specs.Histories.{walk_call, History, begun, arrived, finished, advanced, walked, asked, asked_active, asked_margin, HistoryIsRun, NeverOne, FirstHalfReached, SecondHalfReached}
use Rattle.promises.proofs.Calling.{may_advance, advanced as advanced-state}
use Rattle.promises.proofs.Walks.{ticks_in_le, walk_left_lem, walk_state_lem}
use Rattle.promises.proofs.Starting.{never_unsound}
use Rattle.promises.proofs.Outcomes.{refusal_counts}
use Rattle.promises.proofs.Promised.{run_is_steps, counts_are_tallies, first_half, second_half_later}

-- ---- a walk is the advance that it made

-- a refused advance leaves the state as it was
refused-advance : (s : State) (k n : ℕ) → first (advance_rows s k) ≡ suc n → state_after (advances k) s ≡ s
unfolding state_after
refused-advance s k n e = rw e

-- of an accepted walk and of a refused one
walk_by : (s : State) (k : ℕ) (r : Result Walk Refusal) → Walked s k r → (result_unwrap_or r (no_walk s)).state ≡ state_after (walk_call k r) s
walk_by s k (Ok w) p =
    let a = may_advance s k (sym p.answer) in
    let n = ticks_in line_places k (model s) in
    let l = ticks_in_le line_places k (model s) in
    let made : k - w.left ≡ n = omega (arith, p.left, walk_left_lem s k a) in
    rw made (p.state ∙ walk_state_lem s k a ∙ sym (advanced-state s n (record { whole = a.whole; time = omega (arith, a.time) })))
walk_by s k (Err r) p = sym (refused-advance s k (refusal_number r - 1) (sym p.answer ∙ omega (arith, refusal_counts r)))

-- ---- a history is a run

-- two lists of calls, one after the other
run-append : (cs ds : List Call) (s : State) → run (cs ++ ds) s ≡ run ds (run cs s)
unfolding run
run-append [] ds s = refl
run-append (c ∷ cs) ds s = run-append cs ds (state_after c s)

-- the table is good, and the state is that of the run of these calls
record IsRun (t : Table) (cs : List Call) (s : State) : Type 0 where
  good : first (table_rows t) ≡ 0
  state : s ≡ run cs (fresh_state t)

-- one call more
call_more : {t : Table} {cs : List Call} {s r : State} (c : Call) → IsRun t cs s → r ≡ state_after c s → IsRun t (cs ++ (c ∷ [])) r
unfolding run
call_more {t} {cs} c a e = record { good = a.good; state = e ∙ ap (state_after c) a.state ∙ sym (run-append cs (c ∷ []) (fresh_state t)) }

-- each call is one more
is_run : {t : Table} {cs : List Call} {s : State} → History t cs s → IsRun t cs s
unfolding state_after run
is_run {t} (begun s f) = let good : first (table_rows t) ≡ 0 = sym f.answer in record { good = good; state = rw good at f.state }
is_run (arrived h i r p) = call_more (arrives i) (is_run h) p.state
is_run (finished h i r p) = call_more (finishes i) (is_run h) p.state
is_run (advanced h k r p) = call_more (advances k) (is_run h) p.state
is_run (walked {s = s} h k r p) = call_more (walk_call k r) (is_run h) (walk_by s k r p)
is_run (asked h r p) = call_more asks (is_run h) refl
is_run (asked_active h r p) = call_more asks_active (is_run h) refl
is_run (asked_margin h i r p) = call_more (asks_margin i) (is_run h) refl

-- the same, as it is promised
pub history_is_run : HistoryIsRun
history_is_run t cs s h = let a = is_run h in (a.good, a.state)

-- ---- so no call answers 1

-- a call whose number this is
not_one : {t : Table} {cs : List Call} {s : State} → History t cs s → (c : Call) (number : ℕ) → number ≡ number_given c s → number ≡ 1 → ⊥
not_one {t} {cs} h c number given e = let a = is_run h in never_unsound t a.good cs c (rw a.state at (sym given ∙ e))

-- of each of the calls
pub never_one : NeverOne
never_one =
    record {
      arrive = λ t cs s h i r p. not_one h (arrives i) _ p.answer;
      done = λ t cs s h i r p. not_one h (finishes i) _ p.answer;
      advance = λ t cs s h k r p. not_one h (advances k) _ p.answer;
      walk = λ t cs s h k r p. not_one h (advances k) _ p.answer;
      ask = λ t cs s h r p. not_one h asks _ p.answer;
      active = λ t cs s h r p. not_one h asks_active _ p.answer;
      margin = λ t cs s h i r p. not_one h (asks_margin i) _ p.answer;
    }

-- ---- demand 3

-- all the single steps of a run lead to its state
passed_all : (cs : List Call) (s : State) → passed (length (events cs s)) cs s ≡ model (run cs s)
passed_all cs s = rw (take-length, run_is_steps cs s)

-- the first half, after the last step
pub first_half_reached : FirstHalfReached
first_half_reached t cs s h =
    let a = is_run h in
    rw (a.state, ← passed_all cs (fresh_state t)) (first_half t a.good cs (length (events cs (fresh_state t))))

-- the second half, of the state that the guest was woken in
served_from : (t : Table) (earlier later : List Call) (i : ℕ) (before : State) → IsRun t earlier before → Wakes before i
    → let w = state_after (arrives i) before in
    (k n : ℕ) → k ≤ n → StaysActive i k later w → (passed k later w).now ≡ deadline_of (named w i) → budget_of (named w i) ≤ own_ticks i n later w
served_from t earlier later i before a =
    subst
    (λ (b : State). Wakes b i
    → let w = state_after (arrives i) b in
    (k n : ℕ) → k ≤ n → StaysActive i k later w → (passed k later w).now ≡ deadline_of (named w i) → budget_of (named w i) ≤ own_ticks i n later w)
    (sym a.state)
    (second_half_later t a.good earlier later i)

-- and of the state that came back: all the single steps are made
pub second_half_reached : SecondHalfReached
unfolding run
second_half_reached t earlier later before after i past wakes whole k stays due =
    let a = is_run past in
    let w = state_after (arrives i) before in
    let n = k + length (events later w) in
    let reached : after ≡ run later w = rw (run-append, ← a.state) at (is_run whole).state in
    let end : passed n later w ≡ model after = rw (take_all n (events later w) (omega arith), reached) (sym (run_is_steps later w)) in
    let grown : own_of (guest_at i (passed n later w).guests) ≡ own_of (named w i) + own_ticks i n later w = (counts_are_tallies i n later w).0 in
    omega (arith, served_from t earlier later i before a wakes k n (omega arith) stays due, rw end at grown)
