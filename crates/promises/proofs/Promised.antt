-- Demand 3 over the rules' own steps and calls: a run of calls is a legal run, so what holds of legal runs holds of it.
use mathlib.Core.Path.{◌≡◌, refl, sym, ap, ◌∙◌}
use mathlib.Core.Bool.{true, false, cond}
use mathlib.Core.List.{List, [], ◌∷◌, ◌++◌, map}
use Prim.Native.Nat.{ℕ, zero, suc, ◌+◌, ◌-◌, ◌≤◌, ◌<◌}
use native.Mathlib.Omega.{arith}
use lib.Dec.{eqb}
use lib.ListN.{length, take, replicate, get_or-map}
use borrow.Author.Tests.{eq-eqb, eqb-true, eqb-false}
use Rattle.laws.specs.Lists.{total, changed}
use Rattle.laws.proofs.Cases.{never, by_test}
use Rattle.laws.proofs.Elements.{All, all_get, all_map, all_imp, all_both, at_same, at_other, at_either}
use Rattle.rules.specs.declared.Table.{Table}
use Rattle.rules.specs.declared.State.{State}
use Rattle.rules.specs.Refusals.{Row, first}
use Rattle.rules.specs.Table.{share_of, entries_of, table_rows, good_table}
use Rattle.rules.specs.Model.{Guest, guest, Spare, Model, budget_of, current_of, deadline_of, own_of, borrowed_of, active, no_guest, guest_at}
use Rattle.rules.specs.Steps.{join, finish, arrive, done, renew, renewed, Source, own_budget, spare_of, Use, runs, burns, nothing, Portion, portion, use_of, next, ran, charge, serve, tick, advance, ask}
use Rattle.rules.specs.Places.{model, packed, fresh_state, entry_of}
use Rattle.rules.specs.Calls.{arrive_rows, done_rows, advance_rows, named, told, moved, Call, arrives, finishes, advances, asks, asks_active, asks_margin, number_given, state_after, run}
use Rattle.promises.specs.Runs.{Event, arrival, completion, one_tick, happen, after_all, events_of, events, passed, on_budget, on_spare, tick_by, counted}
use Rattle.promises.specs.Promises.{NothingOverdue, RunsFirst, Uses, RunIsSteps, CountsAreTallies, can_run, Earliest, Fair, ChoiceIsFair, FirstHalf, SecondHalf, SecondHalfLater}
use Rattle.promises.proofs.GoodTable.{good}
use Rattle.promises.proofs.Packing.{model-packed, table_entries}
use Rattle.promises.proofs.Facts.{Served}
use Rattle.promises.proofs.Keeping.{Names, next_names}
use Rattle.promises.proofs.Starting.{Still, fresh_still, fresh_table, fresh_sane}
use Rattle.promises.proofs.Calling.{may_arrive}
use Rattle.promises.proofs.Choosing.{next-uses}
use Rattle.promises.proofs.Owed.{Fine, Late, shares_bound}
use Rattle.promises.proofs.Legal.{Legal, arriving, finishing, ticking, Reach, Kept, owes_late, legal_kept, reach_kept}
use Rattle.promises.proofs.Served.{not_overdue, Awake, there, onward, served}

-- ---- a run of calls is the run of its single steps

after-append : (es fs : List Event) (m : Model) → after_all (es ++ fs) m ≡ after_all fs (after_all es m)
unfolding after_all
after-append [] fs m = refl
after-append (e ∷ es) fs m = after-append es fs (happen e m)

after_ticks : (k : ℕ) (m : Model) → after_all (replicate k one_tick) m ≡ advance k m
unfolding after_all advance
after_ticks zero m = refl
after_ticks (suc k) m = after_ticks k (tick m)

-- a call that makes a step, and the single steps of it
moved_steps : (rows : List Row) (step : Model → Model) (es : List Event) (s : State) → ((m : Model) → after_all es m ≡ step m) → model (moved rows step s) ≡ after_all (told (first rows) (λ m. es) [] s) (model s)
moved_steps rows step es s f = go (first rows)
  where
    go : (n : ℕ) → model (told n (λ m. packed (step m)) s s) ≡ after_all (told n (λ m. es) [] s) (model s)
    go zero = model-packed (step (model s)) ∙ sym (f (model s))
    go (suc n) = unfold after_all in refl

call_steps : (c : Call) (s : State) → model (state_after c s) ≡ after_all (events_of c s) (model s)
unfolding state_after events_of
call_steps (arrives i) s = moved_steps (arrive_rows s i) (arrive i) (arrival i ∷ []) s (unfold after_all in (λ m. refl))
call_steps (finishes i) s = moved_steps (done_rows s i) (done i) (completion i ∷ []) s (unfold after_all in (λ m. refl))
call_steps (advances k) s = moved_steps (advance_rows s k) (advance k) (replicate k one_tick) s (after_ticks k)
call_steps asks s = unfold after_all in refl
call_steps asks_active s = unfold after_all in refl
call_steps (asks_margin i) s = unfold after_all in refl

pub run_is_steps : RunIsSteps
unfolding run events
run_is_steps [] s = unfold after_all in refl
run_is_steps (c ∷ cs) s =
    run_is_steps cs (state_after c s) ∙ ap (after_all (events cs (state_after c s))) (call_steps c s) ∙ sym (after-append (events_of c s) (events cs (state_after c s)) (model s))

-- ---- the rules' own choice is fair

-- after step 1 every active guest can run
renew_can : (now : ℕ) (g : Guest) → Fine now g → can_run (renew g) ≡ active (renew g)
renew_can now (guest Q T zero c d own borrowed) p = refl
renew_can now (guest zero T (suc jobs) zero d own borrowed) p = absurd (omega arith)
renew_can now (guest (suc Q) T (suc jobs) zero d own borrowed) p = refl
renew_can now (guest Q T (suc jobs) (suc c) d own borrowed) p = refl

first-earliest : (gs : List Guest) → ((k : ℕ) → can_run (guest_at k gs) ≡ active (guest_at k gs)) → (i : ℕ) → RunsFirst gs i → Earliest gs i
first-earliest gs same i r = record { place = r.place; can = same i ∙ r.is_active; smallest = λ k c. r.smallest k (sym (same k) ∙ c) }

uses-fair : (gs : List Guest) (ss : List Spare) → ((k : ℕ) → can_run (guest_at k gs) ≡ active (guest_at k gs)) → (p : Portion) → Uses gs ss p → Fair gs ss p
uses-fair gs ss same (portion (runs i own_budget) d span) u = (first-earliest gs same i u.0, rw u.1 at u.3)
uses-fair gs ss same (portion (runs i (spare_of owner)) d span) u = (first-earliest gs same i u.0, u.1, u.2)
uses-fair gs ss same (portion (burns owner) d span) u = (λ k. same k ∙ u.0 k, u.1)
uses-fair gs ss same (portion nothing d span) u = (λ k. same k ∙ u.0 k, u.1)

own_fair : (m : Model) → Kept m → Fair (renewed m).guests (renewed m).spares (next (renewed m))
unfolding renewed
own_fair m k =
    let same = all_map (λ g. can_run g ≡ active g) renew (renew_can m.now) k.fine in
    uses-fair (renewed m).guests m.spares (all_get same no_guest refl) (next (renewed m)) (next-uses (renewed m))

-- ---- every state of a run

happen_legal : (e : Event) (m : Model) → Kept m → Legal m (happen e m)
unfolding tick serve
happen_legal (arrival i) m k = arriving i
happen_legal (completion i) m k = finishing i
happen_legal one_tick m k = ticking (next (renewed m)) (own_fair m k)

after_kept : (es : List Event) (m : Model) → Kept m → Kept (after_all es m)
unfolding after_all
after_kept [] m k = k
after_kept (e ∷ es) m k = after_kept es (happen e m) (legal_kept k (happen_legal e m k))

-- ---- from a fresh state

still_fine : (g : Guest) → Served g × Still g → Fine 0 g
still_fine (guest Q T zero c d own borrowed) p = omega arith
still_fine (guest Q T (suc jobs) c d own borrowed) p = absurd (omega arith)

still_late : (D : ℕ) (g : Guest) → Still g → Late D g
still_late D (guest Q T zero c d own borrowed) p h = never h refl
still_late D (guest Q T (suc jobs) c d own borrowed) p h = absurd (omega arith)

fresh_kept : (t : Table) → first (table_rows t) ≡ 0 → Kept (model (fresh_state t))
unfolding model fresh_state good_table
fresh_kept t h =
    let ok : good_table t ≡ true = eq-eqb (first (table_rows t)) 0 h in
    let m = model (fresh_state t) in
    let g = good t h in
    let entries : map entry_of m.guests ≡ entries_of t = sym (table_entries m) ∙ ap entries_of (fresh_table t ok) in
    let bound = shares_bound t.frame g.frame_low (entries_of t) g.fit g.share in
    let table : (x : ℕ) → total (share_of x) (map entry_of m.guests) ≤ x = λ x. rw entries (bound x) in
    let still = fresh_still t ok in
    let fine : All (Fine 0) m.guests = all_imp still_fine (all_both (all_imp (λ g p. p.served) (fresh_sane t ok).guests) still) in
    record {
      table = table;
      demand = λ D l. omega (arith, owes_late 0 D fine (all_imp (still_late D) still), table (D - 0));
      fine = fine;
      sorted = tt;
    }

-- every state of single steps of every run of calls
passed-kept : (t : Table) → first (table_rows t) ≡ 0 → (cs : List Call) (k : ℕ) → Kept (passed k cs (fresh_state t))
passed-kept t h cs k = after_kept (take k (events cs (fresh_state t))) (model (fresh_state t)) (fresh_kept t h)

-- and every state that calls leave
run-kept : (t : Table) → first (table_rows t) ≡ 0 → (cs : List Call) → Kept (model (run cs (fresh_state t)))
run-kept t h cs = rw (run_is_steps cs (fresh_state t)) (after_kept (events cs (fresh_state t)) (model (fresh_state t)) (fresh_kept t h))

pub choice_is_fair : ChoiceIsFair
choice_is_fair t h cs k = own_fair (passed k cs (fresh_state t)) (passed-kept t h cs k)

pub first_half : FirstHalf
first_half t h cs k = not_overdue (passed k cs (fresh_state t)) (passed-kept t h cs k)

-- ---- the counts are the tallies

-- a change of guest k that counts x for it
count_changed : (tally : Guest → ℕ) (f : Guest → Guest) (x : ℕ) → ((g : Guest) → tally (f g) ≡ tally g + x) → (i k : ℕ) (gs : List Guest) → k < length gs → tally (guest_at i (changed k f gs)) ≡ tally (guest_at i gs) + cond (eqb i k) x 0
count_changed tally f x more i k gs h =
    by_test (λ t. tally (guest_at i (changed k f gs)) ≡ tally (guest_at i gs) + cond t x 0) (eqb i k)
    (λ e. rw (eqb-true i k e, at_same no_guest k f gs h) (more (guest_at k gs)))
    (λ e. rw (at_other no_guest k i f gs (eqb-false i k e)) (omega arith))

-- one that counts nothing
same_changed : (tally : Guest → ℕ) (f : Guest → Guest) → ((g : Guest) → tally (f g) ≡ tally g) → (i k : ℕ) (gs : List Guest) → tally (guest_at i (changed k f gs)) ≡ tally (guest_at i gs)
same_changed tally f same i k gs = at_either (λ g. tally g ≡ tally (guest_at i gs)) no_guest k i f gs refl (same (guest_at i gs))

-- a tally, and what a tick counts in it for the guest that runs
record Tally (tally : Guest → ℕ) (count : Source → ℕ) : Type 0 where
  join : (now : ℕ) (g : Guest) → tally (join now g) ≡ tally g
  finish : (g : Guest) → tally (finish g) ≡ tally g
  renew : (g : Guest) → tally (renew g) ≡ tally g
  budget : (g : Guest) → tally (ran 1 0 g) ≡ tally g + count own_budget
  spare : (owner : ℕ) (g : Guest) → tally (ran 0 1 g) ≡ tally g + count (spare_of owner)

module _ (tally : Guest → ℕ) (count : Source → ℕ) (t : Tally tally count) (i : ℕ) where
  arrive_counts : (k : ℕ) (m : Model) → tally (guest_at i (arrive k m).guests) ≡ tally (guest_at i m.guests)
  unfolding arrive
  arrive_counts k m = same_changed tally (join m.now) (t.join m.now) i k m.guests

  done_counts : (k : ℕ) (m : Model) → tally (guest_at i (done k m).guests) ≡ tally (guest_at i m.guests)
  unfolding done
  done_counts k m = same_changed tally finish t.finish i k m.guests

  charge_counts : (u : Use) (m : Model) → Names (length m.guests) u → tally (guest_at i (charge 1 u m).guests) ≡ tally (guest_at i m.guests) + tick_by count i u
  charge_counts (runs k own_budget) m h = count_changed tally (ran 1 0) (count own_budget) t.budget i k m.guests h
  charge_counts (runs k (spare_of owner)) m h = count_changed tally (ran 0 1) (count (spare_of owner)) (t.spare owner) i k m.guests h
  charge_counts (burns owner) m h = omega arith
  charge_counts nothing m h = omega arith

  tick_counts : (m : Model) → tally (guest_at i (tick m).guests) ≡ tally (guest_at i m.guests) + tick_by count i (use_of (ask m))
  unfolding tick serve ask renewed
  tick_counts m =
      charge_counts (use_of (next (renewed m))) (renewed m) (next_names (renewed m))
      ∙ ap (λ (n : ℕ). n + tick_by count i (use_of (next (renewed m)))) (ap tally (get_or-map renew m.guests i no_guest) ∙ t.renew (guest_at i m.guests))

  counts : (es : List Event) (m : Model) → tally (guest_at i (after_all es m).guests) ≡ tally (guest_at i m.guests) + counted (tick_by count i) es m
  unfolding after_all counted
  counts [] m = omega arith
  counts (arrival k ∷ es) m = omega (arith, counts es (arrive k m), arrive_counts k m)
  counts (completion k ∷ es) m = omega (arith, counts es (done k m), done_counts k m)
  counts (one_tick ∷ es) m = omega (arith, counts es (tick m), tick_counts m)

-- an arrival, a completion and a renewal change neither tally
abbrev tally_pair : Guest → ℕ × ℕ
tally_pair g = (own_of g, borrowed_of g)

join-tallies : (now : ℕ) (g : Guest) → tally_pair (join now g) ≡ tally_pair g
join-tallies now (guest Q T zero c d own borrowed) = refl
join-tallies now (guest Q T (suc jobs) c d own borrowed) = refl

finish-tallies : (g : Guest) → tally_pair (finish g) ≡ tally_pair g
finish-tallies (guest Q T zero c d own borrowed) = refl
finish-tallies (guest Q T (suc zero) c d own borrowed) = refl
finish-tallies (guest Q T (suc (suc jobs)) c d own borrowed) = refl

renew-tallies : (g : Guest) → tally_pair (renew g) ≡ tally_pair g
renew-tallies (guest Q T zero c d own borrowed) = refl
renew-tallies (guest Q T (suc jobs) zero d own borrowed) = refl
renew-tallies (guest Q T (suc jobs) (suc c) d own borrowed) = refl

-- to run counts in both
own_ran : (n k : ℕ) (g : Guest) → own_of (ran n k g) ≡ own_of g + n
own_ran n k (guest Q T jobs c d own borrowed) = refl

borrowed_ran : (n k : ℕ) (g : Guest) → borrowed_of (ran n k g) ≡ borrowed_of g + k
borrowed_ran n k (guest Q T jobs c d own borrowed) = refl

-- one of the two
tally_of : (pick : ℕ × ℕ → ℕ) (count : Source → ℕ) → ((g : Guest) → pick (tally_pair (ran 1 0 g)) ≡ pick (tally_pair g) + count own_budget) → ((owner : ℕ) (g : Guest) → pick (tally_pair (ran 0 1 g)) ≡ pick (tally_pair g) + count (spare_of owner)) → Tally (λ g. pick (tally_pair g)) count
tally_of pick count budget spare =
    record { join = λ now g. ap pick (join-tallies now g); finish = λ g. ap pick (finish-tallies g); renew = λ g. ap pick (renew-tallies g); budget = budget; spare = spare }

own_tally : Tally own_of on_budget
own_tally = tally_of (λ p. p.0) on_budget (own_ran 1 0) (λ owner. own_ran 0 1)

borrowed_tally : Tally borrowed_of on_spare
borrowed_tally = tally_of (λ p. p.1) on_spare (borrowed_ran 1 0) (λ owner. borrowed_ran 0 1)

pub counts_are_tallies : CountsAreTallies
counts_are_tallies i k cs s =
    let es = take k (events cs s) in
    (counts own_of on_budget own_tally i es (model s), counts borrowed_of on_spare borrowed_tally i es (model s))

-- ---- the second half

-- steps in which guest i stays active
awake_steps : (i : ℕ) (es : List Event) (m : Model) → Kept m → (k : ℕ) → ((j : ℕ) → j ≤ k → active (guest_at i (after_all (take j es) m).guests) ≡ true) → Awake i m (after_all (take k es) m)
unfolding after_all
awake_steps i es m kept zero stays = there (stays 0 (omega arith))
awake_steps i [] m kept (suc k) stays = there (stays 0 (omega arith))
awake_steps i (e ∷ es) m kept (suc k) stays =
    let l = happen_legal e m kept in
    onward (stays 0 (omega arith)) l (awake_steps i es (happen e m) (legal_kept kept l) k (λ j h. stays (suc j) (omega arith)))

-- a woken guest holds its whole budget
woken_whole : (now : ℕ) (g : Guest) → active g ≡ false → current_of (join now g) ≡ budget_of (join now g)
woken_whole now (guest Q T zero c d own borrowed) h = refl
woken_whole now (guest Q T (suc jobs) c d own borrowed) h = never refl h

-- the state that an accepted arrival leaves, and the guest in it
arrived : (s : State) (i : ℕ) → number_given (arrives i) s ≡ 0 → model (state_after (arrives i) s) ≡ arrive i (model s)
unfolding state_after
arrived s i e = rw e (model-packed (arrive i (model s)))

woken : (s : State) (i : ℕ) → number_given (arrives i) s ≡ 0 → named (state_after (arrives i) s) i ≡ join (model s).now (named s i)
unfolding arrive
woken s i e = ap (λ (m : Model). guest_at i m.guests) (arrived s i e) ∙ at_same no_guest i (join (model s).now) (model s).guests (may_arrive s i e).named

pub second_half : SecondHalf
second_half t h earlier cs i wakes k stays due =
    let s = run earlier (fresh_state t) in
    let w = state_after (arrives i) s in
    let kept : Kept (model w) = rw (call_steps (arrives i) s) (after_kept (events_of (arrives i) s) (model s) (run-kept t h earlier)) in
    let awake = awake_steps i (events cs w) (model w) kept k stays in
    let whole : current_of (named w i) ≡ budget_of (named w i) = rw (woken s i wakes.accepted) (woken_whole (model s).now (named s i) wakes.was_idle) in
    omega (arith, served kept awake (omega (arith, due)), (counts_are_tallies i k cs w).0, whole)

-- more steps count no less
counted_more : (f : Use → ℕ) (es : List Event) (m : Model) (k n : ℕ) → k ≤ n → counted f (take k es) m ≤ counted f (take n es) m
unfolding counted
counted_more f es m zero n h = omega arith
counted_more f es m (suc k) zero h = absurd (omega arith)
counted_more f [] m (suc k) (suc n) h = omega arith
counted_more f (arrival i ∷ es) m (suc k) (suc n) h = counted_more f es (arrive i m) k n (omega arith)
counted_more f (completion i ∷ es) m (suc k) (suc n) h = counted_more f es (done i m) k n (omega arith)
counted_more f (one_tick ∷ es) m (suc k) (suc n) h = omega (arith, counted_more f es (tick m) k n (omega arith))

pub second_half_later : SecondHalfLater
second_half_later t h earlier cs i wakes k n l stays due =
    let w = state_after (arrives i) (run earlier (fresh_state t)) in
    omega (arith, second_half t h earlier cs i wakes k stays due, counted_more (tick_by on_budget i) (events cs w) (model w) k n l)

-- ---- both halves over any fair choices, which is more than the rules' own runs

pub any_fair_first_half : (t : Table) → first (table_rows t) ≡ 0 → {m : Model} → Reach (model (fresh_state t)) m → NothingOverdue m
any_fair_first_half t h {m} r = not_overdue m (reach_kept (fresh_kept t h) r)

pub any_fair_second_half : (t : Table) → first (table_rows t) ≡ 0 → {i : ℕ} {m n : Model} → Reach (model (fresh_state t)) m → Awake i m n
    → deadline_of (guest_at i m.guests) ≤ n.now
    → own_of (guest_at i m.guests) + current_of (guest_at i m.guests) ≤ own_of (guest_at i n.guests)
any_fair_second_half t h r w l = served (reach_kept (fresh_kept t h) r) w l
