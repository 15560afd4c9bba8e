-- Rows that hold the words of the promises: what each of them says of written-out numbers.
use Rattle.std.specs.Prelude.{◌≡◌, true, false, List, [], ◌∷◌, map, length, drop, Ok, Err}
use Rattle.rules.specs.declared.Refusal.TheVariants.{EndOfTime}
use Rattle.rules.specs.Refusals.{Row, ◌gives◌}
use Rattle.rules.specs.Model.{guest, spare}
use Rattle.rules.specs.Steps.{own_budget, spare_of, runs, burns, nothing, limited, endless, portion}
use Rattle.rules.specs.Calls.{arrives, finishes, advances, asks, asks_active, asks_margin}
use Rattle.rules.specs.Lines.{line}
use Rattle.rules.specs.Samples.{running, resting, leftovers, sample_model, sample, lone}
use Rattle.rules.specs.HeldSteps.{four, of, at10, then}
use Rattle.promises.specs.Joining.{joined, walked_to, left_after, uses, ticks_of}
use Rattle.promises.specs.Spans.{fewer, shorter, Within, whose, Ends}
use Rattle.promises.specs.Runs.{arrival, completion, one_tick, happen, after_all, events, passed, on_budget, on_spare, tick_by, own_ticks, borrowed_ticks}
use Rattle.promises.specs.Promises.{condition_at, number_at, Decides, rises, RunsFirst, can_run, NoneBy, NothingOverdue, bit, actives}
use Rattle.promises.specs.Histories.{walk_call}

-- walks one after the other: a guest (1, 1) has a portion in each tick, and a walk answers 64
pub record JoiningHeld : Type 0 where
  pub left : (left_after 0 65 (lone 0 1 1 1) ∷ left_after 1 65 (lone 0 1 1 1) ∷ left_after 2 65 (lone 0 1 1 1) ∷ []) ≡ 65 ∷ 1 ∷ 0 ∷ []
  pub reached : ((walked_to 1 65 (lone 0 1 1 1)).now ∷ (walked_to 2 65 (lone 0 1 1 1)).now ∷ []) ≡ 64 ∷ 65 ∷ []
  pub portions : (length (joined 1 65 (lone 0 1 1 1)) ∷ length (joined 2 65 (lone 0 1 1 1)) ∷ []) ≡ 64 ∷ 65 ∷ []
  pub second_walk : drop 64 (joined 2 65 (lone 0 1 1 1)) ≡ line 64 65 (runs 0 own_budget) ∷ []
  pub two-walks : joined 2 7 sample ≡ line 10 14 (runs 0 (spare_of 1)) ∷ line 14 15 (runs 0 (spare_of 1)) ∷ line 15 17 (runs 0 (spare_of 0)) ∷ []
  -- what each tick uses, and a portion as its ticks
  pub each_tick : uses 6 sample_model ≡ runs 0 (spare_of 1) ∷ runs 0 (spare_of 1) ∷ runs 0 (spare_of 1) ∷ runs 0 (spare_of 1) ∷ runs 0 (spare_of 1) ∷ runs 0 (spare_of 0) ∷ []
  pub of_a_portion : ticks_of (line 3 5 (runs 1 own_budget) ∷ line 5 6 nothing ∷ []) ≡ runs 1 own_budget ∷ runs 1 own_budget ∷ nothing ∷ []

-- a portion that gets shorter
pub record SpansHeld : Type 0 where
  pub fewer-left : map (fewer 2) (limited 5 ∷ endless ∷ []) ≡ limited 3 ∷ endless ∷ []
  pub same_portion : shorter 2 (portion (runs 1 (spare_of 4)) 9 (limited 5)) ≡ portion (runs 1 (spare_of 4)) 9 (limited 3)
  pub without_span : whose (portion (runs 1 (spare_of 4)) 9 (limited 5)) ≡ (runs 1 (spare_of 4), 9)
  -- as many ticks as the span, and one more; nothing to do has no end
  pub within : Within 5 (limited 5) × (Within 6 (limited 5) → ⊥) × Within 6 endless
  -- a budget of 2 is over after 2 ticks, and neither after 1 nor if it had 3
  pub over : Ends (at10 (of 1 2 20 ∷ []) []) (portion (runs 0 own_budget) 20 (limited 2))
  pub not-over : Ends (at10 (of 1 2 20 ∷ []) []) (portion (runs 0 own_budget) 20 (limited 1)) → ⊥

-- the single steps of calls, and the ticks that a guest runs in them
pub record RunsHeld : Type 0 where
  pub arrival_made : happen (arrival 1) sample_model ≡ then 10 (running ∷ guest 4 8 1 4 28 2 1 ∷ []) leftovers 1 2
  pub completion_made : happen (completion 0) sample_model ≡ then 10 (guest 3 12 1 2 30 3 1 ∷ resting ∷ []) leftovers 1 2
  pub tick_made : happen one_tick sample_model ≡ then 11 (guest 3 12 2 2 30 3 2 ∷ resting ∷ []) (spare 16 1 3 ∷ spare 20 1 1 ∷ spare 24 0 3 ∷ []) 1 2
  -- a refused call and a question make none
  pub steps : events (advances 2 ∷ arrives 2 ∷ asks ∷ asks_active ∷ asks_margin 0 ∷ finishes 0 ∷ finishes 1 ∷ arrives 1 ∷ []) sample ≡ one_tick ∷ one_tick ∷ completion 0 ∷ arrival 1 ∷ []
  pub refused_steps : events (advances 1 ∷ []) (lone 1099511627776 0 0 0) ≡ []
  -- each call on the state that the last one left
  pub handed_on : events (finishes 0 ∷ finishes 0 ∷ finishes 0 ∷ []) sample ≡ completion 0 ∷ completion 0 ∷ []
  pub all_steps : after_all (completion 0 ∷ one_tick ∷ []) sample_model ≡ then 11 (guest 3 12 1 2 30 3 2 ∷ resting ∷ []) (spare 16 1 3 ∷ spare 20 1 1 ∷ spare 24 0 3 ∷ []) 1 2
  pub inside : (passed 3 (advances 7 ∷ []) sample).now ≡ 13
  pub own_tick : map (tick_by on_budget 1) (runs 1 own_budget ∷ runs 0 own_budget ∷ runs 1 (spare_of 4) ∷ burns 1 ∷ nothing ∷ []) ≡ 1 ∷ 0 ∷ 0 ∷ 0 ∷ 0 ∷ []
  pub spare_tick : map (tick_by on_spare 1) (runs 1 (spare_of 4) ∷ runs 0 (spare_of 1) ∷ runs 1 own_budget ∷ burns 1 ∷ nothing ∷ []) ≡ 1 ∷ 0 ∷ 0 ∷ 0 ∷ 0 ∷ []
  -- guest 0 runs 8 ticks on spares and then on its own budget, a completion and an arrival among them
  pub counts :
      (borrowed_ticks 0 12 (advances 9 ∷ finishes 0 ∷ arrives 0 ∷ advances 1 ∷ []) sample ∷ own_ticks 0 12 (advances 9 ∷ finishes 0 ∷ arrives 0 ∷ advances 1 ∷ []) sample ∷ own_ticks 0 10 (advances 10 ∷ []) sample ∷ own_ticks 1 10 (advances 10 ∷ []) sample ∷ [])
      ≡ 8 ∷ 2 ∷ 2 ∷ 0 ∷ []

-- three rows, of which the second and the third hold
abbrev pub three_rows : List Row
three_rows = false gives 3 ∷ true gives 5 ∷ true gives 4 ∷ []

-- the other words
pub record WordsHeld : Type 0 where
  -- the rows by their places
  pub conditions : (condition_at 0 three_rows ∷ condition_at 1 three_rows ∷ condition_at 2 three_rows ∷ condition_at 3 three_rows ∷ []) ≡ false ∷ true ∷ true ∷ false ∷ []
  pub row-numbers : (number_at 0 three_rows ∷ number_at 1 three_rows ∷ number_at 2 three_rows ∷ number_at 3 three_rows ∷ []) ≡ 3 ∷ 5 ∷ 4 ∷ 0 ∷ []
  pub second-decides : Decides 1 three_rows
  pub first_does_not : Decides 0 three_rows → ⊥
  pub third_does_not : Decides 2 three_rows → ⊥
  -- numbers that rise from above 0, and some that do not
  pub rise : map (rises 0) ((1 ∷ 2 ∷ 4 ∷ []) ∷ (0 ∷ 1 ∷ []) ∷ (1 ∷ 1 ∷ []) ∷ (2 ∷ 1 ∷ []) ∷ []) ≡ true ∷ false ∷ false ∷ false ∷ []
  -- active, with budget left
  pub can_run_row : map can_run (of 0 0 9 ∷ of 1 0 9 ∷ of 1 1 9 ∷ of 2 2 9 ∷ []) ≡ false ∷ false ∷ true ∷ true ∷ []
  -- of two equal guests the lower one runs first, and the other does not
  pub runs_first : RunsFirst (of 1 1 11 ∷ of 1 2 11 ∷ []) 0
  pub not_first : RunsFirst (of 1 1 11 ∷ of 1 2 11 ∷ []) 1 → ⊥
  -- no spare by 4: none at all, one at 5, and not one at 4
  pub none_by : NoneBy 4 [] × NoneBy 4 (spare 5 0 1 ∷ []) × (NoneBy 4 (spare 4 0 1 ∷ []) → ⊥)
  -- a budget of 1 and a spare of 1 with deadline 11 are not overdue at tick 10, and are at tick 11
  pub ahead : NothingOverdue (at10 (of 1 1 11 ∷ []) (spare 11 0 1 ∷ []))
  pub budget_overdue : NothingOverdue (then 11 (of 1 1 11 ∷ []) [] 4 6) → ⊥
  pub spare_overdue : NothingOverdue (then 11 (of 0 0 11 ∷ []) (spare 11 0 1 ∷ []) 4 6) → ⊥
  -- a walk of 7 ticks that left 2 is an advance by 5; a refused one is refused as it was asked for
  pub walk_made : walk_call 7 (Ok (record { state = sample; left = 2; shown = 0; lines = [] })) ≡ advances 5
  pub walk_refused : walk_call 7 (Err EndOfTime) ≡ advances 7
  pub bits : (bit 0 6 ∷ bit 1 6 ∷ bit 2 6 ∷ bit 3 6 ∷ []) ≡ 0 ∷ 1 ∷ 1 ∷ 0 ∷ []
  pub active_ones : actives four ≡ guest 1 8 1 1 9 0 0 ∷ guest 1 8 3 1 9 0 0 ∷ []
