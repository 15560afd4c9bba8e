-- Rows that hold `Model`, `Steps` and `Places`: every rule on written-out numbers.
use Rattle.std.specs.Prelude.{◌≡◌, true, false, List, [], ◌∷◌, map, ℕ, pos, negsuc, replicate}
use Rattle.rules.specs.Model.{Guest, guest, Spare, spare, Model, budget_of, jobs_of, current_of, deadline_of, own_of, borrowed_of, tallies_of, due_of, owner_of, capacity_of, active, idle_guest, guest_at, spare_at, mask_of, active_count, occupied, tallies}
use Rattle.rules.specs.Steps.{wake, join, arrive, before, insert_spare, finish, leave, done, renew, renewed, nobody, picked, ready, sooner, earliest, own_budget, spare_of, runs, burns, nothing, limited, endless, portion, use_of, span_of, portion_for, spend, ran, charge, tick, advance, ask, margin}
use Rattle.rules.specs.Places.{model, fresh_state, no_state}
use Rattle.rules.specs.Samples.{◌by◌, running, resting, leftovers, sample_of, sample_model, sample}
use Rattle.rules.specs.HeldTable.{sixteen, counted}
use Rattle.rules.specs.HeldSound.{place, listed}

-- guests 0 to 3: idle, active, active, idle
abbrev pub four : List Guest
four = guest 1 8 0 0 5 0 0 ∷ guest 1 8 1 1 9 0 0 ∷ guest 1 8 3 1 9 0 0 ∷ guest 1 8 0 0 7 0 0 ∷ []

-- the same guest with other jobs, c and d
abbrev pub of : ℕ → ℕ → ℕ → Guest
of jobs c d = guest 3 12 jobs c d 7 8

-- a model of these guests and spares at tick 10
abbrev pub at10 : List Guest → List Spare → Model
at10 gs ss = record { frame = 24; now = 10; guests = gs; spares = ss; burned = 4; empty = 5 }

-- the same at another tick, with other tallies of the processor
abbrev pub then : ℕ → List Guest → List Spare → ℕ → ℕ → Model
then now gs ss burned empty = record { frame = 24; now = now; guests = gs; spares = ss; burned = burned; empty = empty }

-- what a guest and a spare are made of
pub record ModelHeld : Type 0 where
  pub guest_numbers :
      (let g = guest 1 2 3 4 5 6 7 in budget_of g ∷ jobs_of g ∷ current_of g ∷ deadline_of g ∷ own_of g ∷ borrowed_of g ∷ tallies_of g ∷ [])
      ≡ 1 ∷ 3 ∷ 4 ∷ 5 ∷ 6 ∷ 7 ∷ 13 ∷ []
  pub spare_numbers : (let x = spare 1 2 3 in due_of x ∷ owner_of x ∷ capacity_of x ∷ []) ≡ 1 ∷ 2 ∷ 3 ∷ []
  -- "waiting jobs 0 to 255 (above 0 is active, 0 is idle)"
  pub actives : map active (of 0 0 9 ∷ of 1 0 9 ∷ of 2 1 9 ∷ []) ≡ false ∷ true ∷ true ∷ []
  pub idles : map idle_guest (of 0 0 9 ∷ of 1 0 9 ∷ []) ≡ true ∷ false ∷ []
  -- by their numbers, "numbered from 0"
  pub guest_0 : guest_at 0 sample_model.guests ≡ running
  pub guest_1 : guest_at 1 sample_model.guests ≡ resting
  pub no_guest : guest_at 2 sample_model.guests ≡ guest 0 0 0 0 0 0 0
  pub spare_0 : spare_at 0 leftovers ≡ spare 16 1 4
  pub no_spare : spare_at 3 leftovers ≡ spare 0 0 0
  -- "a mask, bit i for guest i, and the number of active guests": one and the same guests
  pub mask : mask_of four ≡ 6
  pub count : active_count four ≡ 2
  pub last_bit : mask_of (running ∷ resting ∷ resting ∷ running ∷ []) ≡ 9
  -- "spares plus active guests"
  pub places : occupied sample_model ≡ 4
  -- "All tallies together"
  pub sum : tallies sample_model ≡ 10

-- "Arrive (rules 4 and 5)." and "Done (rule 9)."
pub record ArriveDoneHeld : Type 0 where
  -- "d = the larger of now and its old d, plus T": the old d behind now, at now, ahead
  pub wake-behind : wake 10 (of 0 0 9) ≡ of 1 3 22
  pub wake_at : wake 10 (of 0 0 10) ≡ of 1 3 22
  pub wake_ahead : wake 10 (of 0 0 11) ≡ of 1 3 23
  pub join_idle : join 10 (of 0 0 11) ≡ of 1 3 23
  pub join-behind : join 10 (of 0 0 9) ≡ of 1 3 22
  -- "An active guest gets one more waiting job; nothing else changes."
  pub join-active : join 10 (of 1 2 11) ≡ of 2 2 11
  pub join_several : join 10 (of 7 0 9) ≡ of 8 0 9
  -- of the guest that is named, and nobody else
  pub arrive-second : arrive 1 sample_model ≡ then 10 (running ∷ guest 4 8 1 4 28 2 1 ∷ []) leftovers 1 2
  pub arrive-first : arrive 0 sample_model ≡ then 10 (guest 3 12 3 2 30 3 1 ∷ resting ∷ []) leftovers 1 2
  -- "One waiting job fewer .. If jobs remain, c and d stay."
  pub finish_several : finish (of 3 2 11) ≡ of 2 2 11
  pub finish-two : finish (of 2 2 11) ≡ of 1 2 11
  -- "If none remain .. c becomes 0"
  pub finish_last : finish (of 1 2 11) ≡ of 0 0 11
  pub finish_idle : finish (of 0 0 11) ≡ of 0 0 11
  pub finish_idle_left : finish (of 0 2 11) ≡ of 0 2 11
  -- "If none remain, a c above 0 becomes a spare with the guest's d .. With c = 0 no spare is made."
  pub leave_several : leave 0 (of 2 2 11) [] ≡ []
  pub leave_last : leave 5 (of 1 2 11) [] ≡ spare 11 5 2 ∷ []
  pub leave_one : leave 5 (of 1 1 11) [] ≡ spare 11 5 1 ∷ []
  pub leave_nothing : leave 5 (of 1 0 11) [] ≡ []
  pub leave_idle : leave 5 (of 0 0 11) [] ≡ []
  -- "strictly rising order of (deadline, owner)"
  pub earlier : (before (spare 4 2 1) (spare 5 1 1) ∷ before (spare 5 1 1) (spare 4 2 1) ∷ []) ≡ true ∷ false ∷ []
  pub lower : (before (spare 5 1 2) (spare 5 2 1) ∷ before (spare 5 2 1) (spare 5 1 2) ∷ before (spare 5 2 1) (spare 5 2 2) ∷ []) ≡ true ∷ false ∷ false ∷ []
  pub inserted_first : insert_spare (spare 15 1 2) leftovers ≡ spare 15 1 2 ∷ spare 16 1 4 ∷ spare 20 1 1 ∷ spare 24 0 3 ∷ []
  pub inserted_between : insert_spare (spare 20 0 2) leftovers ≡ spare 16 1 4 ∷ spare 20 0 2 ∷ spare 20 1 1 ∷ spare 24 0 3 ∷ []
  pub inserted_behind : insert_spare (spare 20 2 2) leftovers ≡ spare 16 1 4 ∷ spare 20 1 1 ∷ spare 20 2 2 ∷ spare 24 0 3 ∷ []
  pub inserted_last : insert_spare (spare 30 0 2) leftovers ≡ spare 16 1 4 ∷ spare 20 1 1 ∷ spare 24 0 3 ∷ spare 30 0 2 ∷ []
  -- a done with several jobs leaves no spare; the last one leaves it, and c is 0 in the same state
  pub done_several : done 0 sample_model ≡ then 10 (guest 3 12 1 2 30 3 1 ∷ resting ∷ []) leftovers 1 2
  pub done_last : done 0 (done 0 sample_model) ≡ then 10 (guest 3 12 0 0 30 3 1 ∷ resting ∷ []) (spare 16 1 4 ∷ spare 20 1 1 ∷ spare 24 0 3 ∷ spare 30 0 2 ∷ []) 1 2

-- "One tick (rules 6, 7, 8, 10)"
pub record TickHeld : Type 0 where
  -- step 1, "Each active guest with c = 0 gets c = Q and d + T."
  pub renew_spent : renew (of 2 0 11) ≡ of 2 3 23
  pub renew-left : renew (of 2 1 11) ≡ of 2 1 11
  pub renew_idle : renew (of 0 0 11) ≡ of 0 0 11
  pub renew_idle_left : renew (of 0 2 11) ≡ of 0 2 11
  pub renew_each : renewed (at10 (of 0 0 11 ∷ of 1 0 11 ∷ of 1 1 11 ∷ of 1 0 13 ∷ []) []) ≡ at10 (of 0 0 11 ∷ of 1 3 23 ∷ of 1 1 11 ∷ of 1 3 25 ∷ []) []
  -- step 2, "The active guest with the smallest d runs; equal deadlines, the lowest number."
  pub is_ready : ready 4 (of 2 1 11) ≡ picked 4 11 1
  pub is_idle : ready 4 (of 0 0 11) ≡ nobody
  pub smallest : earliest 0 (of 1 1 12 ∷ of 1 2 11 ∷ of 1 3 13 ∷ []) ≡ picked 1 11 2
  pub lowest : earliest 0 (of 0 0 5 ∷ of 1 1 11 ∷ of 1 2 11 ∷ []) ≡ picked 1 11 1
  pub last : earliest 0 (of 1 1 12 ∷ of 0 0 1 ∷ of 1 2 11 ∷ []) ≡ picked 2 11 2
  pub from : earliest 3 (of 0 0 5 ∷ of 1 1 11 ∷ []) ≡ picked 4 11 1
  pub none_ready : earliest 0 (of 0 0 5 ∷ of 0 0 6 ∷ []) ≡ nobody
  pub first_alone : sooner (picked 1 11 2) nobody ≡ picked 1 11 2
  pub second-alone : sooner nobody (picked 1 11 2) ≡ picked 1 11 2
  -- step 3, "If the first spare has a deadline at most that d": behind it, at it, past it, and none
  pub spare_before : portion_for (picked 1 11 2) (spare 10 3 4 ∷ spare 11 0 1 ∷ []) ≡ portion (runs 1 (spare_of 3)) 10 (limited 4)
  pub spare_at_row : portion_for (picked 1 11 2) (spare 11 3 4 ∷ []) ≡ portion (runs 1 (spare_of 3)) 11 (limited 4)
  pub spare_past : portion_for (picked 1 11 2) (spare 12 3 4 ∷ []) ≡ portion (runs 1 own_budget) 11 (limited 2)
  pub no_spare : portion_for (picked 1 11 2) [] ≡ portion (runs 1 own_budget) 11 (limited 2)
  -- step 4, "If no guest is active, the first spare, if any"
  pub spare_burns : portion_for nobody (spare 12 3 4 ∷ spare 13 0 1 ∷ []) ≡ portion (burns 3) 12 (limited 4)
  pub rests : portion_for nobody [] ≡ portion nothing 0 endless
  -- the parts of a portion
  pub use_part : use_of (portion (runs 1 (spare_of 3)) 10 (limited 4)) ≡ runs 1 (spare_of 3)
  pub span_part : span_of (portion (runs 1 (spare_of 3)) 10 (limited 4)) ≡ limited 4
  -- "it loses 1 and a spare at 0 is removed"
  pub spend_one : spend 1 (spare 12 3 4 ∷ spare 13 0 1 ∷ []) ≡ spare 12 3 3 ∷ spare 13 0 1 ∷ []
  pub spend-two : spend 1 (spare 12 3 2 ∷ []) ≡ spare 12 3 1 ∷ []
  pub spend_last : spend 1 (spare 12 3 1 ∷ spare 13 0 1 ∷ []) ≡ spare 13 0 1 ∷ []
  pub spend_none : spend 1 [] ≡ []
  pub spend_empty : spend 1 (spare 12 3 0 ∷ spare 13 0 1 ∷ []) ≡ spare 13 0 1 ∷ []
  -- and of several ticks at once
  pub spend_several : spend 3 (spare 12 3 4 ∷ spare 13 0 1 ∷ []) ≡ spare 12 3 1 ∷ spare 13 0 1 ∷ []
  pub spend_all : spend 4 (spare 12 3 4 ∷ spare 13 0 1 ∷ []) ≡ spare 13 0 1 ∷ []
  -- "otherwise the guest's c loses 1", and each of the four tallies
  pub on_own : ran 1 0 (guest 3 12 2 2 30 3 1) ≡ guest 3 12 2 1 30 4 1
  pub on_spare : ran 0 1 (guest 3 12 2 2 30 3 1) ≡ guest 3 12 2 2 30 3 2
  pub on_both : ran 2 5 (guest 3 12 2 3 30 3 1) ≡ guest 3 12 2 1 30 5 6
  -- several ticks that use the same
  pub charge_own : charge 2 (runs 1 own_budget) (at10 (of 0 0 5 ∷ of 1 3 11 ∷ []) (spare 12 0 2 ∷ [])) ≡ then 12 (of 0 0 5 ∷ guest 3 12 1 1 11 9 8 ∷ []) (spare 12 0 2 ∷ []) 4 5
  pub charge_spare : charge 2 (runs 1 (spare_of 0)) (at10 (of 0 0 5 ∷ of 1 3 11 ∷ []) (spare 11 0 3 ∷ [])) ≡ then 12 (of 0 0 5 ∷ guest 3 12 1 3 11 7 10 ∷ []) (spare 11 0 1 ∷ []) 4 5
  pub charge_burns : charge 2 (burns 0) (at10 (of 0 0 5 ∷ []) (spare 11 0 3 ∷ [])) ≡ then 12 (of 0 0 5 ∷ []) (spare 11 0 1 ∷ []) 6 5
  pub charge_nothing : charge 2 nothing (at10 (of 0 0 5 ∷ []) []) ≡ then 12 (of 0 0 5 ∷ []) [] 4 7
  pub tick_own : tick (at10 (of 0 0 5 ∷ of 1 2 11 ∷ []) (spare 12 0 2 ∷ [])) ≡ then 11 (of 0 0 5 ∷ guest 3 12 1 1 11 8 8 ∷ []) (spare 12 0 2 ∷ []) 4 5
  pub tick_spare : tick (at10 (of 0 0 5 ∷ of 1 2 11 ∷ []) (spare 11 0 2 ∷ [])) ≡ then 11 (of 0 0 5 ∷ guest 3 12 1 2 11 7 9 ∷ []) (spare 11 0 1 ∷ []) 4 5
  pub tick_last_of_spare : tick (at10 (of 0 0 5 ∷ of 1 2 11 ∷ []) (spare 11 0 1 ∷ [])) ≡ then 11 (of 0 0 5 ∷ guest 3 12 1 2 11 7 9 ∷ []) [] 4 5
  pub tick_burns : tick (at10 (of 0 0 5 ∷ []) (spare 11 0 2 ∷ [])) ≡ then 11 (of 0 0 5 ∷ []) (spare 11 0 1 ∷ []) 5 5
  pub tick_rests : tick (at10 (of 0 0 5 ∷ []) []) ≡ then 11 (of 0 0 5 ∷ []) [] 4 6
  -- a spent budget is renewed at the start of the next tick, and not before
  pub tick_spends : tick (at10 (of 1 1 11 ∷ []) []) ≡ then 11 (guest 3 12 1 0 11 8 8 ∷ []) [] 4 5
  pub tick_renews : tick (at10 (of 1 0 11 ∷ []) []) ≡ then 11 (guest 3 12 1 2 23 8 8 ∷ []) [] 4 5
  -- the renewed deadline decides who runs
  pub renewed-first : tick (at10 (of 1 0 11 ∷ of 1 1 22 ∷ []) []) ≡ then 11 (of 1 3 23 ∷ guest 3 12 1 0 22 8 8 ∷ []) [] 4 5
  -- "Advance by k is k single ticks."
  pub advance_0 : advance 0 (at10 (of 1 1 11 ∷ []) []) ≡ at10 (of 1 1 11 ∷ []) []
  pub advance_3 : advance 3 (at10 (of 1 1 11 ∷ []) []) ≡ then 13 (guest 3 12 1 1 23 10 8 ∷ []) [] 4 5

-- Ask and Margin
pub record AskHeld : Type 0 where
  -- "tells what the next tick would do, after its step 1"
  pub ask_own : ask (at10 (of 1 2 11 ∷ []) []) ≡ portion (runs 0 own_budget) 11 (limited 2)
  pub ask-renewed : ask (at10 (of 1 0 11 ∷ []) []) ≡ portion (runs 0 own_budget) 23 (limited 3)
  pub ask_spare : ask (at10 (of 0 0 5 ∷ of 1 0 11 ∷ []) (spare 23 0 2 ∷ [])) ≡ portion (runs 1 (spare_of 0)) 23 (limited 2)
  pub ask_burns : ask (at10 (of 0 0 5 ∷ []) (spare 23 0 2 ∷ [])) ≡ portion (burns 0) 23 (limited 2)
  pub ask_rests : ask (at10 (of 0 0 5 ∷ []) []) ≡ portion nothing 0 endless
  -- "its deadline less the present tick; it is below zero for an idle guest whose deadline has passed"
  pub margin_above : margin 1 (at10 (of 0 0 5 ∷ of 1 1 13 ∷ []) []) ≡ pos 3
  pub margin_at : margin 1 (at10 (of 0 0 5 ∷ of 1 1 10 ∷ []) []) ≡ pos 0
  pub margin_below : margin 0 (at10 (of 0 0 5 ∷ of 1 1 13 ∷ []) []) ≡ negsuc 4
  -- the stored d: no renewal is made for it
  pub margin_stored : margin 0 (at10 (of 1 0 11 ∷ []) []) ≡ pos 1

-- what stands where in a state
pub record PlacesHeld : Type 0 where
  pub in_places :
      sample
      ≡ record {
        table = record { frame = 24; count = 2; entries = 3 by 12 ∷ 4 by 8 ∷ replicate 14 (0 by 0) };
        now = 10;
        guests = place 2 2 30 3 1 ∷ place 0 0 20 2 1 ∷ replicate 14 (place 0 0 0 0 0);
        listed = 3;
        spares = listed 16 1 4 ∷ listed 20 1 1 ∷ listed 24 0 3 ∷ replicate 61 (listed 0 0 0);
        burned = 1;
        empty = 2;
      }
  pub back : model sample ≡ sample_model
  -- only the places in use count
  pub in_use :
      model
      (record {
        table = record { frame = 24; count = 1; entries = 3 by 12 ∷ 4 by 8 ∷ replicate 14 (0 by 0) };
        now = 10;
        guests = place 2 2 30 3 1 ∷ place 0 0 20 2 1 ∷ replicate 14 (place 0 0 0 0 0);
        listed = 2;
        spares = listed 16 1 4 ∷ listed 20 1 1 ∷ listed 24 0 3 ∷ replicate 61 (listed 0 0 0);
        burned = 1;
        empty = 2;
      })
      ≡ sample_of (running ∷ []) (spare 16 1 4 ∷ spare 20 1 1 ∷ [])
  -- "it has tick 0 and every other changing number 0"
  pub fresh :
      fresh_state (counted 24 1 (3 by 12 ∷ []))
      ≡ record {
        table = counted 24 1 (3 by 12 ∷ []);
        now = 0;
        guests = replicate 16 (place 0 0 0 0 0);
        listed = 0;
        spares = replicate 64 (listed 0 0 0);
        burned = 0;
        empty = 0;
      }
  -- "a refused .. fresh state is all zeros"
  pub zeros :
      no_state
      ≡ record {
        table = record { frame = 0; count = 0; entries = sixteen (0 by 0) };
        now = 0;
        guests = replicate 16 (place 0 0 0 0 0);
        listed = 0;
        spares = replicate 64 (listed 0 0 0);
        burned = 0;
        empty = 0;
      }
