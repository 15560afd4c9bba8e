-- Rows that hold `Calls`: each number on both sides of its condition, the smaller of two, and whole outcomes of every call.
use Rattle.std.specs.Prelude.{◌≡◌, List, [], ◌∷◌, map, ℕ, pos, negsuc, ⊤, Ok, Err}
use Rattle.rules.specs.declared.State.{State}
use Rattle.rules.specs.declared.Refusal.TheVariants.{NotSound, NoSuchGuest, GuestIdle, EndOfTime, ShareTooLarge, NoRoom}
use Rattle.rules.specs.declared.Source.TheVariants.{Own, SpareOf}
use Rattle.rules.specs.declared.Portion.TheVariants.{Run, Burn, Nothing}
use Rattle.rules.specs.Table.{no_table}
use Rattle.rules.specs.Model.{guest, spare}
use Rattle.rules.specs.Steps.{own_budget, spare_of, runs, burns, nothing, limited, endless, portion}
use Rattle.rules.specs.Places.{packed, fresh_state, no_state}
use Rattle.rules.specs.Calls.{Call, arrives, finishes, advances, asks, asks_active, asks_margin, named, portion_of, number_given, state_after, run, Arrived, Finished, Advanced, AskedFor, nobody, ActiveTold, MarginTold, Freshened, TableChecked, NoTableMade, NoStateMade, NumberTold}
use Rattle.rules.specs.Samples.{◌by◌, running, resting, leftovers, sample_of, sample, with_first, with_count, lone, crowded}
use Rattle.rules.specs.HeldTable.{counted}
use Rattle.rules.specs.HeldSteps.{then}

-- the sample with 65 spares counted: not sound
unfoldable pub damaged : State
unfolding with_count
damaged = with_count 65

-- guest 0 idle, guest 1 active
unfoldable pub exchanged : State
unfolding packed
exchanged = packed (sample_of (guest 3 12 0 0 30 3 1 ∷ guest 4 8 5 4 28 2 1 ∷ []) leftovers)

-- the numbers that a call gives on some states
abbrev pub given : Call → List State → List ℕ
given c ss = map (number_given c) ss

-- "No. | Given exactly when", of the calls on a state
pub record GivenHeld : Type 0 where
  -- 1: "Every call on a state may give 1."
  pub every_call :
      map (λ (c : Call). number_given c damaged) (arrives 0 ∷ finishes 0 ∷ advances 0 ∷ asks ∷ asks_active ∷ asks_margin 0 ∷ []) ≡ 1 ∷ 1 ∷ 1 ∷ 1 ∷ 1 ∷ 1 ∷ []
  pub no_call :
      map (λ (c : Call). number_given c sample) (arrives 0 ∷ finishes 0 ∷ advances 0 ∷ asks ∷ asks_active ∷ asks_margin 0 ∷ []) ≡ 0 ∷ 0 ∷ 0 ∷ 0 ∷ 0 ∷ 0 ∷ []
  -- 2: "guest number is n or more"
  pub last_guest : map (λ (c : Call). number_given c exchanged) (arrives 1 ∷ finishes 1 ∷ asks_margin 1 ∷ []) ≡ 0 ∷ 0 ∷ 0 ∷ []
  pub past_guests : map (λ (c : Call). number_given c exchanged) (arrives 2 ∷ finishes 2 ∷ asks_margin 2 ∷ []) ≡ 2 ∷ 2 ∷ 2 ∷ []
  pub guest_16 : number_given (arrives 16) sample ≡ 2
  -- 3: "done for an idle guest"
  pub done_idle : (number_given (finishes 0) sample ∷ number_given (finishes 1) sample ∷ []) ≡ 0 ∷ 3 ∷ []
  -- 4: "arrive at a guest with 255 jobs"
  pub jobs : given (arrives 0) (with_first (guest 3 12 254 2 30 3 1) ∷ with_first (guest 3 12 255 2 30 3 1) ∷ []) ≡ 0 ∷ 4 ∷ []
  -- 5: "arrive at an idle guest, spares plus active guests = 64"; an active guest may get one more job
  pub room : given (arrives 0) (crowded 63 0 0 63 ∷ crowded 64 0 0 64 ∷ crowded 63 1 1 65 ∷ []) ≡ 0 ∷ 5 ∷ 0 ∷ []
  -- 6: "arrive at an idle guest, its new deadline would pass 2^44": 2^44 exactly, one more, and one more at an active guest
  pub far : given (arrives 0) (lone 0 0 0 17592186044415 ∷ lone 0 0 0 17592186044416 ∷ lone 0 1 1 17592186044416 ∷ []) ≡ 0 ∷ 6 ∷ 0 ∷ []
  -- 7: "now + k would pass 2^40"
  pub end_of_time :
      (number_given (advances 5) (lone 1099511627771 0 0 0) ∷ number_given (advances 6) (lone 1099511627771 0 0 0) ∷ number_given (advances 1099511627776) (lone 0 0 0 0) ∷ number_given (advances 1099511627777) (lone 0 0 0 0) ∷ [])
      ≡ 0 ∷ 7 ∷ 0 ∷ 7 ∷ []
  -- "Where several apply, the smallest number is given.": 1 beside each other number, and 5 beside 6
  pub one_and_two : map (λ (c : Call). number_given c damaged) (arrives 2 ∷ finishes 2 ∷ asks_margin 2 ∷ []) ≡ 1 ∷ 1 ∷ 1 ∷ []
  pub one_and_three : number_given (finishes 1) damaged ≡ 1
  pub one_and_four : number_given (arrives 0) (with_first (guest 3 12 255 4 30 3 1)) ≡ 1
  pub one_and_five : number_given (arrives 0) (crowded 64 0 1 64) ≡ 1
  pub one_and_six : number_given (arrives 0) (lone 0 0 1 17592186044416) ≡ 1
  pub one_and_seven : number_given (advances 1099511627777) damaged ≡ 1
  pub five_and_six : number_given (arrives 0) (crowded 64 0 0 17592186044416) ≡ 5

-- each call's whole outcome, accepted and refused
pub record OutcomesHeld : Type 0 where
  pub arrive : Arrived sample 1 (Ok (packed (then 10 (running ∷ guest 4 8 1 4 28 2 1 ∷ []) leftovers 1 2)))
  pub arrive-refused : Arrived sample 2 (Err NoSuchGuest)
  pub done : Finished sample 0 (Ok (packed (then 10 (guest 3 12 1 2 30 3 1 ∷ resting ∷ []) leftovers 1 2)))
  pub done-second : Finished exchanged 1 (Ok (packed (then 10 (guest 3 12 0 0 30 3 1 ∷ guest 4 8 4 4 28 2 1 ∷ []) leftovers 1 2)))
  pub done_refused : Finished sample 1 (Err GuestIdle)
  -- 4 ticks on the first spare and 1 on the second
  pub advance : Advanced sample 5 (Ok (packed (then 15 (guest 3 12 2 2 30 3 6 ∷ resting ∷ []) (spare 24 0 3 ∷ []) 1 2)))
  -- up to the end of time, and not past it
  pub advance_to_the_end : Advanced (lone 1099511627771 0 0 0) 5 (Ok (lone 1099511627776 0 0 0))
  pub advance-refused : Advanced (lone 1099511627776 0 0 0) 1 (Err EndOfTime)
  pub ask : AskedFor sample (Ok (Run 0 (SpareOf 1) 16 4))
  pub ask_own : AskedFor (lone 0 1 1 5) (Ok (Run 0 Own 5 1))
  pub ask_burns : AskedFor (with_first (guest 3 12 0 0 30 3 1)) (Ok (Burn 1 16 4))
  pub ask_rests : AskedFor (lone 0 0 0 5) (Ok Nothing)
  pub ask-refused : AskedFor damaged (Err NotSound)
  pub active : ActiveTold exchanged (Ok (record { mask = 2; actives = 1 }))
  pub nobody_row : nobody ≡ record { mask = 0; actives = 0 }
  pub active-refused : ActiveTold damaged (Err NotSound)
  pub margin : MarginTold sample 0 (Ok (pos 20))
  pub margin-second : MarginTold sample 1 (Ok (pos 10))
  pub margin_at : MarginTold (lone 7 0 0 7) 0 (Ok (pos 0))
  pub margin_below : MarginTold (lone 10 0 0 7) 0 (Ok (negsuc 2))
  pub margin-refused : MarginTold sample 2 (Err NoSuchGuest)
  pub fresh : Freshened (counted 8 1 (3 by 4 ∷ [])) (Ok (fresh_state (counted 8 1 (3 by 4 ∷ []))))
  pub fresh_refused : Freshened (counted 8 2 (3 by 4 ∷ 3 by 8 ∷ [])) (Err ShareTooLarge)
  pub check : TableChecked (counted 8 1 (3 by 4 ∷ [])) (Ok tt)
  pub check_refused : TableChecked (counted 8 2 (3 by 4 ∷ 3 by 8 ∷ [])) (Err ShareTooLarge)
  pub no_table_row : NoTableMade no_table
  pub no_state_row : NoStateMade no_state
  pub number : NumberTold {A = ⊤} (Err NoRoom) 5
  pub number_of_0 : NumberTold {A = ⊤} (Ok tt) 0

-- what each case of Ask's answer says, and one call after the other
pub record AnswersHeld : Type 0 where
  pub own : portion_of (Run 1 Own 2 3) ≡ portion (runs 1 own_budget) 2 (limited 3)
  pub spare_of_row : portion_of (Run 1 (SpareOf 4) 2 3) ≡ portion (runs 1 (spare_of 4)) 2 (limited 3)
  pub spare_burns : portion_of (Burn 1 2 3) ≡ portion (burns 1) 2 (limited 3)
  pub rests : portion_of Nothing ≡ portion nothing 0 endless
  pub who : named sample 1 ≡ resting
  -- "Ask changes nothing", and so the other questions
  pub unchanged : map (λ (c : Call). state_after c sample) (asks ∷ asks_active ∷ asks_margin 1 ∷ []) ≡ sample ∷ sample ∷ sample ∷ []
  pub to_the_end : state_after (advances 5) (lone 1099511627771 0 0 0) ≡ lone 1099511627776 0 0 0
  -- calls one after the other, refused ones among them
  pub one_by_one :
      run (arrives 1 ∷ arrives 2 ∷ asks ∷ finishes 1 ∷ advances 2 ∷ finishes 1 ∷ []) sample
      ≡ packed (then 12 (guest 3 12 2 2 30 3 3 ∷ guest 4 8 0 0 28 2 1 ∷ []) (spare 16 1 2 ∷ spare 20 1 1 ∷ spare 24 0 3 ∷ spare 28 1 4 ∷ []) 1 2)
