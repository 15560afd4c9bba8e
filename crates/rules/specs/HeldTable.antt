-- Rows that hold `Refusals` and `Table`: both sides of each bound, and of two refusals the smaller one.
use Rattle.std.specs.Prelude.{◌≡◌, true, false, List, [], ◌∷◌, map, ℕ, length, set, ⊤, Ok, Err}
use Rattle.rules.specs.declared.Entry.{Entry}
use Rattle.rules.specs.declared.Table.{Table}
use Rattle.rules.specs.declared.Refusal.TheVariants.{NotSound, NoSuchGuest, GuestIdle, JobsFull, NoRoom, DeadlineTooFar, EndOfTime, ImageLength, UnknownEdition, GuestCount, WrongOffset, FrameRange, BadGuest, ShareTooLarge, BufferShort, Malformed}
use Rattle.rules.specs.Refusals.{◌gives◌, first, numbers, holds, outside, refusal_number, number_of}
use Rattle.rules.specs.Table.{share_of, entries_of, shares_of, table_rows, good_table, no_table}
use Rattle.rules.specs.Samples.{◌by◌, table}

-- the number that the check of a table gives
abbrev pub refused : Table → ℕ
refused t = first (table_rows t)

-- sixteen places, one by one
abbrev pub sixteen : Entry → List Entry
sixteen e = e ∷ e ∷ e ∷ e ∷ e ∷ e ∷ e ∷ e ∷ e ∷ e ∷ e ∷ e ∷ e ∷ e ∷ e ∷ e ∷ []

-- a table with this count, these entries in its first places and zeros in the others
abbrev pub counted : ℕ → ℕ → List Entry → Table
counted H n es = record { frame = H; count = n; entries = (table H es).entries }

-- a table of these guests, with an entry in the last place, which nobody uses
abbrev pub last_place : ℕ → List Entry → Entry → Table
last_place H es e = record { frame = H; count = length es; entries = set (table H es).entries 15 e }

-- "Numbers of refusal"
pub record RefusalsHeld : Type 0 where
  -- the numbers of the table, in its order
  pub named :
      map refusal_number
      (NotSound ∷ NoSuchGuest ∷ GuestIdle ∷ JobsFull ∷ NoRoom ∷ DeadlineTooFar ∷ EndOfTime ∷ ImageLength ∷ UnknownEdition ∷ GuestCount ∷ WrongOffset ∷ FrameRange ∷ BadGuest ∷ ShareTooLarge ∷ BufferShort ∷ Malformed ∷ [])
      ≡ 1 ∷ 2 ∷ 3 ∷ 4 ∷ 5 ∷ 6 ∷ 7 ∷ 8 ∷ 9 ∷ 10 ∷ 11 ∷ 12 ∷ 13 ∷ 14 ∷ 15 ∷ 16 ∷ []
  -- "0 or the refusal number"
  pub answered : (number_of {A = ⊤} (Ok tt) ∷ number_of {A = ⊤} (Err NoRoom) ∷ []) ≡ 0 ∷ 5 ∷ []
  -- "Where several apply, the smallest number is given."
  pub smallest : first (false gives 3 ∷ true gives 5 ∷ true gives 6 ∷ []) ≡ 5
  pub none_given : first (false gives 3 ∷ false gives 5 ∷ []) ≡ 0
  pub may_be_given : numbers (false gives 3 ∷ true gives 5 ∷ []) ≡ 3 ∷ 5 ∷ []
  -- whether a number's own condition holds
  pub conditions :
      (holds 3 (false gives 3 ∷ true gives 5 ∷ []) ∷ holds 5 (false gives 3 ∷ true gives 5 ∷ []) ∷ holds 6 (false gives 3 ∷ true gives 5 ∷ []) ∷ [])
      ≡ false ∷ true ∷ false ∷ []
  pub bounds : (outside 2 4 1 ∷ outside 2 4 2 ∷ outside 2 4 4 ∷ outside 2 4 5 ∷ []) ≡ true ∷ false ∷ false ∷ true ∷ []

-- "Quantities and bounds", of a table
pub record TableHeld : Type 0 where
  -- "n guests, 1 to 16": 0, 1, 16 and 17
  pub no_guest : refused (counted 8 0 []) ≡ 10
  pub one_guest : refused (counted 8 1 (1 by 8 ∷ [])) ≡ 0
  pub sixteen-guests : refused (record { frame = 16; count = 16; entries = sixteen (1 by 16) }) ≡ 0
  pub seventeen_guests : refused (record { frame = 16; count = 17; entries = sixteen (1 by 16) }) ≡ 10
  -- "a frame H, 1 to 1,000,000"
  pub no_frame : refused (counted 0 1 (1 by 1 ∷ [])) ≡ 12
  pub shortest_frame : refused (counted 1 1 (1 by 1 ∷ [])) ≡ 0
  pub longest_frame : refused (counted 1000000 1 (1 by 1 ∷ [])) ≡ 0
  pub frame_too_long : refused (counted 1000001 1 (1 by 1 ∷ [])) ≡ 12
  -- "1 ≤ Q ≤ T"
  pub no_budget : refused (counted 8 1 (0 by 4 ∷ [])) ≡ 13
  pub least_budget : refused (counted 8 1 (1 by 4 ∷ [])) ≡ 0
  pub whole_period : refused (counted 8 1 (4 by 4 ∷ [])) ≡ 0
  pub past_period : refused (counted 8 1 (5 by 4 ∷ [])) ≡ 13
  -- "T dividing H", of the last guest too
  pub divisor : refused (counted 8 1 (1 by 8 ∷ [])) ≡ 0
  pub no_divisor : refused (counted 8 1 (1 by 7 ∷ [])) ≡ 13
  pub no_period : refused (counted 8 1 (0 by 0 ∷ [])) ≡ 13
  pub second_guest : refused (counted 8 2 (1 by 8 ∷ 1 by 7 ∷ [])) ≡ 13
  -- "an unused place of the table is not zero"
  pub unused_budget : refused (last_place 8 (1 by 8 ∷ []) (1 by 0)) ≡ 13
  pub unused_period : refused (last_place 8 (1 by 8 ∷ []) (0 by 8)) ≡ 13
  pub unused_zero : refused (last_place 8 (1 by 8 ∷ []) (0 by 0)) ≡ 0
  -- "The sum over guests of Q × (H / T) is at most H."
  pub share : (share_of 24 (3 by 8) ∷ share_of 24 (5 by 24) ∷ []) ≡ 9 ∷ 5 ∷ []
  pub whole_share : refused (counted 24 2 (5 by 8 ∷ 9 by 24 ∷ [])) ≡ 0
  pub share_of_one_more : refused (counted 24 2 (5 by 8 ∷ 10 by 24 ∷ [])) ≡ 14
  pub shares : shares_of (counted 24 2 (5 by 8 ∷ 10 by 24 ∷ [])) ≡ 25
  -- only the places in use count
  pub used : entries_of (counted 24 2 (5 by 8 ∷ 10 by 24 ∷ 1 by 2 ∷ [])) ≡ 5 by 8 ∷ 10 by 24 ∷ []
  -- "Where several apply, the smallest number is given.": each two that can hold at once
  pub ten_and_twelve : refused (counted 0 0 []) ≡ 10
  pub ten_and_thirteen : refused (counted 8 0 (1 by 8 ∷ [])) ≡ 10
  pub ten_and_fourteen : refused (record { frame = 15; count = 17; entries = sixteen (1 by 15) }) ≡ 10
  pub twelve_and_thirteen : refused (counted 0 1 (0 by 1 ∷ [])) ≡ 12
  pub twelve_and_fourteen : refused (counted 1000001 2 (1 by 1 ∷ 1 by 1 ∷ [])) ≡ 12
  pub thirteen_and_fourteen : refused (counted 8 2 (5 by 4 ∷ 1 by 8 ∷ [])) ≡ 13
  -- 13 for an unused place beside 14
  pub unused_and_fourteen : refused (last_place 8 (9 by 8 ∷ []) (1 by 0)) ≡ 13
  -- a table that no number refuses, and one for each of 10, 12, 13, 14
  pub accepted :
      map good_table
      (counted 8 1 (1 by 8 ∷ []) ∷ counted 8 0 [] ∷ counted 0 1 (1 by 1 ∷ []) ∷ counted 8 1 (1 by 7 ∷ []) ∷ counted 8 1 (9 by 8 ∷ []) ∷ counted 24 2 (5 by 8 ∷ 10 by 24 ∷ []) ∷ [])
      ≡ true ∷ false ∷ false ∷ false ∷ false ∷ false ∷ []
  -- "a refused table .. is all zeros"
  pub zeros : no_table ≡ record { frame = 0; count = 0; entries = sixteen (0 by 0) }
