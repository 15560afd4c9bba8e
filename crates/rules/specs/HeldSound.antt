-- Rows that hold `Sound`, point by point: a state that breaks just that point, and its nearest neighbour that keeps it.
use Rattle.std.specs.Prelude.{◌≡◌, Bool, true, false, List, [], ◌∷◌, map, ℕ}
use Rattle.rules.specs.declared.Guest.{Guest as GuestPlace}
use Rattle.rules.specs.declared.Spare.{Spare as SparePlace}
use Rattle.rules.specs.declared.State.{State}
use Rattle.rules.specs.Model.{guest, spare}
use Rattle.rules.specs.Sound.{sound}
use Rattle.rules.specs.Samples.{◌by◌, sample, with_first, with_second, with_spares, with_idle, with_last_guest, with_last_spare, with_count, with_table, lone, crowded, overcounted, left_at}
use Rattle.rules.specs.HeldTable.{counted, last_place, sixteen}

-- a guest's place
abbrev pub place : ℕ → ℕ → ℕ → ℕ → ℕ → GuestPlace
place jobs left deadline own borrowed = record { jobs = jobs; current = left; deadline = deadline; own = own; borrowed = borrowed }

-- a spare's place
abbrev pub listed : ℕ → ℕ → ℕ → SparePlace
listed deadline owner capacity = record { deadline = deadline; owner = owner; capacity = capacity }

-- which of the states are sound
abbrev pub sounds : List State → List Bool
sounds ss = map sound ss

pub record SoundHeld : Type 0 where
  -- the sample keeps every point
  pub kept : sound sample ≡ true
  -- "Time is a whole number of ticks (10 microseconds), 0 to 2^40."
  pub tick : sounds (lone 0 0 0 0 ∷ lone 1099511627776 0 0 0 ∷ lone 1099511627777 0 0 0 ∷ []) ≡ true ∷ true ∷ false ∷ []
  -- the table: as it is; n = 0 and 17; H = 0; Q = 0, Q = T + 1, a T that does not divide H, an unused place; a share of H and of H + 1
  pub good_table_lem : sound (with_table (counted 24 2 (4 by 12 ∷ 4 by 8 ∷ []))) ≡ true
  pub guests : sounds (with_table (counted 24 0 []) ∷ with_table (record { frame = 24; count = 17; entries = sixteen (1 by 24) }) ∷ []) ≡ false ∷ false ∷ []
  pub frame : sounds (with_table (counted 24 2 (3 by 12 ∷ 4 by 8 ∷ [])) ∷ with_table (counted 1000008 2 (3 by 12 ∷ 4 by 8 ∷ [])) ∷ []) ≡ true ∷ false ∷ []
  pub budget : sound (with_table (counted 24 2 (13 by 12 ∷ 4 by 8 ∷ []))) ≡ false
  pub divisor : sound (with_table (counted 24 2 (3 by 13 ∷ 4 by 8 ∷ []))) ≡ false
  pub share : sounds (with_table (counted 24 2 (6 by 12 ∷ 4 by 8 ∷ [])) ∷ with_table (counted 24 2 (7 by 12 ∷ 4 by 8 ∷ [])) ∷ []) ≡ true ∷ false ∷ []
  -- "waiting jobs 0 to 255"
  pub jobs : sounds (with_first (guest 3 12 255 2 30 3 1) ∷ with_first (guest 3 12 256 2 30 3 1) ∷ []) ≡ true ∷ false ∷ []
  -- "a current budget c from 0 to Q"
  pub current : sounds (with_first (guest 3 12 2 0 30 3 1) ∷ with_first (guest 3 12 2 3 30 3 1) ∷ with_first (guest 3 12 2 4 30 3 1) ∷ []) ≡ true ∷ true ∷ false ∷ []
  -- "An idle guest has c = 0."
  pub idle : sounds (with_second (guest 4 8 0 0 20 2 1) ∷ with_second (guest 4 8 0 1 20 2 1) ∷ []) ≡ true ∷ false ∷ []
  -- "At most 64 spares."
  pub spares : sounds (crowded 64 0 0 64 ∷ overcounted ∷ []) ≡ true ∷ false ∷ []
  -- "an owner (a guest number below n)"
  pub owner : sounds (with_spares (spare 16 1 1 ∷ []) ∷ with_spares (spare 16 2 1 ∷ []) ∷ []) ≡ true ∷ false ∷ []
  -- "a capacity from 1 to the owner's Q"
  pub capacity :
      sounds (with_spares (spare 16 1 0 ∷ []) ∷ with_spares (spare 16 1 1 ∷ []) ∷ with_spares (spare 16 1 4 ∷ []) ∷ with_spares (spare 16 1 5 ∷ []) ∷ [])
      ≡ false ∷ true ∷ true ∷ false ∷ []
  pub first_owner : sounds (with_spares (spare 16 0 3 ∷ []) ∷ with_spares (spare 16 0 4 ∷ []) ∷ []) ≡ true ∷ false ∷ []
  -- "All tallies together add up to the present tick.": each of the four one too many, and one too few
  pub own : sounds (with_first (guest 3 12 2 2 30 4 1) ∷ with_first (guest 3 12 2 2 30 2 1) ∷ []) ≡ false ∷ false ∷ []
  pub borrowed : sounds (with_second (guest 4 8 0 0 20 2 2) ∷ with_second (guest 4 8 0 0 20 2 0) ∷ []) ≡ false ∷ false ∷ []
  pub burned : sounds (with_idle 1 2 ∷ with_idle 2 2 ∷ with_idle 0 2 ∷ []) ≡ true ∷ false ∷ false ∷ []
  pub nothing : sounds (with_idle 1 3 ∷ with_idle 1 1 ∷ with_idle 0 3 ∷ []) ≡ false ∷ false ∷ true ∷ []
  pub moved : sounds (with_first (guest 3 12 2 2 30 1 3) ∷ with_first (guest 3 12 2 2 30 4 0) ∷ []) ≡ true ∷ true ∷ []
  -- "spares stand in strictly rising order of (deadline, owner)"
  pub rising-deadline : sounds (with_spares (spare 15 1 1 ∷ spare 16 1 1 ∷ []) ∷ with_spares (spare 16 1 1 ∷ spare 15 1 1 ∷ []) ∷ []) ≡ true ∷ false ∷ []
  pub rising_owner : sounds (with_spares (spare 16 0 1 ∷ spare 16 1 1 ∷ []) ∷ with_spares (spare 16 1 1 ∷ spare 16 0 1 ∷ []) ∷ []) ≡ true ∷ false ∷ []
  pub strictly : sound (with_spares (spare 16 1 1 ∷ spare 16 1 1 ∷ [])) ≡ false
  pub rising_last : sounds (with_spares (spare 15 1 1 ∷ spare 16 1 1 ∷ spare 17 0 1 ∷ []) ∷ with_spares (spare 15 1 1 ∷ spare 16 1 1 ∷ spare 16 0 1 ∷ []) ∷ []) ≡ true ∷ false ∷ []
  -- "spares plus active guests are at most 64"
  pub room : sounds (crowded 63 1 1 65 ∷ crowded 64 1 1 65 ∷ []) ≡ true ∷ false ∷ []
  -- "every deadline is at most 2^44 + now × 2^20", at ticks 0, 1 and 10; a spare's is at most its owner's
  pub bound_at_0 : sounds (lone 0 0 0 17592186044416 ∷ lone 0 0 0 17592186044417 ∷ []) ≡ true ∷ false ∷ []
  pub bound_of_spare : sounds (left_at 17592186044416 ∷ left_at 17592186044417 ∷ []) ≡ true ∷ false ∷ []
  pub bound_at_1 : sounds (lone 1 1 1 17592187092992 ∷ lone 1 1 1 17592187092993 ∷ []) ≡ true ∷ false ∷ []
  pub bound_at_10 : sounds (lone 10 0 0 17592196530176 ∷ lone 10 0 0 17592196530177 ∷ []) ≡ true ∷ false ∷ []
  -- "a spare's deadline is at most its owner's d, and below it where the owner is active"
  pub idle_owner : sounds (with_spares (spare 20 1 1 ∷ []) ∷ with_spares (spare 21 1 1 ∷ []) ∷ []) ≡ true ∷ false ∷ []
  pub active_owner : sounds (with_spares (spare 29 0 1 ∷ []) ∷ with_spares (spare 30 0 1 ∷ []) ∷ []) ≡ true ∷ false ∷ []
  -- "unused guest places and spare places are all zero": each number of a place
  pub unused_guest :
      sounds
      (with_last_guest (place 0 0 0 0 0) ∷ with_last_guest (place 1 0 0 0 0) ∷ with_last_guest (place 0 1 0 0 0) ∷ with_last_guest (place 0 0 1 0 0) ∷ with_last_guest (place 0 0 0 1 0) ∷ with_last_guest (place 0 0 0 0 1) ∷ [])
      ≡ true ∷ false ∷ false ∷ false ∷ false ∷ false ∷ []
  pub unused_spare :
      sounds (with_last_spare (listed 0 0 0) ∷ with_last_spare (listed 1 0 0) ∷ with_last_spare (listed 0 1 0) ∷ with_last_spare (listed 0 0 1) ∷ [])
      ≡ true ∷ false ∷ false ∷ false ∷ []
  pub unused_entry :
      sounds
      (with_table (last_place 24 (3 by 12 ∷ 4 by 8 ∷ []) (0 by 0)) ∷ with_table (last_place 24 (3 by 12 ∷ 4 by 8 ∷ []) (1 by 0)) ∷ with_table (last_place 24 (3 by 12 ∷ 4 by 8 ∷ []) (0 by 1)) ∷ [])
      ≡ true ∷ false ∷ false ∷ []
  -- a spare behind those in use, and one that is in use and not counted
  pub uncounted : sounds (with_count 2 ∷ with_count 4 ∷ []) ≡ false ∷ false ∷ []
