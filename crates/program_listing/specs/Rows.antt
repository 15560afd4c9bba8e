-- The turns of the program, row by row. Every number here is written out.
use Rattle.std.specs.Prelude.{◌≡◌, true, false, List, [], ◌∷◌, ◌++◌, ℕ, ◌≤◌, ◌<◌, length, replicate}
use Rattle.rules.specs.declared.Entry.{Entry}
use Rattle.rules.specs.declared.Table.{Table}
use Rattle.rules.specs.declared.State.{State}
use Rattle.program_text.specs.Script.{says, refuses, said_by}
use Rattle.program_listing.specs.declared.Stage.{Stage}
use Rattle.program_listing.specs.declared.Stage.TheVariants.{Frames, Guests, Commands, Over}
use Rattle.program_listing.specs.declared.Held.{Held}
use Rattle.program_listing.specs.Listing.{framed, with_guest}
use Rattle.program_listing.specs.Turning.{line_length, line_at, behind, Turn, turn, put_of, frame_line, turn_in, turn_of, turn_room, Turning, at_first, Begun, GoingTold, to_go, put_out, held_after}

-- ---- how a row is written

-- the table's frame and its count of guests, the tick, and the ticks that are left
abbrev pub numbers : Held → List ℕ
numbers h = h.table.frame ∷ h.table.count ∷ h.state.now ∷ h.left ∷ []

-- a turn's bytes, and of what it holds next the place, the stage and those numbers
pub data Shown : Type 0 where
  shows : (bytes : List ℕ) → (at : ℕ) → (stage : Stage) → (numbers : List ℕ) → Shown

abbrev pub shown : Turn → Shown
shown (turn bytes h) = shows bytes h.at h.stage (numbers h)

-- the turn behind n others from the beginning
abbrev pub turn_after : ℕ → List ℕ → Turn
turn_after n input = turn_of input (held_after n input at_first)

-- `F 1`, `G 1 1`, `A 0`, `R 65`, `D 0`
abbrev pub program : List ℕ
program = (70 ∷ 32 ∷ 49 ∷ 10 ∷ []) ++ (71 ∷ 32 ∷ 49 ∷ 32 ∷ 49 ∷ 10 ∷ []) ++ (65 ∷ 32 ∷ 48 ∷ 10 ∷ []) ++ (82 ∷ 32 ∷ 54 ∷ 53 ∷ 10 ∷ []) ++ (68 ∷ 32 ∷ 48 ∷ 10 ∷ [])

-- a guest's place
abbrev pub entry : ℕ → ℕ → Entry
entry budget period = record { budget = budget; period = period }

abbrev pub no_guest : Entry
no_guest = entry 0 0

-- all zeros
abbrev pub empty_table : Table
empty_table = record { frame = 0; count = 0; entries = replicate 16 no_guest }

abbrev pub empty_state : State
empty_state =
    record {
      table = empty_table;
      now = 0;
      guests = replicate 16 (record { jobs = 0; current = 0; deadline = 0; own = 0; borrowed = 0 });
      listed = 0;
      spares = replicate 64 (record { deadline = 0; owner = 0; capacity = 0 });
      burned = 0;
      empty = 0;
    }

-- what is held once a first line is refused
abbrev pub stopped : Held
stopped = record { at = 0; stage = Over; table = empty_table; state = empty_state; left = 0 }

-- ---- the rows

-- the line that comes next, with its line feed or without, and the end of the input
pub record LineComesNext : Type 0 where
  pub length : line_length (70 ∷ 32 ∷ 56 ∷ 10 ∷ 71 ∷ []) ≡ 4
  pub length_open : line_length (70 ∷ 32 ∷ 56 ∷ []) ≡ 3
  pub length_nothing : line_length [] ≡ 0
  pub length_beside : line_length (70 ∷ 9 ∷ 11 ∷ 10 ∷ []) ≡ 4
  pub guest : said_by (line_at program 4) ≡ says 71 (1 ∷ 1 ∷ [])
  pub last : said_by (line_at program 19) ≡ says 68 (0 ∷ [])
  pub end : said_by (line_at program 23) ≡ refuses 16
  pub behind_guest : behind program 4 ≡ 10
  pub behind_end : behind program 23 ≡ 23

-- the turns of that program, one after the other, and what each puts out and holds next
pub record TurnsHold : Type 0 where
  pub frame : shown (turn_after 0 program) ≡ shows [] 4 Guests (1 ∷ 0 ∷ 0 ∷ 0 ∷ [])
  pub guest : shown (turn_after 1 program) ≡ shows [] 10 Guests (1 ∷ 1 ∷ 0 ∷ 0 ∷ [])
  -- the table is checked before the line is looked at
  pub check : shown (turn_after 2 program) ≡ shows [] 10 Commands (1 ∷ 1 ∷ 0 ∷ 0 ∷ [])
  pub arrive : shown (turn_after 3 program) ≡ shows [] 14 Commands (1 ∷ 1 ∷ 0 ∷ 0 ∷ [])
  -- the `R` of 65 ticks: 64 portions, 685 bytes, and then the tick that is left
  pub advance : length (put_of (turn_after 4 program)) ≡ 685
  pub rest : shown (turn_after 5 program) ≡ shows (54 ∷ 52 ∷ 32 ∷ 54 ∷ 53 ∷ 32 ∷ 48 ∷ 32 ∷ 48 ∷ 111 ∷ 10 ∷ []) 19 Commands (1 ∷ 1 ∷ 65 ∷ 0 ∷ [])
  pub done : shown (turn_after 6 program) ≡ shows [] 23 Commands (1 ∷ 1 ∷ 65 ∷ 0 ∷ [])
  pub end : shown (turn_after 7 program) ≡ shows (101 ∷ 110 ∷ 100 ∷ 32 ∷ 54 ∷ 53 ∷ 10 ∷ []) 23 Over (1 ∷ 1 ∷ 65 ∷ 0 ∷ [])
  pub over : shown (turn_after 8 program) ≡ shows [] 23 Over (1 ∷ 1 ∷ 65 ∷ 0 ∷ [])
  pub put_out : length (put_out 9 program at_first) ≡ 703

-- turns that stop the program, and those that are refused and go on
pub record TurnsStop : Type 0 where
  -- in place of the `F` line, no line or another one
  pub no_input : shown (turn_after 0 []) ≡ shows (33 ∷ 32 ∷ 49 ∷ 54 ∷ 10 ∷ []) 0 Over (0 ∷ 0 ∷ 0 ∷ 0 ∷ [])
  pub guest_first : shown (turn_after 0 (71 ∷ 32 ∷ 51 ∷ 32 ∷ 52 ∷ 10 ∷ [])) ≡ shows (33 ∷ 32 ∷ 49 ∷ 54 ∷ 10 ∷ []) 0 Over (0 ∷ 0 ∷ 0 ∷ 0 ∷ [])
  pub arrive_first : shown (turn_after 0 (65 ∷ 32 ∷ 48 ∷ 10 ∷ [])) ≡ shows (33 ∷ 32 ∷ 49 ∷ 54 ∷ 10 ∷ []) 0 Over (0 ∷ 0 ∷ 0 ∷ 0 ∷ [])
  pub done_first : shown (turn_after 0 (68 ∷ 32 ∷ 48 ∷ 10 ∷ [])) ≡ shows (33 ∷ 32 ∷ 49 ∷ 54 ∷ 10 ∷ []) 0 Over (0 ∷ 0 ∷ 0 ∷ 0 ∷ [])
  pub advance_first : shown (turn_after 0 (82 ∷ 32 ∷ 48 ∷ 10 ∷ [])) ≡ shows (33 ∷ 32 ∷ 49 ∷ 54 ∷ 10 ∷ []) 0 Over (0 ∷ 0 ∷ 0 ∷ 0 ∷ [])
  pub malformed_first : shown (turn_after 0 (88 ∷ 10 ∷ [])) ≡ shows (33 ∷ 32 ∷ 49 ∷ 54 ∷ 10 ∷ []) 0 Over (0 ∷ 0 ∷ 0 ∷ 0 ∷ [])
  -- behind the `G` lines every other line has the table checked: a good one, and one that is refused
  pub check_frame : shown (turn_after 2 ((70 ∷ 32 ∷ 56 ∷ 10 ∷ []) ++ (71 ∷ 32 ∷ 51 ∷ 32 ∷ 52 ∷ 10 ∷ []) ++ (70 ∷ 32 ∷ 56 ∷ 10 ∷ []))) ≡ shows [] 10 Commands (8 ∷ 1 ∷ 0 ∷ 0 ∷ [])
  pub check_done : shown (turn_after 2 ((70 ∷ 32 ∷ 56 ∷ 10 ∷ []) ++ (71 ∷ 32 ∷ 51 ∷ 32 ∷ 52 ∷ 10 ∷ []) ++ (68 ∷ 32 ∷ 48 ∷ 10 ∷ []))) ≡ shows [] 10 Commands (8 ∷ 1 ∷ 0 ∷ 0 ∷ [])
  pub check_advance : shown (turn_after 2 ((70 ∷ 32 ∷ 56 ∷ 10 ∷ []) ++ (71 ∷ 32 ∷ 51 ∷ 32 ∷ 52 ∷ 10 ∷ []) ++ (82 ∷ 32 ∷ 49 ∷ 10 ∷ []))) ≡ shows [] 10 Commands (8 ∷ 1 ∷ 0 ∷ 0 ∷ [])
  pub check_malformed : shown (turn_after 2 ((70 ∷ 32 ∷ 56 ∷ 10 ∷ []) ++ (71 ∷ 32 ∷ 51 ∷ 32 ∷ 52 ∷ 10 ∷ []) ++ (88 ∷ 10 ∷ []))) ≡ shows [] 10 Commands (8 ∷ 1 ∷ 0 ∷ 0 ∷ [])
  pub check_end : shown (turn_after 2 ((70 ∷ 32 ∷ 56 ∷ 10 ∷ []) ++ (71 ∷ 32 ∷ 51 ∷ 32 ∷ 52 ∷ 10 ∷ []))) ≡ shows [] 10 Commands (8 ∷ 1 ∷ 0 ∷ 0 ∷ [])
  pub check_refused : shown (turn_after 1 ((70 ∷ 32 ∷ 56 ∷ 10 ∷ []) ++ (65 ∷ 32 ∷ 48 ∷ 10 ∷ []))) ≡ shows (33 ∷ 32 ∷ 49 ∷ 48 ∷ 10 ∷ []) 4 Over (8 ∷ 0 ∷ 0 ∷ 0 ∷ [])
  -- among the commands, another line
  pub frame_later : shown (turn_after 3 ((70 ∷ 32 ∷ 56 ∷ 10 ∷ []) ++ (71 ∷ 32 ∷ 51 ∷ 32 ∷ 52 ∷ 10 ∷ []) ++ (70 ∷ 32 ∷ 56 ∷ 10 ∷ []))) ≡ shows (33 ∷ 32 ∷ 49 ∷ 54 ∷ 10 ∷ []) 10 Over (8 ∷ 1 ∷ 0 ∷ 0 ∷ [])
  pub guest_later : shown (turn_after 4 ((70 ∷ 32 ∷ 56 ∷ 10 ∷ []) ++ (71 ∷ 32 ∷ 51 ∷ 32 ∷ 52 ∷ 10 ∷ []) ++ (65 ∷ 32 ∷ 48 ∷ 10 ∷ []) ++ (71 ∷ 32 ∷ 50 ∷ 32 ∷ 56 ∷ 10 ∷ []))) ≡ shows (33 ∷ 32 ∷ 49 ∷ 54 ∷ 10 ∷ []) 14 Over (8 ∷ 1 ∷ 0 ∷ 0 ∷ [])
  pub malformed_later : shown (turn_after 3 ((70 ∷ 32 ∷ 56 ∷ 10 ∷ []) ++ (71 ∷ 32 ∷ 51 ∷ 32 ∷ 52 ∷ 10 ∷ []) ++ (88 ∷ 10 ∷ []))) ≡ shows (33 ∷ 32 ∷ 49 ∷ 54 ∷ 10 ∷ []) 10 Over (8 ∷ 1 ∷ 0 ∷ 0 ∷ [])
  -- a refused call goes on
  pub arrive_refused : shown (turn_after 3 ((70 ∷ 32 ∷ 56 ∷ 10 ∷ []) ++ (71 ∷ 32 ∷ 51 ∷ 32 ∷ 52 ∷ 10 ∷ []) ++ (65 ∷ 32 ∷ 49 ∷ 10 ∷ []))) ≡ shows (33 ∷ 32 ∷ 50 ∷ 10 ∷ []) 14 Commands (8 ∷ 1 ∷ 0 ∷ 0 ∷ [])
  pub done_refused : shown (turn_after 3 ((70 ∷ 32 ∷ 56 ∷ 10 ∷ []) ++ (71 ∷ 32 ∷ 51 ∷ 32 ∷ 52 ∷ 10 ∷ []) ++ (68 ∷ 32 ∷ 48 ∷ 10 ∷ []))) ≡ shows (33 ∷ 32 ∷ 51 ∷ 10 ∷ []) 14 Commands (8 ∷ 1 ∷ 0 ∷ 0 ∷ [])
  pub advance_refused : shown (turn_after 3 ((70 ∷ 32 ∷ 56 ∷ 10 ∷ []) ++ (71 ∷ 32 ∷ 51 ∷ 32 ∷ 52 ∷ 10 ∷ []) ++ (82 ∷ 32 ∷ 49 ∷ 48 ∷ 57 ∷ 57 ∷ 53 ∷ 49 ∷ 49 ∷ 54 ∷ 50 ∷ 55 ∷ 55 ∷ 55 ∷ 55 ∷ 10 ∷ []))) ≡ shows (33 ∷ 32 ∷ 55 ∷ 10 ∷ []) 26 Commands (8 ∷ 1 ∷ 0 ∷ 0 ∷ [])

-- the table that the lines make: each guest in the next place, and those past the places counted as one
pub record TablesHold : Type 0 where
  pub no_guest_yet : framed 8 ≡ record { frame = 8; count = 0; entries = replicate 16 no_guest }
  pub first_guest : with_guest (entry 3 4) (framed 8) ≡ record { frame = 8; count = 1; entries = entry 3 4 ∷ replicate 15 no_guest }
  pub second_guest : with_guest (entry 2 8) (with_guest (entry 3 4) (framed 8)) ≡ record { frame = 8; count = 2; entries = entry 3 4 ∷ entry 2 8 ∷ replicate 14 no_guest }
  pub seventeenth : with_guest (entry 2 8) (record { frame = 8; count = 16; entries = replicate 16 (entry 1 1) }) ≡ record { frame = 8; count = 17; entries = replicate 16 (entry 1 1) }
  pub eighteenth : with_guest (entry 2 8) (record { frame = 8; count = 17; entries = replicate 16 (entry 1 1) }) ≡ record { frame = 8; count = 17; entries = replicate 16 (entry 1 1) }

-- "at most 65,536 bytes", for every input
pub record TurnBound : Type 0 where
  pub taken : (input : List ℕ) (h : Held) → length input ≤ 65536 → turn_in Frames input h ≡ frame_line (line_at input h.at) (behind input h.at) h
  pub refused : (input : List ℕ) (h : Held) → 65536 < length input → shown (turn_in Frames input h) ≡ shows (33 ∷ 32 ∷ 49 ∷ 54 ∷ 10 ∷ []) h.at Over (numbers h)

-- a turn in a lent buffer: what is held next, how many bytes count, and the whole content
pub record TurnsPut : Type 0 where
  pub room : turn_room ≡ 5440
  -- with just room, at the front and behind 6,000 bytes
  pub whole : Turning [] at_first (replicate 5440 7) 0 (33 ∷ 32 ∷ 49 ∷ 54 ∷ 10 ∷ replicate 5435 7) (record { held = stopped; filled = 5 })
  pub behind : Turning [] at_first (replicate 11440 7) 6000 (replicate 6000 7 ++ (33 ∷ 32 ∷ 49 ∷ 54 ∷ 10 ∷ []) ++ replicate 5435 7) (record { held = stopped; filled = 6005 })
  -- with one byte less nothing happens
  pub kept : Turning [] at_first (replicate 5439 7) 0 (replicate 5439 7) (record { held = at_first; filled = 0 })
  pub kept_behind : Turning [] at_first (replicate 11439 7) 6000 (replicate 11439 7) (record { held = at_first; filled = 6000 })

-- the stages: what is held at first, whether more is to come, and what is to go
pub record StagesHold : Type 0 where
  pub first : Begun (record { at = 0; stage = Frames; table = empty_table; state = empty_state; left = 0 })
  pub frames : GoingTold Frames true
  pub guests : GoingTold Guests true
  pub commands : GoingTold Commands true
  pub over : GoingTold Over false
  pub to_go_frames : to_go (70 ∷ 32 ∷ 56 ∷ 10 ∷ []) at_first ≡ 20890720927763
  pub to_go_guests : to_go program (held_after 2 program at_first) ≡ 59373627899958
  pub to_go_commands : to_go program (held_after 5 program at_first) ≡ 18691697672210
  pub to_go_over : to_go program (held_after 8 program at_first) ≡ 0
