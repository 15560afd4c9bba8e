-- One turn of the program: what it puts out, what it holds next, and what the turns put out one after the other.
use Rattle.std.specs.Prelude.{◌≡◌, Bool, true, false, cond, List, [], ◌∷◌, ◌++◌, map, ℕ, zero, suc, ◌+◌, ◌-◌, ◌*◌, ◌≤◌, ◌<◌, ltb, leb, eqb, length, take, drop}
use Rattle.std.proofs.lemmas.List.Edits.{sets}
use Rattle.rules.specs.declared.Table.{Table}
use Rattle.rules.specs.declared.State.{State}
use Rattle.rules.specs.Limits.{line_places, last_tick}
use Rattle.rules.specs.Refusals.{first}
use Rattle.rules.specs.Table.{table_rows, no_table}
use Rattle.rules.specs.Places.{fresh_state, no_state}
use Rattle.rules.specs.Calls.{Call, arrives, finishes, advances, number_given, state_after}
use Rattle.rules.specs.Walks.{line_place, walk_lines, walk_state, walk_left}
use Rattle.program_text.specs.declared.Call.{Call as LineCall}
use Rattle.program_text.specs.declared.Call.TheVariants.{Arrive, Done, Advance}
use Rattle.program_text.specs.declared.Line.{Line}
use Rattle.program_text.specs.Script.{malformed, line_of}
use Rattle.program_text.specs.Lines.{refusal_bytes, end_bytes, line_room, has_room}
use Rattle.program_listing.specs.declared.Stage.{Stage}
use Rattle.program_listing.specs.declared.Stage.TheVariants.{Frames, Guests, Commands, Over}
use Rattle.program_listing.specs.declared.Held.{Held}
use Rattle.program_listing.specs.declared.Turned.{Turned}
use Rattle.program_listing.specs.Listing.{frame_in, guest_in, command_in, given, refusal_in, portions_bytes, framed, with_guest, most_input, listing_of}

-- ---- the line that comes next

-- how many bytes the first line has, its line feed with it
unfoldable pub line_length : List ℕ → ℕ
line_length [] = 0
line_length (b ∷ bs) = cond (eqb b 10) 1 (suc (line_length bs))

-- what the line at a place asks for
unfoldable pub line_at : List ℕ → ℕ → Line
unfolding line_length
line_at input at = let rest = drop at input in line_of (take (line_length rest) rest)

-- the place behind it
unfoldable pub behind : List ℕ → ℕ → ℕ
unfolding line_length
behind input at = at + line_length (drop at input)

-- ---- one turn

-- the bytes that a turn puts out, and what it holds next
pub data Turn : Type 0 where
  turn : (bytes : List ℕ) → (held : Held) → Turn

abbrev pub put_of : Turn → List ℕ
put_of (turn bytes held) = bytes

abbrev pub held_of : Turn → Held
held_of (turn bytes held) = held

-- nothing comes any more
abbrev pub over : Held → Held
over h = record { at = h.at; stage = Over; table = h.table; state = h.state; left = h.left }

-- "print `! number` and stop the program"
abbrev pub stops : ℕ → Held → Turn
stops n h = turn (refusal_bytes n) (over h)

-- `G` lines may come next: the place of the next one, and the table so far
abbrev pub with_table : ℕ → Table → State → Held
with_table at table state = record { at = at; stage = Guests; table = table; state = state; left = 0 }

-- the `F` line
abbrev pub frame_line : Line → ℕ → Held → Turn
frame_line l end h = given (frame_in l) (λ f. turn [] (with_table end (framed f) h.state)) (stops malformed h)

-- commands come next: the place of the next one, the table, the state, and the ticks that are left
abbrev pub going_on : ℕ → Table → State → ℕ → Held
going_on at table state left = record { at = at; stage = Commands; table = table; state = state; left = left }

-- the check of the table, before the line is looked at
abbrev pub checks : ℕ → Held → Turn
checks zero h = turn [] (going_on h.at h.table (fresh_state h.table) 0)
checks (suc n) h = stops (suc n) h

-- a `G` line, or the first line that is none
abbrev pub guest_line : Line → ℕ → Held → Turn
guest_line l end h =
    given (guest_in l) (λ guest. turn [] (with_table end (with_guest guest h.table) h.state)) (checks (first (table_rows h.table)) h)

-- an arrival or a completion
abbrev pub calls : Call → ℕ → Held → Turn
calls c end h = turn (refusal_in (number_given c h.state)) (going_on end h.table (state_after c h.state) 0)

-- some portions of k ticks: those of one walk
abbrev pub walks : ℕ → ℕ → Held → Turn
walks k end h =
    turn (refusal_in (number_given (advances k) h.state) ++ portions_bytes (map line_place (walk_lines k h.state)))
    (going_on end h.table (walk_state k h.state) (walk_left k h.state))

-- the call that a line names: an advance may take several turns
abbrev pub carries_out : LineCall → ℕ → Held → Turn
carries_out (Arrive i) end h = calls (arrives i) end h
carries_out (Done i) end h = calls (finishes i) end h
carries_out (Advance k) end h = walks k end h

-- a command
abbrev pub command_line : Line → ℕ → Held → Turn
command_line l end h = given (command_in l) (λ c. carries_out c end h) (stops malformed h)

-- "The last line is `end` and the tick."
abbrev pub ends : Held → Turn
ends h = turn (end_bytes h.state.now) (over h)

-- the ticks that an `R` has left come before the next line, and behind the last line comes the end
abbrev pub command_turn : List ℕ → Held → Turn
command_turn input h =
    cond (ltb 0 h.left) (walks h.left h.at h)
    (cond (leb (length input) h.at) (ends h) (command_line (line_at input h.at) (behind input h.at) h))

-- a turn in each stage
abbrev pub turn_in : Stage → List ℕ → Held → Turn
turn_in Frames input h = cond (ltb most_input (length input)) (stops malformed h) (frame_line (line_at input h.at) (behind input h.at) h)
turn_in Guests input h = guest_line (line_at input h.at) (behind input h.at) h
turn_in Commands input h = command_turn input h
turn_in Over input h = turn [] h

unfoldable pub turn_of : List ℕ → Held → Turn
unfolding line_at behind
turn_of input h = turn_in h.stage input h

-- ---- in a lent buffer

-- a turn puts out at most a walk's portions
abbrev pub turn_room : ℕ
turn_room = line_places * line_room

-- a turn of the code: what is held next, how many bytes the buffer holds then, and its whole content; without room nothing happens
pub record Turning (input : List ℕ) (h : Held) (buffer : List ℕ) (filled : ℕ) (after : List ℕ) (r : Turned) : Type 0 where
  pub held : r.held ≡ cond (has_room turn_room (length buffer) filled) (held_of (turn_of input h)) h
  pub holds : r.filled ≡ cond (has_room turn_room (length buffer) filled) (filled + length (put_of (turn_of input h))) filled
  pub content : after ≡ cond (has_room turn_room (length buffer) filled) (sets buffer filled (put_of (turn_of input h))) buffer
  pub short : r.filled ≤ filled + turn_room

-- what the program holds at first
abbrev pub at_first : Held
at_first = record { at = 0; stage = Frames; table = no_table; state = no_state; left = 0 }

pub record Begun (r : Held) : Type 0 where
  pub held : r ≡ at_first

-- whether more is to come
abbrev pub goes_on : Stage → Bool
goes_on Frames = true
goes_on Guests = true
goes_on Commands = true
goes_on Over = false

pub record GoingTold (stage : Stage) (r : Bool) : Type 0 where
  pub answer : r ≡ goes_on stage

-- any two outcomes that the predicates allow are equal
pub record OneOutcome : Type 0 where
  pub begin : (r r' : Held) → Begun r → Begun r' → r ≡ r'
  pub going : (stage : Stage) (r r' : Bool) → GoingTold stage r → GoingTold stage r' → r ≡ r'
  pub turn :
      (input : List ℕ) (h : Held) (buffer : List ℕ) (filled : ℕ) (after after' : List ℕ) (r r' : Turned)
      → Turning input h buffer filled after r → Turning input h buffer filled after' r' → (after ≡ after') × (r ≡ r')

-- ---- a number that falls

-- the stages that are still to come
abbrev pub stages_left : Stage → ℕ
stages_left Frames = 3
stages_left Guests = 2
stages_left Commands = 1
stages_left Over = 0

-- the bytes of the input that are left, then the stages, then the ticks that an `R` has left, no more than time has
abbrev pub to_go : List ℕ → Held → ℕ
to_go input h = (4 * (length input - h.at) + stages_left h.stage) * suc last_tick + h.left

-- with each turn, while more is to come
abbrev pub TurnFalls : Type 0
TurnFalls = (input : List ℕ) (h : Held) → goes_on h.stage ≡ true → to_go input (held_of (turn_of input h)) < to_go input h

-- ---- turn after turn

-- what n turns put out, one after the other
unfoldable pub put_out : ℕ → List ℕ → Held → List ℕ
unfolding turn_of
put_out zero input h = []
put_out (suc n) input h = put_of (turn_of input h) ++ put_out n input (held_of (turn_of input h))

-- what is held after them
unfoldable pub held_after : ℕ → List ℕ → Held → Held
unfolding turn_of
held_after zero input h = h
held_after (suc n) input h = held_after n input (held_of (turn_of input h))

-- once the program is over, its turns have put out the listing of the input
abbrev pub TurnsAreListing : Type 0
TurnsAreListing = (input : List ℕ) (n : ℕ) → goes_on (held_after n input at_first).stage ≡ false → put_out n input at_first ≡ listing_of input

-- and it is over after so many turns
abbrev pub TurnsEnd : Type 0
TurnsEnd = (input : List ℕ) (n : ℕ) → to_go input at_first ≤ n → goes_on (held_after n input at_first).stage ≡ false
