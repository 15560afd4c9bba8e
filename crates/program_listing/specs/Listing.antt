-- "The program and its listing": the whole output as one definition over the bytes of the input, in the order of the checks.
use Rattle.std.specs.Prelude.{cond, List, [], ◌∷◌, ◌++◌, map, ℕ, zero, suc, min, ltb, eqb, length, set, replicate}
use Rattle.std.proofs.Math.Option.{Option, none, some}
use Rattle.rules.specs.declared.Entry.{Entry}
use Rattle.rules.specs.declared.Table.{Table}
use Rattle.rules.specs.declared.State.{State}
use Rattle.rules.specs.declared.Line.{Line as LinePlace}
use Rattle.rules.specs.Limits.{guest_places}
use Rattle.rules.specs.Refusals.{first}
use Rattle.rules.specs.Table.{table_rows, no_entry}
use Rattle.rules.specs.Places.{fresh_state}
use Rattle.rules.specs.Calls.{Call, arrives, finishes, advances, number_given, state_after}
use Rattle.rules.specs.Lines.{lines_of}
use Rattle.rules.specs.Walks.{line_place}
use Rattle.program_text.specs.declared.Call.{Call as LineCall}
use Rattle.program_text.specs.declared.Call.TheVariants.{Arrive, Done, Advance}
use Rattle.program_text.specs.declared.Line.{Line}
use Rattle.program_text.specs.declared.Line.TheVariants.{Frame, Guest, Command, Malformed}
use Rattle.program_text.specs.Script.{malformed, line_of}
use Rattle.program_text.specs.Lines.{portion_bytes, refusal_bytes, end_bytes}

-- ---- the lines of the input

-- a byte in front of the first line
abbrev pub onto : ℕ → List (List ℕ) → List (List ℕ)
onto b [] = (b ∷ []) ∷ []
onto b (l ∷ ls) = (b ∷ l) ∷ ls

-- each line with its line feed; the last one may lack it
unfoldable pub lines_in : List ℕ → List (List ℕ)
lines_in [] = []
lines_in (b ∷ bs) = cond (eqb b 10) ((b ∷ []) ∷ lines_in bs) (onto b (lines_in bs))

-- what they ask for
unfoldable pub asked : List ℕ → List Line
unfolding lines_in
asked input = map line_of (lines_in input)

-- ---- the line that may stand in a place

-- "`F h` is the first line": its frame, or none of another line
abbrev pub frame_in : Line → Option ℕ
frame_in (Frame h) = some h
frame_in (Guest q t) = none
frame_in (Command c) = none
frame_in Malformed = none

-- "`G q t` lines follow": its guest
abbrev pub guest_in : Line → Option Entry
guest_in (Guest q t) = some (record { budget = q; period = t })
guest_in (Frame h) = none
guest_in (Command c) = none
guest_in Malformed = none

-- "then any of `A i` (arrive), `D i` (done), `R k` (advance)": its call
abbrev pub command_in : Line → Option LineCall
command_in (Command c) = some c
command_in (Frame h) = none
command_in (Guest q t) = none
command_in Malformed = none

-- f of what the line gives, or x where it may not stand there
abbrev pub given : {A B : Type 0} → Option A → (A → B) → B → B
given (some a) f x = f a
given none f x = x

-- the call of the library that a line names
abbrev pub call_of : LineCall → Call
call_of (Arrive i) = arrives i
call_of (Done i) = finishes i
call_of (Advance k) = advances k

-- ---- what a call prints

-- "2 to 7 print `! number` and the program goes on"; a call that is not refused prints no number
abbrev pub refusal_in : ℕ → List ℕ
refusal_in zero = []
refusal_in (suc n) = refusal_bytes (suc n)

-- "`R` prints one line per portion"
abbrev pub portions_bytes : List LinePlace → List ℕ
portions_bytes [] = []
portions_bytes (p ∷ ps) = portion_bytes p ++ portions_bytes ps

-- a refusal has no portions, and only an advance has some
unfoldable pub printed : Call → State → List ℕ
printed c s = refusal_in (number_given c s) ++ portions_bytes (map line_place (lines_of c s))

-- ---- "any of `A i` (arrive), `D i` (done), `R k` (advance)"

-- each line on the state that the last one left; "The last line is `end` and the tick."; another line is 16, which stops the program: "A
-- stopped program prints no `end` line", and "lines before a malformed one are carried out first"
unfoldable pub commands : State → List Line → List ℕ
unfolding printed
commands s [] = end_bytes s.now
commands s (l ∷ ls) = given (command_in l) (λ c. printed (call_of c) s ++ commands (state_after (call_of c) s) ls) (refusal_bytes malformed)

-- ---- "`F h` is the first line, `G q t` lines follow"

-- a table with its frame and no guest yet
abbrev pub framed : ℕ → Table
framed h = record { frame = h; count = 0; entries = replicate guest_places no_entry }

-- one guest more; "too many of them is refusal 10": those past the places are counted as one
abbrev pub with_guest : Entry → Table → Table
with_guest guest table =
    record {
      frame = table.frame;
      count = min (suc table.count) (suc guest_places);
      entries = set table.entries table.count guest;
    }

-- "Refusals 10 and 12 to 14 .. print `! number` and stop the program"
abbrev pub checked_by : ℕ → Table → List Line → List ℕ
checked_by zero table ls = commands (fresh_state table) ls
checked_by (suc n) table ls = refusal_bytes (suc n)

unfoldable pub checked : Table → List Line → List ℕ
unfolding commands
checked table ls = checked_by (first (table_rows table)) table ls

-- "The table is checked at the first line after `F` that is not a well-formed `G` line .. before that line is looked at, or at the end of
-- input"
unfoldable pub guests : Table → List Line → List ℕ
unfolding checked
guests table [] = checked table []
guests table (l ∷ ls) = given (guest_in l) (λ guest. guests (with_guest guest table) ls) (checked table (l ∷ ls))

-- "a missing `F` line (so also empty input)" is 16
unfoldable pub listed : List Line → List ℕ
unfolding guests
listed [] = refusal_bytes malformed
listed (l ∷ ls) = given (frame_in l) (λ h. guests (framed h) ls) (refusal_bytes malformed)

-- ---- the whole

-- "It reads standard input, at most 65,536 bytes."
abbrev pub most_input : ℕ
most_input = 65536

-- "For too much input nothing else is printed"
unfoldable pub listing_of : List ℕ → List ℕ
unfolding asked listed
listing_of input = cond (ltb most_input (length input)) (refusal_bytes malformed) (listed (asked input))
