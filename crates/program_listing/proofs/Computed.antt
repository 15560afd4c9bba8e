-- 01's own listing, the short inputs and the turns, by computing.
use mathlib.Core.Path.{refl, ap}
use mathlib.Core.Bool.{Bool, cond}
use mathlib.Core.List.{List}
use Prim.Native.Nat.{ℕ}
use native.Mathlib.Omega.{arith}
use lib.ListN.{length}
use borrow.Author.Tests.{lt-ltb, le-ltb}
use Rattle.rules.specs.Table.{good_table}
use Rattle.rules.specs.Steps.{arrive, done, renewed, next, serve, tick, advance, ask}
use Rattle.rules.specs.Places.{model, packed, fresh_state, no_state}
use Rattle.rules.specs.Sound.{in_range, sound}
use Rattle.rules.specs.Calls.{state_after}
use Rattle.rules.specs.Lines.{lines, lines_of}
use Rattle.rules.specs.Walks.{walk_lines, walk_state, walk_left}
use Rattle.program_text.specs.Script.{malformed, line_of}
use Rattle.program_text.specs.Lines.{portion_bytes, refusal_bytes, end_bytes}
use Rattle.program_text.specs.Decimal.{decimal}
use Rattle.program_listing.specs.Listing.{most_input, lines_in, listing_of, asked, listed, guests, checked, commands, printed}
use Rattle.program_listing.specs.Worked.{repeated, WorkedHolds, OrderHolds, StopsHold, GoesOnHold, PortionsHold, LinesSplit, InputBound}
use Rattle.program_listing.specs.declared.Held.{Held}
use Rattle.program_listing.specs.Turning.{line_length, line_at, behind, Turn, stops, frame_line, turn_of, put_out, held_after}
use Rattle.program_listing.specs.Rows.{shown, LineComesNext, TurnsHold, TurnsStop, TablesHold, TurnBound, TurnsPut, StagesHold}

pub worked_holds : WorkedHolds
unfolding listing_of asked listed guests checked commands printed line_of portion_bytes refusal_bytes end_bytes decimal good_table arrive done renewed next serve tick advance ask model packed fresh_state in_range sound state_after lines lines_of
worked_holds = refl

pub order_holds : OrderHolds
unfolding listing_of asked listed guests checked commands printed line_of portion_bytes refusal_bytes end_bytes decimal good_table arrive done renewed next serve tick advance ask model packed fresh_state in_range sound state_after lines lines_of
order_holds =
    record {
      empty = refl;
      guest_first = refl;
      arrive_first = refl;
      done_first = refl;
      advance_first = refl;
      malformed_first = refl;
      empty_line_first = refl;
      no_guest = refl;
      frame_twice = refl;
      no_guest_arrive = refl;
      no_guest_done = refl;
      no_guest_advance = refl;
      no_guest_malformed = refl;
      cut_off = refl;
      table_first = refl;
      table_first_arrive = refl;
      table_alone = refl;
      frame_behind = refl;
      empty_line_behind = refl;
      malformed_guest = refl;
      guest_behind = refl;
      frame_later = refl;
      carried_out = refl;
      stopped = refl;
    }

pub stops_hold : StopsHold
unfolding listing_of asked listed guests checked commands printed line_of portion_bytes refusal_bytes end_bytes decimal good_table arrive done renewed next serve tick advance ask model packed fresh_state in_range sound state_after lines lines_of repeated
stops_hold =
    record {
      sixteen_guests = refl;
      seventeen_guests = refl;
      forty_guests = refl;
      no_frame = refl;
      longest_frame = refl;
      frame_too_long = refl;
      largest_frame = refl;
      no_budget = refl;
      budget_over_period = refl;
      period_of_no_frame = refl;
      largest_budget = refl;
      largest_period = refl;
      second_guest = refl;
      shares_fit = refl;
      shares_too_large = refl;
    }

pub goes_on_hold : GoesOnHold
unfolding listing_of asked listed guests checked commands printed line_of portion_bytes refusal_bytes end_bytes decimal good_table arrive done renewed next serve tick advance ask model packed fresh_state in_range sound state_after lines lines_of repeated
goes_on_hold =
    record {
      no_such_guest = refl;
      largest_guest = refl;
      idle = refl;
      idle_again = refl;
      jobs_full = refl;
      past_the_end = refl;
      past_the_end_later = refl;
      largest_advance = refl;
    }

pub portions_hold : PortionsHold
unfolding listing_of asked listed guests checked commands printed line_of portion_bytes refusal_bytes end_bytes decimal good_table arrive done renewed next serve tick advance ask model packed fresh_state in_range sound state_after lines lines_of
portions_hold =
    record {
      renewed = refl;
      next_spare = refl;
      next_burned = refl;
      not_joined = refl;
      idle_not_joined = refl;
      advance_nothing = refl;
      idle_ticks = refl;
    }

pub lines_split : LinesSplit
unfolding lines_in
lines_split = refl

pub input_bound : InputBound
unfolding listing_of refusal_bytes decimal
input_bound =
    record {
      taken = λ input h. rw (le-ltb most_input (length input) (omega arith)) refl;
      refused = λ input h. rw (lt-ltb most_input (length input) (omega arith)) refl;
    }

-- ---- the turns

pub tables_hold : TablesHold
tables_hold =
    record {
      no_guest_yet = refl;
      first_guest = refl;
      second_guest = refl;
      seventeenth = refl;
      eighteenth = refl;
    }

pub line_comes_next : LineComesNext
unfolding line_length line_at behind line_of
line_comes_next =
    record {
      length = refl;
      length_open = refl;
      length_nothing = refl;
      length_beside = refl;
      guest = refl;
      last = refl;
      end = refl;
      behind_guest = refl;
      behind_end = refl;
    }

pub turns_hold : TurnsHold
unfolding no_state turn_of line_at behind held_after put_out walk_lines walk_state walk_left line_of portion_bytes refusal_bytes end_bytes decimal good_table arrive done renewed next serve tick advance ask model packed fresh_state in_range sound state_after lines
turns_hold =
    record {
      frame = refl;
      guest = refl;
      check = refl;
      arrive = refl;
      advance = refl;
      rest = refl;
      done = refl;
      end = refl;
      over = refl;
      put_out = refl;
    }

pub turns_stop : TurnsStop
unfolding no_state turn_of line_at behind held_after put_out walk_lines walk_state walk_left line_of portion_bytes refusal_bytes end_bytes decimal good_table arrive done renewed next serve tick advance ask model packed fresh_state in_range sound state_after lines
turns_stop =
    record {
      no_input = refl;
      guest_first = refl;
      arrive_first = refl;
      done_first = refl;
      advance_first = refl;
      malformed_first = refl;
      check_frame = refl;
      check_done = refl;
      check_advance = refl;
      check_malformed = refl;
      check_end = refl;
      check_refused = refl;
      frame_later = refl;
      guest_later = refl;
      malformed_later = refl;
      arrive_refused = refl;
      done_refused = refl;
      advance_refused = refl;
    }

pub turns_put : TurnsPut
unfolding no_state turn_of line_at behind line_of refusal_bytes decimal
turns_put =
    record {
      room = refl;
      whole = record { held = refl; holds = refl; content = refl; short = omega arith };
      behind = record { held = refl; holds = refl; content = refl; short = omega arith };
      kept = record { held = refl; holds = refl; content = refl; short = omega arith };
      kept_behind = record { held = refl; holds = refl; content = refl; short = omega arith };
    }

pub stages_hold : StagesHold
unfolding no_state turn_of line_at behind held_after put_out walk_lines walk_state walk_left line_of portion_bytes refusal_bytes end_bytes decimal good_table arrive done renewed next serve tick advance ask model packed fresh_state in_range sound state_after lines
stages_hold =
    record {
      first = record { held = refl };
      frames = record { answer = refl };
      guests = record { answer = refl };
      commands = record { answer = refl };
      over = record { answer = refl };
      to_go_frames = refl;
      to_go_guests = refl;
      to_go_commands = refl;
      to_go_over = refl;
    }

-- a turn of the first stage, where the input is too much or not
abbrev frames_by : List ℕ → Held → Bool → Turn
frames_by input h t = cond t (stops malformed h) (frame_line (line_at input h.at) (behind input h.at) h)

pub turn_bound : TurnBound
unfolding refusal_bytes decimal
turn_bound =
    record {
      taken = λ input h k. ap (frames_by input h) (le-ltb most_input (length input) (omega arith));
      refused = λ input h k. ap (λ (t : Bool). shown (frames_by input h t)) (lt-ltb most_input (length input) (omega arith));
    }
