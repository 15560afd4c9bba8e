-- The rows hold by computing: each definition gives the numbers that are written out.
use mathlib.Core.Path.{refl}
use Rattle.rules.specs.Table.{good_table}
use Rattle.rules.specs.Steps.{arrive, done, renewed, next, serve, tick, advance, ask, margin}
use Rattle.rules.specs.Places.{model, table_of, packed, fresh_state, no_state}
use Rattle.rules.specs.Sound.{in_range, sound}
use Rattle.rules.specs.Image.{table_in, image_of}
use Rattle.rules.specs.Calls.{state_after, run}
use Rattle.rules.specs.Lines.{lines, lines_of, listing}
use Rattle.rules.specs.Walks.{ticks_in, walk_lines, walk_state, walk_left}
use Rattle.rules.specs.Samples.{sample, with_first, with_second, with_spares, with_idle, with_last_guest, with_last_spare, with_count, with_table, lone, row, crowded, overcounted, left_at}
use Rattle.rules.specs.HeldTable.{RefusalsHeld, TableHeld}
use Rattle.rules.specs.HeldSound.{SoundHeld}
use Rattle.rules.specs.HeldSteps.{ModelHeld, ArriveDoneHeld, TickHeld, AskHeld, PlacesHeld}
use Rattle.rules.specs.HeldCalls.{damaged, exchanged, GivenHeld, OutcomesHeld, AnswersHeld}
use Rattle.rules.specs.HeldWalks.{LinesHeld, WalksHeld}
use Rattle.rules.specs.HeldImage.{ImageHeld, LengthHeld, WritingHeld}

pub refusals_held : RefusalsHeld
unfolding good_table
refusals_held =
    record {
      named = refl;
      answered = refl;
      smallest = refl;
      none_given = refl;
      may_be_given = refl;
      conditions = refl;
      bounds = refl;
    }

pub table_held : TableHeld
unfolding good_table
table_held =
    record {
      no_guest = refl;
      one_guest = refl;
      sixteen-guests = refl;
      seventeen_guests = refl;
      no_frame = refl;
      shortest_frame = refl;
      longest_frame = refl;
      frame_too_long = refl;
      no_budget = refl;
      least_budget = refl;
      whole_period = refl;
      past_period = refl;
      divisor = refl;
      no_divisor = refl;
      no_period = refl;
      second_guest = refl;
      unused_budget = refl;
      unused_period = refl;
      unused_zero = refl;
      share = refl;
      whole_share = refl;
      share_of_one_more = refl;
      shares = refl;
      used = refl;
      ten_and_twelve = refl;
      ten_and_thirteen = refl;
      ten_and_fourteen = refl;
      twelve_and_thirteen = refl;
      twelve_and_fourteen = refl;
      thirteen_and_fourteen = refl;
      unused_and_fourteen = refl;
      accepted = refl;
      zeros = refl;
    }

pub sound_held : SoundHeld
unfolding sample with_first with_second with_spares with_idle with_last_guest with_last_spare with_count with_table lone row crowded overcounted left_at good_table model packed in_range sound
sound_held =
    record {
      kept = refl;
      tick = refl;
      good_table_lem = refl;
      guests = refl;
      frame = refl;
      budget = refl;
      divisor = refl;
      share = refl;
      jobs = refl;
      current = refl;
      idle = refl;
      spares = refl;
      owner = refl;
      capacity = refl;
      first_owner = refl;
      own = refl;
      borrowed = refl;
      burned = refl;
      nothing = refl;
      moved = refl;
      rising-deadline = refl;
      rising_owner = refl;
      strictly = refl;
      rising_last = refl;
      room = refl;
      bound_at_0 = refl;
      bound_of_spare = refl;
      bound_at_1 = refl;
      bound_at_10 = refl;
      idle_owner = refl;
      active_owner = refl;
      unused_guest = refl;
      unused_spare = refl;
      unused_entry = refl;
      uncounted = refl;
    }

pub model_held : ModelHeld
unfolding arrive done renewed next serve tick advance ask margin table_of packed model fresh_state no_state sample
model_held =
    record {
      guest_numbers = refl;
      spare_numbers = refl;
      actives = refl;
      idles = refl;
      guest_0 = refl;
      guest_1 = refl;
      no_guest = refl;
      spare_0 = refl;
      no_spare = refl;
      mask = refl;
      count = refl;
      last_bit = refl;
      places = refl;
      sum = refl;
    }

pub arrive_done_held : ArriveDoneHeld
unfolding arrive done renewed next serve tick advance ask margin table_of packed model fresh_state no_state sample
arrive_done_held =
    record {
      wake-behind = refl;
      wake_at = refl;
      wake_ahead = refl;
      join_idle = refl;
      join-behind = refl;
      join-active = refl;
      join_several = refl;
      arrive-second = refl;
      arrive-first = refl;
      finish_several = refl;
      finish-two = refl;
      finish_last = refl;
      finish_idle = refl;
      finish_idle_left = refl;
      leave_several = refl;
      leave_last = refl;
      leave_one = refl;
      leave_nothing = refl;
      leave_idle = refl;
      earlier = refl;
      lower = refl;
      inserted_first = refl;
      inserted_between = refl;
      inserted_behind = refl;
      inserted_last = refl;
      done_several = refl;
      done_last = refl;
    }

pub tick_held : TickHeld
unfolding arrive done renewed next serve tick advance ask margin table_of packed model fresh_state no_state sample
tick_held =
    record {
      renew_spent = refl;
      renew-left = refl;
      renew_idle = refl;
      renew_idle_left = refl;
      renew_each = refl;
      is_ready = refl;
      is_idle = refl;
      smallest = refl;
      lowest = refl;
      last = refl;
      from = refl;
      none_ready = refl;
      first_alone = refl;
      second-alone = refl;
      spare_before = refl;
      spare_at_row = refl;
      spare_past = refl;
      no_spare = refl;
      spare_burns = refl;
      rests = refl;
      use_part = refl;
      span_part = refl;
      spend_one = refl;
      spend-two = refl;
      spend_last = refl;
      spend_none = refl;
      spend_empty = refl;
      spend_several = refl;
      spend_all = refl;
      on_own = refl;
      on_spare = refl;
      on_both = refl;
      charge_own = refl;
      charge_spare = refl;
      charge_burns = refl;
      charge_nothing = refl;
      tick_own = refl;
      tick_spare = refl;
      tick_last_of_spare = refl;
      tick_burns = refl;
      tick_rests = refl;
      tick_spends = refl;
      tick_renews = refl;
      renewed-first = refl;
      advance_0 = refl;
      advance_3 = refl;
    }

pub ask_held : AskHeld
unfolding arrive done renewed next serve tick advance ask margin table_of packed model fresh_state no_state sample
ask_held =
    record {
      ask_own = refl;
      ask-renewed = refl;
      ask_spare = refl;
      ask_burns = refl;
      ask_rests = refl;
      margin_above = refl;
      margin_at = refl;
      margin_below = refl;
      margin_stored = refl;
    }

pub places_held : PlacesHeld
unfolding arrive done renewed next serve tick advance ask margin table_of packed model fresh_state no_state sample
places_held =
    record {
      in_places = refl;
      back = refl;
      in_use = refl;
      fresh = refl;
      zeros = refl;
    }

pub given_held : GivenHeld
unfolding damaged exchanged sample with_first with_count lone row crowded good_table model packed in_range sound
given_held =
    record {
      every_call = refl;
      no_call = refl;
      last_guest = refl;
      past_guests = refl;
      guest_16 = refl;
      done_idle = refl;
      jobs = refl;
      room = refl;
      far = refl;
      end_of_time = refl;
      one_and_two = refl;
      one_and_three = refl;
      one_and_four = refl;
      one_and_five = refl;
      one_and_six = refl;
      one_and_seven = refl;
      five_and_six = refl;
    }

pub outcomes_held : OutcomesHeld
unfolding damaged exchanged sample with_first with_count lone good_table arrive done renewed next serve tick advance ask margin model packed fresh_state no_state in_range sound state_after run
outcomes_held =
    record {
      arrive = record { answer = refl; state = refl };
      arrive-refused = record { answer = refl; state = refl };
      done = record { answer = refl; state = refl };
      done-second = record { answer = refl; state = refl };
      done_refused = record { answer = refl; state = refl };
      advance = record { answer = refl; state = refl };
      advance_to_the_end = record { answer = refl; state = refl };
      advance-refused = record { answer = refl; state = refl };
      ask = record { answer = refl; next = refl };
      ask_own = record { answer = refl; next = refl };
      ask_burns = record { answer = refl; next = refl };
      ask_rests = record { answer = refl; next = refl };
      ask-refused = record { answer = refl; next = refl };
      active = record { answer = refl; mask = refl; actives = refl };
      nobody_row = refl;
      active-refused = record { answer = refl; mask = refl; actives = refl };
      margin = record { answer = refl; ticks = refl };
      margin-second = record { answer = refl; ticks = refl };
      margin_at = record { answer = refl; ticks = refl };
      margin_below = record { answer = refl; ticks = refl };
      margin-refused = record { answer = refl; ticks = refl };
      fresh = record { answer = refl; state = refl };
      fresh_refused = record { answer = refl; state = refl };
      check = record { answer = refl };
      check_refused = record { answer = refl };
      no_table_row = record { table = refl };
      no_state_row = record { state = refl };
      number = record { answer = refl };
      number_of_0 = record { answer = refl };
    }

pub answers_held : AnswersHeld
unfolding damaged exchanged sample with_first with_count lone good_table arrive done renewed next serve tick advance ask margin model packed fresh_state no_state in_range sound state_after run
answers_held =
    record {
      own = refl;
      spare_of_row = refl;
      spare_burns = refl;
      rests = refl;
      who = refl;
      unchanged = refl;
      to_the_end = refl;
      one_by_one = refl;
    }

pub lines_held : LinesHeld
unfolding sample lone good_table arrive renewed next serve tick advance ask model packed in_range sound state_after lines lines_of listing ticks_in walk_lines walk_state walk_left
lines_held =
    record {
      cut = refl;
      spent = refl;
      spares = refl;
      budgets = refl;
      idles = refl;
      most = refl;
      none_printed = refl;
      refused = refl;
      to_the_end = refl;
      other_calls = refl;
      not-joined = refl;
    }

pub walks_held : WalksHeld
unfolding sample lone good_table arrive renewed next serve tick advance ask model packed in_range sound state_after lines lines_of listing ticks_in walk_lines walk_state walk_left
walks_held =
    record {
      used = refl;
      says = refl;
      no_line_row = refl;
      ticks = refl;
      walked = record { answer = refl; state = refl; left = refl; shown = refl; lines = refl };
      walked_to_the_end = record { answer = refl; state = refl; left = refl; shown = refl; lines = refl };
      walked_refused = record { answer = refl; state = refl; left = refl; shown = refl; lines = refl };
      none_walked = refl;
      portions = refl;
      left = refl;
      left_at_the_end = refl;
      reached = refl;
    }

pub image_held : ImageHeld
unfolding table_in image_of
image_held =
    record {
      little_endian = refl;
      at_a_place = refl;
      numbers = refl;
      every_byte = refl;
      whole_entry = refl;
      entries = refl;
      part = refl;
      table = refl;
      two_entries = refl;
      accepted = refl;
      edition = refl;
      count = refl;
      offset = refl;
      offset_exact = refl;
      of-table = refl;
      eight_first = refl;
      nine_first = refl;
      ten_first = refl;
      eleven_first = refl;
      read = record { answer = refl; table = refl };
      read_refused = record { answer = refl; table = refl };
      handed = record { place = refl; bytes = refl };
      handed_refused = record { place = refl; bytes = refl };
      checked = record { answer = refl };
      checked_refused = record { answer = refl };
    }

pub writing_held : WritingHeld
unfolding table_in image_of
writing_held =
    record {
      bytes = refl;
      written = refl;
      large = refl;
      long = refl;
      behind = refl;
      buffer = refl;
      of-table = refl;
      before_fifteen = refl;
      wrote = record { answer = refl; content = refl };
      wrote_refused = record { answer = refl; content = refl };
    }

-- only the length decides on 8
pub length_held : LengthHeld
length_held =
    record {
      too_short = λ image h. rw h refl;
      shortest = λ image h. rw h refl;
      longest = λ image h. rw h refl;
      too_long = λ image h. rw h refl;
    }
