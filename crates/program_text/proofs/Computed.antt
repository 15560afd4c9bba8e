-- The rows of a line of input and a line of output hold, by computing.
use mathlib.Core.Path.{refl}
use native.Mathlib.Omega.{arith}
use Rattle.program_text.specs.Numbers.{number_at}
use Rattle.program_text.specs.Script.{line_of}
use Rattle.program_text.specs.Decimal.{decimal}
use Rattle.program_text.specs.Lines.{portion_bytes, refusal_bytes, end_bytes}
use Rattle.program_text.specs.Rows.{NumbersRead, LinesRead, LinesRefused, NumbersWritten, LinesWritten, LinesPut}

pub numbers_read : NumbersRead
unfolding number_at
numbers_read =
    record {
      at_the_end = refl;
      before_another = refl;
      nothing = refl;
    }

pub lines_read : LinesRead
unfolding line_of
lines_read =
    record {
      frame = refl;
      guest = refl;
      arrive = refl;
      done = refl;
      advance = refl;
      told = refl;
      zero = refl;
      nine = refl;
      ninety = refl;
      zeros = refl;
      thirteen_digits = refl;
      largest = refl;
      largest_of_two = refl;
    }

pub lines-refused : LinesRefused
unfolding line_of
lines-refused =
    record {
      no_digit = refl;
      no_digit_first = refl;
      fourteen_digits = refl;
      fourteen_first = refl;
      fourteen_second = refl;
      two_zeros = refl;
      leading_zero = refl;
      leading_first = refl;
      leading_second = refl;
      below_zero = refl;
      above_nine = refl;
      below_zero_behind = refl;
      above_nine_behind = refl;
      below_zero_between = refl;
      minus = refl;
      plus = refl;
      small_frame = refl;
      small_guest = refl;
      small_arrive = refl;
      small_done = refl;
      small_advance = refl;
      at = refl;
      letter_b = refl;
      letter_c = refl;
      letter_e = refl;
      letter_h = refl;
      letter_q = refl;
      letter_s = refl;
      letter_h_two = refl;
      no_letter = refl;
      number_first = refl;
      empty_line = refl;
      nothing = refl;
      frame_alone = refl;
      guest_alone = refl;
      arrive_alone = refl;
      done_alone = refl;
      advance_alone = refl;
      guest_one = refl;
      frame_two = refl;
      guest_three = refl;
      arrive_two = refl;
      done_two = refl;
      advance_two = refl;
      no_space = refl;
      two_spaces = refl;
      two_spaces_between = refl;
      no_space_between = refl;
      space_behind = refl;
      tab = refl;
      below_space = refl;
      above_space = refl;
      no_line_feed = refl;
      guest_no_line_feed = refl;
      below_line_feed = refl;
      above_line_feed = refl;
      return = refl;
      behind_line_feed = refl;
      two_line_feeds = refl;
      guest_behind_line_feed = refl;
    }

pub numbers_written : NumbersWritten
unfolding decimal
numbers_written =
    record {
      zero = refl;
      one = refl;
      nine = refl;
      ten = refl;
      ninety_nine = refl;
      hundred = refl;
      last_tick = refl;
      largest = refl;
    }

pub lines_written : LinesWritten
unfolding portion_bytes refusal_bytes end_bytes decimal
lines_written =
    record {
      own = refl;
      own_other = refl;
      spare = refl;
      spare_other = refl;
      burned = refl;
      idle = refl;
      refusal1 = refl;
      refusal9 = refl;
      refusal10 = refl;
      refusal16 = refl;
      end_at_first = refl;
      end_later = refl;
      end_of_time = refl;
    }

pub lines_put : LinesPut
unfolding portion_bytes end_bytes decimal
lines_put =
    record {
      room = refl;
      no_room = refl;
      room_behind = refl;
      no_room_behind = refl;
      between = record { content = refl; holds = refl; short = omega arith };
      whole = record { content = refl; holds = refl; short = omega arith };
      kept = record { content = refl; holds = refl; short = omega arith };
      kept_behind = record { content = refl; holds = refl; short = omega arith };
    }
