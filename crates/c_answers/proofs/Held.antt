-- The rows hold: by computing, by what a call and a question carry, and with the outcome that the rules allow.
use mathlib.Core.Path.{refl}
use Rattle.std.specs.Prelude.{Err}
use Rattle.rules.specs.declared.Refusal.TheVariants.{NoSuchGuest, GuestIdle, EndOfTime, ShareTooLarge}
use Rattle.rules.specs.Table.{good_table}
use Rattle.rules.specs.Places.{model, packed, fresh_state, no_state}
use Rattle.rules.specs.Sound.{in_range, sound}
use Rattle.rules.specs.Steps.{arrive, done, renewed, next, serve, tick, advance, ask}
use Rattle.rules.specs.Walks.{ticks_in, walk_lines, walk_state, walk_left}
use Rattle.rules.specs.Samples.{sample, lone}
use Rattle.c_answers.specs.Held.{NumbersHeld, RefusedHeld}

pub numbers_held : NumbersHeld
numbers_held =
    record {
      own = refl;
      spare = refl;
      burns = refl;
      nothing = refl;
      next_own = refl;
      next_spare = refl;
      next_burns = refl;
      next_nothing = refl;
      line = refl;
      asked = refl;
      asked_refused = refl;
      actives = refl;
      actives_refused = refl;
      distance = refl;
      distance_refused = refl;
      walk = refl;
      walk_refused = refl;
      gives_allowed = λ t after n g. g.allowed;
      gives_state = λ t after n g. g.state;
      gives_number = λ t after n g. g.number;
      tells_allowed = λ s r t. t.allowed;
      tells_numbers = λ s r t. t.numbers;
    }

pub refused_held : RefusedHeld
unfolding sample lone good_table arrive done renewed next serve tick advance ask model packed fresh_state no_state in_range sound ticks_in walk_lines walk_state walk_left
refused_held =
    record {
      fresh = record { outcome = Err ShareTooLarge; allowed = record { answer = refl; state = refl }; state = refl; number = refl };
      arrive = record { outcome = Err NoSuchGuest; allowed = record { answer = refl; state = refl }; state = refl; number = refl };
      done = record { outcome = Err GuestIdle; allowed = record { answer = refl; state = refl }; state = refl; number = refl };
      advance = record { outcome = Err EndOfTime; allowed = record { answer = refl; state = refl }; state = refl; number = refl };
      walk =
          record {
            walk = Err EndOfTime;
            allowed = record { answer = refl; state = refl; left = refl; shown = refl; lines = refl };
            state = refl;
            numbers = refl;
          };
    }
