-- Each number is given exactly when listed: a law of any rows; and the rows of every call stand in the order of their numbers, by computing.
use mathlib.Core.Path.{refl}
use mathlib.Core.List.{List}
use Rattle.rules.specs.Refusals.{Row, numbers}
use Rattle.rules.specs.Table.{table_rows}
use Rattle.rules.specs.Image.{read_rows, write_rows}
use Rattle.rules.specs.Calls.{arrive_rows, done_rows, advance_rows, ask_rows, margin_rows}
use Rattle.promises.specs.Promises.{Listed, ExactlyWhenListed, RowsRise}
use Rattle.promises.proofs.Refusing.{exactly}

listed : (rows : List Row) → Listed rows (numbers rows)
listed rows = record { exactly = exactly rows; only = refl }

pub exactly_when_listed : ExactlyWhenListed
exactly_when_listed =
    record {
      arrive = λ s i. listed (arrive_rows s i);
      done = λ s i. listed (done_rows s i);
      advance = λ s k. listed (advance_rows s k);
      ask = λ s. listed (ask_rows s);
      margin = λ s i. listed (margin_rows s i);
      fresh = λ t. listed (table_rows t);
      read = λ image. listed (read_rows image);
      write = λ t buffer. listed (write_rows t buffer);
    }

pub rows_rise : RowsRise
rows_rise =
    record {
      arrive = λ s i. refl;
      done = λ s i. refl;
      advance = λ s k. refl;
      ask = λ s. refl;
      margin = λ s i. refl;
      fresh = λ t. refl;
      read = λ image. refl;
      write = λ t buffer. refl;
    }
