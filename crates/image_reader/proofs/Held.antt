-- The rows hold: by computing, and by the size of each number.
use mathlib.Core.Path.{refl}
use native.Mathlib.Omega.{arith}
use Rattle.image_reader.specs.Clauses.{number_at, behind_of}
use Rattle.image_reader.specs.Held.{NumbersHeld}

pub numbers_held : NumbersHeld
unfolding number_at behind_of
numbers_held =
    record {
      at_the_end = refl;
      behind = refl;
      fits = λ bytes at r h. h.1;
      fits_two = λ bytes at r h. h.1;
      number = (refl, omega arith);
      entry = record { budget = (refl, omega arith); period = (refl, omega arith) };
      trailer = record { frame = (refl, omega arith); offset = (refl, omega arith); count = (refl, omega arith); edition = (refl, omega arith) };
    }
