-- The rows hold: by computing, with the outcome that the rules allow.
use mathlib.Core.Path.{refl}
use mathlib.Core.List.{[], ◌∷◌}
use Rattle.rules.specs.declared.Refusal.TheVariants.{UnknownEdition, BufferShort}
use Rattle.std.specs.Prelude.{Ok, Err}
use Rattle.rules.specs.Samples.{◌by◌}
use Rattle.rules.specs.HeldTable.{counted}
use Rattle.rules.specs.Image.{table_in, image_of}
use Rattle.c_images.specs.Held.{InPlaceHeld}

pub in_place_held : InPlaceHeld
unfolding table_in image_of
in_place_held =
    record {
      read =
          record {
            loaded = Ok (counted 1000000 1 (66051 by 1000000 ∷ []));
            allowed = record { answer = refl; table = refl };
            table = refl;
            number = refl;
          };
      read_refused =
          record {
            loaded = Err UnknownEdition;
            allowed = record { answer = refl; table = refl };
            table = refl;
            number = refl;
          };
      entries =
          record {
            bytes = 3 ∷ 2 ∷ 1 ∷ 0 ∷ 64 ∷ 66 ∷ 15 ∷ 0 ∷ [];
            allowed = record { place = refl; bytes = refl };
            long = refl;
            number = record { answer = refl };
          };
      two_entries =
          record {
            bytes = 3 ∷ 0 ∷ 0 ∷ 0 ∷ 4 ∷ 0 ∷ 0 ∷ 0 ∷ 2 ∷ 0 ∷ 0 ∷ 0 ∷ 8 ∷ 0 ∷ 0 ∷ 0 ∷ [];
            allowed = record { place = refl; bytes = refl };
            long = refl;
            number = record { answer = refl };
          };
      entries_refused = record { bytes = []; allowed = record { place = refl; bytes = refl }; long = refl; number = record { answer = refl } };
      wrote = record { answer = Ok tt; allowed = record { answer = refl; content = refl }; number = refl };
      wrote_refused = record { answer = Err BufferShort; allowed = record { answer = refl; content = refl }; number = refl };
    }
