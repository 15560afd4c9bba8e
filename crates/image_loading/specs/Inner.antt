-- What the steps of a reading owe one another.
use Rattle.std.specs.Prelude.{◌≡◌, List, ℕ, ◌+◌, ◌*◌, ◌≤◌, ◌<◌, ◌^◌, length}
use Rattle.rules.specs.Limits.{guest_places, shortest_image}
use Rattle.rules.specs.Image.{frame_in, offset_in, count_in}
use Rattle.image_reader.specs.declared.Trailer.{Trailer}

-- a trailer's numbers, where the entries end where it begins
pub record Whole (image : List ℕ) (t : Trailer) : Type 0 where
  pub long : shortest_image ≤ length image
  pub frame : t.frame ≡ frame_in image
  pub offset : t.offset ≡ offset_in image
  pub count : t.count ≡ count_in image
  pub few : t.count ≤ guest_places
  pub ends : t.offset + 8 * t.count + 12 ≡ length image
  pub frame_low : t.frame < 2 ^ 32
