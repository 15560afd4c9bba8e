-- What the parts of a turn say: the contracts of the code's own functions, of which the public ones are made.
use Rattle.std.specs.Prelude.{◌≡◌, List, ℕ, ◌+◌, ◌≤◌, length, Result}
use Rattle.std.specs.Result.{result_unwrap_or}
use Rattle.std.proofs.lemmas.List.Edits.{sets}
use Rattle.rules.specs.declared.Line.{Line as LinePlace}
use Rattle.rules.specs.declared.Refusal.{Refusal}
use Rattle.rules.specs.declared.State.{State}
use Rattle.rules.specs.Refusals.{number_of}
use Rattle.program_listing.specs.declared.Held.{Held}
use Rattle.program_listing.specs.declared.Turned.{Turned}
use Rattle.program_listing.specs.Listing.{refusal_in, portions_bytes}
use Rattle.program_listing.specs.Turning.{Turn, turn, put_of, held_of, going_on, turn_room}

-- a turn that has room: what is held next, and its bytes behind those that the buffer holds
pub record Did (s : Turn) (buffer : List ℕ) (filled : ℕ) (after : List ℕ) (r : Turned) : Type 0 where
  pub held : r.held ≡ held_of s
  pub holds : r.filled ≡ filled + length (put_of s)
  pub content : after ≡ sets buffer filled (put_of s)
  pub short : r.filled ≤ filled + turn_room

-- portions put one behind the other
pub record PortionsPut (ps : List LinePlace) (buffer : List ℕ) (filled : ℕ) (after : List ℕ) (r : ℕ) : Type 0 where
  pub holds : r ≡ filled + length (portions_bytes ps)
  pub content : after ≡ sets buffer filled (portions_bytes ps)
  pub short : r ≤ filled + turn_room

-- what an arrival or a completion gave
abbrev pub called : Result State Refusal → ℕ → Held → Turn
called r end h = turn (refusal_in (number_of r)) (going_on end h.table (result_unwrap_or r h.state) 0)
