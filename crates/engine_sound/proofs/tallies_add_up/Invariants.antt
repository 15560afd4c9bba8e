-- `engine_sound::tallies_add_up` meets its contract: the sum so far is right where it fits.
use Rattle.std.proofs.Common.{◌≡◌, ◌+◌, min, take}
use Rattle.laws.specs.Lists.{total}
use Rattle.engine_sound.specs.Inner.{place_tallies}
use Rattle.engine_sound.proofs.tallies_add_up.Given as goal

abbrev pub invariant-loop-g : goal.invariant-loop-g
invariant-loop-g l = l.sum ≡ min (total place_tallies (take l.g-index l.guests) + l.burned + l.empty) 18446744073709551615
