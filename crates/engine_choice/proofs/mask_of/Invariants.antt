-- `engine_choice::mask_of` meets its contract: at i the mask has the bits of the first i guests.
use Rattle.engine_choice.proofs.Choosing.{Masked}
use Rattle.engine_choice.proofs.mask_of.Given as goal

abbrev pub invariant-loop-i : goal.invariant-loop-i
invariant-loop-i l = Masked l.g-items l.i l.mask
