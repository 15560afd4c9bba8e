-- `image_loading::entries_of`: at i the first i entries stand in their places.
use Rattle.image_loading.proofs.Reading.{Filled}
use Rattle.image_loading.proofs.entries_of.Given as goal

abbrev pub invariant-loop-i : goal.invariant-loop-i
invariant-loop-i l = Filled l.part l.entries l.i
