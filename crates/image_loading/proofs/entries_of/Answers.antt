-- `image_loading::entries_of`: the entry read fills the next place.
use native.Mathlib.Omega.{arith}
use Rattle.image_loading.proofs.Reading.{filled_more}
use Rattle.image_loading.proofs.entries_of.Goals as goal

pub loop-i-preserved : goal.loop-i-preserved
loop-i-preserved c = filled_more c.loop-i.invariant _ c.entry_at.ensures (omega arith)
