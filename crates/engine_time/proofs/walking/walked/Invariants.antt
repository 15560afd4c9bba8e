-- `walking::walked` meets its contract: between two portions the variables show the model that the walk has reached.
use mathlib.Core.Bool.{◌&&◌}
use Prim.Native.Nat.{◌≤◌, ◌<◌, ◌-◌}
use lib.Dec.{ltb}
use Rattle.rules.specs.Limits.{guest_places, line_places}
use Rattle.engine_time.proofs.Turning.{Walking}
use Rattle.engine_time.proofs.walking.walked.Given as goal

abbrev pub invariant-loop-dues : goal.invariant-loop-dues
invariant-loop-dues l =
    (l.s.table.count ≤ guest_places) × (l.h.last < l.s.table.count) × (l.shown ≤ line_places) × Walking l.s l.k l.from l.dues l.guests l.spares l.lines l.h l.shown (ltb 0 l.h.left && ltb l.shown line_places)

abbrev pub decreases-loop-dues : goal.decreases-loop-dues
decreases-loop-dues l = line_places - l.shown
