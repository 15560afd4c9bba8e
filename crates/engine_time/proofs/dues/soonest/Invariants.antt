-- `dues::soonest` meets its contract: at i the best of the guests before i is known, whatever guests the numbers decide for.
use mathlib.Core.List.{List}
use Prim.Native.Nat.{◌≤◌, ◌<◌}
use lib.ListN.{length}
use Rattle.rules.specs.declared.Guest.{Guest as GuestPlace}
use Rattle.engine_time.proofs.Searching.{Searched}
use Rattle.engine_time.specs.Inner.{Mirrors}
use Rattle.engine_time.proofs.dues.soonest.Given as goal

abbrev pub invariant-loop-i : goal.invariant-loop-i
invariant-loop-i l = (l.best < l.count) × ((gs : List GuestPlace) → Mirrors l.dues gs → l.count ≤ length gs → Searched gs l.from l.count l.best l.i)
