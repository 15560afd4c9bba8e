-- `run_guests` is safe and ends. Nothing has to hold from turn to turn; the measure is the ticks to the end and the events to come, and each
use Prim.Native.Nat.{◌+◌, ◌-◌}
use Rattle.example_loop.proofs.run_guests.Given as goal

abbrev pub invariant-loop-clock : goal.invariant-loop-clock
invariant-loop-clock l = Unit {0}

abbrev pub decreases-loop-clock : goal.decreases-loop-clock
decreases-loop-clock l = (3600 - l.clock) + (13 - l.number)
