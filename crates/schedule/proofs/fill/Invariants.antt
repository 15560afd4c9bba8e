-- `schedule::fill` meets its contract: at each turn so many turns were made, and their bytes stand at the buffer's front.
use Rattle.program_listing.specs.Turning.{to_go}
use Rattle.schedule.proofs.Looping.{Filling}
use Rattle.schedule.proofs.fill.Given as goal

abbrev pub invariant-loop-buffer : goal.invariant-loop-buffer
invariant-loop-buffer l = Filling l.input l.initial.buffer l.fn.from l.buffer l.turned

abbrev pub decreases-loop-buffer : goal.decreases-loop-buffer
decreases-loop-buffer l = to_go l.input l.turned.held
