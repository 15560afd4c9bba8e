-- `engine_time::advanced` meets its contract: between two walks the state is that of the ticks made so far.
use Rattle.engine_time.proofs.Advancing.{Going}
use Rattle.engine_time.proofs.advanced.Given as goal

abbrev pub invariant-loop-left : goal.invariant-loop-left
invariant-loop-left l = Going l.fn.s.state.now l.k l.state l.left

abbrev pub decreases-loop-left : goal.decreases-loop-left
decreases-loop-left l = l.left
