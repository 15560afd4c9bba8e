-- `program_turn::put::put_portions` meets its contract: the lines of the first portions are put.
use Rattle.program_turn.proofs.Doing.{Shown}
use Rattle.program_turn.proofs.put.put_portions.Given as goal

abbrev pub invariant-loop-line : goal.invariant-loop-line
invariant-loop-line l = Shown l.lines l.initial.buffer l.filled l.line-index l.buffer l.end
