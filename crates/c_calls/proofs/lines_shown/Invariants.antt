-- `c_calls::lines_shown` meets its contract: at i the numbers of the first i lines are in.
use Rattle.rules.specs.Limits.{line_places}
use Rattle.rules.specs.Walks.{no_line}
use Rattle.c_answers.specs.Clauses.{line_shown}
use Rattle.c_calls.proofs.Filling.{Filling}
use Rattle.c_calls.proofs.lines_shown.Given as goal

abbrev pub invariant-loop-i : goal.invariant-loop-i
invariant-loop-i l = Filling line_shown line_places (line_shown no_line) l.lines l.i l.shown
