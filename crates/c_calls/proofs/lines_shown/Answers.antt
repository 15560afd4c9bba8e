-- `c_calls::lines_shown` meets its contract: at i the numbers of the first i lines are in.
use borrow.Author.Rules.{rules}
use Rattle.laws.proofs.Places.{length_mapped}
use Rattle.rules.specs.Limits.{line_places}
use Rattle.rules.specs.Walks.{no_line}
use Rattle.c_answers.specs.Clauses.{line_shown}
use Rattle.c_calls.proofs.Filling.{filling_more}
use Rattle.c_calls.proofs.lines_shown.Goals as goal

pub loop-i-preserved : goal.loop-i-preserved
loop-i-preserved c =
    filling_more line_shown line_places (line_shown no_line) c.loop-i.invariant (search (rules, length_mapped)) _ c.line_shown.ensures c.loop-i-test.true
