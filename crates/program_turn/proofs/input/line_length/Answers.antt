-- `program_turn::input::line_length` meets its contract: the first line feed ends the line.
use Rattle.std.proofs.Common.{rules}
use Rattle.std.proofs.iter.runs.Made.{chains}
use Rattle.program_turn.proofs.Lines.{length_feed, length_all}
use Rattle.program_turn.proofs.input.line_length.Goals as goal

pub returns-in-Some : goal.returns-in-Some
returns-in-Some c = length_feed c.args.rest.now c.in-Some.feed (search (rules, chains)) (search (rules, chains)) (λ k h. search (rules, chains))

pub returns-in-None : goal.returns-in-None
returns-in-None c = length_all c.args.rest.now (λ k h. search (rules, chains))
