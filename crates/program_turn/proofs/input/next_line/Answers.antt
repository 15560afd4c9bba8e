-- `program_turn::input::next_line` meets its contract: the line ends where its length says.
use mathlib.Core.Path.{sym, ◌∙◌}
use native.Mathlib.Omega.{arith}
use lib.ListN.{drop, length-drop}
use Rattle.std.proofs.Common.{rules, length-take-le, take_all}
use Rattle.program_turns.proofs.Inputs.{next_none, length_high}
use Rattle.program_turn.proofs.Lines.{line_next}
use Rattle.program_turn.proofs.input.next_line.Goals as goal

pub returns-in_default : goal.returns-in_default
returns-in_default c = next_none c.args.input.now c.args.at (search rules)

pub slice_bounds-line_of-end : goal.slice_bounds-line_of-end
slice_bounds-line_of-end c =
    let rest = c.in-Some.rest.now in
    sym (length-take-le c.line_length-length.result rest (omega (arith, c.line_length-length.ensures, length_high rest)))

pub overflow_add-result : goal.overflow_add-result
overflow_add-result c =
    let rest = c.in-Some.rest.now in
    let found = c.in-Some.ensures.lookup in
    omega (arith, found.0.3, c.line_length-length.ensures, length_high rest)

pub returns : goal.returns
returns c =
    let found = c.in-Some.ensures.lookup in
    line_next c.args.input.now c.args.at (found.0.2 ∙ take_all _ (drop c.args.at c.args.input.now) (omega (arith, length-drop c.args.at c.args.input.now))) c.line_length-length.ensures c.line_of.ensures
