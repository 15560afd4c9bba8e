-- `program_lines::put_portion` meets its contract: its parts stand one behind the other.
use Rattle.program_lines.proofs.Putting.{portion_parts, line_put}
use Rattle.program_lines.proofs.put_portion.Goals as goal

pub returns : goal.returns
returns c =
    line_put c.args.buffer.now c.args.filled c.has_room.ensures c.if-not-has_room.false
    (portion_parts c.args.buffer.now c.args.filled c.args.line c.put_number-first.ensures c.put_spaced-end.ensures c.put_used-behind.ensures)
