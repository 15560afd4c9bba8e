-- `program_lines::put_end` meets its contract: the tick stands behind its word.
use Rattle.program_lines.proofs.Putting.{end_parts, line_put}
use borrow.Author.Rules.{rules}
use Rattle.program_lines.proofs.put_end.Goals as goal

pub returns : goal.returns
returns c =
    line_put c.args.buffer.now c.args.filled c.has_room.ensures c.if-not-has_room.false
    (end_parts c.args.buffer.now c.args.filled c.args.tick c.copy_from_slice.ensures.after (search rules) c.put_closed.ensures)
