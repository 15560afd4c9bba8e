-- `program_lines::put_refusal` meets its contract: the number stands behind its mark.
use Rattle.program_lines.proofs.Putting.{refusal_parts, line_put}
use Rattle.program_lines.proofs.put_refusal.Goals as goal

pub returns : goal.returns
returns c =
    line_put c.args.buffer.now c.args.filled c.has_room.ensures c.if-not-has_room.false
    (refusal_parts c.args.buffer.now c.args.filled c.args.number c.put_closed.ensures)
