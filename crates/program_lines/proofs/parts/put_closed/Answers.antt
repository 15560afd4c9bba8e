-- `program_lines::parts::put_closed` meets its contract: the byte stands behind the number.
use native.Mathlib.Omega.{arith}
use Rattle.program_lines.proofs.Putting.{part_byte, part_on}
use Rattle.program_lines.proofs.parts.put_closed.Goals as goal

pub returns : goal.returns
returns c = part_on c.put_spaced-behind.ensures (part_byte c.args.last _ c.put_spaced-behind.result (omega arith))
