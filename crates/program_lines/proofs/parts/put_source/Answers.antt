-- `program_lines::parts::put_source` meets its contract: each source is one number and its letter.
use Rattle.program_text.specs.Lines.{source_bytes}
use Rattle.program_lines.proofs.parts.put_source.Goals as goal

pub returns-in-Own : goal.returns-in-Own
unfolding source_bytes
returns-in-Own c = rw c.in-Own.is c.put_closed.ensures

pub returns-in-SpareOf : goal.returns-in-SpareOf
unfolding source_bytes
returns-in-SpareOf c = rw c.in-SpareOf.is c.put_closed-in-SpareOf.ensures
