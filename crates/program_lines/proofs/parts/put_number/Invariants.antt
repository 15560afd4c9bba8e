-- `program_lines::parts::put_number` meets its contract: at i the digits behind it are stored.
use Rattle.program_lines.proofs.Decimal.{Stored}
use Rattle.program_lines.proofs.parts.put_number.Given as goal

abbrev pub invariant-loop-i : goal.invariant-loop-i
invariant-loop-i l = Stored l.n l.initial.buffer l.at l.i l.rest l.buffer
