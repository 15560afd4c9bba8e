-- `program_lines::parts::put_used` meets its contract: two parts, one behind the other, for each case.
use native.Mathlib.Omega.{arith}
use Rattle.program_text.specs.Lines.{used_bytes}
use Rattle.program_lines.proofs.Putting.{part_on, part_within}
use Rattle.program_lines.proofs.parts.put_used.Goals as goal

pub returns-in-Run : goal.returns-in-Run
unfolding used_bytes
returns-in-Run c = rw c.in-Run.is (part_on c.put_spaced-behind.ensures c.put_source.ensures)

pub returns-in-Burn : goal.returns-in-Burn
unfolding used_bytes
returns-in-Burn c = rw c.in-Burn.is (part_within (omega arith) (part_on c.put_dash-behind.ensures c.put_closed.ensures))

pub returns-in-Nothing : goal.returns-in-Nothing
unfolding used_bytes
returns-in-Nothing c = rw c.in-Nothing.is (part_within (omega arith) (part_on c.put_dash-behind-in-Nothing.ensures c.put_dash.ensures))
