-- `program_lines::parts::digit_count` meets its contract: one more than the logarithm, and a number of 64 bits has 20 at most.
use native.Mathlib.Omega.{arith}
use Rattle.program_lines.proofs.Decimal.{counted}
use Rattle.program_lines.proofs.parts.digit_count.Goals as goal

pub returns : goal.returns
returns c =
    let log = c.ilog10.ensures in
    (counted c.ilog10.result c.args.n (rw c.max.ensures at log.power_le) (rw c.max.ensures at log.next_power_gt), omega (arith, log.bound))
