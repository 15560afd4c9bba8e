-- `program_lines::parts::put_number` meets its contract: at i the digits behind it are stored.
use Prim.Native.Nat.{◌+◌}
use native.Mathlib.Omega.{arith}
use Rattle.program_text.proofs.Decimal.{decimal_long}
use Rattle.program_lines.proofs.Decimal.{stored_start, stored_more, stored_end}
use borrow.Author.Rules.{rules}
use Rattle.program_lines.proofs.parts.put_number.Goals as goal

pub loop-i-init : goal.loop-i-init
loop-i-init c =
    let a = c.args in
    stored_start a.n a.buffer.now a.at (a.at + c.digit_count.result) (search rules)

pub loop-i-preserved : goal.loop-i-preserved
loop-i-preserved c = stored_more c.loop-i.invariant (omega arith) (search rules)

pub returns : goal.returns
returns c =
    let n = c.args.n in
    record {
      content = stored_end c.loop-i.invariant (search rules);
      behind = omega (arith, decimal_long n);
      short = omega (arith, decimal_long n);
    }
