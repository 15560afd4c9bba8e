-- `program_script::value_of` meets its contract: the digits so far make the value.
use native.Mathlib.Omega.{arith}
use Rattle.std.proofs.Common.{get_or}
use Rattle.program_script.proofs.Digits.{digit_high, valued_small, valued_more, valued_end}
use borrow.Author.Rules.{rules}
use Rattle.program_script.proofs.value_of.Goals as goal

pub overflow_mul-value : goal.overflow_mul-value
overflow_mul-value c = omega (arith, valued_small c.loop-b.invariant (omega (arith, c.requires.few)))

pub overflow_add-value : goal.overflow_add-value
overflow_add-value c =
    omega (arith, valued_small c.loop-b.invariant (omega (arith, c.requires.few)), digit_high (get_or c.args.digits.now c.loop-b.b-index 0) (c.requires.all c.loop-b.b-index (search rules)), c.from.ensures)

pub loop-b-preserved : goal.loop-b-preserved
loop-b-preserved c = valued_more c.loop-b.invariant (search rules) (c.requires.all c.loop-b.b-index (search rules)) (search rules)

pub returns : goal.returns
returns c = valued_end c.loop-b.invariant (search rules)
