-- `engine_time::checked` meets its contract: the answer is the first row that holds.
use native.Mathlib.Omega.{arith}
use borrow.Author.Rules.{rules}
use Rattle.engine_time.proofs.Advancing.{in_time, gives_advanced}
use Rattle.engine_time.proofs.checked.Goals as goal

pub overflow_sub-s : goal.overflow_sub-s
overflow_sub-s c = in_time c.args.s.now c.args.k (rw c.in_ok-sound.ensures.state at c.in_ok-sound.sound.sound)

pub returns : goal.returns
returns c =
    let same = c.in_ok-sound.ensures.state in
    let h = rw same at c.in_ok-sound.sound.sound in
    record { answer = gives_advanced c.args.s.now c.args.k h (search rules); went = (same, rw same (omega (arith, in_time c.args.s.now c.args.k h, c.if-s-k.false))) }
