-- `walking::begun` meets its contract: with no tick to make, no guest is renewed.
use mathlib.Core.Path.{sym}
use Rattle.engine_time.proofs.Placing.{guests_back}
use Rattle.engine_time.proofs.walking.begun.Goals as goal

pub returns-then-k-eq0 : goal.returns-then-k-eq0
returns-then-k-eq0 c = rw c.if-k-eq0.true (sym (guests_back c.args.s.state.now c.args.s.sound))
