-- `walking::spares_left` meets its contract: the spares from the head on stand at the front.
use native.Mathlib.Omega.{arith}
use Rattle.engine_time.proofs.Leaving.{left_first}
use Rattle.engine_time.proofs.walking.spares_left.Goals as goal

pub returns : goal.returns
returns c =
    let d = c.default-left.ensures in
    left_first c.args.spares.now c.args.head c.args.listed (omega arith) c.default-left.result (d.0, d.1.0, d.1.1) c.copy_from_slice.ensures.after
