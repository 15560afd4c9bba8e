-- `arrival::is_full` meets its contract: the spares and the mask's ones are what is occupied.
use mathlib.Core.Path.{ap}
use Prim.Native.Nat.{ℕ}
use native.Mathlib.Omega.{arith}
use lib.Dec.{eqb}
use Rattle.rules.specs.Limits.{spare_places}
use Rattle.promises.proofs.Facts.{points}
use Rattle.engine_jobs.proofs.Arriving.{occupied-told}
use Rattle.engine_jobs.proofs.arrival.is_full.Goals as goal

pub overflow_add-result : goal.overflow_add-result
overflow_add-result c =
    record { fits = omega (arith, (points c.args.s.state.now c.args.s.sound).few) }

pub returns : goal.returns
returns c =
    ap (λ (n : ℕ). eqb n spare_places) (occupied-told c.args.s.state.now c.args.s.sound c.mask_of-mask.ensures.0 c.ones_of-active.ensures)
