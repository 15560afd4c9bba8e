-- `table::shares` meets its contract: each share is at most the frame, so the sum fits.
use Prim.Native.Nat.{◌≤◌, ◌*◌}
use Rattle.laws.proofs.Loops.{Summed}
use Rattle.rules.specs.Limits.{longest_frame}
use Rattle.rules.specs.Table.{share_of}
use Rattle.table.proofs.shares.Given as goal

abbrev pub invariant-loop-e : goal.invariant-loop-e
invariant-loop-e l = (l.sum ≤ longest_frame * l.e-index) × Summed (share_of l.frame) l.used l.e-index l.sum
