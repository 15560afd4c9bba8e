-- `table::shares` meets its contract: each share is at most the frame, so the sum fits.
use Rattle.std.proofs.Common.{rules}
use Rattle.laws.proofs.Loops.{summed_more}
use Rattle.rules.specs.Table.{no_entry}
use Rattle.table.proofs.shares.Goals as goal

pub loop-e-preserved : goal.loop-e-preserved
loop-e-preserved c = (search rules, summed_more c.loop-e.invariant.1 no_entry _ c.share-sum.ensures.0 c.loop-e-test.true)
