-- `image_storing::store::store_entries`: one entry more is stored behind those that are.
use mathlib.Core.Path.{refl}
use native.Mathlib.Omega.{arith}
use Rattle.image_storing.proofs.Storing.{stored_more, stored_all}
use Rattle.image_storing.proofs.store.store_entries.Goals as goal

pub loop-i-preserved : goal.loop-i-preserved
loop-i-preserved c = stored_more c.args.entries.now c.args.buffer.now c.loop-i.i c.loop-i.invariant (omega arith) c.store_words.ensures

pub loop-i-init : goal.loop-i-init
loop-i-init c = record { so = refl }

pub returns : goal.returns
returns c = stored_all c.loop-i.invariant (omega arith)
