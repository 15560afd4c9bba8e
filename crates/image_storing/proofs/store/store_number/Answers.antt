-- `image_storing::store::store_number`: the bytes copied are the number's.
use mathlib.Core.Path.{ap, ◌∙◌}
use native.Mathlib.Omega.{arith}
use lib.ListN.{take}
use Rattle.image_storing.proofs.Storing.{stored_number}
use Rattle.image_storing.proofs.store.store_number.Goals as goal

pub returns : goal.returns
returns c =
    let part = c.copy_from_slice.ensures.after ∙ ap (take c.args.width) c.to_le_bytes.ensures in
    stored_number c.args.buffer.now c.args.at _ c.args.width c.args.x c.requires.0 c.requires.1 (omega arith) part
