-- `image_storing::write`: a table that passes its check has an image, and the stores leave it at the buffer's front.
use mathlib.Core.Path.{sym}
use native.Mathlib.Omega.{arith}
use Rattle.image_storing.proofs.Storing.{written}
use Rattle.image_storing.proofs.write.Goals as goal

pub returns : goal.returns
returns c = written c.args.t c.args.buffer.now (sym c.in_ok-check.ensures.answer) (omega arith) c.store_entries.ensures c.store_trailer.ensures
