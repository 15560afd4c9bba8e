-- `image_storing::store::store_entries`: at i the first i entries are stored.
use Rattle.image_storing.proofs.Storing.{Stored}
use Rattle.image_storing.proofs.store.store_entries.Given as goal

abbrev pub invariant-loop-i : goal.invariant-loop-i
invariant-loop-i l = Stored l.entries l.initial.buffer l.i l.buffer
