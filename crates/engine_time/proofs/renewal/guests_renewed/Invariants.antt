-- `renewal::guests_renewed` meets its contract: at i the first i guests are renewed.
use Prim.Native.Nat.{◌≤◌}
use Rattle.rules.specs.Limits.{guest_places}
use Rattle.engine_sound.specs.Inner.{guests_of}
use Rattle.engine_time.proofs.Renewing.{Renewing}
use Rattle.engine_time.proofs.renewal.guests_renewed.Given as goal

abbrev pub invariant-loop-i : goal.invariant-loop-i
invariant-loop-i l = (l.s.table.count ≤ guest_places) × Renewing (guests_of l.s.table.entries l.s.guests l.s.table.count) l.i l.guests
