-- `schedule::fill` meets its contract: at each turn so many turns were made, and their bytes stand at the buffer's front.
use Rattle.schedule.proofs.Looping.{filling_start, filling_over, filling_full, filling_less, filling_more}
use borrow.Author.Rules.{rules}
use Rattle.schedule.proofs.fill.Goals as goal

pub loop-buffer-init : goal.loop-buffer-init
loop-buffer-init c = filling_start _ _ _

pub loop-buffer-smaller : goal.loop-buffer-smaller
loop-buffer-smaller c = filling_less c.loop-buffer.invariant (search rules) (search rules) c.turn-turned.ensures

pub loop-buffer-preserved : goal.loop-buffer-preserved
loop-buffer-preserved c = filling_more c.loop-buffer.invariant (search rules) (search rules) c.turn-turned.ensures

pub returns-else-has_room : goal.returns-else-has_room
returns-else-has_room c = filling_full c.loop-buffer.invariant c.has_room.ensures (search rules) (search rules)

pub returns-after-loop-buffer : goal.returns-after-loop-buffer
returns-after-loop-buffer c = filling_over c.loop-buffer.invariant c.is_going.ensures (search rules)
