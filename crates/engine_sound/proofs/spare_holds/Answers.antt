-- `engine_sound::spare_holds` meets its contract: the owner's numbers are read where there is such a guest.
use Rattle.std.proofs.Common.{◌∙◌}
use Rattle.engine_sound.proofs.Testing.{owner_asked, no_owner}
use Rattle.engine_sound.proofs.spare_holds.Goals as goal

pub returns-then-x-guests : goal.returns-then-x-guests
returns-then-x-guests c = c.spare_fits.ensures ∙ owner_asked c.args.now c.args.entries.now c.args.guests.now c.args.x.now c.requires.0 c.if-x-guests.true

pub returns-else-x-guests : goal.returns-else-x-guests
returns-else-x-guests c = no_owner c.args.now c.args.entries.now c.args.guests.now c.args.x.now c.requires.0 c.if-x-guests.false
