-- `engine_sound::has_room` meets its contract: the mask's ones are the active guests.
use Rattle.std.proofs.Common.{ℕ, ◌+◌, leb, ap}
use Rattle.rules.specs.Limits.{spare_places}
use Rattle.engine_choice.specs.Choice.{in_use}
use Rattle.engine_choice.proofs.Choosing.{count_active}
use Rattle.engine_sound.proofs.has_room.Goals as goal

pub returns : goal.returns
returns c =
    ap (λ (k : ℕ). leb (c.args.listed + k) spare_places) (count_active (in_use c.args.count c.args.guests.now) c.mask_of.ensures.0 c.ones_of-active.ensures)
