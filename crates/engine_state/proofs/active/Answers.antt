-- `engine_state::active` meets its contract: a sound state's guests have their places, and the mask's ones are the active ones.
use Rattle.std.proofs.Common.{rules}
use Rattle.laws.proofs.Places.{length_mapped}
use Rattle.engine_state.proofs.Answering.{active-told}
use Rattle.engine_state.proofs.active.Goals as goal

pub returns : goal.returns
returns c =
    let h = rw c.in_ok-tested.ensures.state at c.in_ok-tested.field-0.sound in
    active-told c.args.s h (search (rules, length_mapped)) (search (rules, length_mapped)) c.mask_of-mask.ensures.0 c.ones_of-actives.ensures
