-- `engine_choice::mask_of` meets its contract: at i the mask has the bits of the first i guests.
use Rattle.std.proofs.Common.{rules, ap, ◌∙◌}
use Rattle.rules.specs.Limits.{guest_places}
use Rattle.rules.specs.Model.{mask_of}
use Rattle.laws.proofs.Places.{length_mapped}
use Rattle.engine_choice.proofs.Choosing.{masked_more, masked_end, in_use_all}
use Rattle.engine_choice.proofs.mask_of.Goals as goal

pub loop-i-preserved : goal.loop-i-preserved
loop-i-preserved c = masked_more c.loop-i.invariant 32 _ _ c.bit_of.ensures (search rules) (search rules)

pub returns : goal.returns
returns c =
    let m = masked_end c.loop-i.invariant guest_places (search rules) (search rules) in
    (m.0 ∙ ap mask_of (in_use_all guest_places c.args.count c.args.guests.now c.min.ensures (search (rules, length_mapped))), m.1)
