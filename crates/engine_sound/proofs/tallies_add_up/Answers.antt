-- `engine_sound::tallies_add_up` meets its contract: the sum so far is right where it fits.
use Rattle.std.proofs.Common.{rules, arith, refl, take, get_or}
use Rattle.laws.specs.Lists.{total}
use Rattle.laws.proofs.Loops.{summed_more}
use Rattle.rules.specs.Places.{no_guest_place}
use Rattle.engine_sound.specs.Inner.{place_tallies}
use Rattle.engine_sound.proofs.tallies_add_up.Goals as goal

pub loop-g-preserved : goal.loop-g-preserved
loop-g-preserved c =
    let gs = c.args.guests.now in
    let i = c.loop-g.g-index in
    let far = summed_more {f = place_tallies} {xs = gs} {i = i} {sum = total place_tallies (take i gs)} (record { so = refl }) no_guest_place (place_tallies (get_or gs i no_guest_place)) refl (search rules) in
    omega (arith, far.so)
