-- `fresh_state::started` meets its contract: the default places are the unused ones.
use Rattle.std.proofs.Common.{◌≡◌, replicate}
use Rattle.rules.specs.Limits.{guest_places, spare_places}
use Rattle.rules.specs.Places.{fresh_state, no_guest_place, no_spare_place}
use Rattle.engine_state.proofs.fresh_state.started.Goals as goal

pub returns : goal.returns
unfolding fresh_state
returns c =
    let g = c.default.ensures in
    let x = c.default-2.ensures in
    let guest : c.default.result ≡ no_guest_place = λ j. record { jobs = g.0 j; current = g.1.0 j; deadline = g.1.1.0 j; own = g.1.1.1.0 j; borrowed = g.1.1.1.1 j } in
    let spare : c.default-2.result ≡ no_spare_place = λ j. record { deadline = x.0 j; owner = x.1.0 j; capacity = x.1.1 j } in
    λ j. record { table = c.args.t; now = 0; guests = replicate guest_places (guest j); listed = 0; spares = replicate spare_places (spare j); burned = 0; empty = 0 }
