-- `engine_state::margin` meets its contract: each refusal has its row, and a sound state's margin fits.
use Rattle.std.proofs.Common.{rules, ◌<◌, ◌∙◌}
use mir.Facts.{to_z-of_z}
use mir.Syntax.{w64}
use Rattle.engine_state.proofs.Margins.{difference_fits, tick_small, deadline_small, margin-told}
use Rattle.engine_time.proofs.Placing.{place_at}
use Rattle.engine_state.proofs.margin.Goals as goal

pub ticks_until-requires : goal.ticks_until-requires
ticks_until-requires c =
    let h = rw c.in_ok-tested.ensures.state at c.in_ok-tested.field-0.sound in
    (deadline_small c.args.s c.args.i h (search rules), tick_small c.args.s c.args.i h)

pub returns : goal.returns
returns c =
    let s = c.args.s in
    let i = c.args.i in
    let h = rw c.in_ok-tested.ensures.state at c.in_ok-tested.field-0.sound in
    let inside : i < s.table.count = search rules in
    let fits = difference_fits (place_at s i).deadline s.now (deadline_small s i h inside) (tick_small s i h) in
    margin-told s i h inside (to_z-of_z {w = w64} (rw c.ticks_until.ensures fits) ∙ c.ticks_until.ensures)
