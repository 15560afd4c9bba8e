-- `engine_time::ask` meets its contract: it says what the rules would do next.
use native.Mathlib.Omega.{arith}
use Rattle.rules.specs.Places.{model}
use Rattle.rules.specs.Steps.{renewed}
use Rattle.promises.proofs.Facts.{points, sane_model}
use Rattle.engine_time.proofs.Asking.{ask-told, ask-next}
use Rattle.engine_time.proofs.Placing.{table_good}
use Rattle.engine_time.proofs.Turning.{placed_due, renewed_early}
use Rattle.engine_time.proofs.ask.Goals as goal

pub picked-pick-requires : goal.picked-pick-requires
picked-pick-requires c =
    let s = c.args.s in
    let same = c.in_ok-sound.ensures.state in
    let h = rw same at c.in_ok-sound.sound.sound in
    let t = table_good s h in
    (omega (arith, t.count_low), t.count_high, placed_due (renewed (model s)).guests (renewed_early (model s) (sane_model s h)) (rw same at c.guests_renewed.ensures))

pub first_left-requires : goal.first_left-requires
first_left-requires c = (omega arith, (points c.args.s (rw c.in_ok-sound.ensures.state at c.in_ok-sound.sound.sound)).few)

pub returns : goal.returns
returns c =
    let s = c.args.s in
    let same = c.in_ok-sound.ensures.state in
    let h = rw same at c.in_ok-sound.sound.sound in
    ask-told s h (ask-next s h c.first_left.result (rw same at c.guests_renewed.ensures) c.picked-pick.ensures c.first_left.ensures c.portion_for.ensures)
