-- `engine_jobs::done` meets its contract: each answer is the first row that holds, and a leftover is listed as its guest goes idle.
use Rattle.std.proofs.Common.{rules, ◌<◌, ◌∙◌, sym, [], ◌∷◌}
use Rattle.rules.specs.declared.Refusal.TheVariants.{GuestIdle}
use Rattle.rules.specs.Calls.{named}
use Rattle.rules.specs.Model.{idle_guest}
use Rattle.rules.specs.Refusals.{◌gives◌}
use Rattle.engine_jobs.proofs.Finishing.{gives_idle, gives_finished, none_left}
use Rattle.engine_time.proofs.Placing.{entry_at, place_at}
use Rattle.engine_time.proofs.Rows.{refused, refused_by, went}
use Rattle.engine_jobs.proofs.done.Goals as goal

pub returns-in_err-sound : goal.returns-in_err-sound
returns-in_err-sound c =
    refused_by _ (c.in_err-sound.ensures.refused (idle_guest (named c.args.s c.args.i) gives 3 ∷ [])) c.from_residual.result c.from_residual.ensures.1

pub returns-then-g-eq0 : goal.returns-then-g-eq0
returns-then-g-eq0 c =
    let f = c.in_ok-sound.ensures.found in
    let h = rw f.0 at c.in_ok-sound.sound.sound in
    refused GuestIdle (gives_idle c.args.s c.args.i h f.1 c.if-g-eq0.true)

pub returns-then-leaves : goal.returns-then-leaves
returns-then-leaves c =
    let f = c.in_ok-sound.ensures.found in
    let h = rw f.0 at c.in_ok-sound.sound.sound in
    let active : 0 < (place_at c.args.s c.args.i).jobs = search rules in
    went (gives_finished c.args.s c.args.i h f.1 active) (rw f.0 at c.with_leftover.ensures)

pub returns : goal.returns
returns c =
    let s = c.args.s in
    let i = c.args.i in
    let f = c.in_ok-sound.ensures.found in
    let h = rw f.0 at c.in_ok-sound.sound.sound in
    let active : 0 < (place_at s i).jobs = search rules in
    went (gives_finished s i h f.1 active) (c.with_guest.ensures ∙ none_left s h i f.1 (sym c.leaves.ensures ∙ c.if-leaves.false) (c.finished.ensures (entry_at s i)))
