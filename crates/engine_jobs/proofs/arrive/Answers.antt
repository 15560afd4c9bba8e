-- `engine_jobs::arrive` meets its contract: each answer is the first row that holds, and the guest joins or wakes in its place.
use Rattle.std.proofs.Common.{rules, arith, ◌≡◌, ◌∙◌, ap, sym, false, eqb}
use Rattle.rules.specs.declared.Guest.{Guest as GuestPlace}
use Rattle.rules.specs.declared.Refusal.TheVariants.{JobsFull, NoRoom, DeadlineTooFar}
use Rattle.rules.specs.Limits.{spare_places}
use Rattle.rules.specs.Model.{occupied}
use Rattle.rules.specs.Places.{model, guest_place}
use Rattle.rules.specs.Calls.{named}
use Rattle.engine_jobs.proofs.Arriving.{RowsOf, wakes, wake_fits, gives_jobs_full, gives_joined, gives_no_room, gives_too_far, gives_woken, arrival_stored}
use Rattle.engine_time.proofs.Placing.{entry_at, place_at, jobs_few}
use Rattle.engine_time.proofs.Rows.{refused, refused_by, went}
use Rattle.engine_jobs.proofs.arrive.Goals as goal

pub returns-in_err-sound : goal.returns-in_err-sound
returns-in_err-sound c =
    refused_by _ (c.in_err-sound.ensures.refused (RowsOf c.args.s c.args.i (named c.args.s c.args.i))) c.from_residual.result c.from_residual.ensures.1

pub returns-then-g-eq-MOST_JOBS : goal.returns-then-g-eq-MOST_JOBS
returns-then-g-eq-MOST_JOBS c =
    let f = c.in_ok-sound.ensures.found in
    let h = rw f.0 at c.in_ok-sound.sound.sound in
    refused JobsFull (gives_jobs_full c.args.s c.args.i h f.1 c.if-g-eq-MOST_JOBS.true)

pub joined-requires : goal.joined-requires
joined-requires c =
    let f = c.in_ok-sound.ensures.found in
    let h = rw f.0 at c.in_ok-sound.sound.sound in
    (search rules, omega (arith, jobs_few c.args.s h c.args.i f.1))

pub returns-then-g-gt0 : goal.returns-then-g-gt0
returns-then-g-gt0 c =
    let s = c.args.s in
    let i = c.args.i in
    let f = c.in_ok-sound.ensures.found in
    let h = rw f.0 at c.in_ok-sound.sound.sound in
    went (gives_joined s i h f.1 c.if-g-eq-MOST_JOBS.false c.if-g-gt0.true) (c.with_guest.ensures ∙ arrival_stored s h i f.1 (c.joined.ensures (entry_at s i) s.now))

pub returns-then-is_full : goal.returns-then-is_full
returns-then-is_full c =
    let f = c.in_ok-sound.ensures.found in
    let h = rw f.0 at c.in_ok-sound.sound.sound in
    refused NoRoom (gives_no_room c.args.s c.args.i h f.1 c.if-g-eq-MOST_JOBS.false c.if-g-gt0.false (sym (rw f.0 at c.is_full.ensures) ∙ c.if-is_full.true))

pub woken-awake-requires : goal.woken-awake-requires
woken-awake-requires c =
    let f = c.in_ok-sound.ensures.found in
    let h = rw f.0 at c.in_ok-sound.sound.sound in
    wake_fits c.args.s c.args.i h f.1

pub returns-then-awake-gt-DEADLINE_CAP : goal.returns-then-awake-gt-DEADLINE_CAP
returns-then-awake-gt-DEADLINE_CAP c =
    let f = c.in_ok-sound.ensures.found in
    let h = rw f.0 at c.in_ok-sound.sound.sound in
    let room : eqb (occupied (model c.args.s)) spare_places ≡ false = sym (rw f.0 at c.is_full.ensures) ∙ c.if-is_full.false in
    let deadline = ap (λ (g : GuestPlace). g.deadline) c.woken-awake.ensures in
    refused DeadlineTooFar (gives_too_far c.args.s c.args.i h f.1 c.if-g-eq-MOST_JOBS.false c.if-g-gt0.false room (omega (arith, deadline, c.if-awake-gt-DEADLINE_CAP.true)))

pub returns : goal.returns
returns c =
    let s = c.args.s in
    let i = c.args.i in
    let f = c.in_ok-sound.ensures.found in
    let h = rw f.0 at c.in_ok-sound.sound.sound in
    let room : eqb (occupied (model s)) spare_places ≡ false = sym (rw f.0 at c.is_full.ensures) ∙ c.if-is_full.false in
    let deadline = ap (λ (g : GuestPlace). g.deadline) c.woken-awake.ensures in
    went (gives_woken s i h f.1 c.if-g-eq-MOST_JOBS.false c.if-g-gt0.false room (omega (arith, deadline, c.if-awake-gt-DEADLINE_CAP.false)))
    (c.with_guest-2.ensures ∙ arrival_stored s h i f.1 (c.woken-awake.ensures ∙ ap guest_place (wakes (entry_at s i) (place_at s i) s.now c.if-g-gt0.false)))
