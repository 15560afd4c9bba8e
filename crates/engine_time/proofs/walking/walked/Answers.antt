-- `walking::walked` meets its contract: between two portions the variables show the model that the walk has reached.
use mathlib.Core.Path.{◌≡◌, refl, sym, subst, ◌∙◌}
use mathlib.Core.Bool.{Bool, ◌&&◌}
use lib.Dec.{ltb}
use Rattle.rules.specs.Limits.{line_places}
use mathlib.Core.List.{List}
use Prim.Native.Nat.{ℕ}
use native.Mathlib.Omega.{arith}
use Rattle.rules.specs.declared.Guest.{Guest as GuestPlace}
use Rattle.rules.specs.declared.Line.{Line as LinePlace}
use Rattle.rules.specs.declared.Spare.{Spare as SparePlace}
use Rattle.rules.specs.declared.State.{State}
use Rattle.engine_time.specs.declared.walking.Clock.{Clock}
use Rattle.engine_time.proofs.Turning.{Walking, walking_start, bounds, turn_fits, turn, portion_in, head_listed, walking_end}
use Rattle.engine_time.proofs.walking.walked.Goals as goal

-- what the loop's test says of whether there is more to walk
goes : {s : State} {k from : ℕ} {ds : List ℕ} {ps : List GuestPlace} {ss : List SparePlace} {qs : List LinePlace} {c : Clock} {count : ℕ} {more is : Bool} → more ≡ is
    → Walking s k from ds ps ss qs c count more → Walking s k from ds ps ss qs c count is
goes {s} {k} {from} {ds} {ps} {ss} {qs} {c} {count} e w = subst (Walking s k from ds ps ss qs c count) e w

pub loop-dues-init : goal.loop-dues-init
loop-dues-init c =
    let s = c.args.s.state.now in
    let from = c.start_of-from.result in
    bounds s c.args.k from c.args.s.sound c.requires
    (subst (λ (ds : List ℕ). Walking s c.args.k from ds c.begun-guests.result s.spares c.no_lines-lines.result c.started-h.result 0 (ltb 0 c.started-h.result.left && ltb 0 line_places)) (sym c.dues_of-dues.ensures)
    (walking_start s c.args.k from c.args.s.sound c.requires c.started-h.ensures c.begun-guests.ensures c.lowest.result c.lowest.ensures c.start_of-from.ensures c.no_lines-lines.ensures))

pub renewed-r-requires : goal.renewed-r-requires
renewed-r-requires c = turn_fits c.args.s.state.now c.args.k c.start_of-from.result c.args.s.sound c.requires (goes (sym c.goes_on.ensures ∙ c.loop-dues-test.true) c.loop-dues.invariant.3)

pub first_left-requires : goal.first_left-requires
first_left-requires c = head_listed c.args.s.state.now c.args.k c.start_of-from.result c.args.s.sound c.requires c.loop-dues.invariant.3

pub offset_bounds-guests-c : goal.offset_bounds-guests-c
offset_bounds-guests-c c =
    let t = turn c.args.s.state.now c.args.k c.start_of-from.result c.args.s.sound c.requires (goes (sym c.goes_on.ensures ∙ c.loop-dues-test.true) c.loop-dues.invariant.3) c.renewed-r.ensures c.due_of.ensures c.soonest-soon.ensures.1 c.ready-pick.ensures c.spare_place-at.ensures.1 c.portion_for-portion.result (c.portion_for-portion.ensures ∙ portion_in _ c.first_left.result c.first_left.ensures _) c.charge_of-c.ensures in
    record { fits = omega (arith, t.inside, c.loop-dues.invariant.0) }

pub bounds-guests-c : goal.bounds-guests-c
bounds-guests-c c =
    let t = turn c.args.s.state.now c.args.k c.start_of-from.result c.args.s.sound c.requires (goes (sym c.goes_on.ensures ∙ c.loop-dues-test.true) c.loop-dues.invariant.3) c.renewed-r.ensures c.due_of.ensures c.soonest-soon.ensures.1 c.ready-pick.ensures c.spare_place-at.ensures.1 c.portion_for-portion.result (c.portion_for-portion.ensures ∙ portion_in _ c.first_left.result c.first_left.ensures _) c.charge_of-c.ensures in
    omega (arith, t.inside, c.loop-dues.invariant.0)

pub ran-requires : goal.ran-requires
ran-requires c =
    let t = turn c.args.s.state.now c.args.k c.start_of-from.result c.args.s.sound c.requires (goes (sym c.goes_on.ensures ∙ c.loop-dues-test.true) c.loop-dues.invariant.3) c.renewed-r.ensures c.due_of.ensures c.soonest-soon.ensures.1 c.ready-pick.ensures c.spare_place-at.ensures.1 c.portion_for-portion.result (c.portion_for-portion.ensures ∙ portion_in _ c.first_left.result c.first_left.ensures _) c.charge_of-c.ensures in
    t.ran

pub spent-requires : goal.spent-requires
spent-requires c =
    let t = turn c.args.s.state.now c.args.k c.start_of-from.result c.args.s.sound c.requires (goes (sym c.goes_on.ensures ∙ c.loop-dues-test.true) c.loop-dues.invariant.3) c.renewed-r.ensures c.due_of.ensures c.soonest-soon.ensures.1 c.ready-pick.ensures c.spare_place-at.ensures.1 c.portion_for-portion.result (c.portion_for-portion.ensures ∙ portion_in _ c.first_left.result c.first_left.ensures _) c.charge_of-c.ensures in
    t.spent

pub offset_bounds-guests-c-in-loop-dues : goal.offset_bounds-guests-c-in-loop-dues
offset_bounds-guests-c-in-loop-dues c =
    let t = turn c.args.s.state.now c.args.k c.start_of-from.result c.args.s.sound c.requires (goes (sym c.goes_on.ensures ∙ c.loop-dues-test.true) c.loop-dues.invariant.3) c.renewed-r.ensures c.due_of.ensures c.soonest-soon.ensures.1 c.ready-pick.ensures c.spare_place-at.ensures.1 c.portion_for-portion.result (c.portion_for-portion.ensures ∙ portion_in _ c.first_left.result c.first_left.ensures _) c.charge_of-c.ensures in
    record { fits = omega (arith, t.inside, c.loop-dues.invariant.0) }

pub bounds-guests-c-in-loop-dues : goal.bounds-guests-c-in-loop-dues
bounds-guests-c-in-loop-dues c =
    let t = turn c.args.s.state.now c.args.k c.start_of-from.result c.args.s.sound c.requires (goes (sym c.goes_on.ensures ∙ c.loop-dues-test.true) c.loop-dues.invariant.3) c.renewed-r.ensures c.due_of.ensures c.soonest-soon.ensures.1 c.ready-pick.ensures c.spare_place-at.ensures.1 c.portion_for-portion.result (c.portion_for-portion.ensures ∙ portion_in _ c.first_left.result c.first_left.ensures _) c.charge_of-c.ensures in
    omega (arith, t.inside, c.loop-dues.invariant.0)

pub line_of-requires : goal.line_of-requires
line_of-requires c =
    let t = turn c.args.s.state.now c.args.k c.start_of-from.result c.args.s.sound c.requires (goes (sym c.goes_on.ensures ∙ c.loop-dues-test.true) c.loop-dues.invariant.3) c.renewed-r.ensures c.due_of.ensures c.soonest-soon.ensures.1 c.ready-pick.ensures c.spare_place-at.ensures.1 c.portion_for-portion.result (c.portion_for-portion.ensures ∙ portion_in _ c.first_left.result c.first_left.ensures _) c.charge_of-c.ensures in
    t.now

pub later-h-requires : goal.later-h-requires
later-h-requires c =
    let t = turn c.args.s.state.now c.args.k c.start_of-from.result c.args.s.sound c.requires (goes (sym c.goes_on.ensures ∙ c.loop-dues-test.true) c.loop-dues.invariant.3) c.renewed-r.ensures c.due_of.ensures c.soonest-soon.ensures.1 c.ready-pick.ensures c.spare_place-at.ensures.1 c.portion_for-portion.result (c.portion_for-portion.ensures ∙ portion_in _ c.first_left.result c.first_left.ensures _) c.charge_of-c.ensures in
    t.later

pub loop-dues-preserved : goal.loop-dues-preserved
loop-dues-preserved c =
    let t = turn c.args.s.state.now c.args.k c.start_of-from.result c.args.s.sound c.requires (goes (sym c.goes_on.ensures ∙ c.loop-dues-test.true) c.loop-dues.invariant.3) c.renewed-r.ensures c.due_of.ensures c.soonest-soon.ensures.1 c.ready-pick.ensures c.spare_place-at.ensures.1 c.portion_for-portion.result (c.portion_for-portion.ensures ∙ portion_in _ c.first_left.result c.first_left.ensures _) c.charge_of-c.ensures in
    bounds c.args.s.state.now c.args.k c.start_of-from.result c.args.s.sound c.requires (t.more c.ran.ensures c.spent.ensures c.line_of.ensures c.later-h.ensures refl)

pub walk_of-requires : goal.walk_of-requires
walk_of-requires c = head_listed c.args.s.state.now c.args.k c.start_of-from.result c.args.s.sound c.requires c.loop-dues.invariant.3

pub returns : goal.returns
returns c = walking_end c.args.s.state.now c.args.k c.start_of-from.result c.args.s.sound c.requires (goes (sym c.goes_on.ensures ∙ c.loop-dues-test.false) c.loop-dues.invariant.3) c.walk_of.ensures
