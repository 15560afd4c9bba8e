-- `completion::with_leftover` meets its contract: an active guest has a place for its leftover, and what is listed is the rule's.
use native.Mathlib.Omega.{arith}
use Rattle.engine_jobs.proofs.Finishing.{has_place, some_left}
use Rattle.engine_time.proofs.Placing.{spares_unused}
use Rattle.engine_jobs.proofs.completion.with_leftover.Goals as goal

pub inserted-requires-clause-listed_lt_spare_places : goal.inserted-requires-clause-listed_lt_spare_places
inserted-requires-clause-listed_lt_spare_places c =
    has_place c.args.s.state.now c.args.s.sound c.args.i c.requires.inside c.requires.no_guest_place_value

pub inserted-requires-clause-spares_value : goal.inserted-requires-clause-spares_value
inserted-requires-clause-spares_value c = spares_unused c.args.s.state.now c.args.s.sound

pub overflow_add-result : goal.overflow_add-result
overflow_add-result c =
    record { fits = omega (arith, has_place c.args.s.state.now c.args.s.sound c.args.i c.requires.inside c.requires.no_guest_place_value) }

pub returns : goal.returns
returns c =
    some_left c.args.s.state.now c.args.s.sound c.args.i c.requires.inside c.requires.no_guest_place_value (c.finished.ensures _) c.inserted.ensures
