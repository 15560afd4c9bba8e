-- `run_guests` meets its contract: Ask went, so its answer has a span of at least one tick.
use Rattle.example_loop.proofs.Asking.{span_some}
use Rattle.example_loop.proofs.run_guests.Goals as goal

pub ticks_to_run-ticks-requires-clause-within_span : goal.ticks_to_run-ticks-requires-clause-within_span
ticks_to_run-ticks-requires-clause-within_span c = span_some _ _ c.in-Ok.ensures
