-- `engine_state::no_state` meets its contract: the state of the empty table.
use Rattle.std.proofs.Common.{ap, ◌∙◌}
use Rattle.rules.specs.Places.{fresh_state, no_state}
use Rattle.engine_state.proofs.no_state.Goals as goal

pub returns : goal.returns
unfolding no_state
returns c = record { state = c.started.ensures ∙ ap fresh_state c.no_table.ensures.table }
