-- `c_calls::fresh` meets its contract: the state of an accepted table is the one of zeros with the table in it.
use mathlib.Core.Path.{sym, ◌∙◌}
use Rattle.c_calls.proofs.Starting.{accepted}
use Rattle.c_calls.proofs.fresh.Goals as goal

pub returns-then-refusal-eq0 : goal.returns-then-refusal-eq0
returns-then-refusal-eq0 c =
    let given = c.fresh.ensures in
    let number = c.number_of-refusal.ensures.answer in
    record {
      outcome = c.fresh.result;
      allowed = given;
      state = sym (given.state ∙ accepted c.args.table c.no_state-state.ensures.state (sym (number ∙ given.answer) ∙ c.if-refusal-eq0.true));
      number = number;
    }
