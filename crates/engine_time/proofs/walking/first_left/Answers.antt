-- `walking::first_left` meets its contract: of the spares that are left it is the first.
use mathlib.Core.Path.{ap, ◌∙◌}
use Rattle.engine_choice.specs.Clauses.{first_of}
use Rattle.engine_time.proofs.Leaving.{first_listed}
use Rattle.engine_time.proofs.walking.first_left.Goals as goal

pub returns : goal.returns
returns c = ap first_of (c.copied.ensures ∙ c.first.ensures.value) ∙ first_listed c.args.spares.now c.args.head c.args.listed
