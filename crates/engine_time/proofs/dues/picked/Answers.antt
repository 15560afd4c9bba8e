-- `dues::picked` meets its contract: nobody before the lowest active guest runs, and from there the numbers decide as the guests do.
use mathlib.Core.Path.{◌∙◌}
use native.Mathlib.Omega.{arith}
use Rattle.laws.proofs.Places.{length_mapped}
use Rattle.rules.specs.Limits.{guest_places}
use Rattle.engine_choice.specs.Choice.{in_use}
use Rattle.engine_choice.proofs.Choosing.{in_use_few}
use Rattle.engine_time.proofs.Mirroring.{mirrors, starts_first}
use borrow.Author.Rules.{rules}
use Rattle.engine_time.proofs.dues.picked.Goals as goal
use Rattle.engine_time.proofs.dues.picked.Goals.{After-soonest-soon}

pub returns : goal.returns
returns c =
    let gs = c.args.guests in
    c.ready.ensures
    ∙ c.soonest-soon.ensures.1 gs (mirrors gs c.dues_of.ensures c.requires.2) (search (rules, length_mapped))
    ∙ starts_first c.args.count c.lowest.result c.start_of-from.result c.start_of-from.ensures (in_use c.args.count gs) c.lowest.ensures (in_use_few 32 c.args.count gs guest_places (search (rules, length_mapped)) (omega arith))
