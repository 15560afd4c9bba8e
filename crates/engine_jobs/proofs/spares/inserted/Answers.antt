-- `engine_jobs::spares::inserted` meets its contract: x is put where the search says that it belongs.
use Rattle.std.proofs.Common.{rules, ap, ◌∙◌}
use lib.ListN.{set}
use Rattle.engine_jobs.proofs.Sparing.{inserted_places}
use Rattle.engine_jobs.proofs.spares.inserted.Goals as goal

pub returns : goal.returns
returns c =
    ap (λ l. set l c.place_of-at.result c.args.x) c.copy_within.ensures.after
    ∙ inserted_places c.args.x c.args.spares c.args.listed c.place_of-at.result c.requires.spares_value c.requires.listed_lt_spare_places c.place_of-at.ensures.place (search rules)
