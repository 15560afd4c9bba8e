-- `engine_jobs::spares::place_of` meets its contract: the search's answer, or the end where it finds none.
use Rattle.std.proofs.Common.{rules, length, unwrap_or, ap, ◌∙◌}
use Rattle.std.proofs.lemmas.Iterator.{YieldsList-from_slice}
use Rattle.std.proofs.lemmas.Iterator.Search.{position_from_yields_List}
use Rattle.std.proofs.lemmas.List.Sums.{prefix_len-le-length}
use Rattle.engine_jobs.proofs.Sparing.{Before, place_or_end}
use Rattle.engine_jobs.proofs.spares.place_of.Goals as goal

pub returns : goal.returns
returns c =
    let spares = c.args.spares.now in
    let found = position_from_yields_List (Before c.args.x) _ _ c.position.result c.position.ensures.ran (YieldsList-from_slice spares (cc)) (λ x b q k. search rules) in
    let place = c.unwrap_or.ensures ∙ ap (λ o. unwrap_or o (length spares)) found ∙ place_or_end (Before c.args.x) spares in
    record { inside = rw place (prefix_len-le-length _ spares); place = place }
