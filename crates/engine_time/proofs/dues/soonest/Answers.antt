-- `dues::soonest` meets its contract: at i the best of the guests before i is known, whatever guests the numbers decide for.
use mathlib.Core.Path.{◌≡◌, refl, ap, ◌∙◌}
use mathlib.Core.Bool.{Bool, cond}
use native.Mathlib.Omega.{arith}
use lib.Dec.{ltb}
use lib.ListN.{get_or}
use Rattle.engine_time.proofs.Searching.{searched_start, searched_more, either_inside}
use borrow.Author.Rules.{rules}
use borrow.Author.Tests.{lt-ltb, le-ltb}
use Rattle.engine_time.proofs.dues.soonest.Goals as goal
use Rattle.engine_time.proofs.dues.soonest.Goals.{then-dues-i, else-dues-i}

pub loop-i-init : goal.loop-i-init
loop-i-init c = (search rules, λ gs m l. searched_start gs c.args.count l c.args.from (search rules))

-- a turn that leaves the better of two as the best
pub loop-i-preserved : goal.loop-i-preserved
loop-i-preserved c =
    let i = c.loop-i.i in
    let best = c.loop-i.best in
    let ds = c.args.dues.now in
    let count = c.args.count in
    let better : c.if-dues-i.best ≡ cond (ltb (get_or ds i 0) (get_or ds best 0)) i best =
    elim c.if-dues-i.branch [
      | then-dues-i w ↦ w.best-is ∙ rw (lt-ltb _ _ w.if-dues-i.true) refl
      | else-dues-i w ↦ w.best-is ∙ rw (le-ltb _ _ w.if-dues-i.false) refl
    ] in (
      either_inside (ltb (get_or ds i 0) (get_or ds best 0)) i best better (search rules) (search rules),
      λ gs m h. searched_more gs count h (c.loop-i.invariant.1 gs m h) (better ∙ ap (λ (t : Bool). cond t i best) (m best i (omega (arith, h, c.loop-i.invariant.0)) (omega arith))) c.loop-i-test.true,
    )
