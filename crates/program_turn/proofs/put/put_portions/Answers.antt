-- `program_turn::put::put_portions` meets its contract: the lines of the first portions are put.
use native.Mathlib.Omega.{arith}
use Rattle.rules.specs.declared.Source.TheVariants.{Own}
use Rattle.rules.specs.declared.Use.TheVariants.{Run}
use Rattle.program_turn.proofs.Doing.{shown_long, shown_more}
use borrow.Author.Rules.{rules}
use Rattle.program_turn.proofs.put.put_portions.Goals as goal

pub loop-line-preserved : goal.loop-line-preserved
loop-line-preserved c =
    let shown = c.loop-line.invariant in
    shown_more shown (record { first = 0; end = 0; used = Run 0 Own }) (search rules) (omega (arith, shown.short, shown_long shown)) c.put_portion-end.ensures
