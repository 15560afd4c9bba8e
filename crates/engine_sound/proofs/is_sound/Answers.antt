-- `engine_sound::is_sound` meets its contract: a count past its places is not sound.
use mathlib.Core.Path.{ap, sym, ◌∙◌}
use mathlib.Core.Bool.{not}
use native.Mathlib.Omega.{arith}
use borrow.Author.Tests.{lt-leb}
use Rattle.promises.proofs.GoodTable.{good_table_lem}
use Rattle.engine_sound.proofs.Sounding.{table_told, bad_table, too_many, too_late}
use borrow.Author.Rules.{rules}
use Rattle.engine_sound.proofs.is_sound.Goals as goal

pub returns-then-is_err : goal.returns-then-is_err
returns-then-is_err c =
    let t = c.args.s.table in
    bad_table c.args.s (sym (table_told t c.check.result c.check.ensures.answer) ∙ c.is_err.ensures.negation ∙ ap not c.if-is_err.true)

pub returns-then-s-gt-SPARE_PLACES : goal.returns-then-s-gt-SPARE_PLACES
returns-then-s-gt-SPARE_PLACES c = too_many c.args.s (omega arith)

pub all_holds-requires : goal.all_holds-requires
all_holds-requires c =
    let t = c.args.s.table in
    let good = sym (table_told t c.check.result c.check.ensures.answer) ∙ c.is_err.ensures.negation ∙ ap not c.if-is_err.false in
    (good, (good_table_lem t good).count_high, search rules, search rules)

pub returns-else-s-le-LAST_TICK : goal.returns-else-s-le-LAST_TICK
returns-else-s-le-LAST_TICK c = lt-leb _ _ c.if-s-le-LAST_TICK.false ∙ too_late c.args.s c.if-s-le-LAST_TICK.false
