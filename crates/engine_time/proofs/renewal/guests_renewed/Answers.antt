-- `renewal::guests_renewed` meets its contract: at i the first i guests are renewed.
use Rattle.engine_time.proofs.Renewing.{in_places, renewing_first, renewing_fits, renewing_next, renewing_last}
use borrow.Author.Rules.{rules}
use Rattle.engine_time.proofs.renewal.guests_renewed.Goals as goal

pub loop-i-init : goal.loop-i-init
loop-i-init c = (in_places c.args.s.state.now c.args.s.sound, renewing_first c.args.s.state.now c.args.s.sound)

pub renewed-requires : goal.renewed-requires
renewed-requires c = renewing_fits c.args.s.state.now c.args.s.sound (search rules)

pub loop-i-preserved : goal.loop-i-preserved
loop-i-preserved c = (c.loop-i.invariant.0, renewing_next c.args.s.state.now c.args.s.sound (search rules) c.loop-i.invariant.1 c.renewed.ensures)

pub returns : goal.returns
returns c = renewing_last c.args.s.state.now c.args.s.sound c.loop-i.invariant.1 (search rules)
