-- `engine_time::advanced` meets its contract: between two walks the state is that of the ticks made so far.
use Rattle.engine_time.proofs.Advancing.{going_start, going_may, going_less, going_more}
use borrow.Author.Rules.{rules}
use Rattle.engine_time.proofs.advanced.Goals as goal

pub loop-left-init : goal.loop-left-init
loop-left-init c = going_start _ _ c.args.s.sound c.requires

pub invariant_of-walked : goal.invariant_of-walked
invariant_of-walked c = let a = c.args in record { sound = (going_may a.s.state.now a.k a.s.sound c.requires c.loop-left.invariant).0 }

pub walked-w-requires : goal.walked-w-requires
walked-w-requires c = let a = c.args in (going_may a.s.state.now a.k a.s.sound c.requires c.loop-left.invariant).1

pub loop-left-smaller : goal.loop-left-smaller
loop-left-smaller c = let a = c.args in going_less a.s.state.now a.k a.s.sound c.requires c.loop-left.invariant c.walked-w.ensures (search rules)

pub loop-left-preserved : goal.loop-left-preserved
loop-left-preserved c = let a = c.args in going_more a.s.state.now a.k a.s.sound c.requires c.loop-left.invariant c.walked-w.ensures
