-- `engine_time::walk` meets its contract: a refusal is handed on.
use Rattle.engine_time.proofs.Advancing.{walk_refused_by}
use Rattle.engine_time.proofs.walk.Goals as goal

pub returns-in_err-sound : goal.returns-in_err-sound
returns-in_err-sound c = walk_refused_by c.args.s c.args.k _ c.in_err-sound.ensures.answer c.from_residual.result c.from_residual.ensures.1
