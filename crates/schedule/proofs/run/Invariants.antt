-- `schedule::run` is safe and ends: with each filling less is to go.
use Rattle.program_listing.specs.Turning.{to_go}
use Rattle.schedule.proofs.run.Given as goal

abbrev pub decreases-loop-held : goal.decreases-loop-held
decreases-loop-held l = to_go l.input l.held
