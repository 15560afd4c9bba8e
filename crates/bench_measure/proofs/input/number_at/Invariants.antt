-- `bench_measure::input::number_at` is safe and ends: where there is a digit, i is inside the line, so what is left of the line falls.
use Rattle.std.proofs.Common.{◌-◌, length}
use Rattle.bench_measure.proofs.input.number_at.Given as goal

abbrev pub decreases-loop-digit : goal.decreases-loop-digit
decreases-loop-digit l = length l.line - l.i
