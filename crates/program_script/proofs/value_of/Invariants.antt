-- `program_script::value_of` meets its contract: the digits so far make the value.
use Rattle.program_script.proofs.Digits.{Valued}
use Rattle.program_script.proofs.value_of.Given as goal

abbrev pub invariant-loop-b : goal.invariant-loop-b
invariant-loop-b l = Valued l.digits l.b-index l.value
