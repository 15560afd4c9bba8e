-- What the parts of a line are read as: the contract of the code's own functions, of which the public one is made.
use Rattle.std.specs.Prelude.{Option, None, Some}
use Rattle.program_text.specs.Numbers.{Got, no_number, got}
use Rattle.program_script.specs.declared.Number.{Number}

-- what the code's answer says
abbrev pub got_in : Option Number → Got
got_in None = no_number
got_in (Some n) = got n.value n.rest.now
