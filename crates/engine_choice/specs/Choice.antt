-- What the mask and the choice read of the guests, and the rules' pick for what the code answers.
use Rattle.std.specs.Prelude.{List, map, ℕ, take, Option, Some, None}
use Rattle.rules.specs.declared.Guest.{Guest as GuestPlace}
use Rattle.rules.specs.Model.{Guest}
use Rattle.rules.specs.Places.{guest_of}
use Rattle.rules.specs.Steps.{Pick, nobody, picked}
use Rattle.rules.specs.Table.{no_entry}
use Rattle.engine_choice.specs.declared.Pick.{Pick as DeclaredPick}

-- a guest without its entry in the table: who runs does not depend on Q and T
abbrev pub shown : GuestPlace → Guest
shown g = guest_of no_entry g

-- the first n guests
abbrev pub in_use : ℕ → List GuestPlace → List Guest
in_use n gs = map shown (take n gs)

-- the rules' pick that the code's pick stands for
unfoldable pub pick_of : Option DeclaredPick → Pick
pick_of None = nobody
pick_of (Some p) = picked p.guest p.deadline p.current
