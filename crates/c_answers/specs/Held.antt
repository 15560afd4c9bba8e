-- Rows that hold what C reads: each case of an answer in written-out numbers.
use Rattle.std.specs.Prelude.{◌≡◌, [], ◌∷◌, ℕ, pos, negsuc, replicate, Ok, Err}
use Rattle.std.specs.Result.{result_unwrap_or}
use Rattle.rules.specs.declared.Refusal.TheVariants.{NotSound, NoSuchGuest, EndOfTime}
use Rattle.rules.specs.declared.Source.TheVariants.{Own, SpareOf}
use Rattle.rules.specs.declared.Use.TheVariants.{Run, Burn, Nothing}
use Rattle.rules.specs.declared.Portion.TheVariants.{Run as RunFor, Burn as BurnFor, Nothing as NothingNext}
use Rattle.rules.specs.declared.State.{State}
use Rattle.rules.specs.declared.Table.{Table}
use Rattle.rules.specs.declared.Walk.{Walk}
use Rattle.rules.specs.Refusals.{number_of}
use Rattle.rules.specs.Calls.{Freshened, AskedFor}
use Rattle.rules.specs.Places.{no_state}
use Rattle.rules.specs.Samples.{◌by◌, sample, lone}
use Rattle.rules.specs.HeldTable.{counted}
use Rattle.c_answers.specs.declared.Next.{Next}
use Rattle.c_answers.specs.Clauses.{use_numbers, next_of, line_shown, next_shown, actives_shown, distance_shown, walk_shown, Gives, Tells, FreshInPlace, ArrivedInPlace, FinishedInPlace, AdvancedInPlace, WalkedInPlace}

-- a walk with a line and numbers that no walk has at once: each is told as it is
abbrev pub some_walk : Walk
some_walk = record { state = no_state; left = 9; shown = 1; lines = record { first = 4; end = 7; used = Nothing } ∷ [] }

pub record NumbersHeld : Type 0 where
  -- each kind, with the guest and the owner that it has
  pub own : use_numbers (Run 3 Own) ≡ record { kind = 1; guest = 3; owner = 3 }
  pub spare : use_numbers (Run 3 (SpareOf 5)) ≡ record { kind = 2; guest = 3; owner = 5 }
  pub burns : use_numbers (Burn 5) ≡ record { kind = 3; guest = 0; owner = 5 }
  pub nothing : use_numbers Nothing ≡ record { kind = 0; guest = 0; owner = 0 }
  -- what Ask answers
  pub next_own : next_of 0 (RunFor 3 Own 12 2) ≡ record { refusal = 0; used = record { kind = 1; guest = 3; owner = 3 }; deadline = 12; span = 2 }
  pub next_spare : next_of 0 (RunFor 3 (SpareOf 5) 12 2) ≡ record { refusal = 0; used = record { kind = 2; guest = 3; owner = 5 }; deadline = 12; span = 2 }
  pub next_burns : next_of 0 (BurnFor 5 12 2) ≡ record { refusal = 0; used = record { kind = 3; guest = 0; owner = 5 }; deadline = 12; span = 2 }
  pub next_nothing : next_of 7 NothingNext ≡ record { refusal = 7; used = record { kind = 0; guest = 0; owner = 0 }; deadline = 0; span = 0 }
  -- a line of a walk
  pub line : line_shown (record { first = 4; end = 7; used = Burn 5 }) ≡ record { first = 4; end = 7; used = record { kind = 3; guest = 0; owner = 5 } }
  -- whole answers, accepted and refused, with the number of the refusal in them
  pub asked : next_shown (Ok (BurnFor 5 12 2)) ≡ record { refusal = 0; used = record { kind = 3; guest = 0; owner = 5 }; deadline = 12; span = 2 }
  pub asked_refused : next_shown (Err NotSound) ≡ record { refusal = 1; used = record { kind = 0; guest = 0; owner = 0 }; deadline = 0; span = 0 }
  pub actives : actives_shown (Ok (record { mask = 11; actives = 3 })) ≡ record { refusal = 0; mask = 11; actives = 3 }
  pub actives_refused : actives_shown (Err NotSound) ≡ record { refusal = 1; mask = 0; actives = 0 }
  -- -5 ticks
  pub distance : distance_shown (Ok (negsuc 4)) ≡ record { refusal = 0; ticks = negsuc 4 }
  pub distance_refused : distance_shown (Err NoSuchGuest) ≡ record { refusal = 2; ticks = pos 0 }
  pub walk : walk_shown (Ok some_walk) ≡ record { refusal = 0; left = 9; shown = 1; lines = record { first = 4; end = 7; used = record { kind = 0; guest = 0; owner = 0 } } ∷ [] }
  pub walk_refused : walk_shown (Err EndOfTime) ≡ record { refusal = 7; left = 0; shown = 0; lines = replicate 64 (record { first = 0; end = 0; used = record { kind = 0; guest = 0; owner = 0 } }) }
  -- a call gives the state and the number of an outcome that is allowed, a question the numbers of such an answer
  pub gives_allowed : (t : Table) (after : State) (n : ℕ) (g : Gives (Freshened t) no_state after n) → Freshened t g.outcome
  pub gives_state : (t : Table) (after : State) (n : ℕ) (g : Gives (Freshened t) no_state after n) → after ≡ result_unwrap_or g.outcome no_state
  pub gives_number : (t : Table) (after : State) (n : ℕ) (g : Gives (Freshened t) no_state after n) → n ≡ number_of g.outcome
  pub tells_allowed : (s : State) (r : Next) (t : Tells (AskedFor s) next_shown r) → AskedFor s t.answer
  pub tells_numbers : (s : State) (r : Next) (t : Tells (AskedFor s) next_shown r) → r ≡ next_shown t.answer

-- what a refused call leaves in the caller's place: "The state comes back as it was; a refused .. fresh state is all zeros; .. asked-for numbers are 0"
pub record RefusedHeld : Type 0 where
  pub fresh : FreshInPlace (counted 8 2 (3 by 4 ∷ 3 by 8 ∷ [])) no_state 14
  pub arrive : ArrivedInPlace sample 2 sample 2
  pub done : FinishedInPlace sample 1 sample 3
  pub advance : AdvancedInPlace (lone 1099511627776 0 0 0) 1 (lone 1099511627776 0 0 0) 7
  pub walk :
      WalkedInPlace (lone 1099511627776 0 0 0) 1 (lone 1099511627776 0 0 0)
      (record { refusal = 7; left = 0; shown = 0; lines = replicate 64 (record { first = 0; end = 0; used = record { kind = 0; guest = 0; owner = 0 } }) })
