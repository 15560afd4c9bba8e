-- What C reads of each call: some outcome that the library's own predicate allows, its refusal and its cases as numbers.
use Rattle.std.specs.Prelude.{◌≡◌, map, ℕ, ℤ, pos, Result}
use Rattle.std.specs.Result.{result_unwrap_or}
use Rattle.rules.specs.declared.State.{State}
use Rattle.rules.specs.declared.Table.{Table}
use Rattle.rules.specs.declared.Refusal.{Refusal}
use Rattle.rules.specs.declared.Source.TheVariants.{Own, SpareOf}
use Rattle.rules.specs.declared.Use.{Use}
use Rattle.rules.specs.declared.Use.TheVariants.{Run, Burn, Nothing}
use Rattle.rules.specs.declared.Portion.{Portion}
use Rattle.rules.specs.declared.Portion.TheVariants.{Run as RunFor, Burn as BurnFor, Nothing as NothingNext}
use Rattle.rules.specs.declared.Activity.{Activity}
use Rattle.rules.specs.declared.Line.{Line}
use Rattle.rules.specs.declared.Walk.{Walk}
use Rattle.rules.specs.Refusals.{number_of}
use Rattle.rules.specs.Places.{no_state}
use Rattle.rules.specs.Calls.{Arrived, Finished, Advanced, Freshened, AskedFor, nobody, ActiveTold, MarginTold}
use Rattle.rules.specs.Walks.{no_walk, Walked}
use Rattle.c_answers.specs.declared.UseNumbers.{UseNumbers}
use Rattle.c_answers.specs.declared.Next.{Next}
use Rattle.c_answers.specs.declared.Actives.{Actives}
use Rattle.c_answers.specs.declared.Distance.{Distance}
use Rattle.c_answers.specs.declared.LineShown.{LineShown}
use Rattle.c_answers.specs.declared.WalkShown.{WalkShown}

-- ---- cases as numbers

-- a use: 0 nothing, 1 a guest's own budget, 2 a spare, 3 a spare that burns; a number that the kind does not have is 0
abbrev pub use_numbers : Use → UseNumbers
use_numbers (Run i Own) = record { kind = 1; guest = i; owner = i }
use_numbers (Run i (SpareOf owner)) = record { kind = 2; guest = i; owner = owner }
use_numbers (Burn owner) = record { kind = 3; guest = 0; owner = owner }
use_numbers Nothing = record { kind = 0; guest = 0; owner = 0 }

-- what Ask answers; with nothing to do the deadline and the span are 0
abbrev pub next_of : ℕ → Portion → Next
next_of refusal (RunFor i source d span) = record { refusal = refusal; used = use_numbers (Run i source); deadline = d; span = span }
next_of refusal (BurnFor owner d span) = record { refusal = refusal; used = use_numbers (Burn owner); deadline = d; span = span }
next_of refusal NothingNext = record { refusal = refusal; used = use_numbers Nothing; deadline = 0; span = 0 }

-- a line of a walk
abbrev pub line_shown : Line → LineShown
line_shown l = record { first = l.first; end = l.end; used = use_numbers l.used }

-- ---- whole answers as numbers: "asked-for numbers are 0, and Ask says nothing to do" after a refusal

-- "tells what the next tick would do", with the number of its refusal
abbrev pub next_shown : Result Portion Refusal → Next
next_shown a = next_of (number_of a) (result_unwrap_or a NothingNext)

-- "a mask, bit i for guest i, and the number of active guests"
abbrev pub actives_shown : Result Activity Refusal → Actives
actives_shown r = let a = result_unwrap_or r nobody in record { refusal = number_of r; mask = a.mask; actives = a.actives }

-- "its deadline less the present tick"
abbrev pub distance_shown : Result ℤ Refusal → Distance
distance_shown m = record { refusal = number_of m; ticks = result_unwrap_or m (pos 0) }

-- what a walk shows: its lines, and the ticks that are left
abbrev pub walk_shown : Result Walk Refusal → WalkShown
walk_shown r = let w = result_unwrap_or r (no_walk no_state) in record { refusal = number_of r; left = w.left; shown = w.shown; lines = map line_shown w.lines }

-- ---- the calls

-- a call that changes the state in its place: some outcome that `Allowed` has, its state or the one of a refusal, and its number
pub record Gives (Allowed : Result State Refusal → Type 0) (refused after : State) (refusal : ℕ) : Type 0 where
  pub outcome : Result State Refusal
  pub allowed : Allowed outcome
  pub state : after ≡ result_unwrap_or outcome refused
  pub number : refusal ≡ number_of outcome

-- a question: some answer that `Allowed` has, in numbers
pub record Tells {X Y : Type 0} (Allowed : X → Type 0) (shown : X → Y) (told : Y) : Type 0 where
  pub answer : X
  pub allowed : Allowed answer
  pub numbers : told ≡ shown answer

-- a fresh state of a table, in the caller's place
abbrev pub FreshInPlace : Table → State → ℕ → Type 0
FreshInPlace t after refusal = Gives (Freshened t) no_state after refusal

-- arrive
abbrev pub ArrivedInPlace : State → ℕ → State → ℕ → Type 0
ArrivedInPlace s i after refusal = Gives (Arrived s i) s after refusal

-- done
abbrev pub FinishedInPlace : State → ℕ → State → ℕ → Type 0
FinishedInPlace s i after refusal = Gives (Finished s i) s after refusal

-- advance by k
abbrev pub AdvancedInPlace : State → ℕ → State → ℕ → Type 0
AdvancedInPlace s k after refusal = Gives (Advanced s k) s after refusal

-- Ask
abbrev pub NextTold : State → Next → Type 0
NextTold s r = Tells (AskedFor s) next_shown r

-- who is active
abbrev pub ActivesTold : State → Actives → Type 0
ActivesTold s r = Tells (ActiveTold s) actives_shown r

-- margin
abbrev pub DistanceTold : State → ℕ → Distance → Type 0
DistanceTold s i r = Tells (MarginTold s i) distance_shown r

-- a walk changes the state in its place and tells what it shows
pub record WalkedInPlace (s : State) (k : ℕ) (after : State) (r : WalkShown) : Type 0 where
  pub walk : Result Walk Refusal
  pub allowed : Walked s k walk
  pub state : after ≡ (result_unwrap_or walk (no_walk s)).state
  pub numbers : r ≡ walk_shown walk

-- any two outcomes that a predicate allows are equal
pub record OneOutcome : Type 0 where
  pub fresh : (t : Table) (s' s'' : State) (n n' : ℕ) → FreshInPlace t s' n → FreshInPlace t s'' n' → (s' ≡ s'') × (n ≡ n')
  pub arrive : (s : State) (i : ℕ) (s' s'' : State) (n n' : ℕ) → ArrivedInPlace s i s' n → ArrivedInPlace s i s'' n' → (s' ≡ s'') × (n ≡ n')
  pub done : (s : State) (i : ℕ) (s' s'' : State) (n n' : ℕ) → FinishedInPlace s i s' n → FinishedInPlace s i s'' n' → (s' ≡ s'') × (n ≡ n')
  pub advance : (s : State) (k : ℕ) (s' s'' : State) (n n' : ℕ) → AdvancedInPlace s k s' n → AdvancedInPlace s k s'' n' → (s' ≡ s'') × (n ≡ n')
  pub walk : (s : State) (k : ℕ) (s' s'' : State) (r r' : WalkShown) → WalkedInPlace s k s' r → WalkedInPlace s k s'' r' → (s' ≡ s'') × (r ≡ r')
  pub ask : (s : State) (a b : Next) → NextTold s a → NextTold s b → a ≡ b
  pub active : (s : State) (a b : Actives) → ActivesTold s a → ActivesTold s b → a ≡ b
  pub margin : (s : State) (i : ℕ) (a b : Distance) → DistanceTold s i a → DistanceTold s i b → a ≡ b
