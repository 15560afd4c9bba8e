-- Walk after walk: what their portions are when they are joined, and that the portions are the ticks.
use Rattle.std.specs.Prelude.{◌≡◌, true, List, [], ◌∷◌, ◌++◌, ℕ, zero, suc, ◌*◌, ◌-◌, ◌≤◌, replicate}
use Rattle.rules.specs.declared.State.{State}
use Rattle.rules.specs.Limits.{line_places}
use Rattle.rules.specs.Model.{Model}
use Rattle.rules.specs.Steps.{Use, use_of, tick, ask}
use Rattle.rules.specs.Places.{model}
use Rattle.rules.specs.Sound.{sound}
use Rattle.rules.specs.Calls.{advances, number_given, state_after}
use Rattle.rules.specs.Lines.{Line, line, lines_of}
use Rattle.rules.specs.Walks.{walk_lines, walk_state, walk_left}

-- ---- walk after walk, each of what the last one left

-- the portions of n walks, joined
unfoldable pub joined : ℕ → ℕ → State → List Line
unfolding walk_lines walk_state walk_left
joined zero k s = []
joined (suc n) k s = walk_lines k s ++ joined n (walk_left k s) (walk_state k s)

-- the state after them
unfoldable pub walked_to : ℕ → ℕ → State → State
unfolding walk_state walk_left
walked_to zero k s = s
walked_to (suc n) k s = walked_to n (walk_left k s) (walk_state k s)

-- the ticks that they left
unfoldable pub left_after : ℕ → ℕ → State → ℕ
unfolding walk_state walk_left
left_after zero k s = k
left_after (suc n) k s = left_after n (walk_left k s) (walk_state k s)

-- once n walks left nothing, their portions are those of the advance, and the last state is its state
abbrev pub WalksAreAdvance : Type 0
WalksAreAdvance =
    (s : State) (k : ℕ) → sound s ≡ true → number_given (advances k) s ≡ 0 → (n : ℕ) → left_after n k s ≡ 0
    → (joined n k s ≡ lines_of (advances k) s) × (walked_to n k s ≡ state_after (advances k) s)

-- and so many walks leave nothing: a walk that leaves some ticks has answered as many portions as it has places
abbrev pub WalksEnd : Type 0
WalksEnd =
    (s : State) (k : ℕ) → sound s ≡ true → number_given (advances k) s ≡ 0 → (n : ℕ) → k ≤ n * line_places → left_after n k s ≡ 0

-- ---- the portions are the ticks

-- what each of k ticks uses
unfoldable pub uses : ℕ → Model → List Use
unfolding ask tick
uses zero m = []
uses (suc k) m = use_of (ask m) ∷ uses k (tick m)

-- a portion is so many ticks of its use
abbrev pub ticks_of : List Line → List Use
ticks_of [] = []
ticks_of (line first end u ∷ ls) = replicate (end - first) u ++ ticks_of ls

-- the portions of an advance, tick by tick, are what its ticks use
abbrev pub LinesAreTicks : Type 0
LinesAreTicks = (s : State) (k : ℕ) → sound s ≡ true → number_given (advances k) s ≡ 0 → ticks_of (lines_of (advances k) s) ≡ uses k (model s)
