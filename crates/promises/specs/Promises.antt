-- Every promise of the rules as a named statement; proofs/ proves each under the same name with small letters.
use Rattle.std.specs.Prelude.{◌≡◌, Bool, true, false, cond, ◌&&◌, List, [], ◌∷◌, map, ◌↔◌, ℕ, zero, suc, ◌+◌, ◌/◌, ◌%◌, ◌≤◌, ◌<◌, ltb, ℤ, pos, ◌+ℤ◌, length, take, drop, replicate, ⊤, Result, Ok}
use Rattle.std.specs.Result.{result_unwrap_or}
use Rattle.std.specs.Int.Count.{ones}
use Rattle.std.proofs.Math.Pow.{are_bytes}
use Rattle.rules.specs.declared.Table.{Table}
use Rattle.rules.specs.declared.State.{State}
use Rattle.rules.specs.declared.Portion.{Portion as DeclaredPortion}
use Rattle.rules.specs.declared.Portion.TheVariants.{Nothing}
use Rattle.rules.specs.declared.Activity.{Activity}
use Rattle.rules.specs.declared.Refusal.{Refusal}
use Rattle.rules.specs.declared.Use.{Use as DeclaredUse}
use Rattle.rules.specs.declared.Walk.{Walk}
use Rattle.rules.specs.Limits.{last_tick, line_places}
use Rattle.rules.specs.Refusals.{Row, ◌gives◌, first, numbers, holds, number_of}
use Rattle.rules.specs.Table.{table_rows, no_table}
use Rattle.rules.specs.Model.{guest, budget_of, own_of, borrowed_of, capacity_of, spare_at, Guest, Spare, spare, Model, current_of, deadline_of, due_of, active, guest_at, mask_of, active_count, tallies}
use Rattle.rules.specs.Steps.{own_budget, spare_of, Use, runs, burns, nothing, Span, limited, endless, Portion, portion, renewed, next, advance}
use Rattle.rules.specs.Places.{model, packed, fresh_state, no_state}
use Rattle.rules.specs.Sound.{sound}
use Rattle.rules.specs.Image.{offset_in, table_in, read_rows, image_of, image_length, write_rows, overwritten}
use Rattle.rules.specs.Calls.{named, arrives, arrive_rows, done_rows, advance_rows, ask_rows, margin_rows, portion_of, Arrived, Finished, Advanced, AskedFor, nobody, ActiveTold, MarginTold, Freshened, TableChecked, NoTableMade, NoStateMade, TableRead, EntriesHanded, NumberTold, ImageChecked, TableWritten, Call, advances, number_given, state_after, run}
use Rattle.rules.specs.Walks.{declared_use, use_in, no_walk, Walked, no_line}
use Rattle.promises.specs.Runs.{after_all, events, passed, own_ticks, borrowed_ticks}
use Rattle.promises.specs.Needed.{line212_state, overfull_rows, line212_rows}
use Rattle.rules.specs.Samples.{alone}
use Rattle.promises.specs.Borders.{Border, end_of_time}

-- ---- the document's own numbers

-- the state at tick 2^40 in those rows is sound, and is the fresh one of its table after 2^40 ticks
abbrev pub EndReached : Type 0
EndReached = (sound end_of_time ≡ true) × (state_after (advances last_tick) (fresh_state (alone 1 1)) ≡ end_of_time)

-- ---- soundness is kept

-- a fresh state of a table that no number refuses is sound
abbrev pub FreshIsSound : Type 0
FreshIsSound = (t : Table) → first (table_rows t) ≡ 0 → sound (fresh_state t) ≡ true

-- every call, accepted or refused, leaves a sound state sound
abbrev pub SoundKept : Type 0
SoundKept = (c : Call) (s : State) → sound s ≡ true → sound (state_after c s) ≡ true

-- after any calls from a fresh state, refused ones too, no call answers 1
abbrev pub NeverUnsound : Type 0
NeverUnsound = (t : Table) → first (table_rows t) ≡ 0 → (cs : List Call) (c : Call) → number_given c (run cs (fresh_state t)) ≡ 1 → ⊥

-- a sound state is its model in places, so that a step on the model says all there is of the state
abbrev pub PackedModel : Type 0
PackedModel = (s : State) → sound s ≡ true → packed (model s) ≡ s

-- ---- exactly when listed

-- the condition of the row in place i, counted from 0; behind the last row none holds
abbrev pub condition_at : ℕ → List Row → Bool
condition_at i [] = false
condition_at zero (b gives n ∷ rows) = b
condition_at (suc i) (b gives n ∷ rows) = condition_at i rows

-- and its number
abbrev pub number_at : ℕ → List Row → ℕ
number_at i [] = 0
number_at zero (b gives n ∷ rows) = n
number_at (suc i) (b gives n ∷ rows) = number_at i rows

-- the row in place i decides: its condition holds, and that of no row before it
abbrev pub Decides : ℕ → List Row → Type 0
Decides i rows = (condition_at i rows ≡ true) × ((j : ℕ) → j < i → condition_at j rows ≡ false)

-- a number is given if and only if a row with that number decides; one that is not listed is never given
abbrev pub Exactly : List Row → Type 0
Exactly rows = (k : ℕ) → (first rows ≡ suc k) ↔ ((i : ℕ) × (number_at i rows ≡ suc k) × Decides i rows)

-- these are the numbers that may be given, each exactly when listed
pub record Listed (rows : List Row) (may : List ℕ) : Type 0 where
  pub exactly : Exactly rows
  pub only : numbers rows ≡ may

-- "Every call on a state may give 1. Making a fresh state gives 10 and 12 to 14 for a bad table; reading gives 8 to 14; writing gives 10,
-- 12 to 14 and 15."
pub record ExactlyWhenListed : Type 0 where
  pub arrive : (s : State) (i : ℕ) → Listed (arrive_rows s i) (1 ∷ 2 ∷ 4 ∷ 5 ∷ 6 ∷ [])
  pub done : (s : State) (i : ℕ) → Listed (done_rows s i) (1 ∷ 2 ∷ 3 ∷ [])
  pub advance : (s : State) (k : ℕ) → Listed (advance_rows s k) (1 ∷ 7 ∷ [])
  pub ask : (s : State) → Listed (ask_rows s) (1 ∷ [])
  pub margin : (s : State) (i : ℕ) → Listed (margin_rows s i) (1 ∷ 2 ∷ [])
  pub fresh : (t : Table) → Listed (table_rows t) (10 ∷ 12 ∷ 13 ∷ 14 ∷ [])
  pub read : (image : List ℕ) → Listed (read_rows image) (8 ∷ 9 ∷ 10 ∷ 11 ∷ 12 ∷ 13 ∷ 14 ∷ [])
  pub write : (t : Table) (buffer : List ℕ) → Listed (write_rows t buffer) (10 ∷ 12 ∷ 13 ∷ 14 ∷ 15 ∷ [])

-- the numbers of the rows rise, the first of them above `low`
abbrev pub rises : ℕ → List ℕ → Bool
rises low [] = true
rises low (n ∷ ns) = ltb low n && rises n ns

-- so it is with every call
pub record RowsRise : Type 0 where
  pub arrive : (s : State) (i : ℕ) → rises 0 (numbers (arrive_rows s i)) ≡ true
  pub done : (s : State) (i : ℕ) → rises 0 (numbers (done_rows s i)) ≡ true
  pub advance : (s : State) (k : ℕ) → rises 0 (numbers (advance_rows s k)) ≡ true
  pub ask : (s : State) → rises 0 (numbers (ask_rows s)) ≡ true
  pub margin : (s : State) (i : ℕ) → rises 0 (numbers (margin_rows s i)) ≡ true
  pub fresh : (t : Table) → rises 0 (numbers (table_rows t)) ≡ true
  pub read : (image : List ℕ) → rises 0 (numbers (read_rows image)) ≡ true
  pub write : (t : Table) (buffer : List ℕ) → rises 0 (numbers (write_rows t buffer)) ≡ true

-- "Where several apply, the smallest number is given": of rows that rise, a number is given if and only if its own condition holds and no
-- smaller one's
abbrev pub SmallestGiven : Type 0
SmallestGiven =
    (rows : List Row) → rises 0 (numbers rows) ≡ true
    → (k : ℕ) → (first rows ≡ suc k) ↔ ((holds (suc k) rows ≡ true) × ((j : ℕ) → j < suc k → holds j rows ≡ false))

-- ---- what a refusal gives back

-- "The state comes back as it was; a refused table or fresh state is all zeros; lent bytes keep their values; asked-for numbers are 0, and
-- Ask says nothing to do."
pub record RefusalGivesBack : Type 0 where
  pub arrive : (s : State) (i : ℕ) (r : Result State Refusal) → Arrived s i r → 0 < number_of r → result_unwrap_or r s ≡ s
  pub done : (s : State) (i : ℕ) (r : Result State Refusal) → Finished s i r → 0 < number_of r → result_unwrap_or r s ≡ s
  pub advance : (s : State) (k : ℕ) (r : Result State Refusal) → Advanced s k r → 0 < number_of r → result_unwrap_or r s ≡ s
  pub walk :
      (s : State) (k : ℕ) (r : Result Walk Refusal) → Walked s k r → 0 < number_of r
      → let w = result_unwrap_or r (no_walk s) in (w.state ≡ s) × (w.left ≡ 0) × (w.shown ≡ 0) × (w.lines ≡ replicate line_places no_line)
  pub ask : (s : State) (r : Result DeclaredPortion Refusal) → AskedFor s r → 0 < number_of r → result_unwrap_or r Nothing ≡ Nothing
  pub active : (s : State) (r : Result Activity Refusal) → ActiveTold s r → 0 < number_of r → ((result_unwrap_or r nobody).mask ≡ 0) × ((result_unwrap_or r nobody).actives ≡ 0)
  pub margin : (s : State) (i : ℕ) (r : Result ℤ Refusal) → MarginTold s i r → 0 < number_of r → result_unwrap_or r (pos 0) ≡ pos 0
  pub fresh : (t : Table) (r : Result State Refusal) → Freshened t r → 0 < number_of r → result_unwrap_or r no_state ≡ no_state
  pub read : (image : List ℕ) (r : Result Table Refusal) → TableRead image r → 0 < number_of r → result_unwrap_or r no_table ≡ no_table
  pub entries : (image : List ℕ) (start : ℕ) (part : List ℕ) → EntriesHanded image start part → 0 < first (read_rows image) → (start ≡ 0) × (part ≡ [])
  pub write : (t : Table) (buffer : List ℕ) (a : Result ⊤ Refusal) (after : List ℕ) → TableWritten t buffer a after → 0 < number_of a → after ≡ buffer

-- ---- demand 2, what a tick uses

-- "The active guest with the smallest d runs; equal deadlines, the lowest number."
pub record RunsFirst (gs : List Guest) (i : ℕ) : Type 0 where
  pub place : i < length gs
  pub is_active : active (guest_at i gs) ≡ true
  pub smallest : (k : ℕ) → active (guest_at k gs) ≡ true → deadline_of (guest_at i gs) ≤ deadline_of (guest_at k gs)
  pub lowest : (k : ℕ) → k < i → active (guest_at k gs) ≡ true → deadline_of (guest_at i gs) < deadline_of (guest_at k gs)

-- "If no guest is active"
abbrev pub NobodyActive : List Guest → Type 0
NobodyActive gs = (k : ℕ) → active (guest_at k gs) ≡ false

-- the first spare is this one
abbrev pub FirstSpare : List Spare → Spare → Type 0
FirstSpare ss x = (rest : List Spare) × (ss ≡ x ∷ rest)

-- no spare, or the first one's deadline is past d
abbrev pub NoneBy : ℕ → List Spare → Type 0
NoneBy d [] = Unit {0}
NoneBy d (x ∷ ss) = d < due_of x

-- the first spare is this owner's with deadline d, and the span is its capacity
abbrev pub FirstSpareIs : List Spare → ℕ → ℕ → Span → Type 0
FirstSpareIs ss owner d span = (c : ℕ) × FirstSpare ss (spare d owner c) × (span ≡ limited c)

-- what each use says of the guests and the spares, the portion's deadline and span included
abbrev pub Uses : List Guest → List Spare → Portion → Type 0
Uses gs ss (portion (runs i own_budget) d span) = RunsFirst gs i × (d ≡ deadline_of (guest_at i gs)) × (span ≡ limited (current_of (guest_at i gs))) × NoneBy d ss
Uses gs ss (portion (runs i (spare_of owner)) d span) = RunsFirst gs i × FirstSpareIs ss owner d span × (d ≤ deadline_of (guest_at i gs))
Uses gs ss (portion (burns owner) d span) = NobodyActive gs × FirstSpareIs ss owner d span
Uses gs ss (portion nothing d span) = NobodyActive gs × (ss ≡ []) × (d ≡ 0) × (span ≡ endless)

-- the choice behind the tick and Ask is the right one
abbrev pub NextUses : Type 0
NextUses = (m : Model) → Uses m.guests m.spares (next m)

-- ---- demand 3, runs

-- a run of calls is the run of its single steps
abbrev pub RunIsSteps : Type 0
RunIsSteps = (cs : List Call) (s : State) → model (run cs s) ≡ after_all (events cs s) (model s)

-- the ticks counted from the steps are what the stored tallies grow by
abbrev pub CountsAreTallies : Type 0
CountsAreTallies =
    (i k : ℕ) (cs : List Call) (s : State)
    → (own_of (guest_at i (passed k cs s).guests) ≡ own_of (guest_at i (model s).guests) + own_ticks i k cs s)
    × (borrowed_of (guest_at i (passed k cs s).guests) ≡ borrowed_of (guest_at i (model s).guests) + borrowed_ticks i k cs s)

-- ---- demand 3, the choice as an interface

-- who can run: active, with budget left; after step 1 of a tick that is every active guest
abbrev pub can_run : Guest → Bool
can_run (guest Q T zero c d own borrowed) = false
can_run (guest Q T (suc jobs) zero d own borrowed) = false
can_run (guest Q T (suc jobs) (suc c) d own borrowed) = true

-- whoever runs can run and has the smallest deadline of all that can, whatever the order among equals
pub record Earliest (gs : List Guest) (i : ℕ) : Type 0 where
  pub place : i < length gs
  pub can : can_run (guest_at i gs) ≡ true
  pub smallest : (k : ℕ) → can_run (guest_at k gs) ≡ true → deadline_of (guest_at i gs) ≤ deadline_of (guest_at k gs)

abbrev pub NobodyCan : List Guest → Type 0
NobodyCan gs = (k : ℕ) → can_run (guest_at k gs) ≡ false

-- a spare is taken just where its deadline is no later
abbrev pub Fair : List Guest → List Spare → Portion → Type 0
Fair gs ss (portion (runs i own_budget) d span) = Earliest gs i × NoneBy (deadline_of (guest_at i gs)) ss
Fair gs ss (portion (runs i (spare_of owner)) d span) = Earliest gs i × FirstSpareIs ss owner d span × (d ≤ deadline_of (guest_at i gs))
Fair gs ss (portion (burns owner) d span) = NobodyCan gs × FirstSpareIs ss owner d span
Fair gs ss (portion nothing d span) = NobodyCan gs × (ss ≡ [])

-- the rules' own choice, with its tie order, is fair in every state of every run
abbrev pub ChoiceIsFair : Type 0
ChoiceIsFair =
    (t : Table) → first (table_rows t) ≡ 0 → (cs : List Call) (k : ℕ)
    → let m = renewed (passed k cs (fresh_state t)) in Fair m.guests m.spares (next m)

-- ---- demand 3, the two halves

-- demand 3, first half: no capacity above zero has a deadline at or before now, a guest's own or a spare
abbrev pub NothingOverdue : Model → Type 0
NothingOverdue m =
    ((i : ℕ) → 0 < current_of (guest_at i m.guests) → m.now < deadline_of (guest_at i m.guests))
    × ((k : ℕ) → 0 < capacity_of (spare_at k m.spares) → m.now < due_of (spare_at k m.spares))

-- from a fresh state, after any calls, refused ones too: in every state of
-- single steps, those inside an advance too
abbrev pub FirstHalf : Type 0
FirstHalf = (t : Table) → first (table_rows t) ≡ 0 → (cs : List Call) (k : ℕ) → NothingOverdue (passed k cs (fresh_state t))

-- a call of the run wakes idle guest i: it is accepted
pub record Wakes (s : State) (i : ℕ) : Type 0 where
  pub accepted : number_given (arrives i) s ≡ 0
  pub was_idle : active (named s i) ≡ false

-- guest i is active in the first k + 1 states of single steps
abbrev pub StaysActive : ℕ → ℕ → List Call → State → Type 0
StaysActive i k cs s = (j : ℕ) → j ≤ k → active (guest_at i (passed j cs s).guests) ≡ true

-- demand 3, second half: a guest woken with deadline D has run at least its full budget by tick D, unless it went idle; w is the state that the wake-up
-- left, D and Q are guest i's there, and k single steps of any later calls reach tick D
abbrev pub SecondHalf : Type 0
SecondHalf =
    (t : Table) → first (table_rows t) ≡ 0 → (earlier cs : List Call) (i : ℕ) → Wakes (run earlier (fresh_state t)) i
    → let w = state_after (arrives i) (run earlier (fresh_state t)) in
    (k : ℕ) → StaysActive i k cs w → (passed k cs w).now ≡ deadline_of (named w i) → budget_of (named w i) ≤ own_ticks i k cs w

-- and so in every later state, whatever the guest did after tick D
abbrev pub SecondHalfLater : Type 0
SecondHalfLater =
    (t : Table) → first (table_rows t) ≡ 0 → (earlier cs : List Call) (i : ℕ) → Wakes (run earlier (fresh_state t)) i
    → let w = state_after (arrives i) (run earlier (fresh_state t)) in
    (k n : ℕ) → k ≤ n → StaysActive i k cs w → (passed k cs w).now ≡ deadline_of (named w i) → budget_of (named w i) ≤ own_ticks i n cs w

-- ---- demand 3, its bounds are needed

-- with a share above H a capacity does reach its deadline
abbrev pub ShareNeeded : Type 0
ShareNeeded = map (λ (b : Border). b.computed) overfull_rows ≡ map (λ (b : Border). b.expected) overfull_rows

-- line 212, as a regression: not sound, so every call answers 1; and if it is stepped all the same, the other guest starves
pub record Line212 : Type 0 where
  pub refused : (c : Call) → number_given c line212_state ≡ 1
  pub starves : map (λ (b : Border). b.computed) line212_rows ≡ map (λ (b : Border). b.expected) line212_rows

-- ---- demand 2: an advance of many ticks ends where that many single ticks end

-- "k = 0 is accepted and changes nothing."
abbrev pub AdvanceNothing : Type 0
AdvanceNothing = (s : State) → state_after (advances 0) s ≡ s

-- advance by a + b is advance by a and then by b
abbrev pub AdvanceInParts : Type 0
AdvanceInParts =
    (a b : ℕ) (s : State) → number_given (advances (a + b)) s ≡ 0
    → state_after (advances (a + b)) s ≡ state_after (advances b) (state_after (advances a) s)

-- "All tallies together" grow by the ticks made
abbrev pub TalliesGrow : Type 0
TalliesGrow = (k : ℕ) (m : Model) → tallies (advance k m) ≡ tallies m + k

-- "the number of active guests as the count of its ones"
abbrev pub OnesOfMask : Type 0
OnesOfMask = (gs : List Guest) → ones (mask_of gs) ≡ active_count gs

-- bit i of a number
unfoldable pub bit : ℕ → ℕ → ℕ
bit zero n = n % 2
bit (suc i) n = bit i (n / 2)

-- the active ones among the guests
unfoldable pub actives : List Guest → List Guest
actives [] = []
actives (g ∷ gs) = cond (active g) (g ∷ actives gs) (actives gs)

-- "a mask, bit i for guest i, and the number of active guests": bit i of the answered mask is 1 if and only if guest i is active, for every i,
-- and the answered count is how many of the guests are
pub record ActivityMeant : Type 0 where
  pub mask : (s : State) (r : Activity) → ActiveTold s (Ok r) → (i : ℕ) → (bit i r.mask ≡ 1) ↔ (active (named s i) ≡ true)
  pub count : (s : State) (r : Activity) → ActiveTold s (Ok r) → r.actives ≡ length (actives (model s).guests)

-- "Margin of a guest is its deadline less the present tick": the answered margin and the present tick add up to the deadline
abbrev pub MarginMeant : Type 0
MarginMeant =
    (s : State) (i : ℕ) (ticks : ℤ) → MarginTold s i (Ok ticks) → ticks +ℤ pos s.now ≡ pos (deadline_of (named s i))

-- ---- images

-- "Reading those bytes gives the same table"
abbrev pub WrittenIsRead : Type 0
WrittenIsRead =
    (t : Table) (buffer : List ℕ) → first (write_rows t buffer) ≡ 0
    → (first (read_rows (take (image_length t) (overwritten t buffer))) ≡ 0) × (table_in (take (image_length t) (overwritten t buffer)) ≡ t)

-- "bytes behind them stay"
abbrev pub BehindStays : Type 0
BehindStays =
    (t : Table) (buffer : List ℕ) → first (write_rows t buffer) ≡ 0
    → (length (overwritten t buffer) ≡ length buffer) × (drop (image_length t) (overwritten t buffer) ≡ drop (image_length t) buffer)

-- "writing what was read from an image with offset 0 gives that image"
abbrev pub ReadIsWritten : Type 0
ReadIsWritten = (image : List ℕ) → are_bytes image ≡ true → first (read_rows image) ≡ 0 → offset_in image ≡ 0 → image_of (table_in image) ≡ image

-- the same of the calls: what `write` left at the front of a buffer, `read` answers as the table; what `read` answered of an image with
-- offset 0, `write` gives back byte by byte
pub record RoundTrip : Type 0 where
  pub written_read :
      (t : Table) (buffer after : List ℕ) (l : Result Table Refusal) → TableWritten t buffer (Ok tt) after
      → TableRead (take (image_length t) after) l → l ≡ Ok t
  pub read_written :
      (image buffer after : List ℕ) (t : Table) → are_bytes image ≡ true → TableRead image (Ok t) → offset_in image ≡ 0
      → TableWritten t buffer (Ok tt) after → take (length image) after ≡ image

-- ---- one outcome

-- the number and the values determine an answer
pub record AnswersDetermined : Type 1 where
  pub number : {A : Type 0} (z : A) (a b : Result A Refusal) → number_of a ≡ number_of b → result_unwrap_or a z ≡ result_unwrap_or b z → a ≡ b
  pub portion : (x y : DeclaredPortion) → portion_of x ≡ portion_of y → x ≡ y
  pub use_of : (x y : DeclaredUse) → use_in x ≡ use_in y → x ≡ y
  pub use_said : (u : Use) → use_in (declared_use u) ≡ u

-- any two outcomes that a call's predicate allows are equal
pub record OneOutcome : Type 1 where
  pub arrive : (s : State) (i : ℕ) (x y : Result State Refusal) → Arrived s i x → Arrived s i y → x ≡ y
  pub done : (s : State) (i : ℕ) (x y : Result State Refusal) → Finished s i x → Finished s i y → x ≡ y
  pub advance : (s : State) (k : ℕ) (x y : Result State Refusal) → Advanced s k x → Advanced s k y → x ≡ y
  pub walk : (s : State) (k : ℕ) (x y : Result Walk Refusal) → Walked s k x → Walked s k y → x ≡ y
  pub ask : (s : State) (x y : Result DeclaredPortion Refusal) → AskedFor s x → AskedFor s y → x ≡ y
  pub active : (s : State) (x y : Result Activity Refusal) → ActiveTold s x → ActiveTold s y → x ≡ y
  pub margin : (s : State) (i : ℕ) (x y : Result ℤ Refusal) → MarginTold s i x → MarginTold s i y → x ≡ y
  pub fresh : (t : Table) (x y : Result State Refusal) → Freshened t x → Freshened t y → x ≡ y
  pub check : (t : Table) (x y : Result ⊤ Refusal) → TableChecked t x → TableChecked t y → x ≡ y
  pub no_table_made : (x y : Table) → NoTableMade x → NoTableMade y → x ≡ y
  pub no_state_made : (x y : State) → NoStateMade x → NoStateMade y → x ≡ y
  pub read : (image : List ℕ) (x y : Result Table Refusal) → TableRead image x → TableRead image y → x ≡ y
  pub entries : (image : List ℕ) (i j : ℕ) (x y : List ℕ) → EntriesHanded image i x → EntriesHanded image j y → (i ≡ j) × (x ≡ y)
  pub number : {A : Type 0} (a : Result A Refusal) (x y : ℕ) → NumberTold a x → NumberTold a y → x ≡ y
  pub boot : (image : List ℕ) (x y : ℕ) → ImageChecked image x → ImageChecked image y → x ≡ y
  pub write : (t : Table) (buffer : List ℕ) (a b : Result ⊤ Refusal) (x y : List ℕ) → TableWritten t buffer a x → TableWritten t buffer b y → (a ≡ b) × (x ≡ y)
