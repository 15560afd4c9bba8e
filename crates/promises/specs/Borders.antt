-- "Pairs at the borders": the starred ones, as rows of what the rules compute and what the document says.
use Rattle.std.specs.Prelude.{◌≡◌, List, [], ◌∷◌, ◌++◌, map, ℕ, zero, suc}
use Rattle.rules.specs.declared.Table.{Table}
use Rattle.rules.specs.declared.State.{State}
use Rattle.rules.specs.Limits.{last_tick}
use Rattle.rules.specs.Refusals.{first}
use Rattle.rules.specs.Table.{table_rows, shares_of}
use Rattle.rules.specs.Model.{guest, jobs_of, current_of, deadline_of, due_of, capacity_of}
use Rattle.rules.specs.Places.{model, packed, fresh_state}
use Rattle.rules.specs.Calls.{named, Call, arrives, finishes, advances, number_given, state_after, run}
use Rattle.rules.specs.Samples.{◌by◌, table, alone, two}
use Rattle.rules.specs.Steps.{own_budget, spare_of, runs, burns, nothing}
use Rattle.rules.specs.Lines.{Line, line, listing}

-- ---- how a row is written

-- the state after calls from a fresh one
unfoldable pub after : Table → List Call → State
unfolding fresh_state run
after t cs = run cs (fresh_state t)

-- waiting jobs of guest 0
abbrev pub jobs : State → ℕ
jobs s = jobs_of (named s 0)

-- its c
abbrev pub left : State → ℕ
left s = current_of (named s 0)

-- its d
abbrev pub deadline : State → ℕ
deadline s = deadline_of (named s 0)

-- the spares' deadlines
abbrev pub deadlines : State → List ℕ
deadlines s = map due_of (model s).spares

-- the spares' capacities
abbrev pub capacities : State → List ℕ
capacities s = map capacity_of (model s).spares

-- arrive and done at guest 0, n times
unfoldable pub pairs : ℕ → List Call
pairs zero = []
pairs (suc n) = arrives 0 ∷ finishes 0 ∷ pairs n

-- what a row shows: numbers, or lines of the listing
pub data Shown : Type 0 where
  values : List ℕ → Shown
  portions : List Line → Shown

-- what the rules compute, and what the document says
pub record Border : Type 0 where
  pub computed : Shown
  pub expected : Shown

-- ---- the tables, and the listing's calls

-- the listing's input lines behind its table
abbrev pub listing_calls : List Call
listing_calls =
    arrives 0 ∷ arrives 1 ∷ advances 2 ∷ finishes 0 ∷ advances 2 ∷ arrives 0 ∷ advances 4 ∷ finishes 1 ∷ finishes 0 ∷ advances 5 ∷ []

-- one guest (1, 1) that was never woken, at tick 2^40
unfoldable pub end_of_time : State
unfolding packed
end_of_time =
    packed (record { frame = 1; now = last_tick; guests = guest 1 1 0 0 0 0 0 ∷ []; spares = []; burned = 0; empty = last_tick })

-- ---- the rows

-- a row
abbrev pub says : Shown → Shown → Border
says computed expected = record { computed = computed; expected = expected }

-- "The listing above, as a list of portions."
unfoldable pub listing_rows : List Border
unfolding fresh_state listing
listing_rows =
    says (portions (listing listing_calls (fresh_state two)))
    (portions
    (line 0 2 (runs 0 own_budget)
    ∷ line 2 3 (runs 1 (spare_of 0))
    ∷ line 3 4 (runs 1 own_budget)
    ∷ line 4 7 (runs 0 own_budget)
    ∷ line 7 8 (runs 1 own_budget)
    ∷ line 8 11 (burns 0)
    ∷ line 11 13 nothing
    ∷ []))
    ∷ []

-- "One guest (3, 6): advance 3, arrive, d = 9; advance 3, c = 0, d = 9; one more tick, d = 15, c = 2."
-- "The same, but done at tick 6: idle, no spare, d = 9."
unfoldable pub renewal_rows : List Border
unfolding after
renewal_rows =
    let woken = after (alone 3 6) (advances 3 ∷ arrives 0 ∷ []) in
    let spent = state_after (advances 3) woken in
    let renewed = state_after (advances 1) spent in
    let punctual = state_after (finishes 0) spent in
    says (values (deadline woken ∷ [])) (values (9 ∷ []))
    ∷ says (values (left spent ∷ deadline spent ∷ [])) (values (0 ∷ 9 ∷ []))
    ∷ says (values (deadline renewed ∷ left renewed ∷ [])) (values (15 ∷ 2 ∷ []))
    ∷ says (values (jobs punctual ∷ punctual.listed ∷ deadline punctual ∷ [])) (values (0 ∷ 0 ∷ 9 ∷ []))
    ∷ []

-- "(3, 4) and (2, 8), H = 8: accepted.", "(3, 4) and (3, 8): refusal 14, 9 against 8."
-- "(1, 1), H = 1: accepted.", "(1, 3), H = 8: refusal 13.", "(0, 4), H = 8: refusal 13."
unfoldable pub table_borders : List Border
table_borders =
    let over = table 8 (3 by 4 ∷ 3 by 8 ∷ []) in
    says (values (first (table_rows two) ∷ [])) (values (0 ∷ []))
    ∷ says (values (first (table_rows over) ∷ shares_of over ∷ over.frame ∷ [])) (values (14 ∷ 9 ∷ 8 ∷ []))
    ∷ says (values (first (table_rows (table 1 (1 by 1 ∷ []))) ∷ [])) (values (0 ∷ []))
    ∷ says (values (first (table_rows (table 8 (1 by 3 ∷ []))) ∷ [])) (values (13 ∷ []))
    ∷ says (values (first (table_rows (table 8 (0 by 4 ∷ []))) ∷ [])) (values (13 ∷ []))
    ∷ []

-- "One guest (1, 1): arrive and done 64 times at tick 0 leaves spares with deadlines 1 to 64; arrive now gives 5. Advance 1, arrive:
-- accepted, d = 65. A removed spare's place is used again.": one more done makes 64 spares again
unfoldable pub room_rows : List Border
unfolding after pairs
room_rows =
    let full = after (alone 1 1) (pairs 64) in
    let room = state_after (advances 1) full in
    let woken = state_after (arrives 0) room in
    let again = state_after (finishes 0) woken in
    says (values (deadlines full))
    (values (1 ∷ 2 ∷ 3 ∷ 4 ∷ 5 ∷ 6 ∷ 7 ∷ 8 ∷ 9 ∷ 10 ∷ 11 ∷ 12 ∷ 13 ∷ 14 ∷ 15 ∷ 16 ∷ 17 ∷ 18 ∷ 19 ∷ 20 ∷ 21 ∷ 22 ∷ 23 ∷ 24 ∷ 25 ∷ 26 ∷ 27 ∷ 28 ∷ 29 ∷ 30 ∷ 31 ∷ 32 ∷ 33 ∷ 34 ∷ 35 ∷ 36 ∷ 37 ∷ 38 ∷ 39 ∷ 40 ∷ 41 ∷ 42 ∷ 43 ∷ 44 ∷ 45 ∷ 46 ∷ 47 ∷ 48 ∷ 49 ∷ 50 ∷ 51 ∷ 52 ∷ 53 ∷ 54 ∷ 55 ∷ 56 ∷ 57 ∷ 58 ∷ 59 ∷ 60 ∷ 61 ∷ 62 ∷ 63 ∷ 64 ∷ []))
    ∷ says (values (number_given (arrives 0) full ∷ [])) (values (5 ∷ []))
    ∷ says (values (number_given (arrives 0) room ∷ deadline woken ∷ [])) (values (0 ∷ 65 ∷ []))
    ∷ says (values (deadlines again))
    (values (2 ∷ 3 ∷ 4 ∷ 5 ∷ 6 ∷ 7 ∷ 8 ∷ 9 ∷ 10 ∷ 11 ∷ 12 ∷ 13 ∷ 14 ∷ 15 ∷ 16 ∷ 17 ∷ 18 ∷ 19 ∷ 20 ∷ 21 ∷ 22 ∷ 23 ∷ 24 ∷ 25 ∷ 26 ∷ 27 ∷ 28 ∷ 29 ∷ 30 ∷ 31 ∷ 32 ∷ 33 ∷ 34 ∷ 35 ∷ 36 ∷ 37 ∷ 38 ∷ 39 ∷ 40 ∷ 41 ∷ 42 ∷ 43 ∷ 44 ∷ 45 ∷ 46 ∷ 47 ∷ 48 ∷ 49 ∷ 50 ∷ 51 ∷ 52 ∷ 53 ∷ 54 ∷ 55 ∷ 56 ∷ 57 ∷ 58 ∷ 59 ∷ 60 ∷ 61 ∷ 62 ∷ 63 ∷ 64 ∷ 65 ∷ []))
    ∷ []

-- "One guest (3, 4): arrive, done, arrive at tick 0: spare 3 with deadline 4, d = 8. A tick takes from the spare."
unfoldable pub own_spare_rows : List Border
unfolding after
own_spare_rows =
    let woken = after (alone 3 4) (arrives 0 ∷ finishes 0 ∷ arrives 0 ∷ []) in
    let ticked = state_after (advances 1) woken in
    says (values (capacities woken)) (values (3 ∷ []))
    ∷ says (values (deadlines woken)) (values (4 ∷ []))
    ∷ says (values (deadline woken ∷ [])) (values (8 ∷ []))
    ∷ says (values (capacities ticked)) (values (2 ∷ []))
    ∷ []

-- "Advance 0 at tick 2^40: accepted.", "Advance 1: refusal 7."
unfoldable pub end_rows : List Border
unfolding end_of_time
end_rows =
    says (values (number_given (advances 0) end_of_time ∷ [])) (values (0 ∷ []))
    ∷ says (values (number_given (advances 1) end_of_time ∷ [])) (values (7 ∷ []))
    ∷ []

-- all rows
unfoldable pub borders : List Border
unfolding listing_rows renewal_rows table_borders room_rows own_spare_rows end_rows
borders = listing_rows ++ renewal_rows ++ table_borders ++ room_rows ++ own_spare_rows ++ end_rows

-- "Starred ones are proved of the rules themselves, as rows under a single statement."
abbrev pub BordersHold : Type 0
BordersHold = map (λ (b : Border). b.computed) borders ≡ map (λ (b : Border). b.expected) borders
