-- A table: what a good one is, and which number refuses a bad one ("Quantities and bounds").
use Rattle.std.specs.Prelude.{Bool, not, ◌&&◌, List, [], ◌∷◌, ℕ, ◌*◌, ◌/◌, ◌%◌, ltb, leb, eqb, take, replicate}
use Rattle.laws.specs.Lists.{every, total, unused}
use Rattle.rules.specs.declared.Entry.{Entry}
use Rattle.rules.specs.declared.Table.{Table}
use Rattle.rules.specs.Limits.{guest_places, longest_frame}
use Rattle.rules.specs.Refusals.{Row, ◌gives◌, first, outside}

-- "T dividing H"
abbrev pub divides : ℕ → ℕ → Bool
divides T H = eqb (H % T) 0

-- "Guest i has budget Q and period T with 1 ≤ Q ≤ T and T dividing H."
abbrev pub fits_frame : ℕ → Entry → Bool
fits_frame H e = leb 1 e.budget && leb e.budget e.period && divides e.period H

-- "Q × (H / T)"
abbrev pub share_of : ℕ → Entry → ℕ
share_of H e = e.budget * (H / e.period)

-- the entries of the table's guests, numbered from 0
abbrev pub entries_of : Table → List Entry
entries_of t = take t.count t.entries

-- "The sum over guests of Q × (H / T)"
abbrev pub shares_of : Table → ℕ
shares_of t = total (share_of t.frame) (entries_of t)

-- an unused place of the table is zero
abbrev pub entry_is_zero : Entry → Bool
entry_is_zero e = eqb e.budget 0 && eqb e.period 0

-- 10: "n is 0 or above 16"
abbrev pub count_row : Table → Row
count_row t = outside 1 guest_places t.count gives 10

-- 12: "H is 0 or above 1,000,000"
-- 13: "some guest breaks 1 ≤ Q ≤ T or T does not divide H, or an unused place of the table is not zero"
-- 14: "the shares add up to more than H"
abbrev pub range_rows : Table → List Row
range_rows t =
    outside 1 longest_frame t.frame gives 12
    ∷ not (every (fits_frame t.frame) (entries_of t) && unused entry_is_zero guest_places t.count t.entries) gives 13
    ∷ ltb t.frame (shares_of t) gives 14
    ∷ []

-- "10 and 12 to 14 for a bad table"
abbrev pub table_rows : Table → List Row
table_rows t = count_row t ∷ range_rows t

-- no number refuses it
unfoldable pub good_table : Table → Bool
good_table t = eqb (first (table_rows t)) 0

-- a place with no guest
abbrev pub no_entry : Entry
no_entry = record { budget = 0; period = 0 }

-- "a refused table .. is all zeros"
abbrev pub no_table : Table
no_table = record { frame = 0; count = 0; entries = replicate guest_places no_entry }
