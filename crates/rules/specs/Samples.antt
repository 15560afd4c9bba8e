-- What the rows are computed on: tables, a good state with something of everything in it, and the same with one thing changed.
use Rattle.std.specs.Prelude.{List, [], ◌∷◌, ℕ, zero, suc, length, set}
use Rattle.laws.specs.Lists.{padded}
use Rattle.rules.specs.declared.Entry.{Entry}
use Rattle.rules.specs.declared.Table.{Table}
use Rattle.rules.specs.declared.Guest.{Guest as GuestPlace}
use Rattle.rules.specs.declared.Spare.{Spare as SparePlace}
use Rattle.rules.specs.declared.State.{State}
use Rattle.rules.specs.Limits.{guest_places}
use Rattle.rules.specs.Table.{no_entry}
use Rattle.rules.specs.Model.{Guest, guest, Spare, spare, Model}
use Rattle.rules.specs.Places.{packed}

-- ---- how a table is written

-- a guest (Q, T)
infix 68 ◌by◌
abbrev pub ◌by◌ : ℕ → ℕ → Entry
Q by T = record { budget = Q; period = T }

-- a table of guests
abbrev pub table : ℕ → List Entry → Table
table H es = record { frame = H; count = length es; entries = padded guest_places no_entry es }

-- "Where one guest is named without H, H is its T."
abbrev pub alone : ℕ → ℕ → Table
alone Q T = table T (Q by T ∷ [])

-- (3, 4) and (2, 8), H = 8
abbrev pub two : Table
two = table 8 (3 by 4 ∷ 2 by 8 ∷ [])

-- ---- the sample

-- guest 0 is active: Q = 3, T = 12, 2 jobs, c = 2, d = 30, 3 ticks on its own budget and 1 on a spare
abbrev pub running : Guest
running = guest 3 12 2 2 30 3 1

-- guest 1 is idle: Q = 4, T = 8, d = 20
abbrev pub resting : Guest
resting = guest 4 8 0 0 20 2 1

-- two spares of guest 1, and one that guest 0 left before it was woken again
abbrev pub leftovers : List Spare
leftovers = spare 16 1 4 ∷ spare 20 1 1 ∷ spare 24 0 3 ∷ []

-- frame 24, tick 10
abbrev pub sample_of : List Guest → List Spare → Model
sample_of gs ss = record { frame = 24; now = 10; guests = gs; spares = ss; burned = 1; empty = 2 }

-- the sample, as the rules see it
abbrev pub sample_model : Model
sample_model = sample_of (running ∷ resting ∷ []) leftovers

-- the sample in its places
unfoldable pub sample : State
unfolding packed
sample = packed sample_model

-- with another guest 0
unfoldable pub with_first : Guest → State
unfolding packed
with_first g = packed (sample_of (g ∷ resting ∷ []) leftovers)

-- with another guest 1
unfoldable pub with_second : Guest → State
unfolding packed
with_second g = packed (sample_of (running ∷ g ∷ []) leftovers)

-- with other spares
unfoldable pub with_spares : List Spare → State
unfolding packed
with_spares ss = packed (sample_of (running ∷ resting ∷ []) ss)

-- with other tallies of the processor
unfoldable pub with_idle : ℕ → ℕ → State
unfolding packed
with_idle burned empty =
    packed (record { frame = 24; now = 10; guests = running ∷ resting ∷ []; spares = leftovers; burned = burned; empty = empty })

-- ---- one place of the sample changed

-- the state with other places and another count of spares
abbrev pub placed : State → Table → List GuestPlace → ℕ → List SparePlace → State
placed s t gs n xs = record { table = t; now = s.now; guests = gs; listed = n; spares = xs; burned = s.burned; empty = s.empty }

-- guest place 15, which nobody uses
unfoldable pub with_last_guest : GuestPlace → State
unfolding sample
with_last_guest g = placed sample sample.table (set sample.guests 15 g) 3 sample.spares

-- spare place 63, which nobody uses
unfoldable pub with_last_spare : SparePlace → State
unfolding sample
with_last_spare x = placed sample sample.table sample.guests 3 (set sample.spares 63 x)

-- the count of the spares alone
unfoldable pub with_count : ℕ → State
unfolding sample
with_count n = placed sample sample.table sample.guests n sample.spares

-- the table alone
unfoldable pub with_table : Table → State
unfolding sample
with_table t = placed sample t sample.guests 3 sample.spares

-- ---- states at the borders

-- one guest (1, 1) with its jobs, c and d, at a tick that was all idle
unfoldable pub lone : ℕ → ℕ → ℕ → ℕ → State
unfolding packed
lone now jobs c d = packed (record { frame = 1; now = now; guests = guest 1 1 jobs c d 0 0 ∷ []; spares = []; burned = 0; empty = now })

-- so many spares of guest 0 with a capacity of 1, and deadlines from d on
unfoldable pub row : ℕ → ℕ → List Spare
row zero d = []
row (suc n) d = spare d 0 1 ∷ row n (suc d)

-- one guest (1, 1) with its jobs, c and d at tick 0, and n spares with deadlines 1 to n
unfoldable pub crowded : ℕ → ℕ → ℕ → ℕ → State
unfolding packed row
crowded n jobs c d = packed (record { frame = 1; now = 0; guests = guest 1 1 jobs c d 0 0 ∷ []; spares = row n 1; burned = 0; empty = 0 })

-- the same with 64 spares, and one more counted
unfoldable pub overcounted : State
unfolding crowded
overcounted = let s = crowded 64 0 0 64 in placed s s.table s.guests 65 s.spares

-- one idle guest (1, 1) with this deadline at tick 0, and a spare that it left with the same
unfoldable pub left_at : ℕ → State
unfolding packed
left_at d = packed (record { frame = 1; now = 0; guests = guest 1 1 0 0 d 0 0 ∷ []; spares = spare d 0 1 ∷ []; burned = 0; empty = 0 })
