-- The bounds are needed: what happens without them, run by the bare steps. Line 212 stands here by its name.
use Rattle.std.specs.Prelude.{List, [], ◌∷◌, ℕ, replicate}
use Rattle.rules.specs.declared.Table.{Table}
use Rattle.rules.specs.declared.State.{State}
use Rattle.rules.specs.Refusals.{first}
use Rattle.rules.specs.Table.{table_rows, shares_of}
use Rattle.rules.specs.Model.{guest, spare, Model, current_of, deadline_of, guest_at}
use Rattle.rules.specs.Places.{model, packed, fresh_state}
use Rattle.promises.specs.Runs.{arrival, one_tick, after_all}
use Rattle.rules.specs.Samples.{◌by◌, table}
use Rattle.promises.specs.Borders.{Border, values, says}

-- the tick, and guest 1's c and d
abbrev pub second : Model → List ℕ
second m = m.now ∷ current_of (guest_at 1 m.guests) ∷ deadline_of (guest_at 1 m.guests) ∷ []

-- (3, 4) and (2, 4), H = 4: 5 against 4
abbrev pub overfull : Table
overfull = table 4 (3 by 4 ∷ 2 by 4 ∷ [])

-- line 212: two guests (2, 4), H = 4, both active with d = 4; guest 0's leftover is listed as spare while its own c stays
abbrev pub line212 : Model
line212 =
    record {
      frame = 4;
      now = 0;
      guests = guest 2 4 1 2 4 0 0 ∷ guest 2 4 1 2 4 0 0 ∷ [];
      spares = spare 4 0 2 ∷ [];
      burned = 0;
      empty = 0;
    }

-- the same in its places
unfoldable pub line212_state : State
unfolding packed
line212_state = packed line212

-- a share above H is refused by 14; stepped all the same, guest 1 still holds 1 tick at its deadline
unfoldable pub overfull_rows : List Border
unfolding fresh_state model after_all
overfull_rows =
    says (values (first (table_rows overfull) ∷ shares_of overfull ∷ [])) (values (14 ∷ 5 ∷ []))
    ∷ says (values (second (after_all (arrival 0 ∷ arrival 1 ∷ replicate 4 one_tick) (model (fresh_state overfull))))) (values (4 ∷ 1 ∷ 4 ∷ []))
    ∷ []

-- line 212 stepped all the same: after 4 ticks guest 1 still holds its whole budget at its deadline; the media guest starved
unfoldable pub line212_rows : List Border
unfolding after_all
line212_rows = says (values (second (after_all (replicate 4 one_tick) line212))) (values (4 ∷ 2 ∷ 4 ∷ [])) ∷ []
