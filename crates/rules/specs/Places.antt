-- The declared state, with its places, and the model of it: nothing is said here but what stands where.
use Rattle.std.specs.Prelude.{Bool, ◌&&◌, eqb, length, take, replicate}
use mathlib.Core.List.{map, zip_with}
use Rattle.laws.specs.Lists.{padded, unused}
use Rattle.rules.specs.declared.Entry.{Entry}
use Rattle.rules.specs.declared.Table.{Table}
use Rattle.rules.specs.declared.Guest.{Guest as GuestPlace}
use Rattle.rules.specs.declared.Spare.{Spare as SparePlace}
use Rattle.rules.specs.declared.State.{State}
use Rattle.rules.specs.Limits.{guest_places, spare_places}
use Rattle.rules.specs.Table.{entries_of, no_entry, no_table}
use Rattle.rules.specs.Model.{Guest, guest, Spare, spare, Model}

-- ---- from the places to the model

-- a guest is its entry in the table and its changing numbers
abbrev pub guest_of : Entry → GuestPlace → Guest
guest_of e g = guest e.budget e.period g.jobs g.current g.deadline g.own g.borrowed

-- a spare as it is listed
abbrev pub spare_of : SparePlace → Spare
spare_of x = spare x.deadline x.owner x.capacity

-- n guests and `count` spares are in use
unfoldable pub model : State → Model
unfolding zip_with
model s =
    record {
      frame = s.table.frame;
      now = s.now;
      guests = zip_with guest_of (entries_of s.table) (take s.table.count s.guests);
      spares = map spare_of (take s.listed s.spares);
      burned = s.burned;
      empty = s.empty;
    }

-- ---- from the model to the places

-- the table's part of a guest
abbrev pub entry_of : Guest → Entry
entry_of (guest Q T jobs c d own borrowed) = record { budget = Q; period = T }

-- the changing part of a guest
abbrev pub guest_place : Guest → GuestPlace
guest_place (guest Q T jobs c d own borrowed) = record { jobs = jobs; current = c; deadline = d; own = own; borrowed = borrowed }

-- a spare in its place
abbrev pub spare_place : Spare → SparePlace
spare_place (spare d owner c) = record { deadline = d; owner = owner; capacity = c }

-- an unused guest place
abbrev pub no_guest_place : GuestPlace
no_guest_place = record { jobs = 0; current = 0; deadline = 0; own = 0; borrowed = 0 }

-- an unused spare place
abbrev pub no_spare_place : SparePlace
no_spare_place = record { deadline = 0; owner = 0; capacity = 0 }

-- the table that the guests came from
unfoldable pub table_of : Model → Table
table_of m =
    record {
      frame = m.frame;
      count = length m.guests;
      entries = padded guest_places no_entry (map entry_of m.guests);
    }

-- unused places are zero
unfoldable pub packed : Model → State
unfolding table_of
packed m =
    record {
      table = table_of m;
      now = m.now;
      guests = padded guest_places no_guest_place (map guest_place m.guests);
      listed = length m.spares;
      spares = padded spare_places no_spare_place (map spare_place m.spares);
      burned = m.burned;
      empty = m.empty;
    }

-- ---- the places that are not used

-- all numbers of a guest's place, tallies too
abbrev pub guest_place_is_zero : GuestPlace → Bool
guest_place_is_zero g = eqb g.jobs 0 && eqb g.current 0 && eqb g.deadline 0 && eqb g.own 0 && eqb g.borrowed 0

-- all numbers of a spare's place
abbrev pub spare_place_is_zero : SparePlace → Bool
spare_place_is_zero x = eqb x.deadline 0 && eqb x.owner 0 && eqb x.capacity 0

-- "unused guest places and spare places are all zero"; those of the table are the table's own (13)
abbrev pub unused_zero : State → Bool
unused_zero s =
    unused guest_place_is_zero guest_places s.table.count s.guests && unused spare_place_is_zero spare_places s.listed s.spares

-- ---- a fresh state

-- "A fresh state is made from a table; it has tick 0 and every other changing number 0."
unfoldable pub fresh_state : Table → State
fresh_state t =
    record {
      table = t;
      now = 0;
      guests = replicate guest_places no_guest_place;
      listed = 0;
      spares = replicate spare_places no_spare_place;
      burned = 0;
      empty = 0;
    }

-- "a refused .. fresh state is all zeros"
unfoldable pub no_state : State
unfolding fresh_state
no_state = fresh_state no_table
