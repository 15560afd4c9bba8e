-- What the crate's functions answer, for every list and every number, and that each answer is settled.
use Rattle.std.specs.Prelude.{◌≡◌, Bool, cond, List, [], ◌∷◌, ℕ, ◌^◌, ◌<◌, min, leb, Option, Some, None}
use Rattle.std.specs.Int.Count.{ones, count_trailing_zeros}
use Rattle.rules.specs.declared.Guest.{Guest as GuestPlace}
use Rattle.rules.specs.declared.Spare.{Spare as SparePlace}
use Rattle.rules.specs.Limits.{guest_places}
use Rattle.rules.specs.Model.{mask_of, Spare}
use Rattle.rules.specs.Places.{spare_of}
use Rattle.rules.specs.Steps.{before, ready, portion_for}
use Rattle.engine_choice.specs.declared.Pick.{Pick as DeclaredPick}
use Rattle.engine_choice.specs.Choice.{shown, in_use, pick_of}
use Rattle.rules.specs.declared.Portion.{Portion as DeclaredPortion}
use Rattle.rules.specs.declared.Portion.TheVariants.{Run, Burn, Nothing}
use Rattle.rules.specs.declared.Source.{Source}
use Rattle.rules.specs.declared.Source.TheVariants.{Own, SpareOf}
use Rattle.rules.specs.Calls.{portion_of}
use Rattle.engine_choice.specs.declared.Charge.{Charge}

-- "in strictly rising order of (deadline, owner)": whether x stands before y
abbrev pub OrderTold : SparePlace → SparePlace → Bool → Type 0
OrderTold x y r = r ≡ before (spare_of x) (spare_of y)

-- "a mask, bit i for guest i", of the first `count` guests; it has no bit past the places
abbrev pub MaskTold : List GuestPlace → ℕ → ℕ → Type 0
MaskTold guests count r = (r ≡ mask_of (in_use count guests)) × (r < 2 ^ guest_places)

-- "the count of its ones"
abbrev pub OnesTold : ℕ → ℕ → Type 0
OnesTold mask r = r ≡ ones mask

-- the lowest active guest, by the zeros at the mask's end; 32 where there is none
abbrev pub LowestTold : List GuestPlace → ℕ → ℕ → Type 0
LowestTold guests count r = r ≡ count_trailing_zeros 32 (mask_of (in_use count guests))

-- guest i as it may be picked
abbrev pub ReadyTold : ℕ → GuestPlace → Option DeclaredPick → Type 0
ReadyTold i g r = pick_of r ≡ ready i (shown g)

-- the first spare, if there is any
abbrev pub first_of : Option SparePlace → List Spare
first_of None = []
first_of (Some x) = spare_of x ∷ []

-- "a spare at 0 is removed"
abbrev pub removed_by : ℕ → ℕ → ℕ
removed_by ticks capacity = cond (leb capacity ticks) 1 0

-- so many ticks, charged to nobody yet
abbrev pub blank : ℕ → ℕ → Charge
blank ticks guest = record { ticks = ticks; guest = guest; own = 0; borrowed = 0; spent = 0; removed = 0; burned = 0; empty = 0 }

-- ticks that a guest runs, on its own budget or on a spare
abbrev pub run_charge : Source → ℕ → ℕ → ℕ → Charge
run_charge Own i n removed = record { ticks = n; guest = i; own = n; borrowed = 0; spent = 0; removed = 0; burned = 0; empty = 0 }
run_charge (SpareOf owner) i n removed = record { ticks = n; guest = i; own = 0; borrowed = n; spent = n; removed = removed; burned = 0; empty = 0 }

-- of the ticks left, those that stay on what comes next, each charged where a tick on it is charged
abbrev pub charge_of : ℕ → ℕ → DeclaredPortion → Charge
charge_of left last (Run i source d span) = run_charge source i (min left span) (removed_by (min left span) span)
charge_of left last (Burn owner d span) =
    record { ticks = min left span; guest = last; own = 0; borrowed = 0; spent = min left span; removed = removed_by (min left span) span; burned = min left span; empty = 0 }
charge_of left last Nothing = record { ticks = left; guest = last; own = 0; borrowed = 0; spent = 0; removed = 0; burned = 0; empty = left }

-- steps 3 and 4 of a tick: what the picked guest and the first spare, if there is any, make the next tick use
abbrev pub PortionTold : Option DeclaredPick → Option SparePlace → DeclaredPortion → Type 0
PortionTold pick first r = portion_of r ≡ portion_for (pick_of pick) (first_of first)

-- step 5, "The matching tally gains 1", for as many of the ticks left as stay on the portion
abbrev pub ChargeTold : DeclaredPortion → ℕ → ℕ → Charge → Type 0
ChargeTold portion left last r = r ≡ charge_of left last portion

-- any two outcomes that a predicate allows are equal
pub record OneAnswer : Type 0 where
  pub order : (x y : SparePlace) (a b : Bool) → OrderTold x y a → OrderTold x y b → a ≡ b
  pub mask : (guests : List GuestPlace) (count a b : ℕ) → MaskTold guests count a → MaskTold guests count b → a ≡ b
  pub ones : (mask a b : ℕ) → OnesTold mask a → OnesTold mask b → a ≡ b
  pub lowest : (guests : List GuestPlace) (count a b : ℕ) → LowestTold guests count a → LowestTold guests count b → a ≡ b
  pub ready : (i : ℕ) (g : GuestPlace) (a b : Option DeclaredPick) → ReadyTold i g a → ReadyTold i g b → a ≡ b
  pub portion : (pick : Option DeclaredPick) (first : Option SparePlace) (a b : DeclaredPortion) → PortionTold pick first a → PortionTold pick first b → a ≡ b
  pub charge : (portion : DeclaredPortion) (left last : ℕ) (a b : Charge) → ChargeTold portion left last a → ChargeTold portion left last b → a ≡ b
