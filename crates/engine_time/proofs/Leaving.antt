-- The spares from a place on: the first of them, and all of them moved to the front.
use mathlib.Core.Path.{◌≡◌, refl}
use mathlib.Core.List.{List, [], ◌∷◌, ◌++◌, map}
use Prim.Native.Nat.{ℕ, ◌-◌, ◌≤◌}
use lib.ListN.{length, take, drop, replicate}
use lib.Seq.{slice, length-slice}
use Rattle.std.specs.List.{slice_get, slice_range}
use Rattle.std.proofs.lemmas.List.{drop-replicate}
use Rattle.std.proofs.lemmas.Slice.{between_is}
use Rattle.laws.specs.Lists.{padded}
use Rattle.rules.specs.Limits.{spare_places}
use Rattle.rules.specs.declared.Spare.{Spare as SparePlace}
use Rattle.rules.specs.Places.{spare_of, no_spare_place}
use Rattle.engine_choice.specs.Clauses.{first_of}

first_got : (xs : List SparePlace) → first_of (slice_get xs 0) ≡ map spare_of (take 1 xs)
first_got [] = refl
first_got (x ∷ xs) = refl

module _ (l : List SparePlace) (head listed : ℕ) where
  pub first_listed : first_of (slice_get (slice_range l head listed) 0) ≡ map spare_of (take 1 (slice head listed l))
  first_listed = rw (between_is l head listed) (first_got (slice head listed l))

  -- what was copied to the front of empty places
  pub left_first : listed ≤ length l → (z : SparePlace) → (z.deadline ≡ 0) × (z.owner ≡ 0) × (z.capacity ≡ 0) → {part : List SparePlace} → part ≡ slice_range l head listed
      → part ++ drop (listed - head) (replicate spare_places z) ≡ padded spare_places no_spare_place (slice head listed l)
  left_first k z none e =
      let empty : z ≡ no_spare_place = λ i. record { deadline = none.0 i; owner = none.1 i; capacity = none.2 i } in
      rw (e, empty, between_is l head listed, drop-replicate (listed - head) spare_places no_spare_place, length-slice head listed l k) refl
