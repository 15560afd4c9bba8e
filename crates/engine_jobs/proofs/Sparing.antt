-- A spare put in its place: where that is, and how the others move.
use Rattle.std.proofs.Common.{◌≡◌, ℕ, zero, suc, ◌+◌, ◌-◌, ◌≤◌, ◌<◌, Bool, true, not, cond, List, [], ◌∷◌, ◌++◌, map, length, take, drop, refl, sym, ap, ◌∙◌, arith, add-one, ltb, unwrap_or, Some, None}
use native.Mathlib.Nat.{suc-add}
use lib.ListN.{set}
use lib.Seq.{paste, slice, take-take}
use Rattle.std.specs.List.{position_or_len}
use Rattle.std.proofs.lemmas.List.Sums.{prefix_len-le-length}
use Rattle.laws.specs.Lists.{padded, unused}
use Rattle.laws.proofs.Cases.{by_test, by_ltb}
use Rattle.laws.proofs.Places.{moved_back, length_places}
use Rattle.rules.specs.declared.Spare.{Spare as SparePlace}
use Rattle.rules.specs.Limits.{spare_places}
use Rattle.rules.specs.Steps.{before, insert_spare}
use Rattle.rules.specs.Places.{spare_of, spare_place, no_spare_place, spare_place_is_zero}
use Rattle.promises.proofs.Packing.{spare_zero, spare_places_lem}

-- a store before what was pasted
pub set_paste : {A : Type 0} (d : List A) (i : ℕ) (s : List A) (n : ℕ) (v : A) → i < length d → set (paste d (suc i) s n) i v ≡ paste (set d i v) (suc i) s n
set_paste [] i s n v h = absurd (omega arith)
set_paste (x ∷ d) zero s n v h = rw suc-add
set_paste (x ∷ d) (suc i) s n v h = rw suc-add (ap (λ r. x ∷ r) (set_paste d i s n v (omega arith)))

module _ (x : SparePlace) where
  -- x comes before y
  abbrev pub Before : SparePlace → Bool
  Before y = before (spare_of x) (spare_of y)

  -- the list with x is x put before the first spare that it comes before
  inserted_at : (ys : List SparePlace) → insert_spare (spare_of x) (map spare_of ys) ≡ map spare_of (take (position_or_len Before ys) ys ++ (x ∷ drop (position_or_len Before ys) ys))
  inserted_at [] = refl
  inserted_at (y ∷ ys) =
      let n = position_or_len Before ys in
      let next : 1 + n ≡ suc n = omega arith in
      by_test
      (λ t. cond t (spare_of x ∷ spare_of y ∷ map spare_of ys) (spare_of y ∷ insert_spare (spare_of x) (map spare_of ys)) ≡ map spare_of (take (cond (not t) (1 + n) 0) (y ∷ ys) ++ (x ∷ drop (cond (not t) (1 + n) 0) (y ∷ ys))))
      (Before y) (λ e. refl) (λ e. rw next (ap (λ r. spare_of y ∷ r) (inserted_at ys)))

  -- in places: the spares from there on stand one place further
  pub inserted_places : (a : List SparePlace) (n at : ℕ) → unused spare_place_is_zero spare_places n a ≡ true → n < spare_places → at ≡ position_or_len Before (take n a) → at ≤ n
      → set (paste a (at + 1) (drop at a) (n - at)) at x ≡ padded spare_places no_spare_place (map spare_place (insert_spare (spare_of x) (map spare_of (take n a))))
  inserted_places a n at u room e low =
      let long = length_places spare_place_is_zero no_spare_place spare_zero spare_places n a u in
      let front = take-take at n a low in
      let list = inserted_at (take n a) ∙ ap (λ (k : ℕ). map spare_of (take k (take n a) ++ (x ∷ drop k (take n a)))) (sym e) ∙ ap (λ (l : List SparePlace). map spare_of (l ++ (x ∷ slice at n a))) front in
      let places = ap (λ l. map spare_place l) list ∙ spare_places_lem _ in
      let moved : set (paste a (at + 1) (drop at a) (n - at)) at x ≡ paste (set a at x) (at + 1) (drop at a) (n - at) = rw add-one (set_paste a at (drop at a) (n - at) x (omega arith)) in
      moved_back spare_place_is_zero no_spare_place spare_zero spare_places n a u at x low room (record { low = low; so = moved }) refl
      ∙ ap (λ l. padded spare_places no_spare_place l) (sym places)

-- the end where no place is found
pub place_or_end : {A : Type 0} (p : A → Bool) (xs : List A) → unwrap_or (cond (ltb (position_or_len p xs) (length xs)) (Some (position_or_len p xs)) None) (length xs) ≡ position_or_len p xs
place_or_end p xs =
    by_ltb (λ t. unwrap_or (cond t (Some (position_or_len p xs)) None) (length xs) ≡ position_or_len p xs) (position_or_len p xs) (length xs) (λ l. refl) (λ l. omega (arith, prefix_len-le-length (λ x. not (p x)) xs))
