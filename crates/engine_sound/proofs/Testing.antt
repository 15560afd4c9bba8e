-- What the places of a state hold: an entry and its guest, a spare and its owner, zeros, and the order of the spares.
use mathlib.Core.Path.{◌≡◌, refl, sym, ap, ap₂, ◌∙◌}
use mathlib.Core.Bool.{Bool, true, false, ◌&&◌, and-false}
use Rattle.std.specs.List.{IsAllAdjacentAnswer, zip}
use mathlib.Core.List.{List, [], ◌∷◌, map, zip_with}
use Prim.Native.Nat.{ℕ, zero, suc, ◌≤◌, ◌<◌}
use native.Mathlib.Numerals.{add-one}
use native.Mathlib.Omega.{arith}
use lib.Dec.{ltb}
use lib.ListN.{length, get_or}
use Rattle.rules.specs.declared.Entry.{Entry}
use Rattle.rules.specs.declared.Guest.{Guest as GuestPlace}
use Rattle.rules.specs.declared.Spare.{Spare as SparePlace}
use Rattle.rules.specs.Table.{no_entry}
use Rattle.rules.specs.Places.{guest_of, spare_of, no_guest_place, no_spare_place}
use Rattle.rules.specs.Sound.{rising}
use Rattle.rules.specs.Steps.{before}
use Rattle.promises.proofs.Packing.{zip_at, zip_length}
use Rattle.engine_sound.specs.Inner.{spare_fits, spare_place_holds}
use Rattle.laws.specs.Lists.{every}
use Rattle.laws.proofs.Cases.{and_intro}
use borrow.Author.Tests.{lt-ltb, le-ltb}

-- two lists side by side, as they are and as pairs
pub every_zip : {A B C : Type 0} (p : C → Bool) (f : A → B → C) (xs : List A) (ys : List B) → every p (zip_with f xs ys) ≡ every (λ q. p (f q.0 q.1)) (zip xs ys)
unfolding zip_with
every_zip p f [] [] = refl
every_zip p f [] (y ∷ ys) = refl
every_zip p f (x ∷ xs) [] = refl
every_zip p f (x ∷ xs) (y ∷ ys) = ap (λ b. p (f x y) && b) (every_zip p f xs ys)

-- ---- a spare and its owner

module _ (now : ℕ) (es : List Entry) (gs : List GuestPlace) (x : SparePlace) (e : length es ≡ length gs) where
  pub owner_asked : x.owner < length gs → spare_fits now (guest_of (get_or es x.owner no_entry) (get_or gs x.owner no_guest_place)) (spare_of x) ≡ spare_place_holds now (zip_with guest_of es gs) x
  owner_asked h = rw (zip_length (length gs) es gs e refl, lt-ltb x.owner (length gs) h, zip_at x.owner es gs (omega arith) h)

  -- one whose owner is no guest fails the test
  pub no_owner : length gs ≤ x.owner → ltb x.owner (length gs) ≡ spare_place_holds now (zip_with guest_of es gs) x
  no_owner h = rw (zip_length (length gs) es gs e refl, le-ltb x.owner (length gs) h)

-- ---- places that are zero

-- what equals the zero place is zero
pub zero_told : {A : Type 0} (is_zero : A → Bool) (eq : A → A → Bool) (none : A) → ((x : A) → eq x none ≡ is_zero x) → {z : A} → z ≡ none → (xs : List A) → every (λ x. eq x z) xs ≡ every is_zero xs
zero_told is_zero eq none same e [] = refl
zero_told is_zero eq none same {z} e (x ∷ xs) = ap₂ (λ (a b : Bool). a && b) (ap (eq x) e ∙ same x) (zero_told is_zero eq none same e xs)

-- ---- the order of the spares

module _ (d : SparePlace) where
  -- the spare at k comes before the next
  abbrev Rises : List SparePlace → ℕ → Bool
  Rises xs k = before (spare_of (get_or xs k d)) (spare_of (get_or xs (suc k) d))

  all_rise : (xs : List SparePlace) → ((k : ℕ) → suc k < length xs → true ≡ Rises xs k) → true ≡ rising (map spare_of xs)
  all_rise [] h = refl
  all_rise (x ∷ []) h = refl
  all_rise (x ∷ y ∷ xs) h = sym (and_intro (sym (h 0 (omega arith))) (sym (all_rise (y ∷ xs) (λ k l. h (suc k) (omega arith)))))

  one_falls : (xs : List SparePlace) (k : ℕ) → suc k < length xs → false ≡ Rises xs k → false ≡ rising (map spare_of xs)
  one_falls [] k h f = absurd (omega arith)
  one_falls (x ∷ []) k h f = absurd (omega arith)
  one_falls (x ∷ y ∷ xs) zero h f = rw (sym f)
  one_falls (x ∷ y ∷ xs) (suc k) h f = rw (sym (one_falls (y ∷ xs) k (omega arith) f), and-false)

-- the spares rise where each comes before the next
pub rising_told : (xs : List SparePlace) (r : Bool) → IsAllAdjacentAnswer (λ x y b. b ≡ before (spare_of x) (spare_of y)) xs r → r ≡ rising (map spare_of xs)
rising_told xs true h = all_rise no_spare_place xs (λ k l. rw add-one at (h k no_spare_place (rw add-one l)))
rising_told xs false h = one_falls no_spare_place xs h.0 (rw add-one at h.1) (rw add-one at (h.2 no_spare_place))
