-- Lists: every element, a sum, one element changed, and a list that is filled up to its places.
use Rattle.std.specs.Prelude.{List, [], ◌∷◌, ◌++◌, Bool, ◌&&◌, ℕ, zero, suc, ◌+◌, ◌-◌, eqb, length, drop, replicate}
use Rattle.std.specs.List.{list_all}

module _ {A : Type 0} where
  -- p holds of every element
  abbrev pub every : (A → Bool) → List A → Bool
  every = list_all

  -- the sum of f over the elements
  abbrev pub total : (A → ℕ) → List A → ℕ
  total f [] = 0
  total f (x ∷ xs) = f x + total f xs

  -- the element at i becomes what f makes of it, and the others stay
  abbrev pub changed : ℕ → (A → A) → List A → List A
  changed i f [] = []
  changed zero f (x ∷ xs) = f x ∷ xs
  changed (suc i) f (x ∷ xs) = x ∷ changed i f xs

  -- the list, and z at each place behind it
  abbrev pub padded : ℕ → A → List A → List A
  padded places z xs = xs ++ replicate (places - length xs) z

  -- there are so many places, and each one behind the first n holds nothing
  abbrev pub unused : (A → Bool) → ℕ → ℕ → List A → Bool
  unused is_empty places n xs = eqb (length xs) places && every is_empty (drop n xs)
