-- An array that `map` made of another one is the map of its list.
use mathlib.Core.Path.{◌≡◌, refl}
use mathlib.Core.List.{List, [], ◌∷◌, map}
use Prim.Native.Nat.{ℕ, suc, ◌<◌}
use native.Mathlib.Omega.{arith}
use lib.ListN.{length, get_or}

-- element by element
pub mapped : {A B : Type 0} (f : A → B) (z : A) (w : B) (xs : List A) (ys : List B) → length ys ≡ length xs → ((i : ℕ) → i < length xs → get_or ys i w ≡ f (get_or xs i z)) → ys ≡ map f xs
mapped f z w [] [] e h = refl
mapped f z w [] (y ∷ ys) e h = absurd (omega arith)
mapped f z w (x ∷ xs) [] e h = absurd (omega arith)
mapped {B = B} f z w (x ∷ xs) (y ∷ ys) e h =
    let first : y ≡ f x = h 0 (omega arith) in
    let rest : ys ≡ map f xs = mapped f z w xs ys (omega arith) (λ i l. h (suc i) (omega arith)) in
    rw (first, rest) refl
