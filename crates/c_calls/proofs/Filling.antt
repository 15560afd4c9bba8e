-- An array that is filled place by place with what a function makes of another: what the loop knows at i, and what one turn adds.
use mathlib.Core.Path.{◌≡◌, sym, ap, ◌∙◌}
use mathlib.Core.List.{List, [], ◌∷◌, ◌++◌, map, map-append, append-nil}
use Prim.Native.Nat.{ℕ, ◌+◌, ◌-◌, ◌≤◌, ◌<◌}
use native.Mathlib.Nat.{sub-zero}
use native.Mathlib.Numerals.{add-one}
use native.Mathlib.Omega.{arith}
use lib.ListN.{length, get_or, take, set, replicate, length-map}
use lib.Seq.{take-suc, take_all, length-take-le}
use Rattle.laws.specs.Lists.{padded}
use Rattle.laws.proofs.Places.{set_padded}

module _ {A B : Type 0} (f : A → B) (places : ℕ) (z : B) where
  -- the first i are there, and z behind them
  pub record Filling (xs : List A) (i : ℕ) (ys : List B) : Type 0 where
    pub so : ys ≡ padded places z (map f (take i xs))

  pub filling_start : (xs : List A) → Filling xs 0 (replicate places z)
  filling_start xs = record { so = ap (λ (n : ℕ). replicate n z) (sym (sub-zero places)) }

  module _ {xs : List A} {i : ℕ} {ys : List B} (h : Filling xs i ys) (long : length xs ≡ places) where
    pub filling_more : (d : A) {y : B} → y ≡ f (get_or xs i d) → i < places → Filling xs (i + 1) (set ys i y)
    filling_more d {y} e l =
        let front = map f (take i xs) in
        let more : map f (take (i + 1) xs) ≡ front ++ (y ∷ []) = rw (add-one i, take-suc xs i d (omega arith), map-append, e) in
        record { so = rw (more, h.so) (set_padded places z i front y (length-map (take i xs) f ∙ length-take-le i xs (omega arith)) l) }

    pub filling_end : places ≤ i → ys ≡ map f xs
    filling_end l =
        let all : take i xs ≡ xs = take_all i xs (omega arith) in
        let none : places - length (map f xs) ≡ 0 = omega (arith, length-map xs f) in
        h.so ∙ rw (all, none) (append-nil (map f xs))
