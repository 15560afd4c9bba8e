-- A number on a line: "each after one space .. 1 to 13 digits and no leading zero unless it is 0".
use Rattle.std.specs.Prelude.{Bool, cond, not, ◌&&◌, ◌||◌, List, [], ◌∷◌, ℕ, suc, leb, eqb, get_or, take, drop}
use Rattle.laws.specs.Digits.{value_in}

-- "1 to 13 digits"
abbrev pub most_digits : ℕ
most_digits = 13

-- `0` to `9`
abbrev pub is_digit : ℕ → Bool
is_digit b = leb 48 b && leb b 57

-- how many digits stand at the front
unfoldable pub digits_in : List ℕ → ℕ
digits_in [] = 0
digits_in (b ∷ bs) = cond (is_digit b) (suc (digits_in bs)) 0

-- "1 to 13 digits and no leading zero unless it is 0"
unfoldable pub well_formed : List ℕ → Bool
unfolding digits_in
well_formed bs = leb 1 (digits_in bs) && leb (digits_in bs) most_digits && (eqb (digits_in bs) 1 || not (eqb (get_or bs 0 0) 48))

-- a number and what follows it, or none
pub data Got : Type 0 where
  no_number : Got
  got : (value : ℕ) → (rest : List ℕ) → Got

-- "each after one space"
unfoldable pub number_at : List ℕ → Got
unfolding digits_in value_in well_formed
number_at [] = no_number
number_at (b ∷ bs) = cond (eqb b 32 && well_formed bs) (got (value_in 0 (take (digits_in bs) bs)) (drop (digits_in bs) bs)) no_number
