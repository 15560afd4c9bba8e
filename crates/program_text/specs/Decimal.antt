-- A number in decimal: digits without leading zero, 0 as one digit.
use Rattle.std.specs.Prelude.{◌≡◌, List, [], ◌∷◌, ◌++◌, ℕ, zero, suc, ◌+◌, ◌/◌, ◌%◌, ◌<◌, get_or}
use Rattle.laws.specs.Digits.{value_in}

-- the last digits of n, so many
unfoldable pub last_digits : ℕ → ℕ → List ℕ
last_digits zero n = []
last_digits (suc count) n = last_digits count (n / 10) ++ ((48 + n % 10) ∷ [])

-- how many digits stand in front of the last one: none where the tenth is 0, and else one more than in front of the tenth's last one; so
-- many at most, of which there are enough, because a tenth is less than the number
unfoldable pub digits_before : ℕ → ℕ → ℕ
digits_before zero tenth = 0
digits_before (suc most) zero = 0
digits_before (suc most) (suc tenth) = suc (digits_before most (suc tenth / 10))

unfoldable pub digit_count : ℕ → ℕ
unfolding digits_before
digit_count n = suc (digits_before n (n / 10))

unfoldable pub decimal : ℕ → List ℕ
unfolding last_digits digit_count
decimal n = last_digits (digit_count n) n

-- ---- what it means

-- a number's digits make that number, as a line of input is read
abbrev pub DecimalReads : Type 0
DecimalReads = (n : ℕ) → value_in 0 (decimal n) ≡ n

-- the first digit of a number above 0 is not 0
abbrev pub NoLeadingZero : Type 0
NoLeadingZero = (n : ℕ) → 0 < n → get_or (decimal n) 0 0 ≡ 48 → ⊥
