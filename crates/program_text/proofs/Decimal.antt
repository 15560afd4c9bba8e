-- Numbers in decimal: how many digits, which ones, and what they mean.
use mathlib.Core.Path.{◌≡◌, refl, sym, ap}
use mathlib.Core.List.{List, [], ◌∷◌, ◌++◌}
use Prim.Native.Nat.{ℕ, zero, suc, ◌+◌, ◌-◌, ◌*◌, ◌/◌, ◌%◌, ◌^◌, ◌≤◌, ◌<◌}
use native.Mathlib.Nat.{pow-suc}
use native.Mathlib.Omega.{arith}
use lib.ListN.{length, get_or, length-append, get_or-append}
use Rattle.laws.specs.Digits.{value_in}
use Rattle.program_text.specs.Decimal.{last_digits, digits_before, digit_count, decimal, DecimalReads, NoLeadingZero}

-- ---- how many digits

before_none : (most : ℕ) → digits_before most 0 ≡ 0
unfolding digits_before
before_none zero = refl
before_none (suc most) = refl

-- as many as the tenth counts are enough
before_enough : (most other tenth : ℕ) → tenth ≤ most → tenth ≤ other → digits_before most tenth ≡ digits_before other tenth
unfolding digits_before
before_enough zero other zero h k = sym (before_none other)
before_enough zero other (suc tenth) h k = absurd (omega arith)
before_enough (suc most) zero zero h k = refl
before_enough (suc most) zero (suc tenth) h k = absurd (omega arith)
before_enough (suc most) (suc other) zero h k = refl
before_enough (suc most) (suc other) (suc tenth) h k = ap suc (before_enough most other (suc tenth / 10) (omega arith) (omega arith))

before_tenth : (n tenth : ℕ) → tenth ≡ n / 10 → 0 < tenth → digits_before n tenth ≡ suc (digits_before tenth (tenth / 10))
unfolding digits_before
before_tenth zero tenth e h = absurd (omega arith)
before_tenth (suc n) zero e h = absurd (omega arith)
before_tenth (suc n) (suc tenth) e h = ap suc (before_enough n (suc tenth) (suc tenth / 10) (omega arith) (omega arith))

pub count_some : (n : ℕ) → 1 ≤ digit_count n
unfolding digit_count
count_some n = omega arith

pub count_small : (n : ℕ) → n < 10 → digit_count n ≡ 1
unfolding digit_count
count_small n h = let none : n / 10 ≡ 0 = omega arith in rw none (ap suc (before_none n))

-- a tenth of a number has one digit less
pub count_tenth : (n : ℕ) → 10 ≤ n → digit_count n ≡ suc (digit_count (n / 10))
unfolding digit_count
count_tenth n h = ap suc (before_tenth n (n / 10) refl (omega arith))

-- a number below a power of ten has no more digits than the power
few_before : (k most tenth : ℕ) → tenth < 10 ^ k → digits_before most tenth ≤ k
unfolding digits_before
few_before k zero tenth h = omega arith
few_before k (suc most) zero h = omega arith
few_before zero (suc most) (suc tenth) h = absurd (omega arith)
few_before (suc k) (suc most) (suc tenth) h = omega (arith, few_before k most (suc tenth / 10) (omega (arith, pow-suc 10 k)))

pub word_digits : (n : ℕ) → n < 2 ^ 64 → digit_count n ≤ 20
unfolding digit_count
word_digits n h = omega (arith, few_before 19 n (n / 10) (omega arith))

-- ---- which digits

digits_long : (count n : ℕ) → length (last_digits count n) ≡ count
unfolding last_digits
digits_long zero n = refl
digits_long (suc count) n = omega (arith, length-append (last_digits count (n / 10)) ((48 + n % 10) ∷ []), digits_long count (n / 10))

pub decimal_long : (n : ℕ) → length (decimal n) ≡ digit_count n
unfolding decimal
decimal_long n = digits_long (digit_count n) n

-- ---- what they mean

-- one digit more behind the others
value_more : (v : ℕ) (bs : List ℕ) (b : ℕ) → value_in v (bs ++ (b ∷ [])) ≡ value_in v bs * 10 + (b - 48)
unfolding value_in
value_more v [] b = refl
value_more v (a ∷ bs) b = value_more (v * 10 + (a - 48)) bs b

digits_read : (count n : ℕ) → n < 10 ^ count → value_in 0 (last_digits count n) ≡ n
unfolding last_digits value_in
digits_read zero n h = omega arith
digits_read (suc count) n h =
    omega (arith, value_more 0 (last_digits count (n / 10)) (48 + n % 10), digits_read count (n / 10) (omega (arith, pow-suc 10 count)))

-- so many digits are enough
enough_before : (most tenth : ℕ) → tenth ≤ most → tenth < 10 ^ digits_before most tenth
unfolding digits_before
enough_before zero tenth h = omega arith
enough_before (suc most) zero h = omega arith
enough_before (suc most) (suc tenth) h =
    let before = digits_before most (suc tenth / 10) in
    omega (arith, pow-suc 10 before, enough_before most (suc tenth / 10) (omega arith))

pub decimal_reads : DecimalReads
unfolding decimal
decimal_reads n =
    digits_read (digit_count n) n (omega (arith, pow-suc 10 (digits_before n (n / 10)), enough_before n (n / 10) (omega arith)))

first_digit : (most tenth n : ℕ) → tenth ≡ n / 10 → tenth ≤ most → 0 < n → 48 < get_or (last_digits (suc (digits_before most tenth)) n) 0 0
unfolding last_digits digits_before
first_digit zero tenth n e h some = omega arith
first_digit (suc most) zero n e h some = omega arith
first_digit (suc most) (suc tenth) n e h some =
    let count = suc (digits_before most (suc tenth / 10)) in
    rw (get_or-append (last_digits count (n / 10)) ((48 + n % 10) ∷ []) 0 0 (omega (arith, digits_long count (n / 10))), ← e)
    (first_digit most (suc tenth / 10) (suc tenth) refl (omega arith) (omega arith))

pub no_leading_zero : NoLeadingZero
unfolding decimal digit_count
no_leading_zero n h e = omega (arith, first_digit n (n / 10) n refl (omega arith) h)
