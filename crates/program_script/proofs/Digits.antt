-- Runs of digits: how many stand at the front, what they are worth, and the form that they have.
use mathlib.Core.Path.{◌≡◌, refl, ap}
use mathlib.Core.Bool.{true, cond, ◌&&◌, ◌||◌, not}
use mathlib.Core.List.{List, [], ◌∷◌}
use Prim.Native.Nat.{ℕ, suc, ◌+◌, ◌-◌, ◌*◌, ◌^◌, ◌≤◌, ◌<◌}
use native.Mathlib.Nat.{pow-suc, pow-le-pow_right}
use native.Mathlib.Numerals.{add-one}
use native.Mathlib.Omega.{arith}
use lib.Dec.{leb, eqb}
use lib.ListN.{length, get_or, take, drop, drop_of_length-le}
use lib.Seq.{drop-cons}
use borrow.Author.Tests.{leb-true}
use Rattle.std.specs.List.{take_while, prefix_len}
use Rattle.std.proofs.lemmas.List.{length-take-le, get_or-take}
use Rattle.std.proofs.lemmas.List.Sums.{prefix_len-le-length, prefix_len_passes}
use Rattle.laws.proofs.Cases.{and_both}
use Rattle.laws.specs.Digits.{value_in}
use Rattle.program_text.specs.Numbers.{most_digits, is_digit, digits_in, well_formed, got, number_at}

-- ---- a digit

pub digit_low : (b : ℕ) → is_digit b ≡ true → 48 ≤ b
digit_low b h = leb-true 48 b (and_both (leb 48 b) (leb b 57) h).0

pub digit_high : (b : ℕ) → is_digit b ≡ true → b ≤ 57
digit_high b h = leb-true b 57 (and_both (leb 48 b) (leb b 57) h).1

-- ---- how many stand at the front

digits_prefix : (l : List ℕ) → prefix_len is_digit l ≡ digits_in l
unfolding digits_in
digits_prefix [] = refl
digits_prefix (b ∷ bs) =
    let more : 1 + prefix_len is_digit bs ≡ suc (digits_in bs) = omega (arith, digits_prefix bs) in
    ap (λ (n : ℕ). cond (is_digit b) n 0) more

pub digits_within : (l : List ℕ) → digits_in l ≤ length l
digits_within l = rw (digits_prefix l) at (prefix_len-le-length is_digit l)

pub digits_counted : (l : List ℕ) → length (take_while is_digit l) ≡ digits_in l
digits_counted l = rw (digits_prefix l) (length-take-le (digits_in l) l (digits_within l))

digit_front : (l : List ℕ) (j : ℕ) → j < digits_in l → is_digit (get_or l j 0) ≡ true
digit_front l j h = prefix_len_passes is_digit l j 0 (rw (digits_prefix l) h)

-- ---- what they are worth

-- so many digits more
more_digits : (value i b : ℕ) → value < 10 ^ i → is_digit b ≡ true → value * 10 + (b - 48) < 10 ^ suc i
more_digits value i b h d = omega (arith, pow-suc 10 i, digit_low b d, digit_high b d)

-- the digits up to i make the value
pub record Valued (l : List ℕ) (i value : ℕ) : Type 0 where
  pub small : value < 10 ^ i
  pub so : value_in value (drop i l) ≡ value_in 0 l

module _ {l : List ℕ} {i value : ℕ} (v : Valued l i value) where
  pub valued_small : i < most_digits → value < 1_000_000_000_000
  valued_small few =
      let most : 10 ^ i ≤ 10 ^ 12 = pow-le-pow_right {n = 10} (omega arith) {i = i} {j = 12} (omega arith) in
      omega (arith, v.small)

  pub valued_more : i < length l → is_digit (get_or l i 0) ≡ true → {next : ℕ} → next ≡ value * 10 + (get_or l i 0 - 48) → Valued l (i + 1) next
  unfolding value_in
  valued_more h d {next} e =
      record {
        small = rw (add-one i, e) (more_digits value i (get_or l i 0) v.small d);
        so = rw (e, add-one i) (rw (drop-cons l i 0 h) at v.so);
      }

  pub valued_end : length l ≤ i → value ≡ value_in 0 l
  unfolding value_in
  valued_end h = rw (drop_of_length-le l h) at v.so

-- ---- a number's form

-- well formed, it has few digits
pub form_few : (bs : List ℕ) → well_formed bs ≡ true → digits_in bs ≤ most_digits
unfolding well_formed
form_few bs h =
    let n = digits_in bs in
    let front = (and_both (leb 1 n && leb n most_digits) (eqb n 1 || not (eqb (get_or bs 0 0) 48)) h).0 in
    leb-true n most_digits (and_both (leb 1 n) (leb n most_digits) front).1

-- the bytes that are taken are digits, and few
module _ (bs : List ℕ) {n : ℕ} {digits : List ℕ} (whole : n ≡ digits_in bs) (h : well_formed bs ≡ true) (front : digits ≡ take n bs) where
  taken_length : length digits ≡ n
  taken_length = rw front (length-take-le n bs (omega (arith, digits_within bs)))

  pub taken_few : length digits ≤ most_digits
  taken_few = omega (arith, taken_length, form_few bs h)

  pub taken_digits : (k : ℕ) → k < length digits → is_digit (get_or digits k 0) ≡ true
  taken_digits k i = let below : k < n = omega (arith, taken_length) in rw (front, get_or-take n bs k 0 below) (digit_front bs k (omega arith))

  -- a number behind its space
  pub number_got : {value : ℕ} {rest : List ℕ} → value ≡ value_in 0 digits → rest ≡ drop n bs → got value rest ≡ number_at (32 ∷ bs)
  unfolding number_at
  number_got e back = rw (h, e, front, back, whole)
