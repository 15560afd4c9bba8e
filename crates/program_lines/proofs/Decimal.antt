-- Numbers in decimal: what the loops that count and store the digits know.
use mathlib.Core.Path.{◌≡◌, refl, sym, ap, ◌∙◌}
use mathlib.Core.List.{List, [], ◌∷◌, ◌++◌, append_assoc, append-nil}
use Prim.Native.Nat.{ℕ, zero, suc, ◌+◌, ◌-◌, ◌*◌, ◌/◌, ◌%◌, ◌^◌, ◌≤◌, ◌<◌, max}
use native.Mathlib.Nat.{pow-suc, pow-le-pow_right}
use native.Mathlib.Omega.{arith}
use lib.ListN.{set}
use lib.Seq.{sets}
use Rattle.laws.proofs.Parts.{stored_before}
use Rattle.program_text.specs.Decimal.{last_digits, digit_count, decimal}
use Rattle.program_text.proofs.Decimal.{count_small, count_tenth}

-- ---- counting them

-- one more than the logarithm, of which 0 has none
count_log : (log n : ℕ) → 10 ^ log ≤ n → n < 10 ^ suc log → digit_count n ≡ suc log
count_log zero n h k = count_small n (omega (arith, pow-suc 10 zero))
count_log (suc log) n h k =
    count_tenth n (omega (arith, pow-suc 10 log, pow-le-pow_right {n = 10} (omega arith) {i = 0} {j = log} (omega arith)))
    ∙ ap suc (count_log log (n / 10) (omega (arith, pow-suc 10 log)) (omega (arith, pow-suc 10 (suc log))))

pub counted : (log n : ℕ) → 10 ^ log ≤ max n 1 → max n 1 < 10 * 10 ^ log → log + 1 ≡ digit_count n
counted zero zero h k = sym (count_small 0 (omega arith))
counted (suc log) zero h k = absurd (omega (arith, pow-suc 10 log, pow-le-pow_right {n = 10} (omega arith) {i = 0} {j = log} (omega arith)))
counted log (suc n) h k = omega (arith, count_log log (suc n) (omega arith) (omega (arith, pow-suc 10 log)))

-- ---- storing them

-- the digits behind i are stored, and rest has those before it
pub record Stored (n : ℕ) (before : List ℕ) (at i rest : ℕ) (after : List ℕ) : Type 0 where
  pub low : at ≤ i
  pub behind : List ℕ
  pub whole : last_digits (i - at) rest ++ behind ≡ decimal n
  pub so : after ≡ sets before i behind

pub stored_start : (n : ℕ) (before : List ℕ) (at end : ℕ) → end ≡ at + digit_count n → Stored n before at end n before
unfolding decimal
stored_start n before at end e =
    let count : end - at ≡ digit_count n = omega arith in
    record { low = omega arith; behind = []; whole = rw count (append-nil (decimal n)); so = refl }

module _ {n : ℕ} {before : List ℕ} {at i rest : ℕ} {after : List ℕ} (s : Stored n before at i rest after) where
  pub stored_more : {j : ℕ} → i ≡ suc j → at < i → Stored n before at j (rest / 10) (set after j (48 + rest % 10))
  unfolding last_digits
  stored_more {j} e h =
      let d = 48 + rest % 10 in
      let count : i - at ≡ suc (j - at) = omega arith in
      record {
        low = omega arith;
        behind = d ∷ s.behind;
        whole = sym (append_assoc (last_digits (j - at) (rest / 10)) (d ∷ []) s.behind) ∙ rw count at s.whole;
        so = rw (s.so, e) (stored_before before j d s.behind);
      }

  pub stored_end : i ≤ at → after ≡ sets before at (decimal n)
  unfolding last_digits
  stored_end h =
      let last : i ≡ at = omega (arith, s.low) in
      let none : i - at ≡ 0 = omega arith in
      s.so ∙ rw last (ap (sets before at) (rw none at s.whole))
