-- Numbers of bytes: a field is its first two bytes and the field behind them; a number that stands whole, and one that does not;
-- the place behind some bytes. Assumes nothing.
use mathlib.Core.Path.{◌≡◌, sym, ap, ◌∙◌}
use mathlib.Core.Bool.{cond}
use mathlib.Core.List.{List, [], ◌∷◌}
use Prim.Native.Nat.{ℕ, ◌+◌, ◌-◌, ◌*◌, ◌≤◌, ◌<◌, ◌^◌}
use native.Mathlib.Omega.{arith}
use borrow.Author.Tests.{le-leb, lt-leb}
use Rattle.laws.proofs.Cases.{by_leb}
use lib.ListN.{length, get_or, take, drop, length-drop, length-take}
use Rattle.std.specs.List.{slice_range}
use Rattle.std.proofs.Common.{min}
use Rattle.std.proofs.Math.Nat.{min-le_left, min-eq_left, min-eq_right}
use Rattle.std.proofs.lemmas.List.{take_all}
use Rattle.rules.specs.Image.{field, little}
use Rattle.image_reader.specs.Clauses.{number_at, behind_of, NumberRead}

module _ (bytes : List ℕ) (width at : ℕ) where
  pub number_in : at + width ≤ length bytes → number_at width at bytes ≡ field width at bytes
  unfolding number_at
  number_in h = simp (le-leb _ _ h)

  pub number_out : length bytes < at + width → 0 ≡ number_at width at bytes
  unfolding number_at
  number_out h = simp (lt-leb _ _ h)

-- the first bytes of a part as a number
little_two : (part : List ℕ) → 2 ≤ length part → get_or part 0 0 + get_or part 1 0 * 256 ≡ little (take 2 part)
little_two [] h = absurd (omega arith)
little_two (a ∷ []) h = absurd (omega arith)
little_two (a ∷ b ∷ part) h = omega arith

little_four : (part : List ℕ) → 4 ≤ length part → get_or part 0 0 + get_or part 1 0 * 256 + get_or part 2 0 * 65536 + get_or part 3 0 * 16777216 ≡ little (take 4 part)
little_four [] h = absurd (omega arith)
little_four (a ∷ []) h = absurd (omega arith)
little_four (a ∷ b ∷ []) h = absurd (omega arith)
little_four (a ∷ b ∷ c ∷ []) h = absurd (omega arith)
little_four (a ∷ b ∷ c ∷ d ∷ part) h = omega arith

-- what stands behind a place, and nothing where it is past the end
module _ (bytes : List ℕ) (at start : ℕ) (s : start ≡ min at (length bytes)) where
  abbrev rest : List ℕ
  rest = slice_range bytes start (length bytes)

  rest_long : length rest ≡ length bytes - at
  rest_long = omega (arith, s, length-take (length bytes - start) (drop start bytes), length-drop start bytes, min-le_left at (length bytes))

  -- a number stands at its front
  rest_front : (width : ℕ) → 0 < width → width ≤ length rest → little (take width rest) ≡ number_at width at bytes
  rest_front width some h =
      let same : start ≡ at = s ∙ min-eq_left (omega (arith, rest_long)) in
      let all : rest ≡ drop start bytes = take_all (length bytes - start) (drop start bytes) (omega (arith, length-drop start bytes)) in
      ap (λ (l : List ℕ). little (take width l)) all
      ∙ ap (λ (n : ℕ). field width n bytes) same
      ∙ sym (number_in bytes width at (omega (arith, rest_long)))

  pub rest_short : (width : ℕ) → length rest < width → 0 ≡ number_at width at bytes
  rest_short width h = number_out bytes width at (omega (arith, rest_long))

  -- 2 bytes are a number of 2
  pub half_whole : 2 ≤ length rest → get_or rest 0 0 + get_or rest 1 0 * 256 ≡ number_at 2 at bytes
  half_whole h = little_two rest h ∙ rest_front 2 (omega arith) h

  -- and 4 of 4
  pub word_whole : 4 ≤ length rest → get_or rest 0 0 + get_or rest 1 0 * 256 + get_or rest 2 0 * 65536 + get_or rest 3 0 * 16777216 ≡ number_at 4 at bytes
  word_whole h = little_four rest h ∙ rest_front 4 (omega arith) h

module _ (at width : ℕ) where
  pub behind_in : at + width < 2 ^ 64 → at + width ≡ behind_of at width
  unfolding behind_of
  behind_in h = simp (le-leb (at + width) (2 ^ 64 - 1) (omega arith))

  pub behind_least : min (at + width) (2 ^ 64 - 1) ≡ behind_of at width
  unfolding behind_of
  behind_least =
      by_leb (λ t. min (at + width) (2 ^ 64 - 1) ≡ cond t (at + width) (2 ^ 64 - 1)) (at + width) (2 ^ 64 - 1)
      (λ h. min-eq_left h)
      (λ h. min-eq_right (omega arith))

-- a number read at a place of a list is read there under the place's and the list's other names
pub read_there : (width : ℕ) {l image : List ℕ} {at place r : ℕ} → l ≡ image → at ≡ place → NumberRead width l at r → NumberRead width image place r
read_there width e f h = (rw (← e, ← f) h.0, h.1)
