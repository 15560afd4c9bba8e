-- The lines of the input, one after the other from a place.
use mathlib.Core.Path.{◌≡◌, refl, sym, ap, ◌∙◌}
use mathlib.Core.Bool.{cond}
use mathlib.Core.List.{List, [], ◌∷◌, map}
use Prim.Native.Nat.{ℕ, suc, ◌+◌, ◌≤◌, ◌<◌}
use native.Mathlib.Omega.{arith}
use lib.Dec.{eqb}
use lib.ListN.{length, get_or, take, drop, length-drop, drop_of_length-le}
use lib.Seq.{drop-cons, drop-drop}
use Rattle.laws.proofs.Cases.{by_test}
use Rattle.program_text.specs.declared.Line.TheVariants.{Malformed}
use Rattle.program_text.specs.Script.{line_of}
use Rattle.program_listing.specs.Listing.{onto, lines_in, asked}
use Rattle.program_listing.specs.Turning.{line_length, line_at, behind}

-- a line has at least a byte, and no more than there are
length_low : (b : ℕ) (bs : List ℕ) → 1 ≤ line_length (b ∷ bs)
unfolding line_length
length_low b bs = by_test (λ t. 1 ≤ cond t 1 (suc (line_length bs))) (eqb b 10) (λ _. omega arith) (λ _. omega arith)

pub length_high : (bs : List ℕ) → line_length bs ≤ length bs
unfolding line_length
length_high [] = omega arith
length_high (b ∷ bs) = by_test (λ t. cond t 1 (suc (line_length bs)) ≤ suc (length bs)) (eqb b 10) (λ _. omega arith) (λ _. omega (arith, length_high bs))

-- the first line and the others
lines_cons : (b : ℕ) (bs : List ℕ) → lines_in (b ∷ bs) ≡ take (line_length (b ∷ bs)) (b ∷ bs) ∷ lines_in (drop (line_length (b ∷ bs)) (b ∷ bs))
unfolding lines_in line_length
lines_cons b [] =
    by_test
    (λ t. cond t ((b ∷ []) ∷ []) (onto b []) ≡ take (cond t 1 1) (b ∷ []) ∷ lines_in (drop (cond t 1 1) (b ∷ [])))
    (eqb b 10)
    (λ _. refl)
    (λ _. refl)
lines_cons b (b' ∷ bs) =
    let rest = b' ∷ bs in
    by_test
    (λ t. cond t ((b ∷ []) ∷ lines_in rest) (onto b (lines_in rest)) ≡ take (cond t 1 (suc (line_length rest))) (b ∷ rest) ∷ lines_in (drop (cond t 1 (suc (line_length rest))) (b ∷ rest)))
    (eqb b 10)
    (λ _. refl)
    (λ _. ap (onto b) (lines_cons b' bs))

module _ (input : List ℕ) (at : ℕ) where
  pub asked_end : length input ≤ at → asked (drop at input) ≡ []
  unfolding asked lines_in
  asked_end h = ap asked (drop_of_length-le input h)

  pub line_end : length input ≤ at → line_at input at ≡ Malformed
  unfolding line_at line_length line_of
  line_end h = ap (λ (rest : List ℕ). line_of (take (line_length rest) rest)) (drop_of_length-le input h)

  module _ (h : at < length input) where
    pub asked-cons : asked (drop at input) ≡ line_at input at ∷ asked (drop (behind input at) input)
    unfolding asked line_at behind
    asked-cons =
        let cons = drop-cons input at 0 h in
        let split : lines_in (drop at input) ≡ take (line_length (drop at input)) (drop at input) ∷ lines_in (drop (line_length (drop at input)) (drop at input)) = rw cons (lines_cons (get_or input at 0) (drop (suc at) input)) in
        let rest : drop (line_length (drop at input)) (drop at input) ≡ drop (at + line_length (drop at input)) input = drop-drop (line_length (drop at input)) at input in
        ap (map line_of) (split ∙ ap (λ (l : List ℕ). take (line_length (drop at input)) (drop at input) ∷ lines_in l) rest)

    pub behind_low : at < behind input at
    unfolding behind
    behind_low = let low : 1 ≤ line_length (drop at input) = rw (drop-cons input at 0 h) (length_low (get_or input at 0) (drop (suc at) input)) in omega arith

    pub behind_high : behind input at ≤ length input
    unfolding behind
    behind_high = omega (arith, length_high (drop at input), length-drop at input)

-- ---- the line that comes next

module _ (input : List ℕ) (at : ℕ) where
  pub next_none : length input ≤ at → (Malformed ≡ line_at input at) × (at ≡ behind input at)
  unfolding behind line_length
  next_none h = let none : line_length (drop at input) ≡ 0 = ap line_length (drop_of_length-le input h) in (sym (line_end input at h), omega arith)
