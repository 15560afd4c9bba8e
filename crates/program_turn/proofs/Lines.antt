-- The line that comes next: up to the first line feed, or to the end of the input.
use mathlib.Core.Path.{◌≡◌, refl, ap}
use mathlib.Core.Bool.{false}
use mathlib.Core.List.{List, [], ◌∷◌}
use Prim.Native.Nat.{ℕ, zero, suc, ◌+◌, ◌<◌}
use native.Mathlib.Omega.{arith}
use lib.Dec.{eqb}
use lib.ListN.{length, get_or, take, drop}
use Rattle.program_text.specs.declared.Line.{Line}
use Rattle.program_text.specs.Script.{line_of}
use Rattle.program_listing.specs.Turning.{line_length, line_at, behind}

-- the first line feed ends it
pub length_feed : (l : List ℕ) (i : ℕ) → i < length l → get_or l i 0 ≡ 10 → ((k : ℕ) → k < i → eqb (get_or l k 0) 10 ≡ false) → i + 1 ≡ line_length l
unfolding line_length
length_feed [] i h e before = absurd (omega arith)
length_feed (b ∷ bs) zero h e before = rw e refl
length_feed (b ∷ bs) (suc i) h e before =
    rw (before 0 (omega arith)) (omega (arith, length_feed bs i (omega arith) e (λ k j. before (suc k) (omega arith))))

-- without one it is all there is
pub length_all : (l : List ℕ) → ((k : ℕ) → k < length l → eqb (get_or l k 0) 10 ≡ false) → length l ≡ line_length l
unfolding line_length
length_all [] none = refl
length_all (b ∷ bs) none = rw (none 0 (omega arith)) (ap suc (length_all bs (λ k j. none (suc k) (omega arith))))

-- it is what the rest's first bytes ask for, and ends behind them
pub line_next : (input : List ℕ) (at : ℕ) {rest : List ℕ} {n : ℕ} {l : Line} → rest ≡ drop at input → n ≡ line_length rest → l ≡ line_of (take n rest) → (l ≡ line_at input at) × (at + n ≡ behind input at)
unfolding line_at behind
line_next input at r e f = (rw (← r, ← e) f, rw (← r, ← e) refl)
