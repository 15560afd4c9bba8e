-- Rows of refusals: by induction on the rows, what the number given says of every condition, by place and, where the numbers rise, by number.
use mathlib.Core.Path.{◌≡◌, refl, sym, ◌∙◌}
use mathlib.Core.Bool.{Bool, true, false, ◌&&◌, ◌||◌}
use mathlib.Core.List.{List, [], ◌∷◌, ◌++◌}
use Prim.Native.Nat.{ℕ, zero, suc, ◌≤◌, ◌<◌}
use native.Mathlib.Omega.{arith}
use lib.Dec.{ltb, eqb}
use borrow.Author.Tests.{ltb-true, eq-eqb, ne_eqb}
use Rattle.laws.specs.Lists.{every}
use Rattle.laws.proofs.Cases.{and_both, never, by_ltb, by_index}
use Rattle.rules.specs.Refusals.{Row, ◌gives◌, first, numbers, holds}
use Rattle.promises.specs.Promises.{condition_at, number_at, Decides, Exactly, rises, SmallestGiven}

-- every number is one of a refusal
abbrev pub Counted : List ℕ → Bool
Counted ns = every (ltb 0) ns

-- no condition holds
abbrev pub Clear : List Row → Type 0
Clear [] = Unit {0}
Clear (b gives n ∷ rows) = (b ≡ false) × Clear rows

-- no refusal is given if and only if no condition holds
pub clear : (rows : List Row) → Counted (numbers rows) ≡ true → first rows ≡ 0 → Clear rows
clear [] h e = tt
clear (true gives n ∷ rows) h e =
    let l : 0 < n = ltb-true 0 n (and_both (ltb 0 n) (Counted (numbers rows)) h).0 in
    absurd (omega arith)
clear (false gives n ∷ rows) h e = (refl, clear rows (and_both (ltb 0 n) (Counted (numbers rows)) h).1 e)

pub none_given : (rows : List Row) → Clear rows → first rows ≡ 0
none_given [] c = refl
none_given (b gives n ∷ rows) c = rw c.0 (none_given rows c.1)

-- the number of a row whose condition holds, and of a later one where it does not
pub given_here : (b : Bool) (n : ℕ) (rows : List Row) → b ≡ true → n ≡ first (b gives n ∷ rows)
given_here b n rows h = rw h

pub given-later : (b : Bool) (n : ℕ) (rows : List Row) {m : ℕ} → b ≡ false → m ≡ first rows → m ≡ first (b gives n ∷ rows)
given-later b n rows h e = rw h e

-- a number that is given stays where rows follow
pub first_stays : (rows more : List Row) → 0 < first rows → first (rows ++ more) ≡ first rows
first_stays [] more h = absurd (omega arith)
first_stays (true gives n ∷ rows) more h = refl
first_stays (false gives n ∷ rows) more h = first_stays rows more h

-- rows of which none holds leave it to those behind them
pub first-behind : (rows more : List Row) → Clear rows → first (rows ++ more) ≡ first more
first-behind [] more c = refl
first-behind (b gives n ∷ rows) more c = rw c.0 (first-behind rows more c.1)

-- what clears all rows clears those in front
pub clear_front : (rows more : List Row) → Clear (rows ++ more) → Clear rows
clear_front [] more c = tt
clear_front (b gives n ∷ rows) more c = (c.0, clear_front rows more c.1)

-- ---- by place

-- the number given is that of the row that decides
decided : (k : ℕ) (rows : List Row) → first rows ≡ suc k → (i : ℕ) × (number_at i rows ≡ suc k) × Decides i rows
decided k [] e = absurd (omega arith)
decided k (true gives n ∷ rows) e = (0, e, (refl, λ j l. absurd (omega arith)))
decided k (false gives n ∷ rows) e =
    let r = decided k rows e in
    (suc r.0, r.1, (r.2.0, by_index (λ j. j < suc r.0 → condition_at j (false gives n ∷ rows) ≡ false) (λ l. refl) (λ j l. r.2.1 j (omega arith))))

-- and the row that decides gives its number
decides : (i : ℕ) (rows : List Row) → Decides i rows → first rows ≡ number_at i rows
decides i [] d = never d.0 refl
decides zero (b gives n ∷ rows) d = rw d.0
decides (suc i) (b gives n ∷ rows) d = rw (d.1 0 (omega arith)) (decides i rows (d.0, λ j l. d.1 (suc j) (omega arith)))

pub exactly : (rows : List Row) → Exactly rows
exactly rows k = (λ e. decided k rows e, λ p. decides p.0 rows p.2 ∙ p.1)

-- ---- where the numbers rise

-- a number up to `low` has no condition among rows above it
none_below : (low j : ℕ) (rows : List Row) → rises low (numbers rows) ≡ true → j ≤ low → holds j rows ≡ false
none_below low j [] h l = refl
none_below low j (b gives n ∷ rows) h l =
    let p = and_both (ltb low n) (rises n (numbers rows)) h in
    let k : low < n = ltb-true low n p.0 in
    rw (ne_eqb j n (λ e. omega arith), none_below n j rows p.1 (omega arith))

-- a row whose condition does not hold says nothing
skip : (c d t : Bool) → c && false || d ≡ t → d ≡ t
skip true d t h = h
skip false d t h = h

skipped : (c d t : Bool) → d ≡ t → c && false || d ≡ t
skipped true d t h = h
skipped false d t h = h

-- a row whose condition holds holds for its own number
own : (n : ℕ) (rows : List Row) → holds n (true gives n ∷ rows) ≡ true
own n rows = rw (eq-eqb n n refl)

-- the number given: its own condition holds, and no smaller one's
given : (low k : ℕ) (rows : List Row) → rises low (numbers rows) ≡ true → first rows ≡ suc k → (holds (suc k) rows ≡ true) × ((j : ℕ) → j < suc k → holds j rows ≡ false)
given low k [] h e = absurd (omega arith)
given low k (true gives n ∷ rows) h e =
    let p = and_both (ltb low n) (rises n (numbers rows)) h in
    (rw (eq-eqb (suc k) n (sym e)), λ j l. rw (ne_eqb j n (λ f. omega arith)) (none_below n j rows p.1 (omega arith)))
given low k (false gives n ∷ rows) h e =
    let p = and_both (ltb low n) (rises n (numbers rows)) h in
    let r = given n k rows p.1 e in
    (skipped (eqb (suc k) n) _ true r.0, λ j l. skipped (eqb j n) _ false (r.1 j l))

-- and a number whose condition holds, where no smaller one's does, is given
is_given : (low k : ℕ) (rows : List Row) → rises low (numbers rows) ≡ true → holds (suc k) rows ≡ true → ((j : ℕ) → j < suc k → holds j rows ≡ false) → first rows ≡ suc k
is_given low k [] h t s = never t refl
is_given low k (true gives n ∷ rows) h t s =
    let p = and_both (ltb low n) (rises n (numbers rows)) h in
    by_ltb (λ b. n ≡ suc k) n (suc k) (λ l. never (own n rows) (s n l))
    (λ l. by_ltb (λ b. n ≡ suc k) (suc k) n (λ g. never t (rw (ne_eqb (suc k) n (λ f. omega arith)) (none_below n (suc k) rows p.1 (omega arith)))) (λ g. omega arith))
is_given low k (false gives n ∷ rows) h t s =
    let p = and_both (ltb low n) (rises n (numbers rows)) h in
    is_given n k rows p.1 (skip (eqb (suc k) n) (holds (suc k) rows) true t) (λ j l. skip (eqb j n) (holds j rows) false (s j l))

pub smallest_given : SmallestGiven
smallest_given rows h k = (λ e. given 0 k rows h e, λ p. is_given 0 k rows h p.0 p.1)
