-- The turns, one after the other, put out the listing of the input, and end.
use mathlib.Core.Path.{◌≡◌, refl, sym, ap, ◌∙◌}
use mathlib.Core.Bool.{false, false≢true}
use mathlib.Core.List.{List, [], ◌++◌, append-nil, append_assoc}
use Prim.Native.Nat.{ℕ, zero, suc, ◌+◌, ◌≤◌}
use native.Mathlib.Nat.{zero-add, suc-add}
use native.Mathlib.Omega.{arith}
use Rattle.laws.proofs.Cases.{by_test}
use Rattle.program_listing.specs.declared.Stage.{Stage}
use Rattle.program_listing.specs.declared.Stage.TheVariants.{Frames, Guests, Commands, Over}
use Rattle.program_listing.specs.declared.Held.{Held}
use Rattle.program_listing.specs.Listing.{listing_of}
use Rattle.program_listing.specs.Turning.{put_of, held_of, turn_in, turn_of, goes_on, to_go, put_out, held_after, at_first, TurnsAreListing, TurnsEnd}
use Rattle.program_turns.proofs.Falling.{turn_falls}
use Rattle.program_turns.proofs.Resting.{rest, Fit, turn_puts}

-- ---- what they put out

-- n turns put out the front of what is to be put out, and the rest is left
turns_put : (n : ℕ) (input : List ℕ) (h : Held) → Fit h → rest input h ≡ put_out n input h ++ rest input (held_after n input h)
unfolding put_out held_after
turns_put zero input h f = refl
turns_put (suc n) input h f =
    let p = turn_puts input h f in
    let next = held_of (turn_of input h) in
    p.put ∙ ap (λ (x : List ℕ). put_of (turn_of input h) ++ x) (turns_put n input next p.fit)
    ∙ sym (append_assoc (put_of (turn_of input h)) (put_out n input next) (rest input (held_after n input next)))

-- one turn more: what it puts out comes behind
pub put_more : (n : ℕ) (input : List ℕ) (h : Held) → put_out (suc n) input h ≡ put_out n input h ++ put_of (turn_of input (held_after n input h))
unfolding put_out held_after
put_more zero input h = append-nil (put_of (turn_of input h))
put_more (suc n) input h =
    let next = held_of (turn_of input h) in
    ap (λ (x : List ℕ). put_of (turn_of input h) ++ x) (put_more n input next)
    ∙ sym (append_assoc (put_of (turn_of input h)) (put_out n input next) (put_of (turn_of input (held_after n input next))))

-- and what it holds next is held
pub held_more : (n : ℕ) (input : List ℕ) (h : Held) → held_after (suc n) input h ≡ held_of (turn_of input (held_after n input h))
unfolding held_after
held_more zero input h = refl
held_more (suc n) input h = held_more n input (held_of (turn_of input h))

-- a turns and then b
pub put_then : (a b : ℕ) (input : List ℕ) (h : Held) → put_out (a + b) input h ≡ put_out a input h ++ put_out b input (held_after a input h)
unfolding put_out held_after
put_then zero b input h = rw zero-add refl
put_then (suc a) b input h =
    let next = held_of (turn_of input h) in
    rw suc-add
    (ap (λ (x : List ℕ). put_of (turn_of input h) ++ x) (put_then a b input next)
    ∙ sym (append_assoc (put_of (turn_of input h)) (put_out a input next) (put_out b input (held_after a input next))))

pub held_then : (a b : ℕ) (input : List ℕ) (h : Held) → held_after (a + b) input h ≡ held_after b input (held_after a input h)
unfolding held_after
held_then zero b input h = rw zero-add refl
held_then (suc a) b input h = rw suc-add (held_then a b input (held_of (turn_of input h)))

-- once the program is over, nothing is
rest_over : (input : List ℕ) (h : Held) → goes_on h.stage ≡ false → rest input h ≡ []
rest_over input h = go h.stage refl
  where
    go : (stage : Stage) → h.stage ≡ stage → goes_on stage ≡ false → rest input h ≡ []
    go Frames e g = absurd (false≢true (sym g))
    go Guests e g = absurd (false≢true (sym g))
    go Commands e g = absurd (false≢true (sym g))
    go Over e g = rw e refl

pub turns_are_listing : TurnsAreListing
unfolding listing_of
turns_are_listing input n g =
    let all = turns_put n input at_first tt in
    sym (all ∙ ap (λ (x : List ℕ). put_out n input at_first ++ x) (rest_over input (held_after n input at_first) g) ∙ append-nil (put_out n input at_first))

-- ---- that they end

-- a turn of a program that is over changes nothing
over_stays : (input : List ℕ) (h : Held) → goes_on h.stage ≡ false → held_of (turn_of input h) ≡ h
unfolding turn_of
over_stays input h = go h.stage refl
  where
    go : (stage : Stage) → h.stage ≡ stage → goes_on stage ≡ false → held_of (turn_in stage input h) ≡ h
    go Frames e g = absurd (false≢true (sym g))
    go Guests e g = absurd (false≢true (sym g))
    go Commands e g = absurd (false≢true (sym g))
    go Over e g = refl

-- nor do more of them
over_remains : (n : ℕ) (input : List ℕ) (h : Held) → goes_on h.stage ≡ false → held_after n input h ≡ h
unfolding held_after
over_remains zero input h g = refl
over_remains (suc n) input h g = ap (held_after n input) (over_stays input h g) ∙ over_remains n input h g

ends_from : (n : ℕ) (input : List ℕ) (h : Held) → to_go input h ≤ n → goes_on (held_after n input h).stage ≡ false
unfolding held_after
ends_from zero input h l =
    by_test (λ t. t ≡ false) (goes_on h.stage) (λ g. absurd (omega (arith, turn_falls input h g))) (λ _. refl)
ends_from (suc n) input h l =
    by_test (λ _. goes_on (held_after (suc n) input h).stage ≡ false) (goes_on h.stage)
    (λ g. ends_from n input (held_of (turn_of input h)) (omega (arith, turn_falls input h g)))
    (λ g. ap (λ (x : Held). goes_on x.stage) (over_remains (suc n) input h g) ∙ g)

pub turns_end : TurnsEnd
turns_end input n l = ends_from n input at_first l
