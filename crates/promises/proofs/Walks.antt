-- The portions of an advance, some at a time: in parts, by walk after walk, and tick by tick.
use mathlib.Core.Path.{◌≡◌, refl, sym, ap, ◌∙◌}
use mathlib.Core.List.{List, [], ◌++◌, append-nil}
use Prim.Native.Nat.{ℕ, zero, suc, ◌+◌, ◌*◌, ◌-◌, ◌≤◌, ◌<◌, min}
use native.Mathlib.Nat.{zero-add, suc-add, add_comm, add_assoc, sub_self, sub-zero, sub-add-eq, add-sub_of_le, add-sub_cancel_left}
use native.Mathlib.Numerals.{add-one}
use native.Mathlib.Omega.{arith}
use lib.ListN.{replicate, replicate-append-replicate}
use Rattle.rules.specs.declared.State.{State}
use Rattle.rules.specs.Limits.{line_places, last_tick}
use Rattle.rules.specs.Model.{Model}
use Rattle.rules.specs.Steps.{Span, limited, endless, use_of, span_of, advance, ask}
use Rattle.rules.specs.Places.{model, packed}
use Rattle.rules.specs.Refusals.{first}
use Rattle.rules.specs.Calls.{told, advance_rows, advances, state_after}
use Rattle.rules.specs.Lines.{Line, ticks_on, lines, lines_of}
use Rattle.rules.specs.Walks.{ticks_in, walk_lines, walk_state, walk_left}
use Rattle.promises.specs.Joining.{joined, walked_to, left_after, WalksAreAdvance, WalksEnd, uses, ticks_of, LinesAreTicks}
use Rattle.promises.specs.Spans.{Within}
use Rattle.promises.proofs.Packing.{model-packed}
use Rattle.promises.proofs.Facts.{Sane, sane_model, packed-sound, packed_back}
use Rattle.promises.proofs.Ticking.{advance_now, advance-add, advance_sane}
use Rattle.promises.proofs.Calling.{MayAdvance, may_advance, advance_allowed, advanced}
use Rattle.promises.proofs.Spans.{within-fewer, use_shorter, span_positive, ask-later}

-- ---- the ticks of one portion: no more than k, no more than the span, and at least one

ticks_on_le : (k : ℕ) (span : Span) → ticks_on k span ≤ k
ticks_on_le k (limited n) = omega arith
ticks_on_le k endless = omega arith

ticks_on_stay : (k : ℕ) (span : Span) → Within (ticks_on k span) span
ticks_on_stay k (limited n) = omega arith
ticks_on_stay k endless = tt

ticks_on_some : (k : ℕ) (span : Span) → 1 ≤ k → Within 1 span → 1 ≤ ticks_on k span
ticks_on_some k (limited n) l h = omega arith
ticks_on_some k endless l h = l

-- ---- portions in parts

-- the ticks of the portions are no more than k
pub ticks_in_le : (most k : ℕ) (m : Model) → ticks_in most k m ≤ k
unfolding ticks_in
ticks_in_le zero k m = omega arith
ticks_in_le (suc most) zero m = omega arith
ticks_in_le (suc most) (suc k) m =
    let n = ticks_on (suc k) (span_of (ask m)) in
    omega (arith, ticks_on_le (suc k) (span_of (ask m)), ticks_in_le most (suc k - n) (advance n m))

-- nothing left: no further portion
pub lines_none : (b : ℕ) (m : Model) → lines b 0 m ≡ []
unfolding lines
lines_none zero m = refl
lines_none (suc b) m = refl

-- and no further tick
pub ticks_none : (b : ℕ) (m : Model) → ticks_in b 0 m ≡ 0
unfolding ticks_in
ticks_none zero m = refl
ticks_none (suc b) m = refl

-- a + b portions are a portions and then b
pub lines_in_parts : (a b k : ℕ) (m : Model) → lines (a + b) k m ≡ lines a k m ++ lines b (k - ticks_in a k m) (advance (ticks_in a k m) m)
unfolding lines ticks_in advance
lines_in_parts zero b k m = rw (zero-add, sub-zero)
lines_in_parts (suc a) b zero m = rw (suc-add, lines_none b m)
lines_in_parts (suc a) b (suc k) m = rw (suc-add, sub-add-eq, advance-add, lines_in_parts a b)

-- and so are their ticks
pub ticks_in_parts : (a b k : ℕ) (m : Model) → ticks_in (a + b) k m ≡ ticks_in a k m + ticks_in b (k - ticks_in a k m) (advance (ticks_in a k m) m)
unfolding ticks_in advance
ticks_in_parts zero b k m = rw (zero-add, zero-add, sub-zero)
ticks_in_parts (suc a) b zero m = rw (suc-add, zero-add, ticks_none b m)
ticks_in_parts (suc a) b (suc k) m = rw (suc-add, sub-add-eq, advance-add, ticks_in_parts a b, add_assoc)

-- one portion more: the first `most` and the next one
pub lines_more : (most k : ℕ) (m : Model) → lines (most + 1) k m ≡ lines most k m ++ lines 1 (k - ticks_in most k m) (advance (ticks_in most k m) m)
lines_more most k m = lines_in_parts most 1 k m

-- and its ticks
pub ticks_more : (most k : ℕ) (m : Model) → ticks_in (most + 1) k m ≡ ticks_in most k m + ticks_in 1 (k - ticks_in most k m) (advance (ticks_in most k m) m)
ticks_more most k m = ticks_in_parts most 1 k m

-- ---- enough portions

-- k ticks that end in time, from a model with the facts of a sound state
record May (k : ℕ) (m : Model) : Type 0 where
  sane : Sane m
  time : m.now + k ≤ last_tick

-- n of them made, the others still may be
may_go_on : (n k : ℕ) (m : Model) → n ≤ k → May k m → May (k - n) (advance n m)
may_go_on n k m l a = record { sane = advance_sane n m (omega (arith, a.time)) a.sane; time = omega (arith, a.time, advance_now n m) }

-- portions have as many ticks as they are, or all
ticks_in_ge : (most k : ℕ) (m : Model) → May k m → min most k ≤ ticks_in most k m
unfolding ticks_in
ticks_in_ge zero k m a = omega arith
ticks_in_ge (suc most) zero m a = omega arith
ticks_in_ge (suc most) (suc k) m a =
    let n = ticks_on (suc k) (span_of (ask m)) in
    let b = may_go_on n (suc k) m (ticks_on_le (suc k) (span_of (ask m))) a in
    omega (arith, ticks_on_some (suc k) (span_of (ask m)) (omega arith) (span_positive m a.sane), ticks_in_ge most (suc k - n) (advance n m) b)

-- so k portions have all
ticks_all : (k : ℕ) (m : Model) → May k m → ticks_in k k m ≡ k
ticks_all k m a = omega (arith, ticks_in_le k k m, ticks_in_ge k k m a)

-- portions that have all the ticks are all the portions
pub lines_enough : (a b k : ℕ) (m : Model) → ticks_in a k m ≡ k → lines (a + b) k m ≡ lines a k m
lines_enough a b k m e = rw (lines_in_parts a b k m, e, sub_self, lines_none, append-nil)

-- and the further ones have no ticks
pub ticks_enough : (a b k : ℕ) (m : Model) → ticks_in a k m ≡ k → ticks_in (a + b) k m ≡ ticks_in a k m
ticks_enough a b k m e = omega (arith, e, ticks_in_le (a + b) k m, ticks_in_parts a b k m)

-- however many were asked for
lines_same : (a b k : ℕ) (m : Model) → ticks_in a k m ≡ k → ticks_in b k m ≡ k → lines a k m ≡ lines b k m
lines_same a b k m e f = sym (lines_enough a b k m e) ∙ ap (λ n. lines n k m) (add_comm a b) ∙ lines_enough b a k m f

-- ---- an accepted advance, and a walk of it

-- the ticks of a walk
abbrev walked : State → ℕ → ℕ
walked s k = ticks_in line_places k (model s)

module _ (s : State) (k : ℕ) (a : MayAdvance s k) where
  may_model : May k (model s)
  may_model = record { sane = sane_model s a.whole; time = a.time }

  lines-of : lines_of (advances k) s ≡ lines k k (model s)
  unfolding lines_of
  lines-of = rw (advance_allowed s k a)

  pub walk_lines_lem : walk_lines k s ≡ lines line_places k (model s)
  unfolding walk_lines
  walk_lines_lem = rw (advance_allowed s k a)

  pub walk_left_lem : walk_left k s ≡ k - walked s k
  unfolding walk_left
  walk_left_lem = rw (advance_allowed s k a)

  pub walk_state_lem : walk_state k s ≡ packed (advance (walked s k) (model s))
  unfolding walk_state
  walk_state_lem = rw (advance_allowed s k a)

  walk_model : model (walk_state k s) ≡ advance (walked s k) (model s)
  walk_model = rw walk_state_lem (model-packed (advance (walked s k) (model s)))

  -- what a walk left may be walked
  walk_may : May (k - walked s k) (advance (walked s k) (model s))
  walk_may = may_go_on (walked s k) k (model s) (ticks_in_le line_places k (model s)) may_model

  pub walk_on : MayAdvance (walk_state k s) (walk_left k s)
  walk_on = record { whole = rw walk_state_lem (packed-sound _ walk_may.sane); time = rw (walk_left_lem, walk_model) walk_may.time }

  -- the portions of a walk and then those of what it left
  walk_then : walk_lines k s ++ lines (walk_left k s) (walk_left k s) (model (walk_state k s)) ≡ lines k k (model s)
  walk_then =
      let m = model s in
      let n = walked s k in
      let e = ticks_in_parts line_places (k - n) k m in
      let f = ticks_all (k - n) (advance n m) walk_may in
      rw (walk_lines_lem, walk_left_lem, walk_model, ← lines_in_parts)
      (lines_same (line_places + (k - n)) k k m (omega (arith, ticks_in_le line_places k m)) (ticks_all k m may_model))

  -- the ticks of a walk and then those that it left
  walk_there : advance (walk_left k s) (model (walk_state k s)) ≡ advance k (model s)
  walk_there = rw (walk_left_lem, walk_model, ← advance-add, add-sub_of_le (ticks_in_le line_places k (model s)))

-- an advance is a walk and then the advance of what it left: its portions
pub walk_joins : (s : State) (k : ℕ) → MayAdvance s k → lines_of (advances k) s ≡ walk_lines k s ++ lines_of (advances (walk_left k s)) (walk_state k s)
walk_joins s k a = lines-of s k a ∙ sym (walk_then s k a) ∙ ap (λ (ls : List Line). walk_lines k s ++ ls) (sym (lines-of (walk_state k s) (walk_left k s) (walk_on s k a)))

-- and its state
pub walk_reaches : (s : State) (k : ℕ) → MayAdvance s k → state_after (advances k) s ≡ state_after (advances (walk_left k s)) (walk_state k s)
walk_reaches s k a = advanced s k a ∙ ap packed (sym (walk_there s k a)) ∙ sym (advanced (walk_state k s) (walk_left k s) (walk_on s k a))

-- a walk of some ticks makes some
pub ticks_in_some : (most k : ℕ) (s : State) → MayAdvance s k → {m : Model} → model s ≡ m → 0 < k → 0 < most → 0 < ticks_in most k m
ticks_in_some most k s a e h l = rw (← e) (omega (arith, ticks_in_ge most k (model s) (may_model s k a)))

-- so it leaves fewer, and never more than time has; a refused walk leaves none
module _ (s : State) (k : ℕ) where
  left_falls : (n : ℕ) → first (advance_rows s k) ≡ n → 0 < k → told n (λ m. k - ticks_in line_places k m) 0 s < k
  left_falls zero e h = omega (arith, ticks_in_some line_places k s (may_advance s k e) refl h (omega arith))
  left_falls (suc n) e h = h

  left_bound : (n : ℕ) → first (advance_rows s k) ≡ n → told n (λ m. k - ticks_in line_places k m) 0 s ≤ last_tick
  left_bound zero e = omega (arith, (may_advance s k e).time)
  left_bound (suc n) e = omega arith

  pub walk_left_falls : 0 < k → walk_left k s < k
  unfolding walk_left
  walk_left_falls = left_falls (first (advance_rows s k)) refl

  pub walk_left_bound : walk_left k s ≤ last_tick
  unfolding walk_left
  walk_left_bound = left_bound (first (advance_rows s k)) refl

-- ---- walk after walk

walks_to : (n k : ℕ) (s : State) → MayAdvance s k → left_after n k s ≡ 0 → (joined n k s ≡ lines k k (model s)) × (walked_to n k s ≡ packed (advance k (model s)))
unfolding joined walked_to left_after advance
walks_to zero k s a e = (rw (e, lines_none), rw e (sym (packed_back s a.whole)))
walks_to (suc n) k s a e =
    let w = walks_to n (walk_left k s) (walk_state k s) (walk_on s k a) e in
    (rw w.0 (walk_then s k a), w.1 ∙ ap packed (walk_there s k a))

-- once n walks left nothing, they made the advance
pub walks_are_advance : WalksAreAdvance
walks_are_advance s k h r n e =
    let a = may_advance s k r in
    let w = walks_to n k s a e in
    (w.0 ∙ sym (lines-of s k a), w.1 ∙ sym (advanced s k a))

walks-leave : (n k : ℕ) (s : State) → MayAdvance s k → k ≤ n * line_places → left_after n k s ≡ 0
unfolding left_after
walks-leave zero k s a l = omega arith
walks-leave (suc n) k s a l =
    let g = ticks_in_ge line_places k (model s) (may_model s k a) in
    walks-leave n (walk_left k s) (walk_state k s) (walk_on s k a) (omega (arith, walk_left_lem s k a))

-- and so many walks leave nothing
pub walks_end : WalksEnd
walks_end s k h r n l = walks-leave n k s (may_advance s k r) l

-- ---- tick by tick

uses-add : (a b : ℕ) (m : Model) → uses (a + b) m ≡ uses a m ++ uses b (advance a m)
unfolding uses advance
uses-add zero b m = rw zero-add
uses-add (suc a) b m = rw (suc-add, uses-add a b)

module _ (m : Model) (s : Sane m) where
  -- while a portion lasts, the next tick uses it
  use_stays : (n : ℕ) → Within (suc n) (span_of (ask m)) → use_of (ask (advance n m)) ≡ use_of (ask m)
  use_stays n h = ap use_of (ask-later m s n h) ∙ use_shorter n (ask m)

  -- and so does each of them
  uses_stay : (n : ℕ) → Within n (span_of (ask m)) → uses n m ≡ replicate n (use_of (ask m))
  unfolding uses
  uses_stay zero h = refl
  uses_stay (suc n) h =
      let i = uses_stay n (within-fewer n (span_of (ask m)) h) in
      let e : uses (n + 1) m ≡ replicate (n + 1) (use_of (ask m)) = rw (uses-add, ← replicate-append-replicate, i, use_stays n h) in
      rw add-one at e

-- portion after portion
lines-uses : (most k : ℕ) (m : Model) → May k m → ticks_of (lines most k m) ≡ uses (ticks_in most k m) m
unfolding lines ticks_in uses
lines-uses zero k m a = refl
lines-uses (suc most) zero m a = refl
lines-uses (suc most) (suc k) m a =
    let n = ticks_on (suc k) (span_of (ask m)) in
    let b = may_go_on n (suc k) m (ticks_on_le (suc k) (span_of (ask m))) a in
    rw (add-sub_cancel_left, lines-uses most (suc k - n) (advance n m) b, ← uses_stay m a.sane n (ticks_on_stay (suc k) (span_of (ask m))), uses-add)

-- the portions of an advance, tick by tick, are what its ticks use
pub lines_are_ticks : LinesAreTicks
lines_are_ticks s k h r =
    let a = may_advance s k r in
    let b = may_model s k a in
    ap ticks_of (lines-of s k a) ∙ lines-uses k k (model s) b ∙ ap (λ n. uses n (model s)) (ticks_all k (model s) b)
