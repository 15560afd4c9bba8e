-- Calls: a sound state stays sound, no call answers 1 on it, and advances add up.
use mathlib.Core.Path.{◌≡◌, refl, ap, sym, ◌∙◌}
use mathlib.Core.Bool.{Bool, true, false, not, ◌||◌}
use mathlib.Core.List.{List, [], ◌∷◌}
use Prim.Native.Nat.{ℕ, zero, suc, ◌+◌, ◌≤◌, ◌<◌}
use native.Mathlib.Omega.{arith}
use lib.Dec.{leb}
use lib.ListN.{length}
use borrow.Author.Tests.{ltb-false, leb-false, le-ltb, not-false}
use Rattle.laws.proofs.Cases.{never}
use Rattle.rules.specs.declared.State.{State}
use Rattle.rules.specs.Limits.{last_tick}
use Rattle.rules.specs.Refusals.{Row, first}
use Rattle.rules.specs.Model.{Model}
use Rattle.rules.specs.Steps.{arrive, done, advance}
use Rattle.rules.specs.Places.{model, packed}
use Rattle.rules.specs.Sound.{sound}
use Rattle.rules.specs.Calls.{arrive_rows, done_rows, advance_rows, ask_rows, margin_rows, told, moved, Call, arrives, finishes, advances, asks, asks_active, asks_margin, number_given, state_after, run}
use Rattle.promises.specs.Promises.{SoundKept, PackedModel, AdvanceNothing, AdvanceInParts}
use Rattle.promises.proofs.Refusing.{clear, none_given, smallest_given}
use Rattle.promises.proofs.Packing.{model-packed}
use Rattle.promises.proofs.Facts.{Sane, sane_model, packed-sound, packed_back, guests_count}
use Rattle.promises.proofs.Keeping.{MayArrive, arrive_sane, done_sane}
use Rattle.promises.proofs.Ticking.{advance-add, advance_now, advance_sane}

pub packed-model : PackedModel
packed-model s h = packed_back s h

-- ---- what no refusal says

-- a guest's number is one of the model's
named : (s : State) (i : ℕ) → not (sound s) ≡ false → leb s.table.count i ≡ false → i < length (model s).guests
named s i h k = omega (arith, guests_count s (not-false (sound s) h), leb-false s.table.count i k)

pub may_arrive : (s : State) (i : ℕ) → first (arrive_rows s i) ≡ 0 → MayArrive (model s) i
unfolding model
may_arrive s i h =
    let c = clear (arrive_rows s i) refl h in
    record { named = named s i c.0 c.1.0; jobs = c.1.1.0; room = c.1.1.1.0; early = c.1.1.1.1.0 }

-- what an accepted advance has
pub record MayAdvance (s : State) (k : ℕ) : Type 0 where
  pub whole : sound s ≡ true
  pub time : (model s).now + k ≤ last_tick

pub may_advance : (s : State) (k : ℕ) → first (advance_rows s k) ≡ 0 → MayAdvance s k
unfolding model
may_advance s k h =
    let c = clear (advance_rows s k) refl h in
    record { whole = not-false (sound s) c.0; time = ltb-false last_tick (s.now + k) c.1.0 }

pub advance_allowed : (s : State) (k : ℕ) → MayAdvance s k → first (advance_rows s k) ≡ 0
unfolding model
advance_allowed s k a = none_given (advance_rows s k) (ap not a.whole, (le-ltb last_tick (s.now + k) a.time, tt))

-- to advance by nothing is always allowed
pub may_stay : (s : State) → sound s ≡ true → MayAdvance s 0
may_stay s h = record { whole = h; time = omega (arith, (sane_model s h).time) }

-- ---- soundness

-- a call that makes a step which keeps the facts
moved-sound : (rows : List Row) (step : Model → Model) (s : State) → sound s ≡ true → (first rows ≡ 0 → Sane (step (model s))) → sound (moved rows step s) ≡ true
moved-sound rows step s h f = go (first rows) refl
  where
    go : (n : ℕ) → first rows ≡ n → sound (told n (λ m. packed (step m)) s s) ≡ true
    go zero e = packed-sound (step (model s)) (f e)
    go (suc n) e = h

pub sound-kept : SoundKept
unfolding state_after
sound-kept (arrives i) s h = moved-sound (arrive_rows s i) (arrive i) s h (λ e. arrive_sane i (model s) (may_arrive s i e) (sane_model s h))
sound-kept (finishes i) s h =
    moved-sound (done_rows s i) (done i) s h
    (λ e. let c = clear (done_rows s i) refl e in done_sane i (model s) (named s i c.0 c.1.0) (sane_model s h))
sound-kept (advances k) s h = moved-sound (advance_rows s k) (advance k) s h (λ e. advance_sane k (model s) (may_advance s k e).time (sane_model s h))
sound-kept asks s h = h
sound-kept asks_active s h = h
sound-kept (asks_margin i) s h = h

pub run_sound : (cs : List Call) (s : State) → sound s ≡ true → sound (run cs s) ≡ true
unfolding run
run_sound [] s h = h
run_sound (c ∷ cs) s h = run_sound cs (state_after c s) (sound-kept c s h)

refute : (b : Bool) → b ≡ true → not b || false ≡ true → ⊥
refute true h e = never e refl
refute false h e = never h refl

-- "the state is not sound" is the only condition of 1
pub sound_not_one : (c : Call) (s : State) → sound s ≡ true → number_given c s ≡ 1 → ⊥
sound_not_one (arrives i) s h e = refute (sound s) h ((smallest_given (arrive_rows s i) refl 0).0 e).0
sound_not_one (finishes i) s h e = refute (sound s) h ((smallest_given (done_rows s i) refl 0).0 e).0
sound_not_one (advances k) s h e = refute (sound s) h ((smallest_given (advance_rows s k) refl 0).0 e).0
sound_not_one asks s h e = refute (sound s) h ((smallest_given (ask_rows s) refl 0).0 e).0
sound_not_one asks_active s h e = refute (sound s) h ((smallest_given (ask_rows s) refl 0).0 e).0
sound_not_one (asks_margin i) s h e = refute (sound s) h ((smallest_given (margin_rows s i) refl 0).0 e).0

-- ---- advances

pub advance_nothing : AdvanceNothing
unfolding state_after advance
advance_nothing s = go (first (advance_rows s 0)) refl
  where
    go : (n : ℕ) → first (advance_rows s 0) ≡ n → told n (λ m. packed (advance 0 m)) s s ≡ s
    go zero e = packed_back s (may_advance s 0 e).whole
    go (suc n) e = refl

-- the state after an accepted advance
pub advanced : (s : State) (k : ℕ) → MayAdvance s k → state_after (advances k) s ≡ packed (advance k (model s))
unfolding state_after
advanced s k a = rw (advance_allowed s k a)

pub advance_in_parts : AdvanceInParts
advance_in_parts a b s h =
    let w = may_advance s (a + b) h in
    let m = model s in
    let first_part : MayAdvance s a = record { whole = w.whole; time = omega (arith, w.time) } in
    let t = packed (advance a m) in
    let there : sound t ≡ true = packed-sound (advance a m) (advance_sane a m first_part.time (sane_model s w.whole)) in
    let second-part : MayAdvance t b = record { whole = there; time = rw (model-packed (advance a m)) (omega (arith, advance_now a m, w.time)) } in
    advanced s (a + b) w
    ∙ ap packed (advance-add a b m)
    ∙ ap (λ (n : Model). packed (advance b n)) (sym (model-packed (advance a m)))
    ∙ sym (advanced t b second-part)
    ∙ ap (λ (u : State). state_after (advances b) u) (sym (advanced s a first_part))
