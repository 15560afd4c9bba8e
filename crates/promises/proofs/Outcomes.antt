-- Answers: the number and the values determine an answer, each call's predicate determines its outcome, and what a refusal gives back.
use mathlib.Core.Path.{◌≡◌, refl, ap, sym, ◌∙◌}
use mathlib.Core.List.{List, [], ◌∷◌, map}
use Prim.Native.Nat.{ℕ, zero, suc, ◌-◌, ◌<◌}
use native.Mathlib.Omega.{arith}
use lib.IntN.{pos}
use lib.ListN.{length, get_or, replicate}
use Rattle.std.specs.Prelude.{Result, Ok, Err}
use Rattle.std.specs.Result.{result_unwrap_or}
use Rattle.laws.specs.Lists.{padded}
use Rattle.laws.proofs.Cases.{by_leb}
use Rattle.rules.specs.declared.Refusal.{Refusal}
use Rattle.rules.specs.declared.Refusal.TheVariants.{NotSound, NoSuchGuest, GuestIdle, JobsFull, NoRoom, DeadlineTooFar, EndOfTime, ImageLength, UnknownEdition, GuestCount, WrongOffset, FrameRange, BadGuest, ShareTooLarge, BufferShort, Malformed}
use Rattle.rules.specs.declared.State.{State}
use Rattle.rules.specs.declared.Source.{Source as DeclaredSource}
use Rattle.rules.specs.declared.Source.TheVariants.{Own, SpareOf}
use Rattle.rules.specs.declared.Portion.{Portion as DeclaredPortion}
use Rattle.rules.specs.declared.Portion.TheVariants.{Run, Burn, Nothing}
use Rattle.rules.specs.declared.Use.{Use as DeclaredUse}
use Rattle.rules.specs.declared.Use.TheVariants.{Run as Use-Run, Burn as Use-Burn, Nothing as Use-Nothing}
use Rattle.rules.specs.declared.Walk.{Walk}
use Rattle.rules.specs.Limits.{line_places}
use Rattle.rules.specs.Refusals.{Row, first, refusal_number, number_of}
use Rattle.rules.specs.Table.{no_table}
use Rattle.rules.specs.Model.{Model}
use Rattle.rules.specs.Places.{no_state}
use Rattle.rules.specs.Steps.{Source, own_budget, spare_of, Use, runs, burns, nothing, limited, endless, Portion, portion, nothing_to_do}
use Rattle.rules.specs.Calls.{told, kept, advance_rows, portion_of, nobody, Moved}
use Rattle.rules.specs.Lines.{Line}
use Rattle.rules.specs.Walks.{declared_use, use_in, line_place, no_line, walk_lines, walk_state, walk_left, no_walk, Walked}
use Rattle.promises.specs.Promises.{AnswersDetermined, OneOutcome, RefusalGivesBack}

-- ---- the answers

-- the refusal of a number, counted from 0
abbrev refusals : List Refusal
refusals =
    NotSound
    ∷ NoSuchGuest
    ∷ GuestIdle
    ∷ JobsFull
    ∷ NoRoom
    ∷ DeadlineTooFar
    ∷ EndOfTime
    ∷ ImageLength
    ∷ UnknownEdition
    ∷ GuestCount
    ∷ WrongOffset
    ∷ FrameRange
    ∷ BadGuest
    ∷ ShareTooLarge
    ∷ BufferShort
    ∷ Malformed
    ∷ []

abbrev refusal_of : ℕ → Refusal
refusal_of n = get_or refusals (n - 1) NotSound

refusal_back : (r : Refusal) → refusal_of (refusal_number r) ≡ r
refusal_back NotSound = refl
refusal_back NoSuchGuest = refl
refusal_back GuestIdle = refl
refusal_back JobsFull = refl
refusal_back NoRoom = refl
refusal_back DeadlineTooFar = refl
refusal_back EndOfTime = refl
refusal_back ImageLength = refl
refusal_back UnknownEdition = refl
refusal_back GuestCount = refl
refusal_back WrongOffset = refl
refusal_back FrameRange = refl
refusal_back BadGuest = refl
refusal_back ShareTooLarge = refl
refusal_back BufferShort = refl
refusal_back Malformed = refl

refusal_same : (x y : Refusal) → refusal_number x ≡ refusal_number y → x ≡ y
refusal_same x y e = sym (refusal_back x) ∙ ap refusal_of e ∙ refusal_back y

-- a refusal's number is above 0, since the refusal of 0 has the number 1
pub refusal_counts : (r : Refusal) → 0 < refusal_number r
refusal_counts r = by_leb (λ t. 0 < refusal_number r) 1 (refusal_number r) (λ h. h) (λ h. absurd (above (omega arith)))
  where
    above : refusal_number r ≡ 0 → ⊥
    above e = let one : refusal_number r ≡ 1 = ap refusal_number (sym (refusal_back r) ∙ ap refusal_of e) in omega arith

-- the number tells a refusal from every value, and which it is
pub answer_same : {A : Type 0} (z : A) (x y : Result A Refusal) → number_of x ≡ number_of y → result_unwrap_or x z ≡ result_unwrap_or y z → x ≡ y
answer_same z (Ok x) (Ok y) number value = ap Ok value
answer_same z (Ok x) (Err r) number value = absurd (omega (arith, refusal_counts r))
answer_same z (Err r) (Ok y) number value = absurd (omega (arith, refusal_counts r))
answer_same z (Err r) (Err q) number value = ap Err (refusal_same r q number)

abbrev declared_source : Source → DeclaredSource
declared_source own_budget = Own
declared_source (spare_of owner) = SpareOf owner

abbrev declared_portion : Portion → DeclaredPortion
declared_portion (portion (runs i source) d (limited span)) = Run i (declared_source source) d span
declared_portion (portion (runs i source) d endless) = Nothing
declared_portion (portion (burns owner) d (limited span)) = Burn owner d span
declared_portion (portion (burns owner) d endless) = Nothing
declared_portion (portion nothing d span) = Nothing

portion_back : (x : DeclaredPortion) → declared_portion (portion_of x) ≡ x
portion_back (Run i Own d span) = refl
portion_back (Run i (SpareOf owner) d span) = refl
portion_back (Burn owner d span) = refl
portion_back Nothing = refl

portion_same : (x y : DeclaredPortion) → portion_of x ≡ portion_of y → x ≡ y
portion_same x y e = sym (portion_back x) ∙ ap declared_portion e ∙ portion_back y

pub use_back : (x : DeclaredUse) → declared_use (use_in x) ≡ x
use_back (Use-Run i Own) = refl
use_back (Use-Run i (SpareOf owner)) = refl
use_back (Use-Burn owner) = refl
use_back Use-Nothing = refl

use_same : (x y : DeclaredUse) → use_in x ≡ use_in y → x ≡ y
use_same x y e = sym (use_back x) ∙ ap declared_use e ∙ use_back y

use_said : (u : Use) → use_in (declared_use u) ≡ u
use_said (runs i own_budget) = refl
use_said (runs i (spare_of owner)) = refl
use_said (burns owner) = refl
use_said nothing = refl

pub answers_determined : AnswersDetermined
answers_determined = record { number = answer_same; portion = portion_same; use_of = use_same; use_said = use_said }

-- ---- the calls

-- two answers with the number and the value of one call
same : {A : Type 0} {n : ℕ} {v : A} (z : A) (x y : Result A Refusal) → number_of x ≡ n → number_of y ≡ n → result_unwrap_or x z ≡ v → result_unwrap_or y z ≡ v → x ≡ y
same z x y p q u v = answer_same z x y (p ∙ sym q) (u ∙ sym v)

moves : (rows : List Row) (step : Model → Model) (s : State) (x y : Result State Refusal) → Moved rows step s x → Moved rows step s y → x ≡ y
moves rows step s x y p q = same s x y p.answer q.answer p.state q.state

pub one_outcome : OneOutcome
one_outcome =
    record {
      arrive = λ s i x y p q. moves _ _ s x y p q;
      done = λ s i x y p q. moves _ _ s x y p q;
      advance = λ s k x y p q. moves _ _ s x y p q;
      walk = λ s k x y p q.
          let state = p.state ∙ sym q.state in
          let left = p.left ∙ sym q.left in
          let count = p.shown ∙ sym q.shown in
          let lines = p.lines ∙ sym q.lines in
          answer_same (no_walk s) x y (p.answer ∙ sym q.answer) (λ i. record { state = state i; left = left i; shown = count i; lines = lines i });
      ask = λ s x y p q. answer_same Nothing x y (p.answer ∙ sym q.answer) (portion_same _ _ (p.next ∙ sym q.next));
      active = λ s x y p q.
          let mask = p.mask ∙ sym q.mask in
          let count = p.actives ∙ sym q.actives in
          answer_same nobody x y (p.answer ∙ sym q.answer) (λ i. record { mask = mask i; actives = count i });
      margin = λ s i x y p q. same (pos 0) x y p.answer q.answer p.ticks q.ticks;
      fresh = λ t x y p q. same no_state x y p.answer q.answer p.state q.state;
      check = λ t x y p q. same tt x y p.answer q.answer refl refl;
      no_table_made = λ x y p q. p.table ∙ sym q.table;
      no_state_made = λ x y p q. p.state ∙ sym q.state;
      read = λ image x y p q. same no_table x y p.answer q.answer p.table q.table;
      entries = λ image i j x y p q. (p.place ∙ sym q.place, p.bytes ∙ sym q.bytes);
      number = λ a x y p q. p.answer ∙ sym q.answer;
      boot = λ image x y p q. p.answer ∙ sym q.answer;
      write = λ t buffer a b x y p q. (same tt a b p.answer q.answer refl refl, p.content ∙ sym q.content);
    }

-- ---- what a refusal gives back

-- a number above 0 is a refusal's
pub kept_back : {A : Type 0} (n : ℕ) (x z : A) → 0 < n → kept n x z ≡ z
kept_back zero x z h = absurd (omega arith)
kept_back (suc n) x z h = refl

told_back : {A : Type 0} (n : ℕ) (f : Model → A) (z : A) (s : State) → 0 < n → told n f z s ≡ z
told_back zero f z s h = absurd (omega arith)
told_back (suc n) f z s h = refl

moved_back : (rows : List Row) (step : Model → Model) (s : State) (r : Result State Refusal) → Moved rows step s r → 0 < number_of r → result_unwrap_or r s ≡ s
moved_back rows step s r p h = p.state ∙ told_back (first rows) _ s s (rw p.answer at h)

walk_back : (s : State) (k : ℕ) (r : Result Walk Refusal) → Walked s k r → 0 < first (advance_rows s k) → let w = result_unwrap_or r (no_walk s) in (w.state ≡ s) × (w.left ≡ 0) × (w.shown ≡ 0) × (w.lines ≡ replicate line_places no_line)
unfolding walk_state walk_left walk_lines
walk_back s k r p h =
    let lines : walk_lines k s ≡ [] = told_back _ _ [] s h in
    (p.state ∙ told_back _ _ s s h, p.left ∙ told_back _ _ 0 s h, p.shown ∙ ap length lines, p.lines ∙ ap (λ (l : List Line). padded line_places no_line (map line_place l)) lines)

pub refusal_gives_back : RefusalGivesBack
refusal_gives_back =
    record {
      arrive = λ s i r p h. moved_back _ _ s r p h;
      done = λ s i r p h. moved_back _ _ s r p h;
      advance = λ s k r p h. moved_back _ _ s r p h;
      walk = λ s k r p h. walk_back s k r p (rw p.answer at h);
      ask = λ s r p h. portion_same _ Nothing (p.next ∙ told_back _ _ nothing_to_do s (rw p.answer at h));
      active = λ s r p h. (p.mask ∙ told_back _ _ 0 s (rw p.answer at h), p.actives ∙ told_back _ _ 0 s (rw p.answer at h));
      margin = λ s i r p h. p.ticks ∙ told_back _ _ (pos 0) s (rw p.answer at h);
      fresh = λ t r p h. p.state ∙ kept_back _ _ no_state (rw p.answer at h);
      read = λ image r p h. p.table ∙ kept_back _ _ no_table (rw p.answer at h);
      entries = λ image start part p h. (p.place ∙ kept_back _ _ 0 h, p.bytes ∙ kept_back _ _ [] h);
      write = λ t buffer a after p h. p.content ∙ kept_back _ _ buffer (rw p.answer at h);
    }
