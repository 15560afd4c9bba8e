-- What the test answers, for every state.
use Rattle.std.specs.Prelude.{◌≡◌, Bool, Result, IfOk}
use Rattle.std.specs.Borrow.{Bor}
use Rattle.rules.specs.declared.Refusal.{Refusal}
use Rattle.rules.specs.declared.State.{State}
use Rattle.rules.specs.Calls.{ask_rows}
use Rattle.rules.specs.Refusals.{first, number_of}
use Rattle.rules.specs.Sound.{sound}
use Rattle.engine_sound.specs.declared.sound.Sound.{Sound}

-- "A state is sound if all of the above holds and .."
abbrev pub SoundTold : State → Bool → Type 0
SoundTold s r = r ≡ sound s

-- "Every call on a state may give 1."; where this one does not, it hands on the caller's own state
pub record SoundTested (s : Bor State) (r : Result Sound Refusal) : Type 0 where
  pub answer : number_of r ≡ first (ask_rows s.now)
  pub state : IfOk r (λ x. x.state ≡ s)

-- any two answers that a predicate allows are equal
pub record OneAnswer : Type 0 where
  pub told : (s : State) (a b : Bool) → SoundTold s a → SoundTold s b → a ≡ b
  pub tested : (s : Bor State) (a b : Result Sound Refusal) → SoundTested s a → SoundTested s b → a ≡ b
