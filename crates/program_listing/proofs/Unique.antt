-- What the contracts of the public functions allow is one outcome.
use mathlib.Core.Path.{◌≡◌, refl, sym, ◌∙◌}
use Prim.Native.Nat.{ℕ}
use Rattle.program_listing.specs.declared.Held.{Held}
use Rattle.program_listing.specs.declared.Turned.{Turned}
use Rattle.program_listing.specs.Turning.{OneOutcome}

turned_same : {a b : Held} {m n : ℕ} → a ≡ b → m ≡ n → ◌≡◌ {A = Turned} (record { held = a; filled = m }) (record { held = b; filled = n })
turned_same e f = rw (e, f) refl

pub one_outcome : OneOutcome
one_outcome =
    record {
      begin = λ r r' a b. a.held ∙ sym b.held;
      going = λ h r r' a b. a.answer ∙ sym b.answer;
      turn = λ input h buffer filled after after' r r' a b. (a.content ∙ sym b.content, turned_same (a.held ∙ sym b.held) (a.holds ∙ sym b.holds));
    }
