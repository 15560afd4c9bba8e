-- Any two outcomes that a predicate of C allows are equal: what C reads is a function of the call's outcome, and that is settled.
use mathlib.Core.Path.{◌≡◌, sym, ap, ◌∙◌}
use Prim.Native.Nat.{ℕ}
use Rattle.std.specs.Prelude.{Result}
use Rattle.std.specs.Result.{result_unwrap_or}
use Rattle.rules.specs.declared.State.{State}
use Rattle.rules.specs.declared.Walk.{Walk}
use Rattle.rules.specs.Walks.{no_walk}
use Rattle.rules.specs.declared.Refusal.{Refusal}
use Rattle.rules.specs.Refusals.{number_of}
use Rattle.promises.proofs.Outcomes.{one_outcome as settled}
use Rattle.c_answers.specs.Clauses.{Gives, Tells, walk_shown, OneOutcome}

module _ {Allowed : Result State Refusal → Type 0} (once : (x y : Result State Refusal) → Allowed x → Allowed y → x ≡ y) where
  given_once : {z s t : State} {n k : ℕ} → Gives Allowed z s n → Gives Allowed z t k → (s ≡ t) × (n ≡ k)
  given_once {z} p q =
      let same = once p.outcome q.outcome p.allowed q.allowed in
      (p.state ∙ ap (λ (o : Result State Refusal). result_unwrap_or o z) same ∙ sym q.state, p.number ∙ ap number_of same ∙ sym q.number)

module _ {X Y : Type 0} {Allowed : X → Type 0} {shown : X → Y} (once : (x y : X) → Allowed x → Allowed y → x ≡ y) where
  told_once : {a b : Y} → Tells Allowed shown a → Tells Allowed shown b → a ≡ b
  told_once p q = p.numbers ∙ ap shown (once p.answer q.answer p.allowed q.allowed) ∙ sym q.numbers

pub one_outcome : OneOutcome
one_outcome =
    record {
      fresh = λ t s' s'' n n' p q. given_once (settled.fresh t) p q;
      arrive = λ s i s' s'' n n' p q. given_once (settled.arrive s i) p q;
      done = λ s i s' s'' n n' p q. given_once (settled.done s i) p q;
      advance = λ s k s' s'' n n' p q. given_once (settled.advance s k) p q;
      walk = λ s k s' s'' r r' p q.
          let same = settled.walk s k p.walk q.walk p.allowed q.allowed in
          (p.state ∙ ap (λ (w : Result Walk Refusal). (result_unwrap_or w (no_walk s)).state) same ∙ sym q.state, p.numbers ∙ ap walk_shown same ∙ sym q.numbers);
      ask = λ s a b p q. told_once (settled.ask s) p q;
      active = λ s a b p q. told_once (settled.active s) p q;
      margin = λ s i a b p q. told_once (settled.margin s i) p q;
    }
