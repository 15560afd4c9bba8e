-- Any two answers of the test are equal: of one state there is one tested state.
use mathlib.Core.Path.{◌≡◌, refl, sym, ap, ◌∙◌}
use mathlib.Core.Bool.{true}
use mathlib.Core.HLevel.{is_prop→PathP}
use Prim.Native.Nat.{ℕ}
use Rattle.std.proofs.Math.Bool.{Bool-set}
use Rattle.std.specs.Prelude.{Result, Ok, Err, IfOk}
use Rattle.std.specs.Borrow.{Bor}
use Rattle.rules.specs.declared.Refusal.{Refusal}
use Rattle.rules.specs.declared.State.{State}
use Rattle.rules.specs.Refusals.{number_of}
use Rattle.rules.specs.Sound.{sound}
use Rattle.promises.proofs.Outcomes.{answer_same}
use Rattle.engine_sound.specs.declared.sound.Sound.{Sound}
use Rattle.engine_sound.specs.Clauses.{OneAnswer}

sound_same : (x y : Sound) → x.state ≡ y.state → x ≡ y
sound_same x y e = λ j. record { state = e j; sound = is_prop→PathP (λ i. sound (e i).now ≡ true) (λ i. Bool-set (sound (e i).now) true) x.sound y.sound j }

module _ (s : Bor State) where
  tested_same : (a b : Result Sound Refusal) → number_of a ≡ number_of b → IfOk a (λ x. x.state ≡ s) → IfOk b (λ x. x.state ≡ s) → a ≡ b
  tested_same (Ok x) (Ok y) number p q = ap Ok (sound_same x y (p ∙ sym q))
  tested_same (Ok x) (Err r) number p q = answer_same x (Ok x) (Err r) number refl
  tested_same (Err r) (Ok y) number p q = answer_same y (Err r) (Ok y) number refl
  tested_same (Err r) (Err t) number p q = ap refused (answer_same 0 (Err r) (Err t) number refl)
    where
      refused : Result ℕ Refusal → Result Sound Refusal
      refused (Ok n) = Err r
      refused (Err x) = Err x

pub one_answer : OneAnswer
one_answer = record {
  told = λ s a b p q. p ∙ sym q;
  tested = λ s a b p q. tested_same s a b (p.answer ∙ sym q.answer) p.state q.state;
}
