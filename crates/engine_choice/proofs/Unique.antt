-- Any two answers that a predicate allows are equal.
use mathlib.Core.Path.{◌≡◌, refl, sym, ap, ◌∙◌}
use Rattle.rules.specs.Steps.{Pick, nobody, picked}
use Rattle.engine_choice.specs.declared.Pick.{Pick as DeclaredPick}
use Rattle.std.specs.Prelude.{Option, Some, None}
use Rattle.engine_choice.specs.Choice.{pick_of}
use Rattle.engine_choice.specs.Clauses.{OneAnswer}
use Rattle.promises.proofs.Outcomes.{answers_determined}

-- the code's pick for the rules' one
back : Pick → Option DeclaredPick
back nobody = None
back (picked i d c) = Some (record { guest = i; deadline = d; current = c })

back_pick : (r : Option DeclaredPick) → back (pick_of r) ≡ r
unfolding pick_of back
back_pick None = refl
back_pick (Some p) = refl

same_pick : (a b : Option DeclaredPick) → pick_of a ≡ pick_of b → a ≡ b
same_pick a b e = sym (back_pick a) ∙ ap back e ∙ back_pick b

pub one_answer : OneAnswer
one_answer =
    record {
      order = λ x y a b p q. p ∙ sym q;
      mask = λ guests count a b p q. p.0 ∙ sym q.0;
      ones = λ mask a b p q. p ∙ sym q;
      lowest = λ guests count a b p q. p ∙ sym q;
      ready = λ i g a b p q. same_pick a b (p ∙ sym q);
      portion = λ pick first a b p q. answers_determined.portion a b (p ∙ sym q);
      charge = λ portion left last a b p q. p ∙ sym q;
    }
