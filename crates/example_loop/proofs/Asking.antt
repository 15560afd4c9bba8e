-- What Ask's answer gives the loop: a span of at least one tick.
use mathlib.Core.Path.{◌≡◌, refl, sym, ap, subst, ◌∙◌}
use mathlib.Core.Bool.{true}
use Prim.Native.Nat.{ℕ}
use borrow.Author.Tests.{not-false}
use Rattle.std.specs.Prelude.{Ok}
use Rattle.rules.specs.declared.Portion.{Portion as DeclaredPortion}
use Rattle.rules.specs.declared.State.{State}
use Rattle.rules.specs.Calls.{ask_rows, told, portion_of, AskedFor}
use Rattle.rules.specs.Places.{model}
use Rattle.rules.specs.Refusals.{first}
use Rattle.rules.specs.Sound.{sound}
use Rattle.rules.specs.Steps.{Portion, span_of, nothing_to_do, ask}
use Rattle.promises.specs.Spans.{Within}
use Rattle.promises.proofs.Facts.{sane_model}
use Rattle.promises.proofs.Refusing.{clear}
use Rattle.promises.proofs.Spans.{span_positive}
use Rattle.example_loop.specs.Clauses.{WithinSpan}

-- Ask went, so the state is sound, and the portion of a sound state has a tick left
pub span_some : (s : State) (next : DeclaredPortion) → AskedFor s (Ok next) → WithinSpan 1 next
span_some s next a =
    let none : first (ask_rows s) ≡ 0 = sym a.answer in
    let h : sound s ≡ true = not-false (sound s) (clear (ask_rows s) refl none).0 in
    let same : portion_of next ≡ ask (model s) = a.next ∙ ap (λ (n : ℕ). told n ask nothing_to_do s) none in
    subst (λ (p : Portion). Within 1 (span_of p)) (sym same) (span_positive (model s) (sane_model s h))
