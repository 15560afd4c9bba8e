-- `engine_sound::tested` meets its contract: the one row is that of the test.
use mathlib.Core.Path.{refl, sym, ap, ◌∙◌}
use mathlib.Core.Bool.{not}
use mathlib.Core.List.{[]}
use Rattle.rules.specs.Sound.{sound}
use Rattle.promises.proofs.Refusing.{given_here, given-later}
use Rattle.engine_sound.proofs.tested.Goals as goal

pub invariant_of-result : goal.invariant_of-result
invariant_of-result c = record { sound = sym c.is_sound.ensures ∙ c.if-is_sound.true }

pub returns-then-is_sound : goal.returns-then-is_sound
returns-then-is_sound c =
    let h = sym c.is_sound.ensures ∙ c.if-is_sound.true in
    record { answer = given-later (not (sound c.args.s.now)) 1 [] (ap not h) refl; state = refl }

pub returns-else-is_sound : goal.returns-else-is_sound
returns-else-is_sound c =
    let h = sym c.is_sound.ensures ∙ c.if-is_sound.false in
    record { answer = given_here (not (sound c.args.s.now)) 1 [] (ap not h); state = _ }
