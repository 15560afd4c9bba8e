-- `engine_sound::spares_rise` meets its contract: each spare and the next are compared.
use Rattle.std.proofs.Common.{rules}
use Rattle.std.proofs.lemmas.List.Sorted.{answers_always}
use Rattle.rules.specs.Places.{spare_of}
use Rattle.rules.specs.Steps.{before}
use Rattle.engine_sound.proofs.Testing.{rising_told}
use Rattle.engine_sound.proofs.spares_rise.Goals as goal

pub returns : goal.returns
returns c =
    rising_told c.args.spares.now c.is_sorted_by.result
    (c.is_sorted_by.ensures.cases (λ x y. before (spare_of x) (spare_of y)) (answers_always _ _ _ (λ f a r g h. search rules)))
