-- `program_script::number_at` meets its contract: a space, and digits in good form.
use mathlib.Core.Path.{◌≡◌, sym, ap, ◌∙◌}
use mathlib.Core.List.{◌∷◌}
use Rattle.std.proofs.Common.{rules}
use Rattle.program_text.specs.Numbers.{number_at}
use Rattle.program_script.proofs.Digits.{digits_counted, taken_few, taken_digits, number_got}
use Rattle.program_script.proofs.number_at.Goals as goal

pub well_formed-requires : goal.well_formed-requires
well_formed-requires c = c.front_digits-digits.ensures ∙ digits_counted c.in-Some-eq32-default.bytes.now

pub value_of-requires-clause-few : goal.value_of-requires-clause-few
value_of-requires-clause-few c =
    let bytes = c.in-Some-eq32-default.bytes.now in
    taken_few bytes (c.front_digits-digits.ensures ∙ digits_counted bytes) (search rules) c.split_at.ensures.front

pub value_of-requires-clause-all : goal.value_of-requires-clause-all
value_of-requires-clause-all c =
    let bytes = c.in-Some-eq32-default.bytes.now in
    taken_digits bytes (c.front_digits-digits.ensures ∙ digits_counted bytes) (search rules) c.split_at.ensures.front

pub returns : goal.returns
returns c =
    let bytes = c.in-Some-eq32-default.bytes.now in
    let line : c.args.line.now ≡ 32 ∷ bytes = search rules in
    number_got bytes (c.front_digits-digits.ensures ∙ digits_counted bytes) (search rules) c.split_at.ensures.front c.value_of.ensures c.split_at.ensures.back ∙ ap number_at (sym line)
