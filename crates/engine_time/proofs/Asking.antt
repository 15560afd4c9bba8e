-- What Ask answers: the choice after step 1 of a tick, and the first spare.
use mathlib.Core.Path.{◌≡◌, refl, ap, ◌∙◌}
use mathlib.Core.Bool.{true}
use mathlib.Core.List.{List, [], map}
use Prim.Native.Nat.{ℕ}
use lib.ListN.{length, length-map, take}
use lib.Seq.{slice}
use Rattle.std.specs.Prelude.{Option, Ok}
use Rattle.rules.specs.declared.Spare.{Spare as SparePlace}
use Rattle.rules.specs.declared.Guest.{Guest as GuestPlace}
use Rattle.rules.specs.declared.Portion.{Portion as DeclaredPortion}
use Rattle.rules.specs.declared.State.{State}
use Rattle.rules.specs.Calls.{told, portion_of, AskedFor}
use Rattle.rules.specs.Places.{model, spare_of}
use Rattle.rules.specs.Sound.{sound}
use Rattle.rules.specs.Steps.{renew, renewed, Pick, earliest, Portion, nothing_to_do, portion_for, next, ask}
use Rattle.promises.proofs.Facts.{guests_count}
use Rattle.engine_choice.specs.Choice.{in_use}
use Rattle.engine_choice.specs.Clauses.{first_of}
use Rattle.engine_time.specs.Inner.{placed}
use Rattle.engine_time.proofs.Rows.{past_1}
use Rattle.engine_time.proofs.Turning.{earliest_in, portion_in}

module _ (s : State) where
  module _ (h : sound s ≡ true) where
    pub ask-told : {x : DeclaredPortion} → portion_of x ≡ ask (model s) → AskedFor s (Ok x)
    ask-told e = let z = past_1 s [] h refl in record { answer = z; next = e ∙ ap (λ (n : ℕ). told n ask nothing_to_do s) z }

    -- the code's choice and its first spare are the rules'
    pub ask-next : {gs : List GuestPlace} {q : Pick} (first : Option SparePlace) {p : Portion} → gs ≡ placed (renewed (model s)).guests → q ≡ earliest 0 (in_use s.table.count gs)
        → first_of first ≡ map spare_of (take 1 (slice 0 s.listed s.spares)) → p ≡ portion_for q (first_of first) → p ≡ ask (model s)
    unfolding ask next renewed model
    ask-next first eg eq ef ep =
        let m = model s in
        let long : length (renewed m).guests ≡ s.table.count = length-map m.guests renew ∙ guests_count s h in
        ep
        ∙ ap (λ (q : Pick). portion_for q (first_of first)) (eq ∙ earliest_in s.table.count (renewed m).guests eg long)
        ∙ portion_in (slice 0 s.listed s.spares) first ef (earliest 0 (renewed m).guests)
