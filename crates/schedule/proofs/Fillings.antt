-- Fillings, one after the other, are the listing of the input.
use mathlib.Core.Path.{◌≡◌, refl, sym, ap, ◌∙◌}
use mathlib.Core.List.{List, ◌++◌}
use Prim.Native.Nat.{ℕ, ◌+◌}
use lib.ListN.{take}
use Rattle.program_listing.specs.declared.Held.{Held}
use Rattle.program_listing.specs.Turning.{goes_on, put_out, held_after, at_first}
use Rattle.program_turns.proofs.Turns.{put_then, held_then, turns_are_listing}
use Rattle.schedule.specs.Clauses.{Fillings, begun, filled, FillingsAreListing}

-- so many turns were made in all
record Made (input : List ℕ) (h : Held) (bytes : List ℕ) : Type 0 where
  turns : ℕ
  held : h ≡ held_after turns input at_first
  out : bytes ≡ put_out turns input at_first

made : (input : List ℕ) (h : Held) (bytes : List ℕ) → Fillings input h bytes → Made input h bytes
unfolding put_out held_after
made input h bytes begun = record { turns = 0; held = refl; out = refl }
made input h bytes (filled f after r d) =
    let m = made input _ _ f in
    record {
      turns = m.turns + d.turns;
      held = d.held ∙ ap (held_after d.turns input) m.held ∙ sym (held_then m.turns d.turns input at_first);
      out =
          ap (λ (x : List ℕ). x ++ take r.filled after) m.out
          ∙ ap (λ (x : List ℕ). put_out m.turns input at_first ++ x) (d.bytes ∙ ap (put_out d.turns input) m.held)
          ∙ sym (put_then m.turns d.turns input at_first);
    }

pub fillings_are_listing : FillingsAreListing
fillings_are_listing input h bytes f g =
    let m = made input h bytes f in
    m.out ∙ turns_are_listing input m.turns (ap (λ (x : Held). goes_on x.stage) (sym m.held) ∙ g)
