-- The rows hold: the one that is stored by computing, the others because two lists or two numbers differ.
use mathlib.Core.Path.{◌≡◌, refl, sym, ap, ◌∙◌}
use mathlib.Core.List.{List, [], ◌∷◌}
use Prim.Native.Nat.{ℕ}
use native.Mathlib.Omega.{arith}
use lib.ListN.{get_or, set}
use denote.Param.Members.{lentᵐ}
use Rattle.c_pointers.specs.Forms.{StoresAt}
use Rattle.c_pointers.specs.Held.{at_front, FormsHeld}

pub forms_held : FormsHeld
forms_held =
    record {
      stored = record { shown = lentᵐ (1 ∷ 2 ∷ []); shows = refl; left = lentᵐ (7 ∷ 2 ∷ []); met = (refl, refl); leaves = refl };
      other_number = λ s. let e : 1 ≡ 0 = s.met.0 in omega arith;
      other_value = λ s. let e : 7 ≡ 8 = ap (λ (l : List ℕ). get_or l 0 0) (stored_is s) in omega arith;
      other_before = λ s. let e : 2 ≡ 3 = ap (λ (l : List ℕ). get_or l 1 0) (stored_is s) in omega arith;
      other_after = λ s. let e : 3 ≡ 2 = ap (λ (l : List ℕ). get_or l 1 0) (stored_is s) in omega arith;
    }
  where
    -- what is left is what was there with the value at the front
    stored_is : {value number : ℕ} {before after : List ℕ} → StoresAt at_front tt value before number after → after ≡ set before 0 value
    stored_is {value} s = sym s.leaves ∙ s.met.1 ∙ ap (λ (l : List ℕ). set l 0 value) s.shows
