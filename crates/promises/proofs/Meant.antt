-- What `active` and `margin` answer means what it says: the mask is followed bit by bit, and a difference is undone by a sum.
use mathlib.Core.Path.{◌≡◌, refl, sym, ap, ◌∙◌}
use mathlib.Core.Bool.{true}
use mathlib.Core.List.{List, [], ◌∷◌}
use mathlib.Core.Logic.{◌↔◌}
use Prim.Native.Nat.{ℕ, zero, suc, ◌+◌, ◌*◌, ◌/◌, ◌%◌}
use native.Mathlib.Omega.{arith}
use lib.IntN.{pos, ◌+ℤ◌, ◌-ℤ◌, -ℤ-+ℤ_cancel}
use lib.ListN.{length}
use Rattle.rules.specs.declared.State.{State}
use Rattle.rules.specs.Model.{Guest, guest, Model, bit_of, mask_of, active, active_count, guest_at, deadline_of}
use Rattle.rules.specs.Steps.{margin}
use Rattle.rules.specs.Places.{model}
use Rattle.rules.specs.Calls.{told, named}
use Rattle.promises.specs.Promises.{bit, actives, ActivityMeant, MarginMeant}
use Rattle.promises.proofs.Mask.{bit_small}

-- ---- the mask and the count

bit-of-zero : (i : ℕ) → bit i 0 ≡ 0
unfolding bit
bit-of-zero zero = refl
bit-of-zero (suc i) = bit-of-zero i

-- bit i of the mask is guest i's
mask_bit : (i : ℕ) (gs : List Guest) → bit i (mask_of gs) ≡ bit_of (guest_at i gs)
unfolding bit
mask_bit i [] = bit-of-zero i
mask_bit zero (g ∷ gs) = let low : (bit_of g + 2 * mask_of gs) % 2 ≡ bit_of g = omega (arith, bit_small g) in low
mask_bit (suc i) (g ∷ gs) =
    let high : (bit_of g + 2 * mask_of gs) / 2 ≡ mask_of gs = omega (arith, bit_small g) in
    ap (bit i) high ∙ mask_bit i gs

bit-active : (g : Guest) → (bit_of g ≡ 1) ↔ (active g ≡ true)
bit-active (guest Q T zero c d own borrowed) = (λ h. absurd (omega arith), λ h. cc)
bit-active (guest Q T (suc jobs) c d own borrowed) = (λ h. refl, λ h. refl)

count_actives : (gs : List Guest) → active_count gs ≡ length (actives gs)
unfolding actives
count_actives [] = refl
count_actives (guest Q T zero c d own borrowed ∷ gs) = omega (arith, count_actives gs)
count_actives (guest Q T (suc jobs) c d own borrowed ∷ gs) = omega (arith, count_actives gs)

-- ---- of what is answered

-- an answer that is no refusal tells what it says of the model
pub told_went : {A : Type 0} (n : ℕ) (f : Model → A) (z : A) (s : State) → n ≡ 0 → told n f z s ≡ f (model s)
told_went n f z s h = ap (λ k. told k f z s) h

pub activity_meant : ActivityMeant
activity_meant =
    record {
      mask = λ s r p i.
          let told-mask = p.mask ∙ told_went _ _ 0 s (sym p.answer) in
          let bits : bit i r.mask ≡ bit_of (named s i) = ap (bit i) told-mask ∙ mask_bit i (model s).guests in
          (λ one. (bit-active (named s i)).0 (sym bits ∙ one), λ is. bits ∙ (bit-active (named s i)).1 is);
      count = λ s r p. p.actives ∙ told_went _ _ 0 s (sym p.answer) ∙ count_actives (model s).guests;
    }

pub margin_meant : MarginMeant
unfolding margin model
margin_meant s i ticks p =
    let told-ticks : ticks ≡ pos (deadline_of (named s i)) -ℤ pos s.now = p.ticks ∙ told_went _ (margin i) (pos 0) s (sym p.answer) in
    ap (λ t. t +ℤ pos s.now) told-ticks ∙ -ℤ-+ℤ_cancel (pos (deadline_of (named s i))) (pos s.now)
