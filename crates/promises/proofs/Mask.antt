-- The mask has a one for each active guest.
use mathlib.Core.Path.{◌≡◌, refl, ◌∙◌}
use mathlib.Core.List.{[], ◌∷◌}
use Prim.Native.Nat.{zero, suc, ◌+◌, ◌*◌, ◌/◌, ◌%◌, ◌≤◌}
use native.Mathlib.Omega.{arith}
use lib.Count.{ones, ones_in, ones_step}
use Rattle.rules.specs.Model.{Guest, guest, bit_of, mask_of}
use Rattle.promises.specs.Promises.{OnesOfMask}

pub bit_small : (g : Guest) → bit_of g ≤ 1
bit_small (guest Q T zero c d own borrowed) = omega arith
bit_small (guest Q T (suc jobs) c d own borrowed) = omega arith

pub ones_of_mask : OnesOfMask
unfolding ones ones_in
ones_of_mask [] = refl
ones_of_mask (g ∷ gs) =
    let n = bit_of g + 2 * mask_of gs in
    let low : n % 2 ≡ bit_of g = omega (arith, bit_small g) in
    let high : n / 2 ≡ mask_of gs = omega (arith, bit_small g) in
    ones_step n ∙ rw (low, high, ones_of_mask gs)
