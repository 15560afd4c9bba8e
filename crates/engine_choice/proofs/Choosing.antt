-- The mask, grown guest by guest: what the loop knows at i, and what a turn adds; and a guest that is active.
use mathlib.Core.Path.{◌≡◌, refl, sym, ap, ◌∙◌}
use mathlib.Core.List.{List, [], ◌∷◌, ◌++◌, map, map-append, zip_with}
use Prim.Native.Nat.{ℕ, zero, suc, ◌+◌, ◌*◌, ◌%◌, ◌^◌, ◌≤◌, ◌<◌, min}
use native.Mathlib.Nat.{mod-eq_of_lt, mul_assoc, mul-le-mul_right, pow-suc}
use native.Mathlib.Numerals.{add-one}
use native.Mathlib.Omega.{arith}
use lib.Bits.{bit_or, or_shifted_r}
use lib.Count.{ones}
use lib.ListN.{length, get_or, take, length-map, length-take}
use lib.Pow.{pow_mono, pow-lt}
use lib.Seq.{take-suc, take_all, length-take-le}
use Rattle.laws.proofs.Cases.{by_leb}
use Rattle.rules.specs.declared.Entry.{Entry}
use Rattle.rules.specs.declared.Guest.{Guest as GuestPlace}
use Rattle.rules.specs.Model.{Guest, guest, bit_of, mask_of, active_count}
use Rattle.rules.specs.Places.{guest_of}
use Rattle.rules.specs.Steps.{picked, ready}
use Rattle.promises.proofs.Mask.{bit_small, ones_of_mask}
use Rattle.engine_choice.specs.Choice.{shown, in_use}

-- ---- an active guest

pub ready-active : (i Q T j c d own borrowed : ℕ) → (j ≡ 0 → ⊥) → picked i d c ≡ ready i (guest Q T j c d own borrowed)
ready-active i Q T zero c d own borrowed h = absurd (h refl)
ready-active i Q T (suc j) c d own borrowed h = refl

-- ---- the guests in use, without their entries and with them

pub mask_shown : (es : List Entry) (gs : List GuestPlace) → length es ≡ length gs → mask_of (map shown gs) ≡ mask_of (zip_with guest_of es gs)
unfolding zip_with
mask_shown [] [] h = refl
mask_shown [] (g ∷ gs) h = absurd (omega arith)
mask_shown (e ∷ es) [] h = absurd (omega arith)
mask_shown (e ∷ es) (g ∷ gs) h = rw (mask_shown es gs (omega arith))

pub count_shown : (es : List Entry) (gs : List GuestPlace) → length es ≡ length gs → active_count (map shown gs) ≡ active_count (zip_with guest_of es gs)
count_shown es gs h = sym (ones_of_mask (map shown gs)) ∙ ap ones (mask_shown es gs h) ∙ ones_of_mask (zip_with guest_of es gs)

-- the ones of the guests' mask
pub count_active : (gs : List Guest) {mask count : ℕ} → mask ≡ mask_of gs → count ≡ ones mask → count ≡ active_count gs
count_active gs e f = f ∙ ap ones e ∙ ones_of_mask gs

pub length_in_use : (n : ℕ) (gs : List GuestPlace) → n ≤ length gs → length (in_use n gs) ≡ n
length_in_use n gs h = length-map (take n gs) shown ∙ length-take-le n gs h

-- no guest stands behind the places
pub in_use_all : (places : ℕ) {n : ℕ} (count : ℕ) (gs : List GuestPlace) → n ≡ min count places → length gs ≡ places → in_use n gs ≡ in_use count gs
in_use_all places {n} count gs e h =
    by_leb (λ _. in_use n gs ≡ in_use count gs) count places (λ l. let few : n ≡ count = omega arith in ap (λ (k : ℕ). in_use k gs) few)
    (λ l. ap (λ (xs : List GuestPlace). map shown xs) (take_all n gs (omega arith) ∙ sym (take_all count gs (omega arith))))

-- and no more guests are in use than there are places
pub in_use_few : (digits : ℕ) (count : ℕ) (gs : List GuestPlace) (places : ℕ) → length gs ≡ places → places ≤ digits → length (in_use count gs) ≤ digits
in_use_few digits count gs places e h = omega (arith, length-map (take count gs) shown, length-take count gs)

-- ---- the mask

mask_small : (gs : List Guest) → mask_of gs < 2 ^ length gs
mask_small [] = omega arith
mask_small (g ∷ gs) = omega (arith, mask_small gs, bit_small g, pow-suc 2 (length gs))

mask_behind : (gs : List Guest) (g : Guest) → mask_of (gs ++ (g ∷ [])) ≡ bit_of g * 2 ^ length gs + mask_of gs
mask_behind [] g = omega arith
mask_behind (x ∷ gs) g =
    let b = bit_of g in
    let n = 2 ^ length gs in
    let twice : b * 2 ^ suc (length gs) ≡ b * n * 2 = ap (λ (k : ℕ). b * k) (pow-suc 2 (length gs)) ∙ sym (mul_assoc b n 2) in
    omega (arith, mask_behind gs g, twice)

-- the mask of the first i guests
pub record Masked (gs : List GuestPlace) (i mask : ℕ) : Type 0 where
  pub so : mask ≡ mask_of (in_use i gs)

module _ {gs : List GuestPlace} {i mask : ℕ} (m : Masked gs i mask) where
  below : i ≤ length gs → mask < 2 ^ i
  below h = rw (m.so, ← (ap (λ (k : ℕ). 2 ^ k) (length_in_use i gs h))) (mask_small (in_use i gs))

  -- in a word of so many digits
  pub masked_more : (digits : ℕ) (z : GuestPlace) (bit : ℕ) → bit ≡ bit_of (shown (get_or gs i z)) → i < length gs → i < digits
      → Masked gs (i + 1) (bit_or mask (bit * 2 ^ i % 2 ^ digits))
  masked_more digits z bit e h k =
      let g = shown (get_or gs i z) in
      let one : bit ≤ 1 = omega (arith, bit_small g) in
      let fits : bit * 2 ^ i < 2 ^ digits = omega (arith, mul-le-mul_right (2 ^ i) one, pow-lt {i = i} {j = digits} k) in
      let longer : in_use (i + 1) gs ≡ in_use i gs ++ (g ∷ []) = rw (add-one i, take-suc gs i z h, map-append) in
      record {
        so = rw (mod-eq_of_lt fits, or_shifted_r bit i mask (below (omega arith)), longer, mask_behind, length_in_use i gs (omega arith), e, m.so);
      }

  -- all of them; no mask has a bit past its places
  pub masked_end : (places : ℕ) → i ≡ length gs → length gs ≤ places → (mask ≡ mask_of (map shown gs)) × (mask < 2 ^ places)
  masked_end places e h =
      (m.so ∙ ap (λ (xs : List GuestPlace). mask_of (map shown xs)) (take_all i gs (omega arith)), omega (arith, below (omega arith), pow_mono {i = i} {j = places} (omega arith)))
