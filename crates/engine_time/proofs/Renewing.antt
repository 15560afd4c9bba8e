-- Step 1 of a tick, guest by guest: what the loop knows at i, and what a turn adds.
use mathlib.Core.Path.{◌≡◌, refl, sym, ap, ◌∙◌}
use mathlib.Core.Bool.{true}
use mathlib.Core.List.{List, [], ◌∷◌, map}
use Prim.Native.Nat.{ℕ, zero, suc, ◌+◌, ◌^◌, ◌≤◌, ◌<◌}
use native.Mathlib.Numerals.{add-one}
use native.Mathlib.Omega.{arith}
use lib.ListN.{length, get_or, set}
use Rattle.laws.specs.Lists.{changed}
use Rattle.rules.specs.declared.Guest.{Guest as GuestPlace}
use Rattle.rules.specs.declared.State.{State}
use Rattle.rules.specs.Limits.{guest_places, last_tick, deadline_bound}
use Rattle.rules.specs.Model.{Guest, guest, deadline_of, guest_at}
use Rattle.rules.specs.Places.{guest_place, no_guest_place, model}
use Rattle.rules.specs.Sound.{sound}
use Rattle.rules.specs.Steps.{renew, renewed}
use Rattle.rules.specs.Table.{no_entry}
use Rattle.promises.proofs.Facts.{GuestGood, sane_model, guests_count}
use Rattle.engine_sound.specs.Inner.{guests_of}
use Rattle.engine_time.specs.Inner.{placed}
use Rattle.engine_time.proofs.Placing.{placed_changed, guests_back, table_good, Here, guest_inside, guest_here, guest_good}

-- the first i guests are renewed
abbrev partly : ℕ → List Guest → List Guest
partly zero gs = gs
partly (suc i) [] = []
partly (suc i) (g ∷ gs) = renew g ∷ partly i gs

partly_length : (i : ℕ) (gs : List Guest) → length (partly i gs) ≡ length gs
partly_length zero gs = refl
partly_length (suc i) [] = refl
partly_length (suc i) (g ∷ gs) = ap suc (partly_length i gs)

-- the next one is not
partly_at : (i : ℕ) (gs : List Guest) → guest_at i (partly i gs) ≡ guest_at i gs
partly_at zero gs = refl
partly_at (suc i) [] = refl
partly_at (suc i) (g ∷ gs) = partly_at i gs

partly_more : (i : ℕ) (gs : List Guest) → changed i renew (partly i gs) ≡ partly (suc i) gs
partly_more zero [] = refl
partly_more zero (g ∷ gs) = refl
partly_more (suc i) [] = refl
partly_more (suc i) (g ∷ gs) = ap {B = List Guest} (λ r. renew g ∷ r) (partly_more i gs)

partly_all : (gs : List Guest) → partly (length gs) gs ≡ map renew gs
partly_all [] = refl
partly_all (g ∷ gs) = ap {B = List Guest} (λ r. renew g ∷ r) (partly_all gs)

pub record Renewing (gs : List Guest) (i : ℕ) (t : List GuestPlace) : Type 0 where
  pub so : t ≡ placed (partly i gs)

module _ {gs : List Guest} {i : ℕ} {t : List GuestPlace} (r : Renewing gs i t) where
  module _ (inside : i < length gs) where
    inside_partly : i < length (partly i gs)
    inside_partly = rw (partly_length i gs) inside

    renewing_more : {g : GuestPlace} → g ≡ guest_place (renew (guest_at i gs)) → Renewing gs (i + 1) (set t i g)
    renewing_more {g} e =
        record {
          so = rw (add-one i, ← (partly_more i gs), placed_changed (partly i gs) i inside_partly renew, partly_at i gs, ← e, r.so);
        }

  renewing_end : i ≡ length gs → t ≡ placed (map renew gs)
  renewing_end e = r.so ∙ ap (λ (k : ℕ). placed (partly k gs)) e ∙ ap placed (partly_all gs)

-- ---- of a sound state

-- T
abbrev period_of : Guest → ℕ
period_of (guest Q T jobs c d own borrowed) = T

-- a period added to a deadline can't wrap
pub deadline_fits : (now : ℕ) (g : Guest) → now ≤ last_tick → GuestGood (deadline_bound now) g → deadline_of g + period_of g < 2 ^ 64
deadline_fits now (guest Q T jobs c d own borrowed) l p = omega (arith, p.served, p.early)

module _ (s : State) (h : sound s ≡ true) where
  abbrev gs : List Guest
  gs = guests_of s.table.entries s.guests s.table.count

  pub in_places : s.table.count ≤ guest_places
  in_places = (table_good s h).count_high

  pub renewing_first : Renewing gs 0 s.guests
  unfolding guests_of model
  renewing_first = record { so = sym (guests_back s h) }

  module _ {i : ℕ} (inside : i < s.table.count) where
    pub renewing_fits : (get_or s.guests i no_guest_place).deadline + (get_or s.table.entries i no_entry).period < 2 ^ 64
    unfolding model
    renewing_fits = deadline_fits s.now (Here s i) (sane_model s h).time (guest_good s h i inside)

    pub renewing_next : {t : List GuestPlace} {g : GuestPlace} → Renewing gs i t → g ≡ guest_place (renew (Here s i)) → Renewing gs (i + 1) (set t i g)
    unfolding guests_of model
    renewing_next r e = renewing_more r (guest_inside s h i inside) (e ∙ ap (λ (g : Guest). guest_place (renew g)) (sym (guest_here s h i inside)))

  pub renewing_last : {i : ℕ} {t : List GuestPlace} → Renewing gs i t → i ≡ s.table.count → t ≡ placed (renewed (model s)).guests
  unfolding guests_of model renewed
  renewing_last r e = renewing_end r (e ∙ sym (guests_count s h))
