-- What the questions answer of a state that is sound.
use mathlib.Core.Path.{◌≡◌, refl, sym, ap, ◌∙◌}
use mathlib.Core.Bool.{true, not}
use mathlib.Core.List.{[]}
use Prim.Native.Nat.{ℕ, ◌≤◌}
use native.Mathlib.Omega.{arith}
use lib.Count.{ones}
use lib.ListN.{length, take}
use lib.Seq.{length-take-le}
use Rattle.std.specs.Prelude.{Ok}
use Rattle.rules.specs.declared.State.{State}
use Rattle.rules.specs.Calls.{told, ask_rows, ActiveTold}
use Rattle.rules.specs.Limits.{guest_places}
use Rattle.rules.specs.Model.{Model, mask_of, active_count}
use Rattle.rules.specs.Places.{model}
use Rattle.rules.specs.Refusals.{first}
use Rattle.rules.specs.Sound.{sound}
use Rattle.promises.proofs.Facts.{points}
use Rattle.promises.proofs.GoodTable.{good_table_lem}
use Rattle.promises.proofs.Refusing.{given-later}
use Rattle.engine_choice.specs.Choice.{in_use}
use Rattle.engine_choice.proofs.Choosing.{mask_shown, count_active}

module _ (s : State) where
  -- a sound state's guests have their places
  pub guests_fit : sound s ≡ true → s.table.count ≤ guest_places
  guests_fit h = (good_table_lem s.table (points s h).table).count_high

  asked : sound s ≡ true → 0 ≡ first (ask_rows s)
  asked h = given-later (not (sound s)) 1 [] (ap not h) refl

  module _ (h : sound s ≡ true) (he : length s.table.entries ≡ guest_places) (hg : length s.guests ≡ guest_places) {mask : ℕ} (e : mask ≡ mask_of (in_use s.table.count s.guests)) where
    pub mask_told : mask ≡ mask_of (model s).guests
    unfolding model
    mask_told =
        let fits = guests_fit h in
        let n = s.table.count in
        e ∙ mask_shown (take n s.table.entries) (take n s.guests) (length-take-le n s.table.entries (omega (arith, fits, he)) ∙ sym (length-take-le n s.guests (omega (arith, fits, hg))))

    pub active-told : {count : ℕ} → count ≡ ones mask → ActiveTold s (Ok (record { mask = mask; actives = count }))
    active-told {count} f =
        let n = asked h in
        record {
          answer = n;
          mask = mask_told ∙ ap (λ (k : ℕ). told k (λ (m : Model). mask_of m.guests) 0 s) n;
          actives = count_active (model s).guests mask_told f ∙ ap (λ (k : ℕ). told k (λ (m : Model). active_count m.guests) 0 s) n;
        }
