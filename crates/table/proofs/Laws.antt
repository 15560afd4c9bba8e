-- What an entry's test shows, and each answer of the check.
use mathlib.Core.Path.{◌≡◌, refl, sym}
use mathlib.Core.Bool.{Bool, true, false, not, ◌&&◌, and-false}
use mathlib.Core.List.{[], ◌∷◌}
use Prim.Native.Nat.{ℕ, ◌/◌, ◌≤◌, ◌<◌}
use native.Mathlib.Nat.{le_trans, mul-le-mul_right, mul-div-le}
use native.Mathlib.Omega.{arith}
use lib.Dec.{ltb, leb}
use lib.ListN.{length, drop}
use borrow.Author.Tests.{leb-true, lt-leb, lt-ltb, le-ltb, eq-eqb}
use Rattle.laws.specs.Lists.{every, unused}
use Rattle.laws.proofs.Cases.{and_both, and_intro, by_leb}
use Rattle.rules.specs.declared.Entry.{Entry}
use Rattle.rules.specs.declared.Table.{Table}
use Rattle.rules.specs.Limits.{guest_places, longest_frame}
use Rattle.rules.specs.Refusals.{◌gives◌, first, outside}
use Rattle.rules.specs.Table.{divides, fits_frame, share_of, entries_of, shares_of, entry_is_zero, range_rows, table_rows}
use Rattle.promises.proofs.Refusing.{given_here, given-later}
use Rattle.promises.proofs.GoodTable.{not-outside}

-- a period of 0 is never as long as a budget of 1
pub no_period : (H Q T : ℕ) → T ≡ 0 → false ≡ leb 1 Q && leb Q T && divides T H
no_period H Q T h =
    by_leb (λ t. false ≡ t && leb Q T && divides T H) 1 Q (λ l. rw (lt-leb Q T (omega arith))) (λ l. refl)

pub in_order : (H : ℕ) (e : Entry) → fits_frame H e ≡ true → (1 ≤ e.budget) × (e.budget ≤ e.period)
in_order H e h =
    let a = and_both (leb 1 e.budget && leb e.budget e.period) (divides e.period H) h in
    let b = and_both (leb 1 e.budget) (leb e.budget e.period) a.0 in
    (leb-true 1 e.budget b.0, leb-true e.budget e.period b.1)

pub share_low : (H : ℕ) (e : Entry) → fits_frame H e ≡ true → share_of H e ≤ H
share_low H e h = le_trans (mul-le-mul_right (H / e.period) (in_order H e h).1) (mul-div-le H e.period)

-- ---- the rows, one after the other

module _ (t : Table) where
  -- what 13 asks
  abbrev pub Fitting : Bool
  Fitting = every (fits_frame t.frame) (entries_of t) && unused entry_is_zero guest_places t.count t.entries

  pub gives_10 : outside 1 guest_places t.count ≡ true → 10 ≡ first (table_rows t)
  gives_10 h = given_here (outside 1 guest_places t.count) 10 (range_rows t) h

  module _ (low : 1 ≤ t.count) (high : t.count ≤ guest_places) where
    past_10 : {m : ℕ} → m ≡ first (range_rows t) → m ≡ first (table_rows t)
    past_10 e = given-later (outside 1 guest_places t.count) 10 (range_rows t) (not-outside 1 guest_places t.count low high) e

    pub gives_12 : outside 1 longest_frame t.frame ≡ true → 12 ≡ first (table_rows t)
    gives_12 h = past_10 (rw h)

    module _ (some : 1 ≤ t.frame) (long : t.frame ≤ longest_frame) where
      past_12 : {m : ℕ} → m ≡ first (not Fitting gives 13 ∷ ltb t.frame (shares_of t) gives 14 ∷ []) → m ≡ first (table_rows t)
      past_12 e = past_10 (rw (not-outside 1 longest_frame t.frame some long) e)

      pub gives_13 : Fitting ≡ false → 13 ≡ first (table_rows t)
      gives_13 h = past_12 (rw h)

      module _ (fit : Fitting ≡ true) where
        pub gives_14 : t.frame < shares_of t → 14 ≡ first (table_rows t)
        gives_14 h = past_12 (rw (fit, lt-ltb t.frame (shares_of t) h))

        pub gives_0 : shares_of t ≤ t.frame → 0 ≡ first (table_rows t)
        gives_0 h = past_12 (rw (fit, le-ltb t.frame (shares_of t) h))

  -- the two tests of 13
  pub first_fails : false ≡ every (fits_frame t.frame) (entries_of t) → Fitting ≡ false
  first_fails e = rw (← e)

  pub second_fails : false ≡ every entry_is_zero (drop t.count t.entries) → Fitting ≡ false
  second_fails e = rw (← e, and-false, and-false)

  pub both_hold : length t.entries ≡ guest_places → true ≡ every (fits_frame t.frame) (entries_of t) → true ≡ every entry_is_zero (drop t.count t.entries) → Fitting ≡ true
  both_hold l e f = and_intro (sym e) (and_intro (eq-eqb (length t.entries) guest_places l) (sym f))
