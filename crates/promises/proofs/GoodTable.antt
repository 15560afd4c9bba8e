-- What a table has that no number refuses.
use mathlib.Core.Path.{◌≡◌, refl}
use mathlib.Core.Bool.{true, false, ◌&&◌}
use Prim.Native.Nat.{ℕ, ◌%◌, ◌≤◌, ◌<◌, ◌∣◌}
use native.Mathlib.Nat.{le_of_dvd, dvd_of_mod-eq-zero}
use native.Mathlib.Omega.{arith}
use lib.Dec.{ltb, leb, eqb}
use lib.ListN.{length}
use lib.Seq.{length-take-le}
use borrow.Author.Tests.{lt-ltb, ltb-false, le-ltb, leb-true, eqb-true, not-false}
use Rattle.laws.specs.Lists.{every, padded, unused}
use Rattle.laws.proofs.Cases.{and_both, or_neither, or_right}
use Rattle.laws.proofs.Elements.{All, all_of}
use Rattle.laws.proofs.Places.{length_places, padded_take}
use Rattle.rules.specs.declared.Entry.{Entry}
use Rattle.rules.specs.declared.Table.{Table}
use Rattle.rules.specs.Limits.{guest_places, longest_frame}
use Rattle.rules.specs.Refusals.{first, outside}
use Rattle.rules.specs.Table.{divides, fits_frame, entries_of, shares_of, entry_is_zero, table_rows, good_table, no_entry}
use Rattle.promises.proofs.Refusing.{clear}

-- a number that is not outside is between
pub between : (least most x : ℕ) → outside least most x ≡ false → (least ≤ x) × (x ≤ most)
between least most x h =
    let b = or_neither (ltb x least) (ltb most x) h in
    (ltb-false x least b.0, ltb-false most x b.1)

-- and a number between is not outside
pub not-outside : (least most x : ℕ) → least ≤ x → x ≤ most → outside least most x ≡ false
not-outside least most x low high = rw (le-ltb x least low, le-ltb most x high)

-- a number below the least or above the most is outside
pub below : (least most x : ℕ) → x < least → outside least most x ≡ true
below least most x h = rw (lt-ltb x least h)

pub above : (least most x : ℕ) → most < x → outside least most x ≡ true
above least most x h = or_right (ltb x least) (lt-ltb most x h)

-- "1 ≤ Q ≤ T and T dividing H", so T is at most H
pub record Fits (H : ℕ) (e : Entry) : Type 0 where
  pub budget_low : 1 ≤ e.budget
  pub budget_high : e.budget ≤ e.period
  pub divides : e.period ∣ H
  pub period_high : e.period ≤ H

fits : (H : ℕ) → 1 ≤ H → (e : Entry) → fits_frame H e ≡ true → Fits H e
fits H low e h =
    let b = and_both (leb 1 e.budget && leb e.budget e.period) (divides e.period H) h in
    let c = and_both (leb 1 e.budget) (leb e.budget e.period) b.0 in
    let d : e.period ∣ H = dvd_of_mod-eq-zero e.period (eqb-true (H % e.period) 0 b.1) in
    record {
      budget_low = leb-true 1 e.budget c.0;
      budget_high = leb-true e.budget e.period c.1;
      divides = d;
      period_high = le_of_dvd low d;
    }

-- a place that holds nothing is the empty one
entry_zero : (e : Entry) → entry_is_zero e ≡ true → e ≡ no_entry
entry_zero e h =
    let b = and_both (eqb e.budget 0) (eqb e.period 0) h in
    let q = eqb-true e.budget 0 b.0 in
    let t = eqb-true e.period 0 b.1 in
    λ i. record { budget = q i; period = t i }

pub record Good (t : Table) : Type 0 where
  pub count_low : 1 ≤ t.count
  pub count_high : t.count ≤ guest_places
  pub frame_low : 1 ≤ t.frame
  pub frame_high : t.frame ≤ longest_frame
  pub fit : All (Fits t.frame) (entries_of t)
  pub long : length (entries_of t) ≡ t.count
  pub filled : padded guest_places no_entry (entries_of t) ≡ t.entries
  pub share : shares_of t ≤ t.frame

pub good : (t : Table) → first (table_rows t) ≡ 0 → Good t
good t h =
    let c = clear (table_rows t) refl h in
    let n = between 1 guest_places t.count c.0 in
    let H = between 1 longest_frame t.frame c.1.0 in
    let all = every (fits_frame t.frame) (entries_of t) in
    let behind = unused entry_is_zero guest_places t.count t.entries in
    let b = and_both all behind (not-false (all && behind) c.1.1.0) in
    let places = length_places entry_is_zero no_entry entry_zero guest_places t.count t.entries b.1 in
    record {
      count_low = n.0;
      count_high = n.1;
      frame_low = H.0;
      frame_high = H.1;
      fit = all_of (fits_frame t.frame) (fits t.frame H.0) (entries_of t) b.0;
      long = length-take-le t.count t.entries (omega arith);
      filled = padded_take entry_is_zero no_entry entry_zero guest_places t.count t.entries b.1 n.1;
      share = ltb-false t.frame (shares_of t) c.1.1.1.0;
    }

pub good_table_lem : (t : Table) → good_table t ≡ true → Good t
unfolding good_table
good_table_lem t h = good t (eqb-true (first (table_rows t)) 0 h)
