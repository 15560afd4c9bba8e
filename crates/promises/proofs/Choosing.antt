-- The choice: who runs has the smallest deadline, and the lowest number among equals; and what the tick then uses.
use mathlib.Core.Path.{◌≡◌, refl, sym, ap}
use mathlib.Core.Bool.{true, false, cond}
use mathlib.Core.List.{List, [], ◌∷◌}
use Prim.Native.Nat.{ℕ, zero, suc, ◌+◌, ◌≤◌, ◌<◌}
use native.Mathlib.Nat.{add-zero}
use native.Mathlib.Omega.{arith}
use Rattle.laws.proofs.Cases.{never, by_leb, by_index}
use Rattle.rules.specs.Model.{Guest, guest, Spare, spare, current_of, deadline_of, active, guest_at}
use Rattle.rules.specs.Steps.{Pick, nobody, picked, ready, sooner, earliest, own_budget, spare_of, runs, limited, portion, portion_for, next}
use Rattle.promises.specs.Promises.{RunsFirst, NobodyActive, Uses, NextUses}

-- what a pick from guests numbered from i says of them
abbrev Leads : ℕ → List Guest → Pick → Type 0
Leads i gs nobody = NobodyActive gs
Leads i gs (picked n d c) = (j : ℕ) × (n ≡ i + j) × RunsFirst gs j × (d ≡ deadline_of (guest_at j gs)) × (c ≡ current_of (guest_at j gs))

-- a pick from the guests behind an idle one
behind_idle : (i : ℕ) (g : Guest) (gs : List Guest) (p : Pick) → active g ≡ false → Leads (suc i) gs p → Leads i (g ∷ gs) p
behind_idle i g gs nobody h l = by_index (λ k. active (guest_at k (g ∷ gs)) ≡ false) h l
behind_idle i g gs (picked n d c) h l =
    let r = l.2 in (
      suc l.0,
      omega (arith, l.1),
      record {
        place = omega (arith, r.place);
        is_active = r.is_active;
        smallest = by_index (λ k. active (guest_at k (g ∷ gs)) ≡ true → deadline_of (guest_at l.0 gs) ≤ deadline_of (guest_at k (g ∷ gs))) (λ a. never a h) r.smallest;
        lowest = by_index (λ k. k < suc l.0 → active (guest_at k (g ∷ gs)) ≡ true → deadline_of (guest_at l.0 gs) < deadline_of (guest_at k (g ∷ gs))) (λ p a. never a h) (λ k p a. r.lowest k (omega arith) a);
      },
      l.3,
      l.4,
    )

-- the first guest, where it is active and no other is sooner
first_leads : (i : ℕ) (g : Guest) (gs : List Guest) → active g ≡ true → ((k : ℕ) → active (guest_at k gs) ≡ true → deadline_of g ≤ deadline_of (guest_at k gs)) → Leads i (g ∷ gs) (picked i (deadline_of g) (current_of g))
first_leads i g gs h f = (
  0,
  sym (add-zero i),
  record {
    place = omega arith;
    is_active = h;
    smallest = by_index (λ k. active (guest_at k (g ∷ gs)) ≡ true → deadline_of g ≤ deadline_of (guest_at k (g ∷ gs))) (λ a. omega arith) f;
    lowest = λ k p a. absurd (omega arith);
  },
  refl,
  refl,
)

-- a later guest that is sooner than the first
later_leads : (i : ℕ) (g : Guest) (gs : List Guest) (n d c : ℕ) → d < deadline_of g → Leads (suc i) gs (picked n d c) → Leads i (g ∷ gs) (picked n d c)
later_leads i g gs n d c h l =
    let r = l.2 in
    let e = l.3 in (
      suc l.0,
      omega (arith, l.1),
      record {
        place = omega (arith, r.place);
        is_active = r.is_active;
        smallest = by_index (λ k. active (guest_at k (g ∷ gs)) ≡ true → deadline_of (guest_at l.0 gs) ≤ deadline_of (guest_at k (g ∷ gs))) (λ a. omega arith) r.smallest;
        lowest = by_index (λ k. k < suc l.0 → active (guest_at k (g ∷ gs)) ≡ true → deadline_of (guest_at l.0 gs) < deadline_of (guest_at k (g ∷ gs))) (λ p a. omega arith) (λ k p a. r.lowest k (omega arith) a);
      },
      l.3,
      l.4,
    )

-- the sooner of the first guest and the pick from those behind it
sooner_leads : (i : ℕ) (g : Guest) (gs : List Guest) (q : Pick) → Leads (suc i) gs q → Leads i (g ∷ gs) (sooner (ready i g) q)
sooner_leads i (guest Q T zero c d own borrowed) gs q l = behind_idle i (guest Q T 0 c d own borrowed) gs q refl l
sooner_leads i (guest Q T (suc jobs) c d own borrowed) gs nobody l = first_leads i (guest Q T (suc jobs) c d own borrowed) gs refl (λ k a. never a (l k))
sooner_leads i (guest Q T (suc jobs) c d own borrowed) gs (picked n e b) l =
    let g = guest Q T (suc jobs) c d own borrowed in
    by_leb (λ t. Leads i (g ∷ gs) (cond t (picked i d c) (picked n e b))) d e
    (λ h. first_leads i g gs refl (λ k a. omega (arith, l.3, l.2.smallest k a)))
    (λ h. later_leads i g gs n e b h l)

earliest_leads : (i : ℕ) (gs : List Guest) → Leads i gs (earliest i gs)
earliest_leads i [] = λ k. refl
earliest_leads i (g ∷ gs) = sooner_leads i g gs (earliest (suc i) gs) (earliest_leads (suc i) gs)

-- a pick from guests numbered from 0
settled : (gs : List Guest) (n d c : ℕ) → Leads 0 gs (picked n d c) → RunsFirst gs n × (d ≡ deadline_of (guest_at n gs)) × (c ≡ current_of (guest_at n gs))
settled gs n d c l =
    let e : n ≡ l.0 = omega (arith, l.1) in
    rw e (l.2, l.3, l.4)

portion_uses : (gs : List Guest) (ss : List Spare) (p : Pick) → Leads 0 gs p → Uses gs ss (portion_for p ss)
portion_uses gs [] nobody l = (l, refl, refl, refl)
portion_uses gs (spare d owner c ∷ ss) nobody l = (l, (c, (ss, refl), refl))
portion_uses gs [] (picked n d c) l = let r = settled gs n d c l in (r.0, r.1, ap limited r.2, tt)
portion_uses gs (spare e owner b ∷ ss) (picked n d c) l =
    let r = settled gs n d c l in
    by_leb (λ t. Uses gs (spare e owner b ∷ ss) (cond t (portion (runs n (spare_of owner)) e (limited b)) (portion (runs n own_budget) d (limited c)))) e d
    (λ h. (r.0, (b, (ss, refl), refl), omega (arith, r.1)))
    (λ h. (r.0, r.1, ap limited r.2, h))

pub next-uses : NextUses
unfolding next
next-uses m = portion_uses m.guests m.spares (earliest 0 m.guests) (earliest_leads 0 m.guests)
