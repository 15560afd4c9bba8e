-- An active guest that stays active gets what it holds, in ticks of its own, by its deadline: over any legal run.
use mathlib.Core.Path.{◌≡◌, refl}
use mathlib.Core.Bool.{true}
use mathlib.Core.List.{List}
use mathlib.Core.Logic.{◌⊎◌, inl, inr}
use Prim.Native.Nat.{ℕ, zero, suc, ◌+◌, ◌≤◌, ◌<◌}
use native.Mathlib.Omega.{arith}
use lib.ListN.{length, get_or-eq_default, get_or-map}
use Rattle.laws.proofs.Cases.{never, by_leb}
use Rattle.laws.proofs.Elements.{all_at, all_get, all_imp, total_none, at_either}
use Rattle.rules.specs.Model.{Guest, guest, spare, Model, current_of, deadline_of, own_of, active, no_guest, guest_at}
use Rattle.rules.specs.Steps.{join, arrive, finish, done, renew, renewed, own_budget, spare_of, Use, runs, burns, nothing, use_of, ran, charge}
use Rattle.promises.specs.Promises.{NothingOverdue}
use Rattle.promises.proofs.Owed.{held, held_ahead, owed, Fine, Ahead, owed_ahead}
use Rattle.promises.proofs.Legal.{Legal, arriving, finishing, ticking, Kept, legal_kept}

-- ---- nothing is overdue

pub not_overdue : (m : Model) → Kept m → NothingOverdue m
not_overdue m k =
    let fits = k.demand m.now (omega arith) in
    let guests = all_imp (λ g h. owed_ahead m.now g h) (total_none (owed m.now m.now) m.guests (omega arith)) in
    let spares = all_imp (λ x h. held_ahead m.now x h) (total_none (held m.now) m.spares (omega arith)) in
    (λ i. all_get guests no_guest (λ h. absurd (omega arith)) i, λ i. all_get spares (spare 0 0 0) (λ h. absurd (omega arith)) i)

-- ---- what an active guest has had

-- since it had run R less its budget then, with deadline D: it still has that deadline and the rest, or has had R
abbrev Since : ℕ → ℕ → Guest → Type 0
Since D R g = ((deadline_of g ≡ D) × (R ≤ own_of g + current_of g)) ⊎ ((D < deadline_of g) × (R ≤ own_of g))

-- that, of an active guest
abbrev pub Had : ℕ → ℕ → Guest → Type 0
Had D R g = (active g ≡ true) × Since D R g

-- that, if it is active
abbrev If : ℕ → ℕ → Guest → Type 0
If D R g = active g ≡ true → Since D R g

module _ (D R : ℕ) where
  had_join : (now : ℕ) (g : Guest) → Had D R g → If D R (join now g)
  had_join now (guest Q T zero c d own borrowed) h a = never h.0 refl
  had_join now (guest Q T (suc jobs) c d own borrowed) h a = h.1

  had_finish : (g : Guest) → Had D R g → If D R (finish g)
  had_finish (guest Q T zero c d own borrowed) h a = never h.0 refl
  had_finish (guest Q T (suc zero) c d own borrowed) h a = never a refl
  had_finish (guest Q T (suc (suc jobs)) c d own borrowed) h a = h.1

  -- a renewal comes only where all was had
  had_renew : (now : ℕ) (g : Guest) → Fine now g → Had D R g → Had D R (renew g)
  had_renew now (guest Q T zero c d own borrowed) p h = never h.0 refl
  had_renew now (guest Q T (suc jobs) zero d own borrowed) p h = (refl, spent h.1)
    where
      spent : Since D R (guest Q T (suc jobs) 0 d own borrowed) → Since D R (guest Q T (suc jobs) Q (d + T) own borrowed)
      spent (inl s) = inr (omega arith)
      spent (inr s) = inr (omega arith)
  had_renew now (guest Q T (suc jobs) (suc c) d own borrowed) p h = h

  had_ran : (n k : ℕ) (g : Guest) → Had D R g → Had D R (ran n k g)
  had_ran n k (guest Q T zero c d own borrowed) h = never h.0 refl
  had_ran n k (guest Q T (suc jobs) c d own borrowed) h = (refl, since h.1)
    where
      since : Since D R (guest Q T (suc jobs) c d own borrowed) → Since D R (ran n k (guest Q T (suc jobs) c d own borrowed))
      since (inl s) = inl (omega arith)
      since (inr s) = inr (omega arith)

  -- an active guest is one of the list
  had_place : (i : ℕ) (gs : List Guest) → Had D R (guest_at i gs) → i < length gs
  had_place i gs h =
      by_leb (λ t. i < length gs) (length gs) i (λ l. never (rw (get_or-eq_default gs no_guest l) at h.0) refl) (λ l. l)

  charge_had : (i : ℕ) (m : Model) (u : Use) → Had D R (guest_at i m.guests) → Had D R (guest_at i (charge 1 u m).guests)
  charge_had i m (runs k own_budget) h = at_either (Had D R) no_guest k i (ran 1 0) m.guests h (had_ran 1 0 (guest_at i m.guests) h)
  charge_had i m (runs k (spare_of owner)) h = at_either (Had D R) no_guest k i (ran 0 1) m.guests h (had_ran 0 1 (guest_at i m.guests) h)
  charge_had i m (burns owner) h = h
  charge_had i m nothing h = h

  renewed_had : (i : ℕ) (m : Model) → Kept m → Had D R (guest_at i m.guests) → Had D R (guest_at i (renewed m).guests)
  unfolding renewed
  renewed_had i m k h =
      rw (get_or-map renew m.guests i no_guest)
      (had_renew m.now (guest_at i m.guests) (all_at k.fine no_guest i (had_place i m.guests h)) h)

  -- a legal step after which the guest is active
  pub step_had : (i : ℕ) {m n : Model} → Kept m → Legal m n → Had D R (guest_at i m.guests) → active (guest_at i n.guests) ≡ true → Had D R (guest_at i n.guests)
  unfolding arrive done
  step_had i {m} k (arriving j) h a = (a, at_either (If D R) no_guest j i (join m.now) m.guests (λ b. h.1) (had_join m.now (guest_at i m.guests) h) a)
  step_had i {m} k (finishing j) h a = (a, at_either (If D R) no_guest j i finish m.guests (λ b. h.1) (had_finish (guest_at i m.guests) h) a)
  step_had i {m} k (ticking p f) h a = charge_had i (renewed m) (use_of p) (renewed_had i m k h)

  -- by its deadline it has had all
  pub had_all : (i : ℕ) (m : Model) → Kept m → Had D R (guest_at i m.guests) → D ≤ m.now → R ≤ own_of (guest_at i m.guests)
  had_all i m k h l = go (guest_at i m.guests) ((not_overdue m k).0 i) h.1
    where
      go : (g : Guest) → Ahead m.now g → Since D R g → R ≤ own_of g
      go g a (inl s) = by_leb (λ t. R ≤ own_of g) 1 (current_of g) (λ p. absurd (omega (arith, a p))) (λ p. omega arith)
      go g a (inr s) = s.1

-- ---- the lemma, over runs with any fair choices

-- by legal steps from one state to another, with guest i active in each
pub data Awake (i : ℕ) : Model → Model → Type 0 where
  there : {m : Model} → active (guest_at i m.guests) ≡ true → Awake i m m
  onward : {m n o : Model} → active (guest_at i m.guests) ≡ true → Legal m n → Awake i n o → Awake i m o

awake : {i : ℕ} {m n : Model} → Awake i m n → active (guest_at i m.guests) ≡ true
awake (there a) = a
awake (onward a l w) = a

awake_had : (D R : ℕ) {i : ℕ} {m n : Model} → Awake i m n → Kept m → Had D R (guest_at i m.guests) → Kept n × Had D R (guest_at i n.guests)
awake_had D R (there a) k h = (k, h)
awake_had D R {i} (onward a l w) k h = awake_had D R w (legal_kept k l) (step_had D R i k l h (awake w))

-- by the deadline that it has at first, it has run on its own what it holds at first
pub served : {i : ℕ} {m n : Model} → Kept m → Awake i m n → deadline_of (guest_at i m.guests) ≤ n.now → own_of (guest_at i m.guests) + current_of (guest_at i m.guests) ≤ own_of (guest_at i n.guests)
served {i} {m} {n} k w l =
    let g = guest_at i m.guests in
    let h = awake_had (deadline_of g) (own_of g + current_of g) w k (awake w, inl (refl, omega arith)) in
    had_all (deadline_of g) (own_of g + current_of g) i n h.0 h.1 l
