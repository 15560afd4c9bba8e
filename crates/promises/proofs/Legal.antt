-- Runs in which each tick takes any fair choice, and what every state of such a run has: no more is owed by D than there is time.
use mathlib.Core.Path.{◌≡◌, refl, ap}
use mathlib.Core.List.{List, [], ◌∷◌, map}
use Prim.Native.Nat.{ℕ, zero, suc, ◌+◌, ◌-◌, ◌≤◌, ◌<◌}
use native.Mathlib.Omega.{arith}
use Rattle.laws.specs.Lists.{total, changed}
use Rattle.laws.proofs.Cases.{never, by_leb}
use Rattle.laws.proofs.Elements.{All, none, each, all_from, all_map, all_imp, all_both, all_changed, map_changed, map_same, total_le, total_map_le, total_none, total_changed}
use Rattle.rules.specs.Table.{share_of}
use Rattle.rules.specs.Model.{Guest, guest, Spare, spare, Model, deadline_of, no_guest, guest_at}
use Rattle.rules.specs.Steps.{join, arrive, finish, leave, done, renew, renewed, own_budget, spare_of, runs, burns, nothing, Portion, portion, use_of, spend, ran, later, charge}
use Rattle.rules.specs.Places.{entry_of}
use Rattle.promises.specs.Promises.{NoneBy, Earliest, NobodyCan, Fair}
use Rattle.promises.proofs.Keeping.{entry-join, entry-finish, entry-renew, entry-ran}
use Rattle.promises.proofs.Owed.{held, Sorted, held_none, held_spend, sorted_spend, sorted_leave, owed, Fine, Set, owed_later, owed_join, owed_renew, owed_finish, owed_ran, owed_paid, Ahead, owed_ahead, Late, owed_late}

-- an arrival, a completion, or a tick that takes any fair portion after its step 1
pub data Legal (m : Model) : Model → Type 0 where
  arriving : (i : ℕ) → Legal m (arrive i m)
  finishing : (i : ℕ) → Legal m (done i m)
  ticking : (p : Portion) → Fair (renewed m).guests (renewed m).spares p → Legal m (charge 1 (use_of p) (renewed m))

-- the states of such runs
pub data Reach (start : Model) : Model → Type 0 where
  here : Reach start start
  on : {m n : Model} → Reach start m → Legal m n → Reach start n

-- ---- the invariant

-- the guests' table lets them be issued at most x in any x ticks; for every D not behind, what is owed by D fits the time till then
pub record Kept (m : Model) : Type 0 where
  pub table : (x : ℕ) → total (share_of x) (map entry_of m.guests) ≤ x
  pub demand : (D : ℕ) → m.now ≤ D → total (held D) m.spares + total (owed m.now D) m.guests ≤ D - m.now
  pub fine : All (Fine m.now) m.guests
  pub sorted : Sorted 0 m.spares

-- ---- arrive

fine_join : (now : ℕ) (g : Guest) → Fine now g → Fine now (join now g)
fine_join now (guest Q T zero c d own borrowed) p = omega arith
fine_join now (guest Q T (suc jobs) c d own borrowed) p = p

owes_join : (now D i : ℕ) {gs : List Guest} → All (Fine now) gs → total (owed now D) (changed i (join now) gs) ≤ total (owed now D) gs
owes_join now D i none = omega arith
owes_join now D zero (each {x = g} p ps) = omega (arith, owed_join now D g p)
owes_join now D (suc i) (each p ps) = omega (arith, owes_join now D i ps)

arrive-kept : (i : ℕ) (m : Model) → Kept m → Kept (arrive i m)
unfolding arrive
arrive-kept i m k =
    record {
      table = λ x. rw (map_changed entry_of (join m.now) (entry-join m.now) i m.guests) (k.table x);
      demand = λ D l. omega (arith, owes_join m.now D i k.fine, k.demand D l);
      fine = all_changed no_guest i (join m.now) k.fine (λ p. fine_join m.now (guest_at i m.guests) p);
      sorted = k.sorted;
    }

-- ---- done

fine_finish : (now : ℕ) (g : Guest) → Fine now g → Fine now (finish g)
fine_finish now (guest Q T zero c d own borrowed) p = p
fine_finish now (guest Q T (suc zero) c d own borrowed) p = (p.0, p.1, refl)
fine_finish now (guest Q T (suc (suc jobs)) c d own borrowed) p = p

owes_finish : (now D owner i : ℕ) (gs : List Guest) (ss : List Spare)
    → total (held D) (leave owner (guest_at i gs) ss) + total (owed now D) (changed i finish gs) ≤ total (held D) ss + total (owed now D) gs
owes_finish now D owner i [] ss = omega arith
owes_finish now D owner zero (g ∷ gs) ss = omega (arith, owed_finish now D owner g ss)
owes_finish now D owner (suc i) (g ∷ gs) ss = omega (arith, owes_finish now D owner i gs ss)

done-kept : (i : ℕ) (m : Model) → Kept m → Kept (done i m)
unfolding done
done-kept i m k =
    record {
      table = λ x. rw (map_changed entry_of finish entry-finish i m.guests) (k.table x);
      demand = λ D l. omega (arith, owes_finish m.now D i i m.guests m.spares, k.demand D l);
      fine = all_changed no_guest i finish k.fine (λ p. fine_finish m.now (guest_at i m.guests) p);
      sorted = sorted_leave i (guest_at i m.guests) m.spares k.sorted;
    }

-- ---- one tick

set-renew : (now : ℕ) (g : Guest) → Fine now g → Set now (renew g)
set-renew now (guest Q T zero c d own borrowed) p = p
set-renew now (guest zero T (suc jobs) zero d own borrowed) p = absurd (omega arith)
set-renew now (guest (suc Q) T (suc jobs) zero d own borrowed) p = omega arith
set-renew now (guest Q T (suc jobs) (suc c) d own borrowed) p = p

-- what an active guest holds is ahead, so its deadline is not behind at the next tick
fine_next : (now : ℕ) (g : Guest) → Set now g → Ahead now g → Fine (now + 1) g
fine_next now (guest Q T zero c d own borrowed) p a = p
fine_next now (guest Q T (suc jobs) zero d own borrowed) p a = omega arith
fine_next now (guest Q T (suc jobs) (suc c) d own borrowed) p a = (p.0, p.1, omega (arith, a (omega arith)))

fine_ran : (n k now : ℕ) (g : Guest) → Fine now g → Fine now (ran n k g)
fine_ran n k now (guest Q T zero c d own borrowed) p = omega arith
fine_ran n k now (guest Q T (suc jobs) c d own borrowed) p = p

-- where whoever can run is past D, what is owed by D fits
pub owes_late : (now D : ℕ) {gs : List Guest} → All (Fine now) gs → All (Late D) gs → total (owed now D) gs ≤ total (share_of (D - now)) (map entry_of gs)
owes_late now D none none = omega arith
owes_late now D (each {x = g} p ps) (each a rest) = omega (arith, owed_late now D g p a, owes_late now D ps rest)

-- after step 1, with the facts of the tick's end
record Between (m : Model) : Type 0 where
  table : (x : ℕ) → total (share_of x) (map entry_of m.guests) ≤ x
  demand : (D : ℕ) → m.now ≤ D → total (held D) m.spares + total (owed m.now D) m.guests ≤ D - m.now
  fine : All (Fine (m.now + 1)) m.guests
  sorted : Sorted 0 m.spares

renewed_between : (m : Model) → Kept m → Between (renewed m)
unfolding renewed
renewed_between m k =
    let gs = map renew m.guests in
    let set : All (Set m.now) gs = all_map (Set m.now) renew (set-renew m.now) k.fine in
    let owes : (D : ℕ) → total (owed m.now D) gs ≤ total (owed m.now D) m.guests = λ D. total_map_le (owed m.now D) renew (all_imp (λ g p. owed_renew m.now D g p) k.fine) in
    let nothing-due : total (owed m.now m.now) gs ≤ 0 = omega (arith, owes m.now, k.demand m.now (omega arith)) in
    let ahead : All (Ahead m.now) gs = all_imp (λ g h. owed_ahead m.now g h) (total_none (owed m.now m.now) gs nothing-due) in
    record {
      table = λ x. rw (map_same entry_of renew entry-renew m.guests) (k.table x);
      demand = λ D l. omega (arith, owes D, k.demand D l);
      fine = all_imp (λ g p. fine_next m.now g p.0 p.1) (all_both set ahead);
      sorted = k.sorted;
    }

module _ (m : Model) (b : Between m) where
  -- one tick later no more is owed
  owes_later : (D : ℕ) → total (owed (m.now + 1) D) m.guests ≤ total (owed m.now D) m.guests
  owes_later D = total_le (owed (m.now + 1) D) (owed m.now D) (all_imp (λ g p. owed_later m.now D g p) b.fine)

  -- and what is owed by a D before whoever can run fits the time that is left
  owes_fits : (D : ℕ) → All (Late D) m.guests → total (owed (m.now + 1) D) m.guests ≤ D - (m.now + 1)
  owes_fits D a = omega (arith, owes_late (m.now + 1) D b.fine a, b.table (D - (m.now + 1)))

  -- a spare that nobody who can run comes before pays the tick
  spare_pays : (d owner c : ℕ) (rest : List Spare) → m.spares ≡ spare d owner c ∷ rest → (D : ℕ) → (D < d → All (Late D) m.guests) → m.now + 1 ≤ D
      → total (held D) (spend 1 m.spares) + total (owed (m.now + 1) D) m.guests ≤ D - (m.now + 1)
  spare_pays d owner c rest e D a l =
      let s : Sorted 0 (spare d owner c ∷ rest) = rw e at b.sorted in
      let h : total (held D) (spare d owner c ∷ rest) + total (owed m.now D) m.guests ≤ D - m.now = rw e at (b.demand D (omega arith)) in
      rw e
      (by_leb (λ t. total (held D) (spend 1 (spare d owner c ∷ rest)) + total (owed (m.now + 1) D) m.guests ≤ D - (m.now + 1)) d D
      (λ p. omega (arith, held_spend 1 D d owner c rest s.1 p, owes_later D))
      (λ p. omega (arith, held_none d D (spend 1 (spare d owner c ∷ rest)) (sorted_spend 1 d (spare d owner c ∷ rest) (omega arith, s.1, s.2)) p, owes_fits D (a p))))

  -- before a deadline that no spare comes up to, no spare is due
  none_due : (d D : ℕ) → D < d → NoneBy d m.spares → total (held D) m.spares ≡ 0
  none_due d D l h = go m.spares b.sorted h
    where
      go : (ss : List Spare) → Sorted 0 ss → NoneBy d ss → total (held D) ss ≡ 0
      go [] s h = refl
      go (spare e owner c ∷ ss) s h = held_none e D (spare e owner c ∷ ss) (omega arith, s.1, s.2) (omega arith)

  -- the earliest guest pays it
  guest_pays : (i : ℕ) → Earliest m.guests i → NoneBy (deadline_of (guest_at i m.guests)) m.spares → (D : ℕ) → (D < deadline_of (guest_at i m.guests) → All (Late D) m.guests) → m.now + 1 ≤ D
      → total (held D) m.spares + total (owed (m.now + 1) D) (changed i (ran 1 0) m.guests) ≤ D - (m.now + 1)
  guest_pays i f none_by D a l =
      let g = guest_at i m.guests in
      let change = total_changed no_guest (owed (m.now + 1) D) i (ran 1 0) m.guests f.place in
      by_leb (λ t. total (held D) m.spares + total (owed (m.now + 1) D) (changed i (ran 1 0) m.guests) ≤ D - (m.now + 1)) (deadline_of g) D
      (λ p. omega (arith, change, owed_paid (m.now + 1) D g f.can p, owes_later D, b.demand D (omega arith)))
      (λ p. omega (arith, change, owed_ran 1 0 (m.now + 1) D g, none_due (deadline_of g) D p none_by, owes_fits D (a p)))

  earliest_late : (i D : ℕ) → Earliest m.guests i → D < deadline_of (guest_at i m.guests) → All (Late D) m.guests
  earliest_late i D f l = all_from no_guest m.guests (λ k h c. omega (arith, f.smallest k c))

  nobody_late : (D : ℕ) → NobodyCan m.guests → All (Late D) m.guests
  nobody_late D h = all_from no_guest m.guests (λ k l c. never c (h k))

  -- a guest runs, and what is owed then is paid for
  run-kept : (n k i : ℕ) (ss : List Spare) → Sorted 0 ss → ((D : ℕ) → m.now + 1 ≤ D → total (held D) ss + total (owed (m.now + 1) D) (changed i (ran n k) m.guests) ≤ D - (m.now + 1))
      → Kept (later 1 m (changed i (ran n k) m.guests) ss m.burned m.empty)
  run-kept n k i ss sorted pays =
      record {
        table = λ x. rw (map_changed entry_of (ran n k) (entry-ran n k) i m.guests) (b.table x);
        demand = pays;
        fine = all_changed no_guest i (ran n k) b.fine (λ p. fine_ran n k (m.now + 1) (guest_at i m.guests) p);
        sorted = sorted;
      }

  charge-kept : (p : Portion) → Fair m.guests m.spares p → Kept (charge 1 (use_of p) m)
  charge-kept (portion (runs i own_budget) d span) f = run-kept 1 0 i m.spares b.sorted (λ D l. guest_pays i f.0 f.1 D (λ p. earliest_late i D f.0 p) l)
  charge-kept (portion (runs i (spare_of owner)) d span) f =
      run-kept 0 1 i (spend 1 m.spares) (sorted_spend 1 0 m.spares b.sorted)
      (λ D l. omega (arith, total_changed no_guest (owed (m.now + 1) D) i (ran 0 1) m.guests f.0.place, owed_ran 0 1 (m.now + 1) D (guest_at i m.guests), spare_pays d owner f.1.0 f.1.1.0 f.1.1.1 D (λ p. earliest_late i D f.0 (omega (arith, f.2))) l))
  charge-kept (portion (burns owner) d span) f =
      record {
        table = b.table;
        demand = λ D l. spare_pays d owner f.1.0 f.1.1.0 f.1.1.1 D (λ p. nobody_late D f.0) l;
        fine = b.fine;
        sorted = sorted_spend 1 0 m.spares b.sorted;
      }
  charge-kept (portion nothing d span) f =
      record {
        table = b.table;
        demand = λ D l. omega (arith, ap (total (held D)) f.1, owes_fits D (nobody_late D f.0));
        fine = b.fine;
        sorted = b.sorted;
      }

-- ---- every state of a legal run

pub legal_kept : {m n : Model} → Kept m → Legal m n → Kept n
legal_kept {m} k (arriving i) = arrive-kept i m k
legal_kept {m} k (finishing i) = done-kept i m k
legal_kept {m} k (ticking p f) = charge-kept (renewed m) (renewed_between m k) p f

pub reach_kept : {start m : Model} → Kept start → Reach start m → Kept m
reach_kept k here = k
reach_kept k (on r l) = legal_kept (reach_kept k r) l
