-- Each step keeps the facts of a sound state.
use mathlib.Core.Path.{◌≡◌, refl, ap, sym, ◌∙◌}
use mathlib.Core.Bool.{true, false, cond, ◌&&◌, ◌||◌}
use mathlib.Core.List.{List, [], ◌∷◌, map}
use Prim.Native.Nat.{ℕ, zero, suc, ◌+◌, ◌-◌, ◌≤◌, ◌<◌, max}
use native.Mathlib.Omega.{arith}
use lib.Dec.{ltb, eqb}
use lib.ListN.{length, length-map}
use borrow.Author.Tests.{ltb-false, eqb-false, lt-ltb, eq-eqb}
use Rattle.laws.specs.Lists.{total, changed, padded}
use Rattle.laws.proofs.Cases.{and_both, and_intro, or_neither, never, by_test, by_leb, by_ltb}
use Rattle.laws.proofs.Elements.{All, none, each, all_at, all_map, all_imp, all_changed, length_changed, map_changed, map_same, total_map, total_changed, at_changed, at_map, at_same}
use Rattle.rules.specs.Limits.{guest_places, spare_places, most_jobs, last_tick, deadline_cap, deadline_bound}
use Rattle.rules.specs.Table.{no_entry, good_table}
use Rattle.rules.specs.Model.{Guest, guest, Spare, spare, Model, jobs_of, deadline_of, tallies_of, due_of, owner_of, active, idle_guest, no_guest, guest_at, bit_of, active_count, occupied, tallies}
use Rattle.rules.specs.Steps.{wake, join, arrive, before, insert_spare, finish, leave, done, renew, renewed, own_budget, spare_of, Use, runs, burns, nothing, Portion, portion, use_of, next, spend, ran, later, charge, serve, tick}
use Rattle.rules.specs.Places.{entry_of, table_of}
use Rattle.rules.specs.Sound.{rising}
use Rattle.promises.specs.Promises.{Uses}
use Rattle.promises.proofs.Choosing.{next-uses}
use Rattle.promises.proofs.Facts.{Served, Covers, GuestGood, SpareGood, Sane}

-- ---- what stays of the table

-- a model's table is its frame and the entries of its guests
table_same : (m n : Model) → n.frame ≡ m.frame → map entry_of n.guests ≡ map entry_of m.guests → table_of n ≡ table_of m
unfolding table_of
table_same m n f e =
    let count : length n.guests ≡ length m.guests = sym (length-map n.guests entry_of) ∙ ap length e ∙ length-map m.guests entry_of in
    λ i. record { frame = f i; count = count i; entries = padded guest_places no_entry (e i) }

-- the spares of guests of whom one, or each, is changed to cover no less
spares_changed : (bound i : ℕ) (f : Guest → Guest) (gs : List Guest) → ((x : Spare) → Covers (guest_at i gs) x → Covers (f (guest_at i gs)) x) → {ss : List Spare} → All (SpareGood bound gs) ss → All (SpareGood bound (changed i f gs)) ss
spares_changed bound i f gs g ps =
    all_imp
    (λ x p. record {
      owned = rw (length_changed i f gs) p.owned;
      covered = at_changed (λ h. Covers h x) no_guest i (owner_of x) f gs p.owned p.covered (g x);
      early = p.early;
    })
    ps

spares_map : (low high : ℕ) (f : Guest → Guest) → low ≤ high → (gs : List Guest) → ((h : Guest) (x : Spare) → Served h → Covers h x → Covers (f h) x) → All Served gs → {ss : List Spare} → All (SpareGood low gs) ss → All (SpareGood high (map f gs)) ss
spares_map low high f l gs g vs ps =
    all_imp
    (λ x p. record {
      owned = rw (length-map gs f) p.owned;
      covered = rw (at_map no_guest (owner_of x) f gs p.owned) (g (guest_at (owner_of x) gs) x (all_at vs no_guest (owner_of x) p.owned) p.covered);
      early = omega (arith, p.early);
    })
    ps

-- ---- arrive

pub entry-join : (now : ℕ) (g : Guest) → entry_of (join now g) ≡ entry_of g
entry-join now (guest Q T zero c d own borrowed) = refl
entry-join now (guest Q T (suc jobs) c d own borrowed) = refl

tallies-join : (now : ℕ) (g : Guest) → tallies_of (join now g) ≡ tallies_of g
tallies-join now (guest Q T zero c d own borrowed) = refl
tallies-join now (guest Q T (suc jobs) c d own borrowed) = refl

covers_join : (now : ℕ) (g : Guest) → Served g → (x : Spare) → Covers g x → Covers (join now g) x
covers_join now (guest Q T zero c d own borrowed) v (spare e owner b) p = omega arith
covers_join now (guest Q T (suc jobs) c d own borrowed) v (spare e owner b) p = p

-- what the rows of an arrival leave: 4, 5 and 6 do not hold
pub record MayArrive (m : Model) (i : ℕ) : Type 0 where
  pub named : i < length m.guests
  pub jobs : eqb (jobs_of (guest_at i m.guests)) most_jobs ≡ false
  pub room : idle_guest (guest_at i m.guests) && eqb (occupied m) spare_places ≡ false
  pub early : idle_guest (guest_at i m.guests) && ltb deadline_cap (deadline_of (wake m.now (guest_at i m.guests))) ≡ false

good_join : (now : ℕ) (g : Guest) → GuestGood (deadline_bound now) g → eqb (jobs_of g) most_jobs ≡ false → idle_guest g && ltb deadline_cap (deadline_of (wake now g)) ≡ false → GuestGood (deadline_bound now) (join now g)
good_join now (guest Q T zero c d own borrowed) p j e =
    record { served = p.served; range = omega (arith, p.served); early = omega (arith, ltb-false deadline_cap (max now d + T) e) }
good_join now (guest Q T (suc jobs) c d own borrowed) p j e =
    let n : suc jobs ≡ most_jobs → ⊥ = eqb-false (suc jobs) most_jobs j in
    record { served = p.served; range = more jobs c Q n p.range; early = p.early }
  where
    more : (jobs c Q : ℕ) → (suc jobs ≡ most_jobs → ⊥) → (suc jobs ≤ most_jobs) × (c ≤ Q) → (suc (suc jobs) ≤ most_jobs) × (c ≤ Q)
    more jobs c Q n r = omega arith

-- "spares plus active guests are at most 64"
room_join : (now total' total spares : ℕ) (g : Guest) → total' + bit_of g ≡ total + bit_of (join now g) → idle_guest g && eqb (spares + total) spare_places ≡ false → spares + total ≤ spare_places → spares + total' ≤ spare_places
room_join now total' total spares (guest Q T zero c d own borrowed) e h l =
    let n : spares + total ≡ spare_places → ⊥ = eqb-false (spares + total) spare_places h in
    omega arith
room_join now total' total spares (guest Q T (suc jobs) c d own borrowed) e h l = omega arith

pub arrive_sane : (i : ℕ) (m : Model) → MayArrive m i → Sane m → Sane (arrive i m)
unfolding arrive
arrive_sane i m may s =
    let gs = m.guests in
    let g = guest_at i gs in
    let f = join m.now in
    record {
      table = rw (table_same m (arrive i m) refl (map_changed entry_of f (entry-join m.now) i gs)) s.table;
      time = s.time;
      guests = all_changed no_guest i f s.guests (λ p. good_join m.now g p may.jobs may.early);
      spares = spares_changed (deadline_bound m.now) i f gs (covers_join m.now g (all_at s.guests no_guest i may.named).served) s.spares;
      tally = omega (arith, s.tally, total_changed no_guest tallies_of i f gs may.named, tallies-join m.now g);
      order = s.order;
      room = room_join m.now (active_count (changed i f gs)) (active_count gs) (length m.spares) g (total_changed no_guest bit_of i f gs may.named) may.room s.room;
    }

-- ---- the order of the spares

-- two spares of one owner have different deadlines, the second's smaller
abbrev Apart : Spare → Spare → Type 0
Apart x y = owner_of y ≡ owner_of x → due_of y < due_of x

-- of two spares apart one stands before the other
apart_before : (x y : Spare) → Apart x y → before x y ≡ false → before y x ≡ true
apart_before (spare d i c) (spare e k b) a h =
    let n = or_neither (ltb d e) (eqb d e && ltb i k) h in
    let l : e ≤ d = ltb-false d e n.0 in
    by_ltb (λ t. t || eqb e d && ltb k i ≡ true) e d (λ p. refl)
    (λ p.
    let q : d ≡ e = omega arith in
    let w : k ≤ i = ltb-false i k (rw (eq-eqb d e q) at n.1) in
    let u : k ≡ i → ⊥ = λ r. apart q (a r) in
    and_intro (eq-eqb e d (sym q)) (lt-ltb k i (omega arith)))
  where
    apart : d ≡ e → e < d → ⊥
    apart q p = omega arith

module _ (x : Spare) where
  all_insert : {P : Spare → Type 0} → P x → {ss : List Spare} → All P ss → All P (insert_spare x ss)
  all_insert p none = each p none
  all_insert {P} p (each {x = y} {xs = ys} q qs) =
      by_test (λ t. All P (cond t (x ∷ y ∷ ys) (y ∷ insert_spare x ys))) (before x y) (λ h. each p (each q qs)) (λ h. each q (all_insert p qs))

  pub length_insert : (ss : List Spare) → length (insert_spare x ss) ≡ suc (length ss)
  length_insert [] = refl
  length_insert (y ∷ ys) =
      by_test (λ t. length (cond t (x ∷ y ∷ ys) (y ∷ insert_spare x ys)) ≡ suc (suc (length ys))) (before x y) (λ h. refl) (λ h. ap suc (length_insert ys))

  -- whatever the first of the spares behind y, y stands before it
  insert_behind : (y z : Spare) (zs : List Spare) → before y x ≡ true → before y z ≡ true → rising (insert_spare x (z ∷ zs)) ≡ true → rising (y ∷ insert_spare x (z ∷ zs)) ≡ true
  insert_behind y z zs p q =
      by_test (λ t. rising (cond t (x ∷ z ∷ zs) (z ∷ insert_spare x zs)) ≡ true → rising (y ∷ cond t (x ∷ z ∷ zs) (z ∷ insert_spare x zs)) ≡ true) (before x z)
      (λ h r. and_intro p r) (λ h r. and_intro q r)

  insert_rising : {ss : List Spare} → All (Apart x) ss → rising ss ≡ true → rising (insert_spare x ss) ≡ true
  insert_rising none r = refl
  insert_rising (each {x = y} a none) r =
      by_test (λ t. rising (cond t (x ∷ y ∷ []) (y ∷ x ∷ [])) ≡ true) (before x y) (λ h. and_intro h refl) (λ h. and_intro (apart_before x y a h) refl)
  insert_rising (each {x = y} a (each {x = z} {xs = zs} b bs)) r =
      let w = and_both (before y z) (rising (z ∷ zs)) r in
      by_test (λ t. rising (cond t (x ∷ y ∷ z ∷ zs) (y ∷ insert_spare x (z ∷ zs))) ≡ true) (before x y) (λ h. and_intro h r)
      (λ h. insert_behind y z zs (apart_before x y a h) w.0 (insert_rising (each b bs) w.1))

-- ---- done

pub entry-finish : (g : Guest) → entry_of (finish g) ≡ entry_of g
entry-finish (guest Q T zero c d own borrowed) = refl
entry-finish (guest Q T (suc zero) c d own borrowed) = refl
entry-finish (guest Q T (suc (suc jobs)) c d own borrowed) = refl

tallies-finish : (g : Guest) → tallies_of (finish g) ≡ tallies_of g
tallies-finish (guest Q T zero c d own borrowed) = refl
tallies-finish (guest Q T (suc zero) c d own borrowed) = refl
tallies-finish (guest Q T (suc (suc jobs)) c d own borrowed) = refl

good_finish : (bound : ℕ) (g : Guest) → GuestGood bound g → GuestGood bound (finish g)
good_finish bound (guest Q T zero c d own borrowed) p = p
good_finish bound (guest Q T (suc zero) c d own borrowed) p = record { served = p.served; range = refl; early = p.early }
good_finish bound (guest Q T (suc (suc jobs)) c d own borrowed) p = record { served = p.served; range = omega (arith, p.range); early = p.early }

covers_finish : (g : Guest) (x : Spare) → Covers g x → Covers (finish g) x
covers_finish (guest Q T zero c d own borrowed) (spare e owner b) p = p
covers_finish (guest Q T (suc zero) c d own borrowed) (spare e owner b) p = omega arith
covers_finish (guest Q T (suc (suc jobs)) c d own borrowed) (spare e owner b) p = p

-- the leftover is covered by the guest that went idle
leave_good : (bound i : ℕ) (gs : List Guest) (g : Guest) → i < length gs → GuestGood bound g → ((x : Spare) → Covers (finish g) x → Covers (guest_at i gs) x) → {ss : List Spare} → All (SpareGood bound gs) ss → All (SpareGood bound gs) (leave i g ss)
leave_good bound i gs (guest Q T zero c d own borrowed) h p v ps = ps
leave_good bound i gs (guest Q T (suc zero) zero d own borrowed) h p v ps = ps
leave_good bound i gs (guest Q T (suc zero) (suc c) d own borrowed) h p v ps =
    all_insert (spare d i (suc c)) (record { owned = h; covered = v (spare d i (suc c)) (omega (arith, p.range)); early = p.early }) ps
leave_good bound i gs (guest Q T (suc (suc jobs)) c d own borrowed) h p v ps = ps

-- an active guest's spares have smaller deadlines
due_below : (g : Guest) (y : Spare) → active g ≡ true → Covers g y → due_of y < deadline_of g
due_below (guest Q T zero c d own borrowed) (spare e owner b) h p = never h refl
due_below (guest Q T (suc jobs) c d own borrowed) (spare e owner b) h p = p.2

leave-rising : (i : ℕ) (g : Guest) {ss : List Spare} → All (λ y. owner_of y ≡ i → Covers g y) ss → rising ss ≡ true → rising (leave i g ss) ≡ true
leave-rising i (guest Q T zero c d own borrowed) a r = r
leave-rising i (guest Q T (suc zero) zero d own borrowed) a r = r
leave-rising i (guest Q T (suc zero) (suc c) d own borrowed) a r = insert_rising (spare d i (suc c)) (all_imp (λ y h e. due_below (guest Q T 1 (suc c) d own borrowed) y refl (h e)) a) r
leave-rising i (guest Q T (suc (suc jobs)) c d own borrowed) a r = r

-- where a leftover takes a place, a guest gives one up
leave_room : (i total' total : ℕ) (g : Guest) (ss : List Spare) → total' + bit_of g ≡ total + bit_of (finish g) → length ss + total ≤ spare_places → length (leave i g ss) + total' ≤ spare_places
leave_room i total' total (guest Q T zero c d own borrowed) ss e l = omega arith
leave_room i total' total (guest Q T (suc zero) zero d own borrowed) ss e l = omega arith
leave_room i total' total (guest Q T (suc zero) (suc c) d own borrowed) ss e l = omega (arith, length_insert (spare d i (suc c)) ss)
leave_room i total' total (guest Q T (suc (suc jobs)) c d own borrowed) ss e l = omega arith

pub done_sane : (i : ℕ) (m : Model) → i < length m.guests → Sane m → Sane (done i m)
unfolding done
done_sane i m h s =
    let gs = m.guests in
    let g = guest_at i gs in
    let bound = deadline_bound m.now in
    record {
      table = rw (table_same m (done i m) refl (map_changed entry_of finish entry-finish i gs)) s.table;
      time = s.time;
      guests = all_changed no_guest i finish s.guests (λ p. good_finish bound g p);
      spares = leave_good bound i (changed i finish gs) g (rw (length_changed i finish gs) h) (all_at s.guests no_guest i h) (λ x p. rw (at_same no_guest i finish gs h) p) (spares_changed bound i finish gs (covers_finish g) s.spares);
      tally = omega (arith, s.tally, total_changed no_guest tallies_of i finish gs h, tallies-finish g);
      order = leave-rising i g (all_imp (λ y p e. rw e at p.covered) s.spares) s.order;
      room = leave_room i (active_count (changed i finish gs)) (active_count gs) g m.spares (total_changed no_guest bit_of i finish gs h) s.room;
    }

-- ---- who runs is a guest

abbrev pub Names : ℕ → Use → Type 0
Names n (runs i source) = i < n
Names n (burns owner) = Unit {0}
Names n nothing = Unit {0}

uses_names : (gs : List Guest) (ss : List Spare) (p : Portion) → Uses gs ss p → Names (length gs) (use_of p)
uses_names gs ss (portion (runs i own_budget) d span) u = u.0.place
uses_names gs ss (portion (runs i (spare_of owner)) d span) u = u.0.place
uses_names gs ss (portion (burns owner) d span) u = tt
uses_names gs ss (portion nothing d span) u = tt

-- whoever the next tick runs is one of the guests
pub next_names : (m : Model) → Names (length m.guests) (use_of (next m))
next_names m = uses_names m.guests m.spares (next m) (next-uses m)

-- ---- one tick

pub entry-renew : (g : Guest) → entry_of (renew g) ≡ entry_of g
entry-renew (guest Q T zero c d own borrowed) = refl
entry-renew (guest Q T (suc jobs) zero d own borrowed) = refl
entry-renew (guest Q T (suc jobs) (suc c) d own borrowed) = refl

pub tallies-renew : (g : Guest) → tallies_of (renew g) ≡ tallies_of g
tallies-renew (guest Q T zero c d own borrowed) = refl
tallies-renew (guest Q T (suc jobs) zero d own borrowed) = refl
tallies-renew (guest Q T (suc jobs) (suc c) d own borrowed) = refl

pub bit-renew : (g : Guest) → bit_of (renew g) ≡ bit_of g
bit-renew (guest Q T zero c d own borrowed) = refl
bit-renew (guest Q T (suc jobs) zero d own borrowed) = refl
bit-renew (guest Q T (suc jobs) (suc c) d own borrowed) = refl

covers_renew : (g : Guest) (x : Spare) → Served g → Covers g x → Covers (renew g) x
covers_renew (guest Q T zero c d own borrowed) (spare e owner b) v p = p
covers_renew (guest Q T (suc jobs) zero d own borrowed) (spare e owner b) v p = omega arith
covers_renew (guest Q T (suc jobs) (suc c) d own borrowed) (spare e owner b) v p = p

-- a period is below 2^20, by which the bound grows with each tick
good_renew : (now : ℕ) (g : Guest) → GuestGood (deadline_bound now) g → GuestGood (deadline_bound (now + 1)) (renew g)
good_renew now (guest Q T zero c d own borrowed) p = record { served = p.served; range = p.range; early = omega (arith, p.early) }
good_renew now (guest Q T (suc jobs) zero d own borrowed) p =
    record { served = p.served; range = omega (arith, p.range); early = omega (arith, p.early, p.served) }
good_renew now (guest Q T (suc jobs) (suc c) d own borrowed) p = record { served = p.served; range = p.range; early = omega (arith, p.early) }

-- ---- to run changes neither the entry nor who is active, covers as much, and counts each tick

pub entry-ran : (n k : ℕ) (g : Guest) → entry_of (ran n k g) ≡ entry_of g
entry-ran n k (guest Q T jobs c d own borrowed) = refl

pub bit-ran : (n k : ℕ) (g : Guest) → bit_of (ran n k g) ≡ bit_of g
bit-ran n k (guest Q T zero c d own borrowed) = refl
bit-ran n k (guest Q T (suc jobs) c d own borrowed) = refl

covers_ran : (n k : ℕ) (g : Guest) (x : Spare) → Covers g x → Covers (ran n k g) x
covers_ran n k (guest Q T zero c d own borrowed) (spare e owner b) p = p
covers_ran n k (guest Q T (suc jobs) c d own borrowed) (spare e owner b) p = p

pub tallies-ran : (n k : ℕ) (g : Guest) → tallies_of (ran n k g) ≡ tallies_of g + (n + k)
tallies-ran n k (guest Q T jobs c d own borrowed) = omega arith

good_ran : (n k bound : ℕ) (g : Guest) → GuestGood bound g → GuestGood bound (ran n k g)
good_ran n k bound (guest Q T zero c d own borrowed) p = record { served = p.served; range = omega (arith, p.range); early = p.early }
good_ran n k bound (guest Q T (suc jobs) c d own borrowed) p = record { served = p.served; range = omega (arith, p.range); early = p.early }

-- ---- the first spare loses n, and at 0 is removed

-- what holds of the spares behind the first, and of the first with less in it
pub spend_either : (P : List Spare → Type 0) (n d owner c : ℕ) (ss : List Spare) → P ss → (n < c → P (spare d owner (c - n) ∷ ss)) → P (spend n (spare d owner c ∷ ss))
spend_either P n d owner c ss p q = by_leb (λ t. P (cond t ss (spare d owner (c - n) ∷ ss))) c n (λ h. p) (λ h. q h)

covers_less : (n d owner c : ℕ) (g : Guest) → n < c → Covers g (spare d owner c) → Covers g (spare d owner (c - n))
covers_less n d owner c (guest Q T zero b e own borrowed) h p = omega arith
covers_less n d owner c (guest Q T (suc jobs) b e own borrowed) h p = omega arith

spend_good : (n bound : ℕ) (gs : List Guest) {ss : List Spare} → All (SpareGood bound gs) ss → All (SpareGood bound gs) (spend n ss)
spend_good n bound gs none = none
spend_good n bound gs (each {x = spare d owner c} {xs = ss} p ps) =
    spend_either (All (SpareGood bound gs)) n d owner c ss ps
    (λ h. each {x = spare d owner (c - n)} (record { owned = p.owned; covered = covers_less n d owner c (guest_at owner gs) h p.covered; early = p.early }) ps)

rising_tail : (x : Spare) (ss : List Spare) → rising (x ∷ ss) ≡ true → rising ss ≡ true
rising_tail x [] r = refl
rising_tail x (y ∷ ys) r = (and_both (before x y) (rising (y ∷ ys)) r).1

rising_less : (d owner b c : ℕ) (ss : List Spare) → rising (spare d owner b ∷ ss) ≡ true → rising (spare d owner c ∷ ss) ≡ true
rising_less d owner b c [] r = refl
rising_less d owner b c (spare e k a ∷ ss) r = r

spend-rising : (n : ℕ) (ss : List Spare) → rising ss ≡ true → rising (spend n ss) ≡ true
spend-rising n [] r = refl
spend-rising n (spare d owner c ∷ ss) r = spend_either (λ l. rising l ≡ true) n d owner c ss (rising_tail (spare d owner c) ss r) (λ h. rising_less d owner c (c - n) ss r)

spend-length : (n : ℕ) (ss : List Spare) → length (spend n ss) ≤ length ss
spend-length n [] = omega arith
spend-length n (spare d owner c ∷ ss) = spend_either (λ l. length l ≤ suc (length ss)) n d owner c ss (omega arith) (λ h. omega arith)

-- the facts between step 1 and step 3, with the bound of the tick's end
record Renewed (m : Model) : Type 0 where
  table : good_table (table_of m) ≡ true
  time : m.now + 1 ≤ last_tick
  guests : All (GuestGood (deadline_bound (m.now + 1))) m.guests
  spares : All (SpareGood (deadline_bound (m.now + 1)) m.guests) m.spares
  tally : tallies m ≡ m.now
  order : rising m.spares ≡ true
  room : occupied m ≤ spare_places

renewed_sane : (m : Model) → m.now + 1 ≤ last_tick → Sane m → Renewed (renewed m)
unfolding renewed
renewed_sane m h s =
    let gs = m.guests in
    record {
      table = rw (table_same m (renewed m) refl (map_same entry_of renew entry-renew gs)) s.table;
      time = h;
      guests = all_map (GuestGood (deadline_bound (m.now + 1))) renew (good_renew m.now) s.guests;
      spares = spares_map (deadline_bound m.now) (deadline_bound (m.now + 1)) renew (omega arith) gs covers_renew (all_imp (λ g p. p.served) s.guests) s.spares;
      tally = omega (arith, s.tally, total_map tallies_of renew tallies-renew gs);
      order = s.order;
      room = omega (arith, s.room, total_map bit_of renew bit-renew gs);
    }

-- a guest runs, on its own budget or on a spare
run_sane : (n k : ℕ) → n + k ≡ 1 → (i : ℕ) (m : Model) → i < length m.guests → (ss : List Spare) → length ss ≤ length m.spares → rising ss ≡ true → All (SpareGood (deadline_bound (m.now + 1)) m.guests) ss → Renewed m → Sane (later 1 m (changed i (ran n k) m.guests) ss m.burned m.empty)
run_sane n k one i m h ss l o ps s =
    let gs = m.guests in
    let g = guest_at i gs in
    record {
      table = rw (table_same m (later 1 m (changed i (ran n k) gs) ss m.burned m.empty) refl (map_changed entry_of (ran n k) (entry-ran n k) i gs)) s.table;
      time = s.time;
      guests = all_changed no_guest i (ran n k) s.guests (λ p. good_ran n k (deadline_bound (m.now + 1)) g p);
      spares = spares_changed (deadline_bound (m.now + 1)) i (ran n k) gs (covers_ran n k g) ps;
      tally = omega (arith, s.tally, total_changed no_guest tallies_of i (ran n k) gs h, tallies-ran n k g);
      order = o;
      room = omega (arith, s.room, total_changed no_guest bit_of i (ran n k) gs h, bit-ran n k g);
    }

-- nobody runs
rest_sane : (m : Model) (ss : List Spare) (burned empty : ℕ) → length ss ≤ length m.spares → rising ss ≡ true → All (SpareGood (deadline_bound (m.now + 1)) m.guests) ss → burned + empty ≡ m.burned + m.empty + 1 → Renewed m → Sane (later 1 m m.guests ss burned empty)
rest_sane m ss burned empty l o ps e s =
    record {
      table = rw (table_same m (later 1 m m.guests ss burned empty) refl refl) s.table;
      time = s.time;
      guests = s.guests;
      spares = ps;
      tally = omega (arith, s.tally);
      order = o;
      room = omega (arith, s.room);
    }

module _ (m : Model) (s : Renewed m) where
  spent_length : length (spend 1 m.spares) ≤ length m.spares
  spent_length = spend-length 1 m.spares

  spent_rising : rising (spend 1 m.spares) ≡ true
  spent_rising = spend-rising 1 m.spares s.order

  spent_good : All (SpareGood (deadline_bound (m.now + 1)) m.guests) (spend 1 m.spares)
  spent_good = spend_good 1 _ m.guests s.spares

  charge_sane : (u : Use) → Names (length m.guests) u → Sane (charge 1 u m)
  charge_sane (runs i own_budget) h = run_sane 1 0 refl i m h m.spares (omega arith) s.order s.spares s
  charge_sane (runs i (spare_of owner)) h = run_sane 0 1 refl i m h (spend 1 m.spares) spent_length spent_rising spent_good s
  charge_sane (burns owner) h = rest_sane m (spend 1 m.spares) (m.burned + 1) m.empty spent_length spent_rising spent_good (omega arith) s
  charge_sane nothing h = rest_sane m m.spares m.burned (m.empty + 1) (omega arith) s.order s.spares (omega arith) s

pub tick_sane : (m : Model) → m.now + 1 ≤ last_tick → Sane m → Sane (tick m)
unfolding tick serve
tick_sane m h s = charge_sane (renewed m) (renewed_sane m h s) (use_of (next (renewed m))) (next_names (renewed m))
