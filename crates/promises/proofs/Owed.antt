-- What is outstanding by a tick D: capacities with a deadline up to D, and what guests can still be issued by then.
use mathlib.Core.Path.{◌≡◌, refl, ap}
use mathlib.Core.Bool.{true, false, cond, ◌&&◌, ◌||◌}
use mathlib.Core.List.{List, [], ◌∷◌}
use Prim.Native.Nat.{ℕ, zero, suc, ◌+◌, ◌-◌, ◌*◌, ◌/◌, ◌≤◌, ◌<◌, ◌∣◌, max}
use native.Mathlib.Nat.{le_trans, mul-le-mul_left, mul-le-mul_right, le_of_mul-le-mul_left, div-mul-le_self, le-div_iff_mul-le, div-eq-sub-div, zero-div, mul-div_cancel'}
use native.Mathlib.Omega.{arith}
use lib.Dec.{leb, ltb, eqb}
use borrow.Author.Tests.{le-leb, lt-leb, ltb-false, eqb-true}
use Rattle.laws.specs.Lists.{total}
use Rattle.laws.proofs.Cases.{and_both, or_neither, never, by_test, by_leb, by_ltb}
use Rattle.laws.proofs.Elements.{All, none, each}
use Rattle.rules.specs.declared.Entry.{Entry}
use Rattle.rules.specs.Table.{share_of}
use Rattle.rules.specs.Model.{Guest, guest, Spare, spare, current_of, deadline_of, due_of, capacity_of}
use Rattle.rules.specs.Steps.{join, before, insert_spare, finish, leave, renew, spend, ran}
use Rattle.rules.specs.Places.{entry_of}
use Rattle.promises.specs.Promises.{can_run}
use Rattle.promises.proofs.GoodTable.{Fits}
use Rattle.promises.proofs.Keeping.{spend_either}

-- ---- a capacity by its deadline

-- c where d is at most D, and else 0
pub due : ℕ → ℕ → ℕ → ℕ
due d D c = cond (leb d D) c 0

pub due_in : (d D c : ℕ) → d ≤ D → due d D c ≡ c
unfolding due
due_in d D c h = rw (le-leb d D h)

pub due_out : (d D c : ℕ) → D < d → due d D c ≡ 0
unfolding due
due_out d D c h = rw (lt-leb d D h)

due_zero : (d D : ℕ) → due d D 0 ≡ 0
unfolding due
due_zero d D = by_leb (λ t. ◌≡◌ {A = ℕ} (cond t 0 0) 0) d D (λ h. refl) (λ h. refl)

due_less : (n d D c : ℕ) → due d D (c - n) ≤ due d D c
unfolding due
due_less n d D c = by_leb (λ t. cond t (c - n) 0 ≤ cond t c 0) d D (λ h. omega arith) (λ h. omega arith)

-- ---- the spares

pub held : ℕ → Spare → ℕ
held D x = due (due_of x) D (capacity_of x)

-- where nothing of it is due now, its deadline is ahead
pub held_ahead : (now : ℕ) (x : Spare) → held now x ≤ 0 → 0 < capacity_of x → now < due_of x
unfolding held
held_ahead now (spare d owner c) h k = by_leb (λ t. now < d) d now (λ l. omega (arith, due_in d now c l)) (λ l. omega arith)

-- a spare's place in the list does not matter to a sum
pub total_insert : (f : Spare → ℕ) (x : Spare) (ss : List Spare) → total f (insert_spare x ss) ≡ f x + total f ss
total_insert f x [] = refl
total_insert f x (y ∷ ys) =
    let rest = total_insert f x ys in
    by_test (λ t. total f (cond t (x ∷ y ∷ ys) (y ∷ insert_spare x ys)) ≡ f x + total f (y ∷ ys)) (before x y) (λ h. refl) (λ h. omega arith)

-- in order from `low` on, and none of them empty
abbrev pub Sorted : ℕ → List Spare → Type 0
Sorted low [] = Unit {0}
Sorted low (spare d owner c ∷ ss) = (low ≤ d) × (1 ≤ c) × Sorted d ss

sorted_down : (low lower : ℕ) (ss : List Spare) → lower ≤ low → Sorted low ss → Sorted lower ss
sorted_down low lower [] h s = tt
sorted_down low lower (spare d owner c ∷ ss) h s = (omega arith, s.1, s.2)

-- nothing is due before the first spare
pub held_none : (low D : ℕ) (ss : List Spare) → Sorted low ss → D < low → total (held D) ss ≡ 0
unfolding held
held_none low D [] s h = refl
held_none low D (spare d owner c ∷ ss) s h = omega (arith, due_out d D c (omega arith), held_none d D ss s.2 (omega arith))

-- the first spare loses n
pub held_spend : (n D d owner c : ℕ) (ss : List Spare) → n ≤ c → d ≤ D → total (held D) (spend n (spare d owner c ∷ ss)) + n ≤ total (held D) (spare d owner c ∷ ss)
unfolding held
held_spend n D d owner c ss l h =
    spend_either (λ xs. total (held D) xs + n ≤ due d D c + total (held D) ss) n d owner c ss
    (omega (arith, due_in d D c h)) (λ p. omega (arith, due_in d D c h, due_in d D (c - n) h))

pub sorted_spend : (n low : ℕ) (ss : List Spare) → Sorted low ss → Sorted low (spend n ss)
sorted_spend n low [] s = tt
sorted_spend n low (spare d owner c ∷ ss) s = spend_either (Sorted low) n d owner c ss (sorted_down d low ss s.0 s.2) (λ h. (s.0, omega arith, s.2))

-- what stands before has no later deadline
before_early : (d i c e k b : ℕ) → before (spare d i c) (spare e k b) ≡ true → d ≤ e
before_early d i c e k b h =
    by_ltb (λ t. t || eqb d e && ltb i k ≡ true → d ≤ e) d e (λ l g. omega arith)
    (λ l g. omega (arith, eqb-true d e (and_both (eqb d e) (ltb i k) g).0)) h

not_before_late : (d i c e k b : ℕ) → before (spare d i c) (spare e k b) ≡ false → e ≤ d
not_before_late d i c e k b h = ltb-false d e (or_neither (ltb d e) (eqb d e && ltb i k) h).0

sorted_insert : (low d i c : ℕ) (ss : List Spare) → low ≤ d → 1 ≤ c → Sorted low ss → Sorted low (insert_spare (spare d i c) ss)
sorted_insert low d i c [] l k s = (l, k, tt)
sorted_insert low d i c (spare e j b ∷ ss) l k s =
    let rest : e ≤ d → Sorted e (insert_spare (spare d i c) ss) = λ h. sorted_insert e d i c ss h k s.2 in
    by_test (λ t. Sorted low (cond t (spare d i c ∷ spare e j b ∷ ss) (spare e j b ∷ insert_spare (spare d i c) ss))) (before (spare d i c) (spare e j b))
    (λ h. (l, k, (before_early d i c e j b h, s.1, s.2))) (λ h. (s.0, s.1, rest (not_before_late d i c e j b h)))

pub sorted_leave : (i : ℕ) (g : Guest) (ss : List Spare) → Sorted 0 ss → Sorted 0 (leave i g ss)
sorted_leave i (guest Q T zero c d own borrowed) ss s = s
sorted_leave i (guest Q T (suc zero) zero d own borrowed) ss s = s
sorted_leave i (guest Q T (suc zero) (suc c) d own borrowed) ss s = sorted_insert 0 d i (suc c) ss (omega arith) (omega arith) s
sorted_leave i (guest Q T (suc (suc jobs)) c d own borrowed) ss s = s

-- ---- the guests

-- what a guest holds with a deadline up to D, and what it can still be issued by D: its next deadline is at least max now d + T
pub owed : ℕ → ℕ → Guest → ℕ
owed now D (guest Q T jobs c d own borrowed) = due d D c + Q * ((D - max now d) / T)

-- an idle guest holds nothing, and an active one's deadline is not behind
abbrev pub Fine : ℕ → Guest → Type 0
Fine now (guest Q T zero c d own borrowed) = (1 ≤ Q) × (1 ≤ T) × (c ≡ 0)
Fine now (guest Q T (suc jobs) c d own borrowed) = (1 ≤ Q) × (1 ≤ T) × (now ≤ d)

-- after step 1, who can't run has a deadline ahead
abbrev pub Set : ℕ → Guest → Type 0
Set now (guest Q T zero c d own borrowed) = (1 ≤ Q) × (1 ≤ T) × (c ≡ 0)
Set now (guest Q T (suc jobs) zero d own borrowed) = (1 ≤ Q) × (1 ≤ T) × (now < d)
Set now (guest Q T (suc jobs) (suc c) d own borrowed) = (1 ≤ Q) × (1 ≤ T) × (now ≤ d)

div-le : (T x y : ℕ) → 1 ≤ T → x ≤ y → x / T ≤ y / T
div-le T x y l h = (le-div_iff_mul-le l).1 (le_trans (div-mul-le_self x T) h)

-- time passes
pub owed_later : (now D : ℕ) (g : Guest) → Fine (now + 1) g → owed (now + 1) D g ≤ owed now D g
unfolding owed
owed_later now D (guest Q T zero c d own borrowed) p = omega (arith, mul-le-mul_left Q (div-le T (D - max (now + 1) d) (D - max now d) p.1 (omega arith)))
owed_later now D (guest Q T (suc jobs) c d own borrowed) p = omega (arith, mul-le-mul_left Q (div-le T (D - max (now + 1) d) (D - max now d) p.1 (omega arith)))

-- a new budget and a later deadline: no more is owed
refill : (now D Q T x : ℕ) → now ≤ x → 1 ≤ T → due (x + T) D Q + Q * ((D - max now (x + T)) / T) ≤ Q * ((D - x) / T)
refill now D Q T x h l =
    by_leb (λ t. due (x + T) D Q + Q * ((D - max now (x + T)) / T) ≤ Q * ((D - x) / T)) (x + T) D
    (λ p.
    let e : D - max now (x + T) ≡ D - x - T = omega arith in
    let k : T ≤ D - x = omega arith in
    rw (due_in, e, div-eq-sub-div {m = T} {n = D - x} l k) (omega arith))
    (λ p.
    let e : D - max now (x + T) ≡ 0 = omega arith in
    rw (due_out, e, zero-div) (omega arith))

pub owed_join : (now D : ℕ) (g : Guest) → Fine now g → owed now D (join now g) ≤ owed now D g
unfolding owed
owed_join now D (guest Q T zero c d own borrowed) p = omega (arith, refill now D Q T (max now d) (omega arith) p.1)
owed_join now D (guest Q T (suc jobs) c d own borrowed) p = omega arith

pub owed_renew : (now D : ℕ) (g : Guest) → Fine now g → owed now D (renew g) ≤ owed now D g
unfolding owed
owed_renew now D (guest Q T zero c d own borrowed) p = omega arith
owed_renew now D (guest Q T (suc jobs) zero d own borrowed) p =
    let f : max now d ≡ d = omega arith in
    rw f (omega (arith, refill now D Q T d p.2 p.1))
owed_renew now D (guest Q T (suc jobs) (suc c) d own borrowed) p = omega arith

-- what a guest leaves moves to a spare with its deadline
pub owed_finish : (now D i : ℕ) (g : Guest) (ss : List Spare) → total (held D) (leave i g ss) + owed now D (finish g) ≤ total (held D) ss + owed now D g
unfolding owed held
owed_finish now D i (guest Q T zero c d own borrowed) ss = omega arith
owed_finish now D i (guest Q T (suc zero) zero d own borrowed) ss = omega arith
owed_finish now D i (guest Q T (suc zero) (suc c) d own borrowed) ss = omega (arith, total_insert (held D) (spare d i (suc c)) ss, due_zero d D)
owed_finish now D i (guest Q T (suc (suc jobs)) c d own borrowed) ss = omega arith

-- to run: no more is owed
pub owed_ran : (n k now D : ℕ) (g : Guest) → owed now D (ran n k g) ≤ owed now D g
unfolding owed
owed_ran n k now D (guest Q T jobs c d own borrowed) = omega (arith, due_less n d D c)

-- and a tick on the own budget is paid
pub owed_paid : (now D : ℕ) (g : Guest) → can_run g ≡ true → deadline_of g ≤ D → owed now D (ran 1 0 g) + 1 ≤ owed now D g
unfolding owed
owed_paid now D (guest Q T zero c d own borrowed) h l = never h refl
owed_paid now D (guest Q T (suc jobs) zero d own borrowed) h l = never h refl
owed_paid now D (guest Q T (suc jobs) (suc c) d own borrowed) h l = omega (arith, due_in d D (suc c) l, due_in d D (suc c - 1) l)

-- at D = now nothing is due: what a guest holds is ahead
abbrev pub Ahead : ℕ → Guest → Type 0
Ahead now g = 0 < current_of g → now < deadline_of g

pub owed_ahead : (now : ℕ) (g : Guest) → owed now now g ≤ 0 → Ahead now g
unfolding owed
owed_ahead now (guest Q T jobs c d own borrowed) h k =
    by_leb (λ t. now < d) d now (λ l. omega (arith, due_in d now c l)) (λ l. omega arith)

-- where whoever can run is past D, only what can still be issued is left
abbrev pub Late : ℕ → Guest → Type 0
Late D g = can_run g ≡ true → D < deadline_of g

issued : (now D Q T d : ℕ) → 1 ≤ T → due d D 0 + Q * ((D - max now d) / T) ≤ Q * ((D - now) / T)
issued now D Q T d l = omega (arith, due_zero d D, mul-le-mul_left Q (div-le T (D - max now d) (D - now) l (omega arith)))

pub owed_late : (now D : ℕ) (g : Guest) → Fine now g → Late D g → owed now D g ≤ share_of (D - now) (entry_of g)
unfolding owed
owed_late now D (guest Q T zero c d own borrowed) p a = rw p.2 (issued now D Q T d p.1)
owed_late now D (guest Q T (suc jobs) zero d own borrowed) p a = issued now D Q T d p.1
owed_late now D (guest Q T (suc jobs) (suc c) d own borrowed) p a =
    let l : D < d = a refl in
    let f : D - max now d ≡ 0 = omega arith in
    rw (due_out, f, zero-div) (omega arith)

-- ---- the table: in any x ticks the guests are issued at most x

entry_bound : (H x Q T : ℕ) → T ∣ H → H * (Q * (x / T)) ≤ Q * (H / T) * x
entry_bound H x Q T h = omega (arith, mul-le-mul_left (Q * (H / T)) (div-mul-le_self x T), ap (λ (z : ℕ). z * (Q * (x / T))) (mul-div_cancel' T h))

shares_scaled : (H x : ℕ) {es : List Entry} → All (Fits H) es → H * total (share_of x) es ≤ total (share_of H) es * x
shares_scaled H x none = omega arith
shares_scaled H x (each {x = e} p ps) = omega (arith, entry_bound H x e.budget e.period p.divides, shares_scaled H x ps)

pub shares_bound : (H : ℕ) → 1 ≤ H → (es : List Entry) → All (Fits H) es → total (share_of H) es ≤ H → (x : ℕ) → total (share_of x) es ≤ x
shares_bound H l es ps h x =
    le_of_mul-le-mul_left {m = total (share_of x) es} {n = x} {k = H} (omega (arith, shares_scaled H x ps, mul-le-mul_right x h)) l
