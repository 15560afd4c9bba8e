-- The ticks that stay on one portion are one charge; and so what its span promises: it holds, and it ends.
use mathlib.Core.Path.{◌≡◌, refl, sym, ap, ap₂, ◌∙◌}
use mathlib.Core.Bool.{true, cond}
use mathlib.Core.List.{List, [], ◌∷◌, map}
use Prim.Native.Nat.{ℕ, zero, suc, ◌+◌, ◌-◌, ◌≤◌, ◌<◌}
use native.Mathlib.Nat.{add_assoc, sub-zero, sub_self, sub-add-eq}
use native.Mathlib.Numerals.{add-one}
use native.Mathlib.Omega.{arith}
use lib.Dec.{leb}
use lib.ListN.{get_or-map}
use borrow.Author.Tests.{le-ltb, le-leb, lt-leb, eq-eqb}
use Rattle.laws.specs.Lists.{changed}
use Rattle.laws.proofs.Cases.{and_both, never, by_test, by_leb}
use Rattle.laws.proofs.Elements.{All, none, each, all_at, all_map, all_imp, all_changed, map_changed, at_same}
use Rattle.rules.specs.Limits.{deadline_bound}
use Rattle.rules.specs.Model.{Guest, guest, Spare, spare, Model, current_of, deadline_of, owner_of, capacity_of, active, no_guest, guest_at}
use Rattle.rules.specs.Steps.{but, before, renew, renewed, Pick, nobody, picked, ready, sooner, earliest, own_budget, spare_of, Use, runs, burns, nothing, Span, limited, endless, Portion, portion, use_of, span_of, portion_for, next, spend, ran, charge, serve, tick, advance, ask}
use Rattle.rules.specs.Places.{model}
use Rattle.rules.specs.Sound.{rising}
use Rattle.promises.specs.Promises.{RunsFirst, FirstSpare, FirstSpareIs, Uses}
use Rattle.promises.specs.Spans.{fewer, shorter, Within, whose, SpanHolds, Ends, SpanEnds}
use Rattle.promises.proofs.Choosing.{next-uses}
use Rattle.promises.proofs.Facts.{Covers, GuestGood, Sane, sane_model}

pub within-fewer : (n : ℕ) (span : Span) → Within (suc n) span → Within n span
within-fewer n (limited ticks) h = omega arith
within-fewer n endless h = tt

-- ---- two charges are one

ran-add : (a b n k : ℕ) (g : Guest) → ran n k (ran a b g) ≡ ran (a + n) (b + k) g
ran-add a b n k (guest Q T jobs c d own borrowed) = rw (sub-add-eq, add_assoc, add_assoc)

-- the guest at i changed twice
changed_again : (f g h : Guest → Guest) → ((x : Guest) → f (g x) ≡ h x) → (i : ℕ) (gs : List Guest) → changed i f (changed i g gs) ≡ changed i h gs
changed_again f g h e i [] = refl
changed_again f g h e zero (x ∷ gs) = rw (e x)
changed_again f g h e (suc i) (x ∷ gs) = rw (changed_again f g h e i gs)

spend-add : (a b d owner c : ℕ) (ss : List Spare) → a < c → spend b (spend a (spare d owner c ∷ ss)) ≡ spend (a + b) (spare d owner c ∷ ss)
spend-add a b d owner c ss h =
    rw (lt-leb c a h, ← sub-add-eq)
    (by_leb (λ t. cond t ss (spare d owner (c - (a + b)) ∷ ss) ≡ spend (a + b) (spare d owner c ∷ ss)) (c - a) b
    (λ l. rw (le-leb c (a + b) (omega arith)))
    (λ l. rw (lt-leb c (a + b) (omega arith))))

-- the first spare, where a ticks leave something of it
first-add : (a b owner d : ℕ) (span : Span) (ss : List Spare) → FirstSpareIs ss owner d span → Within (suc a) span → spend b (spend a ss) ≡ spend (a + b) ss
first-add a b owner d span ss f h = rw f.1.1 (spend-add a b d owner f.0 f.1.0 (rw f.2 at h))

-- a ticks on a portion, and b on what is left of it
charge-add : (a b : ℕ) (m : Model) (u : Use) (d : ℕ) (span : Span) → Uses m.guests m.spares (portion u d span) → Within (suc a) span → charge b u (charge a u m) ≡ charge (a + b) u m
charge-add a b m (runs i own_budget) d span u h = rw (changed_again (ran b 0) (ran a 0) (ran (a + b) 0) (ran-add a 0 b 0) i m.guests, add_assoc)
charge-add a b m (runs i (spare_of owner)) d span u h =
    rw (first-add a b owner d span m.spares u.1 h, changed_again (ran 0 b) (ran 0 a) (ran 0 (a + b)) (ran-add 0 a 0 b) i m.guests, add_assoc)
charge-add a b m (burns owner) d span u h = rw (first-add a b owner d span m.spares u.1 h, add_assoc, add_assoc)
charge-add a b m nothing d span u h = rw (add_assoc, add_assoc)

-- ---- the portion is next while something is left of it

-- what the choice looks at: neither the budget that is left nor the tallies
abbrev bare : Guest → Guest
bare (guest Q T jobs c d own borrowed) = guest Q T jobs 0 d 0 0

-- the pick without the budget
abbrev bare_pick : Pick → Pick
bare_pick nobody = nobody
bare_pick (picked i d c) = picked i d 0

sooner_bare : (i : ℕ) (g : Guest) (q : Pick) → sooner (ready i (bare g)) (bare_pick q) ≡ bare_pick (sooner (ready i g) q)
sooner_bare i (guest Q T zero c d own borrowed) q = refl
sooner_bare i (guest Q T (suc jobs) c d own borrowed) nobody = refl
sooner_bare i (guest Q T (suc jobs) c d own borrowed) (picked k e b) =
    by_test (λ t. cond t (picked i d 0) (picked k e 0) ≡ bare_pick (cond t (picked i d c) (picked k e b))) (leb d e) (λ h. refl) (λ h. refl)

earliest_bare : (i : ℕ) (gs : List Guest) → earliest i (map bare gs) ≡ bare_pick (earliest i gs)
earliest_bare i [] = refl
earliest_bare i (g ∷ gs) = rw (earliest_bare (suc i) gs) (sooner_bare i g (earliest (suc i) gs))

some_budget : (q : Pick) (i d : ℕ) → bare_pick q ≡ picked i d 0 → (c : ℕ) × (q ≡ picked i d c)
some_budget nobody i d h = let z : ◌≡◌ {A = ℕ} 0 1 = cc in absurd (omega arith)
some_budget (picked k e b) i d h = (b, cc)

-- to run changes neither jobs nor deadline, and leaves the rest of the budget
bare_ran : (n k : ℕ) (g : Guest) → bare (ran n k g) ≡ bare g
bare_ran n k (guest Q T jobs c d own borrowed) = refl

left-ran : (n k : ℕ) (g : Guest) → current_of (ran n k g) ≡ current_of g - n
left-ran n k (guest Q T jobs c d own borrowed) = refl

pub limited_same : (a b : ℕ) → limited a ≡ limited b → a ≡ b
limited_same a b e = cc

-- who ran is again the earliest, with the rest of its budget
still_runs : (n k : ℕ) (m : Model) (i d c : ℕ) → earliest 0 m.guests ≡ picked i d c → earliest 0 (changed i (ran n k) m.guests) ≡ picked i d (c - n)
unfolding next
still_runs n k m i d c e =
    let gs = m.guests in
    let hs = changed i (ran n k) gs in
    let same : bare_pick (earliest 0 hs) ≡ picked i d 0 = sym (earliest_bare 0 hs) ∙ ap (earliest 0) (map_changed bare (ran n k) (bare_ran n k) i gs) ∙ earliest_bare 0 gs ∙ ap bare_pick e in
    let q = some_budget (earliest 0 hs) i d same in
    let old : Uses gs [] (portion (runs i own_budget) d (limited c)) = rw e at (next-uses (but m gs [])) in
    let new : Uses hs [] (portion (runs i own_budget) d (limited q.0)) = rw q.1 at (next-uses (but m hs [])) in
    let rest : q.0 ≡ current_of (guest_at i hs) = limited_same q.0 (current_of (guest_at i hs)) new.2 in
    let whole : c ≡ current_of (guest_at i gs) = limited_same c (current_of (guest_at i gs)) old.2 in
    q.1 ∙ ap (picked i d) (rest ∙ ap current_of (at_same no_guest i (ran n k) gs old.0.place) ∙ left-ran n k (guest_at i gs) ∙ ap (λ (b : ℕ). b - n) (sym whole))

pick_stays : (n : ℕ) (m : Model) (q : Pick) (ss : List Spare) → earliest 0 m.guests ≡ q → m.spares ≡ ss → Within (suc n) (span_of (portion_for q ss)) → next (charge n (use_of (portion_for q ss)) m) ≡ shorter n (portion_for q ss)
unfolding next
pick_stays n m nobody [] e f h = rw (e, f)
pick_stays n m nobody (spare d owner c ∷ ss) e f h = rw (e, f, lt-leb c n h)
pick_stays n m (picked i d c) [] e f h = rw (still_runs n 0 m i d c e, f)
pick_stays n m (picked i d c) (spare x owner b ∷ ss) e f h =
    by_leb (λ t. let p = cond t (portion (runs i (spare_of owner)) x (limited b)) (portion (runs i own_budget) d (limited c)) in Within (suc n) (span_of p) → next (charge n (use_of p) m) ≡ shorter n p) x d
    (λ l k. rw (still_runs 0 n m i d c e, sub-zero, f, lt-leb b n k, le-leb x d l))
    (λ l k. rw (still_runs n 0 m i d c e, f, lt-leb x d l)) h

next_stays : (n : ℕ) (m : Model) → Within (suc n) (span_of (next m)) → next (charge n (use_of (next m)) m) ≡ shorter n (next m)
unfolding next
next_stays n m h = pick_stays n m (earliest 0 m.guests) m.spares refl refl h

-- ---- what step 1 leaves

-- an active guest has budget left, and a period
abbrev Funded : Guest → Type 0
Funded (guest Q T zero c d own borrowed) = Unit {0}
Funded (guest Q T (suc jobs) c d own borrowed) = (1 ≤ c) × (1 ≤ T)

-- what the portions need to know of the model after step 1
record Ready (m : Model) : Type 0 where
  guests : All Funded m.guests
  spares : All (λ x. 1 ≤ capacity_of x) m.spares
  order : rising m.spares ≡ true

funded_renew : (bound : ℕ) (g : Guest) → GuestGood bound g → Funded (renew g)
funded_renew bound (guest Q T zero c d own borrowed) p = tt
funded_renew bound (guest Q T (suc jobs) zero d own borrowed) p = omega (arith, p.served)
funded_renew bound (guest Q T (suc jobs) (suc c) d own borrowed) p = omega (arith, p.served)

covers_some : (g : Guest) (x : Spare) → Covers g x → 1 ≤ capacity_of x
covers_some (guest Q T zero c d own borrowed) (spare e owner b) p = p.0
covers_some (guest Q T (suc jobs) c d own borrowed) (spare e owner b) p = p.0

renewed-ready : (m : Model) → Sane m → Ready (renewed m)
unfolding renewed
renewed-ready m s =
    record {
      guests = all_map Funded renew (funded_renew (deadline_bound m.now)) s.guests;
      spares = all_imp (λ x p. covers_some (guest_at (owner_of x) m.guests) x p.covered) s.spares;
      order = s.order;
    }

funded_left : (g : Guest) → active g ≡ true → Funded g → 1 ≤ current_of g
funded_left (guest Q T zero c d own borrowed) a f = never a refl
funded_left (guest Q T (suc jobs) c d own borrowed) a f = f.0

first_some : (ss : List Spare) (owner d : ℕ) (span : Span) → FirstSpareIs ss owner d span → All (λ y. 1 ≤ capacity_of y) ss → Within 1 span
first_some ss owner d span h ps = rw h.2 (all_at (rw h.1.1 at ps) (spare d owner h.0) 0 (omega arith))

uses_some : (m : Model) → Ready m → (u : Use) (d : ℕ) (span : Span) → Uses m.guests m.spares (portion u d span) → Within 1 span
uses_some m r (runs i own_budget) d span u = rw u.2 (funded_left (guest_at i m.guests) u.0.is_active (all_at r.guests no_guest i u.0.place))
uses_some m r (runs i (spare_of owner)) d span u = first_some m.spares owner d span u.1 r.spares
uses_some m r (burns owner) d span u = first_some m.spares owner d span u.1 r.spares
uses_some m r nothing d span u = rw u.3 tt

pub ask-uses : (m : Model) → Uses (renewed m).guests (renewed m).spares (ask m)
unfolding ask
ask-uses m = next-uses (renewed m)

-- a span is at least one tick
pub span_positive : (m : Model) → Sane m → Within 1 (span_of (ask m))
span_positive m s = some (ask m) (ask-uses m)
  where
    some : (p : Portion) → Uses (renewed m).guests (renewed m).spares p → Within 1 (span_of p)
    some (portion u d span) = uses_some (renewed m) (renewed-ready m s) u d span

-- ---- nothing is renewed while something is left of the portion

funded_ran : (n k : ℕ) (g : Guest) → (active g ≡ true → n < current_of g) → Funded g → Funded (ran n k g)
funded_ran n k (guest Q T zero c d own borrowed) h f = tt
funded_ran n k (guest Q T (suc jobs) c d own borrowed) h f = omega (arith, h refl)

funded_stays : (n : ℕ) (m : Model) (u : Use) (d : ℕ) (span : Span) → Uses m.guests m.spares (portion u d span) → Within (suc n) span → All Funded m.guests → All Funded (charge n u m).guests
funded_stays n m (runs i own_budget) d span u h f = all_changed no_guest i (ran n 0) f (funded_ran n 0 (guest_at i m.guests) (λ a. rw u.2 at h))
funded_stays n m (runs i (spare_of owner)) d span u h f = all_changed no_guest i (ran 0 n) f (λ g. funded_ran 0 n (guest_at i m.guests) (λ a. funded_left (guest_at i m.guests) a g) g)
funded_stays n m (burns owner) d span u h f = f
funded_stays n m nothing d span u h f = f

renew_funded : (g : Guest) → Funded g → renew g ≡ g
renew_funded (guest Q T zero c d own borrowed) f = refl
renew_funded (guest Q T (suc jobs) zero d own borrowed) f = absurd (omega arith)
renew_funded (guest Q T (suc jobs) (suc c) d own borrowed) f = refl

map_funded : {gs : List Guest} → All Funded gs → map renew gs ≡ gs
map_funded none = refl
map_funded (each {x = g} f fs) = rw (renew_funded g f, map_funded fs)

-- after step 1 nothing is to be renewed
pub settled : (m : Model) → Sane m → All (λ g. renew g ≡ g) (renewed m).guests
settled m s = all_imp renew_funded (renewed-ready m s).guests

renewed_funded : (m : Model) → All Funded m.guests → renewed m ≡ m
unfolding renewed
renewed_funded m f = rw (map_funded f)

-- ---- at once

pub use_shorter : (n : ℕ) (p : Portion) → use_of (shorter n p) ≡ use_of p
use_shorter n (portion u d span) = refl

tick_one : (m : Model) → tick m ≡ charge 1 (use_of (ask m)) (renewed m)
unfolding tick serve ask
tick_one m = refl

advance_last : (n : ℕ) (m : Model) → advance (suc n) m ≡ tick (advance n m)
unfolding advance
advance_last zero m = refl
advance_last (suc n) m = advance_last n (tick m)

module _ (m : Model) (s : Sane m) where
  -- the portion that is next, after n ticks on it
  abbrev after : ℕ → Model
  after n = charge n (use_of (ask m)) (renewed m)

  renewed_stays : (n : ℕ) → Within (suc n) (span_of (ask m)) → renewed (after n) ≡ after n
  renewed_stays n h = renewed_funded (after n) (funded (ask m) (ask-uses m) h)
    where
      funded : (p : Portion) → Uses (renewed m).guests (renewed m).spares p → Within (suc n) (span_of p) → All Funded (charge n (use_of p) (renewed m)).guests
      funded (portion u d span) w l = funded_stays n (renewed m) u d span w l (renewed-ready m s).guests

  ask_stays : (n : ℕ) → Within (suc n) (span_of (ask m)) → ask (after n) ≡ shorter n (ask m)
  unfolding ask
  ask_stays n h = ap next (renewed_stays n h) ∙ next_stays n (renewed m) h

  -- one tick more on the same portion
  tick_stays : (n : ℕ) → Within (suc n) (span_of (ask m)) → tick (after n) ≡ after (suc n)
  tick_stays n h =
      rw (← add-one n)
      (tick_one (after n) ∙ ap₂ (charge 1) (ap use_of (ask_stays n h) ∙ use_shorter n (ask m)) (renewed_stays n h) ∙ added (ask m) (ask-uses m) h)
    where
      added : (p : Portion) → Uses (renewed m).guests (renewed m).spares p → Within (suc n) (span_of p) → charge 1 (use_of p) (charge n (use_of p) (renewed m)) ≡ charge (n + 1) (use_of p) (renewed m)
      added (portion u d span) w l = charge-add n 1 (renewed m) u d span w l

  -- as many ticks as the span has, or fewer, are one charge
  pub at_once : (n : ℕ) → 1 ≤ n → Within n (span_of (ask m)) → advance n m ≡ charge n (use_of (ask m)) (renewed m)
  at_once zero l h = absurd (omega arith)
  at_once (suc zero) l h = unfold advance in tick_one m
  at_once (suc (suc n)) l h = advance_last (suc n) m ∙ ap tick (at_once (suc n) (omega arith) (within-fewer (suc n) (span_of (ask m)) h)) ∙ tick_stays (suc n) h

-- ---- the span holds

fewer_none : (span : Span) → span ≡ fewer 0 span
fewer_none (limited ticks) = rw sub-zero
fewer_none endless = refl

shorter_none : (p : Portion) → p ≡ shorter 0 p
shorter_none (portion u d span) = ap (portion u d) (fewer_none span)

-- after fewer ticks than the span, the same portion with as many ticks fewer is next
pub ask-later : (m : Model) → Sane m → (j : ℕ) → Within (suc j) (span_of (ask m)) → ask (advance j m) ≡ shorter j (ask m)
ask-later m s zero h = unfold advance in shorter_none (ask m)
ask-later m s (suc j) h = ap ask (at_once m s (suc j) (omega arith) (within-fewer (suc j) (span_of (ask m)) h)) ∙ ask_stays m s (suc j) h

pub span_holds : SpanHolds
span_holds s h j w = ask-later (model s) (sane_model s h) j w

-- ---- and ends

-- what a use and the portion's deadline say of the guests and the spares
abbrev Due : List Guest → List Spare → Use → ℕ → Type 0
Due gs ss (runs i own_budget) d = d ≡ deadline_of (guest_at i gs)
Due gs ss (runs i (spare_of owner)) d = (c : ℕ) × FirstSpare ss (spare d owner c)
Due gs ss (burns owner) d = (c : ℕ) × FirstSpare ss (spare d owner c)
Due gs ss nothing d = Unit {0}

uses_due : (gs : List Guest) (ss : List Spare) (u : Use) (d : ℕ) (span : Span) → Uses gs ss (portion u d span) → Due gs ss u d
uses_due gs ss (runs i own_budget) d span u = u.1
uses_due gs ss (runs i (spare_of owner)) d span u = (u.1.0, u.1.1)
uses_due gs ss (burns owner) d span u = (u.1.0, u.1.1)
uses_due gs ss nothing d span u = tt

-- the budget used up, the renewal moves the deadline
renew-later : (g : Guest) → active g ≡ true → Funded g → deadline_of g < deadline_of (renew (ran (current_of g) 0 g))
renew-later (guest Q T zero c d own borrowed) a f = never a refl
renew-later (guest Q T (suc jobs) c d own borrowed) a f = rw (sub_self c) (omega arith)

own_over : (i d n : ℕ) (gs : List Guest) → All Funded gs → RunsFirst gs i → d ≡ deadline_of (guest_at i gs) → n ≡ current_of (guest_at i gs) → d ≡ deadline_of (guest_at i (map renew (changed i (ran n 0) gs))) → ⊥
own_over i d n gs f u e l h =
    let g = guest_at i gs in
    let later = renew-later g u.is_active (all_at f no_guest i u.place) in
    let due : d ≡ deadline_of (renew (ran n 0 g)) = rw (get_or-map renew (changed i (ran n 0) gs) i no_guest, at_same no_guest i (ran n 0) gs u.place) at h in
    omega (arith, rw l at due)

-- the first spare used up, the next has another deadline or owner
other_next : (d owner b : ℕ) (ss : List Spare) → rising (spare d owner b ∷ ss) ≡ true → (c : ℕ) × FirstSpare ss (spare d owner c) → ⊥
other_next d owner b ss r h =
    let first = and_both (before (spare d owner b) (spare d owner h.0)) (rising (spare d owner h.0 ∷ h.1.0)) (rw h.1.1 at r) in
    never first.0 (rw (le-ltb d d (omega arith), le-ltb owner owner (omega arith), eq-eqb d d refl))

spare_over : (d owner n : ℕ) (ss : List Spare) → rising ss ≡ true → FirstSpare ss (spare d owner n) → (c : ℕ) × FirstSpare (spend n ss) (spare d owner c) → ⊥
spare_over d owner n ss r f h = other_next d owner n f.0 (rw f.1 at r) (rw (f.1, le-leb n n (omega arith)) at h)

module _ (m : Model) (s : Sane m) where
  -- what would hold if the portion came again after n ticks
  due_again : (n : ℕ) (u : Use) (d : ℕ) → ask m ≡ portion u d (limited n) → 1 ≤ n → whose (ask (advance n m)) ≡ (u, d) → Due (map renew (charge n u (renewed m)).guests) (charge n u (renewed m)).spares u d
  unfolding renewed
  due_again n u d e l w =
      let x = advance n m in
      let again : Due (map renew x.guests) x.spares (whose (ask x)).0 (whose (ask x)).1 = due (ask x) (ask-uses x) in
      let once : x ≡ charge n u (renewed m) = at_once m s n l (rw e (omega arith)) ∙ ap (λ (p : Portion). charge n (use_of p) (renewed m)) e in
      rw once at (rw w at again)
    where
      due : (p : Portion) → Uses (map renew (advance n m).guests) (advance n m).spares p → Due (map renew (advance n m).guests) (advance n m).spares (whose p).0 (whose p).1
      due (portion u d span) = uses_due (map renew (advance n m).guests) (advance n m).spares u d span

  over : (n : ℕ) (u : Use) (d : ℕ) → 1 ≤ n → Uses (renewed m).guests (renewed m).spares (portion u d (limited n)) → Due (map renew (charge n u (renewed m)).guests) (charge n u (renewed m)).spares u d → ⊥
  over n (runs i own_budget) d l u w = own_over i d n (renewed m).guests (renewed-ready m s).guests u.0 u.1 (limited_same n (current_of (guest_at i (renewed m).guests)) u.2) w
  over n (runs i (spare_of owner)) d l u w = let e = limited_same n u.1.0 u.1.2 in spare_over d owner n (renewed m).spares (renewed-ready m s).order (rw e u.1.1) w
  over n (burns owner) d l u w = let e = limited_same n u.1.0 u.1.2 in spare_over d owner n (renewed m).spares (renewed-ready m s).order (rw e u.1.1) w
  over n nothing d l u w = let z : ◌≡◌ {A = ℕ} 0 1 = cc in omega arith

  ends : (p : Portion) → ask m ≡ p → Within 1 (span_of p) → Uses (renewed m).guests (renewed m).spares p → Ends m p
  ends (portion u d (limited n)) e l w = λ again. over n u d l w (due_again n u d e l again)
  ends (portion u d endless) e l w = tt

-- after as many ticks as the span has, another portion comes
pub span_ends : SpanEnds
span_ends s h =
    let m = model s in
    let sane = sane_model s h in
    ends m sane (ask m) refl (span_positive m sane) (ask-uses m)
