-- What a walk knows between two portions, and what one portion adds.
use mathlib.Core.Path.{◌≡◌, refl, sym, subst, ap, ap₂, ◌∙◌}
use mathlib.Core.Bool.{Bool, true, false, ◌&&◌}
use mathlib.Core.List.{List, [], ◌∷◌, ◌++◌, map, map-append}
use Prim.Native.Nat.{ℕ, zero, suc, ◌+◌, ◌*◌, ◌-◌, ◌^◌, ◌≤◌, ◌<◌}
use native.Mathlib.Nat.{sub-zero}
use native.Mathlib.Omega.{arith}
use lib.Count.{count_trailing_zeros}
use lib.Dec.{ltb}
use lib.ListN.{length, get_or, take, drop, set, replicate, length-map, length-append, length-set, get_or-map}
use lib.Seq.{map-set_same, slice, slice-cons, slice_empty, length-slice, drop-drop}
use borrow.Author.Tests.{ltb-true, ltb-false, lt-ltb}
use Rattle.std.specs.Prelude.{Option, Ok}
use Rattle.laws.specs.Lists.{total, changed, padded}
use Rattle.laws.proofs.Cases.{and_both, and_second, by_ltb}
use Rattle.laws.proofs.Elements.{All, none, each, all_at, all_map, all_imp, map_changed, map_same, total_map}
use Rattle.laws.proofs.Places.{length_padded, take_padded, set_padded}
use Rattle.rules.specs.declared.Entry.{Entry}
use Rattle.rules.specs.declared.Guest.{Guest as GuestPlace}
use Rattle.rules.specs.declared.Spare.{Spare as SparePlace}
use Rattle.rules.specs.declared.Portion.{Portion as DeclaredPortion}
use Rattle.rules.specs.declared.Line.{Line as LinePlace}
use Rattle.rules.specs.declared.State.{State}
use Rattle.rules.specs.declared.Walk.{Walk}
use Rattle.rules.specs.Limits.{guest_places, spare_places, line_places, last_tick, longest_frame, deadline_bound}
use Rattle.rules.specs.Lines.{Line, line, ticks_on, line_for, lines}
use Rattle.rules.specs.Calls.{portion_of}
use Rattle.rules.specs.Model.{Guest, guest, Spare, spare, Model, bit_of, mask_of, current_of, deadline_of, tallies_of, capacity_of, no_guest, guest_at, spare_at}
use Rattle.rules.specs.Places.{guest_of, spare_of, model, entry_of, guest_place, spare_place, no_guest_place, no_spare_place, packed}
use Rattle.rules.specs.Sound.{sound}
use Rattle.rules.specs.Steps.{but, renew, renewed, Pick, nobody, picked, ready, earliest, use_of, span_of, portion_for, ran, advance, ask}
use Rattle.rules.specs.Steps as Steps
use Rattle.rules.specs.Table.{no_entry}
use Rattle.rules.specs.Walks.{ticks_in, line_place, no_line, Walked}
use Rattle.promises.specs.Promises.{Uses}
use Rattle.promises.specs.Spans.{Within}
use Rattle.promises.proofs.Calling.{MayAdvance, advance_allowed}
use Rattle.promises.proofs.Packing.{spare_places_lem}
use Rattle.promises.proofs.Facts.{GuestGood, Sane, points, sane_model, guests_count}
use Rattle.promises.proofs.Keeping.{entry-renew, tallies-renew, bit-renew, entry-ran, bit-ran}
use Rattle.promises.proofs.Spans.{settled, ask-uses, span_positive, at_once}
use Rattle.promises.proofs.Ticking.{advance-add, advance_sane}
use Rattle.promises.proofs.Walks.{ticks_in_le, lines_more, ticks_more, ticks_enough, lines_enough, walk_lines_lem, walk_left_lem, walk_state_lem}
use Rattle.engine_choice.specs.Choice.{shown, in_use}
use Rattle.engine_choice.proofs.Choosing.{in_use_few}
use Rattle.engine_choice.specs.declared.Charge.{Charge}
use Rattle.engine_choice.specs.Clauses.{first_of, charge_of}
use Rattle.engine_time.specs.Inner.{ran_place, spent_place, due_at, AllDue, SoonestFrom, placed, listed, begun_from, started_at, later_by, state_of, walk_of}
use Rattle.engine_time.specs.declared.walking.Clock.{Clock}
use Rattle.engine_choice.proofs.Charging.{lost_by, made, Fits, charge_fits}
use Rattle.engine_time.proofs.Mirroring.{mirrors, starts_first, starts_inside}
use Rattle.engine_time.proofs.Placing.{placed_at, placed_changed, table_good, packed_fields, spares_long, guest_here, guest_good}

-- ---- a model in the walk's variables

pub record Shows (s : State) (x : Model) (ps : List GuestPlace) (ss : List SparePlace) (h : Clock) : Type 0 where
  pub frame : x.frame ≡ s.table.frame
  pub entries : map entry_of x.guests ≡ map entry_of (model s).guests
  pub guests : ps ≡ placed x.guests
  pub spares : map spare_of (slice h.head s.listed ss) ≡ x.spares
  pub head : h.head ≤ s.listed
  pub now : h.now ≡ x.now
  pub burned : h.burned ≡ x.burned
  pub empty : h.empty ≡ x.empty

-- a guest is its entry and its place
whole : (g : Guest) → guest_of (entry_of g) (guest_place g) ≡ g
whole (guest Q T jobs c d own borrowed) = refl

module _ (s : State) (h : sound s ≡ true) (x : Model) (same : map entry_of x.guests ≡ map entry_of (model s).guests) where
  -- as many guests as the table says
  pub shown_count : length x.guests ≡ s.table.count
  shown_count = sym (length-map x.guests entry_of) ∙ ap length same ∙ length-map (model s).guests entry_of ∙ guests_count s h

  module _ (i : ℕ) (inside : i < s.table.count) where
    pub shown_inside : i < length x.guests
    shown_inside = omega (arith, shown_count)

    -- guest i is what stands in its place of the table and of the guests
    pub shown_at : {guests : List GuestPlace} → guests ≡ placed x.guests → guest_of (get_or s.table.entries i no_entry) (get_or guests i no_guest_place) ≡ guest_at i x.guests
    shown_at {guests} e =
        let g = guest_at i x.guests in
        let entry : get_or s.table.entries i no_entry ≡ entry_of g =
        sym (ap entry_of (guest_here s h i inside)) ∙ sym (get_or-map entry_of (model s).guests i no_guest) ∙ ap (λ (es : List Entry). get_or es i no_entry) (sym same) ∙ get_or-map entry_of x.guests i no_guest in
        let place : get_or guests i no_guest_place ≡ guest_place g = ap (λ (gs : List GuestPlace). get_or gs i no_guest_place) e ∙ placed_at x.guests i shown_inside in
        ap₂ guest_of entry place ∙ whole g

-- ---- the choice, and what comes next

earliest-placed : (i : ℕ) (gs : List Guest) → earliest i (map shown (map guest_place gs)) ≡ earliest i gs
earliest-placed i [] = refl
earliest-placed i (guest Q T zero c d own borrowed ∷ gs) = earliest-placed (suc i) gs
earliest-placed i (guest Q T (suc jobs) c d own borrowed ∷ gs) = rw (earliest-placed (suc i) gs)

mask_placed : (gs : List Guest) → mask_of (map shown (map guest_place gs)) ≡ mask_of gs
mask_placed [] = refl
mask_placed (guest Q T zero c d own borrowed ∷ gs) = rw (mask_placed gs)
mask_placed (guest Q T (suc jobs) c d own borrowed ∷ gs) = rw (mask_placed gs)

-- the mask of guests in places
pub mask_in : (n : ℕ) (gs : List Guest) {guests : List GuestPlace} → guests ≡ placed gs → length gs ≡ n → mask_of (in_use n guests) ≡ mask_of gs
mask_in n gs e l =
    ap (λ (ps : List GuestPlace). mask_of (in_use n ps)) e
    ∙ ap (λ (ps : List GuestPlace). mask_of (map shown ps)) (take_padded guest_places no_guest_place n (map guest_place gs) (length-map gs guest_place ∙ l))
    ∙ mask_placed gs

-- a mask is its guests' bits
abbrev of_bits : List ℕ → ℕ
of_bits [] = 0
of_bits (b ∷ bs) = b + 2 * of_bits bs

of_bits_lem : (gs : List Guest) → mask_of gs ≡ of_bits (map bit_of gs)
of_bits_lem [] = refl
of_bits_lem (g ∷ gs) = rw (of_bits_lem gs)

-- so who is active decides it
same_mask : (gs hs : List Guest) → map bit_of gs ≡ map bit_of hs → mask_of gs ≡ mask_of hs
same_mask gs hs e = of_bits_lem gs ∙ ap of_bits e ∙ sym (of_bits_lem hs)

-- the choice among guests in places
pub earliest_in : (n : ℕ) (gs : List Guest) {guests : List GuestPlace} → guests ≡ placed gs → length gs ≡ n → earliest 0 (in_use n guests) ≡ earliest 0 gs
earliest_in n gs {guests} e l =
    ap (λ (ps : List GuestPlace). earliest 0 (in_use n ps)) e
    ∙ ap (λ (ps : List GuestPlace). earliest 0 (map shown ps)) (take_padded guest_places no_guest_place n (map guest_place gs) (length-map gs guest_place ∙ l))
    ∙ earliest-placed 0 gs

-- no spare but the first is looked at
portion_first : (q : Pick) (x : Spare) (ss : List Spare) → portion_for q (x ∷ []) ≡ portion_for q (x ∷ ss)
portion_first nobody (spare d owner c) ss = refl
portion_first (picked i d c) (spare e owner b) ss = refl

portion_one : (q : Pick) (ss : List SparePlace) → portion_for q (map spare_of (take 1 ss)) ≡ portion_for q (map spare_of ss)
portion_one q [] = refl
portion_one q (x ∷ ss) = portion_first q (spare_of x) (map spare_of ss)

pub portion_in : (ss : List SparePlace) (first : Option SparePlace) → first_of first ≡ map spare_of (take 1 ss) → (q : Pick) → portion_for q (first_of first) ≡ portion_for q (map spare_of ss)
portion_in ss first e q = ap (portion_for q) e ∙ portion_one q ss

map-set : {A B : Type 0} (f : A → B) (xs : List A) (i : ℕ) (x : A) → map f (set xs i x) ≡ set (map f xs) i (f x)
map-set f [] i x = refl
map-set f (y ∷ ys) zero x = refl
map-set f (y ∷ ys) (suc i) x = rw (map-set f ys i x)

drop-map : {A B : Type 0} (f : A → B) (n : ℕ) (xs : List A) → map f (drop n xs) ≡ drop n (map f xs)
drop-map f zero xs = refl
drop-map f (suc n) [] = refl
drop-map f (suc n) (x ∷ xs) = drop-map f n xs

-- a part whose first element is stored
slice_set : {A : Type 0} (from to : ℕ) (l : List A) (y : A) → from < to → to ≤ length l → slice from to (set l from y) ≡ y ∷ slice (suc from) to l
slice_set from zero l y h k = absurd (omega arith)
slice_set from (suc to) [] y h k = absurd (omega arith)
slice_set zero (suc to) (x ∷ l) y h k = refl
slice_set (suc from) (suc to) (x ∷ l) y h k = slice_set from to l y (omega arith) (omega arith)

-- the first spare from the head on, if there is any
module _ (ss : List SparePlace) (head count at : ℕ) (few : count ≤ spare_places) (long : length ss ≡ spare_places) (place : head < spare_places → at ≡ head) (low : head ≤ count) where
  abbrev X : SparePlace
  X = get_or ss at no_spare_place

  first-cons : head < count → map spare_of (slice head count ss) ≡ spare_of X ∷ map spare_of (slice (suc head) count ss)
  first-cons h = rw (place (omega arith), slice-cons head count ss no_spare_place h (omega arith))

  first_none : count ≤ head → map spare_of (slice head count ss) ≡ []
  first_none h = let e : head ≡ count = omega arith in rw (e, slice_empty count ss)

  module _ (c : Charge) (fits : c.spent ≤ capacity_of (spare_at 0 (map spare_of (slice head count ss)))) (fewer : c.removed ≤ length (map spare_of (slice head count ss))) where
    pub spent_in : c.spent ≤ X.capacity
    spent_in =
        by_ltb (λ _. c.spent ≤ X.capacity) head count
        (λ h. rw (first-cons h) at fits)
        (λ h. let none : c.spent ≤ 0 = rw (first_none h) at fits in omega arith)

    pub head_in : head + c.removed ≤ count
    head_in = omega (arith, fewer, length-map (slice head count ss) spare_of, length-slice head count ss (omega arith))

    -- the spares after what is charged
    pub lost_in : map spare_of (slice (head + c.removed) count (set ss at (spent_place c X))) ≡ lost_by c (map spare_of (slice head count ss))
    lost_in =
        by_ltb (λ _. map spare_of (slice (head + c.removed) count (set ss at (spent_place c X))) ≡ lost_by c (map spare_of (slice head count ss))) head count
        (λ h.
        let rest = slice (suc head) count ss in
        let Y = spent_place c X in
        let after : slice head count (set ss at Y) ≡ Y ∷ rest = rw (place (omega arith)) (slice_set head count ss (spent_place c (get_or ss head no_spare_place)) h (omega arith)) in
        ap (λ (l : List SparePlace). map spare_of l) (sym (drop-drop c.removed head (take count (set ss at Y))) ∙ ap (drop c.removed) after)
        ∙ drop-map spare_of c.removed (Y ∷ rest)
        ∙ ap (lost_by c) (sym (first-cons h)))
        (λ h.
        let last : head + c.removed ≡ count = omega (arith, head_in) in
        rw (last, slice_empty count (set ss at (spent_place c X)), first_none h))

-- ---- the guests

-- guests of whom none is to be renewed
settled_all : {gs : List Guest} → All (λ g. renew g ≡ g) gs → map renew gs ≡ gs
settled_all none = refl
settled_all (each e es) = rw (e, settled_all es)

-- where one of them was changed, it alone is to be renewed
settled_but : (i : ℕ) (f : Guest → Guest) {gs : List Guest} → All (λ g. renew g ≡ g) gs → changed i renew (changed i f gs) ≡ map renew (changed i f gs)
settled_but i f none = refl
settled_but zero f (each e es) = rw (settled_all es)
settled_but (suc i) f (each e es) = rw (e, settled_but i f es)

settled_one : (i : ℕ) {gs : List Guest} → All (λ g. renew g ≡ g) gs → changed i renew gs ≡ gs
settled_one i none = refl
settled_one zero (each e es) = rw e
settled_one (suc i) (each e es) = rw (settled_one i es)

place-ran : (c : Charge) (g : Guest) → ran_place c (guest_place g) ≡ guest_place (ran c.own c.borrowed g)
place-ran c (guest Q T jobs l d own borrowed) = refl

-- a renewed deadline is one period later at most
early_renew : (bound : ℕ) (g : Guest) → GuestGood bound g → deadline_of (renew g) ≤ bound + longest_frame
early_renew bound (guest Q T zero c d own borrowed) p = omega (arith, p.early)
early_renew bound (guest Q T (suc jobs) zero d own borrowed) p = omega (arith, p.early, p.served)
early_renew bound (guest Q T (suc jobs) (suc c) d own borrowed) p = omega (arith, p.early)

-- and in its place, or in an empty one
placed_early : (gs : List Guest) (rest i : ℕ) → All (λ g. deadline_of g ≤ 2 ^ 62) gs → (get_or (map guest_place gs ++ replicate rest no_guest_place) i no_guest_place).deadline ≤ 2 ^ 62
placed_early [] zero i none = omega arith
placed_early [] (suc rest) zero none = omega arith
placed_early [] (suc rest) (suc i) none = placed_early [] rest i none
placed_early (guest Q T jobs c d own borrowed ∷ gs) rest zero (each e es) = e
placed_early (g ∷ gs) rest (suc i) (each e es) = placed_early gs rest i es

-- so each is a number that comes before `never`
pub placed_due : (gs : List Guest) → All (λ g. deadline_of g ≤ 2 ^ 62) gs → {ps : List GuestPlace} → ps ≡ placed gs → AllDue ps
placed_due gs early e i l = rw e (omega (arith, placed_early gs (guest_places - length (map guest_place gs)) i early))

pub renewed_early : (m : Model) → Sane m → All (λ g. deadline_of g ≤ 2 ^ 62) (renewed m).guests
unfolding renewed
renewed_early m s = all_map (λ g. deadline_of g ≤ 2 ^ 62) renew (λ g p. omega (arith, early_renew (deadline_bound m.now) g p, s.time)) s.guests

-- one tally is no more than all
tally_at : (i : ℕ) (gs : List Guest) → i < length gs → tallies_of (guest_at i gs) ≤ total tallies_of gs
tally_at i [] h = absurd (omega arith)
tally_at zero (g ∷ gs) h = omega arith
tally_at (suc i) (g ∷ gs) h = omega (arith, tally_at i gs (omega arith))

-- a guest's numbers stand in its place
place-left : (g : Guest) → (guest_place g).current ≡ current_of g
place-left (guest Q T jobs c d own borrowed) = refl

place-tallies : (g : Guest) → (guest_place g).own + (guest_place g).borrowed ≡ tallies_of g
place-tallies (guest Q T jobs c d own borrowed) = refl

-- one portion of some ticks
ticks_one : (k : ℕ) (m : Model) → 0 < k → ticks_in 1 k m ≡ ticks_on k (span_of (ask m))
unfolding ticks_in
ticks_one zero m h = absurd (omega arith)
ticks_one (suc k) m h = omega arith

lines_one : (k : ℕ) (m : Model) → 0 < k → lines 1 k m ≡ line_for m k ∷ []
unfolding lines
lines_one zero m h = absurd (omega arith)
lines_one (suc k) m h = refl

-- ---- between two portions

-- the model after the first portions
abbrev pub reached : State → ℕ → ℕ → Model
reached s k count = advance (ticks_in count k (model s)) (model s)

-- the variables show a model: the one reached, or before the first portion that one renewed; who ran last may be still to renew
pub record Walking (s : State) (k from : ℕ) (ds : List ℕ) (ps : List GuestPlace) (ss : List SparePlace) (qs : List LinePlace) (h : Clock) (count : ℕ) (more : Bool) : Type 0 where
  pub x : Model
  pub shows : Shows s x ps ss h
  pub early : All (λ g. deadline_of g ≤ 2 ^ 62) x.guests
  pub start : from < s.table.count
  pub first : (gs : List Guest) → mask_of gs ≡ mask_of x.guests → length gs ≤ 32 → earliest from (drop from gs) ≡ earliest 0 gs
  pub dues : ds ≡ map due_at ps
  pub exact : (0 < h.left → 0 < count) → x ≡ reached s k count
  pub ready : 0 < h.left → but x (changed h.last renew x.guests) x.spares ≡ renewed (reached s k count)
  pub left : h.left ≡ k - ticks_in count k (model s)
  pub last : h.last < s.table.count
  pub long : length ss ≡ spare_places
  pub few : count ≤ line_places
  pub noted : qs ≡ padded line_places no_line (map line_place (lines count k (model s)))
  pub counted : length (lines count k (model s)) ≡ count
  pub goes : more ≡ ltb 0 h.left && ltb count line_places

-- what one portion gives the code: r is the guest that ran last, renewed, and `due` its deadline; `next` is what comes next, and g what is charged
pub record Turned (s : State) (k from : ℕ) (ds : List ℕ) (ps : List GuestPlace) (ss : List SparePlace) (qs : List LinePlace) (c : Clock) (count : ℕ) (r : GuestPlace) (due at : ℕ) (next : DeclaredPortion) (g : Charge) : Type 0 where
  -- the guest that is charged, and the first spare
  pub inside : g.guest < s.table.count
  pub ran :
      let b = get_or (set ps c.last r) g.guest no_guest_place in
      (g.own ≤ b.current) × (b.own + g.own < 2 ^ 64) × (b.borrowed + g.borrowed < 2 ^ 64)
  pub spent : g.spent ≤ (get_or ss at no_spare_place).capacity
  pub now : c.now + g.ticks < 2 ^ 64
  pub later : (g.ticks ≤ c.left) × (c.now + g.ticks < 2 ^ 64) × (c.burned + g.burned < 2 ^ 64) × (c.empty + g.empty < 2 ^ 64) × (c.head + g.removed < 2 ^ 64)
  pub more :
      {a : GuestPlace} {y : SparePlace} {b : LinePlace} {d : Clock} {more : Bool} → a ≡ ran_place g (get_or (set ps c.last r) g.guest no_guest_place)
      → y ≡ spent_place g (get_or ss at no_spare_place) → b ≡ line_place (line c.now (c.now + g.ticks) (use_of (portion_of next))) → d ≡ later_by g c
      → more ≡ ltb 0 d.left && ltb (count + 1) line_places
      → Walking s k from (set ds c.last due) (set (set ps c.last r) g.guest a) (set ss at y) (set qs count b) d (count + 1) more

module _ (s : State) (k from : ℕ) (h : sound s ≡ true) (time : s.now + k ≤ last_tick) where
  reached_sane : (count : ℕ) → Sane (reached s k count)
  unfolding model
  reached_sane count = advance_sane (ticks_in count k (model s)) (model s) (omega (arith, time, ticks_in_le count k (model s))) (sane_model s h)

  reached_early : (count : ℕ) → All (λ g. deadline_of g ≤ 2 ^ 62) (reached s k count).guests
  reached_early count = all_imp (λ g p. omega (arith, p.early, (reached_sane count).time)) (reached_sane count).guests

  -- ---- before the first portion

  begun_shows : (n : ℕ) {ps : List GuestPlace} → ps ≡ placed (begun_from n (model s)).guests → Shows s (begun_from n (model s)) ps s.spares (started_at s k)
  unfolding model renewed
  begun_shows zero e = record { frame = refl; entries = refl; guests = e; spares = refl; head = omega arith; now = refl; burned = refl; empty = refl }
  begun_shows (suc n) e =
      record { frame = refl; entries = map_same entry_of renew entry-renew (model s).guests; guests = e; spares = refl; head = omega arith; now = refl; burned = refl; empty = refl }

  begun_early : (n : ℕ) → All (λ g. deadline_of g ≤ 2 ^ 62) (begun_from n (model s)).guests
  unfolding renewed model
  begun_early zero = all_imp (λ g p. omega (arith, p.early, (sane_model s h).time)) (sane_model s h).guests
  begun_early (suc n) = renewed_early (model s) (sane_model s h)

  begun_exact : (n : ℕ) → (0 < n → 0 < 0) → begun_from n (model s) ≡ model s
  begun_exact zero f = refl
  begun_exact (suc n) f = absurd (omega (arith, f (omega arith)))

  begun_ready : (n : ℕ) → 0 < n → but (begun_from n (model s)) (changed 0 renew (begun_from n (model s)).guests) (begun_from n (model s)).spares ≡ renewed (model s)
  begun_ready zero f = absurd (omega arith)
  begun_ready (suc n) f = ap (λ (gs : List Guest). but (renewed (model s)) gs (renewed (model s)).spares) (settled_one 0 (settled (model s) (sane_model s h)))

  pub walking_start : {ps : List GuestPlace} {qs : List LinePlace} {c : Clock} → c ≡ started_at s k → ps ≡ placed (begun_from k (model s)).guests → (lowest : ℕ) → lowest ≡ count_trailing_zeros 32 (mask_of (in_use s.table.count ps)) → (lowest < s.table.count → from ≡ lowest) × (s.table.count ≤ lowest → from ≡ 0) → qs ≡ replicate line_places no_line
      → Walking s k from (map due_at ps) ps s.spares qs c 0 (ltb 0 c.left && ltb 0 line_places)
  unfolding ticks_in lines advance
  walking_start {ps} {qs} {c} ec e lowest el es f =
      subst (λ (c : Clock). Walking s k from (map due_at ps) ps s.spares qs c 0 (ltb 0 c.left && ltb 0 line_places)) (sym ec)
      (record {
        x = begun_from k (model s);
        shows = begun_shows k e;
        early = begun_early k;
        start = starts_inside s.table.count lowest from es (omega (arith, (table_good s h).count_low));
        first = λ gs same few. starts_first s.table.count lowest from es gs (el ∙ ap (λ (n : ℕ). count_trailing_zeros 32 n) (mask_in s.table.count (begun_from k (model s)).guests e (shown_count s h (begun_from k (model s)) (begun_shows k e).entries) ∙ sym same)) few;
        dues = refl;
        exact = begun_exact k;
        ready = begun_ready k;
        left = sym (sub-zero k);
        last = omega (arith, (table_good s h).count_low);
        long = spares_long s h;
        few = omega arith;
        noted = f;
        counted = refl;
        goes = refl;
      })

  -- ---- one portion

  module _ {ds : List ℕ} {ps : List GuestPlace} {ss : List SparePlace} {qs : List LinePlace} {c : Clock} {count : ℕ} (w : Walking s k from ds ps ss qs c count true) where
    abbrev M : Model
    M = reached s k count

    abbrev R : Model
    R = renewed M

    some : 0 < c.left
    some = ltb-true 0 c.left (and_both (ltb 0 c.left) (ltb count line_places) (sym w.goes)).0

    pub room : count < line_places
    room = ltb-true count line_places (and_both (ltb 0 c.left) (ltb count line_places) (sym w.goes)).1

    guests-ready : changed c.last renew w.x.guests ≡ R.guests
    guests-ready = ap (λ (m : Model). m.guests) (w.ready some)

    spares_ready : w.x.spares ≡ R.spares
    spares_ready = ap (λ (m : Model). m.spares) (w.ready some)

    same_entries : map entry_of R.guests ≡ map entry_of (model s).guests
    same_entries = ap (λ (gs : List Guest). map entry_of gs) (sym guests-ready) ∙ map_changed entry_of renew entry-renew c.last w.x.guests ∙ w.shows.entries

    -- the guest that ran last, renewed
    pub turn_fits : (get_or ps c.last no_guest_place).deadline + (get_or s.table.entries c.last no_entry).period < 2 ^ 64
    turn_fits =
        let g = guest_of (get_or s.table.entries c.last no_entry) (get_or ps c.last no_guest_place) in
        let e : g ≡ guest_at c.last w.x.guests = shown_at s h w.x w.shows.entries c.last w.last w.shows.guests in
        let d : deadline_of g ≤ 2 ^ 62 = rw e (all_at w.early no_guest c.last (shown_inside s h w.x w.shows.entries c.last w.last)) in
        omega (arith, d, (guest_good s h c.last w.last).served)

    module _ {r : GuestPlace} (er : r ≡ guest_place (renew (guest_of (get_or s.table.entries c.last no_entry) (get_or ps c.last no_guest_place)))) where
      turn_renewed : set ps c.last r ≡ placed R.guests
      turn_renewed =
          let e = shown_at s h w.x w.shows.entries c.last w.last w.shows.guests in
          ap₂ (λ (gs : List GuestPlace) (g : GuestPlace). set gs c.last g) w.shows.guests (er ∙ ap (λ (g : Guest). guest_place (renew g)) e)
          ∙ sym (placed_changed w.x.guests c.last (shown_inside s h w.x w.shows.entries c.last w.last) renew)
          ∙ ap placed guests-ready

      module _ {due : ℕ} (ed : due ≡ due_at r) {soon : ℕ} (es : SoonestFrom (set ds c.last due) from s.table.count soon) {q : Pick} (ec : q ≡ ready soon (shown (get_or (set ps c.last r) soon no_guest_place))) {at : ℕ} (ea : c.head < spare_places → at ≡ c.head) where
        long : length ss ≡ spare_places
        long = w.long

        -- the first spare, if there is any
        abbrev Y : SparePlace
        Y = get_or ss at no_spare_place

        few : s.listed ≤ spare_places
        few = (points s h).few

        spares_shown : map spare_of (slice c.head s.listed ss) ≡ R.spares
        spares_shown = w.shows.spares ∙ spares_ready

        count_shown : length R.guests ≡ s.table.count
        count_shown = shown_count s h R same_entries

        -- who is active is still the same
        same_active : mask_of R.guests ≡ mask_of w.x.guests
        same_active = sym (same_mask w.x.guests R.guests (sym (map_changed bit_of renew bit-renew c.last w.x.guests) ∙ ap (λ (gs : List Guest). map bit_of gs) guests-ready))

        -- the numbers are those of the guests
        abbrev gs₁ : List GuestPlace
        gs₁ = set ps c.last r

        dues_here : set ds c.last due ≡ map due_at gs₁
        dues_here = ap₂ (λ (l : List ℕ) (v : ℕ). set l c.last v) w.dues ed ∙ sym (map-set due_at ps c.last r)

        long_here : length gs₁ ≡ guest_places
        long_here = ap length turn_renewed ∙ length_padded guest_places no_guest_place (map guest_place R.guests) (omega (arith, length-map R.guests guest_place, count_shown, (table_good s h).count_high))

        chosen : q ≡ earliest 0 R.guests
        chosen =
            let n = s.table.count in
            ec ∙ es gs₁ (mirrors gs₁ dues_here (placed_due R.guests (renewed_early M (reached_sane count)) turn_renewed)) (omega (arith, long_here, (table_good s h).count_high))
            ∙ w.first (in_use n gs₁) (mask_in n R.guests turn_renewed count_shown ∙ same_active) (in_use_few 32 n gs₁ guest_places long_here (omega arith))
            ∙ earliest_in n R.guests turn_renewed count_shown

        module _ (next : DeclaredPortion) (en : portion_of next ≡ portion_for q (map spare_of (slice c.head s.listed ss))) where
          -- it is what the rules ask
          turn_next : portion_of next ≡ ask M
          unfolding ask Steps.next
          turn_next =
              en
              ∙ ap (λ (q : Pick). portion_for q (map spare_of (slice c.head s.listed ss))) chosen
              ∙ ap (portion_for (earliest 0 R.guests)) spares_shown

          module _ {g : Charge} (eg : g ≡ charge_of c.left c.last next) where
            fits : Fits g c.left (ask M) R
            fits =
                let uses : Uses R.guests R.spares (portion_of next) = rw turn_next (ask-uses M) in
                let some_left : Within 1 (span_of (portion_of next)) = rw turn_next (span_positive M (reached_sane count)) in
                rw (eg, ← turn_next) (charge_fits c.left c.last some R (omega (arith, count_shown, w.last)) next uses some_left)

            turn_inside : g.guest < s.table.count
            turn_inside = omega (arith, count_shown, fits.names)

            -- the guest that is charged
            abbrev B : GuestPlace
            B = get_or (set ps c.last r) g.guest no_guest_place

            place_here : B ≡ guest_place (guest_at g.guest R.guests)
            place_here = ap (λ (gs : List GuestPlace). get_or gs g.guest no_guest_place) turn_renewed ∙ placed_at R.guests g.guest fits.names

            tallies_here : B.own + B.borrowed ≤ last_tick
            unfolding renewed
            tallies_here =
                rw place_here
                (omega (arith, place-tallies (guest_at g.guest R.guests), tally_at g.guest R.guests fits.names, total_map tallies_of renew tallies-renew M.guests, (reached_sane count).tally, (reached_sane count).time))

            ticks_left : g.ticks ≤ last_tick
            ticks_left = omega (arith, fits.most, w.left, time)

            turn_ran : (g.own ≤ B.current) × (B.own + g.own < 2 ^ 64) × (B.borrowed + g.borrowed < 2 ^ 64)
            turn_ran =
                let own : g.own ≤ B.current = rw (place_here, place-left) fits.own in
                (own, omega (arith, tallies_here, ticks_left, fits.own_ticks), omega (arith, tallies_here, ticks_left, fits.borrowed_ticks))

            spent_fits : g.spent ≤ capacity_of (spare_at 0 (map spare_of (slice c.head s.listed ss)))
            spent_fits = rw spares_shown fits.spent

            removed_fits : g.removed ≤ length (map spare_of (slice c.head s.listed ss))
            removed_fits = rw spares_shown fits.removed

            turn_spent : g.spent ≤ Y.capacity
            turn_spent = spent_in ss c.head s.listed at few long ea w.shows.head g spent_fits removed_fits

            head_fits : c.head + g.removed ≤ s.listed
            head_fits = head_in ss c.head s.listed at few long ea w.shows.head g spent_fits removed_fits

            now_here : c.now ≡ M.now
            unfolding renewed
            now_here = w.shows.now ∙ ap (λ (m : Model). m.now) (w.ready some)

            burned_here : c.burned ≡ M.burned
            unfolding renewed
            burned_here = w.shows.burned ∙ ap (λ (m : Model). m.burned) (w.ready some)

            empty_here : c.empty ≡ M.empty
            unfolding renewed
            empty_here = w.shows.empty ∙ ap (λ (m : Model). m.empty) (w.ready some)

            turn_now : c.now + g.ticks < 2 ^ 64
            turn_now = omega (arith, now_here, (reached_sane count).time, ticks_left)

            turn_later : (g.ticks ≤ c.left) × (c.now + g.ticks < 2 ^ 64) × (c.burned + g.burned < 2 ^ 64) × (c.empty + g.empty < 2 ^ 64) × (c.head + g.removed < 2 ^ 64)
            turn_later =
                let t = reached_sane count in
                (fits.most, turn_now, omega (arith, burned_here, t.tally, t.time, ticks_left, fits.burned_ticks), omega (arith, empty_here, t.tally, t.time, ticks_left, fits.empty_ticks), omega (arith, head_fits, few))

            -- the portion is one more that the walk has reached
            next_ticks : ticks_in (count + 1) k (model s) ≡ ticks_in count k (model s) + g.ticks
            next_ticks =
                omega (arith, ticks_more count k (model s), ap (λ (n : ℕ). ticks_in 1 n M) (sym w.left), ticks_one c.left M some, fits.ticks)

            next_reached : made g R ≡ reached s k (count + 1)
            next_reached =
                sym fits.so
                ∙ sym (at_once M (reached_sane count) g.ticks fits.some fits.span)
                ∙ sym (advance-add (ticks_in count k (model s)) g.ticks (model s))
                ∙ ap (λ (n : ℕ). advance n (model s)) (sym next_ticks)

            next_shows : {a : GuestPlace} {y : SparePlace} → a ≡ ran_place g B → y ≡ spent_place g Y → Shows s (made g R) (set (set ps c.last r) g.guest a) (set ss at y) (later_by g c)
            unfolding renewed
            next_shows {a} {y} e f =
                let i = g.guest in
                let stored : a ≡ guest_place (ran g.own g.borrowed (guest_at i R.guests)) = e ∙ ap (ran_place g) place_here ∙ place-ran g (guest_at i R.guests) in
                record {
                  frame = ap (λ (m : Model). m.frame) (sym (w.ready some)) ∙ w.shows.frame;
                  entries = map_changed entry_of (ran g.own g.borrowed) (entry-ran g.own g.borrowed) i R.guests ∙ same_entries;
                  guests = ap₂ (λ (gs : List GuestPlace) (b : GuestPlace). set gs i b) turn_renewed stored ∙ sym (placed_changed R.guests i fits.names (ran g.own g.borrowed));
                  spares = rw f (lost_in ss c.head s.listed at few long ea w.shows.head g spent_fits removed_fits) ∙ ap (lost_by g) spares_shown;
                  head = head_fits;
                  now = ap (λ (n : ℕ). n + g.ticks) now_here;
                  burned = ap (λ (n : ℕ). n + g.burned) burned_here;
                  empty = ap (λ (n : ℕ). n + g.empty) empty_here;
                }

            next-lines : lines (count + 1) k (model s) ≡ lines count k (model s) ++ (line_for M c.left ∷ [])
            next-lines = lines_more count k (model s) ∙ ap (λ (ls : List Line). lines count k (model s) ++ ls) (ap (λ (n : ℕ). lines 1 n M) (sym w.left) ∙ lines_one c.left M some)

            next_noted : {b : LinePlace} → b ≡ line_place (line c.now (c.now + g.ticks) (use_of (portion_of next))) → set qs count b ≡ padded line_places no_line (map line_place (lines (count + 1) k (model s)))
            next_noted e =
                let ls = lines count k (model s) in
                let here : line_for M c.left ≡ line c.now (c.now + g.ticks) (use_of (portion_of next)) = rw (turn_next, now_here, fits.ticks) in
                ap₂ (λ (l : List LinePlace) (v : LinePlace). set l count v) w.noted (e ∙ ap line_place (sym here))
                ∙ set_padded line_places no_line count (map line_place ls) (line_place (line_for M c.left)) (length-map ls line_place ∙ w.counted) room
                ∙ ap (padded line_places no_line) (sym (map-append line_place ls (line_for M c.left ∷ [])) ∙ ap (λ (l : List Line). map line_place l) (sym next-lines))

            next-ready : but (made g R) (changed g.guest renew (made g R).guests) (made g R).spares ≡ renewed (reached s k (count + 1))
            unfolding renewed
            next-ready =
                ap (λ (gs : List Guest). but (made g R) gs (made g R).spares) (settled_but g.guest (ran g.own g.borrowed) (settled M (reached_sane count))) ∙ ap renewed next_reached

            turn_more : {a : GuestPlace} {y : SparePlace} {b : LinePlace} {d : Clock} {more : Bool} → a ≡ ran_place g B → y ≡ spent_place g Y
                → b ≡ line_place (line c.now (c.now + g.ticks) (use_of (portion_of next))) → d ≡ later_by g c → more ≡ ltb 0 d.left && ltb (count + 1) line_places
                → Walking s k from (set ds c.last due) (set (set ps c.last r) g.guest a) (set ss at y) (set qs count b) d (count + 1) more
            turn_more {a} {y} {b} {d} {more} ra ry rb rd rm =
                subst (λ (d : Clock). Walking s k from (set ds c.last due) (set (set ps c.last r) g.guest a) (set ss at y) (set qs count b) d (count + 1) more) (sym rd)
                (record {
                  x = made g R;
                  shows = next_shows ra ry;
                  start = w.start;
                  first = λ gs same few. w.first gs (same ∙ same_mask (made g R).guests R.guests (map_changed bit_of (ran g.own g.borrowed) (bit-ran g.own g.borrowed) g.guest R.guests) ∙ same_active) few;
                  dues = dues_here ∙ sym (map-set_same due_at gs₁ g.guest a no_guest_place (ap due_at ra));
                  early = subst (λ (m : Model). All (λ g. deadline_of g ≤ 2 ^ 62) m.guests) (sym next_reached) (reached_early (count + 1));
                  exact = λ _. next_reached;
                  ready = λ _. next-ready;
                  left = omega (arith, w.left, next_ticks);
                  last = turn_inside;
                  long = length-set ss at y ∙ long;
                  few = omega (arith, room);
                  noted = next_noted rb;
                  counted = ap length next-lines ∙ length-append (lines count k (model s)) (line_for M c.left ∷ []) ∙ omega (arith, w.counted);
                  goes = rm ∙ ap (λ (d : Clock). ltb 0 d.left && ltb (count + 1) line_places) rd;
                })

            pub turn : Turned s k from ds ps ss qs c count r due at next g
            turn = record { inside = turn_inside; ran = turn_ran; spent = turn_spent; now = turn_now; later = turn_later; more = turn_more }

  -- the first spare that is not spent stands among those listed
  pub head_listed : {ds : List ℕ} {ps : List GuestPlace} {ss : List SparePlace} {qs : List LinePlace} {c : Clock} {count : ℕ} {more : Bool} → Walking s k from ds ps ss qs c count more
      → (c.head ≤ s.listed) × (s.listed ≤ spare_places)
  head_listed w = (w.shows.head, (points s h).few)

  -- what the loop's bounds need of it
  pub bounds : {ds : List ℕ} {ps : List GuestPlace} {ss : List SparePlace} {qs : List LinePlace} {c : Clock} {count : ℕ} {more : Bool} → Walking s k from ds ps ss qs c count more
      → (s.table.count ≤ guest_places) × (c.last < s.table.count) × (count ≤ line_places) × Walking s k from ds ps ss qs c count more
  bounds w = ((table_good s h).count_high, w.last, w.few, w)

  -- ---- behind the last portion

  module _ {ds : List ℕ} {ps : List GuestPlace} {ss : List SparePlace} {qs : List LinePlace} {c : Clock} {count : ℕ} (w : Walking s k from ds ps ss qs c count false) where
    may : MayAdvance s k
    unfolding model
    may = record { whole = h; time = time }

    -- nothing is left, or no place
    over : 0 < c.left → line_places ≤ count
    over l = ltb-false count line_places (and_second (lt-ltb 0 c.left l) (sym w.goes))

    rest : line_places ≡ count + (line_places - count)
    rest = omega (arith, w.few)

    last_ticks : ticks_in line_places k (model s) ≡ ticks_in count k (model s)
    last_ticks =
        by_ltb (λ _. ticks_in line_places k (model s) ≡ ticks_in count k (model s)) 0 c.left
        (λ l. let full : line_places ≡ count = omega (arith, over l, w.few) in ap (λ (n : ℕ). ticks_in n k (model s)) full)
        (λ l. let all : ticks_in count k (model s) ≡ k = omega (arith, w.left, ticks_in_le count k (model s)) in ap (λ (n : ℕ). ticks_in n k (model s)) rest ∙ ticks_enough count (line_places - count) k (model s) all)

    last_lines : lines line_places k (model s) ≡ lines count k (model s)
    last_lines =
        by_ltb (λ _. lines line_places k (model s) ≡ lines count k (model s)) 0 c.left
        (λ l. let full : line_places ≡ count = omega (arith, over l, w.few) in ap (λ (n : ℕ). lines n k (model s)) full)
        (λ l. let all : ticks_in count k (model s) ≡ k = omega (arith, w.left, ticks_in_le count k (model s)) in ap (λ (n : ℕ). lines n k (model s)) rest ∙ lines_enough count (line_places - count) k (model s) all)

    -- the state in the walk's variables
    last_state : state_of s ps ss c ≡ packed w.x
    last_state =
        let v = w.shows in
        let x = w.x in
        let count = sym (ap length (sym v.spares) ∙ length-map (slice c.head s.listed ss) spare_of ∙ length-slice c.head s.listed ss (omega (arith, w.long, (points s h).few))) in
        let spares = ap (padded spare_places no_spare_place) (sym (spare_places_lem (slice c.head s.listed ss)) ∙ ap (λ (l : List Spare). map spare_place l) v.spares) in
        let fields : ◌≡◌ {A = State} (state_of s ps ss c) (record { table = s.table; now = x.now; guests = placed x.guests; listed = length x.spares; spares = listed x.spares; burned = x.burned; empty = x.empty }) =
        λ j. record { table = s.table; now = v.now j; guests = v.guests j; listed = count j; spares = spares j; burned = v.burned j; empty = v.empty j } in
        fields ∙ sym (packed_fields s h x v.frame v.entries)

    pub walking_end : {r : Walk} → r ≡ walk_of s ps ss qs c count → Walked s k (Ok r)
    walking_end e =
        let there : w.x ≡ advance (ticks_in line_places k (model s)) (model s) = w.exact (λ l. omega (arith, over l)) ∙ ap (λ (n : ℕ). advance n (model s)) (sym last_ticks) in
        subst (λ (r : Walk). Walked s k (Ok r)) (sym e)
        (record {
          answer = sym (advance_allowed s k may);
          state = last_state ∙ ap packed there ∙ sym (walk_state_lem s k may);
          left = w.left ∙ ap (λ (n : ℕ). k - n) (sym last_ticks) ∙ sym (walk_left_lem s k may);
          shown = sym w.counted ∙ ap length (sym last_lines ∙ sym (walk_lines_lem s k may));
          lines = w.noted ∙ ap (λ (l : List Line). padded line_places no_line (map line_place l)) (sym last_lines ∙ sym (walk_lines_lem s k may));
        })
